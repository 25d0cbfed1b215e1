use Rattle.std.proofs.Common.{◌≡◌, ◌+◌, ◌++◌, arith, take, drop, length, rules, refl, ap, sym, ◌∙◌}
use Rattle.wire.specs.Frame.{frame}
use Rattle.wire.proofs.FrameLemmas.{frame_cut_off}
use Rattle.wire.proofs.frame.first_frame.Goals as goal

pub returns-clause-found : goal.returns-clause-found
returns-clause-found c =
    let bytes = c.args.bytes.now in
    let n = c.length_field-size.result in
    let payload = c.split_at-2.result.0.now in
    let cut : payload ≡ take n (drop 4 bytes) = c.split_at-2.ensures.front ∙ ap (take n) c.split_at.ensures.back in
    let size : length payload ≡ n = c.split_at-2.ensures.front_len in
    let stands = frame_cut_off bytes payload (drop (4 + n) bytes) n (λ i. search rules) c.length_field-size.ensures.value
    (omega arith) (omega arith) (omega (arith, c.split_at.ensures.back_len)) cut refl in
    (stands.0, stands.1 ∙ ap (λ k. frame payload ++ drop (4 + k) bytes) (sym size))
