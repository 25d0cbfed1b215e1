use Rattle.std.proofs.Common.{◌≡◌, [], Err, refl, rules, sym, ap, subst, ◌∙◌, append-nil}
use Rattle.wire.specs.Counted.{next_count}
use Rattle.wire.specs.Encoding.{EncoderState, Gives, Finishes, IsBadLine, NamesUnreadable}
use Rattle.wire.specs.Private.Encoders.{stopped}
use Rattle.wire.specs.declared.line_frame.LineError.{LineError}
use Rattle.wire.specs.declared.line_frame.LineError.TheVariants.{Bad, Unreadable, Memory}
use Rattle.wire.proofs.encoder.Encoder.finish.Goals as goal

-- why the last line became nothing
finishes : (gives : Gives) (state : EncoderState) (error : LineError) → (error ≡ Bad → IsBadLine gives state.kept) → (error ≡ Unreadable → NamesUnreadable gives state.kept)
    → Finishes gives (Err (stopped (next_count state.lines) error)) state []
finishes gives state Bad bad unreadable = (refl, bad refl, refl)
finishes gives state Unreadable bad unreadable = (refl, unreadable refl, refl)
finishes gives state Memory bad unreadable = refl

pub returns : goal.returns
returns g c =
    let gives = g.T.TextSource.gives c.args.texts.now in
    let same : c.put_line.new.out.items ≡ c.args.out.now.items = search rules in
    let kept = c.kept.ensures ∙ ap (λ (s : EncoderState). s.kept) c.self.view_is in
    let bad = λ (e : c.in-Err.error ≡ Bad). subst (IsBadLine gives) kept (c.put_line.ensures.bad (c.in-Err.is ∙ ap Err e)) in
    let unreadable = λ (e : c.in-Err.error ≡ Unreadable). subst (NamesUnreadable gives) kept (c.put_line.ensures.unreadable (c.in-Err.is ∙ ap Err e)) in
    ([], same ∙ sym (append-nil c.args.out.now.items), rw c.stopped.ensures (finishes gives c.args.self c.in-Err.error bad unreadable))
