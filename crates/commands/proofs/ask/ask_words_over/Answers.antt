use Rattle.std.proofs.Common.{◌≡◌, ◌==◌, ℕ, map, drop, refl, ap, sym, ◌∙◌, inr}
use Rattle.std.specs.List.{list_any}
use Rattle.wire.specs.declared.error.FrontError.TheVariants.{Memory}
use Rattle.commands.specs.Ask.{joined}
use Rattle.commands.specs.declared.fault.Fault.TheVariants.{Front, BadLine}
use Rattle.commands.proofs.ask.ask_words_over.Goals as goal

pub returns-in_default : goal.returns-in_default
returns-in_default g c = inr (Front Memory, tt, c.tell.ensures.status, refl, refl, c.tell.ensures.tells)

pub returns-then-has_line_feed : goal.returns-then-has_line_feed
returns-then-has_line_feed g c =
    let same : c.behind_first-line.result.now ≡ joined (map (λ word. word.now) c.args.words.now) = c.behind_first-line.ensures ∙ ap (drop 1) (c.as_slice.ensures.value ∙ c.in-Ok.ensures) in
    let found = sym c.has_line_feed.ensures ∙ c.if-has_line_feed.true in
    inr (BadLine 1, (refl, λ one_line. absurd (cc (sym found ∙ ap (list_any (λ (byte : ℕ). byte == 10)) same ∙ one_line))), c.tell-then-has_line_feed.ensures.status, refl, refl, c.tell-then-has_line_feed.ensures.tells)
