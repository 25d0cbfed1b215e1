use Rattle.std.proofs.Common.{◌≡◌, ◌++◌, ◌∷◌, [], List, ℕ, ap, ◌∙◌, append_assoc}
use Rattle.std.specs.Prelude.{codes}
use Rattle.server.specs.Address.{address_text}
use Rattle.server.proofs.lines.addresses_line.Goals as goal

-- three parts of a line, one after the other
both : (a b c d e line two three : List ℕ) → line ≡ a ++ b → two ≡ line ++ (c ++ d) → three ≡ two ++ e → three ≡ a ++ (b ++ (c ++ (d ++ e)))
both a b c d e line two three p q r =
    r ∙ (ap (λ (l : List ℕ). l ++ e) (q ∙ ap (λ (l : List ℕ). l ++ (c ++ d)) p)
    ∙ (append_assoc (a ++ b) (c ++ d) e ∙ (append_assoc a b ((c ++ d) ++ e) ∙ ap (λ (l : List ℕ). a ++ (b ++ l)) (append_assoc c d e))))

pub returns : goal.returns
returns c =
    let one = codes "listening " in
    let other = codes " read-only " in
    let first : c.push_both.new.line.items ≡ one ++ address_text c.args.all.now =
    c.push_both.ensures.pushed ∙ ap (λ (l : List ℕ). l ++ (one ++ address_text c.args.all.now)) c.new-line.ensures in
    both one (address_text c.args.all.now) other (address_text c.args.reads.now) (10 ∷ []) c.push_both.new.line.items c.push_both-2.new.line.items c.end_line.new.line.items first c.push_both-2.ensures.pushed c.end_line.ensures
