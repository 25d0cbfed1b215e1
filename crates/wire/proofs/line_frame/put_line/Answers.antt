use Rattle.std.proofs.Common.{◌≡◌, ℕ, List, false, refl, sym, ap, subst, ◌∙◌, inr}
use Rattle.wire.specs.Encoding.{Gives, IsBadLine, is_comment}
use Rattle.wire.specs.RequestForm.{Request, Set, SetIf, Append, Remove, Get, Fetch, FetchUnless, Stats, Speak, HasLine, IsFramed, Spells, is_text_name, request, text_of, with_text}
use Rattle.wire.proofs.line_frame.put_line.Goals as goal

with_its_own : (request : Request) → with_text request (text_of request) ≡ request
with_its_own (Set name text) = refl
with_its_own (SetIf name expect text) = refl
with_its_own (Append name text) = refl
with_its_own (Remove name) = refl
with_its_own (Get name) = refl
with_its_own Fetch = refl
with_its_own (FetchUnless known) = refl
with_its_own Stats = refl
with_its_own (Speak version) = refl

-- no frame carries the request of the line, whose text stands for itself
bad : (gives : Gives) (line : List ℕ) (form : Request) → is_comment line ≡ false → ((wanted : Request) → HasLine wanted → Spells wanted line → form ≡ wanted)
    → is_text_name (text_of form) ≡ false → (IsFramed form → ⊥) → IsBadLine gives line
bad gives line form asks only direct long = (
  asks,
  λ wanted has is.
      let same = only wanted has is in
      (text_of wanted, inr (subst (λ (r : Request). is_text_name (text_of r) ≡ false) same direct, refl), λ framed. long (subst IsFramed (with_its_own wanted ∙ sym same) framed)),
)

pub returns-in_default-text_name-clause-bad : goal.returns-in_default-text_name-clause-bad
returns-in_default-text_name-clause-bad g c is =
    bad (g.T.TextSource.gives c.args.texts.now) c.args.line.now (request c.in-Some.form) (sym c.if-is_comment.ensures) c.in-Some.ensures.only
    (ap is_text_name (sym c.text.ensures) ∙ c.in_default-text_name.ensures) (c.put_frame.ensures.bad is)
