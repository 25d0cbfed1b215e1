-- An event is read from its line, and from no other.
use Rattle.std.proofs.Common.{◌≡◌, inl, inr, ℕ, ◌<◌, ◌^◌, arith, Bool, true, nat_lt, List, [], ◌∷◌, Option, Some, None, refl, sym, ap, subst, ◌∙◌}
use Rattle.std.specs.Prelude.{codes, decimal, bytes_eq, if◌then◌else◌, IfSome, MatchOption}
use Rattle.std.proofs.lemmas.Option.{same_Some, none-some}
use Rattle.map_core.specs.declared.op.Op.{Op}
use Rattle.step_core.specs.declared.event.Event.{Event}
use Rattle.step_core.specs.declared.event.Event.TheVariants.{Begin, Step, Quit, End}
use Rattle.step_core.specs.declared.event.Why.{Why}
use Rattle.step_core.specs.declared.event.Why.TheVariants.{Held, Memory}
use Rattle.wire.specs.declared.request.RequestForm.{RequestForm}
use Rattle.wire.specs.RequestForm.{Request, request, HasLine, IsWord, Spells, ◌then◌}
use Rattle.wire.specs.PayloadReading.{◌>>=◌}
use Rattle.wire.specs.Private.RequestReading.{split_word, number_of, read_line}
use Rattle.wire.proofs.Words.{split_found, split_then, split_alone}
use Rattle.wire.proofs.Numbers.{number_found, number_of-decimal}
use Rattle.wire.proofs.Cases.{bind_some, bind_cases, if_some, same_bytes}
use Rattle.wire.proofs.Fields.{decimal_is_word}
use Rattle.wire.proofs.RequestLines.{line_found, line_read}
use Rattle.trace_lines.specs.EventLine.{IsCaller, IsEventOf, WhyFits, why_words}
use Rattle.trace_lines.specs.Events.{AreEvents}
use Rattle.trace_lines.specs.Private.EventReading.{number_below, operation_of, caller_of, held_of, why_by_split, why_of, begin_of, step_of, end_of, quit_of, event_by_verb, event_of}
use Rattle.trace_lines.proofs.Operations.{operation_found, operation_read}

-- ---- callers and reasons

pub below_found : (limit : ℕ) (word : List ℕ) (n : ℕ) → number_below limit word ≡ Some n → (n < limit) × (word ≡ decimal n)
unfolding number_below
below_found limit word n is =
    let b = bind_some (number_of word) (λ m. if nat_lt m limit then Some m else None) n is in
    elim (if_some (nat_lt b.0 limit) (Some b.0) None n b.2) [
      | inl h ↦ let low : b.0 < limit = grind (arith, h.0) in subst (λ (m : ℕ). (m < limit) × (word ≡ decimal m)) (same_Some b.0 n h.1) (low, (number_found word b.0 b.1).1)
      | inr h ↦ absurd (none-some n h.1)
    ]

pub below_read : (limit n : ℕ) → n < limit → n < 2 ^ 64 → number_below limit (decimal n) ≡ Some n
unfolding number_below
below_read limit n low fits =
    let lower : nat_lt n limit ≡ true = grind (arith, low) in
    ap (λ o. o >>= λ m. if nat_lt m limit then Some m else None) (number_of-decimal n fits) ∙ ap (λ (b : Bool). if b then Some n else None) lower

caller_found : (word : List ℕ) (n : ℕ) → caller_of word ≡ Some n → IsCaller n × (word ≡ decimal n)
unfolding caller_of
caller_found word n is = below_found (2 ^ 32) word n is

caller_read : (n : ℕ) → IsCaller n → caller_of (decimal n) ≡ Some n
unfolding caller_of
caller_read n low = below_read (2 ^ 32) n low (omega arith)

caller_is_word : (n : ℕ) → IsCaller n → IsWord (decimal n)
caller_is_word n low = decimal_is_word n (omega arith)

held_found : (bytes : List ℕ) (w : Why) → held_of bytes ≡ Some w → (codes "held" then bytes ≡ why_words w) × WhyFits w
unfolding held_of
held_found bytes w is =
    bind_cases (split_word bytes) _ w is (λ parts split more.
    bind_cases (number_below 256 parts.0) _ w more (λ shard low more.
    bind_cases (number_of parts.1) _ w more (λ revision fits last.
    let s = split_found bytes parts split in
    let n = below_found 256 parts.0 shard low in
    let m = number_found parts.1 revision fits in
    subst (λ (x : Why). (codes "held" then bytes ≡ why_words x) × WhyFits x) (same_Some (Held shard revision) w last) ((λ i. codes "held" then s.0 i) ∙ (λ i. codes "held" then n.1 i then m.1 i), (n.0, m.0)))))

why_found : (bytes : List ℕ) (w : Why) → why_of bytes ≡ Some w → (bytes ≡ why_words w) × WhyFits w
unfolding why_of
why_found bytes w is = by (split_word bytes) refl is
  where
    by : (o : Option (List ℕ × List ℕ)) → split_word bytes ≡ o → why_by_split bytes o ≡ Some w → (bytes ≡ why_words w) × WhyFits w
    by None e h = elim (if_some (bytes_eq bytes (codes "memory")) (Some Memory) None w h) [
      | inl k ↦ subst (λ (x : Why). (bytes ≡ why_words x) × WhyFits x) (same_Some Memory w k.1) (same_bytes bytes (codes "memory") k.0, tt)
      | inr k ↦ absurd (none-some w k.1)
    ]
    by (Some parts) e h = elim (if_some (bytes_eq parts.0 (codes "held")) (held_of parts.1) None w h) [
      | inl k ↦ let found = held_found parts.1 w k.1 in
          ((split_found bytes parts e).0 ∙ ap (λ v. v then parts.1) (same_bytes parts.0 (codes "held") k.0) ∙ found.0, found.1)
      | inr k ↦ absurd (none-some w k.1)
    ]

why_read : (w : Why) → WhyFits w → why_of (why_words w) ≡ Some w
unfolding why_of held_of
why_read Memory fits = ap (why_by_split (codes "memory")) (split_alone (codes "memory") refl)
why_read (Held shard revision) fits =
    let small : shard < 2 ^ 64 = omega (arith, fits.0) in
    ap (why_by_split (why_words (Held shard revision))) (split_then (codes "held") (decimal shard then decimal revision) refl)
    ∙ ap (λ o. o >>= λ parts. number_below 256 parts.0 >>= λ s. number_of parts.1 >>= λ r. Some (Held s r)) (split_then (decimal shard) (decimal revision) (decimal_is_word shard small))
    ∙ ap (λ o. o >>= λ s. number_of (decimal revision) >>= λ r. Some (Held s r)) (below_read 256 shard fits.0 small)
    ∙ ap (λ o. o >>= λ r. Some (Held shard r)) (number_of-decimal revision fits.1)

-- ---- what was read is the line of it

begin_found : (rest : List ℕ) (e : Event) → begin_of rest ≡ Some e → IsEventOf (codes "begin" then rest) e
unfolding begin_of
begin_found rest e is =
    bind_cases (split_word rest) _ e is (λ parts split more.
    bind_cases (caller_of parts.0) _ e more (λ caller low more.
    bind_cases (read_line parts.1) _ e more (λ asking told more.
    bind_cases (operation_of asking) _ e more (λ asked asks last.
    let s = split_found rest parts split in
    let c = caller_found parts.0 caller low in
    let l = line_found parts.1 asking told in
    subst (λ (x : Event). IsEventOf (codes "begin" then rest) x) (same_Some (Begin caller asked) e last)
    (c.0, (asking, parts.1, l.1, operation_found asking asked asks, l.0, (λ i. codes "begin" then s.0 i) ∙ (λ i. codes "begin" then c.1 i then parts.1)))))))

step_found : (rest : List ℕ) (e : Event) → step_of rest ≡ Some e → IsEventOf (codes "step" then rest) e
unfolding step_of
step_found rest e is =
    let b = bind_some (caller_of rest) (λ caller. Some (Step caller)) e is in
    let c = caller_found rest b.0 b.1 in
    subst (λ (x : Event). IsEventOf (codes "step" then rest) x) (same_Some (Step b.0) e b.2) (c.0, λ i. codes "step" then c.1 i)

end_found : (rest : List ℕ) (e : Event) → end_of rest ≡ Some e → IsEventOf (codes "end" then rest) e
unfolding end_of
end_found rest e is =
    let b = bind_some (caller_of rest) (λ caller. Some (End caller)) e is in
    let c = caller_found rest b.0 b.1 in
    subst (λ (x : Event). IsEventOf (codes "end" then rest) x) (same_Some (End b.0) e b.2) (c.0, λ i. codes "end" then c.1 i)

quit_found : (rest : List ℕ) (e : Event) → quit_of rest ≡ Some e → IsEventOf (codes "quit" then rest) e
unfolding quit_of
quit_found rest e is =
    bind_cases (split_word rest) _ e is (λ parts split more.
    bind_cases (caller_of parts.0) _ e more (λ caller low more.
    bind_cases (why_of parts.1) _ e more (λ why told last.
    let s = split_found rest parts split in
    let c = caller_found parts.0 caller low in
    let w = why_found parts.1 why told in
    subst (λ (x : Event). IsEventOf (codes "quit" then rest) x) (same_Some (Quit caller why) e last)
    (c.0, w.1, (λ i. codes "quit" then s.0 i) ∙ (λ i. codes "quit" then c.1 i then w.0 i)))))

by_verb_found : (verb rest : List ℕ) (e : Event) → event_by_verb verb rest ≡ Some e → IsEventOf (verb then rest) e
unfolding event_by_verb
by_verb_found verb rest e is =
    let at : (word : List ℕ) → bytes_eq verb word ≡ true → IsEventOf (word then rest) e → IsEventOf (verb then rest) e =
    λ word same told. subst (λ (v : List ℕ). IsEventOf (v then rest) e) (sym (same_bytes verb word same)) told in
    elim (if_some (bytes_eq verb (codes "begin")) (begin_of rest) _ e is) [
      | inl h ↦ at (codes "begin") h.0 (begin_found rest e h.1)
      | inr h ↦ elim (if_some (bytes_eq verb (codes "step")) (step_of rest) _ e h.1) [
        | inl k ↦ at (codes "step") k.0 (step_found rest e k.1)
        | inr k ↦ elim (if_some (bytes_eq verb (codes "end")) (end_of rest) _ e k.1) [
          | inl l ↦ at (codes "end") l.0 (end_found rest e l.1)
          | inr l ↦ elim (if_some (bytes_eq verb (codes "quit")) (quit_of rest) None e l.1) [
            | inl m ↦ at (codes "quit") m.0 (quit_found rest e m.1)
            | inr m ↦ absurd (none-some e m.1)
          ]
        ]
      ]
    ]

pub event_found : (line : List ℕ) (e : Event) → event_of line ≡ Some e → IsEventOf line e
unfolding event_of
event_found line e is =
    bind_cases (split_word line) _ e is (λ parts split more.
    subst (λ (l : List ℕ). IsEventOf l e) (sym (split_found line parts split).0) (by_verb_found parts.0 parts.1 e more))

-- ---- and back

-- the event of a verb that is split off
verb_read : (verb rest : List ℕ) (e : Event) → IsWord verb → event_by_verb verb rest ≡ Some e → event_of (verb then rest) ≡ Some e
unfolding event_of
verb_read verb rest e word is = ap (λ o. o >>= λ parts. event_by_verb parts.0 parts.1) (split_then verb rest word) ∙ is

begin_read : (caller : ℕ) (asking : Request) (words : List ℕ) (asked : Op) → IsCaller caller → HasLine asking → Spells asking words → operation_of asking ≡ Some asked → begin_of (decimal caller then words) ≡ Some (Begin caller asked)
unfolding begin_of
begin_read caller asking words asked low has spells asks =
    ap (λ o. o >>= λ parts. caller_of parts.0 >>= λ c. read_line parts.1 >>= λ r. operation_of r >>= λ a. Some (Begin c a)) (split_then (decimal caller) words (caller_is_word caller low))
    ∙ ap (λ o. o >>= λ c. read_line words >>= λ r. operation_of r >>= λ a. Some (Begin c a)) (caller_read caller low)
    ∙ ap (λ o. o >>= λ r. operation_of r >>= λ a. Some (Begin caller a)) (line_read asking words spells has)
    ∙ ap (λ o. o >>= λ a. Some (Begin caller a)) asks

quit_read : (caller : ℕ) (why : Why) → IsCaller caller → WhyFits why → quit_of (decimal caller then why_words why) ≡ Some (Quit caller why)
unfolding quit_of
quit_read caller why low fits =
    ap (λ o. o >>= λ parts. caller_of parts.0 >>= λ c. why_of parts.1 >>= λ w. Some (Quit c w)) (split_then (decimal caller) (why_words why) (caller_is_word caller low))
    ∙ ap (λ o. o >>= λ c. why_of (why_words why) >>= λ w. Some (Quit c w)) (caller_read caller low)
    ∙ ap (λ o. o >>= λ w. Some (Quit caller w)) (why_read why fits)

pub event_read : (line : List ℕ) (e : Event) → IsEventOf line e → event_of line ≡ Some e
unfolding event_by_verb step_of end_of
event_read line (Begin caller asked) told =
    let begun = told.1 in
    ap event_of begun.5
    ∙ verb_read (codes "begin") (decimal caller then begun.1) (Begin caller asked) refl (begin_read caller begun.0 begun.1 asked told.0 begun.2 begun.4 (operation_read begun.0 asked begun.3))
event_read line (Step caller) told =
    ap event_of told.1 ∙ verb_read (codes "step") (decimal caller) (Step caller) refl (ap (λ o. o >>= λ c. Some (Step c)) (caller_read caller told.0))
event_read line (End caller) told =
    ap event_of told.1 ∙ verb_read (codes "end") (decimal caller) (End caller) refl (ap (λ o. o >>= λ c. Some (End c)) (caller_read caller told.0))
event_read line (Quit caller why) told =
    ap event_of told.2 ∙ verb_read (codes "quit") (decimal caller then why_words why) (Quit caller why) refl (quit_read caller why told.0 told.1)

-- ---- one reading

pub one_reading : (line : List ℕ) (a b : Event) → IsEventOf line a → IsEventOf line b → a ≡ b
one_reading line a b x y = same_Some a b (sym (event_read line a x) ∙ event_read line b y)

pub each_one_reading : (lines : List (List ℕ)) (xs ys : List Event) → AreEvents lines xs → AreEvents lines ys → xs ≡ ys
each_one_reading [] [] [] a b = refl
each_one_reading [] [] (y ∷ ys) a b = absurd b
each_one_reading [] (x ∷ xs) ys a b = absurd a
each_one_reading (line ∷ lines) [] ys a b = absurd a
each_one_reading (line ∷ lines) (x ∷ xs) [] a b = absurd b
each_one_reading (line ∷ lines) (x ∷ xs) (y ∷ ys) a b = let one = one_reading line x y a.0 b.0 in let rest = each_one_reading lines xs ys a.1 b.1 in λ i. one i ∷ rest i

-- ---- what a reader of requests tells

pub request_told : (line : List ℕ) (o : Option RequestForm) → IfSome o (λ form. Spells (request form) line × HasLine (request form))
    → ((wanted : Request) → HasLine wanted → Spells wanted line → MatchOption o ⊥ (λ form. request form ≡ wanted)) → MatchOption o (read_line line ≡ None) (λ form. read_line line ≡ Some (request form))
request_told line (Some form) found only = line_read (request form) line found.0 found.1
request_told line None found only = by (read_line line) refl
  where
    by : (o : Option Request) → read_line line ≡ o → read_line line ≡ None
    by None e = e
    by (Some r) e = let l = line_found line r e in absurd (only r l.1 l.0)
