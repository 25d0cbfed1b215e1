-- What a refresh does to a map, by what was fetched.
use Rattle.std.proofs.Common.{◌≡◌, ◌≢◌, ◌⊎◌, ℕ, ◌<◌, ◌≤◌, nat_lt, Bool, true, false, cond, List, Option, Some, None, Result, Ok, Err, alloc_error, arith, refl, sym, ap, subst, ◌∙◌, inl, inr}
use Rattle.std.proofs.lemmas.Bool.Decides.{nat_tests}
use Rattle.std.specs.declared.alloc.AllocError.{AllocError}
use Rattle.std.specs.FinMap as finite
use Rattle.spiffe_doc.specs.declared.error.DocError.{DocError}
use Rattle.spiffe_doc.specs.Authority.{BundleValue}
use Rattle.spiffe_doc.specs.Document.{document}
use Rattle.spiffe_doc.specs.Equal.{bundle_eq}
use Rattle.spiffe_doc.specs.Private.Equality.{bundle_decides}
use Rattle.map_core.specs.declared.op.Op.{Op}
use Rattle.map_core.specs.declared.op.Op.TheVariants.{Set}
use Rattle.map_core.specs.declared.held.Holding.{Holding}
use Rattle.map_core.specs.declared.held.Holding.TheVariants.{Mark, Published}
use Rattle.map_core.specs.declared.reply.Reply.{Reply}
use Rattle.map_core.specs.declared.reply.Reply.TheVariants.{Stored, Unchanged, Refused}
use Rattle.map_core.specs.declared.reply.MapRefusal.TheVariants.{Stale}
use Rattle.map_core.specs.declared.reply.AskError.{AskError}
use Rattle.map_core.specs.declared.reply.AskError.TheVariants.{Memory}
use Rattle.map_core.specs.Ask.{AnswersPlainly, ContentsAnswer, PlainAnswer}
use Rattle.map_core.specs.Name.{Name}
use Rattle.map_core.specs.Reply.{is_change}
use Rattle.map_core.specs.Table.{Effect as Row, keep, store, store_after, is_lower, set, meaning}
use Rattle.map_core.specs.PlainMap.{PlainMap, ask}
use Rattle.map_core.proofs.MapLaws.{ask_keeps, depends_on_name}
use Rattle.refresh.specs.declared.outcome.Outcome.{Outcome}
use Rattle.refresh.specs.declared.outcome.What.TheVariants.{Taken}
use Rattle.refresh.specs.Relationship.{RelationshipValue}
use Rattle.refresh.specs.Due.{due_after}
use Rattle.refresh.specs.Refresh.{Follows, IsStored, Judges, KeepsUnlessStored, Sets, comes_to, outcome_of}
use Rattle.refresh.specs.Laws.{LeavesMap, EqualIsUnchanged, OlderIsRefused, OnlyStoredChanges, OthersStay, DueIsLater}

-- ---- due times

pub due_is_later : DueIsLater
due_is_later now None = (λ h. omega arith, λ h. omega arith)
due_is_later now (Some hint) = (λ h. omega arith, λ h. omega arith)

-- ---- other names

answer_leaves : (r : RelationshipValue) (b : BundleValue) (m n : PlainMap) (answer : Result Reply AskError) (name : Name)
    → name ≢ r.domain → ContentsAnswer m (Set r.domain b) answer n → finite.get n name ≡ finite.get m name
answer_leaves r b m n (Ok reply) name other h =
    ap (λ (x : PlainMap). finite.get x name) h.1 ∙ (depends_on_name m m (Set r.domain b) r.domain refl refl).2 name other
answer_leaves r b m n (Err e) name other h = ap (λ (x : PlainMap). finite.get x name) h.1

judged_leaves : (r : RelationshipValue) (now : ℕ) (judged : Result BundleValue DocError) (m : PlainMap) (result : Result Outcome AllocError) (n : PlainMap) (name : Name)
    → name ≢ r.domain → Judges ContentsAnswer r now judged m result n → finite.get n name ≡ finite.get m name
judged_leaves r now (Ok b) m result n name other (inl h) = answer_leaves r b m n h.0 name other h.1
judged_leaves r now (Ok b) m result n name other (inr h) = ap (λ (x : PlainMap). finite.get x name) h.1
judged_leaves r now (Err why) m result n name other h = ap (λ (x : PlainMap). finite.get x name) h.1

pub others_stay : OthersStay
others_stay r now None m result n h name other = ap (λ (x : PlainMap). finite.get x name) h.1
others_stay r now (Some bytes) m result n h name other = judged_leaves r now (document bytes) m result n name other h

-- ---- documents that change nothing

-- a Set is answered by the row of its name
set_reply : (m : PlainMap) (d : Name) (b : BundleValue) (held : Option Holding) → finite.get m d ≡ held → (ask m (Set d b)).reply ≡ (set b held).reply
unfolding ask meaning
set_reply m d b held is = ap (λ (h : Option Holding). (set b h).reply) is

told_reply : (now : ℕ) (hint : Option ℕ) (m : PlainMap) (d : Name) (b : BundleValue) (reply : Reply) (answer : Result Reply AskError) (n : PlainMap) (result : Result Outcome AllocError)
    → (ask m (Set d b)).reply ≡ reply → is_change reply ≡ false → ContentsAnswer m (Set d b) answer n → result ≡ outcome_of now hint answer → LeavesMap now hint reply m result n
told_reply now hint m d b reply (Ok given) n result is keeps h t =
    (inl (t ∙ ap (λ (x : Reply). comes_to now hint (Taken x)) (h.0 ∙ is)), h.1 ∙ ask_keeps m (Set d b) (ap is_change is ∙ keeps))
told_reply now hint m d b reply (Err e) n result is keeps h t = (inr (t ∙ ap (λ (x : AskError). outcome_of now hint (Err x)) h.0), h.1)

set_leaves : (r : RelationshipValue) (now : ℕ) (b : BundleValue) (reply : Reply) (m : PlainMap) (result : Result Outcome AllocError) (n : PlainMap)
    → (ask m (Set r.domain b)).reply ≡ reply → is_change reply ≡ false → Sets ContentsAnswer r now b m result n → LeavesMap now b.refresh_hint reply m result n
set_leaves r now b reply m result n is keeps (inl h) = told_reply now b.refresh_hint m r.domain b reply h.0 n result is keeps h.1 h.2
set_leaves r now b reply m result n is keeps (inr h) = (inr h.0, h.1)

-- what follows from a document is what follows from its bundle
read_as : (r : RelationshipValue) (now : ℕ) (bytes : List ℕ) (b : BundleValue) (m : PlainMap) (result : Result Outcome AllocError) (n : PlainMap)
    → document bytes ≡ Ok b → Follows ContentsAnswer r now (Some bytes) m result n → Sets ContentsAnswer r now b m result n
read_as r now bytes b m result n is h = subst (λ (j : Result BundleValue DocError). Judges ContentsAnswer r now j m result n) is h

equal_row : (b : BundleValue) → (set b (Some (Published b))).reply ≡ Unchanged
equal_row b = ap (λ t. (let o : Row = cond t (keep Unchanged (Some (Published b))) (store_after b.sequence b (Some (Published b))) in o).reply) ((bundle_decides b b).1 refl)

pub equal_is_unchanged : EqualIsUnchanged
equal_is_unchanged r now bytes b m result n is held h =
    set_leaves r now b Unchanged m result n (set_reply m r.domain b (Some (Published b)) held ∙ equal_row b) refl (read_as r now bytes b m result n is h)

not_both : (t : Bool) → t ≡ true → t ≡ false → ⊥
not_both t is isnt = cc

-- bundles of other sequences are other bundles
apart : (b c : BundleValue) (s t : ℕ) → b.sequence ≡ Some s → c.sequence ≡ Some t → s < t → bundle_eq b c ≡ true → ⊥
apart b c s t bs cs l same =
    let one : Some s ≡ Some t = sym bs ∙ ap (λ (x : BundleValue). x.sequence) ((bundle_decides b c).0 same) ∙ cs in
    let equal : s ≡ t = (cc) in omega arith

lower_test : (s t : ℕ) → s < t → nat_lt s t ≡ true
lower_test s t l = grind (arith, nat_tests)

older_after : (b c : BundleValue) (s t : ℕ) → b.sequence ≡ Some s → c.sequence ≡ Some t → s < t
    → (store_after c.sequence b (Some (Published c))).reply ≡ Refused (Stale t)
older_after b c s t bs cs l =
    ap (λ (x : Option ℕ). (store_after x b (Some (Published c))).reply) cs
    ∙ ap (λ (x : Option ℕ). (let o : Row = cond (is_lower x t) (keep (Refused (Stale t)) (Some (Published c))) (store b) in o).reply) bs
    ∙ ap (λ x. (let o : Row = cond x (keep (Refused (Stale t)) (Some (Published c))) (store b) in o).reply) (lower_test s t l)

older_row : (b c : BundleValue) (s t : ℕ) → b.sequence ≡ Some s → c.sequence ≡ Some t → s < t → (set b (Some (Published c))).reply ≡ Refused (Stale t)
older_row b c s t bs cs l =
    elim (bundle_eq b c) as (λ x. bundle_eq b c ≡ x → (let o : Row = cond x (keep Unchanged (Some (Published c))) (store_after c.sequence b (Some (Published c))) in o).reply ≡ Refused (Stale t)) [
      | true ↦ λ same. absurd (apart b c s t bs cs l same)
      | false ↦ λ other. older_after b c s t bs cs l
    ] refl

pub older_is_refused : OlderIsRefused
older_is_refused r now bytes b c s t m result n is held bs cs l h =
    set_leaves r now b (Refused (Stale t)) m result n (set_reply m r.domain b (Some (Published c)) held ∙ older_row b c s t bs cs l) refl (read_as r now bytes b m result n is h)

-- ---- what changes the map

after_is : (before : Option ℕ) (b : BundleValue) (held : Option Holding)
    → ((store_after before b held).reply ≡ Stored) ⊎ (is_change (store_after before b held).reply ≡ false)
after_is None b held = inl refl
after_is (Some before) b held =
    elim (is_lower b.sequence before) as (λ t. ((let o : Row = cond t (keep (Refused (Stale before)) held) (store b) in o).reply ≡ Stored)
    ⊎ (is_change (let o : Row = cond t (keep (Refused (Stale before)) held) (store b) in o).reply ≡ false)) [ true ↦ inr refl | false ↦ inl refl ]

-- a Set is answered by Stored, or keeps the map
row_is : (b : BundleValue) (held : Option Holding) → ((set b held).reply ≡ Stored) ⊎ (is_change (set b held).reply ≡ false)
row_is b None = inl refl
row_is b (Some (Mark s)) = after_is (Some s) b (Some (Mark s))
row_is b (Some (Published c)) =
    elim (bundle_eq b c) as (λ t. ((let o : Row = cond t (keep Unchanged (Some (Published c))) (store_after c.sequence b (Some (Published c))) in o).reply ≡ Stored)
    ⊎ (is_change (let o : Row = cond t (keep Unchanged (Some (Published c))) (store_after c.sequence b (Some (Published c))) in o).reply ≡ false))
    [ true ↦ inr refl | false ↦ after_is c.sequence b (Some (Published c)) ]

module _ {A : Type 0} (answers : A → Op → Result Reply AskError → A → Type 0) (shows : A → Option PlainMap)
    (plainly : AnswersPlainly answers shows) where
  -- a Set is answered by Stored, or the map that is shown stays
  answer_keeps : (now : ℕ) (hint : Option ℕ) (d : Name) (b : BundleValue) (m : PlainMap) (answer : Result Reply AskError) (shown : Option PlainMap)
      → PlainAnswer m (Set d b) answer shown → IsStored (outcome_of now hint answer) ⊎ (shown ≡ Some m)
  answer_keeps now hint d b m (Err e) shown h = inr h
  answer_keeps now hint d b m (Ok given) shown h =
      let same : (ask m (Set d b)).reply ≡ (set b (finite.get m d)).reply = set_reply m d b (finite.get m d) refl in
      elim (row_is b (finite.get m d)) [
        | inl is ↦ inl (ap Taken (h.0 ∙ (same ∙ is)))
        | inr keeps ↦ inr (h.1 ∙ ap Some (ask_keeps m (Set d b) (ap is_change same ∙ keeps)))
      ]

  pub set_keeps : (r : RelationshipValue) (now : ℕ) (b : BundleValue) (before : A) (result : Result Outcome AllocError) (after : A)
      → Sets answers r now b before result after → KeepsUnlessStored shows before result after
  set_keeps r now b before result after (inr h) m shown = inr (ap shows h.1 ∙ shown)
  set_keeps r now b before result after (inl h) m shown =
      subst (λ (came : Result Outcome AllocError). IsStored came ⊎ (shows after ≡ Some m)) (sym h.2)
      (answer_keeps now b.refresh_hint r.domain b m h.0 (shows after) (plainly before (Set r.domain b) h.0 after m shown h.1))

  judged_keeps : (r : RelationshipValue) (now : ℕ) (judged : Result BundleValue DocError) (before : A) (result : Result Outcome AllocError) (after : A)
      → Judges answers r now judged before result after → KeepsUnlessStored shows before result after
  judged_keeps r now (Ok b) before result after h m shown = set_keeps r now b before result after h m shown
  judged_keeps r now (Err why) before result after h m shown = inr (ap shows h.1 ∙ shown)

  pub only_stored_changes : OnlyStoredChanges answers shows
  only_stored_changes r now None before result after h m shown = inr (ap shows h.1 ∙ shown)
  only_stored_changes r now (Some bytes) before result after h m shown = judged_keeps r now (document bytes) before result after h m shown
