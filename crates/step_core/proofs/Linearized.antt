-- An order that is legal for the records is a linearization of their operations.
use Rattle.std.proofs.Common.{◌≡◌, ℕ, zero, suc, ◌+◌, ◌<◌, ◌==◌, ◌&&◌, nat_lt, nat_le, not, Bool, cond, List, [], ◌∷◌, ◌++◌, map, length, get_or, Option, None, Result, Ok, IfSome, IsPermutation, arith, refl, sym, ap, subst, ◌∙◌}
use Rattle.std.specs.Prelude.{filter}
use Rattle.std.specs.List.{range_with_len}
use Rattle.std.specs.FinMap as finite
use Rattle.std.proofs.lemmas.Bool.Decides.{nat_tests}
use Rattle.std.proofs.lemmas.List.Sorted.{IsPermutation-refl, IsPermutation-trans, IsPermutation-sym, IsPermutation-cons, IsPermutation-middle, IsPermutation-map}
use Rattle.map_core.specs.declared.op.Op.{Op}
use Rattle.map_core.specs.declared.reply.AskError.{AskError}
use Rattle.map_core.specs.declared.reply.Reply.{Reply}
use Rattle.map_core.specs.PlainMap.{PlainMap, ask}
use Rattle.step_core.specs.declared.event.Event.{Event}
use Rattle.step_core.specs.declared.trace.OpRecord.{OpRecord}
use Rattle.step_core.specs.Linearization.{Operation, HavePoints, GiveReplies}
use Rattle.step_core.specs.Records.{took_effect, reply_of, no_record, operation, operations, all_operations, apply, IsLinearized}
use Rattle.step_core.specs.Trace.{records_of}
use Rattle.step_core.specs.Run.{run_of, order_of}
use Rattle.step_core.specs.Laws.{is_fetch_all, only, HasPlaces, AreAnswered, NamesAreAnswered, FetchesAreAnswered, HasOneOrder}
use Rattle.step_core.proofs.Legal.{times, Rises, Replies, IsLegal}
use Rattle.step_core.proofs.Points.{by_test, times-filter, times-head, split-times}
use Rattle.step_core.proofs.Traces.{one_order_of_records}

-- ---- lists that hold each number equally often

times_between : (q : ℕ) (before after : List ℕ) (x : ℕ) → times q (before ++ x ∷ after) ≡ cond (x == q) 1 0 + times q (before ++ after)
times_between q [] after x = refl
times_between q (y ∷ before) after x = omega (arith, times_between q before after x)

pub permuted : (xs ys : List ℕ) → ((q : ℕ) → times q xs ≡ times q ys) → IsPermutation xs ys
permuted [] [] h = IsPermutation-refl []
permuted [] (y ∷ ys) h = absurd (omega (arith, h y, times-head y ys))
permuted (x ∷ xs) ys h =
    let place = split-times x ys (omega (arith, h x, times-head x xs)) in
    let before = place.0 in
    let after = place.1 in
    let rest = permuted xs (before ++ after) (λ q. omega (arith, h q, ap (times q) place.2, times_between q before after x)) in
    subst (IsPermutation (x ∷ xs)) (sym place.2) (IsPermutation-trans _ _ _ (IsPermutation-cons x xs (before ++ after) rest) (IsPermutation-sym _ _ (IsPermutation-middle before x after)))

-- ---- the numbers of the operations that took effect

times_counted : (q a n : ℕ) → times q (range_with_len a n) ≡ cond (nat_le a q && nat_lt q (a + n)) 1 0
times_counted q a zero = grind (arith, nat_tests)
times_counted q a (suc n) = let ih = times_counted q (a + 1) n in grind (arith, nat_tests)

same_test : (q count t : ℕ) (s : Bool) → t ≡ cond (nat_lt q count && s) 1 0 → cond s (cond (nat_le 0 q && nat_lt q (0 + count)) 1 0) 0 ≡ t
same_test q count t s e = grind (arith, nat_tests)

-- ---- each part of a linearization

module _ (records : List OpRecord) where
  abbrev at : ℕ → OpRecord
  at q = get_or records q no_record

  abbrev numbered : ℕ → Operation Op Reply
  numbered q = operation q (at q)

  filtered_operations : (numbers : List ℕ) → filter (λ o. o.took_effect) (operations records numbers) ≡ operations records (filter (λ q. took_effect (at q)) numbers)
  filtered_operations [] = refl
  filtered_operations (q ∷ numbers) = let ih = filtered_operations numbers in grind (arith, ih)

  each_once : (events : ℕ) (order : List ℕ) → IsLegal events (length records) at order → IsPermutation (filter (λ o. o.took_effect) (all_operations records)) (operations records order)
  each_once events order legal =
      let count = length records in
      let chosen = filter (λ q. took_effect (at q)) (range_with_len 0 count) in
      let same = permuted chosen order (λ q.
      times-filter (λ q. took_effect (at q)) q (range_with_len 0 count)
      ∙ (ap (λ n. cond (took_effect (at q)) n 0) (times_counted q 0 count) ∙ same_test q count (times q order) (took_effect (at q)) (legal.members q))
      ) in
      subst (λ (os : List (Operation Op Reply)). IsPermutation os (operations records order)) (sym (filtered_operations (range_with_len 0 count))) (IsPermutation-map numbered chosen order same)

  have_points : (events from : ℕ) (order : List ℕ) → Rises events at from order → HavePoints events from (operations records order)
  have_points events from [] h = tt
  have_points events from (q ∷ order) h = (h.0, h.1, h.2, have_points events (h.0 + 1) order h.3)

  told : (o : Option (Result Reply AskError)) (asked : Reply) → IfSome o (λ reply. reply ≡ Ok asked) → IfSome (reply_of o) (λ reply. reply ≡ asked)
  told o asked h = grind arith

  give_replies : (m : PlainMap) (order : List ℕ) → Replies at m order → GiveReplies apply m (operations records order)
  give_replies m [] h = tt
  give_replies m (q ∷ order) h = let asked = ask m (at q).op in (told (at q).reply asked.reply h.0, give_replies asked.map order h.1)

  give_only : (kind : Op → Bool) (m : PlainMap) (order : List ℕ) → Replies at m order → GiveReplies apply m (map (only kind) (operations records order))
  give_only kind m [] h = tt
  give_only kind m (q ∷ order) h =
      let asked = ask m (at q).op in
      (by_test (λ b. IfSome (cond b (reply_of (at q).reply) None) (λ reply. reply ≡ asked.reply)) (kind (at q).op) (λ _. told (at q).reply asked.reply h.0) (λ _. tt), give_only kind asked.map order h.1)

  pub linearized : (events : ℕ) (order : List ℕ) → IsLegal events (length records) at order → IsLinearized events records order
  linearized events order legal = record {
    each_once = each_once events order legal;
    points = have_points events 0 order legal.rises;
    replies = give_replies finite.empty order legal.replies;
  }

-- ---- the laws

pub has_one_order : HasOneOrder
has_one_order n rounds events some =
    let run = run_of n rounds events in
    linearized (records_of run) (length events) (order_of run) (one_order_of_records n rounds events some)

pub has_places : HasPlaces
has_places n rounds events some = let all = has_one_order n rounds events some in (all.each_once, all.points)

are_answered : (kind : Op → Bool) → AreAnswered kind
are_answered kind n rounds events some =
    let run = run_of n rounds events in
    give_only (records_of run) kind finite.empty (order_of run) (one_order_of_records n rounds events some).replies

pub names_are_answered : NamesAreAnswered
names_are_answered = are_answered (λ op. not (is_fetch_all op))

pub fetches_are_answered : FetchesAreAnswered
fetches_are_answered = are_answered is_fetch_all

-- what is handed out is linearized
pub trace_linearized : (n rounds : ℕ) (events : List Event) (ops : List OpRecord) (order : List ℕ) → 0 < n → ops ≡ records_of (run_of n rounds events) → order ≡ order_of (run_of n rounds events)
    → IsLinearized (length events) ops order
trace_linearized n rounds events ops order some ops_are order_is =
    subst (λ (x : List OpRecord). IsLinearized (length events) x order) (sym ops_are)
    (subst (λ (x : List ℕ). IsLinearized (length events) (records_of (run_of n rounds events)) x) (sym order_is) (has_one_order n rounds events some))
