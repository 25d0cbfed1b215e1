-- Lists of passes and of what workers gave back.
use Rattle.std.proofs.Common.{◌≡◌, ℕ, zero, suc, ◌+◌, ◌<◌, List, [], ◌∷◌, ◌++◌, Bool, length, get_or, map, All, subst, arith, sym, ap, ◌∙◌, refl}
use Rattle.std.specs.Prelude.{Bool, Result, Ok, Err, IfOk}
use Rattle.std.specs.List.{flat_map}
use Rattle.workers.specs.Closing.{ranges_of}
use Rattle.std.proofs.lemmas.List.{get_or-map, length-map, map_push}
use Rattle.std.proofs.lemmas.List.Elements.{All-cons}
use Rattle.workers.specs.Connection.{ConnectionView}
use Rattle.workers.specs.declared.arrivals.Arrival.{Arrival}
use Rattle.workers.specs.Followed.{HasServed, HasFollowed, AllServed, AllFollowed}
use Rattle.workers.specs.Private.Numbers.{AreNumbered}
use Rattle.shard_store.specs.Pass.{StoreView, PassView, IsOf}
use Rattle.workers.specs.declared.lasting.Task.{Task}
use Rattle.workers.specs.declared.ended.Worked.{Worked}
use Rattle.workers.specs.declared.limits.Patience.{Patience}

pub nil_if : {X : Type 0} (xs : List X) → length xs ≡ 0 → xs ≡ []
nil_if [] e = refl
nil_if (x ∷ xs) e = absurd (omega (arith, e))

-- one number more
pub numbered_more : (first : ℕ) (numbers : List ℕ) (n : ℕ) → AreNumbered first numbers → n ≡ first + length numbers → AreNumbered first (numbers ++ n ∷ [])
numbered_more first [] n h e = (omega (arith, e), tt)
numbered_more first (m ∷ ms) n h e = (h.0, numbered_more (suc first) ms n h.1 (omega (arith, e)))

-- one worker more
pub numbered_pushed : {S : Type 0} (workers : List (Task S)) (w : Task S) → AreNumbered 0 (map (λ (v : Task S). v.number) workers)
    → w.number ≡ length workers → AreNumbered 0 (map (λ (v : Task S). v.number) (workers ++ w ∷ []))
numbered_pushed {S} workers w h e =
    let number_of : Task S → ℕ = λ v. v.number in
    subst (AreNumbered 0) (sym (map_push number_of workers w)) (numbered_more 0 (map number_of workers) w.number h (omega (arith, e, length-map workers number_of)))

-- the number in each place
pub number_in_place : (first : ℕ) (numbers : List ℕ) (i d : ℕ) → AreNumbered first numbers → i < length numbers → get_or numbers i d ≡ first + i
number_in_place first [] i d h l = absurd (omega arith)
number_in_place first (m ∷ ms) zero d h l = omega (arith, h.0)
number_in_place first (m ∷ ms) (suc i) d h l = let rest = number_in_place (suc first) ms i d h.1 (omega arith) in omega (arith, rest)

-- the pass of each worker comes from the store
pub pass_in_place : {S : Type 0} (store : StoreView) (workers : List (Task S)) (passes : List PassView) → map (λ (w : Task S). w.pass) workers ≡ passes
    → All (λ pass. IsOf pass store) passes → (i : ℕ) (x : Task S) → i < length workers → x ≡ get_or workers i x → IsOf x.pass store
pass_in_place {S} store workers passes same own i x l is =
    let pass_of : Task S → PassView = λ w. w.pass in
    let long : length passes ≡ length workers = ap length (sym same) ∙ length-map workers pass_of in
    let at : get_or passes i x.pass ≡ x.pass = ap (λ (ps : List PassView). get_or ps i x.pass) (sym same) ∙ (get_or-map pass_of workers i x x.pass l ∙ ap pass_of (sym is)) in
    subst (λ (p : PassView). IsOf p store) at (own i x.pass (omega arith))

module _ (opens : ℕ → ℕ → Bool → Type 0) (patience : Patience) (turns : ℕ) (store : StoreView) where
  -- what holds at each place holds of the two lists
  all_from_places : (first : ℕ) (passes : List PassView) (all : List Worked) → length all ≡ length passes
      → ((i : ℕ) (p : PassView) (w : Worked) → i < length passes → HasServed opens patience turns store (first + i) (get_or passes i p) (get_or all i w))
      → AllServed opens patience turns store first passes all
  all_from_places first [] [] long each = tt
  all_from_places first [] (w ∷ all) long each = absurd (omega arith)
  all_from_places first (p ∷ passes) [] long each = absurd (omega arith)
  all_from_places first (p ∷ passes) (w ∷ all) long each = (
    subst (λ (n : ℕ). HasServed opens patience turns store n p w) (omega arith) (each 0 p w (omega arith)),
    all_from_places (suc first) passes all (omega arith)
        (λ i q v l. subst (λ (n : ℕ). HasServed opens patience turns store n (get_or passes i q) (get_or all i v)) (omega arith) (each (suc i) q v (omega arith))),
  )

  -- what was given in each place was worked for the pass in that place, under that number, and follows what came there
  pub followed_in_place : {E V F : Type 0} (start : Bool → E → ConnectionView) (comes : V → ℕ → Arrival E → V → Type 0) (workers : List (Task V)) (passes : List PassView) (arrivals : List V)
      (given : List (Result Worked F)) (all : List Worked)
      → map (λ (w : Task V). w.pass) workers ≡ passes → map (λ (w : Task V). w.arrivals) workers ≡ arrivals → AreNumbered 0 (map (λ (w : Task V). w.number) workers)
      → map Ok all ≡ given → length given ≡ length workers
      → ((i : ℕ) (r : Result Worked F) → i < length workers
      → (job : Task V) × (job ≡ get_or workers i job) × IfOk (get_or given i r) (λ w. HasFollowed opens patience turns start comes store job.number job.pass job.arrivals w))
      → AllFollowed opens patience turns start comes store passes arrivals all
  followed_in_place {E} {V} {F} start comes workers passes arrivals given all same same_arrivals numbered gave long each =
      let pass_of : Task V → PassView = λ w. w.pass in
      let arrivals_of : Task V → V = λ w. w.arrivals in
      let number_of : Task V → ℕ = λ w. w.number in
      let passes_long : length passes ≡ length workers = ap length (sym same) ∙ length-map workers pass_of in
      let all_long : length all ≡ length given = sym (length-map all Ok) ∙ ap length gave in
      λ i p v w l.
      let in_workers : i < length workers = omega arith in
      let in_all : i < length all = omega arith in
      let e = each i (Ok w) in_workers in
      let pass_is : get_or passes i p ≡ e.0.pass = ap (λ (ps : List PassView). get_or ps i p) (sym same) ∙ (get_or-map pass_of workers i e.0 p in_workers ∙ ap pass_of (sym e.1)) in
      let arrivals_is : get_or arrivals i v ≡ e.0.arrivals =
      ap (λ (vs : List V). get_or vs i v) (sym same_arrivals) ∙ (get_or-map arrivals_of workers i e.0 v in_workers ∙ ap arrivals_of (sym e.1)) in
      let number_first : e.0.number ≡ 0 + i =
      ap number_of e.1 ∙ sym (get_or-map number_of workers i e.0 e.0.number in_workers)
      ∙ number_in_place 0 (map number_of workers) i e.0.number numbered (omega (arith, length-map workers number_of)) in
      let number_is : e.0.number ≡ i = omega (arith, number_first) in
      let gave_is : get_or given i (Ok w) ≡ Ok (get_or all i w) = ap (λ (gs : List (Result Worked F)). get_or gs i (Ok w)) (sym gave) ∙ get_or-map Ok all i w (Ok w) in_all in
      subst (λ (n : ℕ). HasFollowed opens patience turns start comes store n (get_or passes i p) (get_or arrivals i v) (get_or all i w)) number_is
      (subst (λ (q : PassView). HasFollowed opens patience turns start comes store e.0.number q (get_or arrivals i v) (get_or all i w)) (sym pass_is)
      (subst (λ (u : V). HasFollowed opens patience turns start comes store e.0.number e.0.pass u (get_or all i w)) (sym arrivals_is)
      (subst (λ (r : Result Worked F). IfOk r (λ x. HasFollowed opens patience turns start comes store e.0.number e.0.pass e.0.arrivals x)) gave_is e.2)))

  -- who has followed all has served
  pub served_in_place : {E V : Type 0} (start : Bool → E → ConnectionView) (comes : V → ℕ → Arrival E → V → Type 0) (passes : List PassView) (arrivals : List V) (all : List Worked)
      → length all ≡ length passes → ((i : ℕ) → Worked → i < length passes → V) → AllFollowed opens patience turns start comes store passes arrivals all → AllServed opens patience turns store 0 passes all
  served_in_place start comes passes arrivals all long some each =
      all_from_places 0 passes all long (λ i p w l. subst (λ (n : ℕ). HasServed opens patience turns store n (get_or passes i p) (get_or all i w)) (omega arith) (each i p (some i w l) w l).0)

  -- their passes have the numbers that they had
  pub ranges_same : (first : ℕ) (passes : List PassView) (all : List Worked) → AllServed opens patience turns store first passes all
      → flat_map (λ (w : Worked). w.pass.seen.ranges) all ≡ ranges_of passes
  ranges_same first [] [] h = refl
  ranges_same first [] (w ∷ all) h = absurd h
  ranges_same first (p ∷ passes) [] h = absurd h
  ranges_same first (p ∷ passes) (w ∷ all) h =
      ap (λ (r : List (ℕ × ℕ)). r ++ flat_map (λ (v : Worked). v.pass.seen.ranges) all) h.0.further.0
      ∙ ap (λ (r : List (ℕ × ℕ)). p.seen.ranges ++ r) (ranges_same (suc first) passes all h.1)

  pub all_long : (first : ℕ) (passes : List PassView) (all : List Worked) → AllServed opens patience turns store first passes all → length all ≡ length passes
  all_long first [] [] h = refl
  all_long first [] (w ∷ all) h = absurd h
  all_long first (p ∷ passes) [] h = absurd h
  all_long first (p ∷ passes) (w ∷ all) h = ap suc (all_long (suc first) passes all h.1)

  -- all passes come from the store
  pub all_own : (first : ℕ) (passes : List PassView) (all : List Worked) → AllServed opens patience turns store first passes all → All (λ w. IsOf w.pass store) all
  all_own first [] [] h = λ k d l. absurd (omega arith)
  all_own first [] (w ∷ all) h = absurd h
  all_own first (p ∷ passes) [] h = absurd h
  all_own first (p ∷ passes) (w ∷ all) h = All-cons (λ w. IsOf w.pass store) w all h.0.own (all_own (suc first) passes all h.1)

pub if_ok_then : {X E : Type 0} {P Q : X → Type 0} (r : Result X E) → ((x : X) → P x → Q x) → IfOk r P → IfOk r Q
if_ok_then (Ok x) f h = f x h
if_ok_then (Err e) f h = h
