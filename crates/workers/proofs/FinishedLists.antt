-- Lists of passes and of what workers gave back that served one session after the other.
use Rattle.std.proofs.Common.{◌≡◌, ℕ, zero, suc, ◌+◌, ◌<◌, List, [], ◌∷◌, ◌++◌, Bool, length, get_or, map, All, subst, arith, sym, ap, ◌∙◌, refl}
use Rattle.std.specs.Prelude.{Option, Result, Ok, Err, IfOk}
use Rattle.std.specs.List.{flat_map}
use Rattle.workers.specs.Closing.{ranges_of}
use Rattle.std.proofs.lemmas.List.{get_or-map, length-map, map_push}
use Rattle.std.proofs.lemmas.List.Elements.{All-cons}
use Rattle.workers.specs.Run.{HasWorked, AllWorked, kept}
use Rattle.workers.specs.declared.ended.Worked.{Worked}
use Rattle.workers.specs.Private.Numbers.{AreNumbered}
use Rattle.shard_store.specs.Pass.{StoreView, PassView, IsOf}
use Rattle.workers.specs.declared.run.Worker.{Worker}
use Rattle.workers.specs.declared.run.Finished.{Finished}
use Rattle.workers.specs.declared.sessions.ListenFault.{ListenFault}
use Rattle.workers.specs.declared.session.Session.{Session}
use Rattle.wire.specs.declared.counted.Counted.{Counted}

pub nil_if : {X : Type 0} (xs : List X) → length xs ≡ 0 → xs ≡ []
nil_if [] e = refl
nil_if (x ∷ xs) e = absurd (omega (arith, e))

-- one number more
pub numbered_more : (first : ℕ) (numbers : List ℕ) (n : ℕ) → AreNumbered first numbers → n ≡ first + length numbers → AreNumbered first (numbers ++ n ∷ [])
numbered_more first [] n h e = (omega (arith, e), tt)
numbered_more first (m ∷ ms) n h e = (h.0, numbered_more (suc first) ms n h.1 (omega (arith, e)))

-- one worker more
pub numbered_pushed : {S : Type 0} (workers : List (Worker S)) (w : Worker S) → AreNumbered 0 (map (λ (v : Worker S). v.number) workers)
    → w.number ≡ length workers → AreNumbered 0 (map (λ (v : Worker S). v.number) (workers ++ w ∷ []))
numbered_pushed {S} workers w h e =
    let number_of : Worker S → ℕ = λ v. v.number in
    subst (AreNumbered 0) (sym (map_push number_of workers w)) (numbered_more 0 (map number_of workers) w.number h (omega (arith, e, length-map workers number_of)))

-- the number in each place
pub number_in_place : (first : ℕ) (numbers : List ℕ) (i d : ℕ) → AreNumbered first numbers → i < length numbers → get_or numbers i d ≡ first + i
number_in_place first [] i d h l = absurd (omega arith)
number_in_place first (m ∷ ms) zero d h l = omega (arith, h.0)
number_in_place first (m ∷ ms) (suc i) d h l = let rest = number_in_place (suc first) ms i d h.1 (omega arith) in omega (arith, rest)

-- the pass of each worker comes from the store
pub pass_in_place : {S : Type 0} (store : StoreView) (workers : List (Worker S)) (passes : List PassView) → map (λ (w : Worker S). w.pass) workers ≡ passes
    → All (λ pass. IsOf pass store) passes → (i : ℕ) (x : Worker S) → i < length workers → x ≡ get_or workers i x → IsOf x.pass store
pass_in_place {S} store workers passes same own i x l is =
    let pass_of : Worker S → PassView = λ w. w.pass in
    let long : length passes ≡ length workers = ap length (sym same) ∙ length-map workers pass_of in
    let at : get_or passes i x.pass ≡ x.pass = ap (λ (ps : List PassView). get_or ps i x.pass) (sym same) ∙ (get_or-map pass_of workers i x x.pass l ∙ ap pass_of (sym is)) in
    subst (λ (p : PassView). IsOf p store) at (own i x.pass (omega arith))

module _ (opens : ℕ → ℕ → Bool → Type 0) {V R W : Type 0} (remaining : R → Option (List ℕ)) (contents : W → Option (List ℕ)) (takes_back : V → Counted R → Counted W → V → Type 0)
    (comes : V → Result (Option (Session R W)) ListenFault → V → Type 0) (store : StoreView) where
  -- what holds at each place holds of the three lists
  all_from_places : (first : ℕ) (passes : List PassView) (sessions : List V) (all : List Finished) → length all ≡ length passes → length sessions ≡ length passes
      → ((i : ℕ) (p : PassView) (v : V) (f : Finished) → i < length passes → HasWorked opens remaining contents takes_back comes store (first + i) (get_or passes i p) (get_or sessions i v) (get_or all i f))
      → AllWorked opens remaining contents takes_back comes store first passes sessions all
  all_from_places first [] [] [] long same each = tt
  all_from_places first [] [] (f ∷ all) long same each = absurd (omega (arith, long))
  all_from_places first [] (v ∷ sessions) all long same each = absurd (omega (arith, same))
  all_from_places first (p ∷ passes) [] all long same each = absurd (omega (arith, same))
  all_from_places first (p ∷ passes) (v ∷ sessions) [] long same each = absurd (omega (arith, long))
  all_from_places first (p ∷ passes) (v ∷ sessions) (f ∷ all) long same each = (
    subst (λ (n : ℕ). HasWorked opens remaining contents takes_back comes store n p v f) (omega arith) (each 0 p v f (omega arith)),
    all_from_places (suc first) passes sessions all (omega (arith, long)) (omega (arith, same))
        (λ i q u g l. subst (λ (n : ℕ). HasWorked opens remaining contents takes_back comes store n (get_or passes i q) (get_or sessions i u) (get_or all i g)) (omega arith) (each (suc i) q u g (omega (arith, l)))),
  )

  -- what was given in each place was worked for the pass and the sessions in that place, under that number
  pub worked_in_place : {F : Type 0} (workers : List (Worker V)) (passes : List PassView) (sessions : List V) (given : List (Result Finished F)) (all : List Finished)
      → map (λ (w : Worker V). w.pass) workers ≡ passes → map (λ (w : Worker V). w.sessions) workers ≡ sessions → AreNumbered 0 (map (λ (w : Worker V). w.number) workers)
      → map Ok all ≡ given → length given ≡ length workers
      → ((i : ℕ) (r : Result Finished F) → i < length workers
      → (job : Worker V) × (job ≡ get_or workers i job) × IfOk (get_or given i r) (λ f. HasWorked opens remaining contents takes_back comes store job.number job.pass job.sessions f))
      → AllWorked opens remaining contents takes_back comes store 0 passes sessions all
  worked_in_place {F} workers passes sessions given all same same_sessions numbered gave long each =
      let pass_of : Worker V → PassView = λ w. w.pass in
      let sessions_of : Worker V → V = λ w. w.sessions in
      let number_of : Worker V → ℕ = λ w. w.number in
      let passes_long : length passes ≡ length workers = ap length (sym same) ∙ length-map workers pass_of in
      let sessions_long : length sessions ≡ length workers = ap length (sym same_sessions) ∙ length-map workers sessions_of in
      let all_long : length all ≡ length given = sym (length-map all Ok) ∙ ap length gave in
      all_from_places 0 passes sessions all (omega (arith, all_long, passes_long, long)) (omega (arith, sessions_long, passes_long)) (λ i p v f l.
      let in_workers : i < length workers = omega (arith, l, passes_long) in
      let in_all : i < length all = omega (arith, l, all_long, long, passes_long) in
      let e = each i (Ok f) in_workers in
      let pass_is : get_or passes i p ≡ e.0.pass = ap (λ (ps : List PassView). get_or ps i p) (sym same) ∙ (get_or-map pass_of workers i e.0 p in_workers ∙ ap pass_of (sym e.1)) in
      let sessions_is : get_or sessions i v ≡ e.0.sessions =
      ap (λ (vs : List V). get_or vs i v) (sym same_sessions) ∙ (get_or-map sessions_of workers i e.0 v in_workers ∙ ap sessions_of (sym e.1)) in
      let number_is : e.0.number ≡ 0 + i =
      ap number_of e.1 ∙ sym (get_or-map number_of workers i e.0 e.0.number in_workers)
      ∙ number_in_place 0 (map number_of workers) i e.0.number numbered (omega (arith, length-map workers number_of)) in
      let gave_is : get_or given i (Ok f) ≡ Ok (get_or all i f) = ap (λ (gs : List (Result Finished F)). get_or gs i (Ok f)) (sym gave) ∙ get_or-map Ok all i f (Ok f) in_all in
      subst (λ (n : ℕ). HasWorked opens remaining contents takes_back comes store n (get_or passes i p) (get_or sessions i v) (get_or all i f)) number_is
      (subst (λ (q : PassView). HasWorked opens remaining contents takes_back comes store e.0.number q (get_or sessions i v) (get_or all i f)) (sym pass_is)
      (subst (λ (u : V). HasWorked opens remaining contents takes_back comes store e.0.number e.0.pass u (get_or all i f)) (sym sessions_is)
      (subst (λ (r : Result Finished F). IfOk r (λ x. HasWorked opens remaining contents takes_back comes store e.0.number e.0.pass e.0.sessions x)) gave_is e.2))))

  -- their passes have the numbers that they had
  pub ranges_same : (first : ℕ) (passes : List PassView) (sessions : List V) (all : List Finished) → AllWorked opens remaining contents takes_back comes store first passes sessions all
      → flat_map (λ (f : Finished). f.pass.seen.ranges) all ≡ ranges_of passes
  ranges_same first [] [] [] h = refl
  ranges_same first [] [] (f ∷ all) h = absurd h
  ranges_same first [] (v ∷ sessions) all h = absurd h
  ranges_same first (p ∷ passes) [] all h = absurd h
  ranges_same first (p ∷ passes) (v ∷ sessions) [] h = absurd h
  ranges_same first (p ∷ passes) (v ∷ sessions) (f ∷ all) h =
      ap (λ (r : List (ℕ × ℕ)). r ++ flat_map (λ (g : Finished). g.pass.seen.ranges) all) h.0.further.0
      ∙ ap (λ (r : List (ℕ × ℕ)). p.seen.ranges ++ r) (ranges_same (suc first) passes sessions all h.1)

  pub all_long : (first : ℕ) (passes : List PassView) (sessions : List V) (all : List Finished) → AllWorked opens remaining contents takes_back comes store first passes sessions all → length all ≡ length passes
  all_long first [] [] [] h = refl
  all_long first [] [] (f ∷ all) h = absurd h
  all_long first [] (v ∷ sessions) all h = absurd h
  all_long first (p ∷ passes) [] all h = absurd h
  all_long first (p ∷ passes) (v ∷ sessions) [] h = absurd h
  all_long first (p ∷ passes) (v ∷ sessions) (f ∷ all) h = ap suc (all_long (suc first) passes sessions all h.1)

  -- all passes come from the store
  pub all_own : (first : ℕ) (passes : List PassView) (sessions : List V) (all : List Finished) → AllWorked opens remaining contents takes_back comes store first passes sessions all → All (λ f. IsOf f.pass store) all
  all_own first [] [] [] h = λ k d l. absurd (omega arith)
  all_own first [] [] (f ∷ all) h = absurd h
  all_own first [] (v ∷ sessions) all h = absurd h
  all_own first (p ∷ passes) [] all h = absurd h
  all_own first (p ∷ passes) (v ∷ sessions) [] h = absurd h
  all_own first (p ∷ passes) (v ∷ sessions) (f ∷ all) h = All-cons (λ f. IsOf f.pass store) f all h.0.own (all_own (suc first) passes sessions all h.1)

-- what is kept has the same passes
pub kept_ranges : (all : List Finished) → flat_map (λ (w : Worked). w.pass.seen.ranges) (map kept all) ≡ flat_map (λ (f : Finished). f.pass.seen.ranges) all
kept_ranges [] = refl
kept_ranges (f ∷ all) = ap (λ (r : List (ℕ × ℕ)). f.pass.seen.ranges ++ r) (kept_ranges all)

pub kept_own : (store : StoreView) (all : List Finished) → All (λ f. IsOf f.pass store) all → All (λ w. IsOf w.pass store) (map kept all)
kept_own store [] own = λ k d l. absurd (omega arith)
kept_own store (f ∷ all) own = All-cons (λ w. IsOf w.pass store) (kept f) (map kept all) (own 0 f (omega arith)) (kept_own store all (λ k d l. own (suc k) d (omega (arith, l))))

pub if_ok_then : {X E : Type 0} {P Q : X → Type 0} (r : Result X E) → ((x : X) → P x → Q x) → IfOk r P → IfOk r Q
if_ok_then (Ok x) f h = f x h
if_ok_then (Err e) f h = h
