-- The callers' map, and what other callers keep while one goes on.
use Rattle.std.proofs.Common.{◌≡◌, ◌≢◌, ℕ, ◌<◌, ◌≤◌, ◌==◌, Bool, true, false, cond, List, Option, Some, None, IfSome, arith, refl, sym, ap, subst, ◌∙◌, ⊎_elim}
use Rattle.std.specs.Ordering.{nat_cmp, is_eq}
use Rattle.std.specs.Cmp.{tied_itself, nat_cmp_total}
use Rattle.std.specs.FinMap.{nat_cmp-IsAntisymmetric}
use Rattle.std.specs.declared.cmp.Ordering.{Ordering}
use Rattle.std.specs.declared.cmp.Ordering.TheVariants.{Equal}
use Rattle.std.specs.BTreeMap.{BTreeMap, is_at}
use Rattle.std.specs.BTreeMap as tree
use Rattle.map_core.specs.Op.{known_of}
use Rattle.step_core.specs.Phase.{is_idle, has_point}
use Rattle.step_core.specs.Run.{Run}
use Rattle.step_core.specs.Private.Shown.{IsCaller}
use Rattle.step_core.specs.declared.driver.Running.{Running}
use Rattle.step_core.proofs.Points.{by_number, cases_number, number_itself, numbers_apart}
use Rattle.step_core.proofs.Acts.{covered}
use Rattle.step_core.specs.Private.Driver.{IsPlaced}

-- ---- the callers' map
-- the map with this under the caller c
abbrev pub AtCaller : BTreeMap ℕ Running → BTreeMap ℕ Running → ℕ → Option Running → Type 0
AtCaller old new c x = (d : ℕ) → tree.get nat_cmp new d ≡ cond (d == c) x (tree.get nat_cmp old d)

tied : (o : Ordering) → is_eq o ≡ true → o ≡ Equal
tied o h = grind arith

is_at_number : (c d : ℕ) → is_at (nat_cmp c) d ≡ (d == c)
is_at_number c d =
    ⊎_elim (λ (is : d ≡ c). subst (λ (x : ℕ). is_at (nat_cmp c) x ≡ (x == c)) (sym is) (ap is_eq (tied_itself nat_cmp_total c) ∙ sym (number_itself c)))
    (λ (ne : d ≢ c). elim (is_eq (nat_cmp c d)) as (λ b. is_eq (nat_cmp c d) ≡ b → b ≡ (d == c)) [
      | true ↦ λ e. absurd (ne (sym (nat_cmp-IsAntisymmetric c d (tied _ e))))
      | false ↦ λ e. sym (numbers_apart d c ne)
    ] refl) (cases_number d c)

pub at_caller : (old new : BTreeMap ℕ Running) (c : ℕ) (x : Option Running) → tree.Updates nat_cmp old new c x → AtCaller old new c x
at_caller old new c x h d = h.0 d ∙ ap (λ b. cond b x (tree.get nat_cmp old d)) (is_at_number c d)

-- taken out, and put back changed
pub at_caller_twice : (old mid new : BTreeMap ℕ Running) (c : ℕ) (x y : Option Running) → AtCaller old mid c x → AtCaller mid new c y → AtCaller old new c y
at_caller_twice old mid new c x y f g d = g d ∙ ap (cond (d == c) y) (f d) ∙ covered (d == c) y x (tree.get nat_cmp old d)

-- what of a run a caller sees
pub record KeepsCaller (run next : Run) (d : ℕ) : Type 0 where
  pub phase : next.world.phases d ≡ run.world.phases d
  pub op : next.world.ops d ≡ run.world.ops d
  pub current : next.current d ≡ run.current d
  pub count : run.count ≤ next.count
  pub asked : (q : ℕ) → q < run.count → (next.records q).op ≡ (run.records q).op
  pub begun_by : (q : ℕ) → q < run.count → (next.records q).caller ≡ (run.records q).caller

-- the points leave that of each other operation where it was
abbrev pub KeepsPlaces : ℕ → List (Option ℕ) → List (Option ℕ) → Type 0
KeepsPlaces number points now = (q : ℕ) (has : Bool) (place : ℕ) → number ≢ q → IsPlaced points q has place → IsPlaced now q has place

caller_kept : (n rounds : ℕ) (run next : Run) (points now : List (Option ℕ)) (d number : ℕ) (y : Option Running) → KeepsCaller run next d → KeepsPlaces number points now → (IfSome y (λ running. number ≢ running.number))
    → IsCaller n rounds run points d y → IsCaller n rounds next now d y
caller_kept n rounds run next points now d number None keeps places apart h = keeps.phase ∙ h
caller_kept n rounds run next points now d number (Some running) keeps places apart h =
    let below : run.current d < run.count = subst (λ (x : ℕ). x < run.count) h.number h.known in
    record {
      number = h.number ∙ sym keeps.current;
      known = omega (arith, h.known, keeps.count);
      caller = ap (λ (x : ℕ). (next.records x).caller) keeps.current ∙ keeps.begun_by (run.current d) below ∙ h.caller;
      op = keeps.op ∙ h.op ∙ sym (keeps.asked (run.current d) below) ∙ ap (λ (x : ℕ). (next.records x).op) (sym keeps.current);
      busy = ap is_idle keeps.phase ∙ h.busy;
      task = h.task ∙ (λ i. record { shards = n; rounds = rounds; known = known_of (sym keeps.op i); phase = sym keeps.phase i });
      place = places running.number (has_point running.task.phase) running.place apart h.place;
    }

-- another caller's operation has another number
pub other_running : (n rounds : ℕ) (run : Run) (points : List (Option ℕ)) (c d number : ℕ) (y : Option Running) → (run.records number).caller ≡ c → d ≢ c → IsCaller n rounds run points d y → IfSome y (λ running. number ≢ running.number)
other_running n rounds run points c d number None by ne h = tt
other_running n rounds run points c d number (Some y) by ne h = λ same. ne (sym (ap (λ (q : ℕ). (run.records q).caller) (same ∙ h.number) ∙ h.caller) ∙ by)

pub callers_after : (n rounds : ℕ) (run next : Run) (points now : List (Option ℕ)) (old new : BTreeMap ℕ Running) (c number : ℕ) (x : Option Running) → AtCaller old new c x → IsCaller n rounds next now c x
    → ((d : ℕ) → d ≢ c → KeepsCaller run next d) → KeepsPlaces number points now → ((d : ℕ) → d ≢ c → IfSome (tree.get nat_cmp old d) (λ running. number ≢ running.number))
    → ((d : ℕ) → IsCaller n rounds run points d (tree.get nat_cmp old d)) → (d : ℕ) → IsCaller n rounds next now d (tree.get nat_cmp new d)
callers_after n rounds run next points now old new c number x at own keeps places apart h d =
    subst (IsCaller n rounds next now d) (sym (at d))
    (by_number (λ b. IsCaller n rounds next now d (cond b x (tree.get nat_cmp old d))) d c (λ is. subst (λ (k : ℕ). IsCaller n rounds next now k x) (sym is) own)
    (λ ne. caller_kept n rounds run next points now d number (tree.get nat_cmp old d) (keeps d ne) places (apart d ne) (h d)))
