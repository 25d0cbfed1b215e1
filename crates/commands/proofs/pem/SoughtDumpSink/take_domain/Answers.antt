use Rattle.std.proofs.Common.{◌≡◌, ◌≢◌, ◌∷◌, ◌++◌, [], Some, None, true, false, cond, refl, ap, sym, ◌∙◌}
use Rattle.std.specs.Prelude.{Option, bytes_eq}
use Rattle.spiffe_doc.specs.Authority.{BundleValue}
use Rattle.map_core.specs.Name.{Name}
use Rattle.frame_front.specs.Dump.{Domains}
use Rattle.dump_views.specs.Changes.{held_under}
use Rattle.commands.proofs.pem.SoughtDumpSink.take_domain.Goals as goal

none_some : (b : BundleValue) → None ≡ Some b → ⊥
none_some b same = cc

-- what is held stays when a domain comes behind
still : (items : Domains) (item : Name × BundleValue) (name : Name) (held : Option BundleValue) → held_under items name ≡ held → held ≢ None
    → held_under (items ++ item ∷ []) name ≡ held
unfolding held_under
still [] item name held is some = absurd (some (sym is))
still (i ∷ is) item name held same some = elim (bytes_eq i.0 name) as (λ t. cond t (Some i.1) (held_under is name) ≡ held
    → cond t (Some i.1) (held_under (is ++ item ∷ []) name) ≡ held) [
      | true ↦ λ h. h
      | false ↦ λ h. still is item name held h some
    ] same

-- if nothing is held, what comes behind is
now_held : (items : Domains) (item : Name × BundleValue) (name : Name) → held_under items name ≡ None
    → held_under (items ++ item ∷ []) name ≡ cond (bytes_eq item.0 name) (Some item.1) None
unfolding held_under
now_held [] item name none = refl
now_held (i ∷ is) item name none = elim (bytes_eq i.0 name) as (λ t. cond t (Some i.1) (held_under is name) ≡ None
    → cond t (Some i.1) (held_under (is ++ item ∷ []) name) ≡ cond (bytes_eq item.0 name) (Some item.1) None) [
      | true ↦ λ h. absurd (none_some i.1 (sym h))
      | false ↦ λ h. now_held is item name h
    ] none

pub returns-in-Some-clause-came : goal.returns-in-Some-clause-came
returns-in-Some-clause-came c = λ came items so_far.
    let some : c.args.self.now.bundle ≢ None = λ none. cc in
    still items (c.args.domain, c.args.bundle) c.args.self.now.name.now c.args.self.now.bundle so_far some

pub returns-then-eq-clause-came : goal.returns-then-eq-clause-came
returns-then-eq-clause-came c = λ came items so_far.
    now_held items (c.args.domain, c.args.bundle) c.args.self.now.name.now (so_far ∙ c.in_default.is)
    ∙ ap (λ t. cond t (Some c.args.bundle) None) (sym c.if-eq.ensures)

pub returns-clause-came : goal.returns-clause-came
returns-clause-came c = λ came items so_far.
    now_held items (c.args.domain, c.args.bundle) c.args.self.now.name.now (so_far ∙ c.in_default.is)
    ∙ ap (λ t. cond t (Some c.args.bundle) None) (sym c.if-eq.ensures) ∙ sym c.in_default.is
