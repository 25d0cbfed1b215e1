use Rattle.std.proofs.Common.{◌≡◌, Some, None, sym, ap, ◌∙◌, rules}
use Rattle.std.specs.Prelude.{option_map}
use Rattle.std.specs.Option.{option_copied}
use Rattle.spiffe_doc.specs.Authority.{BundleValue}
use Rattle.map_core.specs.Name.{Name}
use Rattle.frame_front.specs.Private.Refusals.{last_of}
use Rattle.frame_front.proofs.DomainLists.{last_name}
use Rattle.frame_front.proofs.dump.follows.Goals as goal

pub returns-in-Some-clause-after : goal.returns-in-Some-clause-after
returns-in-Some-clause-after c =
    let is : last_of None c.args.domains.now ≡ Some c.in-Some.last.now.0 =
    last_name c.args.domains.now ∙ ap (option_map (λ (i : Name × BundleValue). i.0)) (sym c.last.ensures.value ∙ ap option_copied c.in-Some.is) in
    rw is (search rules)

pub returns-in-Some-clause-not_after : goal.returns-in-Some-clause-not_after
returns-in-Some-clause-not_after c =
    let is : last_of None c.args.domains.now ≡ Some c.in-Some.last.now.0 =
    last_name c.args.domains.now ∙ ap (option_map (λ (i : Name × BundleValue). i.0)) (sym c.last.ensures.value ∙ ap option_copied c.in-Some.is) in
    rw is (search rules)
