use Rattle.std.proofs.Common.{◌≡◌, ℕ, List, true, cond, sym, subst, ◌∙◌}
use Rattle.std.specs.BTreeMap.{is_at}
use Rattle.std.specs.Cmp.Lexicographic.{slice_cmp}
use Rattle.std.specs.Ordering.{nat_cmp}
use Rattle.refresh.specs.Relationship.{RelationshipValue}
use Rattle.spiffe_doc.specs.Private.EntrySet.{has}
use Rattle.refresh.specs.Private.Listing.{AreDomainsOf}
use Rattle.refresh.proofs.ListLines.{one_known}
use Rattle.refresh.proofs.list.add.Goals as goal

pub returns-clause-known : goal.returns-clause-known
returns-clause-known c =
    let domain : c.in_ok-domain.domain ≡ c.args.relationship.domain = c.in_ok-domain.ensures ∙ c.domain.ensures in
    let inserted = subst (λ (d : List ℕ). (name : List ℕ) → has c.insert.new.self name ≡ cond (is_at (slice_cmp nat_cmp d) name) true (has c.args.domains.now name)) domain c.in-Ok-true.ensures.updates.0 in
    subst (λ (rs : List RelationshipValue). AreDomainsOf rs c.insert.new.self) (sym c.in_default.ensures.items)
    (one_known c.args.relationships.now.items c.args.relationship c.args.domains.now c.insert.new.self c.requires inserted)
