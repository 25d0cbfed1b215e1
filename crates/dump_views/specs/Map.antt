-- SPIFFE bundle maps (gRFC A87, `spiffe_trust_bundle_map_file`): one JSON object of the bundles of several trust domains.
use Rattle.std.specs.Prelude.{List, [], ◌∷◌, ℕ, codes, filter, None}
use Rattle.serde_json.specs.Data.{Data, object, Members, no_members, member}
use Rattle.serde_json.specs.Written.{compact_text}
use Rattle.spiffe_doc.specs.Authority.{BundleValue}
use Rattle.spiffe_doc.specs.Bundle.{is_x509}
use Rattle.spiffe_doc.specs.Text.{document_tree}
use Rattle.map_core.specs.Name.{Name}
use Rattle.map_core.specs.Laws.{Ascends}
use Rattle.frame_front.specs.Dump.{Domains, AreValid}
use Rattle.dump_views.specs.declared.profile.Profile.{Profile}
use Rattle.dump_views.specs.declared.profile.Profile.TheVariants as profiles

-- under each name, the bundle as a JWK set
abbrev pub domain_members : Domains → Members
domain_members [] = no_members
domain_members (item ∷ items) = member item.0 (document_tree item.1) (domain_members items)

-- a bundle map: an object whose member `trust_domains` is an object of the bundles
abbrev pub map_tree : Domains → Data
map_tree items = object (member (codes "trust_domains") (object (domain_members items)) no_members)

-- its text: that tree's JSON, with no space
unfoldable pub map_text : Domains → List ℕ
map_text items = compact_text (map_tree items)

-- valid domains, in order of their names
abbrev pub AreOrdered : Domains → Type 0
AreOrdered items = AreValid items × Ascends None items

-- ---- what a map shows of a bundle

-- the bundle with only its X.509 authorities, and with no refresh hint
abbrev pub x509_part : BundleValue → BundleValue
x509_part bundle = record { sequence = bundle.sequence; refresh_hint = None; authorities = filter is_x509 bundle.authorities }

abbrev pub shown_bundle : Profile → BundleValue → BundleValue
shown_bundle profiles.Whole bundle = bundle
shown_bundle profiles.X509 bundle = x509_part bundle

abbrev pub shown : Profile → Name × BundleValue → Name × BundleValue
shown profile item = (item.0, shown_bundle profile item.1)
