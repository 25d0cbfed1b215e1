-- The numbers of refusals.
use Rattle.std.specs.Prelude.{ℕ}
use Rattle.spiffe_doc.specs.Number.{name_number, id_number}
use Rattle.refresh.specs.declared.error.RelationError.{RelationError}
use Rattle.refresh.specs.declared.error.RelationError.TheVariants.{Domain, BadUrl, BadProfile, NoEndpointId, EndpointId, Memory}

abbrev pub relation_number : RelationError → ℕ
relation_number (Domain error) = name_number error
relation_number BadUrl = 60
relation_number BadProfile = 61
relation_number NoEndpointId = 62
relation_number (EndpointId error) = id_number error
relation_number Memory = 22
