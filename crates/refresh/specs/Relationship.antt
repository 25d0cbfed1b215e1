-- Federation relationships: a trust domain, the URL of its bundle endpoint and the profile by which the endpoint shows
-- who it is (SPIFFE Federation, section 5.2).
use Rattle.std.specs.Prelude.{ℕ, List, length, codes, bytes_eq, nat_lt, Bool, ◌&&◌, if◌then◌else◌, Option, Some, None, Result, Ok, Err}
use Rattle.url.specs.Parts.{Parts}
use Rattle.url.specs.Parser.{parse_url}
use Rattle.url.specs.Input.{is_empty}
use Rattle.spiffe_doc.specs.Answer.{◌>>=◌}
use Rattle.spiffe_doc.specs.Name.{trust_domain}
use Rattle.spiffe_doc.specs.Id.{spiffe_id}
use Rattle.refresh.specs.declared.relationship.Profile.{Profile}
use Rattle.refresh.specs.declared.relationship.Profile.TheVariants.{HttpsWeb, HttpsSpiffe}
use Rattle.refresh.specs.declared.error.RelationError.{RelationError}
use Rattle.refresh.specs.declared.error.RelationError.TheVariants.{Domain, BadUrl, BadProfile, NoEndpointId, EndpointId}

-- a relationship, as contracts see it
pub record RelationshipValue : Type 0 where
  pub domain : List ℕ
  pub url : Parts
  pub profile : Profile

-- the name of a trust domain, or why it is not one
abbrev pub domain_of : List ℕ → Result (List ℕ) RelationError
domain_of text = elim (trust_domain text) [ Ok name ↦ Ok name | Err why ↦ Err (Domain why) ]

-- a URL of an endpoint has the scheme `https`, no user name and no password
abbrev pub is_endpoint : Parts → Bool
is_endpoint url = bytes_eq url.scheme (codes "https") && is_empty url.username && is_empty url.password

-- the URL that a text is by the URL Standard, if it is one of an endpoint
abbrev pub endpoint_of : List ℕ → Result Parts RelationError
endpoint_of text =
    if nat_lt 2048 (length text) then Err BadUrl
    else elim (parse_url None text) [ Ok url ↦ if is_endpoint url then Ok url else Err BadUrl | Err why ↦ Err BadUrl ]

-- the SPIFFE ID by which an endpoint is authenticated
abbrev pub endpoint_id_of : Option (List ℕ) → Result Profile RelationError
endpoint_id_of None = Err NoEndpointId
endpoint_id_of (Some text) = elim (spiffe_id text) [ Ok id ↦ Ok (HttpsSpiffe id) | Err why ↦ Err (EndpointId why) ]

-- the profile of this name; only `https_spiffe` has an endpoint ID
abbrev pub profile_of : List ℕ → Option (List ℕ) → Result Profile RelationError
profile_of name endpoint_id =
    if bytes_eq name (codes "https_web") then Ok HttpsWeb
    else if bytes_eq name (codes "https_spiffe") then endpoint_id_of endpoint_id
    else Err BadProfile

-- the relationship that these texts are, or the first reason why they are not one
abbrev pub relationship : List ℕ → List ℕ → List ℕ → Option (List ℕ) → Result RelationshipValue RelationError
relationship domain url profile endpoint_id =
    domain_of domain >>= λ name. endpoint_of url >>= λ endpoint. profile_of profile endpoint_id >>= λ shown.
    Ok (record { domain = name; url = endpoint; profile = shown })
