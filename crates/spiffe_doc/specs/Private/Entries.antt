-- The authority that an entry's text gives, for private contracts.
use Rattle.std.specs.Prelude.{◌≡◌, ℕ, List, [], Bool, Option, Some, option_map, Result, Ok}
use Rattle.serde_json.specs.Read.{read}
use Rattle.spiffe_doc.specs.declared.key.PublicKey.TheVariants.{Rsa}
use Rattle.spiffe_doc.specs.declared.authority.Authority.{Authority}
use Rattle.spiffe_doc.specs.declared.authority.Authority.TheVariants.{Jwt}
use Rattle.spiffe_doc.specs.declared.error.DocError.{DocError}
use Rattle.spiffe_doc.specs.Authority.{IsAuthority}
use Rattle.spiffe_doc.specs.Bundle.{is_x509}
use Rattle.spiffe_doc.specs.Judgement.{judge}
use Rattle.spiffe_doc.specs.Text.{entry_text}

-- what no entry gives
abbrev pub no_authority : Authority
no_authority = Jwt [] (Rsa (record { n = []; e = [] }))

abbrev pub judged_so : Option (Result (Option Authority) DocError) → Authority
judged_so (Some (Ok (Some authority))) = authority
judged_so other = no_authority

-- the authority that this is the text of
unfoldable pub authority_in : List ℕ → Authority
authority_in text = judged_so (option_map (judge 0) (read text))

-- it is the canonical text of a valid authority of this kind
pub record IsEntry (text : List ℕ) (kind : Bool) : Type 0 where
  pub valid : IsAuthority (authority_in text)
  pub written : text ≡ entry_text (authority_in text)
  pub kind_is : kind ≡ is_x509 (authority_in text)
