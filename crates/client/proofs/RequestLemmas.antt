-- Lemmas on what stands before the document of a request.
use Rattle.std.proofs.Common.{◌≡◌, ℕ, List, [], ◌∷◌, ◌++◌, ap, ◌∙◌, append_assoc}
use Rattle.wire.specs.declared.version.Version.{Version}
use Rattle.wire.specs.Frame.{frame}
use Rattle.client.specs.Request.{speak_payload}
use Rattle.wire.specs.Fields.{version_number}

-- the request that sets a version, before the other
pub behind_version : (version : Version) (head text other : List ℕ) → head ++ text ≡ other
    → ((0 ∷ 0 ∷ 0 ∷ 2 ∷ 86 ∷ version_number version ∷ []) ++ head) ++ text ≡ frame (speak_payload version) ++ other
unfolding frame
behind_version version head text other same =
    append_assoc (0 ∷ 0 ∷ 0 ∷ 2 ∷ 86 ∷ version_number version ∷ []) head text ∙ ap (λ rest. 0 ∷ 0 ∷ 0 ∷ 2 ∷ 86 ∷ version_number version ∷ rest) same
