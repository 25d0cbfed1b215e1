-- The bytes that a base64 text stands for, for private contracts.
use Rattle.std.specs.Prelude.{◌≡◌, ℕ, List, [], length, Option, Some, None}
use Rattle.base64.specs.declared.engine.general_purpose.GeneralPurpose.{GeneralPurpose}
use Rattle.spiffe_doc.specs.Judgement.{encoded_bytes}

abbrev pub or_none : Option (List ℕ) → List ℕ
or_none None = []
or_none (Some bytes) = bytes

-- the bytes whose encoding the text is; none if it is no encoding
abbrev pub bytes_in : GeneralPurpose → List ℕ → List ℕ
bytes_in engine text = or_none (encoded_bytes engine text)

-- the text is an encoding, of so many bytes
pub record Encodes (engine : GeneralPurpose) (text : List ℕ) (len : ℕ) : Type 0 where
  pub bytes : encoded_bytes engine text ≡ Some (bytes_in engine text)
  pub len_is : len ≡ length (bytes_in engine text)
