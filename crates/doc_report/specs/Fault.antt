-- What is wrong with a document that is not a bundle, in words: what it has to be instead, with the limit.
use Rattle.std.specs.Prelude.{ℕ, List, [], ◌++◌, codes, decimal, Option, Some, None}
use Rattle.std.specs.Option.{option_map_or}
use Rattle.spiffe_doc.specs.declared.key.Curve.TheVariants.{P256, P384, P521}
use Rattle.spiffe_doc.specs.declared.error.DocError.{DocError}
use Rattle.spiffe_doc.specs.declared.error.DocError.TheVariants.{TooLong, NotJson, NotObject, NoKeys, BadSequence, BadHint, BadEntry, BadKey, BadX5c, BadKid, KidTwice, TooMany, Memory}
use Rattle.spiffe_doc.specs.Document.{place_of}
use Rattle.spiffe_doc.specs.Number.{doc_number}
use Rattle.doc_report.specs.declared.fault.DocFault.{DocFault}
use Rattle.doc_report.specs.declared.key_member.KeyMember.{KeyMember}
use Rattle.doc_report.specs.declared.key_member.KeyMember.TheVariants.{Crv, X, Y, N, E}

-- the fault of a document for which memory ran out
abbrev pub no_memory : DocFault
no_memory = record { error = Memory; member = None }

-- the entry at a place
unfoldable pub entry_words : ℕ → List ℕ
entry_words place = codes "keys[" ++ (decimal place ++ codes "] ")

abbrev pub place_words : Option ℕ → List ℕ
place_words None = []
place_words (Some place) = entry_words place

-- a member of a key that is missing or malformed, and what it has to be
abbrev pub member_words : KeyMember → List ℕ
member_words Crv = codes "has a malformed crv: it has to be a text"
member_words (X P256) = codes "has a malformed x: it has to be 32 bytes of unpadded base64url"
member_words (X P384) = codes "has a malformed x: it has to be 48 bytes of unpadded base64url"
member_words (X P521) = codes "has a malformed x: it has to be 66 bytes of unpadded base64url"
member_words (Y P256) = codes "has a malformed y: it has to be 32 bytes of unpadded base64url"
member_words (Y P384) = codes "has a malformed y: it has to be 48 bytes of unpadded base64url"
member_words (Y P521) = codes "has a malformed y: it has to be 66 bytes of unpadded base64url"
member_words N = codes "has a malformed n: it has to be 1 to 1024 bytes of unpadded base64url"
member_words E = codes "has a malformed e: it has to be 1 to 1024 bytes of unpadded base64url"

-- what an error says of the document, or of the entry at its place
abbrev pub error_words : DocError → List ℕ
error_words TooLong = codes "the document, or its canonical text, has over 1048576 bytes"
error_words NotJson = codes "it is not a JSON text of UTF-8, nested at most 127 deep"
error_words NotObject = codes "it is not a JSON object"
error_words NoKeys = codes "it has no member keys that is an array"
error_words BadSequence = codes "spiffe_sequence is not a whole number from 0 to 18446744073709551615"
error_words BadHint = codes "spiffe_refresh_hint is not a whole number from 0 to 18446744073709551615"
error_words (BadEntry place) = codes "is not a JSON object"
error_words (BadKey place) = codes "has a malformed key"
error_words (BadX5c place) = codes "has a malformed x5c: it has to be a list of one text of padded base64"
error_words (BadKid place) = codes "has a malformed kid: it has to be a text of 1 to 255 bytes"
error_words (KidTwice place) = codes "has the kid of an earlier entry, with another key"
error_words TooMany = codes "it has over 1024 different authorities"
error_words Memory = codes "out of memory"

-- what a fault says: if a member of a key is malformed, which and what it has to be
abbrev pub said_of : DocFault → List ℕ
said_of fault = option_map_or member_words fault.member (error_words fault.error)

-- a document for which memory ran out has no verdict
abbrev pub verdict_of : DocError → List ℕ
verdict_of Memory = codes "not judged: "
verdict_of other = codes "not a bundle: "

abbrev pub said_words : DocFault → List ℕ
said_words fault = place_words (place_of fault.error) ++ said_of fault

-- the number of the refusal
abbrev pub refusal_words : DocError → List ℕ
refusal_words error = codes " (" ++ (decimal (doc_number error) ++ codes ")")

unfoldable pub fault_words : DocFault → List ℕ
fault_words fault = verdict_of fault.error ++ (said_words fault ++ refusal_words fault.error)
