-- What a request carries.
use Rattle.std.specs.Prelude.{ℕ, List}
use Rattle.map_core.specs.declared.op.Op.{Op}
use Rattle.wire.specs.RequestForm.{text_of}
use Rattle.client.specs.Request.{request_form}

-- the document at the end of a request
abbrev pub document_part : Op → List ℕ
document_part op = text_of (request_form op)
