-- Where the bytes of a reply stand.
use Rattle.std.specs.Prelude.{ℕ, List, []}
use Rattle.std.specs.List.{flat_map}
use Rattle.spiffe_doc.specs.Text.{text_of}
use Rattle.wire.specs.Answers.{item_frame}
use Rattle.frame_front.specs.declared.reply.Body.{Body}
use Rattle.frame_front.specs.declared.reply.Body.TheVariants.{Empty, Canonical, All}

-- what follows the first bytes of a reply
abbrev pub body_text : Body → List ℕ
body_text Empty = []
body_text (Canonical bundle) = text_of bundle
body_text (All items) = flat_map item_frame items
