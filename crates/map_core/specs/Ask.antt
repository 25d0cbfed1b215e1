-- What may be answered by whoever is asked.
use Rattle.std.specs.Prelude.{◌≡◌, Option, Some, None, Result, Ok, Err}
use Rattle.spiffe_doc.specs.Authority.{BundleValue}
use Rattle.map_core.specs.declared.op.Op.{Op}
use Rattle.map_core.specs.declared.reply.Reply.{Reply}
use Rattle.map_core.specs.declared.reply.Reply.TheVariants.{Found}
use Rattle.map_core.specs.declared.reply.AskError.{AskError}
use Rattle.map_core.specs.declared.reply.AskError.TheVariants.{Memory}
use Rattle.map_core.specs.PlainMap.{PlainMap, ask}

-- Where m was shown: the plain map's reply, and its map is shown then; or an error, and m is shown as before.
abbrev pub PlainAnswer : PlainMap → Op → Result Reply AskError → Option PlainMap → Type 0
PlainAnswer m op (Ok reply) shown = (reply ≡ (ask m op).reply) × (shown ≡ Some (ask m op).map)
PlainAnswer m op (Err e) shown = shown ≡ Some m

-- The plain map's reply, and its map is left; or memory ran out, and nothing has changed.
abbrev pub ContentsAnswer : PlainMap → Op → Result Reply AskError → PlainMap → Type 0
ContentsAnswer m op (Ok reply) new = (reply ≡ (ask m op).reply) × (new ≡ (ask m op).map)
ContentsAnswer m op (Err e) new = (e ≡ Memory) × (new ≡ m)

-- How a get is answered to a viewer, by what it had noted before and has noted then: by an answer that may be given, and nothing is noted; or
-- by a look at the bundle of such an answer, and there is no reply.
abbrev pub ShowsGet : {V E : Type 0} → (V → BundleValue → V → Type 0) → (Result Reply E → Type 0) → V → Result (Option Reply) E → V → Type 0
ShowsGet notes answered old (Ok (Some reply)) new = answered (Ok reply) × (new ≡ old)
ShowsGet notes answered old (Ok None) new = (b : BundleValue) × answered (Ok (Found b)) × notes old b new
ShowsGet notes answered old (Err e) new = answered (Err e) × (new ≡ old)

-- If a map is shown, the answers are the plain map's.
abbrev pub AnswersPlainly : {S : Type 0} → (S → Op → Result Reply AskError → S → Type 0) → (S → Option PlainMap) → Type 0
AnswersPlainly {S} answers shows =
    (old : S) (op : Op) (result : Result Reply AskError) (new : S) (m : PlainMap) → shows old ≡ Some m → answers old op result new → PlainAnswer m op result (shows new)
