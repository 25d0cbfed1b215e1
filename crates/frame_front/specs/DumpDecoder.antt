-- A dump that comes in pieces, and the domains that are taken out of it.
use Rattle.std.specs.Prelude.{◌≡◌, ◌≢◌, ℕ, ◌<◌, ◌≤◌, ◌^◌, List, [], length, Option, None}
use Rattle.map_core.specs.Name.{Name}
use Rattle.wire.specs.Frame.{IsUnfinished}
use Rattle.frame_front.specs.Dump.{Domains}
use Rattle.frame_front.specs.Private.DumpReading.{AreBytes, HasRead, IsSpoilt}
use Rattle.frame_front.specs.Private.Refusals.{last_of}
use Rattle.frame_front.specs.declared.dump_decoder.DumpDecoder.{DumpDecoder}
use Rattle.frame_front.specs.declared.dump_decoder.Stage.{Stage}
use Rattle.frame_front.specs.declared.dump_decoder.Stage.TheVariants.{Head, Items, Spoilt}

-- how far what came is read
abbrev pub IsAt : Stage → List ℕ → List ℕ → ℕ → Option Name → Domains → Type 0
IsAt Head came kept place last items = (kept ≡ came) × (items ≡ []) × (place ≡ 0) × (last ≡ None)
IsAt (Items count) came kept place last items = HasRead came count kept place items × (last ≡ last_of None items) × (place ≤ count)
IsAt (Spoilt wrong) came kept place last items = IsSpoilt came wrong

-- Of these bytes, which came in pieces, these domains are taken out; unless the bytes are the front of no dump.
pub record HasTaken (decoder : DumpDecoder) (came : List ℕ) (items : Domains) : Type 0 where
  pub few : length came < 2 ^ 64
  pub bytes : AreBytes came
  pub at : IsAt decoder.stage came decoder.frames decoder.place decoder.last items

-- no whole frame of a domain is kept
abbrev pub HasNone : Stage → List ℕ → ℕ → Type 0
HasNone Head kept place = IsUnfinished kept
HasNone (Items count) kept place = place ≢ count → IsUnfinished kept
HasNone (Spoilt wrong) kept place = Unit {0}

abbrev pub IsDrained : DumpDecoder → Type 0
IsDrained decoder = HasNone decoder.stage decoder.frames decoder.place

-- how many bytes are kept
abbrev pub kept_by : DumpDecoder → ℕ
kept_by decoder = length decoder.frames
