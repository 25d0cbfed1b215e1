-- How far a stream of frames is decoded.
use Rattle.std.specs.Prelude.{◌≡◌, ℕ, ◌≤◌, List, ◌++◌, length, Option, Result, Ok, Err}
use Rattle.std.specs.List.{AllByRecursion}
use Rattle.std.specs.Io.KnownBytes.{Appends, Consumes}
use Rattle.wire.specs.Frame.{IsUnfinished, IsBadLength}
use Rattle.wire.specs.declared.decode.DecodeError.{DecodeError}
use Rattle.wire.specs.declared.decode.DecodeError.TheVariants.{BadFrame, Front}
use Rattle.wire.specs.declared.error.FrontError.TheVariants.{BadLength, Memory}
use Rattle.wire.specs.Encoding.{count_after}
use Rattle.wire.specs.DecodedStream.{IsWritten, BeginsUnlined, frames_in, lines_out}

-- of the frames that were kept, these became their lines
pub record FramesSoFar (kept_old : List ℕ) (frames_old : ℕ) (kept_new : List ℕ) (frames_new : ℕ) (before now : List ℕ) : Type 0 where
  pub items : List (List ℕ × List ℕ)
  pub kept_is : kept_old ≡ frames_in items ++ kept_new
  pub each : AllByRecursion IsWritten items
  pub now_is : now ≡ before ++ lines_out items
  pub frames_are : frames_new ≡ count_after frames_old items

-- how it ends with the frames that are kept
abbrev pub EndsKept : Result (Unit {0}) DecodeError → ℕ → List ℕ → List ℕ → Type 0
EndsKept (Ok done) frames rest kept = IsUnfinished rest × (kept ≡ rest)
EndsKept (Err (BadFrame place)) frames rest kept = (place ≡ frames) × BeginsUnlined rest
EndsKept (Err (Front BadLength)) frames rest kept = IsBadLength rest
EndsKept (Err (Front Memory)) frames rest kept = Unit {0}
EndsKept (Err error) frames rest kept = ⊥

pub record DecodesKept (result : Result (Unit {0}) DecodeError) (kept_old : List ℕ) (frames_old : ℕ) (kept_new : List ℕ) (frames_new : ℕ) (written : List ℕ) : Type 0 where
  pub items : List (List ℕ × List ℕ)
  pub rest : List ℕ
  pub kept_is : kept_old ≡ frames_in items ++ rest
  pub each : AllByRecursion IsWritten items
  pub written_is : written ≡ lines_out items
  pub ends : EndsKept result (count_after frames_old items) rest kept_new
  pub counts : result ≡ Ok tt → frames_new ≡ count_after frames_old items

-- a stream between two reads
pub record DecodedSoFar (left_old left_new held_old held_new : Option (List ℕ)) (kept : List ℕ) (frames turns : ℕ) : Type 0 where
  pub items : List (List ℕ × List ℕ)
  pub each : AllByRecursion IsWritten items
  pub consumes : Consumes left_old left_new (frames_in items ++ kept)
  pub unfinished : IsUnfinished kept
  pub appends : Appends held_old held_new (lines_out items)
  pub frames_are : frames ≡ count_after 0 items
  pub each_turn : turns ≤ length (frames_in items ++ kept)
