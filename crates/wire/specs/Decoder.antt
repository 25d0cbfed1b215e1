-- When taking out a frame fails.
use Rattle.std.specs.Prelude.{◌≡◌, ℕ, List, ◌++◌}
use Rattle.wire.specs.Frame.{IsPayload, IsBadLength, frame}
use Rattle.wire.specs.declared.error.FrontError.{FrontError}
use Rattle.wire.specs.declared.error.FrontError.TheVariants.{BadLength, Memory}

-- a whole frame stands first
abbrev pub BeginsWithFrame : List ℕ → Type 0
BeginsWithFrame bytes = (payload : List ℕ) × (rest : List ℕ) × IsPayload payload × (bytes ≡ frame payload ++ rest)

-- Taking out the next frame fails so only if the bytes begin so.
abbrev pub FailsAt : FrontError → List ℕ → Type 0
FailsAt BadLength bytes = IsBadLength bytes
FailsAt Memory bytes = BeginsWithFrame bytes
FailsAt error bytes = ⊥
