-- How far a dump is read.
use Rattle.std.specs.Prelude.{◌≡◌, ℕ, ◌+◌, ◌<◌, List, ◌∷◌, ◌++◌, length, drop, Option, Some, None, slice_index}
use Rattle.std.specs.List.{AllByRecursion}
use Rattle.spiffe_doc.specs.Authority.{BundleValue}
use Rattle.spiffe_doc.specs.Bundle.{IsBundle}
use Rattle.map_core.specs.Name.{Name}
use Rattle.map_core.specs.Laws.{IsAfter, Ascends}
use Rattle.wire.specs.Frame.{IsPayload, IsUnfinished, frame, stream_of}
use Rattle.wire.specs.Items.{item_of}
use Rattle.frame_front.specs.Dump.{Domains, HaveValidBundles, ReadsItems, IsBadDump, count_of}
use Rattle.frame_front.specs.Private.Refusals.{NoCount, NoItem}
use Rattle.frame_front.specs.declared.dump_decoder.Stage.{Stage}
use Rattle.frame_front.specs.declared.dump_decoder.Stage.TheVariants.{Head, Items, Spoilt}
use Rattle.frame_front.specs.declared.dump_decoder.Front.{Front}
use Rattle.frame_front.specs.declared.dump_decoder.Front.TheVariants.{Whole, Unfinished, Wrong}

-- These domains of a dump are read, and this rest is left.
pub record HasRead (dump : List ℕ) (count : ℕ) (rest : List ℕ) (place : ℕ) (items : Domains) : Type 0 where
  pub head : List ℕ
  pub payloads : List (List ℕ)
  pub whole : dump ≡ stream_of (head ∷ payloads) rest
  pub each : AllByRecursion IsPayload (head ∷ payloads)
  pub counted : count_of head ≡ Some count
  pub read : ReadsItems payloads items
  pub ascending : Ascends None items
  pub valid : HaveValidBundles items
  pub placed : place ≡ length items

-- each is a byte
abbrev pub AreBytes : List ℕ → Type 0
AreBytes bytes = (i : ℕ) → slice_index bytes i < 256

-- whatever follows what came, it is no dump, and this is the place of the first frame that is wrong or too much
abbrev pub IsSpoilt : List ℕ → ℕ → Type 0
IsSpoilt came place = (more : List ℕ) → AreBytes more → IsBadDump (came ++ more) place

-- a whole frame of this payload's size stands first
pub record StandsFirst (bytes payload : List ℕ) (size : ℕ) : Type 0 where
  pub good : IsPayload payload
  pub stands : bytes ≡ frame payload ++ drop (4 + size) bytes
  pub sized : length payload ≡ size

-- the count that stands first; or whatever follows, none does
abbrev pub IsFrontCount : Front ℕ → List ℕ → Type 0
IsFrontCount (Whole count size) bytes = (payload : List ℕ) × StandsFirst bytes payload size × (count_of payload ≡ Some count)
IsFrontCount Unfinished bytes = IsUnfinished bytes
IsFrontCount Wrong bytes = (more : List ℕ) → NoCount (bytes ++ more)

-- the domain that stands first, and comes after the last one; or whatever follows, none does
abbrev pub IsFrontItem : Option Name → Front (Name × BundleValue) → List ℕ → Type 0
IsFrontItem last (Whole item size) bytes =
    (payload : List ℕ) × StandsFirst bytes payload size × (item_of payload ≡ Some item) × IsAfter last item.0 × IsBundle item.1
IsFrontItem last Unfinished bytes = IsUnfinished bytes
IsFrontItem last Wrong bytes = (more : List ℕ) → NoItem last (bytes ++ more)

-- the number of domains has not come
abbrev pub HasNoCount : Stage → List ℕ → Type 0
HasNoCount Head kept = IsUnfinished kept
HasNoCount (Items count) kept = Unit {0}
HasNoCount (Spoilt wrong) kept = Unit {0}
