-- What comes to a worker.
use Rattle.std.specs.Prelude.{◌≡◌, ℕ, List, [], ◌∷◌, map, Bool, ⊤}
use Rattle.workers.specs.Connection.{ConnectionView}
use Rattle.workers.specs.declared.arrivals.Arrival.{Arrival}
use Rattle.workers.specs.declared.arrivals.Arrival.TheVariants.{Opens, Ready, Tick, Nothing, Fails, Stops}

-- nothing comes any more
abbrev pub IsStop : {E : Type 0} → Arrival E → Type 0
IsStop Stops = ⊤
IsStop arrival = ⊥

-- What a worker has to follow: a client has connected, for whom this place was told; a stream is ready; some time has passed; the
-- listener has failed; nothing has come; or it is to stop.
pub data News : Type 0 where
  NewClient : (place : ℕ) → (start : ConnectionView) → (reads_only : Bool) → News
  IsReady : (place : ℕ) → (is_closing : Bool) → News
  HasTicked : News
  HasFailed : News
  IsQuiet : News
  IsToStop : News

module _ {E : Type 0} (start : Bool → E → ConnectionView) where
  -- what came after a place was told to be free, as news
  abbrev pub news_in : ℕ → Arrival E → News
  news_in free (Opens end reads_only) = NewClient free (start reads_only end) reads_only
  news_in free (Ready place is_closing) = IsReady place is_closing
  news_in free Tick = HasTicked
  news_in free Nothing = IsQuiet
  news_in free Fails = HasFailed
  news_in free Stops = IsToStop

-- all this came from a source, one after the other, each after this place was told to be free
abbrev pub ComesAll : {E V : Type 0} → (V → ℕ → Arrival E → V → Type 0) → List (ℕ × Arrival E) → V → V → Type 0
ComesAll comes [] old new = new ≡ old
ComesAll {E} {V} comes (both ∷ more) old new = (mid : V) × comes old both.0 both.1 mid × ComesAll comes more mid new

-- A source has brought this news, in this order.
pub record Brings {E V : Type 0} (start : Bool → E → ConnectionView) (comes : V → ℕ → Arrival E → V → Type 0) (news : List News) (old new : V) : Type 0 where
  pub arrivals : List (ℕ × Arrival E)
  pub came : ComesAll comes arrivals old new
  pub all : map (λ both. news_in start both.0 both.1) arrivals ≡ news
