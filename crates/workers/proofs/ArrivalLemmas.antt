-- What came to a worker.
use Rattle.std.proofs.Common.{◌≡◌, ℕ, List, [], ◌∷◌, ◌++◌, refl, ap, ◌∙◌, subst, inl, inr}
use Rattle.std.specs.Prelude.{◌⊎◌, Bool}
use Rattle.std.proofs.lemmas.List.{map-append}
use Rattle.workers.specs.Connection.{ConnectionView}
use Rattle.workers.specs.declared.arrivals.Arrival.{Arrival}
use Rattle.workers.specs.declared.arrivals.Arrival.TheVariants.{Opens, Ready, Tick, Nothing, Fails, Stops}
use Rattle.workers.specs.Arrivals.{Brings, News, IsStop, ComesAll, news_in}

stop_is : {E : Type 0} (arrival : Arrival E) → IsStop arrival → arrival ≡ Stops
stop_is (Opens end reads_only) stop = absurd stop
stop_is (Ready place is_closing) stop = absurd stop
stop_is Tick stop = absurd stop
stop_is Nothing stop = absurd stop
stop_is Fails stop = absurd stop
stop_is Stops stop = refl

-- what is no stop is on the way to one
pub goes_on : {E P : Type 0} (arrival : Arrival E) → IsStop arrival ⊎ P → (arrival ≡ Stops → ⊥) → P
goes_on arrival (inl stop) other = absurd (other (stop_is arrival stop))
goes_on arrival (inr p) other = p

module _ {E V : Type 0} (start : Bool → E → ConnectionView) (comes : V → ℕ → Arrival E → V → Type 0) where
  comes_then : (xs ys : List (ℕ × Arrival E)) (a b c : V) → ComesAll comes xs a b → ComesAll comes ys b c → ComesAll comes (xs ++ ys) a c
  comes_then [] ys a b c p q = subst (λ (v : V). ComesAll comes ys v c) p q
  comes_then (x ∷ xs) ys a b c p q = (p.0, p.1, comes_then xs ys p.0 b c p.2 q)

  -- nothing came yet
  pub brings_none : (v : V) → Brings start comes [] v v
  brings_none v = record { arrivals = []; came = refl; all = refl }

  -- one thing more came, after a place was told to be free
  pub brings_more : (news : List News) (free : ℕ) (arrival : Arrival E) (a b c : V) → Brings start comes news a b → comes b free arrival c
      → Brings start comes (news ++ news_in start free arrival ∷ []) a c
  brings_more news free arrival a b c h came = record {
    arrivals = h.arrivals ++ (free, arrival) ∷ [];
    came = comes_then h.arrivals ((free, arrival) ∷ []) a b c h.came (c, came, refl);
    all = map-append (λ (both : ℕ × Arrival E). news_in start both.0 both.1) h.arrivals ((free, arrival) ∷ []) ∙ ap (λ (l : List News). l ++ news_in start free arrival ∷ []) h.all;
  }
