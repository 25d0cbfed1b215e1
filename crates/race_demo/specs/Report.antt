-- What is counted and told of a race.
use Rattle.std.specs.Prelude.{◌≡◌, ◌≤◌, ◌<◌, ◌⊎◌, IfSome, ℕ, ◌+◌, ◌-◌, ◌^◌, min, List, [], ◌∷◌, ◌++◌, codes, decimal, Option, Some, None}
use Rattle.std.specs.Option.{unwrap_or}
use Rattle.race_demo.specs.Moment.{IsMap}
use Rattle.race_demo.specs.declared.judge.Tally.{Tally}
use Rattle.race_demo.specs.declared.report.Findings.{Findings}

-- a count of one more, which stays at the greatest
abbrev pub one_more : ℕ → ℕ
one_more count = min (count + 1) (2 ^ 64 - 1)

-- a reading more that was a map at some moment
abbrev pub counted : Tally → Tally
counted tally = record tally { readings = one_more tally.readings }

-- a reading more that never was
abbrev pub counted_mixed : Tally → List ℕ → Tally
counted_mixed tally reading = record { readings = one_more tally.readings; mixed = one_more tally.mixed; first = Some (unwrap_or tally.first reading) }

-- a reading more, and what it was
abbrev pub Counts : Tally → List ℕ → Tally → Type 0
Counts old reading new = (IsMap reading × (new ≡ counted old)) ⊎ ((IsMap reading → ⊥) × (new ≡ counted_mixed old reading))

-- what a tally tells: there are no more maps that never were than readings, and the first of them never was
pub record IsHonest (tally : Tally) : Type 0 where
  pub fits : tally.readings < 2 ^ 64
  pub fewer : tally.mixed ≤ tally.readings
  pub first : IfSome tally.first (λ reading. IsMap reading → ⊥)

-- the letter of a domain, and its number
abbrev pub place_text : ℕ → ℕ → List ℕ
place_text letter number = 32 ∷ letter ∷ 32 ∷ decimal number

-- a letter and a number for each domain, from this letter on
unfoldable pub numbers_text : ℕ → List ℕ → List ℕ
numbers_text letter [] = []
numbers_text letter (number ∷ numbers) = place_text letter number ++ numbers_text (letter + 1) numbers

abbrev pub reading_line : List ℕ → List ℕ
reading_line reading = codes "  the first:" ++ (numbers_text 97 reading ++ codes "\n")

abbrev pub first_line : Option (List ℕ) → List ℕ
first_line None = []
first_line (Some reading) = reading_line reading

-- how many readings, how many of them never were, and the first of those
unfoldable pub tally_text : List ℕ → Tally → List ℕ
tally_text reader tally =
    (reader ++ decimal tally.readings) ++ ((codes " readings, " ++ decimal tally.mixed) ++ (codes " of them maps that never were\n" ++ first_line tally.first))

unfoldable pub head : List ℕ
head = codes "Two writers set four domains each, one after another, over and over, to the number\nof the round: one a to d, the other e to h. At any moment the first few of four\nhave a number, and the others have the number before it.\n\n"

-- the report of a race
unfoldable pub report : Findings → List ℕ
report found =
    head ++ ((codes "bundles set: " ++ decimal found.sets) ++ (tally_text (codes "\ndomain by domain: ") found.each ++ tally_text (codes "fetch-all: ") found.all))
