-- The numbers that a bundle in memory keeps, for private contracts.
use Rattle.std.specs.Prelude.{ℕ, Option}

-- its two numbers, and how many bytes of its text stand up to the last entry
pub record NumbersValue : Type 0 where
  pub sequence : Option ℕ
  pub refresh_hint : Option ℕ
  pub front_len : ℕ
