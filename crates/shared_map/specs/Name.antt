-- The names of trust domains, by their bytes.
use Rattle.std.specs.Prelude.{ℕ, List}
use Rattle.std.specs.declared.cmp.Ordering.{Ordering}
use Rattle.std.specs.Ordering.{nat_cmp}
use Rattle.std.specs.Cmp.Lexicographic.{slice_cmp}

abbrev pub Name : Type 0
Name = List ℕ

-- names are ordered by their bytes
abbrev pub name_cmp : Name → Name → Ordering
name_cmp = slice_cmp nat_cmp
