-- All passes joined have all numbers, and the list that closing shows extends what each has seen.
use Rattle.std.proofs.Common.{◌≡◌, ℕ, List, [], ◌∷◌, ◌++◌, refl, sym, ap, subst, ◌∙◌, append_assoc, append-nil, length, arith, Result, Ok, Err}
use Rattle.std.specs.List.{flat_map, AllByRecursion}
use Rattle.map_core.specs.PlainMap.{PlainMap}
use Rattle.shard_store.specs.declared.change.Change.{Change}
use Rattle.shard_store.specs.declared.change.Seen.{Seen}
use Rattle.shard_store.specs.declared.close.CloseError.{CloseError}
use Rattle.shard_store.specs.declared.close.CloseError.TheVariants.{Memory, HeldAtEnd}
use Rattle.shard_store.specs.Changes.{AreOthers, Extends, HasNumber}
use Rattle.shard_store.specs.Pass.{StoreView}
use Rattle.shard_store.specs.Close.{CloseAnswer}
use Rattle.workers.specs.Closing.{AreAll, ClosesAs}
use Rattle.workers.proofs.NumberLemmas.{has_left, has_right}
use Rattle.workers.specs.declared.ended.Worked.{Worked}

abbrev pub ranges_of_all : List Worked → List (ℕ × ℕ)
ranges_of_all worked = flat_map (λ (w : Worked). w.pass.seen.ranges) worked

pub none_left : (worked : List Worked) → length worked ≡ 0 → worked ≡ []
none_left [] none = refl
none_left (w ∷ ws) none = absurd (omega (arith, none))

-- changes of others of all are others of each
fewer_ranges : (rs ss : List (ℕ × ℕ)) (changes : List Change) → ((k : ℕ) → HasNumber rs k → HasNumber ss k) → AreOthers ss changes → AreOthers rs changes
fewer_ranges rs ss [] among others = tt
fewer_ranges rs ss (c ∷ cs) among others = (others.0, (λ h. others.1 (among c.number h)), fewer_ranges rs ss cs among others.2)

both_others : (rs : List (ℕ × ℕ)) (one two : List Change) → AreOthers rs one → AreOthers rs two → AreOthers rs (one ++ two)
both_others rs [] two a b = b
both_others rs (c ∷ cs) two a b = (a.0, a.1, both_others rs cs two a.2 b)

-- a list that extends the log of one who has more numbers extends what was seen with fewer
extends_more : (list : List Change) (seen more : Seen) → ((k : ℕ) → HasNumber seen.ranges k → HasNumber more.ranges k) → Extends more.log seen → Extends list more → Extends list seen
extends_more list seen more among a b = (
  a.0 ++ b.0,
  b.1 ∙ (ap (λ (l : List Change). l ++ b.0) a.1 ∙ append_assoc seen.log a.0 b.0),
  both_others seen.ranges a.0 b.0 a.2 (fewer_ranges seen.ranges more.ranges b.0 among b.2),
)

-- each of the workers has seen no more than this, and has no more numbers
abbrev AllWithin : Seen → List Worked → Type 0
AllWithin seen worked = AllByRecursion (λ w. Extends seen.log w.pass.seen × ((k : ℕ) → HasNumber w.pass.seen.ranges k → HasNumber seen.ranges k)) worked

within_more : (old new : Seen) (worked : List Worked) → ((k : ℕ) → HasNumber old.ranges k → HasNumber new.ranges k) → Extends new.log old → AllWithin old worked → AllWithin new worked
within_more old new [] among extends h = tt
within_more old new (w ∷ ws) among extends h =
    ((extends_more new.log w.pass.seen old h.0.1 h.0.0 extends, λ k has. among k (h.0.1 k has)), within_more old new ws among extends h.1)

one_more_within : (seen : Seen) (worked : List Worked) (w : Worked) → AllWithin seen worked → Extends seen.log w.pass.seen
    → ((k : ℕ) → HasNumber w.pass.seen.ranges k → HasNumber seen.ranges k) → AllWithin seen (worked ++ w ∷ [])
one_more_within seen [] w h extends among = ((extends, among), tt)
one_more_within seen (v ∷ vs) w h extends among = (h.0, one_more_within seen vs w h.1 extends among)

all_extended : (list : List Change) (seen : Seen) (worked : List Worked) → Extends list seen → AllWithin seen worked → AllByRecursion (λ w. Extends list w.pass.seen) worked
all_extended list seen [] extends h = tt
all_extended list seen (w ∷ ws) extends h = (extends_more list w.pass.seen seen h.0.1 h.0.0 extends, all_extended list seen ws extends h.1)

-- what was taken so far: the joined pass has their ranges, and has seen what they have
pub record IsJoined (taken : List Worked) (rest : List Worked) (all : List Worked) (seen : Seen) : Type 0 where
  pub split : taken ++ rest ≡ all
  pub ranges : seen.ranges ++ ranges_of_all rest ≡ ranges_of_all all
  pub within : AllWithin seen taken

pub joined_first : (w : Worked) (rest all : List Worked) → w ∷ rest ≡ all → IsJoined (w ∷ []) rest all w.pass.seen
joined_first w rest all e = record { split = e; ranges = ap ranges_of_all e; within = ((([], sym (append-nil w.pass.seen.log), tt), λ k h. h), tt) }

pub joined_more : (taken : List Worked) (w : Worked) (rest all : List Worked) (old new : Seen) → IsJoined taken (w ∷ rest) all old
    → Extends new.log old → Extends new.log w.pass.seen → new.ranges ≡ old.ranges ++ w.pass.seen.ranges → IsJoined (taken ++ w ∷ []) rest all new
joined_more taken w rest all old new h a b ranges =
    let among_old = λ (k : ℕ) (has : HasNumber old.ranges k). subst (λ (r : List (ℕ × ℕ)). HasNumber r k) (sym ranges) (has_left old.ranges w.pass.seen.ranges k has) in
    let among_new = λ (k : ℕ) (has : HasNumber w.pass.seen.ranges k). subst (λ (r : List (ℕ × ℕ)). HasNumber r k) (sym ranges) (has_right old.ranges w.pass.seen.ranges k has) in
    record {
      split = append_assoc taken (w ∷ []) rest ∙ h.split;
      ranges = ap (λ (r : List (ℕ × ℕ)). r ++ ranges_of_all rest) ranges ∙ append_assoc old.ranges w.pass.seen.ranges (ranges_of_all rest) ∙ h.ranges;
      within = one_more_within new taken w (within_more old new taken among_old a h.within) b among_new;
    }

module _ (store : StoreView) (all : List Worked) (seen : Seen) where
  pub closes_all : (result : Result PlainMap CloseError) → IsJoined all [] all seen → AreAll (ranges_of_all all) → CloseAnswer store seen result → ClosesAs all result
  closes_all (Ok contents) h numbers a = (a.0, all_extended a.0 seen all a.1 h.within, a.2)
  closes_all (Err Memory) h numbers a = tt
  closes_all (Err (HeldAtEnd shard)) h numbers a =
      let own : seen.ranges ≡ ranges_of_all all = sym (append-nil seen.ranges) ∙ h.ranges in
      absurd (a.1 (subst AreAll (sym own) numbers))
