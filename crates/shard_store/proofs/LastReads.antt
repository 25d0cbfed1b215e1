-- What a pass remembers: it stays true while the pass sees more, and is the shard's part while the revision is the same.
use Rattle.std.proofs.Common.{◌≡◌, ℕ, zero, suc, ◌*◌, ◌/◌, ◌≤◌, Bool, true, false, List, [], ◌∷◌, ◌++◌, Option, Some, None, get_or, set, sym, refl, ap, ◌∙◌, subst, append_assoc, get_or-set_other, arith}
use mathlib.Core.Logic.{dite}
use native.Mathlib.Decide.{ℕ_discrete}
use Rattle.std.proofs.lemmas.List.{append-nil}
use Rattle.std.specs.Prelude.{IfSome, MatchOption}
use Rattle.std.specs.Arc.{arc_value}
use Rattle.map_core.specs.declared.op.Op.{Op}
use Rattle.map_core.specs.declared.reply.Reply.{Reply}
use Rattle.map_core.specs.declared.reply.AskError.{AskError}
use Rattle.map_core.specs.declared.reply.AskError.TheVariants.{Memory, Worn, Moved, Held, GateShut}
use Rattle.map_core.specs.Reply.{is_change}
use Rattle.map_core.specs.PlainMap.{PlainMap}
use Rattle.shard_store.specs.declared.change.Change.{Change}
use Rattle.shard_store.specs.declared.change.Seen.{Seen}
use Rattle.shard_store.specs.declared.last_reads.LastRead.{LastRead}
use Rattle.shard_store.specs.Changes.{count, change_of, own_number}
use Rattle.shard_store.specs.Numbers.{IsPart}
use Rattle.shard_store.specs.Private.Readings.{WasRead}
use Rattle.shard_store.specs.Private.LastReads.{IsLastRead, AreLastReads}
use Rattle.shard_store.specs.Promise.{IsLater, IsReply, IsRefusedAt}
use Rattle.shard_store.proofs.Readings.{part_confirmed}

-- the second list begins with the first
abbrev pub Begins : List Change → List Change → Type 0
Begins from log = (new : List Change) × (log ≡ from ++ new)

not_read : (r : LastRead) → None ≡ Some r → ⊥
not_read r e = absurd (cc)

same_read : (r q : LastRead) → Some r ≡ Some q → r ≡ q
same_read r q e = cc

at_least_none : (k : ℕ) → 0 ≤ k
at_least_none k = omega arith

begins_two : (from list log a b : List Change) → list ≡ from ++ a → log ≡ list ++ b → Begins from log
begins_two from list log a b e f = (a ++ b, f ∙ (ap (λ (x : List Change). x ++ b) e ∙ append_assoc from a b))

pub none_case : {A : Type 0} (o : Option A) (P : Type 0) (Q : A → Type 0) → o ≡ None → MatchOption o P Q → P
none_case {A} o P Q e m = subst (λ (x : Option A). MatchOption x P Q) e m

pub some_there : {A : Type 0} (o : Option A) (x : A) (Q : A → Type 0) → o ≡ Some x → IfSome o Q → Q x
some_there {A} o x Q e m = subst (λ (y : Option A). IfSome y Q) e m

pub some_case : {A : Type 0} (o : Option A) (x : A) (P : Type 0) (Q : A → Type 0) → o ≡ Some x → MatchOption o P Q → Q x
some_case {A} o x P Q e m = subst (λ (y : Option A). MatchOption y P Q) e m

-- what is the shard's part now, may be remembered
pub read_here : (n i : ℕ) (log : List Change) (r : LastRead) → count n log i ≡ r.revision → IsPart n i log (arc_value r.version) → IsLastRead n i log (Some r)
read_here n i log r e p q is = subst (λ (x : LastRead). WasRead n i [] log x.revision x.version) (same_read r q is) (log, [], sym (append-nil log), e, p, at_least_none r.revision)

pub none_here : (n i : ℕ) (log : List Change) → IsLastRead n i log None
none_here n i log r e = absurd (not_read r e)

-- so may a copy of it
pub copied_here : (n i : ℕ) (log : List Change) (r : LastRead) (revision : ℕ) (contents : PlainMap) → (r.revision ≡ revision) × (arc_value r.version ≡ contents) → count n log i ≡ revision → IsPart n i log contents → IsLastRead n i log (Some r)
copied_here n i log r revision contents same e p = read_here n i log r (e ∙ sym same.0) (subst (λ (m : PlainMap). IsPart n i log m) (sym same.1) p)

pub halved : (word n : ℕ) → word ≡ 2 * n → n ≡ word / 2
halved word n e = omega arith

-- it stays so
pub read_longer : (n i : ℕ) (log more : List Change) (read : Option LastRead) → Begins log more → IsLastRead n i log read → IsLastRead n i more read
read_longer n i log more read b told r e = let was = told r e in (was.0, was.1 ++ b.0, b.1 ∙ (ap (λ (x : List Change). x ++ b.0) was.2 ∙ append_assoc was.0 was.1 b.0), was.3, was.4, was.5)

pub reads_longer : (n : ℕ) (log more : List Change) (reads : List (Option LastRead)) → Begins log more → AreLastReads n log reads → AreLastReads n more reads
reads_longer n log more reads b told shard = read_longer n shard log more (get_or reads shard None) b (told shard)

pub reads_later : (n : ℕ) (s t : Seen) (reads : List (Option LastRead)) → IsLater t s → AreLastReads n s.log reads → AreLastReads n t.log reads
reads_later n s t reads l told = reads_longer n s.log t.log reads (l.0.0, l.0.1) told

pub begins_answered : (op : Op) (s t : Seen) (reply : Reply) → IsReply op s reply t → Begins s.log t.log
begins_answered op s t reply a = by_kind (is_change reply) refl
  where
    by_kind : (b : Bool) → is_change reply ≡ b → Begins s.log t.log
    by_kind true is = begins_two s.log a.0 t.log a.1.0 (change_of op a.0 (own_number s.ranges) ∷ []) a.1.1 (a.4 is)
    by_kind false is = let more = a.5 is in begins_two s.log a.0 t.log a.1.0 more.0 a.1.1 more.1

-- also after an answer
pub reads_answered : (n : ℕ) (op : Op) (s t : Seen) (reply : Reply) (reads : List (Option LastRead)) → IsReply op s reply t → AreLastReads n s.log reads → AreLastReads n t.log reads
reads_answered n op s t reply reads a told = reads_longer n s.log t.log reads (begins_answered op s t reply a) told

pub refused_at_later : (n : ℕ) (op : Op) (s t : Seen) (e : AskError) → IsRefusedAt n op s t e → IsLater t s
refused_at_later n op s t Memory r = r
refused_at_later n op s t (Worn i) r = r.0
refused_at_later n op s t (Held i k) r = r.0
refused_at_later n op s t (Moved i k m) r = absurd r
refused_at_later n op s t GateShut r = absurd r

pub reads_refused : (n : ℕ) (op : Op) (s t : Seen) (e : AskError) (reads : List (Option LastRead)) → IsRefusedAt n op s t e → AreLastReads n s.log reads → AreLastReads n t.log reads
reads_refused n op s t e reads r told = reads_later n s t reads (refused_at_later n op s t e r) told

-- at a load that finds the revision, what was read is the shard's part
pub recalled : (n i revision : ℕ) (s t : Seen) (reads : List (Option LastRead)) (r : LastRead) → IsLater t s → AreLastReads n s.log reads → get_or reads i None ≡ Some r → r.revision ≡ revision → revision ≡ count n t.log i
    → (count n t.log i ≡ r.revision) × IsPart n i t.log (arc_value r.version)
recalled n i revision s t reads r l told at same counted = let now : count n t.log i ≡ r.revision = sym counted ∙ sym same in
    (now, part_confirmed n i [] t.log r.revision r.version (reads_later n s t reads l told i r at) (at_most (count n t.log i) r.revision now))
  where
    at_most : (a b : ℕ) → a ≡ b → a ≤ b
    at_most a b e = omega arith

none_more : (reads : List (Option LastRead)) (k : ℕ) → get_or (reads ++ None ∷ []) k None ≡ get_or reads k None
none_more [] zero = refl
none_more [] (suc k) = refl
none_more (x ∷ xs) zero = refl
none_more (x ∷ xs) (suc k) = none_more xs k

-- there is room for one more
pub reads_room : (n : ℕ) (log : List Change) (reads more : List (Option LastRead)) → more ≡ reads ++ None ∷ [] → AreLastReads n log reads → AreLastReads n log more
reads_room n log reads more e told = subst (λ (x : List (Option LastRead)). AreLastReads n log x) (sym e)
    (λ shard. subst (λ (x : Option LastRead). IsLastRead n shard log x) (sym (none_more reads shard)) (told shard))

set_there : (P : Option LastRead → Type 0) (reads : List (Option LastRead)) (i : ℕ) (read : Option LastRead) → P None → P read → P (get_or (set reads i read) i None)
set_there P [] i read none one = none
set_there P (x ∷ xs) zero read none one = one
set_there P (x ∷ xs) (suc i) read none one = set_there P xs i read none one

-- one shard was read again
pub reads_kept : (n i : ℕ) (log : List Change) (reads : List (Option LastRead)) (read : Option LastRead) → AreLastReads n log reads → IsLastRead n i log read → AreLastReads n log (set reads i read)
reads_kept n i log reads read told one shard = dite (ℕ_discrete shard i)
    (λ here. subst (λ (k : ℕ). IsLastRead n k log (get_or (set reads i read) k None)) (sym here) (set_there (λ (x : Option LastRead). IsLastRead n i log x) reads i read (none_here n i log) one))
    (λ other. subst (λ (x : Option LastRead). IsLastRead n shard log x) (sym (get_or-set_other reads i shard read None other)) (told shard))
