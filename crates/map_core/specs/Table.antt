-- The table of operations on one name: the reply, and what the name holds then, follow from what it held.
use Rattle.std.specs.Prelude.{ℕ, Bool, false, List, bytes_eq, Option, Some, None, option_map, Result, Ok, Err, nat_lt, if◌then◌else◌}
use Rattle.spiffe_doc.specs.Authority.{BundleValue}
use Rattle.spiffe_doc.specs.Equal.{bundle_eq}
use Rattle.spiffe_doc.specs.Append.{appended}
use Rattle.spiffe_doc.specs.declared.authority.Authority.{Authority}
use Rattle.spiffe_doc.specs.declared.error.AppendError.{AppendError}
use Rattle.spiffe_doc.specs.declared.error.AppendError.TheVariants as cannot
use Rattle.map_core.specs.declared.op.Op.{Op}
use Rattle.map_core.specs.declared.op.Op.TheVariants.{Set, SetIf, Append, Remove, Get, FetchAll, FetchUnless}
use Rattle.map_core.specs.declared.op.Expect.{Expect}
use Rattle.map_core.specs.declared.op.Expect.TheVariants.{Absent, Sequence, Unnumbered}
use Rattle.map_core.specs.declared.held.Holding.{Holding}
use Rattle.map_core.specs.declared.held.Holding.TheVariants.{Published, Mark}
use Rattle.map_core.specs.declared.held.Standing.{Standing}
use Rattle.map_core.specs.declared.held.Standing.TheVariants as stands
use Rattle.map_core.specs.declared.reply.Reply.{Reply}
use Rattle.map_core.specs.declared.reply.Reply.TheVariants.{Stored, Unchanged, Appended, Removed, Found, All, Same, Refused}
use Rattle.map_core.specs.declared.reply.MapRefusal.TheVariants.{NoDomain, Stale, KidTaken, TooMany, TooLong, SequenceFull, NotExpected}
use Rattle.map_core.specs.Name.{Name}
use Rattle.map_core.specs.Op.{expect_eq}
use Rattle.map_core.specs.Dump.{digest}

-- what an operation on one name gives: the reply, and what the name holds then
pub record Effect : Type 0 where
  pub reply : Reply
  pub held : Option Holding

-- what stands under a name, by what is held there
abbrev pub standing : Option Holding → Standing
standing None = stands.Nothing
standing (Some (Published b)) = stands.Bundle
standing (Some (Mark s)) = stands.Mark

-- the name keeps what it held
abbrev pub keep : Reply → Option Holding → Effect
keep reply held = record { reply = reply; held = held }

-- the bundle is stored, in place of what the name held
abbrev pub store : BundleValue → Effect
store b = record { reply = Stored; held = Some (Published b) }

-- whether both sequences are there and the first is lower
abbrev pub is_lower : Option ℕ → ℕ → Bool
is_lower None before = false
is_lower (Some s) before = nat_lt s before

-- the bundle is stored, unless its sequence is lower than the one before
abbrev pub store_after : Option ℕ → BundleValue → Option Holding → Effect
store_after None b held = store b
store_after (Some before) b held = if is_lower b.sequence before then keep (Refused (Stale before)) held else store b

-- Set: a mark is measured as the bundle that it was; an equal bundle stays
abbrev pub set : BundleValue → Option Holding → Effect
set b None = store b
set b (Some (Mark s)) = store_after (Some s) b (Some (Mark s))
set b (Some (Published c)) =
    if bundle_eq b c then keep Unchanged (Some (Published c)) else store_after c.sequence b (Some (Published c))

-- the expectation that fits a bundle of this sequence
abbrev pub expect_sequence : Option ℕ → Expect
expect_sequence (Some s) = Sequence s
expect_sequence None = Unnumbered

-- the expectation that fits what is held: a mark is not a bundle
abbrev pub expectation : Option Holding → Expect
expectation None = Absent
expectation (Some (Mark s)) = Absent
expectation (Some (Published b)) = expect_sequence b.sequence

-- SetIf: as Set, if the expectation fits
abbrev pub set_if : Expect → BundleValue → Option Holding → Effect
set_if expect b held =
    if expect_eq expect (expectation held) then set b held else keep (Refused (NotExpected (expectation held))) held

-- what is answered if the bundle doesn't take the authority (`appended` never gives Memory)
abbrev pub append_refusal : AppendError → Reply
append_refusal cannot.Present = Unchanged
append_refusal cannot.KidTaken = Refused KidTaken
append_refusal cannot.TooMany = Refused TooMany
append_refusal cannot.SequenceFull = Refused SequenceFull
append_refusal cannot.TooLong = Refused TooLong
append_refusal cannot.Memory = Unchanged

-- the longer bundle is held, if there is one
abbrev pub append_to : BundleValue → Result BundleValue AppendError → Effect
append_to b (Ok longer) = record { reply = Appended longer.sequence; held = Some (Published longer) }
append_to b (Err why) = keep (append_refusal why) (Some (Published b))

-- Append: to a bundle only
abbrev pub append : Authority → Option Holding → Effect
append a None = keep (Refused NoDomain) None
append a (Some (Mark s)) = keep (Refused NoDomain) (Some (Mark s))
append a (Some (Published b)) = append_to b (appended b a)

-- Remove: the bundle leaves a mark of its sequence, if it has one
abbrev pub remove : Option Holding → Effect
remove None = keep (Refused NoDomain) None
remove (Some (Mark s)) = keep (Refused NoDomain) (Some (Mark s))
remove (Some (Published b)) = record { reply = Removed; held = option_map Mark b.sequence }

-- Get: the bundle, if there is one
abbrev pub get : Option Holding → Effect
get None = keep (Refused NoDomain) None
get (Some (Mark s)) = keep (Refused NoDomain) (Some (Mark s))
get (Some (Published b)) = keep (Found b) (Some (Published b))

-- FetchAll and FetchUnless: all bundles, unless their digest is the one that is known. Of two lists of bundles with one digest, one may
-- be taken for the other
abbrev pub fetched : Option (List ℕ) → List (Name × BundleValue) → Reply
fetched None items = All items
fetched (Some known) items = if bytes_eq known (digest items) then Same else All items

-- an operation is on one name, by a row of the table, or on all names, where a digest may be known
pub data OnName : Type 0 where
  On_name : Name → (Option Holding → Effect) → OnName
  On_all : Option (List ℕ) → OnName

-- what each operation is on, and its row
unfoldable pub meaning : Op → OnName
meaning (Set d b) = On_name d (set b)
meaning (SetIf d expect b) = On_name d (set_if expect b)
meaning (Append d a) = On_name d (append a)
meaning (Remove d) = On_name d remove
meaning (Get d) = On_name d get
meaning FetchAll = On_all None
meaning (FetchUnless known) = On_all (Some known)
