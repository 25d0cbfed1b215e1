-- What an operation answers and leaves, by the row of the table that it means.
use Rattle.std.proofs.Common.{◌≡◌, ◌⊎◌, inl, inr, ℕ, List, Bool, false, cond, bytes_eq, Option, Some, None, Result, Ok, Err, IfOk, refl, sym, ap, subst, ◌∙◌, arith}
use Rattle.std.specs.FinMap as finite
use Rattle.spiffe_doc.specs.Authority.{BundleValue}
use Rattle.map_core.specs.declared.op.Op.{Op}
use Rattle.map_core.specs.declared.op.Op.TheVariants.{Get, FetchAll, FetchUnless}
use Rattle.map_core.specs.declared.held.Holding.{Holding}
use Rattle.map_core.specs.declared.held.Holding.TheVariants.{Published}
use Rattle.map_core.specs.declared.reply.Reply.{Reply}
use Rattle.map_core.specs.declared.reply.Reply.TheVariants.{All, Same, Found}
use Rattle.map_core.specs.declared.table.RowEffect as program
use Rattle.map_core.specs.declared.table.RowEffect.TheVariants.{Kept}
use Rattle.map_core.specs.Name.{Name}
use Rattle.map_core.specs.Op.{domain_of, known_of}
use Rattle.map_core.specs.Dump.{digest}
use Rattle.map_core.specs.Private.Outcome.{reply_of, held_after, outcome_at, left_by}
use Rattle.map_core.specs.Reply.{is_change}
use Rattle.map_core.specs.Table.{Effect, OnName, On_name, meaning, get, fetched}
use Rattle.map_core.specs.PlainMap.{PlainMap, put, bundles, ask_on, ask}
use Rattle.map_core.proofs.Maps.{put-same}

-- the program's outcome is the row's, at what the name holds
at_name : (m : PlainMap) (d : Name) (table : Option Holding → Effect) (o : program.RowEffect) (held : Option Holding)
    → held ≡ finite.get m d → outcome_at held o ≡ table held → outcome_at (finite.get m d) o ≡ table (finite.get m d)
at_name m d table o held is row = subst (λ (h : Option Holding). outcome_at h o ≡ table h) is row

left-put : (m : PlainMap) (d : Name) (o : program.RowEffect) → left_by m (Some d) o ≡ put m d (held_after (finite.get m d) o)
left-put m d o = grind (arith, put-same)

pub row_reply : (m : PlainMap) (op : Op) (d : Name) (table : Option Holding → Effect) (o : program.RowEffect) (held : Option Holding)
    → meaning op ≡ On_name d table → held ≡ finite.get m d → outcome_at held o ≡ table held → reply_of o ≡ (ask m op).reply
unfolding ask
row_reply m op d table o held on is row =
    ap (λ (x : Effect). x.reply) (at_name m d table o held is row) ∙ ap (λ (w : OnName). (ask_on m w).reply) (sym on)

pub row_left : (m : PlainMap) (op : Op) (d : Name) (table : Option Holding → Effect) (o : program.RowEffect) (held : Option Holding)
    → domain_of op ≡ Some d → meaning op ≡ On_name d table → held ≡ finite.get m d → outcome_at held o ≡ table held → left_by m (domain_of op) o ≡ (ask m op).map
unfolding ask
row_left m op d table o held named on is row =
    ap (λ (x : Option Name). left_by m x o) named ∙ left-put m d o
    ∙ ap (λ (x : Effect). put m d x.held) (at_name m d table o held is row) ∙ ap (λ (w : OnName). (ask_on m w).map) (sym on)

-- the same of an outcome that may be out of memory
pub IfOk-row_reply : {E : Type 0} (m : PlainMap) (op : Op) (d : Name) (table : Option Holding → Effect) (r : Result program.RowEffect E) (held : Option Holding)
    → meaning op ≡ On_name d table → held ≡ finite.get m d → IfOk r (λ o. outcome_at held o ≡ table held) → IfOk r (λ o. reply_of o ≡ (ask m op).reply)
IfOk-row_reply m op d table (Ok o) held on is row = row_reply m op d table o held on is row
IfOk-row_reply m op d table (Err e) held on is row = tt

pub IfOk-row_left : {E : Type 0} (m : PlainMap) (op : Op) (d : Name) (table : Option Holding → Effect) (r : Result program.RowEffect E) (held : Option Holding)
    → domain_of op ≡ Some d → meaning op ≡ On_name d table → held ≡ finite.get m d → IfOk r (λ o. outcome_at held o ≡ table held) → IfOk r (λ o. left_by m (domain_of op) o ≡ (ask m op).map)
IfOk-row_left m op d table (Ok o) held named on is row = row_left m op d table o held named on is row
IfOk-row_left m op d table (Err e) held named on is row = tt

get_left : (m : PlainMap) (held : Option Holding) (d : Name) → held ≡ finite.get m d → m ≡ put m d (get held).held
get_left m held d is = grind (arith, put-same)

get_quiet : (held : Option Holding) → is_change (get held).reply ≡ false
get_quiet held = grind arith

-- ---- a get changes nothing
pub get_changes_nothing : (m : PlainMap) (op : Op) (d : Name) → op ≡ Get d → false ≡ is_change (ask m op).reply
unfolding ask meaning
get_changes_nothing m op d is = sym (get_quiet (finite.get m d)) ∙ ap (λ (x : Op). is_change (ask m x).reply) (sym is)

-- the reply of the row of Get, at what the name holds
pub get_reply : {E : Type 0} (m : PlainMap) (d : Name) (r : Result Reply E) (held : Option Holding) → held ≡ finite.get m d → IfOk r (λ reply. reply ≡ (get held).reply) → IfOk r (λ reply. reply ≡ (ask m (Get d)).reply)
unfolding ask meaning
get_reply m d r held is h = subst (λ (x : Option Holding). IfOk r (λ reply. reply ≡ (get x).reply)) is h

-- the same where a bundle was found
pub found_reply : (m : PlainMap) (d : Name) (held : Option Holding) (b : BundleValue) → held ≡ finite.get m d → held ≡ Some (Published b) → Found b ≡ (ask m (Get d)).reply
unfolding ask meaning
found_reply m d held b is found = ap (λ (x : Option Holding). (get x).reply) (sym found ∙ is)

-- a reply that is kept leaves the map
pub kept_left : (m : PlainMap) (op : Op) (d : Name) (reply : Reply) → op ≡ Get d → left_by m (domain_of op) (Kept reply) ≡ (ask m op).map
unfolding ask meaning
kept_left m op d reply is =
    ap (λ (x : Op). left_by m (domain_of x) (Kept reply)) is ∙ get_left m (finite.get m d) d refl ∙ ap (λ (x : Op). (ask m x).map) (sym is)

-- ---- an operation on all names
pub is_on_all : (op : Op) → (op ≡ FetchAll) ⊎ ((known : List ℕ) × (op ≡ FetchUnless known)) → domain_of op ≡ None
is_on_all op (inl is) = ap domain_of is
is_on_all op (inr is) = ap domain_of is.1

same_or_all : (b : Bool) (items : List (Name × BundleValue)) → is_change (cond b Same (All items)) ≡ false
same_or_all b items = grind arith

pub fetched_quiet : (known : Option (List ℕ)) (items : List (Name × BundleValue)) → is_change (fetched known items) ≡ false
fetched_quiet None items = refl
fetched_quiet (Some known) items = same_or_all (bytes_eq known (digest items)) items

pub fetched_reply : (m : PlainMap) (op : Op) → domain_of op ≡ None → (ask m op).reply ≡ fetched (known_of op) (bundles m)
unfolding ask meaning
fetched_reply m op none = grind arith

pub fetched_left : (m : PlainMap) (op : Op) (o : program.RowEffect) → domain_of op ≡ None → left_by m (domain_of op) o ≡ (ask m op).map
unfolding ask meaning
fetched_left m op o none = grind arith

pub fetched_changes_nothing : (m : PlainMap) (op : Op) → domain_of op ≡ None → false ≡ is_change (ask m op).reply
fetched_changes_nothing m op none = sym (ap is_change (fetched_reply m op none) ∙ fetched_quiet (known_of op) (bundles m))

pub fetch_all : (m : PlainMap) → (ask m FetchAll).reply ≡ All (bundles m)
fetch_all m = fetched_reply m FetchAll refl
