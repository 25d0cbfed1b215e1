-- What the plain map answers, in its parts: all that the crates above use of it.
use Rattle.std.proofs.Common.{◌≡◌, ◌≢◌, ℕ, ◌<◌, Bool, true, false, true≢false, Option, Some, None, refl, sym, ap, subst, ◌∙◌, arith}
use Rattle.std.specs.FinMap as finite
use Rattle.map_core.specs.declared.op.Op.{Op}
use Rattle.map_core.specs.declared.op.Op.TheVariants.{Set, SetIf, Append, Remove, Get, FetchAll, FetchUnless}
use Rattle.map_core.specs.declared.held.Holding.{Holding}
use Rattle.map_core.specs.Name.{Name}
use Rattle.map_core.specs.Reply.{is_change}
use Rattle.map_core.specs.Table.{OnName, On_name, On_all, meaning, fetched}
use Rattle.map_core.specs.PlainMap.{PlainMap, put, bundles, ask_on, ask, name_of, home, shard_of, partition, merge}
use Rattle.map_core.specs.Op.{domain_of, known_of}
use Rattle.map_core.proofs.Asks.{fetched_reply, fetched_quiet}
use Rattle.map_core.proofs.Tables.{Keeps, Changes, set_changes, set_if_changes, append_changes, remove_changes, get_changes, set_keeps, set_if_keeps, append_keeps, remove_keeps, get_keeps}
use Rattle.std.proofs.Common.{cond, [], option_map}
use Rattle.std.specs.Option.{unwrap_or}
use Rattle.map_core.proofs.Maps.{is_name, same_name, name_itself, get-put, put-same, get-part_home, part-put_home, part-put_away, together_parts, together_same}

-- the name and the shard of what an operation means
abbrev name_on : OnName → Option Name
name_on (On_name d table) = Some d
name_on (On_all known) = None

abbrev shard_on : ℕ → OnName → Option ℕ
shard_on n w = option_map (home n) (name_on w)

domain_on : (op : Op) → name_on (meaning op) ≡ domain_of op
unfolding meaning
domain_on op = grind arith

shard_is : (n : ℕ) (op : Op) → shard_on n (meaning op) ≡ shard_of n op
unfolding shard_of
shard_is n op = ap (option_map (home n)) (domain_on op)

name_is : (op : Op) → unwrap_or (name_on (meaning op)) [] ≡ name_of op
unfolding name_of
name_is op = ap (λ (o : Option Name). unwrap_or o []) (domain_on op)

abbrev pub KeepsAll : OnName → Type 0
KeepsAll (On_name d table) = Keeps table
KeepsAll (On_all known) = Unit {0}

meaning_keeps : (op : Op) → KeepsAll (meaning op)
unfolding meaning
meaning_keeps (Set d b) = set_keeps b
meaning_keeps (SetIf d expect b) = set_if_keeps expect b
meaning_keeps (Append d a) = append_keeps a
meaning_keeps (Remove d) = remove_keeps
meaning_keeps (Get d) = get_keeps
meaning_keeps FetchAll = tt
meaning_keeps (FetchUnless known) = tt

on_keeps : (m : PlainMap) (w : OnName) → KeepsAll w → is_change (ask_on m w).reply ≡ false → (ask_on m w).map ≡ m
on_keeps m (On_name d table) keeps h = put-same m d _ (keeps (finite.get m d) h)
on_keeps m (On_all known) keeps h = refl

-- a reply that tells of no change leaves the map
pub ask_keeps : (m : PlainMap) (op : Op) → is_change (ask m op).reply ≡ false → (ask m op).map ≡ m
unfolding ask
ask_keeps m op h = on_keeps m (meaning op) (meaning_keeps op) h

on_part_reply : (n : ℕ) (m : PlainMap) (i : ℕ) (w : OnName) → shard_on n w ≡ Some i → (ask_on (partition n m i) w).reply ≡ (ask_on m w).reply
on_part_reply n m i (On_name d table) at =
    let is : home n d ≡ i = (cc) in ap (λ held. (table held).reply) (get-part_home n m i d is)
on_part_reply n m i (On_all known) at = cc

-- the shard of the name gives the reply
pub part_reply : (n : ℕ) (m : PlainMap) (op : Op) (i : ℕ) → shard_of n op ≡ Some i → (ask (partition n m i) op).reply ≡ (ask m op).reply
unfolding ask
part_reply n m op i at = on_part_reply n m i (meaning op) (shard_is n op ∙ at)

on_part_home : (n : ℕ) (m : PlainMap) (i : ℕ) (w : OnName) → shard_on n w ≡ Some i → partition n (ask_on m w).map i ≡ (ask_on (partition n m i) w).map
on_part_home n m i (On_name d table) at =
    let is : home n d ≡ i = (cc) in
    part-put_home n m i d _ is ∙ ap (λ held. put (partition n m i) d (table held).held) (sym (get-part_home n m i d is))
on_part_home n m i (On_all known) at = cc

-- and changes as the map does there
pub part_home : (n : ℕ) (m : PlainMap) (op : Op) (i : ℕ) → shard_of n op ≡ Some i → partition n (ask m op).map i ≡ (ask (partition n m i) op).map
unfolding ask
part_home n m op i at = on_part_home n m i (meaning op) (shard_is n op ∙ at)

on_part_away : (n : ℕ) (m : PlainMap) (i j : ℕ) (w : OnName) → shard_on n w ≡ Some i → j ≢ i → partition n (ask_on m w).map j ≡ partition n m j
on_part_away n m i j (On_name d table) at ne =
    let is : home n d ≡ i = (cc) in part-put_away n m j d _ (λ e. ne (sym e ∙ is))
on_part_away n m i j (On_all known) at ne = cc

-- all other parts stay
pub part_away : (n : ℕ) (m : PlainMap) (op : Op) (i j : ℕ) → shard_of n op ≡ Some i → j ≢ i → partition n (ask m op).map j ≡ partition n m j
unfolding ask
part_away n m op i j at ne = on_part_away n m i j (meaning op) (shard_is n op ∙ at) ne

on_all_keeps : (n : ℕ) (m : PlainMap) (w : OnName) → shard_on n w ≡ None → (ask_on m w).map ≡ m
on_all_keeps n m w none = grind arith

-- a fetch-all leaves the map
pub fetch_keeps : (n : ℕ) (m : PlainMap) (op : Op) → shard_of n op ≡ None → (ask m op).map ≡ m
unfolding ask
fetch_keeps n m op none = on_all_keeps n m (meaning op) (shard_is n op ∙ none)

-- the parts together are the map
pub together_is : (n : ℕ) (m : PlainMap) (parts : ℕ → PlainMap) → 0 < n → ((j : ℕ) → j < n → parts j ≡ partition n m j) → merge n parts ≡ m
together_is n m parts h is = together_same n parts (partition n m) is ∙ together_parts n m h

at_no_shard : (n : ℕ) (o : Option Name) → option_map (home n) o ≡ None → o ≡ None
at_no_shard n None none = refl
at_no_shard n (Some d) none = absurd (let never : ⊥ = (cc) in never)

-- an operation on all names is answered by all bundles, and by the digest that it tells
pub fetch_reply : (n : ℕ) (m : PlainMap) (op : Op) → shard_of n op ≡ None → (ask m op).reply ≡ fetched (known_of op) (bundles m)
unfolding shard_of
fetch_reply n m op none = fetched_reply m op (at_no_shard n (domain_of op) none)

other_held : (b : Bool) (x y : Option Holding) → (b ≡ true → ⊥) → cond b x y ≡ y
other_held b x y h = grind arith

on_depends : (m n : PlainMap) (d : Name) (w : OnName) → name_on w ≡ Some d → finite.get m d ≡ finite.get n d →
    ((ask_on m w).reply ≡ (ask_on n w).reply) × (finite.get (ask_on m w).map d ≡ finite.get (ask_on n w).map d)
    × ((other : Name) → other ≢ d → finite.get (ask_on m w).map other ≡ finite.get m other)
on_depends m n d (On_name e table) is same =
    let at : e ≡ d = (cc) in
    let held : finite.get m e ≡ finite.get n e = subst (λ (x : Name). finite.get m x ≡ finite.get n x) (sym at) same in (
      ap (λ h. (table h).reply) held,
      get-put m e (table (finite.get m e)).held d
          ∙ (λ i. cond (is_name d e) (table (held i)).held (same i))
          ∙ sym (get-put n e (table (finite.get n e)).held d),
      λ other ne. get-put m e (table (finite.get m e)).held other ∙ other_held (is_name other e) _ _ (λ t. ne (same_name other e t ∙ at)),
    )
on_depends m n d (On_all known) is same = absurd (let never : ⊥ = (cc) in never)

pub depends_on_name : (m n : PlainMap) (op : Op) (d : Name) → domain_of op ≡ Some d → finite.get m d ≡ finite.get n d →
    ((ask m op).reply ≡ (ask n op).reply) × (finite.get (ask m op).map d ≡ finite.get (ask n op).map d)
    × ((other : Name) → other ≢ d → finite.get (ask m op).map other ≡ finite.get m other)
unfolding ask
depends_on_name m n op d is same = on_depends m n d (meaning op) (domain_on op ∙ is) same

abbrev ChangesAll : OnName → Type 0
ChangesAll (On_name d table) = Changes table
ChangesAll (On_all known) = Unit {0}

meaning_changes : (op : Op) → ChangesAll (meaning op)
unfolding meaning
meaning_changes (Set d b) = set_changes b
meaning_changes (SetIf d expect b) = set_if_changes expect b
meaning_changes (Append d a) = append_changes a
meaning_changes (Remove d) = remove_changes
meaning_changes (Get d) = get_changes
meaning_changes FetchAll = tt
meaning_changes (FetchUnless known) = tt

on_changes : (m : PlainMap) (w : OnName) → ChangesAll w → is_change (ask_on m w).reply ≡ true → (ask_on m w).map ≢ m
on_changes m (On_name d table) changes h is =
    changes (finite.get m d) h
    (sym (ap (λ b. cond b (table (finite.get m d)).held (finite.get m d)) (name_itself d)) ∙ sym (get-put m d (table (finite.get m d)).held d) ∙ ap (λ (n : PlainMap). finite.get n d) is)
on_changes m (On_all known) changes h is = absurd (true≢false (sym h ∙ fetched_quiet known (bundles m)))

-- a reply that tells of a change leaves another map
pub ask_changes : (m : PlainMap) (op : Op) → is_change (ask m op).reply ≡ true → (ask m op).map ≢ m
unfolding ask
ask_changes m op h = on_changes m (meaning op) (meaning_changes op) h

pub tells_of_change : (m : PlainMap) (op : Op) → ((ask m op).map ≢ m → is_change (ask m op).reply ≡ true) × (is_change (ask m op).reply ≡ true → (ask m op).map ≢ m)
tells_of_change m op = (λ other. grind (arith, ask_keeps), ask_changes m op)

-- ---- the name of an operation
home_named : (n i : ℕ) (w : OnName) → shard_on n w ≡ Some i → home n (unwrap_or (name_on w) []) ≡ i
home_named n i w at = grind arith

-- the shard of an operation is the home of its name
pub home_of : (n i : ℕ) (op : Op) → shard_of n op ≡ Some i → home n (name_of op) ≡ i
home_of n i op at = ap (home n) (sym (name_is op)) ∙ home_named n i (meaning op) (shard_is n op ∙ at)

puts_named : (n i : ℕ) (m : PlainMap) (w : OnName) → shard_on n w ≡ Some i → (ask_on m w).map ≡ put m (unwrap_or (name_on w) []) (finite.get (ask_on m w).map (unwrap_or (name_on w) []))
puts_named n i m (On_name d table) at = let held = (table (finite.get m d)).held in
    ap (put m d) (sym (get-put m d held d ∙ ap (λ b. cond b held (finite.get m d)) (name_itself d)))
puts_named n i m (On_all known) at = absurd (let never : ⊥ = (cc) in never)

-- what an operation does is to put what its name holds then
pub asked_puts : (n i : ℕ) (m : PlainMap) (op : Op) → shard_of n op ≡ Some i → (ask m op).map ≡ put m (name_of op) (finite.get (ask m op).map (name_of op))
unfolding ask
asked_puts n i m op at = subst (λ (d : Name). (ask_on m (meaning op)).map ≡ put m d (finite.get (ask_on m (meaning op)).map d)) (name_is op) (puts_named n i m (meaning op) (shard_is n op ∙ at))

-- what the name holds then follows from the part
pub now_of_part : (n i : ℕ) (m p : PlainMap) (op : Op) → shard_of n op ≡ Some i → partition n m i ≡ partition n p i → finite.get (ask m op).map (name_of op) ≡ finite.get (ask p op).map (name_of op)
now_of_part n i m p op at same = let here = home_of n i op at in
    sym (get-part_home n (ask m op).map i (name_of op) here)
    ∙ ap (λ x. finite.get x (name_of op)) (part_home n m op i at ∙ ap (λ x. (ask x op).map) same ∙ sym (part_home n p op i at))
    ∙ get-part_home n (ask p op).map i (name_of op) here

-- ---- an operation on one name, at the part of its home
pub asked_at_home : (n : ℕ) (m : PlainMap) (op : Op) (i : ℕ) → shard_of n op ≡ Some i →
    ((ask (partition n m i) op).reply ≡ (ask m op).reply) × (partition n (ask m op).map i ≡ (ask (partition n m i) op).map)
    × ((j : ℕ) → j ≢ i → partition n (ask m op).map j ≡ partition n m j)
asked_at_home n m op i at = (part_reply n m op i at, part_home n m op i at, λ j ne. part_away n m op i j at ne)
