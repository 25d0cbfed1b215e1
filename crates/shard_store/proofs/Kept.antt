-- A step of one seat, on one shard, keeps the rule for all others.
use Rattle.std.proofs.Common.{◌≡◌, ◌≢◌, ℕ, zero, suc, ◌+◌, ◌/◌, ◌%◌, ◌<◌, Bool, cond, eqb, List, [], ◌∷◌, ◌++◌, length, get_or, set, Option, Some, sym, refl, ap, ◌∙◌, subst, ⊎_elim, arith, length-set, get_or-set_other, get_or-set_same, eq-eqb, ne_eqb}
use mathlib.Core.Logic.{dite}
use mathlib.Core.Option.{none, some, some-injective, some-ne-none}
use mathlib.Core.Option as maybe
use native.Mathlib.Decide.{ℕ_discrete}
use lib.ListN.{get_elem?}
use Rattle.std.proofs.lemmas.List.{append-nil}
use Rattle.std.specs.Arc.{arc_value}
use Rattle.atomic_table.specs.Table.{State, Me}
use Rattle.atomic_table.proofs.Lists.{at_set, set_here, set_else}
use Rattle.shard_store.specs.declared.change.Change.{Change}
use Rattle.shard_store.specs.declared.change.Seen.{Seen}
use Rattle.shard_store.specs.declared.change.View.{View}
use Rattle.shard_store.specs.Changes.{count, HasNumber, AreOthers}
use Rattle.shard_store.specs.Numbers.{IsNumbered, IsParted}
use Rattle.shard_store.specs.Rule.{numbers_of_joined, numbers, ExtendsEach, SlotValue, IsShard, IsView, MeetsRule}
use Rattle.shard_store.specs.Steps.{view_after, Sees, HasAllNumbers}
use Rattle.shard_store.proofs.Changes.{others_fewer, has_number_left, has_number_right, has_number_either, numbered_append, extends_none, extends_more, count_append, is_part_stays}

abbrev pub put : (ℕ → ℕ) → ℕ → ℕ → ℕ → ℕ
put f i a j = cond (eqb j i) a (f j)

pub put_here : (f : ℕ → ℕ) (i a : ℕ) → put f i a i ≡ a
put_here f i a = ap (λ (b : Bool). cond b a (f i)) (eq-eqb i i refl)

pub put_else : (f : ℕ → ℕ) (i a j : ℕ) → j ≢ i → put f i a j ≡ f j
put_else f i a j ne = ap (λ (b : Bool). cond b a (f j)) (ne_eqb j i ne)

pub set_there : {A : Type 0} (l : List A) (i : ℕ) (a b : A) → get_elem? l i ≡ some b → get_elem? (set l i a) i ≡ some a
set_there [] i a b e = absurd (some-ne-none b (sym e))
set_there (x ∷ xs) zero a b e = refl
set_there (x ∷ xs) (suc i) a b e = set_there xs i a b e

pub extends_each_more : (ts : List Seen) (list new : List Change) → ExtendsEach list ts → AreOthers (numbers_of_joined ts) new → ExtendsEach (list ++ new) ts
extends_each_more [] list new e o = tt
extends_each_more (t ∷ ts) list new e o = (
  extends_more t list new e.0 (others_fewer (t.ranges ++ numbers_of_joined ts) t.ranges new (has_number_left t.ranges (numbers_of_joined ts)) o),
  extends_each_more ts list new e.1 (others_fewer (t.ranges ++ numbers_of_joined ts) (numbers_of_joined ts) new (has_number_right t.ranges (numbers_of_joined ts)) o),
)

pub no_more : (n : ℕ) (list new : List Change) (j : ℕ) → count n new j ≡ 0 → count n (list ++ new) j ≡ count n list j
no_more n list new j e = let sum : count n (list ++ new) j ≡ count n list j + count n new j = count_append n list new j in omega arith

module _ (Z : Type 0) where
  abbrev pub St : Type 0
  St = State (SlotValue Z) View

  abbrev pub M : Type 0
  M = Me (SlotValue Z) View

  -- another seat's view, if it does not hold the shard of the step
  pub other_view : (n : ℕ) (words : List ℕ) (list new : List Change) (holder : ℕ → ℕ) (i x id j : ℕ) (u : View) → (u.held ≡ Some i → ⊥) → AreOthers (numbers u) new
      → IsView n words list holder j u → IsView n (set words i x) (list ++ new) (put holder i id) j u
  other_view n words list new holder i x id j u free o r = record {
    sees = extends_more u.seen list new r.sees (others_fewer (numbers u) u.seen.ranges new (has_number_left u.seen.ranges (numbers_of_joined u.joined)) o);
    joined = extends_each_more u.joined list new r.joined (others_fewer (numbers u) (numbers_of_joined u.joined) new (has_number_right u.seen.ranges (numbers_of_joined u.joined)) o);
    limited = r.limited;
    parted = r.parted;
    holds = λ k e. dite (ℕ_discrete k i) (λ same. absurd (free (e ∙ ap Some same)))
        (λ other. let h = r.holds k e in let w = get_or-set_other words i k x 0 other in
        (h.0 ∙ sym (put_else holder i id k other), h.1, ap (λ (z : ℕ). z % 2) w ∙ h.2, h.3 ∙ sym (ap (λ (z : ℕ). z / 2) w), h.4));
  }

  -- who holds a shard still does, if the seat's new view does
  pub busy_stays : (views : List View) (id j holder : ℕ) (v w : View) → get_elem? views id ≡ some v → (v.held ≡ Some j → w.held ≡ Some j) → (u : View) → get_elem? views holder ≡ some u → u.held ≡ Some j
      → (u' : View) × (get_elem? (set views id w) holder ≡ some u') × (u'.held ≡ Some j)
  busy_stays views id j holder v w at keep u there is = dite (ℕ_discrete holder id)
      (λ same. let e : v ≡ u = some-injective v u (sym at ∙ (ap (get_elem? views) (sym same) ∙ there)) in
      (w, subst (λ (k : ℕ). get_elem? (set views id w) k ≡ some w) (sym same) (set_there views id w v at), keep (ap (λ (z : View). z.held) e ∙ is)))
      (λ other. (u, set_else views id holder w other ∙ there, is))

  pub other_shard : (n word : ℕ) (h : maybe.Option (maybe.Option (SlotValue Z))) (list new : List Change) (views : List View) (holder id j : ℕ) (v w : View) → get_elem? views id ≡ some v
      → (v.held ≡ Some j → w.held ≡ Some j) → count n new j ≡ 0 → IsShard {Z = Z} n word h list views holder j → IsShard {Z = Z} n word h (list ++ new) (set views id w) holder j
  other_shard n word h list new views holder id j v w at keep none_new s = record {
    counted = s.counted ∙ sym (no_more n list new j none_new);
    limited = s.limited;
    free = λ even. let f = s.free even in (f.0, f.1, is_part_stays n j list new (arc_value f.0) none_new f.2);
    busy = λ odd. let b = s.busy odd in busy_stays views id j holder v w at keep b.0 b.1 b.2;
  }

  -- the view of a seat before the step of another
  pub was : (views : List View) (id : ℕ) (v w : View) → get_elem? views id ≡ some v → ((k : ℕ) → HasNumber (numbers w) k → HasNumber (numbers v) k) → (j : ℕ) (u : View) → get_elem? (set views id w) j ≡ some u
      → (u' : View) × (get_elem? views j ≡ some u') × ((k : ℕ) → HasNumber (numbers u) k → HasNumber (numbers u') k)
  was views id v w at fewer j u e = ⊎_elim
      (λ (t : (j ≡ id) × (w ≡ u)). (v, subst (λ (k : ℕ). get_elem? views k ≡ some v) (sym t.0) at, λ k b. fewer k (subst (λ (z : View). HasNumber (numbers z) k) (sym t.1) b)))
      (λ (t : (j ≢ id) × (get_elem? views j ≡ some u)). (u, t.1, λ k b. b)) (at_set views id j w u e)

  pub still_apart : (views : List View) (id : ℕ) (v w : View) → get_elem? views id ≡ some v → ((k : ℕ) → HasNumber (numbers w) k → HasNumber (numbers v) k)
      → ((j k : ℕ) (a b : View) → get_elem? views j ≡ some a → get_elem? views k ≡ some b → (x : ℕ) → HasNumber (numbers a) x → HasNumber (numbers b) x → j ≡ k)
      → (j k : ℕ) (a b : View) → get_elem? (set views id w) j ≡ some a → get_elem? (set views id w) k ≡ some b → (x : ℕ) → HasNumber (numbers a) x → HasNumber (numbers b) x → j ≡ k
  still_apart views id v w at fewer apart j k a b e f x p q = let one = was views id v w at fewer j a e in let two = was views id v w at fewer k b f in
      apart j k one.0 two.0 one.1 two.1 x (one.2 x p) (two.2 x q)

  -- a step of the seat on the word of the shard i, which changes no other shard
  pub seat_steps : (s : St) (r : MeetsRule s) (id i x : ℕ) (h : maybe.Option (SlotValue Z)) (v w : View) (new : List Change) → get_elem? s.views id ≡ some v → i < length s.homes
      → ((j : ℕ) → j ≢ i → count (length s.homes) new j ≡ 0) → IsNumbered new
      → ((j : ℕ) (u : View) → j ≢ id → get_elem? s.views j ≡ some u → AreOthers (numbers u) new × (u.held ≡ Some i → ⊥))
      → ((k : ℕ) → HasNumber (numbers w) k → HasNumber (numbers v) k) → ((j : ℕ) → j ≢ i → v.held ≡ Some j → w.held ≡ Some j)
      → IsShard {Z = Z} (length s.homes) x (some h) (r.list ++ new) (set s.views id w) id i
      → IsView (length s.homes) (set s.words i x) (r.list ++ new) (put r.holder i id) id w
      → MeetsRule record { words = set s.words i x; homes = set s.homes i h; views = set s.views id w }
  seat_steps s r id i x h v w new at inside elsewhere numbered others fewer keep here mine = let deep = length-set s.homes i h in record {
    list = r.list ++ new;
    holder = put r.holder i id;
    paired = length-set s.words i x ∙ (r.paired ∙ sym deep);
    numbered = numbered_append r.list new r.numbered numbered;
    each_shard = subst (λ (n : ℕ). (j : ℕ) → j < n → IsShard {Z = Z} n (get_or (set s.words i x) j 0) (get_elem? (set s.homes i h) j) (r.list ++ new) (set s.views id w) (put r.holder i id j) j) (sym deep)
        (λ j l. dite (ℕ_discrete j i) (λ same. at_shard j l same) (λ other. at_other j l other));
    each_view = subst (λ (n : ℕ). (j : ℕ) (u : View) → get_elem? (set s.views id w) j ≡ some u → IsView n (set s.words i x) (r.list ++ new) (put r.holder i id) j u) (sym deep)
        (λ j u e. ⊎_elim (λ (t : (j ≡ id) × (w ≡ u)). subst (λ (z : ℕ × View). IsView (length s.homes) (set s.words i x) (r.list ++ new) (put r.holder i id) z.0 z.1) (λ k. (sym t.0 k, t.1 k)) mine)
        (λ (t : (j ≢ id) × (get_elem? s.views j ≡ some u)). let o = others j u t.0 t.1 in other_view (length s.homes) s.words r.list new r.holder i x id j u o.1 o.0 (r.each_view j u t.1)) (at_set s.views id j w u e));
    apart = still_apart s.views id v w at fewer r.apart;
  }
    where
      At : ℕ → ℕ → maybe.Option (maybe.Option (SlotValue Z)) → ℕ → Type 0
      At j word there holder = IsShard {Z = Z} (length s.homes) word there (r.list ++ new) (set s.views id w) holder j

      at_shard : (j : ℕ) → j < length s.homes → j ≡ i → IsShard {Z = Z} (length s.homes) (get_or (set s.words i x) j 0) (get_elem? (set s.homes i h) j) (r.list ++ new) (set s.views id w) (put r.holder i id j) j
      at_shard j l same = let wide : i < length s.words = let p : length s.words ≡ length s.homes = r.paired in omega arith in
          subst (λ (k : ℕ). IsShard {Z = Z} (length s.homes) (get_or (set s.words i x) k 0) (get_elem? (set s.homes i h) k) (r.list ++ new) (set s.views id w) (put r.holder i id k) k) (sym same)
          (subst (λ (word : ℕ). IsShard {Z = Z} (length s.homes) word (get_elem? (set s.homes i h) i) (r.list ++ new) (set s.views id w) (put r.holder i id i) i) (sym (get_or-set_same s.words i x 0 wide))
          (subst (λ (there : maybe.Option (maybe.Option (SlotValue Z))). IsShard {Z = Z} (length s.homes) x there (r.list ++ new) (set s.views id w) (put r.holder i id i) i) (sym (set_here s.homes i h inside))
          (subst (λ (holder : ℕ). IsShard {Z = Z} (length s.homes) x (some h) (r.list ++ new) (set s.views id w) holder i) (sym (put_here r.holder i id)) here)))

      at_other : (j : ℕ) → j < length s.homes → j ≢ i → IsShard {Z = Z} (length s.homes) (get_or (set s.words i x) j 0) (get_elem? (set s.homes i h) j) (r.list ++ new) (set s.views id w) (put r.holder i id j) j
      at_other j l other =
          subst (λ (word : ℕ). IsShard {Z = Z} (length s.homes) word (get_elem? (set s.homes i h) j) (r.list ++ new) (set s.views id w) (put r.holder i id j) j) (sym (get_or-set_other s.words i j x 0 other))
          (subst (λ (there : maybe.Option (maybe.Option (SlotValue Z))). IsShard {Z = Z} (length s.homes) (get_or s.words j 0) there (r.list ++ new) (set s.views id w) (put r.holder i id j) j) (sym (set_else s.homes i j h other))
          (subst (λ (holder : ℕ). IsShard {Z = Z} (length s.homes) (get_or s.words j 0) (get_elem? s.homes j) (r.list ++ new) (set s.views id w) holder j) (sym (put_else r.holder i id j other))
          (other_shard (length s.homes) (get_or s.words j 0) (get_elem? s.homes j) r.list new s.views (r.holder j) id j v w at (keep j other) (elsewhere j other) (r.each_shard j l))))

  -- a step that changes the seat's view alone
  pub seat_looks : (s : St) (r : MeetsRule s) (id : ℕ) (v w : View) → get_elem? s.views id ≡ some v → ((k : ℕ) → HasNumber (numbers w) k → HasNumber (numbers v) k) → w.held ≡ v.held
      → IsView (length s.homes) s.words r.list r.holder id w → MeetsRule record { words = s.words; homes = s.homes; views = set s.views id w }
  seat_looks s r id v w at fewer same mine = record {
    list = r.list;
    holder = r.holder;
    paired = r.paired;
    numbered = r.numbered;
    each_shard = λ j l. let t = r.each_shard j l in record {
      counted = t.counted;
      limited = t.limited;
      free = t.free;
      busy = λ odd. let b = t.busy odd in busy_stays s.views id j (r.holder j) v w at (λ e. same ∙ e) b.0 b.1 b.2;
    };
    each_view = λ j u e. ⊎_elim (λ (t : (j ≡ id) × (w ≡ u)). subst (λ (z : ℕ × View). IsView (length s.homes) s.words r.list r.holder z.0 z.1) (λ k. (sym t.0 k, t.1 k)) mine)
        (λ (t : (j ≢ id) × (get_elem? s.views j ≡ some u)). r.each_view j u t.1) (at_set s.views id j w u e);
    apart = still_apart s.views id v w at fewer r.apart;
  }

  abbrev pub Holding : ℕ → (words : List ℕ) → (ℕ → ℕ) → ℕ → View → ℕ → Type 0
  Holding n words holder seat v i = (seat ≡ holder i) × (i < n) × (get_or words i 0 % 2 ≡ 1) × (count n v.seen.log i ≡ get_or words i 0 / 2) × ((k : ℕ) × HasNumber (numbers v) k)

  pub fewer_updated : (list : List Change) (v : View) (held : Option ℕ) (k : ℕ) → HasNumber (numbers (view_after list v held)) k → HasNumber (numbers v) k
  fewer_updated list v held k b = ⊎_elim (λ h. h) (λ h. absurd h) (has_number_either (numbers v) [] k b)

  pub more_updated : (list : List Change) (v : View) (held : Option ℕ) (k : ℕ) → HasNumber (numbers v) k → HasNumber (numbers (view_after list v held)) k
  more_updated list v held k b = has_number_left (numbers v) [] k b

  pub updated_view : (n : ℕ) (words : List ℕ) (list : List Change) (holder holder' : ℕ → ℕ) (seat : ℕ) (words' : List ℕ) (v : View) (held : Option ℕ) → IsView n words list holder seat v
      → ((i : ℕ) → held ≡ Some i → Holding n words' holder' seat (view_after list v held) i) → IsView n words' list holder' seat (view_after list v held)
  updated_view n words list holder holder' seat words' v held r h = record {
    sees = extends_none (view_after list v held).seen;
    joined = tt;
    limited = λ k b. r.limited k (fewer_updated list v held k b);
    parted = subst IsParted (sym (append-nil (numbers v))) r.parted;
    holds = h;
  }

  -- the view of a seat catches up with the list, and it holds what it held
  pub look_kept : (s : St) (r : MeetsRule s) (id : ℕ) (v : View) → get_elem? s.views id ≡ some v → MeetsRule record { words = s.words; homes = s.homes; views = set s.views id (view_after r.list v v.held) }
  look_kept s r id v at = let mine = r.each_view id v at in
      seat_looks s r id v (view_after r.list v v.held) at (fewer_updated r.list v v.held) refl
      (updated_view (length s.homes) s.words r.list r.holder r.holder id s.words v v.held mine
      (λ i e. let h = mine.holds i e in (h.0, h.1, h.2, sym (r.each_shard i h.1).counted, (h.4.0, more_updated r.list v v.held h.4.0 h.4.1))))

  -- a pass that is alone finds no shard held by another
  pub alone_holds : (s : St) (r : MeetsRule s) (id i : ℕ) (v : View) → get_elem? s.views id ≡ some v → i < length s.homes → HasAllNumbers v → get_or s.words i 0 % 2 ≡ 1 → v.held ≡ Some i
  alone_holds s r id i v at inside alone odd = let b = (r.each_shard i inside).busy odd in let other = r.each_view (r.holder i) b.0 b.1 in let some_number = (other.holds i b.2).4 in
      let same : id ≡ r.holder i = r.apart id (r.holder i) v b.0 at b.1 some_number.0 (alone some_number.0 (other.limited some_number.0 some_number.1)) some_number.1 in
      let here : v ≡ b.0 = some-injective v b.0 (sym at ∙ (ap (get_elem? s.views) same ∙ b.1)) in ap (λ (z : View). z.held) here ∙ b.2

  pub sees_list : (s : St) (r : MeetsRule s) (id : ℕ) (v : View) → get_elem? s.views id ≡ some v → Sees v r.list
  sees_list s r id v at = let mine = r.each_view id v at in (mine.sees, mine.joined, r.numbered)
