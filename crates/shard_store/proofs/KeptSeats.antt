-- The rule is kept when a seat is split and when two are joined.
use Rattle.std.proofs.Common.{◌≡◌, ◌≢◌, ◌⊎◌, ℕ, zero, suc, ◌≤◌, List, [], ◌∷◌, ◌++◌, length, set, None, sym, refl, ap, ◌∙◌, subst, inl, inr, ⊎_elim, append_assoc}
use mathlib.Core.Option.{some, some-injective, some-ne-none}
use lib.ListN.{get_elem?}
use Rattle.std.proofs.lemmas.List.{append-nil}
use Rattle.atomic_table.specs.Table.{Splits, Joins}
use Rattle.atomic_table.proofs.Lists.{at_set, set_else, at_longer}
use Rattle.shard_store.specs.declared.change.Change.{Change}
use Rattle.shard_store.specs.declared.change.Seen.{Seen}
use Rattle.shard_store.specs.declared.change.View.{View}
use Rattle.shard_store.specs.Changes.{HasNumber, own_count, without_last, just_last}
use Rattle.shard_store.specs.Numbers.{IsParted}
use Rattle.shard_store.specs.Rule.{numbers_of_joined, numbers, ExtendsEach, giver_view, receiver_view, joiner_view, empty_view, SlotValue, IsView, MeetsRule}
use Rattle.shard_store.proofs.Changes.{others_none, others_fewer, has_number_left, has_number_either, kept_fewer, given_fewer, kept_parted, given_parted, kept_given_apart, parted_append, not_some}
use Rattle.shard_store.proofs.Kept.{busy_stays, still_apart}

module _ (Z : Type 0) where
  at_end : (l : List View) (a b : View) (j : ℕ) → get_elem? (l ++ a ∷ []) j ≡ some b → (get_elem? l j ≡ some b) ⊎ ((j ≡ length l) × (a ≡ b))
  at_end [] a b zero e = inr (refl, some-injective a b e)
  at_end [] a b (suc j) e = absurd (some-ne-none b (sym e))
  at_end (x ∷ xs) a b zero e = inl e
  at_end (x ∷ xs) a b (suc j) e = ⊎_elim (λ h. inl h) (λ (t : (j ≡ length xs) × (a ≡ b)). inr (ap suc t.0, t.1)) (at_end xs a b j e)

  pub splits : (id share : ℕ) (v : View) → v.held ≡ None → v.joined ≡ [] → share ≤ own_count v.seen.ranges → Splits {S = SlotValue Z} MeetsRule id v (giver_view share v) (receiver_view share v)
  splits id share v free untold fits s r at = record {
    list = r.list;
    holder = r.holder;
    paired = r.paired;
    numbered = r.numbered;
    each_shard = λ i l. let t = r.each_shard i l in record {
      counted = t.counted;
      limited = t.limited;
      free = t.free;
      busy = λ odd. let b = t.busy odd in let c = busy_stays Z s.views id i (r.holder i) v (giver_view share v) at (λ e. e) b.0 b.1 b.2 in (c.0, at_longer (set s.views id (giver_view share v)) (receiver_view share v ∷ []) (r.holder i) c.0 c.1, c.2);
    };
    each_view = λ j u e. ⊎_elim
        (λ h. ⊎_elim (λ (t : (j ≡ id) × (giver_view share v ≡ u)). subst (IsView (length s.homes) s.words r.list r.holder j) t.1 (left j))
        (λ (t : (j ≢ id) × (get_elem? s.views j ≡ some u)). r.each_view j u t.1) (at_set s.views id j (giver_view share v) u h))
        (λ (t : (j ≡ length (set s.views id (giver_view share v))) × (receiver_view share v ≡ u)). subst (IsView (length s.homes) s.words r.list r.holder j) t.1 (right j))
        (at_end (set s.views id (giver_view share v)) (receiver_view share v) u j e);
    apart = λ j k a b e f x p q. ⊎_elim
        (λ e'. ⊎_elim (λ f'. still_apart Z s.views id v (giver_view share v) at fewer_left r.apart j k a b e' f' x p q)
        (λ (t : (k ≡ length (set s.views id (giver_view share v))) × (receiver_view share v ≡ b)). absurd (mixed j a e' x p (subst (λ (z : View). HasNumber (numbers z) x) (sym t.1) q)))
        (at_end (set s.views id (giver_view share v)) (receiver_view share v) b k f))
        (λ (t : (j ≡ length (set s.views id (giver_view share v))) × (receiver_view share v ≡ a)). ⊎_elim
        (λ f'. absurd (mixed k b f' x q (subst (λ (z : View). HasNumber (numbers z) x) (sym t.1) p)))
        (λ (o : (k ≡ length (set s.views id (giver_view share v))) × (receiver_view share v ≡ b)). t.0 ∙ sym o.0)
        (at_end (set s.views id (giver_view share v)) (receiver_view share v) b k f))
        (at_end (set s.views id (giver_view share v)) (receiver_view share v) a j e);
  }
    where
      mine : IsView (length s.homes) s.words r.list r.holder id v
      mine = r.each_view id v at

      fewer_left : (k : ℕ) → HasNumber (numbers (giver_view share v)) k → HasNumber (numbers v) k
      fewer_left k b = kept_fewer share v.seen.ranges (numbers_of_joined v.joined) k b

      fewer_right : (k : ℕ) → HasNumber (numbers (receiver_view share v)) k → HasNumber (numbers v) k
      fewer_right k b = has_number_left v.seen.ranges (numbers_of_joined v.joined) k (given_fewer share v.seen.ranges fits k (subst (λ (l : List (ℕ × ℕ)). HasNumber l k) (append-nil (just_last share v.seen.ranges)) b))

      left : (j : ℕ) → IsView (length s.homes) s.words r.list r.holder j (giver_view share v)
      left j = record {
        sees = (
          mine.sees.0,
          mine.sees.1,
          others_fewer v.seen.ranges (without_last share v.seen.ranges) mine.sees.0
              (λ k b. subst (λ (l : List (ℕ × ℕ)). HasNumber l k) (append-nil v.seen.ranges) (kept_fewer share v.seen.ranges [] k (has_number_left (without_last share v.seen.ranges) [] k b))) mine.sees.2,
        );
        joined = mine.joined;
        limited = λ k b. mine.limited k (fewer_left k b);
        parted = kept_parted share v.seen.ranges (numbers_of_joined v.joined) mine.parted;
        holds = λ i e. absurd (not_some i (sym free ∙ e));
      }

      right : (j : ℕ) → IsView (length s.homes) s.words r.list r.holder j (receiver_view share v)
      right j = record {
        sees = (mine.sees.0, mine.sees.1, others_fewer v.seen.ranges (just_last share v.seen.ranges) mine.sees.0 (given_fewer share v.seen.ranges fits) mine.sees.2);
        joined = tt;
        limited = λ k b. mine.limited k (fewer_right k b);
        parted = subst IsParted (sym (append-nil (just_last share v.seen.ranges))) (given_parted share v.seen.ranges);
        holds = λ i e. absurd (not_some i e);
      }

      mixed : (j : ℕ) (a : View) → get_elem? (set s.views id (giver_view share v)) j ≡ some a → (x : ℕ) → HasNumber (numbers a) x → HasNumber (numbers (receiver_view share v)) x → ⊥
      mixed j a e x p q = ⊎_elim
          (λ (t : (j ≡ id) × (giver_view share v ≡ a)). kept_given_apart share v.seen.ranges (numbers_of_joined v.joined) fits mine.parted x (subst (λ (z : View). HasNumber (numbers z) x) (sym t.1) p)
          (subst (λ (l : List (ℕ × ℕ)). HasNumber l x) (append-nil (just_last share v.seen.ranges)) q))
          (λ (t : (j ≢ id) × (get_elem? s.views j ≡ some a)). t.0 (r.apart j id a v t.1 at x p (fewer_right x q)))
          (at_set s.views id j (giver_view share v) a e)

  joined_append : (a b : List Seen) → numbers_of_joined (a ++ b) ≡ numbers_of_joined a ++ numbers_of_joined b
  joined_append [] b = refl
  joined_append (t ∷ ts) b = ap (λ l. t.ranges ++ l) (joined_append ts b) ∙ sym (append_assoc t.ranges (numbers_of_joined ts) (numbers_of_joined b))

  numbers_of_both : (v w : View) → numbers (joiner_view v w) ≡ numbers v ++ numbers w
  numbers_of_both v w = ap (λ l. v.seen.ranges ++ l) (joined_append v.joined (w.seen ∷ w.joined)) ∙ sym (append_assoc v.seen.ranges (numbers_of_joined v.joined) (numbers w))

  extends_each_append : (a b : List Seen) (list : List Change) → ExtendsEach list a → ExtendsEach list b → ExtendsEach list (a ++ b)
  extends_each_append [] b list p q = q
  extends_each_append (t ∷ ts) b list p q = (p.0, extends_each_append ts b list p.1 q)

  pub joins : (id other : ℕ) (v u : View) → v.held ≡ None → u.held ≡ None → Joins {S = SlotValue Z} MeetsRule id v other u (joiner_view v u) empty_view
  joins id other v u free idle s r at distinct there = record {
    list = r.list;
    holder = r.holder;
    paired = r.paired;
    numbered = r.numbered;
    each_shard = λ i l. let t = r.each_shard i l in record {
      counted = t.counted;
      limited = t.limited;
      free = t.free;
      busy = λ odd. let b = t.busy odd in let c = busy_stays Z s.views id i (r.holder i) v both at (λ e. e) b.0 b.1 b.2 in
          busy_stays Z views other i (r.holder i) u empty_view there (λ e. absurd (not_some i (sym idle ∙ e))) c.0 c.1 c.2;
    };
    each_view = λ j a e. ⊎_elim
        (λ (t : (j ≡ other) × (empty_view ≡ a)). subst (IsView (length s.homes) s.words r.list r.holder j) t.1 (nothing_left j))
        (λ (t : (j ≢ other) × (get_elem? views j ≡ some a)). ⊎_elim
        (λ (o : (j ≡ id) × (both ≡ a)). subst (IsView (length s.homes) s.words r.list r.holder j) o.1 (knows_both j))
        (λ (o : (j ≢ id) × (get_elem? s.views j ≡ some a)). r.each_view j a o.1) (at_set s.views id j both a t.1))
        (at_set views other j empty_view a e);
    apart = λ j k a b e f x p q. let one = owner j a e x p in let two = owner k b f x q in let same = r.apart one.0 two.0 one.1 two.1 one.2 two.2 x one.3 two.3 in
        ⊎_elim (λ j_same. ⊎_elim (λ k_same. sym j_same ∙ (same ∙ k_same)) (λ (t : (k ≡ id) × (two.0 ≡ other)). absurd (one.5 (sym j_same ∙ (same ∙ t.1)))) two.4)
        (λ (t : (j ≡ id) × (one.0 ≡ other)). ⊎_elim (λ k_same. absurd (two.5 (sym k_same ∙ (sym same ∙ t.1)))) (λ (o : (k ≡ id) × (two.0 ≡ other)). t.0 ∙ sym o.0) two.4) one.4;
  }
    where
      both : View
      both = joiner_view v u

      views : List View
      views = set s.views id both

      there' : get_elem? s.views other ≡ some u
      there' = sym (set_else s.views id other both distinct) ∙ there

      mine : IsView (length s.homes) s.words r.list r.holder id v
      mine = r.each_view id v at

      theirs : IsView (length s.homes) s.words r.list r.holder other u
      theirs = r.each_view other u there'

      either_of : (k : ℕ) → HasNumber (numbers both) k → HasNumber (numbers v) k ⊎ HasNumber (numbers u) k
      either_of k b = has_number_either (numbers v) (numbers u) k (subst (λ (l : List (ℕ × ℕ)). HasNumber l k) (numbers_of_both v u) b)

      knows_both : (j : ℕ) → IsView (length s.homes) s.words r.list r.holder j both
      knows_both j = record {
        sees = mine.sees;
        joined = extends_each_append v.joined (u.seen ∷ u.joined) r.list mine.joined (theirs.sees, theirs.joined);
        limited = λ k b. ⊎_elim (λ h. mine.limited k h) (λ h. theirs.limited k h) (either_of k b);
        parted = subst IsParted (sym (numbers_of_both v u)) (parted_append (numbers v) (numbers u) mine.parted theirs.parted (λ k a b. distinct (sym (r.apart id other v u at there' k a b))));
        holds = λ i e. absurd (not_some i (sym free ∙ e));
      }

      nothing_left : (j : ℕ) → IsView (length s.homes) s.words r.list r.holder j empty_view
      nothing_left j = record { sees = (r.list, refl, others_none r.list r.numbered); joined = tt; limited = λ k b. absurd b; parted = tt; holds = λ i e. absurd (not_some i e) }

      owner : (j : ℕ) (a : View) → get_elem? (set views other empty_view) j ≡ some a → (x : ℕ) → HasNumber (numbers a) x
          → (j' : ℕ) × (a' : View) × (get_elem? s.views j' ≡ some a') × HasNumber (numbers a') x × ((j' ≡ j) ⊎ ((j ≡ id) × (j' ≡ other))) × (j ≢ other)
      owner j a e x p = ⊎_elim
          (λ (t : (j ≡ other) × (empty_view ≡ a)). absurd (subst (λ (z : View). HasNumber (numbers z) x) (sym t.1) p))
          (λ (t : (j ≢ other) × (get_elem? views j ≡ some a)). ⊎_elim
          (λ (o : (j ≡ id) × (both ≡ a)). ⊎_elim (λ h. (id, v, at, h, inl (sym o.0), t.0)) (λ h. (other, u, there', h, inr (o.0, refl), t.0)) (either_of x (subst (λ (z : View). HasNumber (numbers z) x) (sym o.1) p)))
          (λ (o : (j ≢ id) × (get_elem? s.views j ≡ some a)). (j, a, o.1, p, inl refl, t.0)) (at_set s.views id j both a t.1))
          (at_set views other j empty_view a e)
