-- Each kind of step on a word keeps the rule, and tells what it tells.
use Rattle.std.proofs.Common.{◌≡◌, ◌≢◌, ℕ, ◌+◌, ◌*◌, ◌/◌, ◌%◌, ◌^◌, ◌<◌, ◌≤◌, eqb, List, [], ◌∷◌, ◌++◌, length, get_or, set, Option, Some, None, sym, refl, ap, ◌∙◌, subst, arith, get_or-set_same, eq-eqb, ne_eqb}
use mathlib.Core.Logic.{dite}
use mathlib.Core.Option.{none, some, some-injective, some-ne-none}
use mathlib.Core.Option as maybe
use native.Mathlib.Decide.{ℕ_discrete}
use lib.ListN.{get_elem?}
use lib.Seq.{set-get_or}
use prog.Atomic.{either}
use Rattle.std.proofs.lemmas.List.{append-nil}
use Rattle.std.specs.Arc.{arc_value}
use Rattle.std.specs.declared.sync.Arc.{Arc}
use Rattle.atomic_table.specs.Table.{step, keeps, takes, gives, rest, put_back, Allows}
use Rattle.map_core.specs.PlainMap.{PlainMap, home}
use Rattle.shard_store.specs.declared.change.Change.{Change}
use Rattle.shard_store.specs.declared.change.View.{View}
use Rattle.shard_store.specs.Changes.{count, HasNumber}
use Rattle.shard_store.specs.Numbers.{IsPart, IsParted}
use Rattle.shard_store.specs.Rule.{numbers, SlotValue, IsShard, IsView, MeetsRule}
use Rattle.shard_store.specs.Steps.{view_after, LoadsWord, TakesShard, ReleasesShard, PublishesChange}
use Rattle.shard_store.proofs.Changes.{others_append, others_none, others_fewer, has_number_left, has_number_right, has_number_either, numbered_append, extends_none, extends_more, count_append, is_part_stays, is_part_of_change, kept_fewer, given_fewer, kept_parted, given_parted, kept_given_apart, parted_append, some_same, not_some, counts_one, counts_none}
use Rattle.shard_store.proofs.Kept.{put, put_here, set_there, St, M, seat_steps, Holding, fewer_updated, more_updated, updated_view, look_kept, alone_holds, sees_list}

module _ (Z : Type 0) where
  pub looks : (slots id i : ℕ) (me : M Z) → i < slots → Allows MeetsRule slots id me i (λ n. n) (LoadsWord (step slots i 0 0 none) me)
  looks slots id i me inside s r deep at _ = let here : i < length s.homes = omega arith in let w : View = view_after r.list me.0 me.0.held in (
    w,
    keeps,
    tt,
    subst (λ (ws : List ℕ). MeetsRule record { words = ws; homes = s.homes; views = set s.views id w }) (sym (set-get_or s.words i 0)) (look_kept Z s r id me.0 at),
    (r.list, refl, sees_list Z s r id me.0 at, subst (λ (n : ℕ). get_or s.words i 0 / 2 ≡ count n r.list i) deep (r.each_shard i here).counted, (λ alone odd. alone_holds Z s r id i me.0 at here alone odd), (r.each_shard i here).limited),
  )

  -- no seat but the holder has the shard
  not_other : (s : St Z) (r : MeetsRule s) (id i j : ℕ) (v u : View) → get_elem? s.views id ≡ some v → v.held ≡ Some i → j ≢ id → get_elem? s.views j ≡ some u → u.held ≡ Some i → ⊥
  not_other s r id i j v u at holds apart there is = apart (((r.each_view j u there).holds i is).0 ∙ sym ((r.each_view id v at).holds i holds).0)

  pub takes_shard : (slots id i old new : ℕ) (me : M Z) → i < slots → old % 2 ≡ 0 → new ≡ old + 1 → me.0.held ≡ None → (k : ℕ) × HasNumber (numbers me.0) k
      → Allows MeetsRule slots id me i (λ n. either (eqb n old) new n) (TakesShard (step slots i old new none) me)
  takes_shard slots id i old new me inside even up empty someone s r deep at _ = let here : i < length s.homes = omega arith in let word : ℕ = get_or s.words i 0 in let t = r.each_shard i here in let v : View = me.0 in
      let counted : word / 2 ≡ count slots r.list i = subst (λ (n : ℕ). word / 2 ≡ count n r.list i) deep t.counted in dite (ℕ_discrete word old)
      (λ hit. let still : word % 2 ≡ 0 = ap (λ (z : ℕ). z % 2) hit ∙ even in let f = t.free still in let w : View = view_after r.list v (Some i) in (
        w,
        takes i (Some f.0),
        f.1,
        subst (λ b. MeetsRule record { words = set s.words i (either b new word); homes = set s.homes i none; views = set s.views id w }) (sym (eq-eqb word old hit))
            (seat_steps Z s r id i new none v w [] at here (λ j _. refl) tt (λ j u _ there. (tt, λ is. let odd = ((r.each_view j u there).holds i is).2 in absurd (omega arith))) (fewer_updated Z r.list v (Some i))
            (λ j _ e. absurd (no_some j (sym empty ∙ e)))
            (subst (λ (l : List Change). IsShard {Z = Z} (length s.homes) new (some none) l (set s.views id w) id i) (sym (append-nil r.list)) (shard_taken s r id i new v w at (omega (arith, t.counted)) (omega (arith, t.limited)) (omega arith) refl))
            (subst (λ (l : List Change). IsView (length s.homes) (set s.words i new) l (put r.holder i id) id w) (sym (append-nil r.list)) (view_takes s r id i new v at here (omega (arith, t.counted)) (omega arith) someone))),
        (r.list, sees_list Z s r id v at, counted, (λ alone. even_of word still), (λ _. (f.0, refl, subst (λ (n : ℕ). IsPart n i r.list (arc_value f.0)) deep f.2)), λ miss. absurd (miss hit)),
      ))
      (λ miss. let w : View = view_after r.list v v.held in (
        w,
        keeps,
        tt,
        subst (λ b. MeetsRule record { words = set s.words i (either b new word); homes = s.homes; views = set s.views id w }) (sym (ne_eqb word old miss))
            (subst (λ (ws : List ℕ). MeetsRule record { words = ws; homes = s.homes; views = set s.views id w }) (sym (set-get_or s.words i 0)) (look_kept Z s r id v at)),
        (
          r.list,
          sees_list Z s r id v at,
          counted,
          (λ alone. not_odd word (λ odd. no_some i (sym empty ∙ alone_holds Z s r id i v at here alone odd))),
          (λ hit. absurd (miss hit)),
          λ _. ap (λ (held : Option ℕ). (view_after r.list v held, me.1)) empty,
        ),
      ))
    where
      no_some : (j : ℕ) → None ≡ Some j → ⊥
      no_some j e = absurd (cc)

      even_of : (n : ℕ) → n % 2 ≡ 0 → n % 2 ≡ 0
      even_of n e = e

      not_odd : (n : ℕ) → (n % 2 ≡ 1 → ⊥) → n % 2 ≡ 0
      not_odd n h = dite (ℕ_discrete (n % 2) 0) (λ e. e) (λ ne. absurd (h (omega arith)))

      some_same : (j : ℕ) → Some i ≡ Some j → i ≡ j
      some_same j e = cc

      shard_taken : (s : St Z) (r : MeetsRule s) (id i x : ℕ) (v w : View) → get_elem? s.views id ≡ some v → x / 2 ≡ count (length s.homes) r.list i → x / 2 ≤ 2 ^ 62 → x % 2 ≡ 1 → w.held ≡ Some i
          → IsShard {Z = Z} (length s.homes) x (some none) r.list (set s.views id w) id i
      shard_taken s r id i x v w at counted limited odd holds = record {
        counted = counted;
        limited = limited;
        free = λ even. absurd (omega arith);
        busy = λ _. (w, set_there s.views id w v at, holds);
      }

      view_takes : (s : St Z) (r : MeetsRule s) (id i x : ℕ) (v : View) → get_elem? s.views id ≡ some v → i < length s.homes → x / 2 ≡ count (length s.homes) r.list i → x % 2 ≡ 1 → (k : ℕ) × HasNumber (numbers v) k
          → IsView (length s.homes) (set s.words i x) r.list (put r.holder i id) id (view_after r.list v (Some i))
      view_takes s r id i x v at inside counted odd someone = let wide : i < length s.words = let p : length s.words ≡ length s.homes = r.paired in omega arith in
          let now : get_or (set s.words i x) i 0 ≡ x = get_or-set_same s.words i x 0 wide in
          updated_view Z (length s.homes) s.words r.list r.holder (put r.holder i id) id (set s.words i x) v (Some i) (r.each_view id v at)
          (λ j e. let same : i ≡ j = Rattle.shard_store.proofs.Changes.some_same i j e in
          subst (Holding Z (length s.homes) (set s.words i x) (put r.holder i id) id (view_after r.list v (Some i))) same
          (sym (put_here r.holder i id), inside, ap (λ (z : ℕ). z % 2) now ∙ odd, sym counted ∙ sym (ap (λ (z : ℕ). z / 2) now), (someone.0, more_updated Z r.list v (Some i) someone.0 someone.1)))

  view_moved : (n : ℕ) (words : List ℕ) (list list' : List Change) (holder holder' : ℕ → ℕ) (seat : ℕ) (words' : List ℕ) (v : View) → IsView n words list holder seat v
      → IsView n words' list' holder' seat (view_after list' v None)
  view_moved n words list list' holder holder' seat words' v r = record {
    sees = extends_none (view_after list' v None).seen;
    joined = tt;
    limited = λ k b. r.limited k (fewer_updated Z list' v None k b);
    parted = subst IsParted (sym (append-nil (numbers v))) r.parted;
    holds = λ i e. absurd (not_some i e);
  }

  -- what a holder has seen is all that its shard has
  none_since : (n : ℕ) (log list : List Change) (i : ℕ) (g : (new : List Change) × (list ≡ log ++ new)) → count n log i ≡ count n list i → count n g.0 i ≡ 0
  none_since n log list i g e = let total : count n list i ≡ count n log i + count n g.0 i = ap (λ (l : List Change). count n l i) g.1 ∙ count_append n log g.0 i in omega arith

  in_hand : (hs : List (maybe.Option (SlotValue Z))) (c : List (ℕ × SlotValue Z)) (i : ℕ) (y : SlotValue Z) → c ≡ (i, y) ∷ rest c → put_back hs c ≡ set hs i (some y)
  in_hand hs c i y e = ap (put_back hs) e

  shard_freed : (s : St Z) (r : MeetsRule s) (id i x : ℕ) (list : List Change) (views : List View) (version : Arc PlainMap Z) → x % 2 ≡ 0 → x / 2 ≡ count (length s.homes) list i → x / 2 ≤ 2 ^ 62
      → IsPart (length s.homes) i list (arc_value version) → IsShard {Z = Z} (length s.homes) x (some (some (Some version))) list views id i
  shard_freed s r id i x list views version even counted limited p = record {
    counted = counted;
    limited = limited;
    free = λ _. (version, refl, p);
    busy = λ odd. absurd (omega arith);
  }

  pub releases : (slots id i x : ℕ) (me : M Z) (version : Arc PlainMap Z) → me.0.held ≡ Some i → me.1 ≡ (i, Some version) ∷ rest me.1 → IsPart slots i me.0.seen.log (arc_value version)
      → x ≡ 2 * count slots me.0.seen.log i → Allows MeetsRule slots id me i (λ _. x) (λ _. ReleasesShard (step slots i x 0 none) me x)
  releases slots id i x me version holds hand shows is s r deep at _ = let v : View = me.0 in let n : ℕ = length s.homes in let w : View = record v { held = None } in let mine = r.each_view id v at in let h = mine.holds i holds in
      let t = r.each_shard i h.1 in let word : ℕ = get_or s.words i 0 in let total : word / 2 ≡ count n r.list i = t.counted in let own : count n v.seen.log i ≡ word / 2 = h.3 in let small : word / 2 ≤ 2 ^ 62 = t.limited in
      let is' : x ≡ 2 * count n v.seen.log i = subst (λ (z : ℕ). x ≡ 2 * count z v.seen.log i) (sym deep) is in
      let quiet : count n mine.sees.0 i ≡ 0 = none_since n v.seen.log r.list i (mine.sees.0, mine.sees.1) (own ∙ total) in
      let here : IsPart n i r.list (arc_value version) = subst (λ (l : List Change). IsPart n i l (arc_value version)) (sym mine.sees.1)
      (is_part_stays n i v.seen.log mine.sees.0 (arc_value version) quiet (subst (λ (z : ℕ). IsPart z i v.seen.log (arc_value version)) (sym deep) shows)) in (
        w,
        gives,
        tt,
        subst (λ (hs : List (maybe.Option (SlotValue Z))). MeetsRule record { words = set s.words i x; homes = hs; views = set s.views id w }) (sym (in_hand s.homes me.1 i (Some version) hand))
            (seat_steps Z s r id i x (some (Some version)) v w [] at h.1 (λ j _. refl) tt (λ j u apart there. (tt, not_other s r id i j v u at holds apart there)) (λ k b. b)
            (λ j apart e. absurd (apart (sym (some_same i j (sym holds ∙ e)))))
            (subst (λ (l : List Change). IsShard {Z = Z} n x (some (some (Some version))) l (set s.views id w) id i) (sym (append-nil r.list))
            (shard_freed s r id i x r.list (set s.views id w) version (omega arith) (omega arith) (omega arith) here))
            (subst (λ (l : List Change). IsView n (set s.words i x) l (put r.holder i id) id w) (sym (append-nil r.list))
            record { sees = mine.sees; joined = mine.joined; limited = mine.limited; parted = mine.parted; holds = λ j e. absurd (not_some j e) })),
        refl,
      )

  pub publishes : (slots id i x : ℕ) (me : M Z) (version : Arc PlainMap Z) (change : Change) → me.0.held ≡ Some i → me.1 ≡ (i, Some version) ∷ rest me.1
      → IsPart slots i (me.0.seen.log ++ change ∷ []) (arc_value version) → home slots change.name ≡ i → HasNumber (numbers me.0) change.number → count slots me.0.seen.log i < 2 ^ 62
      → x ≡ 2 * count slots me.0.seen.log i + 2 → Allows MeetsRule slots id me i (λ _. x) (λ _. PublishesChange change (step slots i x 0 none) me x)
  publishes slots id i x me version change holds hand shows at_home own_number room is s r deep at _ =
      let v : View = me.0 in let n : ℕ = length s.homes in let list : List Change = r.list ++ change ∷ [] in let w : View = view_after list v None in let mine = r.each_view id v at in let h = mine.holds i holds in
      let t = r.each_shard i h.1 in let word : ℕ = get_or s.words i 0 in let total : word / 2 ≡ count n r.list i = t.counted in let own : count n v.seen.log i ≡ word / 2 = h.3 in
      let is' : x ≡ 2 * count n v.seen.log i + 2 = subst (λ (z : ℕ). x ≡ 2 * count z v.seen.log i + 2) (sym deep) is in
      let room' : count n v.seen.log i < 2 ^ 62 = subst (λ (z : ℕ). count z v.seen.log i < 2 ^ 62) (sym deep) room in
      let home' : home n change.name ≡ i = subst (λ (z : ℕ). home z change.name ≡ i) (sym deep) at_home in
      let quiet : count n mine.sees.0 i ≡ 0 = none_since n v.seen.log r.list i (mine.sees.0, mine.sees.1) (own ∙ total) in
      let one : count n (change ∷ []) i ≡ 1 = counts_one n i change home' in
      let more : count n list i ≡ count n r.list i + count n (change ∷ []) i = count_append n r.list (change ∷ []) i in
      let here : IsPart n i list (arc_value version) = subst (λ (l : List Change). IsPart n i (l ++ change ∷ []) (arc_value version)) (sym mine.sees.1)
      (is_part_of_change n i v.seen.log mine.sees.0 change (arc_value version) home' quiet (subst (λ (z : ℕ). IsPart z i (v.seen.log ++ change ∷ []) (arc_value version)) (sym deep) shows)) in (
        w,
        gives,
        tt,
        subst (λ (hs : List (maybe.Option (SlotValue Z))). MeetsRule record { words = set s.words i x; homes = hs; views = set s.views id w }) (sym (in_hand s.homes me.1 i (Some version) hand))
            (seat_steps Z s r id i x (some (Some version)) v w (change ∷ []) at h.1 (λ j apart. counts_none n i j change home' apart) (mine.limited change.number own_number, tt)
            (λ j u apart there. ((mine.limited change.number own_number, (λ b. apart (r.apart j id u v there at change.number b own_number)), tt), not_other s r id i j v u at holds apart there)) (fewer_updated Z list v None)
            (λ j apart e. absurd (apart (sym (some_same i j (sym holds ∙ e)))))
            (shard_freed s r id i x list (set s.views id w) version (omega arith) (omega arith) (omega arith) here)
            (view_moved n s.words r.list list r.holder (put r.holder i id) id (set s.words i x) v mine)),
        (r.list, sees_list Z s r id v at, subst (λ (z : ℕ). count z r.list i ≡ count z v.seen.log i) deep (sym total ∙ sym own), refl),
      )

  -- the same for the slots and the change that a call names
  pub publishes_changed : (slots n id i x : ℕ) (me : M Z) (version : Arc PlainMap Z) (change change' : Change) → slots ≡ n → me.1 ≡ (i, Some version) ∷ rest me.1 → change ≡ change' → me.0.held ≡ Some i
      → IsPart n i (me.0.seen.log ++ change' ∷ []) (arc_value version) → home n change'.name ≡ i → HasNumber (numbers me.0) change'.number → count n me.0.seen.log i < 2 ^ 62
      → x ≡ 2 * count n me.0.seen.log i + 2 → Allows MeetsRule slots id me i (λ _. x) (λ _. PublishesChange change (step slots i x 0 none) me x)
  publishes_changed slots n id i x me version change change' same hand is holds shows at_home own room word =
      subst (λ (k : ℕ). Allows MeetsRule k id me i (λ _. x) (λ _. PublishesChange change (step k i x 0 none) me x)) (sym same)
      (subst (λ (c : Change). Allows MeetsRule n id me i (λ _. x) (λ _. PublishesChange c (step n i x 0 none) me x)) (sym is)
      (publishes n id i x me version change' holds hand shows at_home own room word))
