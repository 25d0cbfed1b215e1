-- Lines that are read one after the other.
use Rattle.std.proofs.Common.{◌≡◌, ◌≢◌, ℕ, ◌+◌, ◌^◌, ◌<◌, ◌≤◌, List, [], ◌∷◌, ◌++◌, length, get_or, bytes_eq, min, Bool, true, false, cond, ◌||◌, Option, Some, None, Ok, Err, refl, sym, ap, subst, ◌∙◌, inl, inr, arith, append_assoc, append-nil, length-append}
use Rattle.std.specs.Prelude.{◌==◌, MatchBool, IfSome, if◌then◌else◌}
use Rattle.std.specs.Borrow.{Bor}
use denote.Param.Members.{Mut}
use Rattle.std.specs.Fn.{CalledAt, ComputesKey}
use Rattle.std.specs.BTreeMap.{is_at}
use Rattle.std.specs.BTreeSet.{BTreeSet}
use Rattle.std.specs.Cmp.Lexicographic.{bytes_decides, slice_cmp, texts_ties}
use Rattle.std.specs.Ordering.{nat_cmp}
use Rattle.std.specs.declared.slice.Split.{Split}
use Rattle.std.specs.List.{All, AllPairs, IsFirstMatchOrLen, flat_map, slice_split}
use Rattle.std.specs.Option.{option_to_list}
use Rattle.std.specs.Slice.Iter.{split_rest, split_done, split_callee, split_steps}
use Rattle.std.proofs.lemmas.Bool.{cases_Bool, false≢true}
use Rattle.std.proofs.lemmas.Fn.{always_returns_same}
use Rattle.std.proofs.lemmas.Grind.{common_steps}
use Rattle.std.proofs.lemmas.List.{map-append}
use Rattle.std.proofs.lemmas.List.Sums.{count_by-le-length}
use Rattle.std.proofs.lemmas.List.Concat.{flat_map-append}
use Rattle.std.proofs.lemmas.List.Folds.{list_any_at, list_any-append}
use Rattle.std.proofs.lemmas.List.Quantifiers.{all_pairs_push}
use Rattle.std.proofs.lemmas.List.Splits.{slice_split_none, slice_split_at, length-slice_split}
use Rattle.refresh.specs.declared.list.ListError.{ListError}
use Rattle.refresh.specs.declared.list.ListError.TheVariants.{BadLine, BadRelationship, Memory}
use Rattle.refresh.specs.Relationship.{RelationshipValue}
use Rattle.refresh.specs.List.{Listed, lines_of, listed_in, listed_behind, unless_there, has_domain, fault_at, AreListed, IsFirstBad, IsListFault}
use Rattle.spiffe_doc.specs.Private.EntrySet.{has}
use Rattle.refresh.specs.Private.Listing.{AreDomainsOf, Follows, IsLineFault}

-- ---- the lines

-- the lines that are still to come
abbrev pub left_in : {F : Type 0} → Split ℕ F → List (List ℕ)
left_in lines = cond (split_done lines) [] (lines_of (split_rest lines))

first_line : (text line rest : List ℕ) (done : Bool) → MatchBool done (text ≡ line) ((byte : ℕ) × (text ≡ line ++ (byte ∷ rest))) → IsFirstMatchOrLen (λ byte. byte == 10) text (length line)
    → lines_of text ≡ line ∷ cond done [] (lines_of rest)
unfolding lines_of
first_line text line rest true same first =
    ap (slice_split (λ byte. byte == 10)) same ∙ slice_split_none (λ byte. byte == 10) line (λ k d inside. subst (λ (bytes : List ℕ). (get_or bytes k d == 10) ≡ false) same (first.0 k d (omega arith) inside))
first_line text line rest false cut first =
    let front : All (λ byte. (byte == 10) ≡ false) line = λ k d inside. let plain = first.0 k d (omega arith) inside in let is = cut.1 in grind (arith, common_steps) in
    let feed : (cut.0 == 10) ≡ true = let is = cut.1 in let at = first.1 (grind (arith, common_steps)) cut.0 in grind (arith, common_steps) in
    ap (slice_split (λ byte. byte == 10)) cut.1 ∙ slice_split_at (λ byte. byte == 10) line cut.0 rest front feed

-- a call of `next` gives the first line that is left
pub next_line : {F : Type 0} (g : Mut F (Bor ℕ × Unit {0}) Bool) (s t : Split ℕ F) (line : Bor (List ℕ)) → split_steps g s (Some line) t
    → ((x : ℕ) (b : Bool) (q : F) → CalledAt g (split_callee s) x b q → (q ≡ split_callee s) × (b ≡ (x == 10)))
    → left_in s ≡ line.now ∷ left_in t
next_line g s t line steps tests =
    let computes : ComputesKey g (λ byte. byte == 10) (split_callee s) =
    always_returns_same g (λ a r. r ≡ (a.0.now == 10)) (split_callee s) (λ a r q k. let m = tests a.0.now r q (record { shown = a.0; shows = refl; called = k }) in (m.1, m.0)) in
    ap (λ (b : Bool). cond b [] (lines_of (split_rest s))) steps.0
    ∙ first_line (split_rest s) line.now (split_rest t) (split_done t) steps.1 (steps.2 (λ byte. byte == 10) computes).1

-- ---- what a line lists behind others

no_ok : {A E : Type 0} {x : A} {e : E} → Err e ≡ Ok x → ⊥
no_ok same = cc

behind_ok : (earlier : List RelationshipValue) (given : Listed) (found : Option RelationshipValue) → unless_there earlier given ≡ Ok found
    → (given ≡ Ok found) × IfSome found (λ r. has_domain earlier r.domain ≡ false)
behind_ok earlier (Ok None) found same = (same, let none : None ≡ found = cc in subst (λ (o : Option RelationshipValue). IfSome o (λ r. has_domain earlier r.domain ≡ false)) none tt)
behind_ok earlier (Ok (Some r)) found same = elim (cases_Bool (has_domain earlier r.domain)) [
  | inl there ↦ absurd (no_ok (sym (ap (λ (b : Bool). if b then Err None else Ok (Some r)) there) ∙ same))
  | inr new ↦
      let given : Ok (Some r) ≡ Ok found = sym (ap (λ (b : Bool). if b then Err None else Ok (Some r)) new) ∙ same in
      let some : Some r ≡ found = cc in
      (given, subst (λ (o : Option RelationshipValue). IfSome o (λ r. has_domain earlier r.domain ≡ false)) some new)
]
behind_ok earlier (Err fault) found same = absurd (no_ok same)

-- ---- lines that are listed

one_apart : (earlier : List RelationshipValue) (r : RelationshipValue) → has_domain earlier r.domain ≡ false → (k : ℕ) (d : RelationshipValue) → k < length earlier → (get_or earlier k d).domain ≢ r.domain
one_apart earlier r new k d inside same =
    false≢true (sym new ∙ list_any_at (λ s. bytes_eq s.domain r.domain) earlier k d inside ((bytes_decides _ _).1 same))

still_apart : (earlier : List RelationshipValue) (found : Option RelationshipValue) → AllPairs (λ r s. r.domain ≢ s.domain) earlier → IfSome found (λ r. has_domain earlier r.domain ≡ false)
    → AllPairs (λ r s. r.domain ≢ s.domain) (earlier ++ option_to_list found)
still_apart earlier None apart new = subst (AllPairs (λ r s. r.domain ≢ s.domain)) (sym (append-nil earlier)) apart
still_apart earlier (Some r) apart new = all_pairs_push (λ r s. r.domain ≢ s.domain) earlier r apart (one_apart earlier r new)

pub one_listed : (before : List (List ℕ)) (earlier : List RelationshipValue) (line : List ℕ) (later : List RelationshipValue) → AreListed before earlier → Follows earlier line later → AreListed (before ++ line ∷ []) later
one_listed before earlier line later listed follows =
    let behind = behind_ok earlier (listed_in line) follows.0 follows.1 in
    record {
      found = listed.found ++ follows.0 ∷ [];
      each = map-append listed_in before (line ∷ []) ∙ (λ i. listed.each i ++ behind.0 i ∷ []) ∙ sym (map-append Ok listed.found (follows.0 ∷ []));
      all = follows.2 ∙ ap (λ (rs : List RelationshipValue). rs ++ option_to_list follows.0) listed.all
          ∙ sym (flat_map-append option_to_list listed.found (follows.0 ∷ []) ∙ ap (λ (rs : List RelationshipValue). flat_map option_to_list listed.found ++ rs) (append-nil (option_to_list follows.0)));
      apart = subst (AllPairs (λ r s. r.domain ≢ s.domain)) (sym follows.2) (still_apart earlier follows.0 listed.apart behind.1);
    }

-- so many lines are read, and these are left
pub record SoFar (list : List ℕ) (left : List (List ℕ)) (number : ℕ) (relationships : List RelationshipValue) : Type 0 where
  pub before : List (List ℕ)
  pub split : lines_of list ≡ before ++ left
  pub numbered : number ≡ length before
  pub listed : AreListed before relationships

few_lines : (list : List ℕ) (before : List (List ℕ)) (line : List ℕ) (left : List (List ℕ)) → lines_of list ≡ before ++ line ∷ left → length before ≤ length list
unfolding lines_of
few_lines list before line left split =
    omega (arith, ap length split, length-append before (line ∷ left), length-slice_split (λ byte. byte == 10) list, count_by-le-length (λ byte. byte == 10) list)

told-as : (error : ListError) (list : List ℕ) → IsFirstBad (lines_of list) error → IsListFault error list
told-as (BadLine number) list bad = bad
told-as (BadRelationship why number) list bad = bad
told-as Memory list bad = tt

module _ (list line : List ℕ) (left : List (List ℕ)) (number next : ℕ) (earlier : List RelationshipValue) (so_far : SoFar list (line ∷ left) number earlier)
    (short : length list < 2 ^ 63) (counted : next ≡ min (number + 1) 18446744073709551615) where
  next_is : next ≡ length so_far.before + 1
  next_is = let few = few_lines list so_far.before line left so_far.split in omega (arith, few, short, counted, so_far.numbered)

  pub one_line : (later : List RelationshipValue) → Follows earlier line later → SoFar list left next later
  one_line later follows = record {
    before = so_far.before ++ line ∷ [];
    split = so_far.split ∙ sym (append_assoc so_far.before (line ∷ []) left);
    numbered = next_is ∙ sym (length-append so_far.before (line ∷ []));
    listed = one_listed so_far.before earlier line later so_far.listed follows;
  }

  pub bad_line : (error : ListError) → IsLineFault next (listed_behind earlier line) error → IsListFault error list
  bad_line error (inl memory) = subst (λ (e : ListError). IsListFault e list) (sym memory) tt
  bad_line error (inr bad) = told-as error list (record {
    before = so_far.before;
    line = line;
    after = left;
    split = so_far.split;
    relationships = earlier;
    listed = so_far.listed;
    why = bad.0;
    bad = bad.1;
    told = bad.2 ∙ ap (λ (n : ℕ). fault_at n bad.0) next_is;
  })

-- ---- their trust domains

cond_or : (b c : Bool) → cond b true c ≡ (c || (b || false))
cond_or true true = refl
cond_or true false = refl
cond_or false true = refl
cond_or false false = refl

pub one_known : (earlier : List RelationshipValue) (r : RelationshipValue) (old new : BTreeSet (List ℕ)) → AreDomainsOf earlier old
    → ((name : List ℕ) → has new name ≡ cond (is_at (slice_cmp nat_cmp r.domain) name) true (has old name)) → AreDomainsOf (earlier ++ r ∷ []) new
one_known earlier r old new known inserted = λ name.
    inserted name ∙ ap (λ (b : Bool). cond b true (has old name)) (sym (texts_ties r.domain name)) ∙ ap (λ (b : Bool). cond (bytes_eq r.domain name) true b) (known name)
    ∙ cond_or (bytes_eq r.domain name) (has_domain earlier name) ∙ sym (list_any-append (λ s. bytes_eq s.domain name) earlier (r ∷ []))
