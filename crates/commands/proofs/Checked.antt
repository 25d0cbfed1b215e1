-- Documents that are judged one after the other.
use Rattle.std.proofs.Common.{◌≡◌, inl, inr, ℕ, ◌+◌, ◌<◌, ◌≤◌, List, [], ◌∷◌, ◌++◌, length, map, take, drop, get_or, Bool, ◌||◌, Option, Some, None, Result, Ok, Err, length-take, refl, sym, ap, subst, ◌∙◌, arith, append_assoc, append-nil}
use Rattle.std.specs.List.{list_any}
use Rattle.std.specs.Io.KnownBytes.{Appends}
use Rattle.std.proofs.KnownBytes.{Appends-nil, Appends-trans}
use Rattle.std.proofs.lemmas.List.{take_more, get_or-map, length-map, take-append-drop}
use Rattle.std.proofs.lemmas.List.Concat.{flat_map-append}
use Rattle.std.proofs.lemmas.List.Folds.{list_any-append}
use Rattle.wire.specs.Output.{WritesFront}
use Rattle.wire.proofs.OutputLemmas.{WritesFront-then}
use Rattle.wire.specs.declared.error.FrontError.TheVariants.{Memory}
use Rattle.wire.specs.Encoding.{Gives}
use Rattle.commands.specs.declared.fault.Fault.{Fault}
use Rattle.commands.specs.declared.fault.Fault.TheVariants.{Front, UnreadText}
use Rattle.commands.specs.Input.{IsInput}
use Rattle.commands.specs.declared.input.Extent.TheVariants.{Limited}
use Rattle.commands.specs.declared.check.Findings.{Findings}
use Rattle.commands.specs.Check.{Document, lines_of, lines_of_all, gives_no_bundle, gives_part, names_of, AreGiven, input_document}
use Rattle.commands.specs.Private.Checking.{joined, findings_of, ChecksOne, ChecksInput, ChecksFiles, SoFar}

abbrev found_by : Bool → Bool → Findings
found_by no_bundle ignored = record { no_bundle = no_bundle; ignored = ignored }

-- ---- lists of documents

pub lines_append : (xs ys : List Document) → lines_of_all (xs ++ ys) ≡ lines_of_all xs ++ lines_of_all ys
lines_append xs ys = flat_map-append lines_of xs ys

-- the lines of one more
lines_more : (xs : List Document) (x : Document) → lines_of_all xs ++ lines_of x ≡ lines_of_all (xs ++ x ∷ [])
lines_more xs x = ap (λ (l : List ℕ). lines_of_all xs ++ l) (sym (append-nil (lines_of x))) ∙ sym (lines_append xs (x ∷ []))

pub lines_one : (x : Document) → lines_of x ≡ lines_of_all (x ∷ [])
lines_one x = sym (append-nil (lines_of x))

names_append : (xs ys : List Document) → names_of (xs ++ ys) ≡ names_of xs ++ names_of ys
names_append [] ys = refl
names_append (x ∷ xs) ys = ap (λ (names : List (List ℕ)). x.name ∷ names) (names_append xs ys)

given_append : (gives : Gives) (xs ys : List Document) → AreGiven gives xs → AreGiven gives ys → AreGiven gives (xs ++ ys)
given_append gives [] ys a b = b
given_append gives (x ∷ xs) ys a b = (a.0, given_append gives xs ys a.1 b)

found_more : (xs ys : List Document) → joined (findings_of xs) (findings_of ys) ≡ findings_of (xs ++ ys)
found_more xs ys =
    sym (ap (λ (b : Bool). found_by b (list_any gives_part (xs ++ ys))) (list_any-append gives_no_bundle xs ys)
    ∙ ap (λ (b : Bool). found_by (list_any gives_no_bundle xs || list_any gives_no_bundle ys) b) (list_any-append gives_part xs ys))

-- ---- so far

-- one name more
pub next_name : {X : Type 0} (name : X → List ℕ) (files : List X) (place : ℕ) (blank : X) → place < length files
    → take (place + 1) (map name files) ≡ take place (map name files) ++ name (get_or files place blank) ∷ []
next_name name files place blank inside =
    let long = length-map files name in
    let lt : place < length (map name files) = omega (arith, inside, long) in
    take_more (map name files) place [] lt ∙ ap (λ (n : List ℕ). take place (map name files) ++ n ∷ []) (get_or-map name files place blank [] inside)

pub inside_map : {X : Type 0} (name : X → List ℕ) (files : List X) (place : ℕ) → place < length files → place < length (map name files)
inside_map name files place inside = omega (arith, inside, length-map files name)

pub given_as : (gives : Gives) (name name' text text' : List ℕ) → name' ≡ name → text' ≡ text → gives name' (Some text) → gives name (Some text')
given_as gives name name' text text' n t is = subst (λ (x : List ℕ). gives x (Some text')) n (subst (λ (x : List ℕ). gives name' (Some x)) (sym t) is)

count_is : (files : List (List ℕ)) (place : ℕ) (judged : List Document) → names_of judged ≡ take place files → place ≤ length files → length judged ≡ place
count_is files place judged names inside =
    let judged_long = length-map judged (λ (d : Document). d.name) in
    omega (arith, judged_long, ap length names, length-take place files, inside)

module _ (gives : Gives) (files : List (List ℕ)) (place : ℕ) (findings : Findings) (held sent : Option (List ℕ)) (so : SoFar gives files place findings held sent) where
  rest_is : files ≡ names_of so.judged ++ drop place files
  rest_is = sym (ap (λ (front : List (List ℕ)). front ++ drop place files) so.names ∙ take-append-drop place files)

  pub unread : (number : ℕ) (name : List ℕ) → place < length files → number ≡ place + 1 → take (place + 1) files ≡ take place files ++ name ∷ [] → gives name None
      → ChecksFiles gives files (Err (UnreadText number)) held sent
  unread number name inside is next none =
      let long = count_is files place so.judged so.names (omega (arith, inside)) in
      let rest = drop (place + 1) files in
      let split : names_of so.judged ++ name ∷ rest ≡ files =
      ap (λ (front : List (List ℕ)). front ++ name ∷ rest) so.names ∙ sym (append_assoc (take place files) (name ∷ []) rest) ∙ ap (λ (front : List (List ℕ)). front ++ rest) (sym next)
      ∙ take-append-drop (place + 1) files in
      record {
        judged = so.judged;
        judges = (name ∷ rest, sym split, so.given, (omega (arith, is, long), none));
        writes = so.appends;
        found = tt;
      }

  pub no_memory : ChecksFiles gives files (Err (Front Memory)) held sent
  no_memory = record {
    judged = so.judged;
    judges = (drop place files, rest_is, so.given, tt);
    writes = so.appends;
    found = tt;
  }

  module _ (document : Document) (given : gives document.name (Some document.text)) (next : take (place + 1) files ≡ take place files ++ document.name ∷ []) where
    names_now : names_of (so.judged ++ document ∷ []) ≡ take (place + 1) files
    names_now = names_append so.judged (document ∷ []) ∙ ap (λ (front : List (List ℕ)). front ++ document.name ∷ []) so.names ∙ sym next

    given_now : AreGiven gives (so.judged ++ document ∷ [])
    given_now = given_append gives so.judged (document ∷ []) so.given (given, tt)

    pub goes_on : (found joined_now : Findings) (new : Option (List ℕ)) → ChecksOne (Ok found) document sent new → joined_now ≡ joined findings found
        → SoFar gives files (place + 1) joined_now held new
    goes_on found joined_now new one is = record {
      judged = so.judged ++ document ∷ [];
      names = names_now;
      given = given_now;
      appends = subst (Appends held new) (lines_more so.judged document) (Appends-trans held sent new (lines_of_all so.judged) (lines_of document) so.appends one.0);
      found = is ∙ ap (λ (f : Findings). joined f found) so.found ∙ ap (joined (findings_of so.judged)) one.1 ∙ found_more so.judged (document ∷ []);
    }

    -- why a document ended the command
    pub fails : (fault : Fault) (new : Option (List ℕ)) → ChecksOne (Err fault) document sent new → ChecksFiles gives files (Err fault) held new
    fails fault new (inl cut) =
        subst (λ (f : Fault). ChecksFiles gives files (Err f) held new) (sym cut.0) record {
          judged = so.judged ++ document ∷ [];
          judges = (drop (place + 1) files, sym (ap (λ (front : List (List ℕ)). front ++ drop (place + 1) files) names_now ∙ take-append-drop (place + 1) files), given_now, tt);
          writes = subst (WritesFront held new) (lines_more so.judged document) (WritesFront-then held sent new (lines_of_all so.judged) (lines_of document) so.appends cut.1);
          found = tt;
        }
    fails fault new (inr none) =
        subst (λ (n : Option (List ℕ)). ChecksFiles gives files (Err fault) held n) (sym none.1)
        (subst (λ (f : Fault). ChecksFiles gives files (Err f) held sent) (sym none.0) no_memory)

-- ---- the input

pub judges_input : (result : Result Findings Fault) (text : List ℕ) (left_old left_new held new : Option (List ℕ)) → IsInput Limited text left_old left_new
    → ChecksOne result (input_document text) held new → ChecksInput result left_old left_new held new
judges_input (Ok findings) text left_old left_new held new is one = record {
  judged = input_document text ∷ [];
  judges = (text, is, refl);
  writes = subst (Appends held new) (lines_one (input_document text)) one.0;
  found = one.1;
}
judges_input (Err fault) text left_old left_new held new is (inl cut) =
    subst (λ (f : Fault). ChecksInput (Err f) left_old left_new held new) (sym cut.0) record {
      judged = input_document text ∷ [];
      judges = (text, is, refl);
      writes = subst (WritesFront held new) (lines_one (input_document text)) cut.1;
      found = tt;
    }
judges_input (Err fault) text left_old left_new held new is (inr none) =
    subst (λ (n : Option (List ℕ)). ChecksInput (Err fault) left_old left_new held n) (sym none.1)
    (subst (λ (f : Fault). ChecksInput (Err f) left_old left_new held held) (sym none.0) record { judged = []; judges = (tt, refl); writes = Appends-nil held; found = tt })
