-- What a map answers is of a kind that the operation may have.
use Rattle.std.proofs.Common.{◌≡◌, ℕ, List, ◌∷◌, ◌++◌, refl, ap, ◌∙◌, Result, Ok, Err, Some, None, Bool, true, false, bytes_eq}
use Rattle.std.specs.Prelude.{Option, if◌then◌else◌}
use Rattle.std.specs.FinMap as finite
use Rattle.spiffe_doc.specs.Authority.{BundleValue}
use Rattle.spiffe_doc.specs.Equal.{bundle_eq}
use Rattle.spiffe_doc.specs.Append.{appended}
use Rattle.spiffe_doc.specs.declared.authority.Authority.{Authority}
use Rattle.spiffe_doc.specs.declared.error.AppendError.{AppendError}
use Rattle.spiffe_doc.specs.declared.error.AppendError.TheVariants as cannot
use Rattle.map_core.specs.declared.op.Op.{Op}
use Rattle.map_core.specs.declared.op.Op.TheVariants.{Set, SetIf, Append, Remove, Get, FetchAll, FetchUnless}
use Rattle.map_core.specs.declared.held.Holding.{Holding}
use Rattle.map_core.specs.declared.held.Holding.TheVariants.{Published, Mark}
use Rattle.map_core.specs.declared.reply.Reply.TheVariants.{Unchanged, All, Same, Refused}
use Rattle.map_core.specs.declared.reply.MapRefusal.TheVariants.{Stale, NotExpected}
use Rattle.map_core.specs.Name.{Name}
use Rattle.map_core.specs.Op.{expect_eq}
use Rattle.map_core.specs.Table.{meaning, keep, store, store_after, is_lower, set, expectation, append, append_to, append_refusal, remove, get}
use Rattle.map_core.specs.Dump.{digest}
use Rattle.map_core.specs.PlainMap.{PlainMap, bundles, ask}
use Rattle.wire.specs.Frame.{frame}
use Rattle.wire.specs.Answers.{code_of}
use Rattle.client.specs.Answer.{MayAnswer, is_code_for}

pub one_code : (code : ℕ) (rest : List ℕ) → code_of (frame (code ∷ rest)) ≡ code
unfolding frame
one_code code rest = refl

pub first_code : (code : ℕ) (rest more : List ℕ) → code_of (frame (code ∷ rest) ++ more) ≡ code
unfolding frame
first_code code rest more = refl

module _ (op : Op) where
  fits : (code : ℕ) (rest : List ℕ) → is_code_for op code ≡ true → is_code_for op (code_of (frame (code ∷ rest))) ≡ true
  fits code rest right = ap (is_code_for op) (one_code code rest) ∙ right

  module _ (may_store : is_code_for op 115 ≡ true) (may_refuse : is_code_for op 31 ≡ true) where
    lower : (b : BundleValue) (held : Option Holding) (before : ℕ) (is : Bool) → MayAnswer op (Ok (if is then keep (Refused (Stale before)) held else store b).reply)
    lower b held before true = fits 31 _ may_refuse
    lower b held before false = fits 115 _ may_store

    after : (before : Option ℕ) (b : BundleValue) (held : Option Holding) → MayAnswer op (Ok (store_after before b held).reply)
    after None b held = fits 115 _ may_store
    after (Some before) b held = lower b held before (is_lower b.sequence before)

    module _ (may_keep : is_code_for op 117 ≡ true) where
      equal : (b c : BundleValue) (is : Bool) → MayAnswer op (Ok (if is then keep Unchanged (Some (Published c)) else store_after c.sequence b (Some (Published c))).reply)
      equal b c true = fits 117 _ may_keep
      equal b c false = after c.sequence b (Some (Published c))

      set_answers : (b : BundleValue) (held : Option Holding) → MayAnswer op (Ok (set b held).reply)
      set_answers b None = fits 115 _ may_store
      set_answers b (Some (Mark s)) = after (Some s) b (Some (Mark s))
      set_answers b (Some (Published c)) = equal b c (bundle_eq b c)

      expected : (b : BundleValue) (held : Option Holding) (is : Bool) → is_code_for op 36 ≡ true
          → MayAnswer op (Ok (if is then set b held else keep (Refused (NotExpected (expectation held))) held).reply)
      expected b held true may = set_answers b held
      expected b held false may = fits 36 _ may

module _ (d : Name) (a : Authority) where
  not_answers : (b : BundleValue) (why : AppendError) → MayAnswer (Append d a) (Ok (append_refusal why))
  not_answers b cannot.Present = fits (Append d a) 117 _ refl
  not_answers b cannot.KidTaken = fits (Append d a) 32 _ refl
  not_answers b cannot.TooMany = fits (Append d a) 33 _ refl
  not_answers b cannot.SequenceFull = fits (Append d a) 35 _ refl
  not_answers b cannot.TooLong = fits (Append d a) 34 _ refl
  not_answers b cannot.Memory = fits (Append d a) 117 _ refl

  longer : (b : BundleValue) (r : Result BundleValue AppendError) → MayAnswer (Append d a) (Ok (append_to b r).reply)
  longer b (Ok more) = fits (Append d a) 112 _ refl
  longer b (Err why) = not_answers b why

  append_answers : (held : Option Holding) → MayAnswer (Append d a) (Ok (append a held).reply)
  append_answers None = fits (Append d a) 30 _ refl
  append_answers (Some (Mark s)) = fits (Append d a) 30 _ refl
  append_answers (Some (Published b)) = longer b (appended b a)

remove_answers : (d : Name) (held : Option Holding) → MayAnswer (Remove d) (Ok (remove held).reply)
remove_answers d None = fits (Remove d) 30 _ refl
remove_answers d (Some (Mark s)) = fits (Remove d) 30 _ refl
remove_answers d (Some (Published b)) = fits (Remove d) 100 _ refl

get_answers : (d : Name) (held : Option Holding) → MayAnswer (Get d) (Ok (get held).reply)
get_answers d None = fits (Get d) 30 _ refl
get_answers d (Some (Mark s)) = fits (Get d) 30 _ refl
get_answers d (Some (Published b)) = fits (Get d) 102 _ refl

unless_answers : (known : List ℕ) (same : Bool) (items : List (Name × BundleValue)) → MayAnswer (FetchUnless known) (Ok (if same then Same else All items))
unless_answers known true items = fits (FetchUnless known) 101 _ refl
unless_answers known false items = ap (is_code_for (FetchUnless known)) (first_code 97 _ _)

pub map_answers : (m : PlainMap) (op : Op) → MayAnswer op (Ok (ask m op).reply)
unfolding ask meaning
map_answers m (Set d b) = set_answers (Set d b) refl refl refl b (finite.get m d)
map_answers m (SetIf d expect b) =
    expected (SetIf d expect b) refl refl refl b (finite.get m d) (expect_eq expect (expectation (finite.get m d))) refl
map_answers m (Append d a) = append_answers d a (finite.get m d)
map_answers m (Remove d) = remove_answers d (finite.get m d)
map_answers m (Get d) = get_answers d (finite.get m d)
map_answers m FetchAll = ap (is_code_for FetchAll) (first_code 97 _ _)
map_answers m (FetchUnless known) = unless_answers known (bytes_eq known (digest (bundles m))) (bundles m)
