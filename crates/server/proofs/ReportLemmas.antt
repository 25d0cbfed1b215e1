-- What is said of one fault more, and of one worker more.
use Rattle.std.proofs.Common.{◌≡◌, ℕ, suc, ◌+◌, ◌<◌, ◌&&◌, List, [], ◌∷◌, ◌++◌, length, get_or, take, Bool, true, false, refl, sym, ap, ◌∙◌, arith, append_assoc, append-nil}
use Rattle.std.specs.Prelude.{if◌then◌else◌}
use Rattle.std.proofs.Math.Seq.{take-suc}
use Rattle.std.proofs.lemmas.Grind.{flat_map-append}
use Rattle.commands.specs.Fault.{fault_line}
use Rattle.commands.specs.declared.fault.Fault.TheVariants as faults
use Rattle.server.specs.Serve.{begun_by, have_all_come, session_lines, faults_by}
use Rattle.workers.specs.declared.ended.SessionFault.{SessionFault}
use Rattle.workers.specs.declared.ended.SessionFault.TheVariants.{Front, Listen}
use Rattle.workers.specs.declared.ended.Worked.{Worked}

all_three : (a b c : Bool) → ((a && b) && c) ≡ (a && (b && c))
all_three true b c = refl
all_three false b c = refl

pub all_four : (a b c d : Bool) → (((a && b) && c) && d) ≡ (a && (b && (c && d)))
all_four true b c d = all_three b c d
all_four false b c d = refl

lines_append : (some more : List SessionFault) → session_lines (some ++ more) ≡ session_lines some ++ session_lines more
lines_append [] more = refl
lines_append (Front error ∷ some) more =
    ap (λ (t : List ℕ). fault_line (faults.Front error) ++ t) (lines_append some more)
    ∙ sym (append_assoc (fault_line (faults.Front error)) (session_lines some) (session_lines more))
lines_append (Listen ∷ some) more =
    ap (λ (t : List ℕ). fault_line faults.Listen ++ t) (lines_append some more)
    ∙ sym (append_assoc (fault_line faults.Listen) (session_lines some) (session_lines more))

begun_push : (worked : List Worked) (w : Worked) → begun_by (worked ++ w ∷ []) ≡ begun_by worked + w.ends.begun
begun_push [] w = omega arith
begun_push (v ∷ worked) w = omega (arith, begun_push worked w)

come_push : (worked : List Worked) (w : Worked) → have_all_come (worked ++ w ∷ []) ≡ (have_all_come worked && w.ends.came)
come_push [] w = both_with_true w.ends.came
  where
    both_with_true : (b : Bool) → (b && true) ≡ b
    both_with_true true = refl
    both_with_true false = refl
come_push (v ∷ worked) w = ap (λ b. v.ends.came && b) (come_push worked w) ∙ sym (all_three v.ends.came (have_all_come worked) w.ends.came)

faults_push : (worked : List Worked) (w : Worked) → faults_by (worked ++ w ∷ []) ≡ faults_by worked ++ w.ends.faults
faults_push worked w =
    flat_map-append (λ (v : Worked). v.ends.faults) worked (w ∷ []) ∙ ap (λ (t : List SessionFault). faults_by worked ++ t) (append-nil w.ends.faults)

one_more : {X : Type 0} (xs : List X) (i : ℕ) (d : X) → i < length xs → take (i + 1) xs ≡ take i xs ++ get_or xs i d ∷ []
one_more xs i d inside = let next : i + 1 ≡ suc i = omega arith in ap (λ (n : ℕ). take n xs) next ∙ take-suc xs i d inside

pub lines_step : (faults : List SessionFault) (i : ℕ) (d : SessionFault) → i < length faults
    → session_lines (take (i + 1) faults) ≡ session_lines (take i faults) ++ session_lines (get_or faults i d ∷ [])
lines_step faults i d inside = ap session_lines (one_more faults i d inside) ∙ lines_append (take i faults) (get_or faults i d ∷ [])

module _ (worked : List Worked) (i : ℕ) (w : Worked) (inside : i < length worked) (is : w ≡ get_or worked i w) where
  step : take (i + 1) worked ≡ take i worked ++ w ∷ []
  step = one_more worked i w inside ∙ ap (λ v. take i worked ++ v ∷ []) (sym is)

  pub all_begun_step : begun_by (take (i + 1) worked) ≡ begun_by (take i worked) + w.ends.begun
  all_begun_step = ap begun_by step ∙ begun_push (take i worked) w

  pub all_come_step : have_all_come (take (i + 1) worked) ≡ (have_all_come (take i worked) && w.ends.came)
  all_come_step = ap have_all_come step ∙ come_push (take i worked) w

  pub all_lines_step : session_lines (faults_by (take (i + 1) worked)) ≡ session_lines (faults_by (take i worked)) ++ session_lines w.ends.faults
  all_lines_step = ap (λ ws. session_lines (faults_by ws)) step ∙ (ap session_lines (faults_push (take i worked) w) ∙ lines_append (faults_by (take i worked)) w.ends.faults)

pub not_all : (a b : Bool) → (let one : ℕ = 1 in one ≡ (if a && (b && false) then 0 else 1))
not_all true true = refl
not_all true false = refl
not_all false b = refl
