-- The lines of a log, as they are written piece by piece.
use Rattle.std.proofs.Common.{◌≡◌, ℕ, List, [], ◌∷◌, ◌++◌, take, drop, Option, Some, refl, sym, ◌∙◌, subst, append_assoc}
use Rattle.std.specs.Prelude.{codes, decimal, Result, Err}
use Rattle.std.specs.Io.KnownBytes.{Appends}
use Rattle.std.proofs.KnownBytes.{Appends-trans}
use Rattle.std.proofs.lemmas.List.{take-append-drop}
use Rattle.wire.specs.Output.{WritesFront}
use Rattle.workers.specs.Ended.{session_number}
use Rattle.workers.specs.Log.{ChangeView}
use Rattle.workers.specs.declared.ended.SessionFault.{SessionFault}
use Rattle.workers.specs.declared.log.ChangeRefusal.{ChangeRefusal}
use Rattle.server.specs.LogLine.{before_word, change_line, end_words, how_word, refusal_line, refusal_words, state_word, turned_away_line, who_words}

-- words, whoever they are of, and three pieces behind them
pieces_behind : (them first second third : List ℕ) → them ++ (first ++ (second ++ third)) ≡ them ++ first ++ second ++ third
pieces_behind them first second third = sym (simp append_assoc)

pub change_line_whole : (held a b d e f new : Option (List ℕ)) (worker client : ℕ) (how : List ℕ) (change : ChangeView) → how ≡ how_word change.how
    → Appends held a (who_words worker (Some client)) → Appends a b (how ++ (codes " " ++ (change.domain ++ codes " ")))
    → Appends b d (before_word change.before) → Appends d e (codes " to ") → Appends e f (state_word change.after) → Appends f new (10 ∷ [])
    → Appends held new (change_line worker client change)
change_line_whole held a b d e f new worker client how change is who first before to after feed =
    let words = who_words worker (Some client) in
    let pieces = words ++ (how ++ (codes " " ++ (change.domain ++ codes " "))) in
    let line = words ++ how_word change.how ++ codes " " ++ change.domain ++ codes " " in
    let told : pieces ≡ words ++ how ++ codes " " ++ change.domain ++ codes " " =
    pieces_behind words how (codes " ") (change.domain ++ codes " ") ∙ sym (append_assoc (words ++ how ++ codes " ") change.domain (codes " ")) in
    let same : pieces ≡ line = subst (λ (h : List ℕ). pieces ≡ words ++ h ++ codes " " ++ change.domain ++ codes " ") is told in
    let first = subst (Appends held b) same (Appends-trans held a b _ _ who first) in
    Appends-trans held f new _ _ (Appends-trans held e f _ _ (Appends-trans held d e _ _ (Appends-trans held b d _ _ first before) to) after) feed

pub refusal_line_whole : (held a b d new : Option (List ℕ)) (worker client : ℕ) (domain : List ℕ) (refusal : ChangeRefusal)
    → Appends held a (who_words worker (Some client)) → Appends a b (codes "refused " ++ (domain ++ codes " "))
    → Appends b d (refusal_words refusal) → Appends d new (10 ∷ []) → Appends held new (refusal_line worker client domain refusal)
refusal_line_whole held a b d new worker client domain refusal who first words feed =
    let them = who_words worker (Some client) in
    let pieces = them ++ (codes "refused " ++ (domain ++ codes " ")) in
    let line = them ++ codes "refused " ++ domain ++ codes " " in
    let same : pieces ≡ line = pieces_behind them (codes "refused ") domain (codes " ") in
    let first = subst (Appends held b) same (Appends-trans held a b _ _ who first) in
    Appends-trans held d new _ _ (Appends-trans held b d _ _ first words) feed

pub turned_away_line_whole : (held a b new : Option (List ℕ)) (worker client count : ℕ) → Appends held a (who_words worker (Some client))
    → Appends a b (codes "refused " ++ (decimal count ++ codes " changes 56")) → Appends b new (10 ∷ []) → Appends held new (turned_away_line worker client count)
turned_away_line_whole held a b new worker client count who words feed =
    let them = who_words worker (Some client) in
    let pieces = them ++ (codes "refused " ++ (decimal count ++ codes " changes 56")) in
    let line = them ++ codes "refused " ++ decimal count ++ codes " changes 56" in
    let same : pieces ≡ line = pieces_behind them (codes "refused ") (decimal count) (codes " changes 56") in
    Appends-trans held b new _ _ (subst (Appends held b) same (Appends-trans held a b _ _ who words)) feed

pub fault_words_whole : (held new : Option (List ℕ)) (number : ℕ) (fault : SessionFault) (end : Result ℕ SessionFault) → end ≡ Err fault → number ≡ session_number fault
    → Appends held new (codes "session fault " ++ decimal number) → Appends held new (end_words end)
fault_words_whole held new number fault end is told pieces =
    let line : codes "session fault " ++ decimal number ≡ end_words (Err fault) = rw told refl in
    subst (λ (e : Result ℕ SessionFault). Appends held new (end_words e)) (sym is) (subst (Appends held new) line pieces)

-- so many bytes of a line are taken
pub front_of : (held new : Option (List ℕ)) (line : List ℕ) (count : ℕ) → Appends held new (take count line) → WritesFront held new line
front_of held new line count taken = record { front = take count line; missing = drop count line; split = sym (take-append-drop count line); appends = taken }
