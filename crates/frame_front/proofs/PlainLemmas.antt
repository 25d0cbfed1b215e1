-- Sessions over a map that shows a plain map.
use Rattle.std.proofs.Common.{◌≡◌, ℕ, zero, suc, ◌-◌, ◌≤◌, List, [], ◌∷◌, ◌++◌, length, take, drop, append-nil, append_assoc, length-append, arith, refl, sym, ap, ◌∙◌, inl, inr, subst, Result, Ok, Err, Some, Bool, true, false}
use Rattle.std.specs.Prelude.{Option, if◌then◌else◌}
use Rattle.std.specs.Io.KnownBytes.{Appends}
use Rattle.std.specs.List.{AllByRecursion, concat}
use Rattle.std.proofs.lemmas.Bool.{cases_lt}
use Rattle.std.proofs.lemmas.List.{take-append-le, take-append-drop, take_at}
use Rattle.std.proofs.lemmas.List.Folds.{concat-append}
use Rattle.map_core.specs.declared.op.Op.{Op}
use Rattle.map_core.specs.declared.reply.Reply.{Reply}
use Rattle.map_core.specs.declared.reply.AskError.{AskError}
use Rattle.map_core.specs.PlainMap.{PlainMap}
use Rattle.map_core.specs.Ask.{AnswersPlainly}
use Rattle.wire.specs.Frame.{IsPayload, frame, stream_of}
use Rattle.wire.specs.declared.error.FrontError.{FrontError}
use Rattle.wire.specs.declared.error.FrontError.TheVariants.{BadLength, Truncated, ReadFault, WriteFault, TurnsUsed, Memory}
use Rattle.frame_front.specs.declared.terms.Terms.{Terms}
use Rattle.frame_front.specs.Terms.{begun, is_turned_away}
use Rattle.wire.specs.declared.judge.Judged.{Judged}
use Rattle.wire.specs.declared.judge.Judged.TheVariants.{Ask, SetVersion, TellCounts}
use Rattle.wire.specs.declared.refusal.Refusal.{Refusal}
use Rattle.wire.specs.Judge.{request_of}
use Rattle.wire.specs.Answers.{is_error_reply}
use Rattle.frame_front.specs.Session.{SessionState, AnswersRequest, AnswersUnless, Answers, AnswersAll, shut_frame}
use Rattle.frame_front.specs.Transcript.{Transcript}
use Rattle.frame_front.specs.PlainSession.{AskNoCounts, text_for, state_for, text_to, state_to, answers_to, state_after, TellsError, PlainTranscript, texts_within, WritesTexts}
use Rattle.frame_front.proofs.SessionLemmas.{stream_of-append, concat-one}
use Rattle.frame_front.proofs.BegunTexts.{NoErrors, no_errors-append, each_before, begun_before, begun_reaches}
use Rattle.frame_front.proofs.ReplyLemmas.{not_both, want_is_error, version_answers, plain_goes_out, errors_keep, one_answers}

-- an answer to a payload that reads so, over the plain map
pub record PlainStep (state : SessionState PlainMap) (read : Result Judged Refusal) (text : List ℕ) (new : SessionState PlainMap) : Type 0 where
  pub text_is : text ≡ text_for state read
  pub new_is : new ≡ state_for state read

-- no text has the code of an error, but maybe those to payloads that are turned away
abbrev pub HaveNoErrors : Bool → List (List ℕ) → List (List ℕ) → Type 0
HaveNoErrors reads_only [] texts = Unit {0}
HaveNoErrors reads_only (payload ∷ payloads) [] = Unit {0}
HaveNoErrors reads_only (payload ∷ payloads) (text ∷ texts) =
    (is_turned_away reads_only payload ≡ false → is_error_reply text ≡ false) × HaveNoErrors reads_only payloads texts

none_have : (payloads texts : List (List ℕ)) → NoErrors texts → HaveNoErrors false payloads texts
none_have [] texts none = tt
none_have (payload ∷ payloads) [] none = tt
none_have (payload ∷ payloads) (text ∷ texts) none = (λ here. none.0, none_have payloads texts none.1)

module _ {S : Type 0} (answers : S → Op → Result Reply AskError → S → Type 0) where
  request_stays : (read : Result Judged Refusal) (old new : SessionState S) (text : List ℕ) → AnswersRequest answers read old text new → new.0.reads_only ≡ old.0.reads_only
  request_stays (Err refusal) old new text answer = ap (λ (s : SessionState S). s.0.reads_only) answer.1
  request_stays (Ok (SetVersion version)) old new text answer = ap (λ (s : SessionState S). s.0.reads_only) answer.1
  request_stays (Ok TellCounts) old new text answer = ap (λ (s : SessionState S). s.0.reads_only) answer.3
  request_stays (Ok (Ask op)) old new text answer = ap (λ (t : Terms). t.reads_only) answer.3

  unless_stays : (away : Bool) (payload : List ℕ) (old new : SessionState S) (text : List ℕ) → AnswersUnless answers away old payload text new → new.0.reads_only ≡ old.0.reads_only
  unless_stays true payload old new text answer = ap (λ (s : SessionState S). s.0.reads_only) answer.1
  unless_stays false payload old new text (inl request) = request_stays (request_of old.0.version payload) old new text request
  unless_stays false payload old new text (inr want) = ap (λ (s : SessionState S). s.0.reads_only) want.1

  -- a session that may only read stays one
  pub reads_only_stays : (payload : List ℕ) (old new : SessionState S) (text : List ℕ) → Answers answers old payload text new → new.0.reads_only ≡ old.0.reads_only
  reads_only_stays payload old new text answer = unless_stays (is_turned_away old.0.reads_only payload) payload old new text answer

module _ {S : Type 0} (answers : S → Op → Result Reply AskError → S → Type 0) (shows : S → Option PlainMap)
    (plainly : AnswersPlainly answers shows) where
  -- one payload that is read
  plain_request : (read : Result Judged Refusal) (old new : SessionState S) (text : List ℕ) (m : PlainMap) → shows old.1 ≡ Some m
      → AnswersRequest answers read old text new
      → (n : PlainMap) × (shows new.1 ≡ Some n) × (is_error_reply text ≡ false → ¬ (read ≡ Ok TellCounts) → PlainStep (old.0, m) read text (new.0, n))
  plain_request (Err refusal) old new text m shown answer =
      (m, ap (λ (s : SessionState S). shows s.1) answer.1 ∙ shown, λ other no. record { text_is = answer.0; new_is = ap (λ (s : SessionState S). (s.0, m)) answer.1 })
  plain_request (Ok (SetVersion version)) old new text m shown answer =
      (m, ap (λ (s : SessionState S). shows s.1) answer.1 ∙ shown, λ other no. record { text_is = answer.0; new_is = ap (λ (s : SessionState S). (s.0, m)) answer.1 })
  plain_request (Ok TellCounts) old new text m shown answer =
      (m, ap (λ (s : SessionState S). shows s.1) answer.3 ∙ shown, λ other no. absurd (no refl))
  plain_request (Ok (Ask op)) old new text m shown answer =
      let left = plain_goes_out answer.0 m (shows new.1) op text (plainly old.1 op answer.0 new.1 m shown answer.1) answer.2 in (
        left.0,
        left.1,
        λ other no. record {
          text_is = (left.2 other).0;
          new_is = ap (λ v. (v, left.0)) answer.3 ∙ ap (λ n. (old.0, n)) (left.2 other).1;
        },
      )

  error_request : (read : Result Judged Refusal) (old new : SessionState S) (text : List ℕ) (m : PlainMap) → shows old.1 ≡ Some m
      → AnswersRequest answers read old text new → is_error_reply text ≡ true → (shows new.1 ≡ Some m) × (new.0 ≡ old.0)
  error_request (Err refusal) old new text m shown answer tells = (ap (λ (s : SessionState S). shows s.1) answer.1 ∙ shown, ap (λ (s : SessionState S). s.0) answer.1)
  error_request (Ok (SetVersion version)) old new text m shown answer tells = absurd (not_both (is_error_reply text) tells (ap is_error_reply answer.0 ∙ version_answers version))
  error_request (Ok TellCounts) old new text m shown answer tells = (ap (λ (s : SessionState S). shows s.1) answer.3 ∙ shown, ap (λ (s : SessionState S). s.0) answer.3)
  error_request (Ok (Ask op)) old new text m shown answer tells =
      (errors_keep answer.0 m (shows new.1) op text (plainly old.1 op answer.0 new.1 m shown answer.1) answer.2 tells, answer.3)

  -- one payload
  plain_one : (away : Bool) (payload : List ℕ) (old new : SessionState S) (text : List ℕ) (m : PlainMap) → shows old.1 ≡ Some m → AnswersUnless answers away old payload text new
      → (n : PlainMap) × (shows new.1 ≡ Some n) × ((away ≡ false → is_error_reply text ≡ false) → ¬ (request_of old.0.version payload ≡ Ok TellCounts)
      → (text ≡ (if away then shut_frame else text_for (old.0, m) (request_of old.0.version payload)))
      × ((new.0, n) ≡ (if away then (old.0, m) else state_for (old.0, m) (request_of old.0.version payload))))
  plain_one true payload old new text m shown answer =
      (m, ap (λ (s : SessionState S). shows s.1) answer.1 ∙ shown, λ none no. (answer.0, ap (λ (s : SessionState S). (s.0, m)) answer.1))
  plain_one false payload old new text m shown (inl request) =
      let read = plain_request (request_of old.0.version payload) old new text m shown request in
      (read.0, read.1, λ none no. let step = read.2 (none refl) no in (step.text_is, step.new_is))
  plain_one false payload old new text m shown (inr want) =
      (m, ap (λ (s : SessionState S). shows s.1) want.1 ∙ shown, λ none no. absurd (not_both (is_error_reply text) (want_is_error text want.0) (none refl)))

  -- a payload answered by a text that tells an error changes nothing
  pub errors_change_nothing : (payload : List ℕ) (old new : SessionState S) (text : List ℕ) (m : PlainMap) → shows old.1 ≡ Some m
      → Answers answers old payload text new → is_error_reply text ≡ true → (shows new.1 ≡ Some m) × (new.0 ≡ old.0)
  errors_change_nothing payload old new text m shown answer tells = unless (is_turned_away old.0.reads_only payload) answer
    where
      unless : (away : Bool) → AnswersUnless answers away old payload text new → (shows new.1 ≡ Some m) × (new.0 ≡ old.0)
      unless true turned = (ap (λ (s : SessionState S). shows s.1) turned.1 ∙ shown, ap (λ (s : SessionState S). s.0) turned.1)
      unless false (inr want) = (ap (λ (s : SessionState S). shows s.1) want.1 ∙ shown, ap (λ (s : SessionState S). s.0) want.1)
      unless false (inl request) = error_request (request_of old.0.version payload) old new text m shown request tells

  -- if no text that is begun tells an error, none of their codes says so, in a session that may do all
  begun_answer : (payloads texts : List (List ℕ)) (old new : SessionState S) (n : ℕ) → old.0.reads_only ≡ false → AnswersAll answers old payloads texts new
      → AllByRecursion (λ text. ¬ (TellsError answers text)) (texts_within n texts) → NoErrors (texts_within n texts)
  begun_answer payloads texts old new zero all answered none = tt
  begun_answer payloads [] old new (suc n) all answered none = tt
  begun_answer [] (text ∷ texts) old new (suc n) all answered none = absurd answered
  begun_answer (payload ∷ payloads) (text ∷ texts) old new (suc n) all answered none = (
    one_answers answers payload old answered.0 text answered.1 (ap (λ reads_only. is_turned_away reads_only payload) all) none.0,
    begun_answer payloads texts answered.0 new (suc n - length text) (reads_only_stays answers payload old answered.0 text answered.1 ∙ all) answered.2 none.1,
  )

  -- all payloads
  pub plain_all : (reads_only : Bool) (payloads texts : List (List ℕ)) (old new : SessionState S) (m : PlainMap) → old.0.reads_only ≡ reads_only → shows old.1 ≡ Some m → AnswersAll answers old payloads texts new
      → (n : PlainMap) × (shows new.1 ≡ Some n) × (HaveNoErrors reads_only payloads texts → AskNoCounts payloads
      → (texts ≡ answers_to (old.0, m) payloads) × (n ≡ (state_after (old.0, m) payloads).1))
  plain_all reads_only [] [] old new m is shown answered = (m, ap (λ (s : SessionState S). shows s.1) answered ∙ shown, λ others no. (refl, refl))
  plain_all reads_only [] (text ∷ texts) old new m is shown answered = absurd answered
  plain_all reads_only (payload ∷ payloads) [] old new m is shown answered = absurd answered
  plain_all reads_only (payload ∷ payloads) (text ∷ texts) old new m is shown answered =
      let first = plain_one (is_turned_away old.0.reads_only payload) payload old answered.0 text m shown answered.1 in
      let rest = plain_all reads_only payloads texts answered.0 new first.0 (reads_only_stays answers payload old answered.0 text answered.1 ∙ is) first.1 answered.2 in (
        rest.0,
        rest.1,
        λ others no. let here = subst (λ b. is_turned_away b payload ≡ false → is_error_reply text ≡ false) (sym is) others.0 in
            let one = first.2 here (no.0 old.0.version) in let more = rest.2 others.1 no.1 in (
              ap (λ t. t ∷ texts) one.0 ∙ ap (λ ts. text_to (old.0, m) payload ∷ ts) (more.0 ∙ ap (λ s. answers_to s payloads) one.1),
              more.1 ∙ ap (λ (s : SessionState PlainMap). (state_after s payloads).1) one.1,
            ),
      )

  -- the last of several payloads
  last_answered : (ps ts : List (List ℕ)) (t : List ℕ) (old new : SessionState S) → AnswersAll answers old ps (ts ++ t ∷ []) new
      → (qs : List (List ℕ)) × (q : List ℕ) × (mid : SessionState S) × (ps ≡ qs ++ q ∷ []) × AnswersAll answers old qs ts mid × Answers answers mid q t new
  last_answered [] [] t old new a = absurd a
  last_answered (p ∷ []) [] t old new a = ([], p, old, refl, refl, subst (λ s. Answers answers old p t s) (sym a.2) a.1)
  last_answered (p ∷ more ∷ ps) [] t old new a = absurd a.2
  last_answered [] (x ∷ ts) t old new a = absurd a
  last_answered (p ∷ ps) (x ∷ ts) t old new a =
      let rest = last_answered ps ts t a.0 new a.2 in
      (p ∷ rest.0, rest.1, rest.2, ap (λ qs. p ∷ qs) rest.3, (a.0, a.1, rest.4), rest.5)

  -- What stands of a session whose writer failed, over the plain map.
  pub record PlainCut (read written : List ℕ) (old new : PlainMap) : Type 0 where
    pub payloads : List (List ℕ)
    pub texts : List (List ℕ)
    pub rest : List ℕ
    pub whole : read ≡ stream_of payloads rest
    pub each : AllByRecursion IsPayload payloads
    pub stands : (missing : List ℕ) × (concat texts ≡ written ++ missing)
    pub told : AskNoCounts payloads → AllByRecursion (λ text. ¬ (TellsError answers text)) (texts_within (length written) texts) → (texts ≡ answers_to (begun false, old) payloads) × (new ≡ (state_after (begun false, old) payloads).1)

  module _ (payloads before gathered : List (List ℕ)) (rest front : List ℕ) (old : S) (new : SessionState S) (m : PlainMap) (shown : shows old ≡ Some m)
      (each : AllByRecursion IsPayload payloads) (no_errors : NoErrors gathered) where
    all_kept : (alone : List (List ℕ)) (missing : List ℕ) → AnswersAll answers (begun false, old) payloads ((before ++ gathered) ++ alone) new
        → concat (gathered ++ alone) ≡ front ++ missing
        → (NoErrors (texts_within (length (concat before ++ front)) ((before ++ gathered) ++ alone)) → NoErrors alone)
        → (n : PlainMap) × (shows new.1 ≡ Some n) × PlainCut (stream_of payloads rest) (concat before ++ front) m n
    all_kept alone missing answered cut alone_answers =
        let all = plain_all false payloads ((before ++ gathered) ++ alone) (begun false, old) new m refl shown answered in (
          all.0,
          all.1,
          record {
            payloads = payloads;
            texts = (before ++ gathered) ++ alone;
            rest = rest;
            whole = refl;
            each = each;
            stands = (
              missing,
              ap concat (append_assoc before gathered alone) ∙ concat-append before (gathered ++ alone) ∙ ap (λ c. concat before ++ c) cut
                  ∙ sym (append_assoc (concat before) front missing),
            );
            told = λ no none_tells. let none_begun = begun_answer payloads ((before ++ gathered) ++ alone) (begun false, old) new (length (concat before ++ front)) refl answered none_tells in
                all.2 (none_have payloads ((before ++ gathered) ++ alone) (no_errors-append (before ++ gathered) alone
                (no_errors-append before gathered
                (begun_before before (gathered ++ alone) (length (concat before ++ front)) (omega (arith, length-append (concat before) front))
                (subst (λ ts. NoErrors (texts_within (length (concat before ++ front)) ts)) (append_assoc before gathered alone) none_begun)) no_errors)
                (alone_answers none_begun))) no;
          },
        )

    -- the last text gives up, and is not begun: its payload is left out
    last_left : (text : List ℕ) (missing : List ℕ) → AnswersAll answers (begun false, old) payloads ((before ++ gathered) ++ text ∷ []) new
        → concat (gathered ++ text ∷ []) ≡ front ++ missing → is_error_reply text ≡ true → length front ≤ length (concat gathered)
        → (n : PlainMap) × (shows new.1 ≡ Some n) × PlainCut (stream_of payloads rest) (concat before ++ front) m n
    last_left text missing answered cut tells short =
        let last = last_answered payloads (before ++ gathered) text (begun false, old) new answered in
        let all = plain_all false last.0 (before ++ gathered) (begun false, old) last.2 m refl shown last.4 in
        let same = errors_change_nothing last.1 last.2 new text all.0 all.1 last.5 tells in
        let stands : concat gathered ≡ front ++ drop (length front) (concat gathered) =
        sym (take-append-drop (length front) (concat gathered)) ∙ ap (λ f. f ++ drop (length front) (concat gathered))
        (sym (take-append-le (length front) (concat gathered) text short) ∙ ap (take (length front)) (sym (concat-one gathered text) ∙ cut) ∙ take_at front missing (length front) refl) in (
          all.0,
          same.0,
          record {
            payloads = last.0;
            texts = before ++ gathered;
            rest = frame last.1 ++ rest;
            whole = ap (λ ps. stream_of ps rest) last.3 ∙ stream_of-append last.0 (last.1 ∷ []) rest ∙ ap (λ f. stream_of last.0 (f ++ rest)) (append-nil (frame last.1));
            each = each_before last.0 (last.1 ∷ []) (subst (AllByRecursion IsPayload) last.3 each);
            stands = (
              drop (length front) (concat gathered),
              concat-append before gathered ∙ ap (λ c. concat before ++ c) stands
                  ∙ sym (append_assoc (concat before) front (drop (length front) (concat gathered))),
            );
            told = λ no none_tells. let none_begun = begun_answer last.0 (before ++ gathered) (begun false, old) last.2 (length (concat before ++ front)) refl last.4 none_tells in
                all.2 (none_have last.0 (before ++ gathered) (no_errors-append before gathered
                (begun_before before gathered (length (concat before ++ front)) (omega (arith, length-append (concat before) front)) none_begun) no_errors)) no;
          },
        )

    -- one text was not gathered
    one_alone : (text : List ℕ) (missing : List ℕ) (b : Bool) → is_error_reply text ≡ b → AnswersAll answers (begun false, old) payloads ((before ++ gathered) ++ text ∷ []) new
        → concat (gathered ++ text ∷ []) ≡ front ++ missing
        → (n : PlainMap) × (shows new.1 ≡ Some n) × PlainCut (stream_of payloads rest) (concat before ++ front) m n
    one_alone text missing false tells answered cut = all_kept (text ∷ []) missing answered cut (λ none_begun. (tells, tt))
    one_alone text missing true tells answered cut = elim (cases_lt (length (concat gathered)) (length front)) [
      | inl reached ↦ all_kept (text ∷ []) missing answered cut (λ none_begun. (
        begun_reaches (before ++ gathered) text (length (concat before ++ front))
            (omega (arith, length-append (concat before) front, length-append (concat before) (concat gathered), ap length (concat-append before gathered))) none_begun,
        tt,
      ))
      | inr short ↦ last_left text missing answered cut tells short
    ]

    plain_cut : (alone : List (List ℕ)) (missing : List ℕ) → length alone ≤ 1 → AnswersAll answers (begun false, old) payloads ((before ++ gathered) ++ alone) new
        → concat (gathered ++ alone) ≡ front ++ missing
        → (n : PlainMap) × (shows new.1 ≡ Some n) × PlainCut (stream_of payloads rest) (concat before ++ front) m n
    plain_cut [] missing few answered cut = all_kept [] missing answered cut (λ none_begun. tt)
    plain_cut (text ∷ []) missing few answered cut = one_alone text missing (is_error_reply text) refl answered cut
    plain_cut (text ∷ more ∷ texts) missing few answered cut = absurd (omega (arith, few))

  module _ (turns : ℕ) (left_old left_new held_old held_new : Option (List ℕ)) (old new : S) (m : PlainMap) (shown : shows old ≡ Some m) where
    -- all texts are written whole
    plain_whole : (result : Result ℕ FrontError) (t : Transcript answers result turns left_old left_new held_old held_new old new)
        → t.written ≡ concat t.session.texts → WritesTexts result t.session.texts t.written
        → (n : PlainMap) × (shows new ≡ Some n) × PlainTranscript answers result turns left_old left_new held_old held_new m n
    plain_whole result t written stands =
        let s = t.session in
        let all = plain_all false s.payloads s.texts (begun false, old) (t.terms, new) m refl shown s.serves.answered in (
          all.0,
          all.1,
          record {
            read = t.read;
            written = t.written;
            consumes = t.consumes;
            appends = t.appends;
            payloads = s.payloads;
            texts = s.texts;
            rest = s.rest;
            whole = s.serves.whole;
            each = s.serves.each;
            ends = s.ends;
            few_read = t.few_read;
            used = t.used;
            ended = t.ended;
            stands = stands;
            told = λ no none_tells. let none_begun = begun_answer s.payloads s.texts (begun false, old) (t.terms, new) (length t.written) refl s.serves.answered none_tells in
                all.2 (none_have s.payloads s.texts (begun_before s.texts [] (length t.written) (omega (arith, ap length written))
                (subst (λ ts. NoErrors (texts_within (length t.written) ts)) (sym (append-nil s.texts)) none_begun))) no;
          },
        )

    plain_fault : Transcript answers (Err WriteFault) turns left_old left_new held_old held_new old new
        → (n : PlainMap) × (shows new ≡ Some n) × PlainTranscript answers (Err WriteFault) turns left_old left_new held_old held_new m n
    plain_fault t =
        let s = t.session in
        let w = s.writes in
        let cut = plain_cut s.payloads w.before w.gathered s.rest w.front old (t.terms, new) m shown s.serves.each w.no_errors w.alone w.missing w.one
        (subst (λ ts. AnswersAll answers (begun false, old) s.payloads ts (t.terms, new)) w.texts_are s.serves.answered) w.cut in
        let k = cut.2 in (
          cut.0,
          cut.1,
          record {
            read = t.read;
            written = concat w.before ++ w.front;
            consumes = t.consumes;
            appends = subst (Appends held_old held_new) w.written_is t.appends;
            payloads = k.payloads;
            texts = k.texts;
            rest = k.rest;
            whole = s.serves.whole ∙ k.whole;
            each = k.each;
            ends = tt;
            few_read = t.few_read;
            used = tt;
            ended = tt;
            stands = k.stands;
            told = k.told;
          },
        )

    -- a transcript over a map that answers as the plain map
    pub Transcript-plain : (result : Result ℕ FrontError) → Transcript answers result turns left_old left_new held_old held_new old new
        → (n : PlainMap) × (shows new ≡ Some n) × PlainTranscript answers result turns left_old left_new held_old held_new m n
    Transcript-plain (Ok count) t = plain_whole (Ok count) t t.session.writes t.session.writes
    Transcript-plain (Err BadLength) t = plain_whole (Err BadLength) t t.session.writes t.session.writes
    Transcript-plain (Err Truncated) t = plain_whole (Err Truncated) t t.session.writes t.session.writes
    Transcript-plain (Err ReadFault) t = plain_whole (Err ReadFault) t t.session.writes t.session.writes
    Transcript-plain (Err TurnsUsed) t = plain_whole (Err TurnsUsed) t t.session.writes t.session.writes
    Transcript-plain (Err Memory) t = plain_whole (Err Memory) t t.session.writes t.session.writes
    Transcript-plain (Err WriteFault) t = plain_fault t
