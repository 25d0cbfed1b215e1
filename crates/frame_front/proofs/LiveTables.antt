-- The calls of a session without ends carry the table of a session.
use Rattle.std.proofs.Common.{◌≡◌, ℕ, ◌+◌, List, [], ◌∷◌, ◌++◌, refl, sym, ap, ◌∙◌, arith, append_assoc, append-nil, length-append, subst, Result, Ok, Err}
use Rattle.std.specs.Prelude.{Option, Some, Bool, false}
use Rattle.std.specs.List.{AllByRecursion, concat}
use Rattle.std.proofs.lemmas.List.Folds.{concat-append}
use Rattle.map_core.specs.declared.op.Op.{Op}
use Rattle.map_core.specs.declared.reply.Reply.{Reply}
use Rattle.map_core.specs.declared.reply.AskError.{AskError}
use Rattle.map_core.specs.PlainMap.{PlainMap}
use Rattle.map_core.specs.Ask.{AnswersPlainly}
use Rattle.wire.specs.declared.error.FrontError.{FrontError}
use Rattle.wire.specs.declared.error.FrontError.TheVariants.{BadLength, Truncated, ReadFault, WriteFault, TurnsUsed, Memory}
use Rattle.frame_front.specs.declared.answered.Answered.{Answered}
use Rattle.frame_front.specs.Terms.{begun, is_turned_away}
use Rattle.frame_front.specs.Session.{SessionState, AnswersAll, Session, EndsAt, Writes}
use Rattle.frame_front.specs.PlainSession.{TellNoErrors}
use Rattle.frame_front.specs.Live.{LiveView, LiveAnswers, Feeds, Sends, live_start, waiting}
use Rattle.frame_front.specs.LiveCalls.{LiveCall, LivePlainTable, LiveTable, Does, DoesAll, Feed, Answer, Send, piece_of, bytes_of, frames_in, fed, sent, frames_of}
use Rattle.frame_front.proofs.SessionLemmas.{Serves-none, Serves-read, Serves-then}
use Rattle.frame_front.proofs.ReplyLemmas.{one_answers}
use Rattle.frame_front.proofs.PlainLemmas.{HaveNoErrors, plain_all, reads_only_stays}

-- whole texts are written, whatever the end
all_written : (result : Result ℕ FrontError) (texts : List (List ℕ)) (written : List ℕ) → written ≡ concat texts → Writes result texts written
all_written (Ok count) texts written h = h
all_written (Err BadLength) texts written h = h
all_written (Err Truncated) texts written h = h
all_written (Err ReadFault) texts written h = h
all_written (Err TurnsUsed) texts written h = h
all_written (Err Memory) texts written h = h
all_written (Err WriteFault) texts written h = record {
  before = texts;
  gathered = [];
  alone = [];
  front = [];
  missing = [];
  texts_are = sym (append-nil (texts ++ []) ∙ append-nil texts);
  written_is = h ∙ sym (append-nil (concat texts));
  cut = refl;
  no_errors = tt;
  one = omega arith;
}

module _ {S : Type 0} (answers : S → Op → Result Reply AskError → S → Type 0) (reads_only : Bool) where
  same_table : (read more sent_bytes sent_more : List ℕ) (count count_more : ℕ) (start : S) (now : LiveView × S) → read ≡ more → sent_bytes ≡ sent_more
      → count ≡ count_more → LiveTable answers reads_only read sent_bytes count start now → LiveTable answers reads_only more sent_more count_more start now
  same_table read more sent_bytes sent_more count count_more start now a b c table =
      subst (λ r. LiveTable answers reads_only r sent_more count_more start now) a
      (subst (λ s. LiveTable answers reads_only read s count_more start now) b (subst (λ n. LiveTable answers reads_only read sent_bytes n start now) c table))

  -- nothing has come yet
  Table-start : (start : S) → LiveTable answers reads_only [] [] 0 start (live_start reads_only, start)
  Table-start start = record {
    payloads = [];
    texts = [];
    serves = Serves-none answers [] (begun reads_only, start);
    told = refl;
    counted = refl;
  }

  module _ (read sent_bytes : List ℕ) (count : ℕ) (start : S) (now : LiveView × S) (so_far : LiveTable answers reads_only read sent_bytes count start now) where
    Table-feed : (piece : List ℕ) (new : LiveView × S) → Feeds piece now.0 new.0 → new.1 ≡ now.1 → LiveTable answers reads_only (read ++ piece) sent_bytes count start new
    Table-feed piece new feeds same = record {
      payloads = so_far.payloads;
      texts = so_far.texts;
      serves = rw (feeds, same) (Serves-read answers read now.0.kept piece so_far.payloads so_far.texts (begun reads_only, start) (now.0.terms, now.1) so_far.serves);
      told = ap (λ live. sent_bytes ++ waiting live) feeds ∙ so_far.told;
      counted = so_far.counted;
    }

    Table-answer : (result : Answered) (new : LiveView × S) → LiveAnswers answers result now.0 new.0 now.1 new.1
        → LiveTable answers reads_only read sent_bytes (count + result.frames) start new
    Table-answer result new more = record {
      payloads = so_far.payloads ++ more.payloads;
      texts = so_far.texts ++ more.texts;
      serves = Serves-then answers read now.0.kept new.0.kept so_far.payloads more.payloads so_far.texts more.texts
          (begun reads_only, start) (now.0.terms, now.1) (new.0.terms, new.1) so_far.serves more.serves;
      told = ap (λ w. sent_bytes ++ w) more.waits ∙ sym (append_assoc sent_bytes (waiting now.0) (concat more.texts))
          ∙ ap (λ t. t ++ concat more.texts) so_far.told ∙ sym (concat-append so_far.texts more.texts);
      counted = omega (arith, so_far.counted, more.counted, length-append so_far.payloads more.payloads);
    }

    Table-send : (bytes : List ℕ) (new : LiveView × S) → Sends bytes now.0 new.0 → new.1 ≡ now.1 → LiveTable answers reads_only read (sent_bytes ++ bytes) count start new
    Table-send bytes new sends same = record {
      payloads = so_far.payloads;
      texts = so_far.texts;
      serves = rw (sends.1, sends.2, same) so_far.serves;
      told = append_assoc sent_bytes bytes (waiting new.0)
          ∙ ap (λ w. sent_bytes ++ w) (sym (append_assoc bytes new.0.ready new.0.later)
          ∙ ap (λ r. r ++ new.0.later) (sym sends.0) ∙ ap (λ l. now.0.ready ++ l) sends.3)
          ∙ so_far.told;
      counted = so_far.counted;
    }

    Table-call : (call : LiveCall) (new : LiveView × S) → Does answers call now new
        → LiveTable answers reads_only (read ++ piece_of call) (sent_bytes ++ bytes_of call) (count + frames_in call) start new
    Table-call (Feed piece) new does =
        same_table (read ++ piece) _ sent_bytes _ count _ start new refl (sym (append-nil sent_bytes)) (omega arith) (Table-feed piece new does.0 does.1)
    Table-call (Answer result) new does =
        same_table read _ sent_bytes _ (count + result.frames) _ start new (sym (append-nil read)) (sym (append-nil sent_bytes)) refl (Table-answer result new does)
    Table-call (Send bytes) new does =
        same_table read _ (sent_bytes ++ bytes) _ count _ start new (sym (append-nil read)) refl (omega arith) (Table-send bytes new does.0 does.1)

  -- the table goes on over further calls
  Table-calls : (calls : List LiveCall) (read sent_bytes : List ℕ) (count : ℕ) (start : S) (mid now : LiveView × S)
      → LiveTable answers reads_only read sent_bytes count start mid → DoesAll answers calls mid now
      → LiveTable answers reads_only (read ++ fed calls) (sent_bytes ++ sent calls) (count + frames_of calls) start now
  Table-calls [] read sent_bytes count start mid now so_far same =
      same_table read _ sent_bytes _ count _ start now (sym (append-nil read)) (sym (append-nil sent_bytes)) (omega arith)
      (subst (λ m. LiveTable answers reads_only read sent_bytes count start m) (sym same) so_far)
  Table-calls (call ∷ calls) read sent_bytes count start mid now so_far does =
      same_table ((read ++ piece_of call) ++ fed calls) _ ((sent_bytes ++ bytes_of call) ++ sent calls) _ ((count + frames_in call) + frames_of calls) _ start now
      (append_assoc read (piece_of call) (fed calls)) (append_assoc sent_bytes (bytes_of call) (sent calls)) (omega arith)
      (Table-calls calls (read ++ piece_of call) (sent_bytes ++ bytes_of call) (count + frames_in call) start does.0 now
      (Table-call read sent_bytes count start mid so_far call does.0 does.1) does.2)

  pub calls_keep_table : (calls : List LiveCall) (start : S) (now : LiveView × S) → DoesAll answers calls (live_start reads_only, start) now
      → LiveTable answers reads_only (fed calls) (sent calls) (frames_of calls) start now
  calls_keep_table calls start now does =
      same_table (fed calls) (fed calls) (sent calls) (sent calls) (0 + frames_of calls) (frames_of calls) start now refl refl (omega arith)
      (Table-calls calls [] [] 0 start (live_start reads_only, start) now (Table-start start) does)

  pub calls_are_session : (calls : List LiveCall) (start : S) (now : LiveView × S) (result : Result ℕ FrontError)
      → DoesAll answers calls (live_start reads_only, start) now → waiting now.0 ≡ [] → EndsAt result (frames_of calls) now.0.kept
      → Session answers result (begun reads_only, start) (now.0.terms, now.1) (fed calls) (sent calls)
  calls_are_session calls start now result does none ends =
      let table = calls_keep_table calls start now does in
      record {
        payloads = table.payloads;
        texts = table.texts;
        rest = now.0.kept;
        serves = table.serves;
        ends = subst (λ n. EndsAt result n now.0.kept) table.counted ends;
        writes = all_written result table.texts (sent calls) (sym (append-nil (sent calls)) ∙ ap (λ w. sent calls ++ w) (sym none) ∙ table.told);
      }

  -- if no text tells an error, none of their codes says so
  all_answer : (payloads texts : List (List ℕ)) (old new : SessionState S) → old.0.reads_only ≡ reads_only → AnswersAll answers old payloads texts new
      → TellNoErrors answers reads_only payloads texts → HaveNoErrors reads_only payloads texts
  all_answer [] texts old new is answered none = tt
  all_answer (payload ∷ payloads) [] old new is answered none = tt
  all_answer (payload ∷ payloads) (text ∷ texts) old new is answered none = (
    λ here. one_answers answers payload old answered.0 text answered.1 (ap (λ b. is_turned_away b payload) is ∙ here) (none.0 here),
    all_answer payloads texts answered.0 new (reads_only_stays answers payload old answered.0 text answered.1 ∙ is) answered.2 none.1,
  )

  module _ (shows : S → Option PlainMap)
      (plainly : AnswersPlainly answers shows) where
    pub calls_keep_plain_table : (calls : List LiveCall) (start : S) (now : LiveView × S) (m : PlainMap) → shows start ≡ Some m → DoesAll answers calls (live_start reads_only, start) now
        → (n : PlainMap) × (shows now.1 ≡ Some n) × LivePlainTable answers reads_only (fed calls) (sent calls) (frames_of calls) now.0 m n
    calls_keep_plain_table calls start now m shown does =
        let table = calls_keep_table calls start now does in
        let all = plain_all answers shows plainly reads_only table.payloads table.texts (begun reads_only, start) (now.0.terms, now.1) m refl shown table.serves.answered in (
          all.0,
          all.1,
          record {
            payloads = table.payloads;
            texts = table.texts;
            whole = table.serves.whole;
            each = table.serves.each;
            told = table.told;
            counted = table.counted;
            plain = λ no none. all.2 (all_answer table.payloads table.texts (begun reads_only, start) (now.0.terms, now.1) refl table.serves.answered none) no;
          },
        )
