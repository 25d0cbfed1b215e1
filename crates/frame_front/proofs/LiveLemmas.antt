-- Lemmas on sessions without ends.
use Rattle.std.proofs.Common.{◌≡◌, ◌≢◌, ℕ, zero, suc, ◌+◌, ◌*◌, ◌<◌, ◌≤◌, List, [], ◌∷◌, ◌++◌, length, refl, sym, ap, ◌∙◌, inl, inr, arith, append_assoc, append-nil, length-append, Result, Ok, Err, OnErr, Bool}
use Rattle.std.specs.Prelude.{min, take}
use Rattle.std.specs.List.{concat, flat_map}
use Rattle.std.proofs.lemmas.List.{take_all}
use Rattle.spiffe_doc.specs.Authority.{BundleValue}
use Rattle.spiffe_doc.specs.Text.{text_of}
use Rattle.map_core.specs.Name.{Name}
use Rattle.map_core.specs.declared.op.Op.{Op}
use Rattle.map_core.specs.declared.reply.Reply.{Reply}
use Rattle.map_core.specs.declared.reply.AskError.{AskError}
use Rattle.wire.specs.Frame.{IsUnfinished}
use Rattle.frame_front.specs.Live.{LiveView, ComeBelowLimit, Feeds, live_view, room_of, waiting}
use Rattle.wire.specs.Answers.{item_frame}
use Rattle.frame_front.specs.Session.{Serves}
use Rattle.frame_front.specs.Private.Pending.{items_left}
use Rattle.frame_front.specs.Private.Steps.{AnswersFrame}
use Rattle.wire.proofs.FrameLemmas.{longer_by_frame}
use Rattle.frame_front.proofs.SessionLemmas.{Serves-none, Serves-one, Serves-then, concat-one}

nil_if-length : (bytes : List ℕ) → length bytes ≡ 0 → bytes ≡ []
nil_if-length [] none = refl
nil_if-length (byte ∷ bytes) none = absurd (omega (arith, none))

-- if not all domains are stored, some bytes are left
pub items_left-some : (items : List (Name × BundleValue)) (stored : ℕ) → stored < length items → items_left items stored ≢ []
items_left-some [] stored few = absurd (omega (arith, few))
items_left-some (item ∷ items) zero few = λ none.
    omega (arith, ap length none, longer_by_frame (105 ∷ length item.0 ∷ item.0 ++ text_of item.1) (flat_map item_frame items))
items_left-some (item ∷ items) (suc stored) few = items_left-some items stored (omega (arith, few))

-- behind any bytes
pub front_and_items-some : (head : List ℕ) (items : List (Name × BundleValue)) (stored : ℕ) → stored < length items → head ++ items_left items stored ≢ []
front_and_items-some head items stored few = λ none.
    items_left-some items stored few (nil_if-length (items_left items stored) (omega (arith, ap length none, length-append head (items_left items stored))))

-- with some bytes in front, something is left
pub front-some : (head body : List ℕ) → 0 < length head → head ++ body ≢ []
front-some head body some = λ none. omega (arith, some, ap length none, length-append head body)

pub items_left-err : {A E : Type 0} (result : Result A E) (items : List (Name × BundleValue)) (stored : ℕ)
    → OnErr result (stored < length items) → OnErr result (items_left items stored ≢ [])
items_left-err (Ok value) items stored few = tt
items_left-err (Err error) items stored few = items_left-some items stored few

-- what holds anyhow, holds after an error
pub on_err : {A E P : Type 0} (result : Result A E) → P → OnErr result P
on_err (Ok value) holds = tt
on_err (Err error) holds = holds

-- with some bytes that are to be stored, something is left
pub some_left : (head text more body : List ℕ) → body ≡ text ++ more → 0 < length (head ++ text) → head ++ body ≢ []
some_left head text more body is some = λ none.
    omega (arith, some, ap length none, ap length is, length-append head body, length-append head text, length-append text more)

-- Of what was kept these payloads were answered, and their texts wait after what waited.
pub record Answering {S : Type 0} (answers : S → Op → Result Reply AskError → S → Type 0)
    (start now : LiveView) (map_start map_now : S) (count : ℕ) : Type 0 where
  pub payloads : List (List ℕ)
  pub texts : List (List ℕ)
  pub serves : Serves answers start.kept payloads texts now.kept (start.terms, map_start) (now.terms, map_now)
  pub grew : waiting now ≡ waiting start ++ concat texts
  pub few : ComeBelowLimit (waiting start) texts
  pub counted : count ≡ length payloads
  pub long : 5 * count ≤ length (waiting now)

module _ {S : Type 0} (answers : S → Op → Result Reply AskError → S → Type 0) (start : LiveView) (map_start : S) where
  pub Answering-none : Answering answers start start map_start map_start 0
  Answering-none = record {
    payloads = [];
    texts = [];
    serves = Serves-none answers start.kept (start.terms, map_start);
    grew = sym (append-nil (waiting start));
    few = inl refl;
    counted = refl;
    long = omega arith;
  }

  module _ (now new : LiveView) (map_now map_new : S) (count : ℕ) (so_far : Answering answers start now map_start map_now count) where
    -- one more frame is answered, and its text waits after what waits
    pub Answering-then : (is_error : Bool) → AnswersFrame answers is_error now new map_now map_new → Answering answers start new map_start map_new (count + 1)
    Answering-then is_error step = record {
      payloads = so_far.payloads ++ step.payload ∷ [];
      texts = so_far.texts ++ step.text ∷ [];
      serves = Serves-then answers start.kept now.kept new.kept so_far.payloads (step.payload ∷ []) so_far.texts (step.text ∷ [])
          (start.terms, map_start) (now.terms, map_now) (new.terms, map_new) so_far.serves
          (Serves-one answers now.kept new.kept step.payload step.text (now.terms, map_now) (new.terms, map_new) step.stands step.good step.answered);
      grew = step.waits ∙ ap (λ w. w ++ step.text) so_far.grew ∙ append_assoc (waiting start) (concat so_far.texts) step.text
          ∙ ap (λ t. waiting start ++ t) (sym (concat-one so_far.texts step.text));
      few = inr (so_far.texts, step.text, refl, omega (arith, step.below, ap length so_far.grew));
      counted = omega (arith, so_far.counted, length-append so_far.payloads (step.payload ∷ []));
      long = omega (arith, so_far.long, step.long, ap length step.waits, length-append (waiting now) step.text);
    }

-- a session that wants to read has room
pub wants_room : (live : LiveView) → IsUnfinished live.kept → 4096 ≤ room_of live
wants_room live unfinished = grind (arith, unfinished.good, unfinished.short)

-- so a piece of at most 4096 bytes is fed whole
pub fed_whole : (live new : LiveView) (piece : List ℕ) (count : ℕ) → IsUnfinished live.kept → length piece ≤ 4096 → count ≡ min (length piece) (room_of live)
    → Feeds (take count piece) live new → new ≡ live_view (live.kept ++ piece) live.terms live.ready live.later
fed_whole live new piece count unfinished few is feeds =
    let room : 4096 ≤ room_of live = wants_room live unfinished in
    let all : length piece ≤ count = grind (arith, is, few, room) in
    feeds ∙ ap (λ p. live_view (live.kept ++ p) live.terms live.ready live.later) (take_all count piece all)

-- a step that answers a frame leaves fewer bytes
pub AnswersFrame-smaller : {S : Type 0} (answers : S → Op → Result Reply AskError → S → Type 0) (is_error : Bool) (old new : LiveView) (map_old map_new : S)
    → AnswersFrame answers is_error old new map_old map_new → length new.kept < length old.kept
AnswersFrame-smaller answers is_error old new map_old map_new step =
    omega (arith, ap length step.stands, longer_by_frame step.payload new.kept)
