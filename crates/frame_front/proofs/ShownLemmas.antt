-- Replies that were stored at once: a get whose bundle was shown, and counts.
use Rattle.std.proofs.Common.{◌≡◌, ◌≤◌, ℕ, List, [], ◌∷◌, ◌++◌, length, Option, None, Ok, refl, sym, ap, subst, inl, arith, append-nil, length-append}
use Rattle.std.specs.Prelude.{Result}
use Rattle.spiffe_doc.specs.Authority.{BundleValue}
use Rattle.spiffe_doc.specs.Text.{text_of}
use Rattle.map_core.specs.Name.{Name}
use Rattle.map_core.specs.Ask.{ShowsGet}
use Rattle.map_core.specs.declared.op.Op.{Op}
use Rattle.map_core.specs.declared.op.Op.TheVariants.{Get}
use Rattle.map_core.specs.declared.reply.Reply.{Reply}
use Rattle.map_core.specs.declared.reply.Reply.TheVariants.{Found}
use Rattle.map_core.specs.declared.reply.AskError.{AskError}
use Rattle.wire.specs.declared.refusal.Refusal.{Refusal}
use Rattle.wire.specs.declared.judge.Judged.{Judged}
use Rattle.wire.specs.declared.judge.Judged.TheVariants.{Ask, TellCounts}
use Rattle.wire.specs.declared.version.Version.{Version}
use Rattle.frame_front.specs.declared.terms.Terms.{Terms}
use Rattle.wire.specs.Answers.{reply_frames, counts_frame}
use Rattle.wire.specs.RequestForm as form
use Rattle.wire.specs.RequestForm.{IsOneLine}
use Rattle.wire.specs.Judge.{parse_name, judged}
use Rattle.frame_front.specs.Session.{SessionState, AnswersRequest}
use Rattle.frame_front.specs.Private.Pending.{AnswersNow, stores_found}
use Rattle.wire.proofs.FrameLemmas.{length-frame}
use Rattle.frame_front.proofs.ReplyLemmas.{counts_answer, reply_answers}

-- a get of a name
request_get : (version : Version) (name : List ℕ) (d : Name) → parse_name name ≡ Ok d → judged version (form.Get name) ≡ Ok (Ask (Get d))
unfolding judged
request_get version name d is = rw is refl

module _ {S : Type 0} (answers : S → Op → Result Reply AskError → S → Type 0) (old new : S) (d : Name) (ready ready_new : List ℕ) (shown : Option Reply) where
  shown_none : shown ≡ None → ShowsGet {E = AskError} stores_found (λ (answer : Result Reply AskError). answers old (Get d) answer new) ready (Ok shown) ready_new
      → (b : BundleValue) × answers old (Get d) (Ok (Found b)) new × stores_found ready b ready_new
  shown_none none shows = subst (λ (o : Option Reply). ShowsGet {E = AskError} stores_found (λ (answer : Result Reply AskError). answers old (Get d) answer new) ready (Ok o) ready_new) none shows

  -- the reply has come after what was ready
  pub shown_now : (terms : Terms) (name : List ℕ) → parse_name name ≡ Ok d → shown ≡ None
      → ShowsGet {E = AskError} stores_found (λ (answer : Result Reply AskError). answers old (Get d) answer new) ready (Ok shown) ready_new
      → AnswersNow answers None (terms, old) (judged terms.version (form.Get name)) (terms, new) ready ready_new
  shown_now terms name is none shows = let s = shown_none none shows in let text : List ℕ = 102 ∷ text_of s.0 in (
    reply_frames (Found s.0),
    inl (subst (λ (r : Result Judged Refusal). AnswersRequest answers r (terms, old) (reply_frames (Found s.0)) (terms, new)) (sym (request_get terms.version name d is)) (Ok (Found s.0), s.1, inl refl, refl)),
    omega (arith, length-frame text [], ap length (append-nil (reply_frames (Found s.0)))),
    reply_answers (Found s.0),
    s.2.0,
    omega (arith, ap length s.2.0, length-append ready (reply_frames (Found s.0)), length-frame text [], ap length (append-nil (reply_frames (Found s.0))), ap length (append-nil (text_of s.0)), s.2.1),
  )

-- counts have come after what was ready
pub counts_now : {S : Type 0} (answers : S → Op → Result Reply AskError → S → Type 0) (state : SessionState S) (read : Result Judged Refusal) (counts ready ready_new : List ℕ)
    → read ≡ Ok TellCounts → IsOneLine counts → length counts ≤ 1048576 → ready_new ≡ ready ++ counts_frame counts → AnswersNow answers None state read state ready ready_new
counts_now answers state read counts ready ready_new is line short now = let text : List ℕ = 109 ∷ counts in (
  counts_frame counts,
  inl (subst (λ (r : Result Judged Refusal). AnswersRequest answers r state (counts_frame counts) state) (sym is) (counts, line, refl, refl)),
  omega (arith, length-frame text [], ap length (append-nil (counts_frame counts))),
  counts_answer counts,
  now,
  omega (arith, ap length now, length-append ready (counts_frame counts), length-frame text [], ap length (append-nil (counts_frame counts)), ap length (append-nil counts), short),
)
