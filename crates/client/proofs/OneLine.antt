-- One line: what is asked, told and shown together.
use Rattle.std.proofs.Common.{◌≡◌, ◌≢◌, ℕ, List, [], ◌∷◌, ◌++◌, length, Bool, true, false, Option, refl, sym, ap, subst, ◌∙◌, arith, append_assoc, append-nil, inl, inr}
use Rattle.std.specs.Prelude.{◌||◌}
use Rattle.std.specs.List.{AllByRecursion, flat_map, list_any}
use Rattle.std.specs.Io.KnownBytes.{Appends, Consumes, Keeps}
use Rattle.std.proofs.KnownBytes.{Appends-nil, Appends-trans, Consumes-nil, Consumes-trans}
use Rattle.wire.specs.Frame.{IsPayload, frame}
use Rattle.wire.specs.declared.error.FrontError.TheVariants as front
use Rattle.client.specs.declared.client_error.ClientError.{ClientError}
use Rattle.client.specs.declared.client_error.ClientError.TheVariants as client
use Rattle.wire.specs.ReplyForm.{Reply, Stored, Unchanged, Removed, Appended, Found, All, Bundle, Speaks, Refused, Moved, Held, Worn, Memory, Same, Counts, Shut, payload_of}
use Rattle.client.specs.Asking.{letter_of, AreBegun, IsUnanswered, BreaksOff, HidesLast, IsNoReply}
use Rattle.client.specs.Replies.{IsTold, is_bundle, is_refusal, reply_frames, shown}
use Rattle.client.specs.Private.Steps.{TriesSoFar, FailsAsking, AsksUntilTold, Shows, NotShown, ShowsOthers, BreaksOthers, AsksOne, BreaksOne}
use Rattle.client.specs.declared.asking.Asking.{Asking}
use Rattle.client.specs.declared.reply.Due.TheVariants.{AnswerTo, OneOfAll}
use Rattle.client.specs.declared.asking.Form.{Form}
use Rattle.client.specs.declared.fault.AskFault.{AskFault}
use Rattle.client.specs.declared.fault.AskFault.TheVariants.{Server, Front}
use Rattle.client.proofs.Replies.{IsOnly, frames_append, no_frame, no_other, then_kept}
use Rattle.std.proofs.Math.Bool.{or-false}

-- a comment
pub asks_nothing : (how : Asking) (request : List ℕ) (from to out : Option (List ℕ)) → request ≡ [] → AsksOne how request false from from to to out out
asks_nothing how request from to out none = record {
  transient = [];
  replies = [];
  taken = inl (none, refl, refl);
  asks = subst (Appends to to) (sym none) (Appends-nil to);
  tells = Consumes-nil from;
  shows = Appends-nil out;
  refused_is = refl;
}

unanswered : (form : Form) (request : List ℕ) (error : ClientError) (unsent torn : List ℕ) (left : Option (List ℕ)) → IsUnanswered error unsent torn left → BreaksOff form request (Server error) [] torn unsent [] left
unanswered form request error unsent torn left (inl why) = rw why.0 (refl, why.1)
unanswered form request error unsent torn left (inr none) = rw none.0 (no_frame form request error [] torn left tt none.1)

module _ (how : Asking) (left : ℕ) (request : List ℕ) (from_old from_mid to_old to_mid : Option (List ℕ)) (so : TriesSoFar how.retries left request from_old from_mid to_old to_mid) (some : request ≢ []) (from_new to_new out : Option (List ℕ)) where
  -- one try more, after which no reply came
  untold : (error : ClientError) (sent unsent torn : List ℕ) → request ≡ sent ++ unsent → Appends to_mid to_new sent → Consumes from_mid from_new torn → BreaksOff how.form request (Server error) [] torn unsent [] from_new
      → BreaksOne how (Server error) request from_old from_new to_old to_new out out
  untold error sent unsent torn split asks tells why = record {
    done = record { asked = flat_map (λ reply. request) so.transient ++ sent; told = reply_frames so.transient ++ torn; shown = [] };
    some = some;
    asks = Appends-trans to_old to_mid to_new (flat_map (λ (reply : Reply). request) so.transient) sent so.asks asks;
    tells = Consumes-trans from_old from_mid from_new (reply_frames so.transient) torn so.tells tells;
    shows = Appends-nil out;
    broken = record {
      transient = so.transient;
      replies = [];
      torn = torn;
      sent = sent;
      unsent = unsent;
      hidden = [];
      each = so.each;
      few = omega (arith, so.count);
      begun = tt;
      split = split;
      asks = refl;
      tells = ap (λ p. reply_frames p ++ torn) (sym (append-nil so.transient));
      shows = refl;
      why = why;
    };
  }

  pub not_told : (error : ClientError) → FailsAsking request (IsUnanswered error) from_mid from_new to_mid to_new → BreaksOne how (Server error) request from_old from_new to_old to_new out out
  not_told error one = untold error one.sent one.unsent one.torn one.split one.asks one.tells (unanswered how.form request error one.unsent one.torn from_new one.why)

  pub bad_reply : (payload : List ℕ) → Appends to_mid to_new request → Consumes from_mid from_new (frame payload) → IsNoReply how.form (AnswerTo (letter_of request)) payload → BreaksOne how (Server client.BadReply) request from_old from_new to_old to_new out out
  bad_reply payload asks tells none = untold client.BadReply request [] (frame payload) (sym (append-nil request)) asks tells (tt, refl, refl, payload, refl, none)

-- ---- what is shown

-- of replies that are shown whole, nothing is hidden of the last
hides_nothing : (form : Form) (first : Reply) (others : List Reply) → HidesLast form (first ∷ others) []
hides_nothing form first [] = ([], first, shown form first, refl, sym (append-nil (shown form first)))
hides_nothing form first (second ∷ others) =
    let more = hides_nothing form second others in
    (first ∷ more.0, more.1, more.2, ap (λ (replies : List Reply). first ∷ replies) more.3, more.4)

-- a reply that is no bundle is no refusal of a bundle
no_refusal : (reply : Reply) → is_bundle reply ≡ true → is_refusal reply ≡ false
no_refusal (Bundle name text) is = refl
no_refusal Stored is = absurd (cc is)
no_refusal Unchanged is = absurd (cc is)
no_refusal Removed is = absurd (cc is)
no_refusal (Appended sequence) is = absurd (cc is)
no_refusal (Found text) is = absurd (cc is)
no_refusal (All count) is = absurd (cc is)
no_refusal Same is = absurd (cc is)
no_refusal (Counts text) is = absurd (cc is)
no_refusal (Speaks version) is = absurd (cc is)
no_refusal (Refused number detail) is = absurd (cc is)
no_refusal (Moved shard first second) is = absurd (cc is)
no_refusal (Held shard revision) is = absurd (cc is)
no_refusal (Worn shard) is = absurd (cc is)
no_refusal Memory is = absurd (cc is)
no_refusal Shut is = absurd (cc is)

none_refused : (form : Form) (others : List Reply) → AllByRecursion (IsTold form OneOfAll) others → list_any is_refusal others ≡ false
none_refused form [] each = refl
none_refused form (reply ∷ others) each = ap (λ b. b || list_any is_refusal others) (no_refusal reply each.0.1) ∙ none_refused form others each.1

module _ (how : Asking) (request : List ℕ) (reply : Reply) (from_old from_mid to_old to_new : Option (List ℕ)) (until : AsksUntilTold how.retries request reply from_old from_mid to_old to_new) (some : request ≢ []) where
  -- what is told with these replies
  told_with : (others : List Reply) (rest : List ℕ) → (reply_frames until.transient ++ frame (payload_of reply)) ++ (reply_frames others ++ rest) ≡ reply_frames (until.transient ++ reply ∷ others) ++ rest
  told_with others rest =
      append_assoc (reply_frames until.transient) (frame (payload_of reply)) (reply_frames others ++ rest)
      ∙ ap (λ f. reply_frames until.transient ++ f) (sym (append_assoc (frame (payload_of reply)) (reply_frames others) rest))
      ∙ sym (append_assoc (reply_frames until.transient) (reply_frames (reply ∷ others)) rest)
      ∙ ap (λ f. f ++ rest) (sym (frames_append until.transient (reply ∷ others)))

  -- after these replies no more is read or shown
  breaks_after : (fault : AskFault) (replies : List Reply) (torn showed hidden : List ℕ) (from_new out_old out_new : Option (List ℕ)) → AreBegun how request (length until.transient) replies
      → Consumes from_old from_new (reply_frames (until.transient ++ replies) ++ torn) → Appends out_old out_new showed → flat_map (shown how.form) replies ≡ showed ++ hidden
      → BreaksOff how.form request fault replies torn [] hidden from_new → BreaksOne how fault request from_old from_new to_old to_new out_old out_new
  breaks_after fault replies torn showed hidden from_new out_old out_new begun tells shows split why = record {
    done = record { asked = flat_map (λ reply. request) until.transient ++ request; told = reply_frames (until.transient ++ replies) ++ torn; shown = showed };
    some = some;
    asks = until.asks;
    tells = tells;
    shows = shows;
    broken = record {
      transient = until.transient;
      replies = replies;
      torn = torn;
      sent = request;
      unsent = [];
      hidden = hidden;
      each = until.each;
      few = until.few;
      begun = begun;
      split = sym (append-nil request);
      asks = refl;
      tells = refl;
      shows = split;
      why = why;
    };
  }

  -- the first reply cannot be shown
  pub first_not_shown : (out_old out_new : Option (List ℕ)) (fault : AskFault) → IsPayload (payload_of reply) → IsOnly reply → NotShown how.form reply (IsTold how.form (AnswerTo (letter_of request)) reply) fault out_old out_new → BreaksOne how fault request from_old from_mid to_old to_new out_old out_new
  first_not_shown out_old out_new fault good only (inl none) =
      rw none.0 (breaks_after (Server client.BadReply) [] (frame (payload_of reply)) [] [] from_mid out_old out_new tt
      (subst (Consumes from_old from_mid) (ap (λ p. reply_frames p ++ frame (payload_of reply)) (sym (append-nil until.transient))) until.tells)
      (subst (λ o. Appends out_old o []) (sym none.1) (Appends-nil out_old)) refl (tt, refl, refl, payload_of reply, refl, no_other how.form (AnswerTo (letter_of request)) reply good only none.2))
  first_not_shown out_old out_new fault good only (inr (is, may, wrote)) =
      rw is (breaks_after (Front front.WriteFault) (reply ∷ []) [] wrote.front wrote.missing from_mid out_old out_new (may, until.last, omega arith, tt)
      (subst (Consumes from_old from_mid) (sym (append-nil (reply_frames until.transient ++ frame (payload_of reply))) ∙ told_with [] []) until.tells)
      wrote.appends (append-nil (shown how.form reply) ∙ wrote.split) (([], reply, wrote.front, refl, wrote.split), refl, refl))

  module _ (refused : Bool) (bundles : ℕ) (out_old out_mid : Option (List ℕ)) (first : Shows how.form (AnswerTo (letter_of request)) reply refused bundles out_old out_mid) where
    -- a bundle is not shown
    pub others_broken : (fault : AskFault) (from_new out_new : Option (List ℕ)) → BreaksOthers how.form fault bundles from_mid from_new out_mid out_new → BreaksOne how fault request from_old from_new to_old to_new out_old out_new
    others_broken fault from_new out_new breaks =
        breaks_after fault (reply ∷ breaks.others) breaks.torn (shown how.form reply ++ breaks.showed) breaks.hidden from_new out_old out_new
        (first.told, until.last, omega (arith, breaks.few, first.bundles_is), breaks.each)
        (subst (Consumes from_old from_new) (told_with breaks.others breaks.torn)
        (Consumes-trans from_old from_mid from_new (reply_frames until.transient ++ frame (payload_of reply)) (reply_frames breaks.others ++ breaks.torn) until.tells breaks.tells))
        (Appends-trans out_old out_mid out_new (shown how.form reply) breaks.showed first.shows breaks.shows)
        (ap (λ s. shown how.form reply ++ s) breaks.split ∙ sym (append_assoc (shown how.form reply) breaks.showed breaks.hidden))
        (breaks.why request reply first.bundles_is)

    module _ (from_new out_new : Option (List ℕ)) (all : ShowsOthers how.form bundles from_mid from_new out_mid out_new) where
      abbrev replies : List Reply
      replies = reply ∷ all.others

      tells_all : Consumes from_old from_new (reply_frames (until.transient ++ replies))
      tells_all =
          subst (Consumes from_old from_new) (ap (λ o. (reply_frames until.transient ++ frame (payload_of reply)) ++ o) (sym (append-nil (reply_frames all.others))) ∙ told_with all.others [] ∙ append-nil (reply_frames (until.transient ++ replies)))
          (Consumes-trans from_old from_mid from_new (reply_frames until.transient ++ frame (payload_of reply)) (reply_frames all.others) until.tells all.tells)

      begun : AreBegun how request (length until.transient) replies
      begun = (first.told, until.last, omega (arith, all.long, first.bundles_is), all.each)

      -- and the writer is flushed
      module _ (out_last : Option (List ℕ)) (kept : Keeps out_new out_last) where
        shows_all : Appends out_old out_last (flat_map (shown how.form) replies)
        shows_all =
            then_kept out_old out_new out_last (flat_map (shown how.form) replies) (Appends-trans out_old out_mid out_new (shown how.form reply) (flat_map (shown how.form) all.others) first.shows all.shows) kept

        pub asks_all : AsksOne how request refused from_old from_new to_old to_new out_old out_last
        asks_all = record {
          transient = until.transient;
          replies = replies;
          taken = inr (some, until.each, until.few, begun, λ due. omega (arith, due, all.long, first.bundles_is));
          asks = until.asks;
          tells = tells_all;
          shows = shows_all;
          refused_is = first.refused_is ∙ sym (ap (λ b. is_refusal reply || b) (none_refused how.form all.others all.each) ∙ or-false (is_refusal reply));
        }

        -- or it keeps something back
        pub not_flushed : BreaksOne how (Front front.WriteFault) request from_old from_new to_old to_new out_old out_last
        not_flushed =
            breaks_after (Front front.WriteFault) replies [] (flat_map (shown how.form) replies) [] from_new out_old out_last begun
            (subst (Consumes from_old from_new) (sym (append-nil (reply_frames (until.transient ++ replies)))) tells_all)
            shows_all (sym (append-nil (flat_map (shown how.form) replies))) (hides_nothing how.form reply all.others, refl, refl)
