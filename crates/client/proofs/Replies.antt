-- Bundles that are shown one after another.
use Rattle.std.proofs.Common.{◌≡◌, ℕ, ◌+◌, ◌<◌, List, [], ◌∷◌, ◌++◌, Bool, Option, Some, None, refl, sym, ap, subst, inl, inr, ◌∙◌, append-nil, append_assoc, length, length-append, arith}
use Rattle.std.specs.List.{AllByRecursion, flat_map}
use Rattle.std.specs.Io.KnownBytes.{Appends, Consumes, Keeps}
use Rattle.std.proofs.KnownBytes.{Appends-trans, Consumes-trans}
use Rattle.std.proofs.lemmas.List.{flat_map_more}
use Rattle.std.proofs.lemmas.List.Concat.{flat_map-append}
use Rattle.wire.specs.Frame.{IsPayload, frame}
use Rattle.client.specs.Reading.{NoFrame}
use Rattle.client.specs.declared.client_error.ClientError.{ClientError}
use Rattle.client.specs.declared.client_error.ClientError.TheVariants as client
use Rattle.wire.specs.ReplyForm.{Reply, HasPayload, payload_of}
use Rattle.client.specs.Asking.{BreaksOff, IsDue, IsNoReply}
use Rattle.client.specs.Replies.{IsTold, bundles_after, reply_frames, shown}
use Rattle.client.specs.Private.Steps.{Shows, NotShown, ShowsOthers, BreaksOthers}
use Rattle.client.specs.declared.reply.Due.{Due}
use Rattle.client.specs.declared.reply.Due.TheVariants.{OneOfAll}
use Rattle.client.specs.declared.asking.Form.{Form}
use Rattle.client.specs.declared.fault.AskFault.{AskFault}
use Rattle.client.specs.declared.fault.AskFault.TheVariants.{Server}

-- ---- lists

pub frames_append : (xs ys : List Reply) → reply_frames (xs ++ ys) ≡ reply_frames xs ++ reply_frames ys
frames_append xs ys = flat_map-append (λ reply. frame (payload_of reply)) xs ys

pub each_append : {A : Type 0} (Is : A → Type 0) (xs ys : List A) → AllByRecursion Is xs → AllByRecursion Is ys → AllByRecursion Is (xs ++ ys)
each_append Is [] ys a b = b
each_append Is (x ∷ xs) ys a b = (a.0, each_append Is xs ys a.1 b)

-- ---- ends

-- what a writer keeps that is flushed
adds_nothing : (old new : Option (List ℕ)) → Keeps old new → Appends old new []
adds_nothing None new keeps = tt
adds_nothing (Some xs) None keeps = absurd keeps
adds_nothing (Some xs) (Some ys) keeps = keeps ∙ sym (append-nil xs)

pub then_kept : (old mid new : Option (List ℕ)) (bytes : List ℕ) → Appends old mid bytes → Keeps mid new → Appends old new bytes
then_kept old mid new bytes appends keeps = subst (Appends old new) (append-nil bytes) (Appends-trans old mid new bytes [] appends (adds_nothing mid new keeps))

-- ---- payloads that are no reply's

-- no other reply has its payload
abbrev pub IsOnly : Reply → Type 0
IsOnly reply = (wanted : Reply) → HasPayload wanted → payload_of reply ≡ payload_of wanted → reply ≡ wanted

-- a reply that may not come there
pub no_other : (form : Form) (due : Due) (reply : Reply) → IsPayload (payload_of reply) → IsOnly reply → (IsTold form due reply → ⊥) → IsNoReply form due (payload_of reply)
no_other form due reply good only none = (good, λ other same told. none (subst (IsTold form due) (sym (only other told.0 same)) told))

-- ---- bundles

-- no frame is read where a reply is due
pub no_frame : (form : Form) (request : List ℕ) (error : ClientError) (replies : List Reply) (torn : List ℕ) (left : Option (List ℕ)) → IsDue replies → NoFrame error torn left → BreaksOff form request (Server error) replies torn [] [] left
no_frame form request client.Memory replies torn left due none = absurd none
no_frame form request client.BadLength replies torn left due none = (due, refl, refl, none)
no_frame form request client.BadReply replies torn left due none = absurd none
no_frame form request client.Truncated replies torn left due none = (due, refl, refl, none)
no_frame form request client.ReadFault replies torn left due none = (due, refl, refl, none)
no_frame form request client.WriteFault replies torn left due none = absurd none

module _ (form : Form) (count all : ℕ) (due : count < all) (from_old from_mid out_old out_mid : Option (List ℕ)) (so : ShowsOthers form count from_old from_mid out_old out_mid) where
  -- the frame of a reply is read
  reads : (from_new : Option (List ℕ)) (reply : Reply) → Consumes from_mid from_new (frame (payload_of reply)) → Consumes from_old from_new (reply_frames (so.others ++ reply ∷ []))
  reads from_new reply came =
      subst (Consumes from_old from_new) (flat_map_more (λ (reply : Reply). frame (payload_of reply)) [] so.others reply)
      (Consumes-trans from_old from_mid from_new (reply_frames so.others) (frame (payload_of reply)) so.tells came)

  more_due : length so.others < all
  more_due = omega (arith, so.long, due)

  pub goes_on : (reply : Reply) (from_new out_new : Option (List ℕ)) (refused : Bool) (bundles : ℕ) → Consumes from_mid from_new (frame (payload_of reply)) → Shows form OneOfAll reply refused bundles out_mid out_new → ShowsOthers form (count + 1) from_old from_new out_old out_new
  goes_on reply from_new out_new refused bundles came shows = record {
    others = so.others ++ reply ∷ [];
    long = length-append so.others (reply ∷ []) ∙ ap (λ n. n + 1) so.long;
    each = each_append (IsTold form OneOfAll) so.others (reply ∷ []) so.each (shows.told, tt);
    tells = reads from_new reply came;
    shows = subst (Appends out_old out_new) (flat_map_more (shown form) [] so.others reply)
        (Appends-trans out_old out_mid out_new (flat_map (shown form) so.others) (shown form reply) so.shows shows.shows);
  }

  -- what is read where the next reply is due is not one that may come there
  torn_at : (error : ClientError) (torn : List ℕ) (from_new : Option (List ℕ)) → Consumes from_mid from_new torn
      → ((request : List ℕ) (first : Reply) → all ≡ bundles_after first → BreaksOff form request (Server error) (first ∷ so.others) torn [] [] from_new) → BreaksOthers form (Server error) all from_old from_new out_old out_mid
  torn_at error torn from_new came why = record {
    others = so.others;
    torn = torn;
    showed = flat_map (shown form) so.others;
    hidden = [];
    few = omega (arith, more_due);
    each = so.each;
    split = sym (append-nil (flat_map (shown form) so.others));
    tells = Consumes-trans from_old from_mid from_new (reply_frames so.others) torn so.tells came;
    shows = so.shows;
    why = why;
  }

  pub torn_off : (error : ClientError) (torn : List ℕ) (from_new : Option (List ℕ)) → Consumes from_mid from_new torn → NoFrame error torn from_new → BreaksOthers form (Server error) all from_old from_new out_old out_mid
  torn_off error torn from_new came none = torn_at error torn from_new came (λ request first is. no_frame form request error (first ∷ so.others) torn from_new (omega (arith, more_due, is)) none)

  pub bad_reply : (payload : List ℕ) (from_new : Option (List ℕ)) → Consumes from_mid from_new (frame payload) → IsNoReply form OneOfAll payload → BreaksOthers form (Server client.BadReply) all from_old from_new out_old out_mid
  bad_reply payload from_new came none = torn_at client.BadReply (frame payload) from_new came (λ request first is. (omega (arith, more_due, is), refl, refl, payload, refl, none))

  pub not_shown : (reply : Reply) (from_new out_new : Option (List ℕ)) (fault : AskFault) → IsPayload (payload_of reply) → IsOnly reply → Consumes from_mid from_new (frame (payload_of reply)) → NotShown form reply (IsTold form OneOfAll reply) fault out_mid out_new → BreaksOthers form fault all from_old from_new out_old out_new
  not_shown reply from_new out_new fault good only came (inl none) = rw (none.0, none.1) (bad_reply (payload_of reply) from_new came (no_other form OneOfAll reply good only none.2))
  not_shown reply from_new out_new fault good only came (inr (is, told, wrote)) = rw is (record {
    others = so.others ++ reply ∷ [];
    torn = [];
    showed = flat_map (shown form) so.others ++ wrote.front;
    hidden = wrote.missing;
    few = omega (arith, more_due, length-append so.others (reply ∷ []));
    each = each_append (IsTold form OneOfAll) so.others (reply ∷ []) so.each (told, tt);
    split = sym (flat_map_more (shown form) [] so.others reply) ∙ ap (λ s. flat_map (shown form) so.others ++ s) wrote.split ∙ sym (append_assoc (flat_map (shown form) so.others) wrote.front wrote.missing);
    tells = subst (Consumes from_old from_new) (sym (append-nil (reply_frames (so.others ++ reply ∷ [])))) (reads from_new reply came);
    shows = Appends-trans out_old out_mid out_new (flat_map (shown form) so.others) wrote.front so.shows wrote.appends;
    why = λ request first is. ((first ∷ so.others, reply, wrote.front, refl, wrote.split), refl, refl);
  })
