-- A request that is asked until it is told more than to wait.
use Rattle.std.proofs.Common.{◌≡◌, ◌≢◌, ◌⊎◌, drop, ℕ, ◌-◌, ◌≤◌, List, [], ◌∷◌, ◌++◌, true, false, Option, refl, sym, ap, subst, ◌∙◌, arith, append-nil, length-append, inl, inr}
use Rattle.std.specs.List.{flat_map}
use Rattle.std.specs.Io.KnownBytes.{Appends, Consumes}
use Rattle.std.proofs.KnownBytes.{Appends-trans, Consumes-nil, Consumes-trans}
use Rattle.std.proofs.lemmas.List.{flat_map_more}
use Rattle.wire.specs.Frame.{IsPayload, frame}
use Rattle.wire.specs.Output.{WritesFront}
use Rattle.client.specs.Reading.{NoFrame}
use Rattle.client.specs.declared.client_error.ClientError.{ClientError}
use Rattle.client.specs.declared.client_error.ClientError.TheVariants as client
use Rattle.wire.specs.ReplyForm.{Reply, payload_of}
use Rattle.client.specs.Asking.{IsTransient, IsUnanswered, NotGreeted, greeting}
use Rattle.client.specs.declared.fault.AskFault.TheVariants.{Server}
use Rattle.client.specs.Replies.{is_transient, reply_frames}
use Rattle.client.specs.Private.Steps.{AsksUntilTold, TriesSoFar, FailsAsking}
use Rattle.client.proofs.Replies.{each_append}

-- ---- one try

-- the request could not be sent
pub not_sent : (request : List ℕ) (from to_old to_new : Option (List ℕ)) → WritesFront to_old to_new request → FailsAsking request (IsUnanswered client.WriteFault) from from to_old to_new
not_sent request from to_old to_new front =
    record { sent = front.front; unsent = front.missing; torn = []; split = front.split; asks = front.appends; tells = Consumes-nil from; why = inl (refl, refl) }

-- it was sent, and no reply came
pub not_read : (error : ClientError) (request torn : List ℕ) (from_old from_new to_old to_new : Option (List ℕ)) → Appends to_old to_new request → Consumes from_old from_new torn → NoFrame error torn from_new
    → FailsAsking request (IsUnanswered error) from_old from_new to_old to_new
not_read error request torn from_old from_new to_old to_new asks tells none =
    record { sent = request; unsent = []; torn = torn; split = sym (append-nil request); asks = asks; tells = tells; why = inr (refl, none) }

-- ---- one try after the other

module _ (retries left : ℕ) (request : List ℕ) (from_old from_mid to_old to_mid : Option (List ℕ)) (so : TriesSoFar retries left request from_old from_mid to_old to_mid) (from_new to_new : Option (List ℕ)) where
  -- one try more, to which a reply came after which it is asked again
  pub goes_on : (reply : Reply) → Appends to_mid to_new request → Consumes from_mid from_new (frame (payload_of reply)) → is_transient reply ≡ true → 1 ≤ left → TriesSoFar retries (left - 1) request from_old from_new to_old to_new
  goes_on reply asks came again some = record {
    transient = so.transient ++ reply ∷ [];
    each = each_append IsTransient so.transient (reply ∷ []) so.each (again, tt);
    count = omega (arith, so.count, some, length-append so.transient (reply ∷ []));
    asks = subst (Appends to_old to_new) (flat_map_more (λ (reply : Reply). request) [] so.transient reply)
        (Appends-trans to_old to_mid to_new (flat_map (λ (reply : Reply). request) so.transient) request so.asks asks);
    tells = subst (Consumes from_old from_new) (flat_map_more (λ (reply : Reply). frame (payload_of reply)) [] so.transient reply)
        (Consumes-trans from_old from_mid from_new (reply_frames so.transient) (frame (payload_of reply)) so.tells came);
  }

  -- the last try
  pub told_so : (reply : Reply) → Appends to_mid to_new request → Consumes from_mid from_new (frame (payload_of reply)) → (left ≡ 0) ⊎ (is_transient reply ≡ false) → AsksUntilTold retries request reply from_old from_new to_old to_new
  told_so reply asks came last = record {
    transient = so.transient;
    each = so.each;
    few = omega (arith, so.count);
    last = λ again. omega (arith, so.count, none_left reply last again);
    asks = Appends-trans to_old to_mid to_new (flat_map (λ (reply : Reply). request) so.transient) request so.asks asks;
    tells = Consumes-trans from_old from_mid from_new (reply_frames so.transient) (frame (payload_of reply)) so.tells came;
  }
    where
      none_left : (reply : Reply) → (left ≡ 0) ⊎ (is_transient reply ≡ false) → is_transient reply ≡ true → left ≡ 0
      none_left reply (inl none) again = none
      none_left reply (inr other) again = absurd (cc (again, other))

-- ---- the greeting

pub greeting_bytes : (0 ∷ 0 ∷ 0 ∷ 2 ∷ 86 ∷ 3 ∷ []) ≡ greeting
unfolding frame
greeting_bytes = refl

frame_same : (a b : List ℕ) → frame a ≡ frame b → a ≡ b
unfolding frame
frame_same a b same = ap (drop 4) same

pub not_greeted : (error : ClientError) (request : List ℕ) (from_old from_new to_old to_new : Option (List ℕ)) → request ≡ 0 ∷ 0 ∷ 0 ∷ 2 ∷ 86 ∷ 3 ∷ [] → FailsAsking request (IsUnanswered error) from_old from_new to_old to_new
    → FailsAsking greeting (NotGreeted (Server error)) from_old from_new to_old to_new
not_greeted error request from_old from_new to_old to_new is one = record {
  sent = one.sent;
  unsent = one.unsent;
  torn = one.torn;
  split = sym (is ∙ greeting_bytes) ∙ one.split;
  asks = one.asks;
  tells = one.tells;
  why = inl one.why;
}

pub other_greeting : (payload : List ℕ) (from_old from_new to_old to_new : Option (List ℕ)) → Appends to_old to_new greeting → Consumes from_old from_new (frame payload) → IsPayload payload → payload ≢ 118 ∷ 3 ∷ []
    → FailsAsking greeting (NotGreeted (Server client.BadReply)) from_old from_new to_old to_new
other_greeting payload from_old from_new to_old to_new asks tells good other = record {
  sent = greeting;
  unsent = [];
  torn = frame payload;
  split = sym (append-nil greeting);
  asks = asks;
  tells = tells;
  why = inr (refl, refl, payload, good, refl, λ same. other (frame_same payload (118 ∷ 3 ∷ []) same));
}
