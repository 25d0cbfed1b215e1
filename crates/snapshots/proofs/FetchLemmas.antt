-- Lemmas on what a client answers to a fetch-all.
use Rattle.std.proofs.Common.{◌≡◌, ◌≢◌, ℕ, List, [], ◌∷◌, refl, ap, ◌∙◌, inl, inr, Option, Ok, Err, Some, None, true, false}
use Rattle.std.specs.Prelude.{◌==◌, ◌||◌}
use Rattle.map_core.specs.declared.op.Op.{Op}
use Rattle.map_core.specs.declared.reply.Reply.{Reply}
use Rattle.map_core.specs.declared.reply.Reply.TheVariants.{Stored, Unchanged, Appended, Removed, Found, All, Same, Refused}
use Rattle.map_core.specs.declared.reply.MapRefusal.{MapRefusal}
use Rattle.map_core.specs.declared.reply.MapRefusal.TheVariants.{NoDomain, Stale, KidTaken, TooMany, TooLong, SequenceFull, NotExpected}
use Rattle.map_core.specs.declared.reply.AskError.TheVariants as error
use Rattle.wire.specs.Frame.{frame}
use Rattle.wire.specs.Answers.{code_of}
use Rattle.frame_front.specs.Dump.{Domains}
use Rattle.frame_front.proofs.ReplyLemmas.{not_both}
use Rattle.client.specs.declared.client_error.ClientError.{ClientError}
use Rattle.client.specs.Answer.{MayAnswer, is_code_for}
use Rattle.client.specs.Client.{ClientState, Ends, Exchange, IsAsked, Asks}
use Rattle.client.proofs.MapAnswers.{one_code}
use Rattle.wire.specs.ReplyForm.{is_error_code}
use Rattle.snapshots.specs.Fetch.{fetch_op}

-- a reply to a fetch-all has the code a, or e if a digest is known
fetch_codes : (known : Option (List ℕ)) (code : ℕ) → (code == 97) ≡ false → (code == 101) ≡ false → is_error_code code ≡ false → is_code_for (fetch_op known) code ≡ false
fetch_codes None code all same no_error = λ i. no_error i || (all i || false)
fetch_codes (Some digest) code all same no_error = λ i. no_error i || (all i || (same i || false))

module _ (known : Option (List ℕ)) where
  other_code : (code : ℕ) (rest : List ℕ) → (code == 97) ≡ false → (code == 101) ≡ false → is_error_code code ≡ false → is_code_for (fetch_op known) (code_of (frame (code ∷ rest))) ≡ true → ⊥
  other_code code rest all same no_error may =
      not_both _ may (ap (is_code_for (fetch_op known)) (one_code code rest) ∙ fetch_codes known code all same no_error)

  not_refused : (why : MapRefusal) → MayAnswer (fetch_op known) (Ok (Refused why)) → ⊥
  not_refused NoDomain may = other_code 30 [] refl refl refl may
  not_refused (Stale sequence) may = other_code 31 _ refl refl refl may
  not_refused KidTaken may = other_code 32 [] refl refl refl may
  not_refused TooMany may = other_code 33 [] refl refl refl may
  not_refused TooLong may = other_code 34 [] refl refl refl may
  not_refused SequenceFull may = other_code 35 [] refl refl refl may
  not_refused (NotExpected expect) may = other_code 36 _ refl refl refl may

  -- a reply to a fetch-all has domains, or says that they are the same
  pub only_fetched : (reply : Reply) → MayAnswer (fetch_op known) (Ok reply) → ((items : Domains) → reply ≢ All items) × (reply ≢ Same) → ⊥
  only_fetched Stored may other = other_code 115 _ refl refl refl may
  only_fetched Unchanged may other = other_code 117 _ refl refl refl may
  only_fetched (Appended sequence) may other = other_code 112 _ refl refl refl may
  only_fetched Removed may other = other_code 100 _ refl refl refl may
  only_fetched (Found bundle) may other = other_code 102 _ refl refl refl may
  only_fetched (Refused why) may other = not_refused why may
  only_fetched (All items) may other = other.0 items refl
  only_fetched Same may other = other.1 refl

ok_err : {A B : Type 0} (x : A) (e : B) → Ok x ≡ Err e → ⊥
ok_err x e same = cc

-- an answer of a client that hasn't ended is a reply that it has read
asked_ok : (op : Op) (ended : Option ClientError) (reply : Reply) (old new : Ends) → IsAsked ended op (Ok reply) old new
    → (ended ≡ None) × Exchange op (Ok (Ok reply)) old new
asked_ok op None reply old new asked = (refl, asked)
asked_ok op (Some why) reply old new asked = absurd (ok_err reply error.GateShut asked.0)

pub ok_is_read : (op : Op) (old new : ClientState) (reply : Reply) → Asks old op (Ok reply) new
    → (new.ended ≡ None) × Exchange op (Ok (Ok reply)) old.ends new.ends
ok_is_read op old new reply (inr asked) = asked_ok op new.ended reply old.ends new.ends asked.2
ok_is_read op old new reply (inl (same, inl bad)) = absurd (ok_err reply error.GateShut bad.0)
ok_is_read op old new reply (inl (same, inr bad)) = absurd (ok_err reply error.Memory bad.0)

pub ok_may : (op : Op) (old new : ClientState) (reply : Reply) → Asks old op (Ok reply) new → MayAnswer op (Ok reply)
ok_may op old new reply asked = (ok_is_read op old new reply asked).1.may
