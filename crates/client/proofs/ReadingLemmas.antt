-- Lemmas on what is read in two parts.
use Rattle.std.proofs.Common.{◌≡◌, ◌⊎◌, inl, inr, subst, ℕ, ◌<◌, ◌≤◌, List, ◌++◌, length, take, sym, ap, ◌∙◌, arith, length-append}
use Rattle.std.specs.Prelude.{Option}
use Rattle.std.proofs.lemmas.List.{take_at, take_all}
use Rattle.std.specs.Int.{w32, to_be_bytes, from_be_bytes}
use Rattle.wire.specs.Frame.{IsUnfinished, frame, length_field, most_payload}
use Rattle.wire.specs.Output.{End}
use Rattle.std.proofs.KnownBytes.{Consumes-trans}
use Rattle.client.specs.Private.Reads.{StopsShort, ReadsWhole, StopsReading}
use Rattle.client.specs.Reading.{CountsFault, NoFrame}
use Rattle.client.specs.declared.client_error.ClientError.{ClientError}
use Rattle.client.specs.declared.client_error.ClientError.TheVariants.{Memory, BadLength, BadReply, Truncated, ReadFault, WriteFault}

-- a length that spells the payload's makes its frame
pub frame_whole : (field payload : List ℕ) (size : ℕ) → length field ≡ 4 → to_be_bytes w32 size ≡ take 4 field → length payload ≡ size
    → field ++ payload ≡ frame payload
unfolding frame
frame_whole field payload size four bytes long =
    sym (ap (λ f. f ++ payload) (ap (to_be_bytes w32) long ∙ bytes ∙ take_all 4 field (omega arith)))

-- four bytes spell the same with others behind them
length_field_before : (field rest : List ℕ) → length field ≡ 4 → length_field (field ++ rest) ≡ length_field field
unfolding length_field
length_field_before field rest four = ap (from_be_bytes w32) (take_at field rest 4 four ∙ sym (take_all 4 field (omega arith)))

cut_payload : (field read : List ℕ) (size : ℕ) → length field ≡ 4 → size ≡ length_field field → 0 < size → size ≤ most_payload → length read < size
    → IsUnfinished (field ++ read)
cut_payload field read size four spelled some few short =
    let same = length_field_before field read four in
    record {
      good = λ h. (omega (arith, same), omega (arith, same));
      short = λ h. omega (arith, same, length-append field read);
    }

-- a payload that was not read whole
pub NoFrame-payload : (why : ClientError) (left : Option (List ℕ)) (field read : List ℕ) (size : ℕ) → length field ≡ 4 → size ≡ length_field field
    → 0 < size → size ≤ most_payload → StopsShort size why read left → NoFrame why (field ++ read) left
NoFrame-payload Truncated left field read size four spelled some few stops = (cut_payload field read size four spelled some few stops.0, stops.1)
NoFrame-payload ReadFault left field read size four spelled some few stops = cut_payload field read size four spelled some few stops
NoFrame-payload BadLength left field read size four spelled some few stops = absurd stops
NoFrame-payload BadReply left field read size four spelled some few stops = absurd stops
NoFrame-payload WriteFault left field read size four spelled some few stops = absurd stops
NoFrame-payload Memory left field read size four spelled some few stops = absurd stops

module _ (old mid new : End) (bytes : List ℕ) (first : ReadsWhole old mid bytes) where
  -- more is read behind it
  pub reads_both : (more : List ℕ) → ReadsWhole mid new more → ReadsWhole old new (bytes ++ more)
  reads_both more second = record {
    consumes = Consumes-trans old.bytes mid.bytes new.bytes bytes more first.consumes second.consumes;
    quiet = second.quiet ∙ first.quiet;
  }

  -- no more is read behind it
  module _ (First Both : ClientError → List ℕ → Option (List ℕ) → Type 0) (why : ClientError) where
    pub stops_behind : (cut : StopsReading First why mid new) → Both why (bytes ++ cut.read) new.bytes → StopsReading Both why old new
    stops_behind cut says = record {
      read = bytes ++ cut.read;
      consumes = Consumes-trans old.bytes mid.bytes new.bytes bytes cut.read first.consumes cut.consumes;
      says = says;
      counted = subst (λ n. CountsFault why n new.faults) first.quiet cut.counted;
    }

-- such a reason is no fault of the reader
pub stops_at : (Says : ClientError → List ℕ → Option (List ℕ) → Type 0) (why : ClientError) (old new : End) (bytes : List ℕ) → ReadsWhole old new bytes
    → (why ≡ BadReply) ⊎ (why ≡ Memory) → Says why bytes new.bytes → StopsReading Says why old new
stops_at Says why old new bytes whole reason says =
    record { read = bytes; consumes = whole.consumes; says = says; counted = counts_none why reason }
  where
    counts_none : (why : ClientError) → (why ≡ BadReply) ⊎ (why ≡ Memory) → CountsFault why old.faults new.faults
    counts_none why (inl bad) = rw bad whole.quiet
    counts_none why (inr memory) = rw memory whole.quiet
