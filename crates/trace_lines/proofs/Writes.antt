-- Bytes that are put, one after another.
use Rattle.std.proofs.Common.{◌≡◌, ℕ, List, [], ◌++◌, Option, Result, Ok, Err, refl, sym, ap, subst, ◌∙◌, append_assoc, append-nil}
use Rattle.std.specs.Prelude.{OnOk, IfErr}
use Rattle.std.specs.Result.{IsErr, IsErrAnd}
use Rattle.std.specs.Io.KnownBytes.{Appends}
use Rattle.std.proofs.KnownBytes.{Appends-nil, Appends-trans}
use Rattle.wire.specs.Counted.{next_count}
use Rattle.wire.specs.Output.{WritesFront}
use Rattle.wire.specs.declared.error.FrontError.{FrontError}
use Rattle.wire.specs.declared.error.FrontError.TheVariants.{WriteFault}
use Rattle.wire.proofs.OutputLemmas.{WritesFront-longer, WritesFront-then}
use Rattle.frame_front.proofs.GatheredLemmas.{Takes-whole, Takes-then, Takes-cut, Takes-unsent}
use Rattle.trace_lines.specs.Private.Puts.{Out, Puts, PutsAll, PutsFront}

pub puts_nothing : (out : Out) → PutsAll out out []
puts_nothing out = record { takes = record { sent = []; appends = Appends-nil out.held; split = append-nil out.waits }; quiet = refl }

pub front_longer : (error : FrontError) (old new : Out) (bytes more whole : List ℕ) → bytes ++ more ≡ whole → PutsFront error old new bytes → PutsFront error old new whole
front_longer error old new bytes more whole is cut = record {
  fault = cut.fault;
  counted = cut.counted;
  front = subst (WritesFront old.held new.held) (append_assoc old.waits bytes more ∙ ap (λ b. old.waits ++ b) is) (WritesFront-longer old.held new.held (old.waits ++ bytes) more cut.front);
}

module _ (old mid new : Out) (bytes more whole : List ℕ) (before : PutsAll old mid bytes) (is : bytes ++ more ≡ whole) where
  pub all_then : PutsAll mid new more → PutsAll old new whole
  all_then next = record {
    takes = Takes-then old.held mid.held old.waits bytes mid.waits before.takes more whole is new.held new.waits next.takes;
    quiet = next.quiet ∙ before.quiet;
  }

  pub front_then : (error : FrontError) → PutsFront error mid new more → PutsFront error old new whole
  front_then error cut = record {
    fault = cut.fault;
    counted = cut.counted ∙ ap next_count before.quiet;
    front = Takes-cut old.held mid.held old.waits bytes mid.waits before.takes more whole is new.held cut.front;
  }

  pub puts_then : (r : Result (Unit {0}) FrontError) → Puts r mid new more → Puts r old new whole
  puts_then (Ok done) next = all_then next
  puts_then (Err error) next = front_then error next

-- the error of a call is handed on
pub hands_on : (r : Result (Unit {0}) FrontError) (error : FrontError) (old new : Out) (bytes : List ℕ) → IsErr r → IsErrAnd r (λ e. e ≡ error) → PutsFront error old new bytes → Puts r old new bytes
hands_on (Ok done) error old new bytes is same cut = absurd (cc is)
hands_on (Err e) error old new bytes is same cut = subst (λ (f : FrontError). PutsFront f old new bytes) (sym same) cut

-- ---- a list, one after another: what was put, and what is left

module _ (start mid new : Out) (so_far whole left word rest : List ℕ) (put : PutsAll start mid so_far) (split : whole ≡ so_far ++ left) (cut : left ≡ word ++ rest) where
  split_now : whole ≡ (so_far ++ word) ++ rest
  split_now = split ∙ ap (λ l. so_far ++ l) cut ∙ sym (append_assoc so_far word rest)

  pub goes_on : PutsAll mid new word → (now : List ℕ) × PutsAll start new now × (whole ≡ now ++ rest)
  goes_on next = (so_far ++ word, all_then start mid new so_far word (so_far ++ word) put refl next, split_now)

  pub stops : (error : FrontError) → PutsFront error mid new word → PutsFront error start new whole
  stops error next =
      front_longer error start new (so_far ++ word) rest whole (sym split_now) (front_then start mid new so_far word (so_far ++ word) put refl error next)

pub comes_to_end : (start new : Out) (so_far whole left : List ℕ) → PutsAll start new so_far → whole ≡ so_far ++ left → left ≡ [] → PutsAll start new whole
comes_to_end start new so_far whole left put split none = subst (PutsAll start new) (sym (split ∙ ap (λ l. so_far ++ l) none ∙ append-nil so_far)) put

-- ---- a write of all that waits, and of more

module _ (old mid new : Out) (bytes : List ℕ) (sent : Appends old.held mid.held old.waits) (same : mid.faults ≡ old.faults) (none : new.waits ≡ []) (front : WritesFront mid.held new.held bytes) where
  pub wrote_more : (r : Result (Unit {0}) FrontError) → OnOk r (Appends mid.held new.held bytes) → OnOk r (new.faults ≡ mid.faults) → IfErr r (λ fault. (fault ≡ WriteFault) × (new.faults ≡ next_count mid.faults)) → Puts r old new bytes
  wrote_more (Ok done) wrote quiet fault = record {
    takes = Takes-whole old.held new.held old.waits bytes new.waits (Appends-trans old.held mid.held new.held old.waits bytes sent wrote) none;
    quiet = quiet ∙ same;
  }
  wrote_more (Err error) wrote quiet fault = record {
    fault = fault.0;
    counted = fault.1 ∙ ap next_count same;
    front = WritesFront-then old.held mid.held new.held old.waits bytes sent front;
  }

-- ---- three parts, one after another

module _ (old first second : Out) (x y z whole : List ℕ) (is : x ++ (y ++ z) ≡ whole) where
  module _ (one : PutsAll old first x) where
    pub second_cut : (error : FrontError) → PutsFront error first second y → PutsFront error old second whole
    second_cut error cut =
        front_longer error old second (x ++ y) z whole (append_assoc x y z ∙ is) (front_then old first second x y (x ++ y) one refl error cut)

    pub third_put : (new : Out) → PutsAll first second y → (r : Result (Unit {0}) FrontError) → Puts r second new z → Puts r old new whole
    third_put new two r three =
        puts_then old second new (x ++ y) z whole (all_then old first second x y (x ++ y) one refl two) (append_assoc x y z ∙ is) r three

-- ---- from nothing that waits to nothing that waits

module _ (old mid : Out) (text : List ℕ) (none : old.waits ≡ []) where
  pub front_of_text : (error : FrontError) → PutsFront error old mid text → WritesFront old.held mid.held text
  front_of_text error cut = subst (WritesFront old.held mid.held) (ap (λ w. w ++ text) none) cut.front

  module _ (put : PutsAll old mid text) (held : Option (List ℕ)) where
    pub text_sent : Appends mid.held held mid.waits → Appends old.held held text
    text_sent wrote =
        subst (Appends old.held held) (sym put.takes.split ∙ ap (λ w. w ++ text) none) (Appends-trans old.held mid.held held put.takes.sent mid.waits put.takes.appends wrote)

    pub text_cut : WritesFront mid.held held mid.waits → WritesFront old.held held text
    text_cut wrote = subst (WritesFront old.held held) (ap (λ w. w ++ text) none) (Takes-unsent old.held mid.held old.waits text mid.waits put.takes held wrote)
