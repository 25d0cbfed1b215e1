-- What a bundle keeps, of its text up to the last entry.
use Rattle.std.proofs.Common.{◌≡◌, ◌<◌, ◌≤◌, ◌^◌, ℕ, List, ◌++◌, length, take, Option, refl, sym, ap, ◌∙◌, arith, length-append}
use Rattle.std.specs.Prelude.{IfSome}
use Rattle.std.proofs.Math.Seq.{take-append_seam}
use Rattle.spiffe_doc.specs.declared.place.Place.{Place}
use Rattle.spiffe_doc.specs.declared.authority.Authority.{Authority}
use Rattle.spiffe_doc.specs.Authority.{BundleValue}
use Rattle.spiffe_doc.specs.Bundle.{AreAuthorities}
use Rattle.spiffe_doc.specs.Text.{text_of}
use Rattle.spiffe_doc.specs.Private.Kept.{IsKept}
use Rattle.spiffe_doc.specs.Private.Places.{authorities_in, IsFront}
use Rattle.spiffe_doc.specs.Private.Writing.{front_text, rest_text}
use Rattle.spiffe_doc.proofs.PlaceLemmas.{listed_stay}
use Rattle.spiffe_doc.proofs.TextLemmas.{text_of-pieces}

-- the bundle of these numbers and these authorities
abbrev pub bundle_of : Option ℕ → Option ℕ → List Authority → BundleValue
bundle_of sequence hint authorities = record { sequence = sequence; refresh_hint = hint; authorities = authorities }

-- a text begins so and goes on with these numbers
pub record IsContinued (front text : List ℕ) (places : List Place) (sequence hint : Option ℕ) : Type 0 where
  pub begins : IsFront front places
  pub valid : AreAuthorities (authorities_in front places)
  pub is_text : text ≡ front ++ rest_text hint sequence

pub continued_listed : (front text : List ℕ) (places : List Place) (sequence hint : Option ℕ) → IsContinued front text places sequence hint → authorities_in text places ≡ authorities_in front places
continued_listed front text places sequence hint h = ap (λ t. authorities_in t places) h.is_text ∙ listed_stay front (rest_text hint sequence) places h.begins.placed

-- it is the text of that bundle
pub continued_text : (front text : List ℕ) (places : List Place) (sequence hint : Option ℕ) → IsContinued front text places sequence hint → text ≡ text_of (bundle_of sequence hint (authorities_in front places))
continued_text front text places sequence hint h =
    h.is_text ∙ ap (λ t. t ++ rest_text hint sequence) h.begins.written ∙ sym (text_of-pieces (bundle_of sequence hint (authorities_in front places)))

pub continued_kept : (front text : List ℕ) (places : List Place) (front_len : ℕ) (sequence hint : Option ℕ) → IsContinued front text places sequence hint → front_len ≡ length front
    → IfSome sequence (λ n. n < 2 ^ 64) → IfSome hint (λ n. n < 2 ^ 64) → length text ≤ 1048576 → IsKept text front_len places (bundle_of sequence hint (authorities_in text places))
continued_kept front text places front_len sequence hint h len sequence_fits hint_fits short =
    let same = continued_listed front text places sequence hint h in
    let whole = continued_text front text places sequence hint h ∙ ap (λ l. text_of (bundle_of sequence hint l)) (sym same) in
    let longer = ap length h.is_text in
    let front_is : take front_len text ≡ front = rw (len, h.is_text, take-append_seam) refl in
    record {
      valid = record {
        sequence_fits = sequence_fits;
        hint_fits = hint_fits;
        authorities = rw same h.valid;
        short = omega (arith, short, ap length whole);
      };
      written = whole;
      inside = omega (arith, len, simp length-append at longer);
      front = front_is ∙ h.begins.written ∙ ap front_text (sym same);
      placed = rw front_is h.begins.placed;
    }
