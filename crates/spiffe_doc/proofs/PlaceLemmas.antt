-- Entries stay where they stand when more is written behind them.
use Rattle.std.proofs.Common.{◌≡◌, ℕ, ◌+◌, ◌≤◌, ◌==◌, List, [], ◌∷◌, ◌++◌, length, take, drop, cond, refl, sym, ap, ◌∙◌, arith, append_assoc, length-append, drop_at, take-append-drop, subst}
use Rattle.std.specs.List.{AllByRecursion}
use Rattle.std.proofs.lemmas.List.{take-append-le, take_all, length-map}
use Rattle.spiffe_doc.specs.declared.place.Place.{Place}
use Rattle.spiffe_doc.specs.Private.Entries.{authority_in, IsEntry}
use Rattle.spiffe_doc.specs.Private.Places.{piece, authorities_in, IsEntryAt, IsFront}
use Rattle.spiffe_doc.specs.Private.Writing.{front_text}
use Rattle.spiffe_doc.proofs.TextLemmas.{front_text-push}

piece_stays : (text more : List ℕ) (p : Place) → p.end ≤ length text → piece (text ++ more) p ≡ piece text p
piece_stays text more p inside = ap (drop p.start) (take-append-le p.end text more inside)

entry_stays : (text more : List ℕ) (p : Place) → IsEntryAt text p → IsEntryAt (text ++ more) p
entry_stays text more p h = record {
  ordered = h.ordered;
  inside = omega (arith, h.inside, length-append text more);
  entry = rw (piece_stays text more p h.inside) h.entry;
}

pub placed_stay : (text more : List ℕ) (ps : List Place) → AllByRecursion (IsEntryAt text) ps → AllByRecursion (IsEntryAt (text ++ more)) ps
placed_stay text more [] h = tt
placed_stay text more (p ∷ ps) h = (entry_stays text more p h.0, placed_stay text more ps h.1)

pub listed_stay : (text more : List ℕ) (ps : List Place) → AllByRecursion (IsEntryAt text) ps → authorities_in (text ++ more) ps ≡ authorities_in text ps
listed_stay text more [] h = refl
listed_stay text more (p ∷ ps) h = rw (piece_stays text more p h.0.inside, listed_stay text more ps h.1) refl

placed_push : (text : List ℕ) (ps : List Place) (p : Place) → AllByRecursion (IsEntryAt text) ps → IsEntryAt text p → AllByRecursion (IsEntryAt text) (ps ++ p ∷ [])
placed_push text [] p h last = (last, tt)
placed_push text (q ∷ ps) p h last = (h.0, placed_push text ps p h.1 last)

listed_push : (text : List ℕ) (ps : List Place) (p : Place) → authorities_in text (ps ++ p ∷ []) ≡ authorities_in text ps ++ authority_in (piece text p) ∷ []
listed_push text [] p = refl
listed_push text (q ∷ ps) p = ap (λ more. authority_in (piece text q) ∷ more) (listed_push text ps p)

piece_last : (text comma entry : List ℕ) (p : Place) → p.start ≡ length text + length comma → p.end ≡ length (text ++ (comma ++ entry)) → piece (text ++ (comma ++ entry)) p ≡ entry
piece_last text comma entry p start end =
    let whole : take p.end (text ++ (comma ++ entry)) ≡ text ++ (comma ++ entry) = take_all p.end (text ++ (comma ++ entry)) (omega (arith, end)) in
    let behind : p.start ≡ length (text ++ comma) = start ∙ sym (length-append text comma) in
    ap (drop p.start) (whole ∙ sym (append_assoc text comma entry)) ∙ drop_at (text ++ comma) entry p.start (sym behind)

-- the comma before an entry behind so many
abbrev pub comma_behind : ℕ → List ℕ
comma_behind n = cond (n == 0) [] (44 ∷ [])

-- what an entry more makes of a text and its places
pub record IsPushed (text : List ℕ) (ps : List Place) (entry : List ℕ) (new : List ℕ) (p : Place) : Type 0 where
  pub before : IsFront text ps
  pub is_entry : IsEntry entry p.is_x509
  pub is_new : new ≡ text ++ (comma_behind (length ps) ++ entry)
  pub start : p.start ≡ length text + length (comma_behind (length ps))
  pub end : p.end ≡ length new

last_piece : (text : List ℕ) (ps : List Place) (entry new : List ℕ) (p : Place) → IsPushed text ps entry new p → piece new p ≡ entry
last_piece text ps entry new p h =
    let comma = comma_behind (length ps) in
    ap (λ t. piece t p) h.is_new ∙ piece_last text comma entry p h.start (h.end ∙ ap length h.is_new)

pub listed_more : (text : List ℕ) (ps : List Place) (entry new : List ℕ) (p : Place) → IsPushed text ps entry new p → authorities_in new (ps ++ p ∷ []) ≡ authorities_in text ps ++ authority_in entry ∷ []
listed_more text ps entry new p h =
    let comma = comma_behind (length ps) in
    listed_push new ps p
    ∙ ap (λ a. authorities_in new ps ++ a ∷ []) (ap authority_in (last_piece text ps entry new p h))
    ∙ ap (λ front. front ++ authority_in entry ∷ []) (ap (λ t. authorities_in t ps) h.is_new ∙ listed_stay text (comma ++ entry) ps h.before.placed)

pub front_more : (text : List ℕ) (ps : List Place) (entry new : List ℕ) (p : Place) → IsPushed text ps entry new p → IsFront new (ps ++ p ∷ [])
front_more text ps entry new p h =
    let comma = comma_behind (length ps) in
    let listed = authorities_in text ps in
    let few : length listed ≡ length ps = length-map ps _ in
    let long = ap length h.is_new in
    let last : IsEntryAt new p = record {
      ordered = omega (arith, h.start, h.end, long, length-append text (comma ++ entry), length-append comma entry);
      inside = omega (arith, h.end);
      entry = rw (last_piece text ps entry new p h) h.is_entry;
    } in
    record {
      placed = placed_push new ps p (rw h.is_new (placed_stay text (comma ++ entry) ps h.before.placed)) last;
      written =
          h.is_new ∙ ap (λ t. t ++ (comma ++ entry)) h.before.written
          ∙ ap (λ n. front_text listed ++ (comma_behind n ++ entry)) (sym few)
          ∙ ap (λ e. front_text listed ++ (comma_behind (length listed) ++ e)) h.is_entry.written
          ∙ sym (front_text-push listed (authority_in entry))
          ∙ ap front_text (sym (listed_more text ps entry new p h));
    }

-- ---- a text up to an entry's end, and the rest

pub kept_listed : (text : List ℕ) (n : ℕ) (ps : List Place) → AllByRecursion (IsEntryAt (take n text)) ps → authorities_in text ps ≡ authorities_in (take n text) ps
kept_listed text n ps h = sym (ap (λ t. authorities_in t ps) (take-append-drop n text)) ∙ listed_stay (take n text) (drop n text) ps h

pub kept_placed : (text : List ℕ) (n : ℕ) (ps : List Place) → AllByRecursion (IsEntryAt (take n text)) ps → AllByRecursion (IsEntryAt text) ps
kept_placed text n ps h = subst (λ t. AllByRecursion (IsEntryAt t) ps) (take-append-drop n text) (placed_stay (take n text) (drop n text) ps h)

pub kept_front : (text : List ℕ) (n : ℕ) (ps : List Place) → AllByRecursion (IsEntryAt (take n text)) ps → take n text ≡ front_text (authorities_in text ps) → IsFront (take n text) ps
kept_front text n ps h written = record { placed = h; written = written ∙ ap front_text (kept_listed text n ps h) }
