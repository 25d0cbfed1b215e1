-- The dump of valid domains tells which they are.
use Rattle.std.proofs.Common.{◌≡◌, ◌↔◌, ℕ, ◌+◌, List, [], ◌∷◌, ◌++◌, length, take, arith, refl, sym, ap, ◌∙◌, length-append}
use Rattle.std.specs.List.{flat_map}
use Rattle.std.specs.Int.{w64, to_be_bytes}
use Rattle.std.proofs.lemmas.List.{append_cancel_left, take_at}
use Rattle.spiffe_doc.specs.Authority.{BundleValue}
use Rattle.spiffe_doc.specs.Bundle.{IsBundle}
use Rattle.spiffe_doc.specs.Name.{IsName}
use Rattle.spiffe_doc.specs.Text.{text_of}
use Rattle.spiffe_doc.proofs.RoundTrip.{text_of-injective}
use Rattle.map_core.specs.declared.reply.Reply.TheVariants.{All}
use Rattle.map_core.specs.Name.{Name}
use Rattle.map_core.specs.PlainMap.{PlainMap, bundles}
use Rattle.wire.specs.Frame.{IsPayload, frame}
use Rattle.wire.specs.Answers.{reply_frames, item_frame}
use Rattle.frame_front.specs.Dump.{Domains, AreValid, dump_of}
use Rattle.wire.proofs.FrameLemmas.{frame_first, length-frame}
use Rattle.frame_front.proofs.DomainLists.{cons_head, cons_tail}

-- the payload of a domain's frame
abbrev pub item_payload : Name × BundleValue → List ℕ
item_payload item = 105 ∷ length item.0 ∷ item.0 ++ text_of item.1

pub IsPayload-item : (item : Name × BundleValue) → IsName item.0 → IsBundle item.1 → IsPayload (item_payload item)
IsPayload-item item name valid =
    let size : length (item_payload item) ≡ 2 + length item.0 + length (text_of item.1) = omega (arith, length-append item.0 (text_of item.1)) in
    (omega (arith, size), omega (arith, size, name.short, valid.short))

-- a domain's payload tells its name and its bundle
pub same_item : (a b : Name × BundleValue) → IsBundle a.1 → IsBundle b.1 → item_payload a ≡ item_payload b → a ≡ b
same_item a b valid_a valid_b same =
    let rest = cons_tail 105 105 (length a.0 ∷ a.0 ++ text_of a.1) (length b.0 ∷ b.0 ++ text_of b.1) same in
    let sizes : length a.0 ≡ length b.0 = cons_head (length a.0) (length b.0) (a.0 ++ text_of a.1) (b.0 ++ text_of b.1) rest in
    let parts : a.0 ++ text_of a.1 ≡ b.0 ++ text_of b.1 = cons_tail (length a.0) (length b.0) (a.0 ++ text_of a.1) (b.0 ++ text_of b.1) rest in
    let names : a.0 ≡ b.0 = sym (take_at a.0 (text_of a.1) (length a.0) refl) ∙ ap (take (length a.0)) parts ∙ take_at b.0 (text_of b.1) (length a.0) (sym sizes) in
    let texts : text_of a.1 ≡ text_of b.1 = append_cancel_left a.0 (text_of a.1) (text_of b.1) (parts ∙ ap (λ n. n ++ text_of b.1) (sym names)) in
    let values : a.1 ≡ b.1 = text_of-injective a.1 b.1 valid_a valid_b texts in
    λ i. (names i, values i)

no_frame : (payload rest : List ℕ) → frame payload ++ rest ≡ [] → ⊥
no_frame payload rest same = omega (arith, length-frame payload rest, ap length same)

same_items : (xs ys : Domains) → AreValid xs → AreValid ys → flat_map item_frame xs ≡ flat_map item_frame ys → xs ≡ ys
same_items [] [] valid_x valid_y same = refl
same_items [] (y ∷ ys) valid_x valid_y same = absurd (no_frame (item_payload y) (flat_map item_frame ys) (sym same))
same_items (x ∷ xs) [] valid_x valid_y same = absurd (no_frame (item_payload x) (flat_map item_frame xs) same)
same_items (x ∷ xs) (y ∷ ys) valid_x valid_y same =
    let first = frame_first (item_payload x) (item_payload y) (flat_map item_frame xs) (flat_map item_frame ys)
    (IsPayload-item x valid_x.0.0 valid_x.0.1) (IsPayload-item y valid_y.0.0 valid_y.0.1) same in
    let item = same_item x y valid_x.0.1 valid_y.0.1 first.0 in
    let others = same_items xs ys valid_x.1 valid_y.1 first.1 in
    λ i. item i ∷ others i

-- the payload of the first frame: the code, and the number of domains
abbrev head_payload : Domains → List ℕ
head_payload items = 97 ∷ to_be_bytes w64 (length items)

IsPayload-head : (items : Domains) → IsPayload (head_payload items)
IsPayload-head items = let size : length (head_payload items) ≡ 9 = refl in (omega (arith, size), omega (arith, size))

pub same_dump : (m n : PlainMap) → AreValid (bundles m) → AreValid (bundles n) → (dump_of m ≡ dump_of n) ↔ (bundles m ≡ bundles n)
same_dump m n valid_m valid_n = (
  λ same. same_items (bundles m) (bundles n) valid_m valid_n
      (frame_first (head_payload (bundles m)) (head_payload (bundles n)) (flat_map item_frame (bundles m)) (flat_map item_frame (bundles n))
      (IsPayload-head (bundles m)) (IsPayload-head (bundles n)) same).1,
  λ same. ap (λ items. reply_frames (All items)) same,
)
