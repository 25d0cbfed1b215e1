-- What equal digests tell.
use Rattle.std.proofs.Common.{◌≡◌, ◌<◌, zero, suc, arith, ◌⊎◌, inl, inr, List, ℕ, [], ◌∷◌, ◌++◌, true, false, Ok, refl, sym, ap, subst, ◌∙◌}
use Rattle.std.specs.Prelude.{bytes_eq, Result, slice_index}
use Rattle.std.specs.Cmp.Lexicographic.{bytes_decides}
use Rattle.std.specs.Int.{w32, to_be_bytes}
use Rattle.std.proofs.lemmas.List.{append_cancel_right}
use Rattle.hex.specs.declared.error.FromHexError.{FromHexError}
use Rattle.hex.specs.Hex.{encode_lower, decode_of, IsBytes}
use Rattle.hex.proofs.HexLemmas.{decode_of-encode_lower}
use Rattle.sha2.specs.Sha256.{sha256, digest_bytes, final_hash, initial_hash_256}
use Rattle.map_core.specs.declared.reply.Reply.TheVariants.{All}
use Rattle.map_core.specs.PlainMap.{PlainMap}
use Rattle.frame_front.specs.Dump.{Domains, IsDump, ReadsItems, dump_of}
use Rattle.wire.specs.Answers.{reply_frames}
use Rattle.wire.proofs.FrameLemmas.{frames_unique}
use Rattle.frame_front.proofs.DomainLists.{cons_tail, some_item}
use Rattle.frame_front.proofs.DumpTexts.{same_dump}
use Rattle.dump_views.specs.Digest.{digest_line_of}
use Rattle.dump_views.specs.Laws.{IsCollision, DigestTells, DigestOfMaps}

-- ---- a digest is bytes
abbrev Small : List ℕ → Type 0
Small [] = Unit {0}
Small (x ∷ xs) = (x < 256) × Small xs

small-append : (xs ys : List ℕ) → Small xs → Small ys → Small (xs ++ ys)
small-append [] ys first second = second
small-append (x ∷ xs) ys first second = (first.0, small-append xs ys first.1 second)

small_bytes : (xs : List ℕ) → Small xs → IsBytes xs
small_bytes [] small i = omega arith
small_bytes (x ∷ xs) small zero = small.0
small_bytes (x ∷ xs) small (suc i) = small_bytes xs small.1 i

small_word : (n : ℕ) → Small (to_be_bytes w32 n)
small_word n = (omega arith, (omega arith, (omega arith, (omega arith, tt))))

small_digest : (h : List ℕ) (n : ℕ) → Small (digest_bytes h n)
unfolding digest_bytes
small_digest h zero = tt
small_digest h (suc n) = small-append (digest_bytes h n) (to_be_bytes w32 (slice_index h n)) (small_digest h n) (small_word (slice_index h n))

sha256_bytes : (m : List ℕ) → IsBytes (sha256 m)
unfolding sha256
sha256_bytes m = small_bytes (sha256 m) (small_digest (final_hash initial_hash_256 m) 8)

-- ---- equal lines are of equal digests
same_ok : (xs ys : List ℕ) → (let r : Result (List ℕ) FromHexError = Ok xs in let s : Result (List ℕ) FromHexError = Ok ys in r ≡ s) → xs ≡ ys
same_ok xs ys same = cc

same_line : (a b : List ℕ) → digest_line_of a ≡ digest_line_of b → sha256 a ≡ sha256 b
same_line a b same =
    let digits = append_cancel_right (encode_lower (sha256 a)) (encode_lower (sha256 b)) (10 ∷ []) same in
    same_ok (sha256 a) (sha256 b)
    (sym (decode_of-encode_lower (sha256 a) (sha256_bytes a)) ∙ ap decode_of digits ∙ decode_of-encode_lower (sha256 b) (sha256_bytes b))

-- a dump holds one list of domains
read_same : (payloads : List (List ℕ)) (items others : Domains) → ReadsItems payloads items → ReadsItems payloads others → items ≡ others
read_same [] [] [] is also = refl
read_same [] [] (o ∷ os) is also = absurd also
read_same [] (i ∷ is) os read also = absurd read
read_same (p ∷ ps) [] os is also = absurd is
read_same (p ∷ ps) (i ∷ is) [] read also = absurd also
read_same (p ∷ ps) (i ∷ is) (o ∷ os) read also =
    let first : i ≡ o = some_item i o (sym read.0 ∙ also.0) in
    λ k. first k ∷ read_same ps is os read.1 also.1 k

holds_one : (dump : List ℕ) (items others : Domains) → IsDump dump items → IsDump dump others → items ≡ others
holds_one dump items others is also =
    let frames = frames_unique dump (is.head ∷ is.payloads) (also.head ∷ also.payloads) [] [] is.framed also.framed in
    let payloads = cons_tail is.head also.head is.payloads also.payloads frames.0 in
    read_same also.payloads items others (subst (λ ps. ReadsItems ps items) payloads is.read) also.read

-- texts of one digest are the same, or a collision
same_or_collision : (a b : List ℕ) → digest_line_of a ≡ digest_line_of b → (a ≡ b) ⊎ IsCollision a b
same_or_collision a b same = (elim (bytes_eq a b) as (λ t. bytes_eq a b ≡ t → (a ≡ b) ⊎ IsCollision a b) [
  | true ↦ λ t. inl ((bytes_decides a b).0 t)
  | false ↦ λ f. inr (λ one. let yes : bytes_eq a b ≡ true = (bytes_decides a b).1 one in cc, same_line a b same)
]) refl

pub digest_tells : DigestTells
digest_tells a b items others is also same = elim (same_or_collision a b same) [
  | inl one ↦ inl (holds_one b items others (subst (λ dump. IsDump dump items) one is) also)
  | inr collision ↦ inr collision
]

pub digest_of_maps : (m n : PlainMap) → DigestOfMaps m n
digest_of_maps m n = record {
  same = λ one. ap (λ items. digest_line_of (reply_frames (All items))) one;
  tells = λ m_valid n_valid same. elim (same_or_collision (dump_of m) (dump_of n) same) [
    | inl one ↦ inl ((same_dump m n m_valid n_valid).0 one)
    | inr collision ↦ inr collision
  ];
}
