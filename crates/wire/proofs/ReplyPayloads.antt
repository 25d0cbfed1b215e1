-- A reply is read from its payload, and from no other.
use Rattle.std.proofs.Common.{◌≡◌, inl, inr, ℕ, zero, suc, ◌<◌, ◌^◌, arith, Bool, true, nat_le, List, [], ◌∷◌, ◌++◌, length, take, drop, Option, Some, None, refl, sym, ap, subst, ◌∙◌, length-append, length-take-le}
use Rattle.std.specs.Prelude.{if◌then◌else◌, option_map, IfSome, MatchOption}
use Rattle.std.specs.Int.{w32, w64, to_be_bytes, from_be_bytes}
use Rattle.std.proofs.lemmas.Nat.{be_bytes_4, be_bytes_8, from_be_bytes-to_be_bytes_4, from_be_bytes-to_be_bytes_8}
use Rattle.std.proofs.lemmas.List.{take-append-drop, take_at, drop_at}
use Rattle.std.proofs.lemmas.Option.{same_Some, none-some}
use Rattle.map_core.specs.declared.op.Expect.{Expect}
use Rattle.map_core.specs.declared.op.Expect.TheVariants.{Absent, Sequence, Unnumbered}
use Rattle.wire.specs.Fields.{expect_bytes, sequence_bytes}
use Rattle.wire.specs.ReplyForm.{is_error_code, Reply, Stored, Unchanged, Removed, Appended, Found, All, Same, Counts, Bundle, Speaks, Refused, Moved, Held, Worn, Memory, Shut, reply, kind_of, detail_kind, DetailFits, SequenceFits, detail_bytes, payload_of, HasPayload}
use Rattle.wire.specs.declared.reply.Detail.{Detail}
use Rattle.wire.specs.declared.reply.Detail.TheVariants.{Nothing, Place, SequenceOf, Expected}
use Rattle.wire.specs.declared.reply.Kind.{Kind}
use Rattle.wire.specs.declared.reply.Kind.TheVariants.{Bare, OfPlace, OfSequence, OfExpect}
use Rattle.wire.specs.declared.reply.ReplyForm.{ReplyForm}
use Rattle.wire.specs.RequestForm.{IsExpect}
use Rattle.wire.specs.PayloadReading.{◌>>=◌, at_end, of_both, split_named, version_in}
use Rattle.wire.specs.Private.ReplyReading.{short_number, long_number, sequence_in, expect_in, detail_in, split_at, moved_in, held_in, error_by_number, reply_by_letter, reply_by_kind, read_payload}
use Rattle.wire.proofs.Cases.{bind_cases, if_some, map_some, number_cases}
use Rattle.wire.proofs.RequestPayloads.{AreBytes, end_found, named_found, named_read, version_found, version_read}

front_fits : (front back : List ℕ) → AreBytes (front ++ back) → AreBytes front
front_fits [] back fit i = omega arith
front_fits (b ∷ front) back fit zero = fit 0
front_fits (b ∷ front) back fit (suc i) = front_fits front back (λ j. fit (suc j)) i

back_fits : (front back : List ℕ) → AreBytes (front ++ back) → AreBytes back
back_fits [] back fit = fit
back_fits (b ∷ front) back fit = back_fits front back (λ j. fit (suc j))

-- ---- parts

short_bound : (bytes : List ℕ) → AreBytes bytes → from_be_bytes w32 bytes < 2 ^ 32
short_bound bytes fit = omega (arith, fit 0, fit 1, fit 2, fit 3)

long_bound : (bytes : List ℕ) → AreBytes bytes → from_be_bytes w64 bytes < 2 ^ 64
long_bound bytes fit = omega (arith, fit 0, fit 1, fit 2, fit 3, fit 4, fit 5, fit 6, fit 7)

short_found : (bytes : List ℕ) (n : ℕ) → AreBytes bytes → short_number bytes ≡ Some n → (bytes ≡ to_be_bytes w32 n) × (n < 2 ^ 32)
unfolding short_number
short_found bytes n fit is =
    number_cases (length bytes) 4 _ _ n is (λ four is.
    let value = same_Some (from_be_bytes w32 bytes) n is in
    (sym (be_bytes_4 bytes n four fit (sym value)), subst (λ (m : ℕ). m < 2 ^ 32) value (short_bound bytes fit))) (λ is.
    absurd (none-some n is))

long_found : (bytes : List ℕ) (n : ℕ) → AreBytes bytes → long_number bytes ≡ Some n → (bytes ≡ to_be_bytes w64 n) × (n < 2 ^ 64)
unfolding long_number
long_found bytes n fit is =
    number_cases (length bytes) 8 _ _ n is (λ eight is.
    let value = same_Some (from_be_bytes w64 bytes) n is in
    (sym (be_bytes_8 bytes n eight fit (sym value)), subst (λ (m : ℕ). m < 2 ^ 64) value (long_bound bytes fit))) (λ is.
    absurd (none-some n is))

short_read : (n : ℕ) → n < 2 ^ 32 → short_number (to_be_bytes w32 n) ≡ Some n
unfolding short_number
short_read n fits = ap Some (from_be_bytes-to_be_bytes_4 n fits)

long_read : (n : ℕ) → n < 2 ^ 64 → long_number (to_be_bytes w64 n) ≡ Some n
unfolding long_number
long_read n fits = ap Some (from_be_bytes-to_be_bytes_8 n fits)

sequence_found : (bytes : List ℕ) (s : Option ℕ) → AreBytes bytes → sequence_in bytes ≡ Some s → (bytes ≡ sequence_bytes s) × SequenceFits s
unfolding sequence_in
sequence_found [] s fit is = absurd (none-some s is)
sequence_found (kind ∷ bytes) s fit is =
    number_cases kind 0 _ _ s is (λ zero is.
    let e = end_found None s bytes is in
    told e.1 ((λ i. zero i ∷ e.0 i), tt)) (λ is.
    number_cases kind 1 _ _ s is (λ one is.
    let m = map_some Some (long_number bytes) s is in
    let n = long_found bytes m.0 (λ i. fit (suc i)) m.1 in
    told m.2 ((λ i. one i ∷ n.0 i), n.1)) (λ is.
    absurd (none-some s is)))
  where
    told : {t : Option ℕ} → t ≡ s → (kind ∷ bytes ≡ sequence_bytes t) × SequenceFits t → (kind ∷ bytes ≡ sequence_bytes s) × SequenceFits s
    told same found = subst (λ (x : Option ℕ). (kind ∷ bytes ≡ sequence_bytes x) × SequenceFits x) same found

sequence_read : (s : Option ℕ) → SequenceFits s → sequence_in (sequence_bytes s) ≡ Some s
unfolding sequence_in
sequence_read None fits = refl
sequence_read (Some n) fits = ap (option_map Some) (long_read n fits)

expect_found : (bytes : List ℕ) (e : Expect) → AreBytes bytes → expect_in bytes ≡ Some e → (bytes ≡ expect_bytes e) × IsExpect e
unfolding expect_in
expect_found [] e fit is = absurd (none-some e is)
expect_found (kind ∷ bytes) e fit is =
    number_cases kind 0 _ _ e is (λ zero is.
    let end = end_found Absent e bytes is in
    told end.1 ((λ i. zero i ∷ end.0 i), tt)) (λ is.
    number_cases kind 1 _ _ e is (λ one is.
    let m = map_some Sequence (long_number bytes) e is in
    let n = long_found bytes m.0 (λ i. fit (suc i)) m.1 in
    told m.2 ((λ i. one i ∷ n.0 i), n.1)) (λ is.
    number_cases kind 2 _ _ e is (λ two is.
    let end = end_found Unnumbered e bytes is in
    told end.1 ((λ i. two i ∷ end.0 i), tt)) (λ is.
    absurd (none-some e is))))
  where
    told : {d : Expect} → d ≡ e → (kind ∷ bytes ≡ expect_bytes d) × IsExpect d → (kind ∷ bytes ≡ expect_bytes e) × IsExpect e
    told same found = subst (λ (x : Expect). (kind ∷ bytes ≡ expect_bytes x) × IsExpect x) same found

expect_read : (e : Expect) → IsExpect e → expect_in (expect_bytes e) ≡ Some e
unfolding expect_in
expect_read Absent fits = refl
expect_read Unnumbered fits = refl
expect_read (Sequence n) fits = ap (option_map Sequence) (long_read n fits)

split_found : (size : ℕ) (bytes : List ℕ) (parts : List ℕ × List ℕ) → split_at size bytes ≡ Some parts → (bytes ≡ parts.0 ++ parts.1) × (length parts.0 ≡ size)
unfolding split_at
split_found size bytes parts is = elim (if_some (nat_le size (length bytes)) (Some (take size bytes, drop size bytes)) None parts is) [
  | inl h ↦ subst (λ (p : List ℕ × List ℕ). (bytes ≡ p.0 ++ p.1) × (length p.0 ≡ size)) (same_Some (take size bytes, drop size bytes) parts h.1) (sym (take-append-drop size bytes), length-take-le size bytes (grind (arith, h.0)))
  | inr h ↦ absurd (none-some parts h.1)
]

split_read : (front back : List ℕ) → split_at (length front) (front ++ back) ≡ Some (front, back)
unfolding split_at
split_read front back =
    let enough : nat_le (length front) (length (front ++ back)) ≡ true = grind (arith, length-append front back) in
    ap (λ (b : Bool). if b then Some (take (length front) (front ++ back), drop (length front) (front ++ back)) else None) enough
    ∙ ap (λ f. Some (f, drop (length front) (front ++ back))) (take_at front back (length front) refl)
    ∙ ap (λ d. Some (front, d)) (drop_at front back (length front) refl)

-- ---- replies

abbrev Told : List ℕ → Reply → Type 0
Told payload r = (payload ≡ payload_of r) × HasPayload r

detail_found : (n : ℕ) (k : Kind) (bytes : List ℕ) (d : Detail) → AreBytes bytes → kind_of n ≡ Some k → detail_in k bytes ≡ Some d → Told (n ∷ bytes) (Refused n d)
unfolding detail_in
detail_found n Bare bytes d fit kind is =
    let end = end_found Nothing d bytes is in
    subst (λ (x : Detail). Told (n ∷ bytes) (Refused n x)) end.1 (λ i. n ∷ end.0 i, (kind, tt))
detail_found n OfPlace bytes d fit kind is =
    let m = map_some Place (short_number bytes) d is in
    let f = short_found bytes m.0 fit m.1 in
    subst (λ (x : Detail). Told (n ∷ bytes) (Refused n x)) m.2 (λ i. n ∷ f.0 i, (kind, f.1))
detail_found n OfSequence bytes d fit kind is =
    let m = map_some SequenceOf (long_number bytes) d is in
    let f = long_found bytes m.0 fit m.1 in
    subst (λ (x : Detail). Told (n ∷ bytes) (Refused n x)) m.2 (λ i. n ∷ f.0 i, (kind, f.1))
detail_found n OfExpect bytes d fit kind is =
    let m = map_some Expected (expect_in bytes) d is in
    let f = expect_found bytes m.0 fit m.1 in
    subst (λ (x : Detail). Told (n ∷ bytes) (Refused n x)) m.2 (λ i. n ∷ f.0 i, (kind, f.1))

detail_read : (d : Detail) → DetailFits d → detail_in (detail_kind d) (detail_bytes d) ≡ Some d
unfolding detail_in
detail_read Nothing fits = refl
detail_read (Place place) fits = ap (option_map Place) (short_read place fits)
detail_read (SequenceOf sequence) fits = ap (option_map SequenceOf) (long_read sequence fits)
detail_read (Expected expect) fits = ap (option_map Expected) (expect_read expect fits)

bundle_found : (bytes : List ℕ) (r : Reply) → AreBytes bytes → option_map (of_both Bundle) (split_named bytes) ≡ Some r → Told (105 ∷ bytes) r
bundle_found bytes r fit is =
    let m = map_some (of_both Bundle) (split_named bytes) r is in
    let n = named_found bytes m.0 fit m.1 in
    subst (λ (q : Reply). Told (105 ∷ bytes) q) m.2 (λ i. 105 ∷ n.0 i, n.1)

held_found : (bytes : List ℕ) (r : Reply) → AreBytes bytes → held_in bytes ≡ Some r → Told (42 ∷ bytes) r
unfolding held_in
held_found bytes r fit is =
    bind_cases (split_at 4 bytes) _ r is (λ parts split more.
    bind_cases (short_number parts.0) _ r more (λ shard short more.
    bind_cases (long_number parts.1) _ r more (λ revision long is.
    let s = split_found 4 bytes parts split in
    let all = subst AreBytes s.0 fit in
    let n = short_found parts.0 shard (front_fits parts.0 parts.1 all) short in
    let m = long_found parts.1 revision (back_fits parts.0 parts.1 all) long in
    subst (λ (q : Reply). Told (42 ∷ bytes) q) (same_Some (Held shard revision) r is) ((λ i. 42 ∷ s.0 i) ∙ (λ i. 42 ∷ n.0 i ++ m.0 i), (n.1, m.1)))))

moved_found : (bytes : List ℕ) (r : Reply) → AreBytes bytes → moved_in bytes ≡ Some r → Told (41 ∷ bytes) r
unfolding moved_in
moved_found bytes r fit is =
    bind_cases (split_at 4 bytes) _ r is (λ parts split more.
    bind_cases (split_at 8 parts.1) _ r more (λ halves again more.
    bind_cases (short_number parts.0) _ r more (λ shard short more.
    bind_cases (long_number halves.0) _ r more (λ first long more.
    bind_cases (long_number halves.1) _ r more (λ second last is.
    let s = split_found 4 bytes parts split in
    let t = split_found 8 parts.1 halves again in
    let all = subst AreBytes s.0 fit in
    let behind = subst AreBytes t.0 (back_fits parts.0 parts.1 all) in
    let n = short_found parts.0 shard (front_fits parts.0 parts.1 all) short in
    let m = long_found halves.0 first (front_fits halves.0 halves.1 behind) long in
    let k = long_found halves.1 second (back_fits halves.0 halves.1 behind) last in
    subst (λ (q : Reply). Told (41 ∷ bytes) q) (same_Some (Moved shard first second) r is)
    ((λ i. 41 ∷ s.0 i) ∙ (λ i. 41 ∷ n.0 i ++ t.0 i) ∙ (λ i. 41 ∷ to_be_bytes w32 shard ++ (m.0 i ++ k.0 i)), (n.1, m.1, k.1)))))))

-- a reply that nothing follows
lone_found : (code : ℕ) (s r : Reply) (bytes : List ℕ) → Told (code ∷ []) s → at_end s bytes ≡ Some r → Told (code ∷ bytes) r
lone_found code s r bytes told is =
    let end = end_found s r bytes is in
    subst (λ (q : Reply). Told (code ∷ bytes) q) end.1 ((λ i. code ∷ end.0 i) ∙ told.0, told.1)

worn_found : (bytes : List ℕ) (r : Reply) → AreBytes bytes → option_map Worn (short_number bytes) ≡ Some r → Told (40 ∷ bytes) r
worn_found bytes r fit is =
    let m = map_some Worn (short_number bytes) r is in
    let n = short_found bytes m.0 fit m.1 in
    subst (λ (q : Reply). Told (40 ∷ bytes) q) m.2 (λ i. 40 ∷ n.0 i, n.1)

error_found : (code : ℕ) (bytes : List ℕ) (r : Reply) → AreBytes bytes → error_by_number code bytes ≡ Some r → Told (code ∷ bytes) r
unfolding error_by_number
error_found code bytes r fit is =
    number_cases code 22 _ _ r is (λ c is. at c (lone_found 22 Memory r bytes (refl, tt) is)) (λ is.
    number_cases code 40 _ _ r is (λ c is. at c (worn_found bytes r fit is)) (λ is.
    number_cases code 41 _ _ r is (λ c is. at c (moved_found bytes r fit is)) (λ is.
    number_cases code 42 _ _ r is (λ c is. at c (held_found bytes r fit is)) (λ is.
    number_cases code 56 _ _ r is (λ c is. at c (lone_found 56 Shut r bytes (refl, tt) is)) (λ is.
    absurd (none-some r is))))))
  where
    at : {known : ℕ} → code ≡ known → Told (known ∷ bytes) r → Told (code ∷ bytes) r
    at same told = ((λ i. same i ∷ bytes) ∙ told.0, told.1)

appended_found : (bytes : List ℕ) (r : Reply) → AreBytes bytes → option_map Appended (sequence_in bytes) ≡ Some r → Told (112 ∷ bytes) r
appended_found bytes r fit is =
    let m = map_some Appended (sequence_in bytes) r is in
    let s = sequence_found bytes m.0 fit m.1 in
    subst (λ (q : Reply). Told (112 ∷ bytes) q) m.2 (λ i. 112 ∷ s.0 i, s.1)

all_found : (bytes : List ℕ) (r : Reply) → AreBytes bytes → option_map All (long_number bytes) ≡ Some r → Told (97 ∷ bytes) r
all_found bytes r fit is =
    let m = map_some All (long_number bytes) r is in
    let n = long_found bytes m.0 fit m.1 in
    subst (λ (q : Reply). Told (97 ∷ bytes) q) m.2 (λ i. 97 ∷ n.0 i, n.1)

speaks_found : (bytes : List ℕ) (r : Reply) → option_map Speaks (version_in bytes) ≡ Some r → Told (118 ∷ bytes) r
speaks_found bytes r is =
    let m = map_some Speaks (version_in bytes) r is in
    let v = version_found bytes m.0 m.1 in
    subst (λ (q : Reply). Told (118 ∷ bytes) q) m.2 (λ i. 118 ∷ v i, tt)

letter_found : (code : ℕ) (bytes : List ℕ) (r : Reply) → AreBytes bytes → reply_by_letter code bytes ≡ Some r → Told (code ∷ bytes) r
unfolding reply_by_letter
letter_found code bytes r fit is =
    number_cases code 102 _ _ r is (λ c is. at c (subst (λ (q : Reply). Told (102 ∷ bytes) q) (same_Some (Found bytes) r is) (refl, tt))) (λ is.
    number_cases code 115 _ _ r is (λ c is. at c (lone_found 115 Stored r bytes (refl, tt) is)) (λ is.
    number_cases code 117 _ _ r is (λ c is. at c (lone_found 117 Unchanged r bytes (refl, tt) is)) (λ is.
    number_cases code 100 _ _ r is (λ c is. at c (lone_found 100 Removed r bytes (refl, tt) is)) (λ is.
    number_cases code 112 _ _ r is (λ c is. at c (appended_found bytes r fit is)) (λ is.
    number_cases code 97 _ _ r is (λ c is. at c (all_found bytes r fit is)) (λ is.
    number_cases code 105 _ _ r is (λ c is. at c (bundle_found bytes r fit is)) (λ is.
    number_cases code 101 _ _ r is (λ c is. at c (lone_found 101 Same r bytes (refl, tt) is)) (λ is.
    number_cases code 109 _ _ r is (λ c is. at c (subst (λ (q : Reply). Told (109 ∷ bytes) q) (same_Some (Counts bytes) r is) (refl, tt))) (λ is.
    number_cases code 118 _ _ r is (λ c is. at c (speaks_found bytes r is)) (λ is.
    absurd (none-some r is)))))))))))
  where
    at : {known : ℕ} → code ≡ known → Told (known ∷ bytes) r → Told (code ∷ bytes) r
    at same told = ((λ i. same i ∷ bytes) ∙ told.0, told.1)

payload_found : (payload : List ℕ) (r : Reply) → AreBytes payload → read_payload payload ≡ Some r → Told payload r
unfolding read_payload
payload_found [] r fit is = absurd (none-some r is)
payload_found (code ∷ bytes) r fit is = by (kind_of code) refl is
  where
    by : (o : Option Kind) → kind_of code ≡ o → reply_by_kind code bytes o ≡ Some r → Told (code ∷ bytes) r
    by (Some kind) e h =
        let m = map_some (Refused code) (detail_in kind bytes) r h in
        subst (λ (q : Reply). Told (code ∷ bytes) q) m.2 (detail_found code kind bytes m.0 (λ i. fit (suc i)) e m.1)
    by None e h = elim (if_some (is_error_code code) (error_by_number code bytes) (reply_by_letter code bytes) r h) [
      | inl k ↦ error_found code bytes r (λ i. fit (suc i)) k.1
      | inr k ↦ letter_found code bytes r (λ i. fit (suc i)) k.1
    ]

-- ---- and back

held_read : (shard revision : ℕ) → shard < 2 ^ 32 → revision < 2 ^ 64 → held_in (to_be_bytes w32 shard ++ to_be_bytes w64 revision) ≡ Some (Held shard revision)
unfolding held_in
held_read shard revision low fits =
    ap (λ o. o >>= λ parts. short_number parts.0 >>= λ s. long_number parts.1 >>= λ r. Some (Held s r)) (split_read (to_be_bytes w32 shard) (to_be_bytes w64 revision))
    ∙ ap (λ o. o >>= λ s. long_number (to_be_bytes w64 revision) >>= λ r. Some (Held s r)) (short_read shard low)
    ∙ ap (λ o. o >>= λ r. Some (Held shard r)) (long_read revision fits)

moved_read : (shard first second : ℕ) → shard < 2 ^ 32 → first < 2 ^ 64 → second < 2 ^ 64 → moved_in (to_be_bytes w32 shard ++ (to_be_bytes w64 first ++ to_be_bytes w64 second)) ≡ Some (Moved shard first second)
unfolding moved_in
moved_read shard first second low fits enough =
    let one = to_be_bytes w32 shard in
    let two = to_be_bytes w64 first in
    let three = to_be_bytes w64 second in
    ap (λ o. o >>= λ parts. split_at 8 parts.1 >>= λ more. short_number parts.0 >>= λ s. long_number more.0 >>= λ f. long_number more.1 >>= λ l. Some (Moved s f l)) (split_read one (two ++ three))
    ∙ ap (λ o. o >>= λ more. short_number one >>= λ s. long_number more.0 >>= λ f. long_number more.1 >>= λ l. Some (Moved s f l)) (split_read two three)
    ∙ ap (λ o. o >>= λ s. long_number two >>= λ f. long_number three >>= λ l. Some (Moved s f l)) (short_read shard low)
    ∙ ap (λ o. o >>= λ f. long_number three >>= λ l. Some (Moved shard f l)) (long_read first fits)
    ∙ ap (λ o. o >>= λ l. Some (Moved shard first l)) (long_read second enough)

pub payload_read : (r : Reply) → HasPayload r → read_payload (payload_of r) ≡ Some r
unfolding read_payload kind_of error_by_number reply_by_letter
payload_read Stored has = refl
payload_read Unchanged has = refl
payload_read Removed has = refl
payload_read (Appended sequence) has = ap (option_map Appended) (sequence_read sequence has)
payload_read (Found text) has = refl
payload_read (All count) has = ap (option_map All) (long_read count has)
payload_read (Bundle name text) has = ap (option_map (of_both Bundle)) (named_read name text)
payload_read Same has = refl
payload_read (Counts text) has = refl
payload_read (Speaks version) has = ap (option_map Speaks) (version_read version)
payload_read (Refused number detail) has = ap (reply_by_kind number (detail_bytes detail)) has.0 ∙ ap (option_map (Refused number)) (detail_read detail has.1)
payload_read (Moved shard first second) has = moved_read shard first second has.0 has.1 has.2
payload_read (Held shard revision) has = held_read shard revision has.0 has.1
payload_read (Worn shard) has = ap (option_map Worn) (short_read shard has)
payload_read Memory has = refl
payload_read Shut has = refl

-- ---- what a reader tells

pub found_is : (payload : List ℕ) (o : Option ReplyForm) → AreBytes payload → MatchOption o (read_payload payload ≡ None) (λ form. read_payload payload ≡ Some (reply form)) → IfSome o (λ form. (payload ≡ payload_of (reply form)) × HasPayload (reply form))
found_is payload None fit told = tt
found_is payload (Some form) fit told = payload_found payload (reply form) fit told

pub only_is : (payload : List ℕ) (o : Option ReplyForm) → MatchOption o (read_payload payload ≡ None) (λ form. read_payload payload ≡ Some (reply form)) → (wanted : Reply) → HasPayload wanted → payload ≡ payload_of wanted → MatchOption o ⊥ (λ form. reply form ≡ wanted)
only_is payload None told wanted has is = none-some wanted (sym told ∙ ap read_payload is ∙ payload_read wanted has)
only_is payload (Some form) told wanted has is = same_Some (reply form) wanted (sym told ∙ ap read_payload is ∙ payload_read wanted has)
