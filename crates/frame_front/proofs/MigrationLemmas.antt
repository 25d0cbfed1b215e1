-- A migrated dump is stored.
use Rattle.std.proofs.Common.{◌≡◌, ℕ, ◌+◌, List, [], ◌∷◌, ◌++◌, length, map, append-nil, append_assoc, length-append, arith, refl, sym, ap, ◌∙◌, inl, subst, Result, Ok, Err, Some, None, Bool, true, false, cond}
use Rattle.std.specs.Prelude.{Option}
use Rattle.std.specs.List.{AllByRecursion}
use Rattle.std.specs.FinMap as finite
use Rattle.std.specs.FinMap.{find, slice_cmp-IsAntisymmetric, nat_cmp-IsAntisymmetric, get-from_entries, from_entries_push, entries-insert, len-entries, len-empty}
use Rattle.std.specs.Ordering.{is_eq, ordering_reverse}
use Rattle.std.specs.Cmp.Lexicographic.{nat_list_cmp_total}
use Rattle.std.specs.declared.cmp.Ordering.TheVariants.{Less, Greater}
use Rattle.spiffe_doc.specs.Authority.{BundleValue}
use Rattle.spiffe_doc.specs.Bundle.{IsBundle}
use Rattle.spiffe_doc.specs.Name.{IsName, trust_domain}
use Rattle.spiffe_doc.specs.Text.{text_of}
use Rattle.spiffe_doc.specs.Document.{document}
use Rattle.spiffe_doc.specs.declared.error.DocError.{DocError}
use Rattle.spiffe_doc.specs.declared.name.NameError.{NameError}
use Rattle.spiffe_doc.proofs.NameLemmas.{trust_domain-IsName}
use Rattle.spiffe_doc.proofs.DocumentLaws.{IsBundle-document}
use Rattle.map_core.specs.declared.held.Holding.{Holding}
use Rattle.map_core.specs.declared.held.Holding.TheVariants.{Published}
use Rattle.map_core.specs.declared.op.Op.TheVariants.{SetIf}
use Rattle.map_core.specs.declared.op.Expect.TheVariants.{Absent}
use Rattle.map_core.specs.declared.reply.Reply.TheVariants.{Stored}
use Rattle.map_core.specs.Name.{Name, name_cmp}
use Rattle.map_core.specs.Table.{meaning, set_if}
use Rattle.map_core.specs.PlainMap.{PlainMap, put, ask, bundles, bundles_among}
use Rattle.wire.specs.declared.version.Version.TheVariants.{One, Two}
use Rattle.wire.specs.declared.judge.Judged.TheVariants.{Ask, SetVersion}
use Rattle.wire.specs.declared.refusal.Refusal.{Refusal}
use Rattle.wire.specs.Frame.{IsPayload, HasFrames, stream_of}
use Rattle.wire.specs.Refusal.{name_refusal, document_refusal}
use Rattle.wire.specs.RequestForm as form
use Rattle.wire.specs.PayloadReading.{split_named}
use Rattle.wire.specs.Judge.{◌>>=◌, name_or_refusal, parse_name, parse_bundle, named_bundle, judged, request_of}
use Rattle.wire.specs.Judge as requests
use Rattle.frame_front.specs.Terms.{for_all}
use Rattle.wire.specs.Answers.{reply_frames, version_frame}
use Rattle.frame_front.specs.PlainSession.{text_for, state_for, answers_to, state_after}
use Rattle.frame_front.specs.Dump.{Domains, ReadsItems, IsDump, AreValid, request_for, requests_for, held_of, map_of}
use Rattle.wire.specs.Items.{unless_refused, item_in, item_of}
use Rattle.wire.proofs.JudgeLemmas.{request_read}
use Rattle.wire.proofs.Readings.{set_if_asks}
use Rattle.map_core.specs.Laws.{IsAfter, Ascends}
use Rattle.frame_front.specs.Private.Refusals.{last_of}
use Rattle.frame_front.proofs.DomainLists.{last_of-one, Ascends-one, some_item, none_item}

-- ---- a domain that was read is valid

same_ok : {A : Type 0} (x y : A) → (let r : Result A Refusal = Ok x in let s : Result A Refusal = Ok y in r ≡ s) → x ≡ y
same_ok x y same = cc

no_ok : {A : Type 0} (refusal : Refusal) (y : A) → (let r : Result A Refusal = Err refusal in let s : Result A Refusal = Ok y in r ≡ s) → ⊥
no_ok refusal y same = cc

named_name : (bytes name : List ℕ) (t : Result Name NameError) → trust_domain bytes ≡ t → name_or_refusal t ≡ Ok name → IsName name
named_name bytes name (Ok n) is same =
    let read = trust_domain-IsName bytes n is in subst IsName (sym read.0 ∙ same_ok n name same) read.1
named_name bytes name (Err e) is same = absurd (no_ok (name_refusal e) name same)

name_read : (bytes name : List ℕ) → parse_name bytes ≡ Ok name → IsName name
unfolding parse_name
name_read bytes name same = named_name bytes name (trust_domain bytes) refl same

published_bundle : (bytes : List ℕ) (bundle : BundleValue) (d : Result BundleValue DocError) → document bytes ≡ d → requests.bundle_or_refusal d ≡ Ok bundle → IsBundle bundle
published_bundle bytes bundle (Ok b) is same = subst IsBundle (same_ok b bundle same) (IsBundle-document bytes b is)
published_bundle bytes bundle (Err e) is same = absurd (no_ok (document_refusal e) bundle same)

bundle_read : (bytes : List ℕ) (bundle : BundleValue) → parse_bundle bytes ≡ Ok bundle → IsBundle bundle
unfolding parse_bundle
bundle_read bytes bundle same = published_bundle bytes bundle (document bytes) refl same

-- a name and a document that are read are valid
named_read : (name text : List ℕ) (item : Name × BundleValue) → named_bundle name text ≡ Ok item → IsName item.0 × IsBundle item.1
unfolding named_bundle
named_read name text item same = of_name (parse_name name) refl same
  where
    of_bundle : (domain : Name) (b : Result BundleValue Refusal) → parse_bundle text ≡ b → (b >>= (λ bundle. Ok (domain, bundle))) ≡ Ok item
        → (domain ≡ item.0) × IsBundle item.1
    of_bundle domain (Err refusal) is same = absurd (no_ok refusal item same)
    of_bundle domain (Ok bundle) is same =
        let read = same_ok (domain, bundle) item same in
        (ap (λ (i : Name × BundleValue). i.0) read, subst IsBundle (ap (λ (i : Name × BundleValue). i.1) read) (bundle_read text bundle is))

    of_name : (n : Result Name Refusal) → parse_name name ≡ n → (n >>= (λ domain. parse_bundle text >>= (λ bundle. Ok (domain, bundle)))) ≡ Ok item
        → IsName item.0 × IsBundle item.1
    of_name (Err refusal) is same = absurd (no_ok refusal item same)
    of_name (Ok domain) is same =
        let parts = of_bundle domain (parse_bundle text) refl same in (subst IsName parts.0 (name_read name domain is), parts.1)

item_read : (read : Result (Name × BundleValue) Refusal) (item : Name × BundleValue) → unless_refused read ≡ Some item → read ≡ Ok item
item_read (Ok i) item same = ap Ok (some_item i item same)
item_read (Err refusal) item same = absurd (none_item item same)

item_valid : (b : Bool) (parts : Option (List ℕ × List ℕ)) (item : Name × BundleValue) → cond b (item_in parts) None ≡ Some item → IsName item.0 × IsBundle item.1
item_valid true None item same = absurd (none_item item same)
item_valid true (Some parts) item same = named_read parts.0 parts.1 item (item_read (named_bundle parts.0 parts.1) item same)
item_valid false parts item same = absurd (none_item item same)

valid_item : (payload : List ℕ) (item : Name × BundleValue) → item_of payload ≡ Some item → IsName item.0 × IsBundle item.1
unfolding item_of
valid_item [] item reads = absurd (none_item item reads)
valid_item (code ∷ bytes) item reads = item_valid _ (split_named bytes) item reads

valid_items : (payloads : List (List ℕ)) (items : Domains) → ReadsItems payloads items → AreValid items
valid_items [] [] reads = tt
valid_items [] (i ∷ is) reads = absurd reads
valid_items (p ∷ ps) [] reads = absurd reads
valid_items (p ∷ ps) (i ∷ is) reads = (valid_item p i reads.0, valid_items ps is reads.1)

-- ---- its request is read

set_read : (item : Name × BundleValue) → IsName item.0 → IsBundle item.1 → request_of Two (request_for item) ≡ Ok (Ask (SetIf item.0 Absent item.1))
set_read item is valid =
    request_read Two (form.SetIf item.0 Absent (text_of item.1)) (omega (arith, is.short), tt) ∙ set_if_asks Two item.0 Absent item.1 (omega arith) is valid

-- ---- it is stored, and stands last

-- a name after the last one is after each
after_each : (k d : Name) (m : Domains) → Ascends (Some k) m → IsAfter (last_of (Some k) m) d → name_cmp k d ≡ Less
after_each k d [] ascending after = after
after_each k d (e ∷ es) ascending after = nat_list_cmp_total.trans k e.0 d ascending.0 (after_each e.0 d es ascending.1 after)

absent : (d : Name) (last : Option Name) (m : Domains) → Ascends last m → IsAfter (last_of last m) d → find name_cmp d (map held_of m) ≡ None
absent d last [] ascending after = refl
absent d last (e ∷ es) ascending after =
    let greater : name_cmp d e.0 ≡ Greater = nat_list_cmp_total.antisymm d e.0 ∙ ap ordering_reverse (after_each e.0 d es ascending.1 after) in
    ap (λ o. cond (is_eq o) (Some (Published e.1)) (find name_cmp d (map held_of es))) greater ∙ absent d (Some e.0) es ascending.1 after

map-one : (m : Domains) (i : Name × BundleValue) → map held_of (m ++ i ∷ []) ≡ map held_of m ++ held_of i ∷ []
map-one [] i = refl
map-one (j ∷ m) i = ap (λ rest. held_of j ∷ rest) (map-one m i)

module _ (item : Name × BundleValue) (m : Domains) (ascending : Ascends None m) (after : IsAfter (last_of None m) item.0) where
  not_there : finite.get (map_of m) item.0 ≡ None
  not_there = get-from_entries nat_list_cmp_total (map held_of m) item.0 ∙ absent item.0 None m ascending after

  one_more : map_of (m ++ item ∷ []) ≡ finite.insert (map_of m) item.0 (Published item.1)
  one_more = ap finite.from_entries (map-one m item)
      ∙ from_entries_push nat_list_cmp_total (slice_cmp-IsAntisymmetric nat_cmp-IsAntisymmetric) (map held_of m) item.0 (Published item.1) (absent item.0 None m ascending after)

  stored_reply : (ask (map_of m) (SetIf item.0 Absent item.1)).reply ≡ Stored
  unfolding ask meaning
  stored_reply = ap (λ held. (set_if Absent item.1 held).reply) not_there

  stored_map : (ask (map_of m) (SetIf item.0 Absent item.1)).map ≡ map_of (m ++ item ∷ [])
  unfolding ask meaning
  stored_map = ap (λ held. put (map_of m) item.0 (set_if Absent item.1 held).held) not_there ∙ sym one_more

all_stored : (items m : Domains) → AreValid items → Ascends None m → Ascends (last_of None m) items
    → (answers_to (for_all Two, map_of m) (map request_for items) ≡ map (λ item. reply_frames Stored) items)
    × (state_after (for_all Two, map_of m) (map request_for items) ≡ (for_all Two, map_of (m ++ items)))
all_stored [] m valid below ascending = (refl, ap (λ n. (for_all Two, map_of n)) (sym (append-nil m)))
all_stored (item ∷ items) m valid below ascending =
    let read = set_read item valid.0.0 valid.0.1 in
    let text : text_for (for_all Two, map_of m) (request_of Two (request_for item)) ≡ reply_frames Stored = ap (text_for (for_all Two, map_of m)) read ∙ ap reply_frames (stored_reply item m below ascending.0) in
    let state : state_for (for_all Two, map_of m) (request_of Two (request_for item)) ≡ (for_all Two, map_of (m ++ item ∷ [])) = ap (state_for (for_all Two, map_of m)) read ∙ ap (λ n. (for_all Two, n)) (stored_map item m below ascending.0) in
    let others = all_stored items (m ++ item ∷ []) valid.1 (Ascends-one None m item below ascending.0) (subst (λ l. Ascends l items) (sym (last_of-one None m item)) ascending.1) in (
      ap (λ t. t ∷ answers_to (state_for (for_all Two, map_of m) (request_of Two (request_for item))) (map request_for items)) text
          ∙ ap (λ s. reply_frames Stored ∷ answers_to s (map request_for items)) state ∙ ap (λ ts. reply_frames Stored ∷ ts) others.0,
      ap (λ s. state_after s (map request_for items)) state ∙ others.1 ∙ ap (λ n. (for_all Two, map_of n)) (append_assoc m (item ∷ []) items),
    )

-- ---- the map has these domains, in their order

empty_list : {A : Type 0} (es : List A) → length es ≡ 0 → es ≡ []
empty_list [] none = refl
empty_list (e ∷ es) none = absurd (omega (arith, none))

put_first : (k : Name) (v : Holding) (e : Name × Holding) (es : List (Name × Holding)) → name_cmp k e.0 ≡ Less → finite.put name_cmp k v (e ∷ es) ≡ (k, v) ∷ e ∷ es
put_first k v e es less = rw less refl

no_entries : finite.entries (let m : PlainMap = finite.empty in m) ≡ []
no_entries = empty_list _ (sym (len-entries (let m : PlainMap = finite.empty in m)) ∙ len-empty name_cmp Holding)

kept_order : (last : Option Name) (items : Domains) → Ascends last items → finite.entries (map_of items) ≡ map held_of items
kept_order last [] ascending = no_entries
kept_order last (item ∷ []) ascending = entries-insert nat_list_cmp_total finite.empty item.0 (Published item.1) ∙ ap (finite.put name_cmp item.0 (Published item.1)) no_entries
kept_order last (item ∷ next ∷ items) ascending =
    entries-insert nat_list_cmp_total (map_of (next ∷ items)) item.0 (Published item.1)
    ∙ ap (finite.put name_cmp item.0 (Published item.1)) (kept_order (Some item.0) (next ∷ items) ascending.1)
    ∙ put_first item.0 (Published item.1) (held_of next) (map held_of items) ascending.1.0

published_all : (items : Domains) → bundles_among (map held_of items) ≡ items
published_all [] = refl
published_all (item ∷ items) = ap (λ rest. item ∷ rest) (published_all items)

are_payloads : (items : Domains) → AreValid items → AllByRecursion IsPayload (map request_for items)
are_payloads [] valid = tt
are_payloads (item ∷ items) valid =
    let size : length (request_for item) ≡ 3 + length item.0 + length (text_of item.1) = omega (arith, length-append item.0 (0 ∷ text_of item.1)) in
    ((omega (arith, size), omega (arith, size, valid.0.0.short, valid.0.1.short)), are_payloads items valid.1)

version_read : request_of One (86 ∷ 2 ∷ []) ≡ Ok (SetVersion Two)
unfolding judged
version_read = request_read One (form.Speak Two) tt

pub migration : (dump : List ℕ) (items : Domains) → IsDump dump items
    → AreValid items
    × HasFrames (stream_of (requests_for items) []) (requests_for items) []
    × (answers_to (for_all One, finite.empty) (requests_for items) ≡ version_frame Two ∷ map (λ item. reply_frames Stored) items)
    × (state_after (for_all One, finite.empty) (requests_for items) ≡ (for_all Two, map_of items))
    × (bundles (map_of items) ≡ items)
migration dump items is =
    let valid = valid_items is.payloads items is.read in
    let stored = all_stored items [] valid tt is.ascending in (
      valid,
      record {
        whole = refl;
        each = ((omega arith, omega arith), are_payloads items valid);
        ends = inl (record { good = λ h. absurd (omega (arith, h)); short = λ h. absurd (omega (arith, h)) });
      },
      ap (λ r. text_for (for_all One, finite.empty) r ∷ answers_to (state_for (for_all One, finite.empty) r) (map request_for items)) version_read
          ∙ ap (λ ts. version_frame Two ∷ ts) stored.0,
      ap (λ r. state_after (state_for (for_all One, finite.empty) r) (map request_for items)) version_read ∙ stored.1,
      ap bundles_among (kept_order None items is.ascending) ∙ published_all items,
    )
