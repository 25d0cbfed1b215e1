-- A request is read from its line, and from no other.
use Rattle.std.proofs.Common.{◌≡◌, ℕ, List, Option, Some, None, refl, sym, ap, subst, ◌∙◌}
use Rattle.hex.specs.Hex.{encode_lower}
use Rattle.std.specs.Prelude.{codes, bytes_eq, if◌then◌else◌, option_map, IfSome, MatchOption}
use Rattle.std.proofs.lemmas.Option.{same_Some, none-some}
use Rattle.map_core.specs.declared.op.Expect.{Expect}
use Rattle.wire.specs.declared.request.RequestForm.{RequestForm}
use Rattle.wire.specs.RequestForm.{Request, Set, SetIf, Append, Remove, Get, Fetch, FetchUnless, Stats, Speak, request, line_of, HasLine, IsWord, IsNameWord, Spells, SpellsExpect, expect_word, version_word, ◌then◌}
use Rattle.wire.specs.PayloadReading.{◌>>=◌, of_both}
use Rattle.wire.specs.Private.RequestReading.{split_word, split_name, lone_name, expect_of, version_of, digest_of, fetch_unless_of, set_if_of, request_by_verb, request_by_split, read_line}
use Rattle.wire.proofs.Words.{split_found, split_then, split_alone}
use Rattle.wire.proofs.Cases.{bind_cases, map_some, word_cases}
use Rattle.wire.proofs.Names.{name_split_found, name_split_then, name_lone_found, name_lone_alone}
use Rattle.wire.proofs.Fields.{expect_found, expect_read, expect_is_word, spells_itself, version_found, version_read, digest_found, digest_read}

-- ---- requests

abbrev Found : List ℕ → List ℕ → Request → Type 0
Found verb rest r = Spells r (verb then rest) × HasLine r

-- a request that ends with a text
text_found : (verb : List ℕ) (form : List ℕ → List ℕ → Request) (rest : List ℕ) (r : Request) → ((name text : List ℕ) → IsNameWord name → Found verb (name then text) (form name text)) → option_map (of_both form) (split_name rest) ≡ Some r → Found verb rest r
text_found verb form rest r spelled is =
    let m = map_some (of_both form) (split_name rest) r is in
    let n = name_split_found rest m.0 m.1 in
    subst (λ (q : Request). Found verb rest q) m.2 (subst (λ (l : List ℕ). Found verb l (form m.0.0 m.0.1)) (sym n.0) (spelled m.0.0 m.0.1 n.1))

-- a request of a name only
name_found : (verb : List ℕ) (form : List ℕ → Request) (rest : List ℕ) (r : Request) → ((name : List ℕ) → IsNameWord name → Found verb name (form name)) → option_map form (lone_name rest) ≡ Some r → Found verb rest r
name_found verb form rest r spelled is =
    let m = map_some form (lone_name rest) r is in
    let n = name_lone_found rest m.0 m.1 in
    subst (λ (q : Request). Found verb rest q) m.2 (subst (λ (l : List ℕ). Found verb l (form m.0)) (sym n.0) (spelled m.0 n.1))

set_if_found : (rest : List ℕ) (r : Request) → set_if_of rest ≡ Some r → Found (codes "setif") rest r
unfolding set_if_of
set_if_found rest r is =
    bind_cases (split_name rest) _ r is (λ parts named more.
    bind_cases (split_word parts.1) _ r more (λ words split more.
    bind_cases (expect_of words.0) _ r more (λ expect told is.
    let s = name_split_found rest parts named in
    let t = split_found parts.1 words split in
    let w = expect_found words.0 expect told in
    subst (λ (q : Request). Found (codes "setif") rest q) (same_Some (SetIf parts.0 expect words.1) r is) ((words.0, w.0, (λ i. codes "setif" then s.0 i) ∙ (λ i. codes "setif" then parts.0 then t.0 i)), (s.1, w.1)))))

fetch_unless_found : (rest : List ℕ) (r : Request) → fetch_unless_of rest ≡ Some r → Found (codes "fetch") rest r
unfolding fetch_unless_of
fetch_unless_found rest r is =
    bind_cases (split_word rest) _ r is (λ parts split more.
    word_cases parts.0 (codes "unless") _ _ r more (λ word is.
    let m = map_some FetchUnless (digest_of parts.1) r is in
    let s = split_found rest parts split in
    let d = digest_found parts.1 m.0 m.1 in
    subst (λ (q : Request). Found (codes "fetch") rest q) m.2 ((λ i. codes "fetch" then s.0 i) ∙ (λ i. codes "fetch" then word i then d.0 i), d.1)) (λ is.
    absurd (none-some r is)))

speak_found : (rest : List ℕ) (r : Request) → option_map Speak (version_of rest) ≡ Some r → Found (codes "version") rest r
speak_found rest r is =
    let m = map_some Speak (version_of rest) r is in
    let word = version_found rest m.0 m.1 in
    subst (λ (q : Request). Found (codes "version") rest q) m.2 (λ i. codes "version" then word i, tt)

by_verb_found : (verb rest : List ℕ) (r : Request) → request_by_verb verb rest ≡ Some r → Found verb rest r
unfolding request_by_verb
by_verb_found verb rest r is =
    word_cases verb (codes "set") _ _ r is (λ v is. at v (text_found (codes "set") Set rest r (λ name text word. (refl, word)) is)) (λ is.
    word_cases verb (codes "get") _ _ r is (λ v is. at v (name_found (codes "get") Get rest r (λ name word. (refl, word)) is)) (λ is.
    word_cases verb (codes "append") _ _ r is (λ v is. at v (text_found (codes "append") Append rest r (λ name text word. (refl, word)) is)) (λ is.
    word_cases verb (codes "remove") _ _ r is (λ v is. at v (name_found (codes "remove") Remove rest r (λ name word. (refl, word)) is)) (λ is.
    word_cases verb (codes "setif") _ _ r is (λ v is. at v (set_if_found rest r is)) (λ is.
    word_cases verb (codes "fetch") _ _ r is (λ v is. at v (fetch_unless_found rest r is)) (λ is.
    word_cases verb (codes "version") _ _ r is (λ v is. at v (speak_found rest r is)) (λ is.
    absurd (none-some r is))))))))
  where
    at : {known : List ℕ} → verb ≡ known → Found known rest r → Found verb rest r
    at same found = subst (λ (v : List ℕ). Found v rest r) (sym same) found

pub line_found : (line : List ℕ) (r : Request) → read_line line ≡ Some r → Spells r line × HasLine r
unfolding read_line
line_found line r is = by (split_word line) refl is
  where
    by : (o : Option (List ℕ × List ℕ)) → split_word line ≡ o → request_by_split line o ≡ Some r → Spells r line × HasLine r
    by None e h =
        word_cases line (codes "fetch") _ _ r h (λ l is. subst (λ (q : Request). Spells q line × HasLine q) (same_Some Fetch r is) (l, tt)) (λ is.
        word_cases line (codes "stats") _ _ r is (λ l is. subst (λ (q : Request). Spells q line × HasLine q) (same_Some Stats r is) (l, tt)) (λ is.
        absurd (none-some r is)))
    by (Some parts) e h =
        let verb = by_verb_found parts.0 parts.1 r h in
        (subst (Spells r) (sym (split_found line parts e).0) verb.0, verb.1)

-- ---- and back

-- the request of a verb that is split off
verb_read : (verb rest : List ℕ) (r : Request) → IsWord verb → request_by_verb verb rest ≡ Some r → read_line (verb then rest) ≡ Some r
unfolding read_line
verb_read verb rest r word is = ap (request_by_split (verb then rest)) (split_then verb rest word) ∙ is

set_if_read : (name : List ℕ) (expect : Expect) (word text : List ℕ) → SpellsExpect expect word → HasLine (SetIf name expect text)
    → read_line (codes "setif" then name then word then text) ≡ Some (SetIf name expect text)
unfolding request_by_verb set_if_of
set_if_read name expect word text spells fits = verb_read (codes "setif") (name then word then text) (SetIf name expect text) refl
    (ap (λ o. o >>= λ parts. split_word parts.1 >>= λ more. expect_of more.0 >>= λ wanted. Some (SetIf parts.0 wanted more.1)) (name_split_then name (word then text) fits.0)
    ∙ ap (λ o. o >>= λ more. expect_of more.0 >>= λ wanted. Some (SetIf name wanted more.1)) (split_then word text (expect_is_word expect word spells fits.1))
    ∙ ap (λ o. o >>= λ wanted. Some (SetIf name wanted text)) (expect_read expect word spells fits.1))

own_line_read : (r : Request) → HasLine r → read_line (line_of r) ≡ Some r
unfolding read_line request_by_verb fetch_unless_of
own_line_read (Set name text) word = verb_read (codes "set") (name then text) (Set name text) refl (ap (option_map (of_both Set)) (name_split_then name text word))
own_line_read (SetIf name expect text) fits = set_if_read name expect (expect_word expect) text (spells_itself expect) fits
own_line_read (Append name text) word = verb_read (codes "append") (name then text) (Append name text) refl (ap (option_map (of_both Append)) (name_split_then name text word))
own_line_read (Remove name) word = verb_read (codes "remove") name (Remove name) refl (ap (option_map Remove) (name_lone_alone name word))
own_line_read (Get name) word = verb_read (codes "get") name (Get name) refl (ap (option_map Get) (name_lone_alone name word))
own_line_read Fetch nothing = ap (request_by_split (codes "fetch")) (split_alone (codes "fetch") refl)
own_line_read (FetchUnless known) digest = verb_read (codes "fetch") (codes "unless" then encode_lower known) (FetchUnless known) refl
    (ap (λ o. o >>= λ parts. if bytes_eq parts.0 (codes "unless") then option_map FetchUnless (digest_of parts.1) else None) (split_then (codes "unless") (encode_lower known) refl)
    ∙ ap (option_map FetchUnless) (digest_read known digest))
own_line_read Stats nothing = ap (request_by_split (codes "stats")) (split_alone (codes "stats") refl)
own_line_read (Speak version) nothing = verb_read (codes "version") (version_word version) (Speak version) refl (ap (option_map Speak) (version_read version))

pub line_read : (r : Request) (line : List ℕ) → Spells r line → HasLine r → read_line line ≡ Some r
line_read (SetIf name expect text) line spells fits = ap read_line spells.2 ∙ set_if_read name expect spells.0 text spells.1 fits
line_read (Set name text) line is has = ap read_line is ∙ own_line_read (Set name text) has
line_read (Append name text) line is has = ap read_line is ∙ own_line_read (Append name text) has
line_read (Remove name) line is has = ap read_line is ∙ own_line_read (Remove name) has
line_read (Get name) line is has = ap read_line is ∙ own_line_read (Get name) has
line_read Fetch line is has = ap read_line is ∙ own_line_read Fetch has
line_read (FetchUnless known) line is has = ap read_line is ∙ own_line_read (FetchUnless known) has
line_read Stats line is has = ap read_line is ∙ own_line_read Stats has
line_read (Speak version) line is has = ap read_line is ∙ own_line_read (Speak version) has

-- ---- what a reader tells

pub found_is : (line : List ℕ) (o : Option RequestForm) → MatchOption o (read_line line ≡ None) (λ form. read_line line ≡ Some (request form)) → IfSome o (λ form. Spells (request form) line × HasLine (request form))
found_is line None told = tt
found_is line (Some form) told = line_found line (request form) told

pub only_is : (line : List ℕ) (o : Option RequestForm) → MatchOption o (read_line line ≡ None) (λ form. read_line line ≡ Some (request form)) → (wanted : Request) → HasLine wanted → Spells wanted line → MatchOption o ⊥ (λ form. request form ≡ wanted)
only_is line None told wanted has is = none-some wanted (sym told ∙ line_read wanted line is has)
only_is line (Some form) told wanted has is = same_Some (request form) wanted (sym told ∙ line_read wanted line is has)
