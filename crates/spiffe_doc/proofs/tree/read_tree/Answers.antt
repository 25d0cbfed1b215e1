use Rattle.std.proofs.Common.{◌≡◌, Some, refl, sym, ap, ◌∙◌, inr}
use Rattle.json.specs.Lex.{tokens}
use Rattle.json.specs.Json.{value}
use Rattle.json.specs.Value.{value_view}
use Rattle.spiffe_doc.proofs.ReadLemmas.{json_tree-some, json_tree-none, read-in_range, read-out_of_range, read-more, no_token, one_token}
use Rattle.spiffe_doc.proofs.tree.read_tree.Goals as goal

pub returns-in_default : goal.returns-in_default
returns-in_default g c = inr (refl, json_tree-none c.args.bytes.now (λ utf8. absurd (c.in_default.ensures utf8)))

pub returns-then-is_some : goal.returns-then-is_some
returns-then-is_some g c =
    let parsed : value 127 (tokens c.args.bytes.now) ≡ Some (value_view c.in-Ok-read.tree, c.read.new.reader) =
    ap (value 127) (sym (c.in_ok-reader.ensures.ok ∙ ap tokens c.in-Ok.ensures.0)) ∙ c.in-Ok-read.ensures.ok in
    let more = one_token c.next.result _ _ c.next.ensures.value (sym c.is_some.ensures ∙ c.if-is_some.true) in
    inr (refl, json_tree-none c.args.bytes.now (λ utf8. read-more c.args.bytes.now _ _ _ more.0 parsed more.1))

pub returns-then-not-is_in_range : goal.returns-then-not-is_in_range
returns-then-not-is_in_range g c =
    let parsed : value 127 (tokens c.args.bytes.now) ≡ Some (value_view c.in-Ok-read.tree, c.read.new.reader) =
    ap (value 127) (sym (c.in_ok-reader.ensures.ok ∙ ap tokens c.in-Ok.ensures.0)) ∙ c.in-Ok-read.ensures.ok in
    let last = no_token c.next.result _ _ c.next.ensures.value (sym c.is_some.ensures ∙ c.if-is_some.false) in
    inr (refl, json_tree-none c.args.bytes.now (λ utf8. read-out_of_range c.args.bytes.now _ _ parsed last (sym c.is_in_range.ensures ∙ c.if-not-is_in_range.true)))

pub returns : goal.returns
returns g c =
    let parsed : value 127 (tokens c.args.bytes.now) ≡ Some (value_view c.in-Ok-read.tree, c.read.new.reader) =
    ap (value 127) (sym (c.in_ok-reader.ensures.ok ∙ ap tokens c.in-Ok.ensures.0)) ∙ c.in-Ok-read.ensures.ok in
    let last = no_token c.next.result _ _ c.next.ensures.value (sym c.is_some.ensures ∙ c.if-is_some.false) in
    json_tree-some c.args.bytes.now _ c.in-Ok.ensures.1 (read-in_range c.args.bytes.now _ _ parsed last (sym c.is_in_range.ensures ∙ c.if-not-is_in_range.false))
