use Rattle.std.proofs.Common.{◌∙◌, not, subst}
use Rattle.spiffe_doc.specs.Name.{IsName}
use Rattle.dump_views.proofs.Texts.{name_behind}
use Rattle.dump_views.proofs.map.put_name.Goals as goal

pub returns : goal.returns
returns c =
    name_behind c.args.text.now.items _ _ _ _ _ (not c.args.is_first) c.args.domain.now (subst IsName c.as_str.ensures.value c.as_str.ensures.name) c.in_ok-put_comma.ensures
    c.in_ok-push.ensures.items (c.as_bytes.ensures.value ∙ c.as_str.ensures.value) c.in_ok-extend_from_slice.ensures.items c.in_ok-extend_from_slice-2.ensures.items
