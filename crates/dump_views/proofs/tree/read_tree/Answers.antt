use Rattle.std.proofs.Common.{sym, ap, ◌∙◌, refl, inr}
use Rattle.json.specs.Json.{document}
use Rattle.json.specs.Value.{value_view}
use Rattle.dump_views.proofs.Maps.{json_some, json_none}
use Rattle.dump_views.proofs.tree.read_tree.Goals as goal

pub returns-in_default : goal.returns-in_default
returns-in_default c = inr (refl, json_none c.args.file.now (λ utf8. absurd (c.in_default.ensures utf8)))

pub returns-in-Ok-parse : goal.returns-in-Ok-parse
returns-in-Ok-parse c = (
  json_some c.args.file.now (value_view c.in-Ok-parse.tree) c.in-Ok.ensures.1 (ap document (sym c.in-Ok.ensures.0) ∙ c.in-Ok-parse.ensures.ok),
  c.in-Ok-parse.ensures.writable,
)
