-- Names of bundles.
use Rattle.std.specs.Prelude.{Option, None, if◌then◌else◌}
use Rattle.map_core.specs.declared.op.Op.{Op}
use Rattle.map_core.specs.Name.{Name}
use Rattle.map_core.specs.Op.{domain_of, is_read}

-- the name of the bundle that an operation asks to change; none if it asks for no change
abbrev pub changed_name : Op → Option Name
changed_name op = if is_read op then None else domain_of op
