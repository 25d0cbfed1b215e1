-- What a log is told of changes that were refused by 31 or 36, or at a port for reads only.
use Rattle.std.specs.Prelude.{Option, Some, None, Result, Ok, option_map}
use Rattle.map_core.specs.declared.reply.Reply.{Reply}
use Rattle.map_core.specs.declared.reply.Reply.TheVariants.{Refused}
use Rattle.map_core.specs.declared.reply.MapRefusal.{MapRefusal}
use Rattle.map_core.specs.declared.reply.MapRefusal.TheVariants.{Stale, NotExpected}
use Rattle.map_core.specs.declared.reply.AskError.{AskError}
use Rattle.map_core.specs.Name.{Name}
use Rattle.workers.specs.declared.log.RefusedChange.{RefusedChange}
use Rattle.workers.specs.declared.log.ChangeRefusal.{ChangeRefusal}
use Rattle.workers.specs.declared.log.ChangeRefusal.TheVariants.{Map, ReadOnly}

-- the name, wherever it lies, and why its change was refused
abbrev pub refused_view : RefusedChange → Name × ChangeRefusal
refused_view refused = (refused.domain.now, refused.refusal)

-- 31 or 36, of a name that was to be changed; none if there is no such name, or if the answer is another one
abbrev pub refused_told : Option Name → Result Reply AskError → Option (Name × ChangeRefusal)
refused_told (Some d) (Ok (Refused (Stale sequence))) = Some (d, Map (Stale sequence))
refused_told (Some d) (Ok (Refused (NotExpected found))) = Some (d, Map (NotExpected found))
refused_told domain answer = None

-- any change that comes to a port for reads only, of a name that was to be changed
abbrev pub shut_told : Option Name → Option (Name × ChangeRefusal)
shut_told domain = option_map (λ d. (d, ReadOnly)) domain
