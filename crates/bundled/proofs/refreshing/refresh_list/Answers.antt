use Rattle.std.proofs.Common.{[]}
use Rattle.wire.proofs.OutputLemmas.{tells_nothing}
use Rattle.bundled.proofs.refreshing.refresh_list.Goals as goal

pub returns-in_err-server-in-Some : goal.returns-in_err-server-in-Some
returns-in_err-server-in-Some g c = ([], tells_nothing _)

pub returns-in_err-refresh_each-in-Some : goal.returns-in_err-refresh_each-in-Some
returns-in_err-refresh_each-in-Some g c = ([], tells_nothing _)

pub returns-in-Some : goal.returns-in-Some
returns-in-Some g c = ([], tells_nothing _)
