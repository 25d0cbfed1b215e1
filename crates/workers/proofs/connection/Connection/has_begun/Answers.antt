use Rattle.std.proofs.Common.{◌≡◌, subst}
use Rattle.std.specs.Prelude.{true, not}
use Rattle.workers.specs.Connection.{ConnectionView, has_bytes}
use Rattle.workers.proofs.ReadLemmas.{has_begun, has_begun_badly}
use Rattle.workers.proofs.connection.Connection.has_begun.Goals as goal

pub returns-in-Ok : goal.returns-in-Ok
returns-in-Ok g c = subst (λ (v : ConnectionView). not c.in-Ok.is_empty ≡ has_bytes v.live.kept) c.self.view_is (has_begun c.in-Ok.is_empty c.self.inside.live.kept c.in-Ok.ensures)

pub returns-in-Err : goal.returns-in-Err
returns-in-Err g c = subst (λ (v : ConnectionView). true ≡ has_bytes v.live.kept) c.self.view_is (has_begun_badly c.in-Err.field-0 c.self.inside.live.kept c.in-Err.ensures)
