use Rattle.std.proofs.Common.{sym, ◌∙◌}
use Rattle.shared_map.proofs.Places.{opened}
use Rattle.shared_map.proofs.Seats.{seat_same}
use Rattle.shared_map.proofs.search.is_at.Goals as goal

pub returns-then-place-slots : goal.returns-then-place-slots
returns-then-place-slots g c = λ same. seat_same (opened c.args.slots.now c.args.place c.if-place-slots.true).around c.index-slots-place.result (sym c.eq.ensures ∙ same)
