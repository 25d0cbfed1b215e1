use Rattle.std.proofs.Common.{sym, ap, is_lt, ◌∙◌}
use Rattle.shared_map.proofs.Seats.{seat_same, seat_past}
use Rattle.shared_map.proofs.search.seat_of.Goals as goal

pub returns-then-eq : goal.returns-then-eq
returns-then-eq g c = seat_same c.in-Some.ensures.0 c.index-slots-place.result (sym c.eq.ensures ∙ c.if-eq.true)

pub returns-else-is_lt : goal.returns-else-is_lt
returns-else-is_lt g c =
    seat_past c.in-Some.ensures c.index-slots-place.result c.index-slots-place-2.result (sym c.eq.ensures ∙ c.if-eq.false) (ap is_lt (sym c.cmp.ensures) ∙ sym c.is_lt.ensures ∙ c.if-is_lt.false)
