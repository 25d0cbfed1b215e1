use Rattle.std.proofs.KnownBytes.{Appends-trans}
use Rattle.std.proofs.lemmas.Result.{on_ok_weaker}
use Rattle.server.proofs.log.write_end.Goals as goal

pub returns : goal.returns
returns g c =
    on_ok_weaker c.write_peer.result (λ peer. Appends-trans _ _ _ _ _ (Appends-trans _ _ _ _ _ (rw c.parts_of-number.ensures.number at c.in_ok-write_who.ensures) c.in_ok-write_end_words.ensures) peer)
    (rw c.parts_of-number.ensures.peer at c.write_peer.ensures)
