use Rattle.std.proofs.Common.{Ok, inl, sym, subst}
use Rattle.wire.specs.Frame.{IsUnfinished}
use Rattle.wire.specs.Decoder.{BeginsWithFrame}
use Rattle.frame_front.specs.Live.{FinishesAt}
use Rattle.wire.proofs.FrameLemmas.{none_at_end}
use Rattle.workers.proofs.connection.Connection.finish.Goals as goal

-- what is unfinished begins with no whole frame
pub unreachable-requires : goal.unreachable-requires
unreachable-requires g c =
    let begins : BeginsWithFrame c.self.inside.live.kept = subst (λ b. FinishesAt (Ok b) c.self.inside.live.kept) c.in-Ok-false.field-0-test c.in-Ok-false.ensures in
    none_at_end begins.0 begins.1 c.self.inside.live.kept begins.2 begins.3 (inl (subst (λ v. IsUnfinished v.live.kept) (sym c.self.view_is) c.requires.unfinished))
