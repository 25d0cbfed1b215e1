use Rattle.std.proofs.Common.{◌∙◌, ◌++◌, sym, ap, arith, length, length-append, length-take, List, ℕ, subst, take, append_assoc}
use Rattle.std.proofs.KnownBytes.{Appends-trans}
use Rattle.std.specs.Io.KnownBytes.{Appends}
use Rattle.workers.proofs.limited.Limited.write_replies.Goals as goal

pub loop-self-preserved : goal.loop-self-preserved
loop-self-preserved g c =
    let inv = c.loop-self.invariant in
    let piece = take c.in-Ok.count c.loop-self.live.ready in
    let wrote : Appends (g.E.Stream.held c.loop-self.self.end) (g.E.Stream.held c.write.new.self) piece =
    subst (λ (l : List ℕ). Appends (g.E.Stream.held c.loop-self.self.end) (g.E.Stream.held c.write.new.self) (take c.in-Ok.count l)) c.replies-in-loop-self.ensures.ready c.in-Ok.ensures.bytes in (
      inv.0 ++ piece,
      (
        inv.1.0 ∙ (ap (λ (l : List ℕ). inv.0 ++ l) c.sent.ensures.0 ∙ sym (append_assoc inv.0 piece c.sent.new.self.ready)),
        c.sent.ensures.1 ∙ inv.1.1,
        c.sent.ensures.2 ∙ inv.1.2,
        c.sent.ensures.3 ∙ inv.1.3,
      ),
      Appends-trans (g.E.Stream.held c.args.self.now.end) (g.E.Stream.held c.loop-self.self.end) (g.E.Stream.held c.write.new.self) inv.0 piece inv.2 wrote,
      c.in-Ok.ensures.left ∙ inv.3,
      inv.4,
      c.in-Ok.ensures.same ∙ inv.5,
      omega (arith, c.saturating_add-self.ensures, inv.6, length-append inv.0 piece, length-take c.in-Ok.count c.loop-self.live.ready, c.in-Ok.ensures.bound, ap length c.replies-in-loop-self.ensures.ready),
    )
