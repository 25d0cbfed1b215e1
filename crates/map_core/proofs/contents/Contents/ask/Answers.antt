-- A Set gives the outcome of its row; any other operation gives what `outcome` says.
use Rattle.std.proofs.Common.{Option, sym, ap, ◌∙◌}
use Rattle.map_core.specs.Name.{Name}
use Rattle.map_core.specs.Op.{domain_of}
use Rattle.map_core.specs.Private.Outcome.{left_by}
use Rattle.map_core.specs.Table.{meaning, set}
use Rattle.map_core.proofs.Asks.{row_reply, row_left}
use Rattle.map_core.proofs.contents.Contents.ask.Goals as goal

pub returns-in_ok-settle-in-Set-clause-reply : goal.returns-in_ok-settle-in-Set-clause-reply
unfolding meaning
returns-in_ok-settle-in-Set-clause-reply c =
    c.in_ok-settle-in-Set.ensures.reply
    ∙ row_reply c.args.self.now c.args.op c.in-Set.domain (set c.in-Set.bundle) c.set-outcome.result _ (ap meaning c.in-Set.is) c.at.ensures c.set-outcome.ensures

pub returns-in_ok-settle-in-Set-clause-left : goal.returns-in_ok-settle-in-Set-clause-left
unfolding meaning
returns-in_ok-settle-in-Set-clause-left c =
    let named = ap domain_of c.in-Set.is in
    c.in_ok-settle-in-Set.ensures.left ∙ ap (λ (d : Option Name). left_by c.args.self.now d c.set-outcome.result) (sym named)
    ∙ row_left c.args.self.now c.args.op c.in-Set.domain (set c.in-Set.bundle) c.set-outcome.result _ named (ap meaning c.in-Set.is) c.at.ensures c.set-outcome.ensures
