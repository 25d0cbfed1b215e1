use Rattle.std.proofs.Common.{◌++◌, ap, append-nil}
use Rattle.json.specs.Print.{print_from, quoted}
use Rattle.spiffe_doc.proofs.text.with_string.Goals as goal

pub returns : goal.returns
unfolding print_from
returns g c =
    rw (c.into_inner.ensures.items, c.string.ensures.room.0, c.new-writer.ensures.before, c.in_ok-string.ensures.ok, c.new-writer.ensures.tokens)
    (ap (λ l. c.args.text.items ++ l) (append-nil (quoted c.args.string.now)))
