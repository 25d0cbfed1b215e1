use Rattle.std.proofs.Common.{[], ◌∙◌, refl, arith, take, length-take}
use Rattle.workers.proofs.ReadLemmas.{feeds_nothing, nothing_taken}
use Rattle.workers.proofs.limited.Limited.read_piece.Goals as goal

pub returns-in-Err-feed-clause-takes : goal.returns-in-Err-feed-clause-takes
returns-in-Err-feed-clause-takes g c = record {
  piece = [];
  lost = take c.in-Ok.count c.read.new.buf;
  feeds = c.in-Err-feed.ensures.err ∙ feeds_nothing c.args.live.now;
  consumes = c.in-Ok.ensures.bytes.0;
  reads = omega arith;
  one_read = omega (arith, length-take c.in-Ok.count c.read.new.buf, c.in-Ok.ensures.bound, c.in-Ok.count-test);
  until = (c.in-Err-feed.ensures.err, omega (arith, length-take c.in-Ok.count c.read.new.buf, c.in-Ok.ensures.bound, c.in-Ok.count-test));
}

pub returns-else-would_wait-clause-takes : goal.returns-else-would_wait-clause-takes
returns-else-would_wait-clause-takes g c = record {
  piece = [];
  lost = [];
  feeds = feeds_nothing c.args.live.now;
  consumes = nothing_taken _ _ c.in-Err.ensures.bytes;
  reads = omega arith;
  one_read = refl;
  until = (refl, refl, c.in-Err.ensures.may.1 (c.would_wait.ensures.fails c.if-would_wait.false));
}
