use Rattle.std.proofs.Common.{refl, inl, inr, arith}
use Rattle.bundled.proofs.serving.serve.serve_over.Goals as goal

pub returns-in-Err-clause-run : goal.returns-in-Err-clause-run
returns-in-Err-clause-run g c = inl (c.in-Err.why.fault, inl c.in-Err.ensures.err, (c.tell.ensures.status, refl, c.tell.ensures.tells))

pub returns-in-Err-filled_store-clause-run : goal.returns-in-Err-filled_store-clause-run
returns-in-Err-filled_store-clause-run g c =
    let tell = c.tell-in-Err-filled_store.ensures in inl (c.in-Err-filled_store.why.fault, inr c.in-Err-filled_store.ensures.err, (tell.status, refl, tell.tells))

pub serve_as-requires-clause-workers : goal.serve_as-requires-clause-workers
serve_as-requires-clause-workers g c = λ lifetimes outlive. omega (arith, c.in-Ok-filled_store.ensures.set_up.2.workers, c.in-Ok-filled_store.set_up.passes.ok)

pub serve_as-requires-clause-all : goal.serve_as-requires-clause-all
serve_as-requires-clause-all g c = λ lifetimes outlive. c.in-Ok-filled_store.ensures.set_up.2.all

pub returns-clause-run : goal.returns-clause-run
returns-clause-run g c =
    let made = c.in-Ok-filled_store.ensures.set_up in
    let set_up = c.in-Ok-filled_store.set_up in inr (made.0, set_up.store, set_up.passes.items, made.1, made.2, c.serve_as.ensures.run)
