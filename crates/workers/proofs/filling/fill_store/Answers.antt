use Rattle.std.proofs.Common.{◌≡◌, sym, ap, subst, refl, ◌∙◌, arith}
use Rattle.std.specs.Prelude.{ℕ, suc, Ok, Some}
use Rattle.wire.specs.Counted.{end_in}
use Rattle.wire.specs.declared.error.FrontError.{FrontError}
use Rattle.shard_store.specs.declared.change.Seen.{Seen}
use Rattle.shard_store.specs.Pass.{StoreView}
use Rattle.shard_store.specs.Seated.{SeatedAnswer}
use Rattle.workers.specs.declared.filling.FillError.TheVariants.{Front, NotStored}
use Rattle.workers.specs.Filling.{IsNotFilled, NotFills, seated_view, stored_replies}
use Rattle.workers.specs.Workers.{IsFurther}
use Rattle.workers.proofs.Fillings.{fills_by, failed_by, not_fills_by, session_by}
use Rattle.workers.proofs.KeptAlong.{served_keeps}
use Rattle.workers.proofs.PassLaws.{StaysSeated, seated_same, seated_then, seated_answer}
use Rattle.workers.proofs.filling.fill_store.Goals as goal

-- the pass stays at its store
stays : (c : goal.After-drop-writer-2) → StaysSeated c.new-seated.result c.serve.new.ask
stays c =
    served_keeps SeatedAnswer StaysSeated seated_same seated_then seated_answer (Ok c.in-Ok.answered) _ _ _ _ _ c.new-seated.result c.serve.new.ask c.in-Ok.ensures.transcript

pub returns-clause-own : goal.returns-clause-own
returns-clause-own c = c.into_pass.ensures.own ∙ ap (λ (s : StoreView). s.id) ((stays c).0 ∙ c.new-seated.ensures.store)

pub returns-clause-further : goal.returns-clause-further
returns-clause-further c =
    subst (λ (x : Seen). IsFurther x c.args.first.seen) (sym c.into_pass.ensures.seen)
    (subst (λ (x : Seen). IsFurther c.serve.new.ask.seen x) c.new-seated.ensures.seen (stays c).1)

pub returns-clause-stored : goal.returns-clause-stored
returns-clause-stored c =
    let store = c.args.store.now in
    let begun : c.new-seated.result ≡ seated_view store c.args.first.seen =
    ap (λ (x : StoreView). seated_view x c.new-seated.result.seen) c.new-seated.ensures.store ∙ ap (seated_view store) c.new-seated.ensures.seen in
    let done : c.serve.new.ask ≡ seated_view store c.into_pass.result.seen =
    ap (λ (x : StoreView). seated_view x c.serve.new.ask.seen) ((stays c).0 ∙ c.new-seated.ensures.store) ∙ ap (seated_view store) (sym c.into_pass.ensures.seen) in
    let written = sym (c.as_slice.ensures.value ∙ ap (λ v. v.items) c.end.ensures) ∙ c.if-not-are_stored.ensures.yes refl in
    fills_by c.args.requests.now store c.args.first.seen c.into_pass.result.seen c.in-Some.count c.in-Ok.answered _ (omega (arith, c.in-Some.ensures))
    (session_by (Ok c.in-Ok.answered) c.args.requests.now (stored_replies c.in-Some.count) store c.args.first.seen c.into_pass.result.seen _ _ _ _ c.new-seated.result c.serve.new.ask
    (ap (λ x. Some x.now) c.new-reader.ensures.end) (ap (λ x. Some x.items) c.new-writer.ensures.end ∙ ap Some c.new.ensures.items) (ap Some written) begun done
    c.in-Ok.ensures.transcript)

pub returns-in-Err-clause-refused : goal.returns-in-Err-clause-refused
returns-in-Err-clause-refused c =
    let store = c.args.store.now in
    let begun : c.new-seated.result ≡ seated_view store c.args.first.seen =
    ap (λ (x : StoreView). seated_view x c.new-seated.result.seen) c.new-seated.ensures.store ∙ ap (seated_view store) c.new-seated.ensures.seen in
    subst (λ (e : FrontError). NotFills c.args.requests.now store c.args.first.seen (Front e)) (sym c.in_memory.ensures)
    (failed_by c.in-Err.error c.args.requests.now (end_in c.serve.new.writer).items store c.args.first.seen _ _ _ _ c.new-seated.result c.serve.new.ask
    (ap (λ x. Some x.now) c.new-reader.ensures.end) (ap (λ x. Some x.items) c.new-writer.ensures.end ∙ ap Some c.new.ensures.items) refl begun c.in-Err.ensures.transcript)

pub returns-then-not-are_stored-clause-refused : goal.returns-then-not-are_stored-clause-refused
returns-then-not-are_stored-clause-refused c =
    let store = c.args.store.now in
    let begun : c.new-seated.result ≡ seated_view store c.args.first.seen =
    ap (λ (x : StoreView). seated_view x c.new-seated.result.seen) c.new-seated.ensures.store ∙ ap (seated_view store) c.new-seated.ensures.seen in
    let all : c.in-Ok.answered ≡ suc c.in-Some.count = omega (arith, c.in-Some.ensures) in
    let replies = (end_in c.serve.new.writer).items in
    let why = subst (λ (n : ℕ). IsNotFilled (Ok n) replies NotStored) (sym all)
    ((λ same. c.if-not-are_stored.ensures.no refl (c.as_slice.ensures.value ∙ (ap (λ v. v.items) c.end.ensures ∙ same))), refl) in
    not_fills_by NotStored (Ok c.in-Ok.answered) c.args.requests.now replies store c.args.first.seen _ _ _ _ c.new-seated.result c.serve.new.ask
    (ap (λ x. Some x.now) c.new-reader.ensures.end) (ap (λ x. Some x.items) c.new-writer.ensures.end ∙ ap Some c.new.ensures.items) refl begun why c.in-Ok.ensures.transcript
