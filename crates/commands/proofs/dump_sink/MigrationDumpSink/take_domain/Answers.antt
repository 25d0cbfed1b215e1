use Rattle.std.proofs.Common.{◌≡◌, ◌∷◌, ◌++◌, [], ℕ, List, ap, sym, ◌∙◌}
use Rattle.spiffe_doc.specs.Authority.{BundleValue}
use Rattle.map_core.specs.Name.{Name}
use Rattle.wire.specs.Frame.{frame, stream_of}
use Rattle.frame_front.specs.Dump.{Domains, request_for, requests_for}
use Rattle.frame_front.proofs.DomainLists.{map-one, stream-more}
use Rattle.commands.proofs.dump_sink.MigrationDumpSink.take_domain.Goals as goal

one_more : (items : Domains) (item : Name × BundleValue) (old new : List ℕ) → new ≡ old ++ frame (request_for item)
    → old ≡ stream_of (requests_for items) [] → new ≡ stream_of (requests_for (items ++ item ∷ [])) []
one_more items item old new added so_far =
    added ∙ ap (λ s. s ++ frame (request_for item)) so_far ∙ sym (stream-more (requests_for items) (request_for item))
    ∙ sym (ap (λ rs. stream_of ((86 ∷ 2 ∷ []) ∷ rs) []) (map-one items item))

pub returns-clause-came : goal.returns-clause-came
returns-clause-came c = λ came items so_far. one_more items (c.args.domain, c.args.bundle) c.args.self.now c.add.new.self c.in_ok-add.ensures.ok so_far
