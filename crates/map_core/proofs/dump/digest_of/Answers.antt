use Rattle.std.proofs.Common.{◌≡◌, [], ◌++◌, length, take, ap, ◌∙◌, subst}
use Rattle.std.proofs.lemmas.List.{take_all}
use Rattle.std.specs.List.{flat_map}
use Rattle.sha2.specs.Sha256.{sha256}
use Rattle.sha2.specs.Hashers.{Holds256}
use Rattle.map_core.specs.Dump.{frame, count_payload, item_frame, digest}
use Rattle.map_core.proofs.Dumps.{count_in_parts}
use Rattle.map_core.proofs.dump.digest_of.Goals as goal

pub pairs-init : goal.pairs-init
pairs-init c =
    let fed = c.update-3.ensures _ (c.update-2.ensures _ (c.update.ensures [] c.new-hasher.ensures)) in
    subst (Holds256 c.update-3.new.self) (count_in_parts (length c.args.pairs.now) c.to_be_bytes.result c.to_be_bytes-2.result c.to_be_bytes.ensures c.to_be_bytes-2.ensures) fed

pub returns : goal.returns
unfolding digest
returns c =
    let all : take c.pairs.domain-index c.args.pairs.now ≡ c.args.pairs.now = take_all _ c.args.pairs.now c.pairs-test.false in
    c.finalize.ensures _ c.pairs.invariant
    ∙ ap (λ items. sha256 (frame (count_payload (length c.args.pairs.now)) ++ flat_map item_frame items)) all
