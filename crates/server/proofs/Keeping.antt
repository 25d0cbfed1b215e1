-- Dumps that are kept: one domain more, and what is not known of a file of the host.
use Rattle.std.proofs.Common.{◌≡◌, ℕ, suc, ◌+◌, ◌<◌, List, [], ◌∷◌, ◌++◌, length, get_or, take, Option, Some, None, sym, ap, ◌∙◌, arith, append-nil}
use Rattle.std.specs.List.{flat_map}
use Rattle.std.proofs.Math.Seq.{take-suc}
use Rattle.std.proofs.lemmas.Grind.{flat_map-append}
use Rattle.frame_front.specs.Dump.{Domains}
use Rattle.map_core.specs.Name.{Name}
use Rattle.spiffe_doc.specs.Authority.{BundleValue}
use Rattle.wire.specs.Answers.{item_frame}
use Rattle.server.specs.Saving.{Keeps, IsUnknown}

-- the frames of one domain more
pub domains_step : (domains : Domains) (i : ℕ) (item : Name × BundleValue) → i < length domains → item ≡ get_or domains i item
    → flat_map item_frame (take (i + 1) domains) ≡ flat_map item_frame (take i domains) ++ item_frame item
domains_step domains i item inside is =
    let next : i + 1 ≡ suc i = omega arith in
    ap (λ (n : ℕ). flat_map item_frame (take n domains)) next
    ∙ (ap (λ (some : Domains). flat_map item_frame some) (take-suc domains i item inside)
    ∙ (flat_map-append item_frame (take i domains) (get_or domains i item ∷ [])
    ∙ ap (λ (t : List ℕ). flat_map item_frame (take i domains) ++ t) (append-nil (item_frame (get_or domains i item)) ∙ ap item_frame (sym is))))

-- whoever keeps it, if nothing is said of what it keeps
pub unknown_kept : {K : Type 0} (P : (List ℕ → Type 0) → Type 0) (keeper : Option K) → P (Keeps (λ k dump. Unit {0}) keeper) → P IsUnknown
unknown_kept P None said = said
unknown_kept P (Some k) said = said
