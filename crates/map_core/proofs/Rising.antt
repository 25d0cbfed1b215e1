-- The names of the bundles of a map rise strictly.
use Rattle.std.proofs.Common.{◌≡◌, T, List, [], ◌∷◌, Option, Some, None, sym, subst, ◌∙◌, arith}
use Rattle.std.specs.Ordering.{is_lt}
use Rattle.std.specs.declared.cmp.Ordering.{Ordering}
use Rattle.std.specs.declared.cmp.Ordering.TheVariants.{Less}
use Rattle.std.specs.FinMap.Entries.{below_all}
use Rattle.std.specs.FinMap.{is_sorted}
use Rattle.std.specs.FinMap as finite
use Rattle.spiffe_doc.specs.Authority.{BundleValue}
use Rattle.map_core.specs.declared.held.Holding.{Holding}
use Rattle.map_core.specs.declared.held.Holding.TheVariants.{Published, Mark}
use Rattle.map_core.specs.declared.op.Op.TheVariants.{FetchAll}
use Rattle.map_core.specs.declared.reply.Reply.TheVariants.{All}
use Rattle.map_core.specs.Name.{Name, name_cmp}
use Rattle.map_core.specs.PlainMap.{PlainMap, bundles_among, bundles, ask}
use Rattle.map_core.specs.Laws.{IsAfter, Ascends}
use Rattle.map_core.proofs.Asks.{fetch_all}
use Rattle.map_core.proofs.Entries.{first, second}

less : (o : Ordering) → T (is_lt o) → o ≡ Less
less o p = grind arith

-- the name of the last one, if any, is below all names of the entries
abbrev IsBelow : Option Name → List (Name × Holding) → Type 0
IsBelow None es = Unit {0}
IsBelow (Some last) es = T (below_all name_cmp last es)

after_last : (last : Option Name) (e : Name × Holding) (es : List (Name × Holding)) → IsBelow last (e ∷ es) → IsAfter last e.0
after_last None e es h = tt
after_last (Some last) e es h = less (name_cmp last e.0) (first _ _ h)

below_rest : (last : Option Name) (e : Name × Holding) (es : List (Name × Holding)) → IsBelow last (e ∷ es) → IsBelow last es
below_rest None e es h = tt
below_rest (Some last) e es h = second _ _ h

published_rise : (last : Option Name) (es : List (Name × Holding)) → IsBelow last es → T (is_sorted name_cmp es) → Ascends last (bundles_among es)
published_rise last [] below sorted = tt
published_rise last ((d, Published b) ∷ es) below sorted =
    (after_last last (d, Published b) es below, published_rise (Some d) es (first _ _ sorted) (second _ _ sorted))
published_rise last ((d, Mark s) ∷ es) below sorted = published_rise last es (below_rest last (d, Mark s) es below) (second _ _ sorted)

pub bundles_rise : (m : PlainMap) → Ascends None (bundles m)
bundles_rise m = published_rise None (finite.entries m) tt (finite.entries_sorted m)

pub names_rise : (m : PlainMap) (pairs : List (Name × BundleValue)) → (ask m FetchAll).reply ≡ All pairs → Ascends None pairs
names_rise m pairs is = let same : All (bundles m) ≡ All pairs = sym (fetch_all m) ∙ is in let pairs_are : bundles m ≡ pairs = cc in subst (Ascends None) pairs_are (bundles_rise m)
