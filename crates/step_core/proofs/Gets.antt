-- A get is answered by the shard of its name, and changes none.
use Rattle.std.proofs.Common.{◌≡◌, ℕ, ◌<◌, false, List, length, get_or, set, Option, Some, None, Result, Ok, Err, IfOk, IfErr, OnOk, inl, arith, refl, sym, ap, ◌∙◌}
use Rattle.std.proofs.lemmas.List.{set-get_or}
use Rattle.map_core.specs.declared.op.Op.{Op}
use Rattle.map_core.specs.declared.op.Op.TheVariants.{Get}
use Rattle.map_core.specs.declared.reply.Reply.{Reply}
use Rattle.map_core.specs.declared.reply.Reply.TheVariants.{Found}
use Rattle.map_core.specs.Ask.{ShowsGet}
use Rattle.spiffe_doc.specs.Authority.{BundleValue}
use Rattle.std.specs.declared.alloc.AllocError.{AllocError}
use Rattle.map_core.specs.declared.reply.AskError.{AskError}
use Rattle.map_core.specs.declared.reply.AskError.TheVariants.{Memory}
use Rattle.map_core.specs.Name.{Name}
use Rattle.map_core.specs.Reply.{is_change}
use Rattle.map_core.specs.PlainMap.{PlainMap, ask, home, shard_of}
use Rattle.map_core.proofs.Asks.{get_changes_nothing}
use Rattle.map_core.proofs.MapLaws.{ask_keeps}
use Rattle.step_core.specs.Shard.{ShardVersion, fresh_shard, reading, step_on}
use Rattle.step_core.specs.Shards.{map_of, after_step_at, after_step, ShardsAnswer}
use Rattle.step_core.specs.Private.Parts.{AreParts}
use Rattle.step_core.proofs.Parts.{reply_here}

pub get_home : (n i : ℕ) (d : Name) → i ≡ home n d → shard_of n (Get d) ≡ Some i
unfolding shard_of
get_home n i d is = ap Some (sym is)

pub get_reply : (vs : List ShardVersion) (d : Name) (i : ℕ) (r : Reply) (v : ShardVersion) → AreParts vs → shard_of (length vs) (Get d) ≡ Some i → i < length vs → v ≡ get_or vs i v → r ≡ (ask v.part (Get d)).reply → r ≡ (ask (map_of vs) (Get d)).reply
get_reply vs d i r v parts at small item is = is ∙ reply_here vs (Get d) i v item parts at small

pub get_left : (r : Result Reply AskError) (m : PlainMap) (op : Op) (d : Name) → op ≡ Get d → OnOk r (m ≡ (ask m op).map)
get_left (Ok x) m op d is = sym (ask_keeps m op (sym (get_changes_nothing m op d is)))
get_left (Err e) m op d is = tt

stays : (v : ShardVersion) (op : Op) → is_change (ask v.part op).reply ≡ false → (step_on v op).shard ≡ v
stays v op quiet = grind arith

all_stay : (vs : List ShardVersion) (op : Op) (d : Name) (at : Option ℕ) → op ≡ Get d → vs ≡ after_step_at vs op at
all_stay vs op d (Some i) is = sym (ap (set vs i) (stays (reading vs i) op (sym (get_changes_nothing (reading vs i).part op d is))) ∙ set-get_or vs i fresh_shard)
all_stay vs op d None is = refl

pub get_stays : (r : Result Reply AskError) (vs : List ShardVersion) (op : Op) (d : Name) → op ≡ Get d → OnOk r (vs ≡ after_step vs op)
get_stays (Ok x) vs op d is = all_stay vs op d (shard_of (length vs) op) is
get_stays (Err e) vs op d is = tt

pub get_answer : (vs : List ShardVersion) (d : Name) (r : Result Reply AskError) → IfOk r (λ reply. reply ≡ (ask (map_of vs) (Get d)).reply) → IfErr r (λ e. e ≡ Memory) → ShardsAnswer vs (Get d) r vs
get_answer vs d (Ok x) found refused = (found, get_left (Ok x) (map_of vs) (Get d) d refl, get_stays (Ok x) vs (Get d) d refl)
get_answer vs d (Err e) found refused = (inl refused, refl)

-- a get that its shard answered to a viewer
pub get_shown : {V : Type 0} (notes : V → BundleValue → V → Type 0) (vs : List ShardVersion) (d : Name) (part : PlainMap) (old : V) (shown : Option Reply) (new : V)
    → ((reply : Reply) → reply ≡ (ask part (Get d)).reply → reply ≡ (ask (map_of vs) (Get d)).reply)
    → ShowsGet {E = AllocError} notes (λ (answer : Result Reply AllocError). IfOk answer (λ reply. reply ≡ (ask part (Get d)).reply)) old (Ok shown) new
    → ShowsGet {E = AskError} notes (λ (answer : Result Reply AskError). ShardsAnswer vs (Get d) answer vs) old (Ok shown) new
get_shown notes vs d part old (Some reply) new same shows = (get_answer vs d (Ok reply) (same reply shows.0) tt, shows.1)
get_shown notes vs d part old None new same shows = (shows.0, get_answer vs d (Ok (Found shows.0)) (same (Found shows.0) shows.1) tt, shows.2)
