-- The code of a shard's version.
use Rattle.std.specs.Prelude.{ℕ, refl}
use Rattle.std.specs.Coded.{Coded, code_by, coded×, coded_ℕ}
use Rattle.map_core.specs.PlainMap.{PlainMap}
use Rattle.map_core.specs.Private.Codes.{plain_map_code}
use Rattle.step_core.specs.Shard.{ShardVersion}

abbrev pub version_code : Coded ShardVersion
version_code =
    code_by (ℕ × PlainMap) (coded× coded_ℕ plain_map_code) (λ v. (v.revision, v.part)) (λ p. record { revision = p.0; part = p.1 }) (λ _. refl)
