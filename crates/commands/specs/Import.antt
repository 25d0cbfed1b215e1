-- What the command `import` writes: the requests that set each bundle of a bundle map.
use Rattle.std.specs.Prelude.{◌≡◌, ℕ, List, [], map, Option}
use Rattle.wire.specs.Frame.{stream_of}
use Rattle.frame_front.specs.Dump.{Domains}
use Rattle.commands.specs.declared.fault.Fault.{Fault}
use Rattle.commands.specs.declared.fault.Fault.TheVariants.{BadMap, BadMember}
use Rattle.commands.specs.Input.{IsInput, InputFault}
use Rattle.commands.specs.declared.input.Extent.TheVariants.{Limited}
use Rattle.dump_views.specs.declared.error.MapError.TheVariants as maps
use Rattle.dump_views.specs.declared.error.MemberFault.{MemberFault}
use Rattle.dump_views.specs.Import.{IsMap, FaultOfMap, set_request}

-- the requests that set each bundle of the map that is the input
abbrev pub RequestsOf : List ℕ → Option (List ℕ) → Option (List ℕ) → Type 0
RequestsOf stream left_old left_new =
    (input : List ℕ) × (items : Domains) × IsInput Limited input left_old left_new × IsMap input items × (stream ≡ stream_of (map set_request items) [])

-- the input is not a bundle map, or the member at a place, from 0, is bad; or it is not read
abbrev pub NoRequests : Fault → Option (List ℕ) → Option (List ℕ) → Type 0
NoRequests BadMap left_old left_new = (input : List ℕ) × IsInput Limited input left_old left_new × FaultOfMap maps.NotMap input
NoRequests (BadMember place) left_old left_new =
    (input : List ℕ) × (fault : MemberFault) × IsInput Limited input left_old left_new × FaultOfMap (maps.BadMember place fault) input
NoRequests fault left_old left_new = InputFault Limited fault left_old left_new
