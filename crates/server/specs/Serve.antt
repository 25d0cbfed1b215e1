-- What the command `serve` says, and how it ends.
use Rattle.std.specs.Prelude.{◌≡◌, ◌⊎◌, ℕ, ◌≤◌, ◌+◌, ◌&&◌, min, if◌then◌else◌, List, [], ◌∷◌, ◌++◌, length, codes, decimal, Bool, true, false, Option, Some, None, option_map, Result, Ok, Err}
use Rattle.std.specs.List.{All, flat_map}
use Rattle.std.specs.Io.KnownBytes.{Appends}
use Rattle.wire.specs.Counted.{next_count}
use Rattle.wire.specs.Output.{WritesFront, End, Tells, TellsUnlessFailed}
use Rattle.frame_front.specs.Dump.{Domains as AllDomains, IsDump, HaveValidBundles, FaultOfDump, requests_for, dump_of}
use Rattle.wire.specs.Frame.{stream_of}
use Rattle.frame_front.specs.declared.dump.DumpError.{DumpError}
use Rattle.wire.specs.declared.error.FrontError.{FrontError}
use Rattle.wire.specs.declared.error.FrontError.TheVariants.{Memory, WriteFault}
use Rattle.map_core.specs.PlainMap.{PlainMap, bundles}
use Rattle.shard_store.specs.declared.change.Seen.{Seen}
use Rattle.shard_store.specs.Pass.{StoreView, PassView}
use Rattle.shard_store.specs.declared.close.CloseError.{CloseError}
use Rattle.commands.specs.declared.fault.Fault.{Fault}
use Rattle.commands.specs.declared.fault.Fault.TheVariants.{Front, Dump, Listen as ListenFault, Close}
use Rattle.server.specs.Address.{address_text}
use Rattle.server.specs.declared.address.Address.{Address}
use Rattle.server.specs.declared.lines.ServerLine.{ServerLine}
use Rattle.server.specs.declared.lines.ServerLine.TheVariants.{Listening, Served, Domains}
use Rattle.workers.specs.declared.ended.SessionFault.{SessionFault}
use Rattle.workers.specs.declared.ended.SessionFault.TheVariants as session
use Rattle.workers.specs.declared.ended.Worked.{Worked}
use Rattle.commands.specs.Fault.{fault_line}
use Rattle.commands.specs.Input.{InputFault}
use Rattle.commands.specs.Reading.{Unread}
use Rattle.commands.specs.declared.input.Extent.TheVariants.{Any}
use Rattle.command_line.specs.declared.settings.Settings.{Settings}
use Rattle.workers.specs.Filling.{Fills, NotFills}
use Rattle.workers.specs.declared.filling.FillError.TheVariants as fill
use Rattle.server.specs.Saving.{IsSaveFault, KeepsDump}
use Rattle.workers.specs.Closing.{ranges_of, AreAll, ClosesAs}

-- where it listens, and where for clients that only read, if there is such a place
abbrev pub listening_line : Address → Option Address → List ℕ
listening_line all None = codes "listening " ++ (address_text all ++ 10 ∷ [])
listening_line all (Some reads) = codes "listening " ++ (address_text all ++ (codes " read-only " ++ (address_text reads ++ 10 ∷ [])))

-- a line of words, each with an address or a number
abbrev pub said_line : ServerLine → List ℕ
said_line (Listening all reads) = listening_line all.now (option_map (λ address. address.now) reads)
said_line (Served count) = codes "served " ++ (decimal count ++ 10 ∷ [])
said_line (Domains count) = codes "domains " ++ (decimal count ++ 10 ∷ [])

-- A line is written whole; or a front of it, and the writer failed.
abbrev pub IsOffered : Bool → List ℕ → End → End → Type 0
IsOffered true line old new = Appends old.bytes new.bytes line × (new.faults ≡ old.faults)
IsOffered false line old new = WritesFront old.bytes new.bytes line × (new.faults ≡ next_count old.faults)

-- the fault of a line that was not taken
abbrev pub write_fault : Bool → List ℕ
write_fault true = []
write_fault false = fault_line (Front WriteFault)

-- ---- the sessions

-- how many sessions the workers have begun
abbrev pub begun_by : List Worked → ℕ
begun_by [] = 0
begun_by (w ∷ worked) = w.ends.begun + begun_by worked

-- a session came each time that one of them waited for one
abbrev pub have_all_come : List Worked → Bool
have_all_come [] = true
have_all_come (w ∷ worked) = w.ends.came && have_all_come worked

-- the faults of their sessions that are kept, in order of the workers
abbrev pub faults_by : List Worked → List SessionFault
faults_by worked = flat_map (λ w. w.ends.faults) worked

-- the lines of faults
abbrev pub session_lines : List SessionFault → List ℕ
session_lines [] = []
session_lines (session.Front error ∷ faults) = fault_line (Front error) ++ session_lines faults
session_lines (session.Listen ∷ faults) = fault_line ListenFault ++ session_lines faults

-- ---- the end

-- how many domains the map has; or the store gave no map, and nothing is offered
abbrev pub OffersDomains : Result PlainMap CloseError → Bool → End → End → Type 0
OffersDomains (Ok contents) taken old new = IsOffered taken (said_line (Domains (length (bundles contents)))) old new
OffersDomains (Err error) taken old new = (new ≡ old) × (taken ≡ false)

abbrev pub closing_line : Result PlainMap CloseError → Bool → List ℕ
closing_line (Ok contents) taken = write_fault taken
closing_line (Err error) taken = fault_line (Close error)

-- the dump of the map is kept, or it is told why not; without a map there is nothing to keep
abbrev pub Saves : (List ℕ → Type 0) → Result PlainMap CloseError → Bool → List ℕ → Type 0
Saves Kept (Ok contents) saved line = KeepsDump Kept (dump_of contents) saved line
Saves Kept (Err error) saved line = (saved ≡ false) × (line ≡ [])

-- After the sessions: `served N`, their faults in order of the workers; then the dump of the map is kept, if that is wanted, and
-- `domains M` comes, or why the store gave no map. The status is 0 if both lines were taken, the dump is kept as is wanted, and no
-- listener failed.
pub record Reports (Kept : List ℕ → Type 0) (worked : List Worked) (before status : ℕ) (out_old out_new err_old err_new : End) : Type 0 where
  pub served_taken : Bool
  pub between : End
  pub served : IsOffered served_taken (said_line (Served (min (begun_by worked) 18446744073709551615))) out_old between
  pub closed : Result PlainMap CloseError
  pub closes : ClosesAs worked closed
  pub saved : Bool
  pub save_line : List ℕ
  pub saves : Saves Kept closed saved save_line
  pub domains_taken : Bool
  pub domains : OffersDomains closed domains_taken between out_new
  pub tells : TellsUnlessFailed before err_old err_new
      (write_fault served_taken ++ (session_lines (faults_by worked) ++ (save_line ++ closing_line closed domains_taken)))
  pub has_status : status ≡ (if served_taken && (have_all_come worked && (saved && domains_taken)) then 0 else 1)

-- ---- the whole command

-- a gate that is always open
abbrev pub always_open : ℕ → ℕ → Bool → Type 0
always_open worker call is_open = is_open ≡ true

-- what fills the store before anything is accepted: nothing, or the requests that store again what a dump holds
abbrev pub IsLoad : {A : Type 0} → Option A → List ℕ → Type 0
IsLoad None requests = requests ≡ []
IsLoad (Some file) requests = (dump : List ℕ) × (items : AllDomains) × IsDump dump items × HaveValidBundles items × (requests ≡ stream_of (requests_for items) [])

-- why a file gives no dump: it is not read, since memory ran out or for a fault of an input, or what it holds is not a dump
abbrev pub IsLoadFault : Fault → Type 0
IsLoadFault fault =
    ((left_old : Option (List ℕ)) × (left_new : Option (List ℕ)) × InputFault Any fault left_old left_new)
    ⊎ ((dump : List ℕ) × (error : DumpError) × FaultOfDump error dump × (fault ≡ Dump error))

-- The first pass has stored what the requests hold, if there are any, and has its numbers still.
abbrev pub Filled : List ℕ → StoreView → Seen → Seen → Type 0
Filled [] store old new = new ≡ old
Filled (byte ∷ more) store old new = Fills (byte ∷ more) store old new

-- why it has not: memory ran out, or the session of the requests failed
abbrev pub NotFilled : List ℕ → StoreView → Seen → FrontError → Type 0
NotFilled [] store old error = ⊥
NotFilled (byte ∷ more) store old error = (error ≡ Memory) ⊎ NotFills (byte ∷ more) store old (fill.Front error)

-- the first pass of an empty store: it has all numbers, and has seen no change
pub record IsFresh (seen : Seen) : Type 0 where
  pub numbers : seen.ranges ≡ (0, 4294967296) ∷ []
  pub empty : seen.log ≡ []

-- the store and the passes with which the workers begin: each has seen with what the store was filled, by a pass that had all
-- numbers, and together they have all numbers
pub record IsSetUp (settings : Settings) (requests : List ℕ) (store : StoreView) (passes : List PassView) : Type 0 where
  pub workers : length passes ≡ settings.workers
  pub shards : store.id.slots ≡ settings.shards
  pub rounds : store.rounds ≡ settings.rounds
  pub tries : store.tries ≡ settings.tries
  pub all : AreAll (ranges_of passes)
  pub fresh : Seen
  pub is_fresh : IsFresh fresh
  pub first : Seen
  pub filled : Filled requests store fresh first
  pub seen : All (λ pass. pass.seen.log ≡ first.log) passes

-- why there is no store: memory ran out, or an empty store was not filled
abbrev pub NotSetUp : List ℕ → FrontError → Type 0
NotSetUp requests error = (error ≡ Memory) ⊎ ((store : StoreView) × (fresh : Seen) × IsFresh fresh × NotFilled requests store fresh error)

-- a line of words: no byte of its text is one that ends a line, or that a terminal obeys
abbrev pub IsWords : List ℕ → Type 0
IsWords line = (text : List ℕ) × All (λ byte. 32 ≤ byte) text × (line ≡ text ++ 10 ∷ [])

-- it may be that a line of words is written
abbrev pub AddsWords : End → End → Type 0
AddsWords old new = (new ≡ old) ⊎ ((line : List ℕ) × IsWords line × Tells old new line)

-- The line of a fault is told; and it may be that a line of words comes behind it.
abbrev pub TellsFault : Fault → End → End → Type 0
TellsFault fault old new = Tells old new (fault_line fault) ⊎ ((words : List ℕ) × IsWords words × Tells old new (fault_line fault ++ words))

-- It ends before anything is said, and why is told.
abbrev pub EndsEarly : Fault → ℕ → End → End → End → End → Type 0
EndsEarly fault status out_old out_new err_old err_new = (status ≡ 1) × (out_new ≡ out_old) × TellsFault fault err_old err_new

-- what is to fill the store is not a dump, or can't be read
abbrev pub IsNotLoaded : {A : Type 0} → Option A → Fault → Type 0
IsNotLoaded None fault = ⊥
IsNotLoaded (Some file) fault = (left_old : Option (List ℕ)) × (left_new : Option (List ℕ)) × Unread Any fault left_old left_new

-- why there is no store that is set up: what is to fill it is not loaded; or memory ran out, or the store was not filled with it
abbrev pub IsNotBegun : {A : Type 0} → Option A → Fault → Type 0
IsNotBegun load fault =
    IsNotLoaded load fault
    ⊎ ((requests : List ℕ) × (error : FrontError) × IsLoad load requests × NotSetUp requests error × (fault ≡ Front error))

-- the file in which the last map is to be kept can't be written
abbrev pub IsNotKept : {A : Type 0} → Option A → Fault → Type 0
IsNotKept None fault = ⊥
IsNotKept (Some file) fault = IsSaveFault fault

-- What it is that the dump of the last map is kept. And the form of a server says what it is that workers have served their
-- clients, each over a pass of its own.
module _ (Kept : List ℕ → Type 0) (Served : StoreView → List PassView → List Worked → Type 0) where
  -- The workers serve, and the end is reported; or memory runs out, and that is told.
  abbrev pub Serves : StoreView → List PassView → ℕ → ℕ → End → End → End → End → Type 0
  Serves store passes before status out_old out_new err_old err_new =
      ((status ≡ 1) × (out_new ≡ out_old) × TellsUnlessFailed before err_old err_new (fault_line (Front Memory)))
      ⊎ ((worked : List Worked) × Served store passes worked × Reports Kept worked before status out_old out_new err_old err_new)

  -- No connection is taken if that line is not taken.
  abbrev pub ServesIf : Bool → StoreView → List PassView → ℕ → ℕ → End → End → End → End → Type 0
  ServesIf true store passes before status out_old out_new err_old err_new = Serves store passes before status out_old out_new err_old err_new
  ServesIf false store passes before status out_old out_new err_old err_new = (status ≡ 1) × (out_new ≡ out_old) × (err_new ≡ err_old)

  -- The line of the addresses is offered, and then connections are served.
  pub record Listens (store : StoreView) (passes : List PassView) (all : Address) (status : ℕ) (out_old out_new err_old err_new : End) : Type 0 where
    pub taken : Bool
    pub out : End
    pub error : End
    pub reads : Option Address
    pub listening : IsOffered taken (listening_line all reads) out_old out
    pub tells : TellsUnlessFailed err_old.faults err_old error (write_fault taken)
    pub serves : ServesIf taken store passes err_old.faults status out out_new error err_new

  -- There is a listener, and connections are served; or it can't be had, and that is told.
  abbrev pub ServeRun : StoreView → List PassView → ℕ → End → End → End → End → Type 0
  ServeRun store passes status out_old out_new err_old err_new =
      EndsEarly ListenFault status out_old out_new err_old err_new
      ⊎ ((all : Address) × Listens store passes all status out_old out_new err_old err_new)

  -- Over a store that is set up: memory runs out before anything is said, and that is told; or there is a listener, or not.
  abbrev pub SetUpRun : StoreView → List PassView → ℕ → End → End → End → End → Type 0
  SetUpRun store passes status out_old out_new err_old err_new =
      EndsEarly (Front Memory) status out_old out_new err_old err_new ⊎ ServeRun store passes status out_old out_new err_old err_new

  -- The whole command: the file in which the last map is to be kept is tried first, and then the store is set up; if one of
  -- them can't be had, that is told. Only then there is a place where clients come.
  abbrev pub ServeCommand : {A : Type 0} → Option A → Option A → Settings → ℕ → End → End → End → End → Type 0
  ServeCommand load save settings status out_old out_new err_old err_new =
      ((fault : Fault) × (IsNotKept save fault ⊎ IsNotBegun load fault) × EndsEarly fault status out_old out_new err_old err_new)
      ⊎ ((requests : List ℕ) × (store : StoreView) × (passes : List PassView) × IsLoad load requests × IsSetUp settings requests store passes
      × SetUpRun store passes status out_old out_new err_old err_new)
