use Rattle.std.proofs.Common.{ℕ, List, [], ap, sym, refl, inl, inr, rules}
use Rattle.std.specs.Prelude.{Option, Some, None}
use Rattle.command_line.specs.declared.settings.Settings.{Settings}
use Rattle.commands.specs.Streams.{source_of}
use Rattle.commands.specs.declared.fault.Fault.TheVariants.{Front}
use Rattle.wire.specs.declared.error.FrontError.TheVariants.{Memory}
use Rattle.wire.specs.Output.{End}
use Rattle.shard_store.specs.Pass.{StoreView, PassView}
use Rattle.workers.specs.declared.ended.Worked.{Worked}
use Rattle.server.specs.Saving.{IsUnknown}
use Rattle.server.specs.Serve.{EndsEarly, ServeCommand}
use Rattle.bundled.specs.Serve.{ServedAs}
use Rattle.bundled.proofs.command.run_wanted.Goals as goal

pub returns-in-Ok : goal.returns-in-Ok
returns-in-Ok g c = rw c.in-Serve.is ((λ e. ap (source_of g.R.Read.remaining) (c.serve_over-status.ensures.read e)), c.serve_over-status.ensures.run)

pub returns-in-Map : goal.returns-in-Map
returns-in-Map g c = rw c.in-Map.is (rw (sym c.as_slice-in-Map.ensures.value) (rw (sym c.profile_of.ensures) c.map_over.ensures.maps))

-- there is no memory for what is counted, and that is told before anything is served
no_counts : {A : Type 0} (Kept : List ℕ → Type 0) (Served : StoreView → List PassView → List Worked → Type 0) (load save : Option A) (settings : Settings) (status : ℕ) (out_old out_new err_old err_new : End)
    → EndsEarly (Front Memory) status out_old out_new err_old err_new → ServeCommand Kept Served load save settings status out_old out_new err_old err_new
no_counts Kept Served None save settings status out_old out_new err_old err_new early = inl (Front Memory, inr (inr ([], Memory, refl, inl refl, refl)), early)
no_counts Kept Served (Some file) save settings status out_old out_new err_old err_new early = inl (Front Memory, inr (inl (None, None, tt)), early)

pub returns-in_default : goal.returns-in_default
returns-in_default g c =
    let settings = c.in-Serve.settings in
    rw c.in-Serve.is ((λ e. refl), no_counts IsUnknown (ServedAs settings.connections settings.turns) c.in-Serve.load c.in-Serve.save settings _ _ _ _ _ (c.tell.ensures.status, refl, inl c.tell.ensures.tells))
