use Rattle.std.proofs.Common.{◌≡◌, Err, refl, ap, ◌∙◌}
use Rattle.wire.specs.Counted.{next_count}
use Rattle.client.specs.declared.client_error.ClientError.{ClientError}
use Rattle.client.specs.declared.client_error.ClientError.TheVariants as client
use Rattle.client.specs.declared.fault.AskFault.TheVariants as asking
use Rattle.commands.specs.declared.fault.Fault.TheVariants.{Server}
use Rattle.commands.specs.declared.fault.ServerFault.TheVariants.{Client}
use Rattle.commands.specs.Ask.{ServerEnds, BlamesServer}
use Rattle.commands.proofs.Telling.{blames_a_session}
use Rattle.commands.proofs.ask.ask_over.Goals as goal

-- an end of the server is blamed only if it failed
blames_server : (error : ClientError) (old new : ServerEnds) → (asking.Server error ≡ asking.Server client.ReadFault → new.from.faults ≡ next_count old.from.faults) → (asking.Server error ≡ asking.Server client.WriteFault → new.to.faults ≡ next_count old.to.faults)
    → BlamesServer (Server (Client error)) old new
blames_server client.ReadFault old new read write = read refl
blames_server client.WriteFault old new read write = write refl
blames_server client.Memory old new read write = tt
blames_server client.BadLength old new read write = tt
blames_server client.BadReply old new read write = tt
blames_server client.Truncated old new read write = tt

pub returns-in-Err-Server : goal.returns-in-Err-Server
returns-in-Err-Server g c =
    let error = c.in-Err-Server.error in
    let is = c.in-Err-Server.field-0-is in
    record {
      ended = Err (asking.Server error);
      ends_so = ((c.tell-in-Err-Server.ensures.status, c.tell-in-Err-Server.ensures.tells), tt);
      failed = blames_server error _ _ (λ e. c.in-Err-Server.ensures.server_read_fault (ap Err (is ∙ e))) (λ e. c.in-Err-Server.ensures.server_write_fault (ap Err (is ∙ e)));
      asks = rw is at c.in-Err-Server.ensures.asks;
    }

pub returns-in-Err-Front : goal.returns-in-Err-Front
returns-in-Err-Front g c =
    let error = c.in-Err-Front.error in
    let is = c.in-Err-Front.field-0-is in
    record {
      ended = Err (asking.Front error);
      ends_so = (
        (c.tell-in-Err-Front.ensures.status, c.tell-in-Err-Front.ensures.tells),
        blames_a_session error _ _ (λ e. c.in-Err-Front.ensures.read_fault (ap Err (is ∙ ap asking.Front e))) (λ e. c.in-Err-Front.ensures.write_fault (ap Err (is ∙ ap asking.Front e))),
      );
      failed = tt;
      asks = rw is at c.in-Err-Front.ensures.asks;
    }
