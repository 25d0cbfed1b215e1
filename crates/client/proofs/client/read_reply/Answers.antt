use Rattle.client.proofs.ClientLemmas.{behind_preface}
use Rattle.client.proofs.client.read_reply.Goals as goal

pub returns : goal.returns
returns g c = behind_preface c.args.op.now _ _ _ c.in_ok-read_preface.ensures.ok c.read_own.result c.read_own.ensures
