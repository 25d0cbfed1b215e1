use Rattle.server.proofs.saving.keep_domains.Goals as goal

pub returns-clause-ok : goal.returns-clause-ok
returns-clause-ok g c = c.in_ok-keep.ensures.ok _ c.in_ok-put_dump.ensures.ok
