use Rattle.shard_store.proofs.store.Store.split.Given as goal

abbrev pub ghosts-split_off : goal.ghosts-split_off
ghosts-split_off a = record { share = a.share }
