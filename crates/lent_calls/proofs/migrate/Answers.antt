-- `lent_calls::migrate` meets its contract: what `calls::migrate` hands back is left where the scheduler was lent.
-- Assumes nothing.
use Rattle.lent_calls.specs.MigrateContract.{migrates_given}
use Rattle.lent_calls.proofs.migrate.Goals as goal

pub returns : goal.returns
returns c = migrates_given c.args.d.now c.migrate.result c.requires c.migrate.ensures
