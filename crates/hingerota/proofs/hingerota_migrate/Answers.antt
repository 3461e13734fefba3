-- `hingerota_migrate` meets its contract: the desk lent is replaced by what `migrate` makes of it.
-- Assumes nothing.
use Rattle.hingerota.proofs.MigrateContract.{migrates_given}
use Rattle.hingerota.proofs.hingerota_migrate.Goals as goal

pub returns : goal.returns
returns c = migrates_given c.args.d.now c.migrate.result c.requires c.migrate.ensures
