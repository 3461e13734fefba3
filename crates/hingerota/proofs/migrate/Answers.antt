use Rattle.hingerota.specs.DeskPremise.{read_premise}
use Rattle.hingerota.specs.MigrateContract.{migrate_given}
use Rattle.hingerota.proofs.migrate.Goals as goal

pub migrate-requires : goal.migrate-requires
migrate-requires c = read_premise _ _ c.read.ensures c.requires

pub returns : goal.returns
returns c = migrate_given c.args.d _ _ _ c.read.ensures c.migrate.ensures c.mirror.ensures
