-- `lent_run::migrate` meets its contract.
-- Assumes nothing.
use Rattle.lent_calls.specs.MigrateContract.{migrates_given}
use Rattle.lent_run.proofs.migrate.Goals as goal

pub print_lines-requires : goal.print_lines-requires
print_lines-requires g c = (migrates_given _ _ c.requires c.migrate.ensures).premise
