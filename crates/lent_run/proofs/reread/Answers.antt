-- `lent_run::reread` meets its contract.
-- Assumes nothing.
use Rattle.jobs.specs.Premise.{holds_as}
use Rattle.jobs.specs.Soundness.{Sound}
use Rattle.guarantees.specs.Premise.{Valid, valid_sound}
use Rattle.calls.specs.RestoreCall.{restored_held}
use Rattle.lent_run.proofs.reread.Goals as goal

pub print_opened-requires : goal.print_opened-requires
print_opened-requires g c = holds_as Valid Sound _ valid_sound (restored_held _ _ c.restore.ensures)

pub print_opened-requires-2 : goal.print_opened-requires-2
print_opened-requires-2 g c = holds_as Valid Sound _ valid_sound c.lent_restore-left.ensures.premise

pub returns : goal.returns
returns g c = c.lent_restore-left.ensures.premise
