-- `restoring::restore_after` meets its contract, by what the first line says.
-- Assumes nothing.
use mathlib.Core.Path.{◌∙◌}
use Rattle.restoring.specs.Restoring.{empty_slots, judged_is}
use Rattle.restoring.proofs.restore_after.Goals as goal

pub read_records-requires : goal.read_records-requires
read_records-requires c = (c.requires, empty_slots _ _ _ _ c.empty-d.ensures)

pub returns-in-Some : goal.returns-in-Some
returns-in-Some c =
    rw c.in-Some.is (c.judge.ensures ∙ judged_is c.args.text.now c.args.from _ _ _ c.empty-d.ensures c.read_records.ensures)

pub returns-in-None : goal.returns-in-None
returns-in-None c = rw c.in-None.is c.refused.ensures
