-- `lent_run::open_up_to` meets its contract.
-- Assumes nothing.
use Rattle.scheduler.specs.Opening.{opening, opened}
use Rattle.scheduler.specs.declared.Opening.{Opening}
use Rattle.jobs.specs.Soundness.{Sound, opening_sound, all_live}
use Rattle.jobs.specs.Premise.{Holds, store_holds}
use Rattle.guarantees.specs.Premise.{opened_held}
use Rattle.lent_run.proofs.open_up_to.Goals as goal

opened-sound : (o : Opening) → Holds Sound (opened o).scheduler
unfolding opened
opened-sound o = store_holds Sound (opening o) (all_live (opening o) (opening_sound o)) (opening_sound o)

pub print_opened-requires : goal.print_opened-requires
print_opened-requires g c = rw c.open-opened.ensures (opened-sound _)

pub returns : goal.returns
returns g c = opened_held _ _ c.open-opened.ensures
