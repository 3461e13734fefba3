use mathlib.Core.Path.{ap, ◌∙◌}
use mathlib.Core.List.{List}
use native.Mathlib.Omega.{arith}
use lib.ListN.{set}
use Rattle.lists.specs.Pads.{pad}
use borrow.Author.Rules.{rules}
use Rattle.scheduler.specs.Jobs.{unused}
use Rattle.scheduler.proofs.Lengths.{whole}
use Rattle.hingerota.specs.Mirror.{no_record, mirror_job, mirror}
use Rattle.lists.specs.CopyLoop.{copied_more, copied_all}
use Rattle.hingerota.proofs.mirror.Goals as goal

pub loop-i-init : goal.loop-i-init
unfolding pad
loop-i-init c = (search rules, rw (c.mirror_job-jobs.ensures, c.unused.ensures))

pub loop-i-preserved : goal.loop-i-preserved
loop-i-preserved c =
    let l = c.loop-i in
    let xs = c.args.s.jobs in
    let len = whole c.args.s c.well_formed.0 in (
      omega arith,
      ap (λ (js : List _). set js l.i c.mirror_job.result) l.invariant.1
          ∙ copied_more mirror_job unused no_record 64 xs l.i c.mirror_job.result len (omega arith) c.mirror_job.ensures,
    )

pub returns : goal.returns
unfolding mirror
returns c =
    let l = c.loop-i in
    let xs = c.args.s.jobs in
    let len = whole c.args.s c.well_formed.0 in
    rw (c.kind_number.ensures, l.invariant.1, copied_all mirror_job unused no_record 64 xs l.i len (omega arith))
