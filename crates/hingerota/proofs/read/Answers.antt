use mathlib.Core.Path.{ap, ◌∙◌}
use mathlib.Core.List.{List}
use native.Mathlib.Omega.{arith}
use lib.ListN.{set}
use Rattle.lists.specs.Pads.{pad}
use borrow.Author.Rules.{rules}
use Rattle.scheduler.specs.Jobs.{unused}
use Rattle.hingerota.proofs.Lengths.{whole}
use Rattle.hingerota.specs.Mirror.{no_record, read_record, read}
use Rattle.lists.specs.CopyLoop.{copied_more, copied_all}
use Rattle.hingerota.proofs.read.Goals as goal

pub loop-i-init : goal.loop-i-init
unfolding pad
loop-i-init c = (search rules, rw c.unused-jobs.ensures)

pub loop-i-preserved : goal.loop-i-preserved
loop-i-preserved c =
    let l = c.loop-i in
    let xs = c.args.d.jobs in
    let len = whole c.args.d c.well_formed.0 in (
      omega arith,
      ap (λ (js : List _). set js l.i c.read_record.result) l.invariant.1
          ∙ copied_more read_record no_record unused 64 xs l.i c.read_record.result len (omega arith) c.read_record.ensures,
    )

pub returns : goal.returns
unfolding read
returns c =
    let l = c.loop-i in
    let xs = c.args.d.jobs in
    let len = whole c.args.d c.well_formed.0 in
    rw (c.kind_of.ensures, l.invariant.1, copied_all read_record no_record unused 64 xs l.i len (omega arith))
