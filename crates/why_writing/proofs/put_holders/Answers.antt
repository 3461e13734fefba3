-- `why_writing::put_holders` meets its contract: the holders among the jobs passed are written.
-- Assumes nothing.
use mathlib.Core.Path.{◌≡◌}
use native.Mathlib.Omega.{arith}
use Rattle.text.specs.WrittenBytes.{same_size}
use Rattle.why_writing.specs.ExactText.{writes_none, writes_then, room_at}
use Rattle.why_writing.specs.ListedText.{rows_none, rows_more, rows_room}
use Rattle.why_writing.proofs.put_holders.Goals as goal

pub loop-i-init : goal.loop-i-init
loop-i-init c = rw (rows_none _ _ _ _ _) (writes_none _ _)

pub put_row-p-requires : goal.put_row-p-requires
put_row-p-requires c =
    let a = c.args in
    room_at c.loop-i.invariant c.requires.1
    (rows_room a.minute a.tickets.now a.plan.now.held a.plan.now.froms a.plan.now.untils c.loop-i.i a.plan.now.count (omega arith))

pub loop-i-preserved : goal.loop-i-preserved
loop-i-preserved c =
    rw (rows_more _ _ _ _ _ c.loop-i.i) (writes_then c.loop-i.invariant c.put_row-p.ensures)

pub shape_of-page : goal.shape_of-page
shape_of-page c = same_size c.loop-i.invariant

pub returns : goal.returns
returns c =
    let all : c.loop-i.i ≡ c.args.plan.now.count = omega arith in
    rw all at c.loop-i.invariant
