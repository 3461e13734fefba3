-- `advancing::quiet_for` meets its contract: the slots are asked one after another.
-- Assumes nothing.
use Prim.Native.Nat.{◌+◌}
use native.Mathlib.Omega.{arith}
use Rattle.quiet_minutes.specs.QuietCount.{slots_whole, slot_ready}
use Rattle.advancing.specs.DueSlots.{found_more, found_all}
use Rattle.advancing.proofs.quiet_for.Goals as goal

pub quiet_of-until-requires : goal.quiet_of-until-requires
quiet_of-until-requires c =
    let p = c.requires.0 in
    let r = slot_ready c.args.d p c.loop-j.j-index (omega (arith, slots_whole c.args.d p)) in
    (r.0, r.1, c.loop-j.invariant.asked.from)

pub loop-j-preserved : goal.loop-j-preserved
loop-j-preserved c =
    let d = c.args.d in
    found_more d (d.clock + c.args.minutes) c.loop-j.until c.quiet_of-until.result c.loop-j.j-index (slots_whole d c.requires.0) (omega arith) c.loop-j.invariant
    c.quiet_of-until.ensures

pub returns : goal.returns
returns c =
    let t = c.loop-j in
    found_all c.args.d c.args.minutes t.until t.j-index (slots_whole c.args.d c.requires.0) (omega arith) c.requires.1 t.invariant
