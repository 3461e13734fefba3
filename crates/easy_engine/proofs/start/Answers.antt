-- `easy_engine::start` meets its contract.
-- Assumes nothing.
use Prim.Native.Nat.{ℕ, ◌+◌}
use native.Mathlib.Omega.{arith}
use mathlib.Core.Path.{refl, ap}
use lib.ListN.{set, get_or}
use Rattle.scheduler.specs.Times.{hold_le}
use Rattle.easy_engine.proofs.start.Goals as goal

pub overflow_add-ends : goal.overflow_add-ends
overflow_add-ends c =
    let a = c.args in
    omega (arith, c.hold_time.ensures, hold_le a.settings (get_or a.estimates.now a.i 0))

pub returns : goal.returns
returns c =
    let a = c.args in
    record {
      nodes_is = refl;
      held_is = refl;
      ends_is = ap (λ (n : ℕ). set a.ends.now a.running (a.clock + n)) c.hold_time.ensures;
      asked_is = refl;
      order_is = refl;
    }
