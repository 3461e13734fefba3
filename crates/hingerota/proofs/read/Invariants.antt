use mathlib.Core.Path.{◌≡◌}
use Prim.Native.Nat.{◌≤◌}
use Rattle.scheduler.specs.Jobs.{unused}
use Rattle.hingerota.specs.Mirror.{no_record, read_record}
use Rattle.lists.specs.CopyLoop.{copied}
use Rattle.hingerota.proofs.read.Given as goal

abbrev pub invariant-loop-i : goal.invariant-loop-i
invariant-loop-i l = (l.i ≤ 64) × (l.jobs ≡ copied read_record no_record unused 64 l.fn.d.jobs l.i)
