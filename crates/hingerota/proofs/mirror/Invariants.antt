use mathlib.Core.Path.{◌≡◌}
use Prim.Native.Nat.{◌≤◌}
use Rattle.scheduler.specs.Jobs.{unused}
use Rattle.hingerota.specs.Mirror.{no_record, mirror_job}
use Rattle.lists.specs.CopyLoop.{copied}
use Rattle.hingerota.proofs.mirror.Given as goal

abbrev pub invariant-loop-i : goal.invariant-loop-i
invariant-loop-i l = (l.i ≤ 64) × (l.jobs ≡ copied mirror_job unused no_record 64 l.fn.s.jobs l.i)
