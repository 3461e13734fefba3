use Prim.Native.Nat.{◌≤◌}
use native.Mathlib.Omega.{arith}
use borrow.Author.Rules.{rules}
use Rattle.scheduler.specs.declared.Tenant.{Tenant}
use Rattle.scheduler.specs.declared.Tenant.TheVariants.{Nobody, A, B}
use Rattle.scheduler.specs.Tenants.{letter_of}
use Rattle.hingerota.proofs.mirror_job.Goals as goal

-- a letter has 16 bits
letter-low : (t : Tenant) → letter_of t ≤ 65535
letter-low Nobody = omega arith
letter-low A = omega arith
letter-low B = omega arith

pub overflow_cast-result : goal.overflow_cast-result
overflow_cast-result c = let l = letter-low c.args.j.tenant in let e = c.letter.ensures in search rules

pub returns : goal.returns
returns c = rw (c.state_number.ensures, c.letter.ensures)
