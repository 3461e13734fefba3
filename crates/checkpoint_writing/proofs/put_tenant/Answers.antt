-- `checkpoint_writing::put_tenant` meets its contract: a tab and one letter.
-- Assumes nothing.
use mathlib.Core.Path.{sym}
use Prim.Native.Nat.{◌≤◌}
use native.Mathlib.Omega.{arith}
use Rattle.text.specs.WrittenBytes.{wrote}
use Rattle.scheduler.specs.declared.Tenant.{Tenant}
use Rattle.scheduler.specs.declared.Tenant.TheVariants.{Nobody, A, B}
use Rattle.scheduler.specs.Tenants.{letter_of}
use Rattle.checkpoint_writing.proofs.put_tenant.Goals as goal

letter-low : (t : Tenant) → letter_of t ≤ 255
letter-low Nobody = omega arith
letter-low A = omega arith
letter-low B = omega arith

pub overflow_cast-letter : goal.overflow_cast-letter
overflow_cast-letter c = omega (arith, c.letter-letter.ensures, letter-low c.args.tenant)

pub returns : goal.returns
returns c =
    rw (sym c.letter-letter.ensures) (wrote 2 _ _ _ _ _ (omega arith) c.put_word.ensures)
