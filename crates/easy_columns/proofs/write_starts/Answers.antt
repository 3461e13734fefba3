-- `easy_columns::write_starts` meets its contract. The invariant: the first `k` starts are written.
-- Assumes nothing.
use Prim.Native.Nat.{ℕ, ◌+◌, ◌≤◌, ◌<◌}
use native.Mathlib.Omega.{arith}
use mathlib.Core.Path.{refl, ap}
use Rattle.job_columns.specs.declared.Columns.{Columns}
use Rattle.job_columns.specs.Held.{retimed_on}
use lib.ListN.{get_or}
use mathlib.Core.List.{List}
use Rattle.scheduler.specs.Limits.{slots}
use Rattle.easy_columns.specs.Starting.{Starting, written_first, at_low, end_low, written_next, written_all}
use Rattle.easy_columns.proofs.write_starts.Goals as goal

-- the slot, and the place among the holders
inside : {tickets states dues starts order started ends holders : List ℕ} {count holding clock minutes : ℕ} (p : Starting tickets states dues starts order started ends holders count holding clock minutes)
    → (k : ℕ) → k < count → (get_or order k 0 < slots) × (holding + k < slots) × (minutes ≤ get_or ends (holding + k) 0)
inside p k l = (omega (arith, at_low p k l, p.few), omega (arith, p.fits), end_low p k l)

pub loop-k-init : goal.loop-k-init
loop-k-init c = (omega arith, λ s. written_first s, refl, inside c.requires 0)

pub loop-k-preserved : goal.loop-k-preserved
loop-k-preserved c =
    let l = c.loop-k in
    let e = l.invariant.2 in (
      omega arith,
      λ s. rw (ap (λ (x : Columns). x.tickets) e) (written_next s l.k c.loop-k-test.true (l.invariant.1 s)),
      retimed_on c.args.columns.now l.columns _ e refl,
      inside c.requires (l.k + 1),
    )

pub returns : goal.returns
returns c =
    let l = c.loop-k in
    record { retimed = l.invariant.2; begun = λ s. written_all s l.k c.loop-k-test.false l.invariant.0 (l.invariant.1 s) }
