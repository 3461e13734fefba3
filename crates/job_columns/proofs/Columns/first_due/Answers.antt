-- `job_columns::Columns::first_due` meets its contract: no place passed has the minute.
-- Assumes nothing.
use Prim.Native.Nat.{ℕ, ◌+◌, ◌≤◌, ◌<◌}
use native.Mathlib.Omega.{arith}
use mathlib.Core.Path.{◌≡◌, ap, ◌∙◌}
use mathlib.Core.List.{List}
use mathlib.Core.Logic.{◌⊎◌, inl, inr}
use lib.ListN.{get_or}
use Rattle.lists.specs.Tests.{le_or}
use Rattle.job_columns.proofs.Columns.first_due.Invariants.{None}
use Rattle.job_columns.proofs.Columns.first_due.Goals as goal

one_more : (dues : List ℕ) (from minute i : ℕ) → None dues from minute i → (get_or dues i 0 ≡ minute → ⊥) → None dues from minute (i + 1)
one_more dues from minute i f n k a b e = by (le_or i k)
  where
    by : (i ≤ k) ⊎ (k < i) → ⊥
    by (inl q) = let z : i ≡ k = omega arith in n (ap (λ (m : ℕ). get_or dues m 0) z ∙ e)
    by (inr q) = f k a q e

pub loop-i-init : goal.loop-i-init
loop-i-init c = (omega arith, c.requires.0, λ k a b e. omega arith)

pub returns-then-self-i : goal.returns-then-self-i
returns-then-self-i c =
    let l = c.loop-i in
    record { from_to = l.invariant.0; to_end = l.invariant.1; passed = l.invariant.2; here = λ h. c.if-self-i.true }

pub loop-i-preserved : goal.loop-i-preserved
loop-i-preserved c =
    let l = c.loop-i in
    let a = c.args in
    (omega arith, omega arith, one_more a.self.now.dues a.from a.minute l.i l.invariant.2 c.if-self-i.false)

pub returns : goal.returns
returns c =
    let l = c.loop-i in
    let a = c.args in
    let e : l.i ≡ a.self.now.live = omega (arith, l.auto.i-end, c.requires.0) in
    record { from_to = c.requires.0; to_end = omega arith; passed = rw e at l.invariant.2; here = λ h. absurd (omega arith) }
