-- `conservative_index::read_points` meets its contract: of each point passed it is noted whether there are nodes enough.
-- Assumes nothing.
use Prim.Native.Nat.{ℕ, ◌+◌, ◌-◌, ◌≤◌, ◌<◌}
use native.Mathlib.Omega.{arith}
use mathlib.Core.Path.{◌≡◌, sym, ap, ◌∙◌}
use mathlib.Core.Bool.{Bool, false}
use mathlib.Core.List.{List}
use mathlib.Core.Logic.{◌⊎◌, inl, inr}
use lib.Dec.{leb}
use lib.ListN.{length, get_or, set, length-set}
use lib.Seq.{get_or-set_same, get_or-set_other}
use Rattle.lists.specs.Tests.{le_or}
use Rattle.conservative_index.specs.BuiltIndex.{at}
use Rattle.conservative_index.specs.Anchors.{has, note}
use Rattle.std.proofs.Common.{rules}
use Rattle.std.proofs.lemmas.List.{places}
use Rattle.conservative_index.proofs.Parts.{part_long, part_here}
use Rattle.conservative_index.proofs.read_points.Goals as goal

-- the next point is noted
one_more : (fs : List ℕ) (nodes from k : ℕ) {v : ℕ} (bs : List Bool) → length bs ≡ 16 → k < 16 → v ≡ get_or fs (from + k) 0
    → ((j : ℕ) → j < k → note bs j ≡ has nodes (at fs) from j) → (j : ℕ) → j < k + 1 → note (set bs k (leb nodes v)) j ≡ has nodes (at fs) from j
one_more fs nodes from k {v} bs n h e each j u = go (le_or k j)
  where
    b : Bool
    b = leb nodes v

    go : (k ≤ j) ⊎ (j < k) → note (set bs k b) j ≡ has nodes (at fs) from j
    go (inl w) =
        let z : j ≡ k = omega arith in
        rw z (get_or-set_same bs k b false (omega (arith, n)) ∙ ap (leb nodes) e)
    go (inr w) = get_or-set_other bs k j b false (λ q. omega arith) ∙ each j w

pub loop-left-preserved : goal.loop-left-preserved
loop-left-preserved c =
    let a = c.args in
    let l = c.loop-left in
    let q = l.invariant in
    let low : l.reads < 16 = search (rules, places) in
    let p = part_here a.free.now a.from _ l.left-index c.loop-left-test.true in (
      omega (arith, q.0),
      length-set l.enough l.reads _ ∙ q.1,
      one_more a.free.now a.nodes a.from l.reads l.enough q.1 low (p ∙ ap (λ (i : ℕ). get_or a.free.now (a.from + i) 0) (sym q.0)) q.2,
    )

pub returns : goal.returns
returns c =
    let a = c.args in
    let q = c.loop-left.invariant in
    let n = part_long a.free.now a.from (a.to - a.from) (omega (arith, c.requires)) in
    let e : c.loop-left.reads ≡ a.to - a.from = omega (arith, n, c.loop-left-test.false, q.0) in
    record { long = q.1; count = e; each = λ j u. q.2 j (omega (arith, e)) }
