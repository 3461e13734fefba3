-- `conservative_index::pass_points` meets its contract: the search stands where it should after the points passed.
-- Assumes nothing.
use Prim.Native.Nat.{ℕ, suc, ◌+◌, ◌-◌, ◌≤◌, ◌<◌}
use native.Mathlib.Omega.{arith}
use native.Mathlib.Numerals.{add-one}
use mathlib.Core.Path.{◌≡◌, sym, ap, ◌∙◌}
use mathlib.Core.Bool.{Bool}
use mathlib.Core.List.{List}
use lib.ListN.{get_or}
use Rattle.conservative_index.specs.declared.Anchor.{Anchor}
use Rattle.conservative_index.specs.declared.Anchor.TheVariants.{Found}
use Rattle.conservative_index.specs.BuiltIndex.{at}
use Rattle.conservative_index.specs.Anchors.{standing, note, pass_point, pass_points, found_stays}
use Rattle.conservative_index.proofs.pass_points.Given as goal

module _ (ms : List ℕ) (bs : List Bool) (from count hold : ℕ) (a : Anchor) where
  pub record Inv (b : Anchor) (k : ℕ) : Type 0 where
    pub inside : k ≤ count
    pub is : b ≡ pass_points hold (at ms) (note bs) from k a

  pub begin : {b : Anchor} → b ≡ a → Inv b 0
  unfolding pass_points
  begin e = record { inside = omega arith; is = e }

  pub pass-more : {b d : Anchor} {k : ℕ} → Inv b k → d ≡ pass_point hold (get_or ms (from + k) 0) (note bs k) b
      → d ≡ pass_points hold (at ms) (note bs) from (suc k) a
  unfolding pass_points
  pass-more q e = e ∙ rw q.is

  pub one_more : {b d : Anchor} {k : ℕ} → Inv b k → k < count → d ≡ pass_point hold (get_or ms (from + k) 0) (note bs k) b → Inv d (k + 1)
  one_more {k = k} q l e = record { inside = omega arith; is = rw (add-one k) (pass-more q e) }

  -- a minute is found before all points are passed
  pub found : {b : Anchor} {k : ℕ} (m : ℕ) → Inv b k → k < count → Found m ≡ pass_point hold (get_or ms (from + k) 0) (note bs k) b
      → Found m ≡ pass_points hold (at ms) (note bs) from count a
  found {k = k} m q l e =
      let x : count ≡ suc k + (count - suc k) = omega arith in
      rw x (sym (found_stays hold (at ms) (note bs) from (suc k) (count - suc k) m a (sym (pass-more q e))))

  pub all-passed : {b : Anchor} {k : ℕ} → Inv b k → count ≤ k → b ≡ pass_points hold (at ms) (note bs) from count a
  all-passed q l = q.is ∙ ap (λ (k : ℕ). pass_points hold (at ms) (note bs) from k a) (omega (arith, q.inside))

abbrev pub invariant-loop-k : goal.invariant-loop-k
invariant-loop-k l = Inv l.minutes l.enough l.from l.count l.hold l.fn.before (standing l.on l.first) l.k
