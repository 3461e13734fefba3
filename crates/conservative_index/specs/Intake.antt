-- A span is taken into the profile, and the index follows.
-- Assumes nothing.
use Rattle.std.specs.Prelude.{ℕ, ◌/◌, ◌≤◌, ◌≡◌, List, ◌∷◌, length}
use Rattle.std.proofs.Common.{arith}
use Rattle.spans.specs.declared.Span.{Span}
use Rattle.conservative_table.specs.declared.Row.{Row}
use Rattle.conservative_table.specs.ListChanges.{rows}
use Rattle.conservative_table.specs.ProfileLists.{IsProfile, Laying, Changed, exact_few}
use Rattle.conservative_index.specs.BuiltIndex.{Built, Indexed, built_before}

-- the lists are the profile with x in it, and its index
pub record Took {ms fs : List ℕ} {n : ℕ} {x : Span} (l : Laying ms fs 0 n x) (r : ℕ) (ms' fs' lo' hi' : List ℕ) : Type 0 where
  pub profile : IsProfile l.machine (x ∷ l.spans) l.now r ms' fs'
  pub indexed : Indexed fs' r lo' hi'

module _ {ms fs : List ℕ} {n : ℕ} {x : Span} (l : Laying ms fs 0 n x) {lo hi : List ℕ} (q : Indexed fs n lo hi) {r : Row} {ms' fs' : List ℕ}
    (f : (k : Laying ms fs 0 n x) → Changed k.machine (x ∷ k.spans) k.now x ms fs n r ms' fs') where
  fits_before : n ≤ rows
  fits_before = omega (arith, exact_few l.profile, l.few)

  fits_after : r.count ≤ rows
  fits_after = omega (arith, exact_few (f l).profile, l.few)

  -- the blocks before the first place that may have changed are right as they are
  pub builds : Built fs' r.count lo hi (r.at / 16) × (length fs' ≡ rows) × (r.count ≤ rows) × (r.at / 16 ≤ 9)
  builds =
      let c = f l in (
        built_before ms fs ms' fs' r.count r.at q fits_before c.before c.old c.new,
        c.profile.free_long,
        fits_after,
        omega (arith, c.new, fits_after),
      )

  pub took : {lo' hi' : List ℕ} → Indexed fs' r.count lo' hi' → Took l r.count ms' fs' lo' hi'
  took k = record { profile = (f l).profile; indexed = k }
