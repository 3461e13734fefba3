-- Document 01's slips of the plan, computed: a machine of 10 nodes at minute 0, with 6 taken until 20 and then 8 until 30. This file's
-- name puts it before the laws, so that a wrong definition is first refused by a wrong number.
-- Assumes nothing.
use Rattle.std.specs.Prelude.{ℕ, ◌≡◌, refl, [], ◌∷◌}
use Rattle.spans.specs.declared.Span.{Span}
use Rattle.spans.specs.declared.Point.{Point}
use Rattle.spans.specs.Spans.{takes, last_end, fits, earliest, changes, points, profile}

abbrev running : Span
running = record { from = 0; until = 20; nodes = 6 }

abbrev waiting : Span
waiting = record { from = 20; until = 30; nodes = 8 }

abbrev later : Span
later = record { from = 40; until = 50; nodes = 1 }

abbrev at : ℕ → ℕ → Point
at t n = record { minute = t; free = n }

-- 4 nodes for 20 minutes fit now; for 25 they would be in the way of the 8. The nodes of a job that ends at 20 serve a start in
-- minute 20.
pub examples : (earliest 10 (running ∷ waiting ∷ []) 0 4 20 ≡ 0)
    × (earliest 10 (running ∷ waiting ∷ []) 0 4 25 ≡ 30)
    × (earliest 10 (running ∷ later ∷ []) 0 8 10 ≡ 20)
    × (profile 10 (running ∷ waiting ∷ []) 0 ≡ (at 0 4 ∷ at 20 2 ∷ at 30 10 ∷ []))
unfolding takes last_end fits earliest changes points profile
examples = (refl, refl, refl, refl)
