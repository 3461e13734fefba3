-- The index and the count, computed: a machine of 10 nodes at minute 0, with 6 taken until 20 and then 8 until 30; and 40 points whose
-- free nodes go 0, 1, 2, .. in three blocks.
-- Assumes nothing.
use Rattle.std.specs.Prelude.{ℕ, zero, suc, ◌≡◌, refl, List, [], ◌∷◌}
use Rattle.spans.specs.declared.Span.{Span}
use Rattle.spans.specs.declared.Point.{Point}
use Rattle.spans.specs.Spans.{takes, last_end, changes, points, profile}
use Rattle.spans.specs.declared.Block.{Block}
use Rattle.spans.specs.Index.{overall, blocks_of, index, reads_of, reads}

abbrev spans : List Span
spans = record { from = 0; until = 20; nodes = 6 } ∷ record { from = 20; until = 30; nodes = 8 } ∷ []

abbrev block : ℕ → ℕ → Block
block a b = record { fewest = a; most = b }

abbrev rising : ℕ → ℕ → List Point
rising a zero = []
rising a (suc k) = record { minute = a; free = a } ∷ rising (suc a) k

-- 4 nodes for 20 minutes start at 0: the block's fewest is 2, so that all its three points are read, those at 20 and 30 too, where the job is
-- over; for 1 or 2 nodes none is
pub small : (index (profile 10 spans 0) ≡ (block 2 10 ∷ []))
    × (reads (profile 10 spans 0) 4 20 ≡ 3)
    × (reads (profile 10 spans 0) 1 20 ≡ 0)
    × (reads (profile 10 spans 0) 2 20 ≡ 0)
unfolding takes last_end changes points profile overall reads_of blocks_of
small = (refl, refl, refl, refl)

-- 15 nodes are the most of the first block, which is read; 16 are more, and the fewest of the second, so that no point is read; for 17 the
-- second is read where it begins before the end, at minute 16
pub three : (index (rising 0 40) ≡ (block 0 15 ∷ block 16 31 ∷ block 32 39 ∷ []))
    × (reads (rising 0 40) 15 15 ≡ 16)
    × (reads (rising 0 40) 16 17 ≡ 0)
    × (reads (rising 0 40) 17 17 ≡ 16)
    × (reads (rising 0 40) 17 16 ≡ 0)
    × (reads (rising 0 40) 33 40 ≡ 8)
unfolding overall reads_of blocks_of
three = (refl, refl, refl, refl, refl, refl)
