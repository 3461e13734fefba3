-- The index of a profile, and how many points a search through it reads (change request No. 5). A block has 16 points.
-- Assumes nothing.
use Rattle.std.specs.Prelude.{ℕ, zero, suc, ◌+◌, ◌-◌, ◌*◌, ◌/◌, min, max, Bool, ◌&&◌, List, [], ◌∷◌, ◌++◌, leb, ltb, get_or, length}
use Rattle.lists.specs.Tests.{on}
use Rattle.spans.specs.declared.Point.{Point}
use Rattle.spans.specs.declared.Block.{Block}

-- how many blocks n points have, and how many points block b has: the last may have fewer
abbrev pub blocks : ℕ → ℕ
blocks n = (n + 15) / 16

abbrev pub size : ℕ → ℕ → ℕ
size n b = min 16 (n - 16 * b)

-- k + 1 places from p on, put together by an operation: the fewest, and the most. g gives the free nodes by place.
unfoldable pub overall : (ℕ → ℕ → ℕ) → (ℕ → ℕ) → ℕ → ℕ → ℕ
overall op g p zero = g p
overall op g p (suc k) = op (overall op g p k) (g (p + suc k))

abbrev pub fewest : (ℕ → ℕ) → ℕ → ℕ → ℕ
fewest g p k = overall min g p k

abbrev pub most : (ℕ → ℕ) → ℕ → ℕ → ℕ
most g p k = overall max g p k

-- of block b of n points
abbrev pub block_fewest : (ℕ → ℕ) → ℕ → ℕ → ℕ
block_fewest g n b = fewest g (16 * b) (size n b - 1)

abbrev pub block_most : (ℕ → ℕ) → ℕ → ℕ → ℕ
block_most g n b = most g (16 * b) (size n b - 1)

-- the minute and the free nodes of the point in place j
abbrev pub minute_at : List Point → ℕ → ℕ
minute_at ps j = (get_or ps j (record { minute = 0; free = 0 })).minute

abbrev pub free_at : List Point → ℕ → ℕ
free_at ps j = (get_or ps j (record { minute = 0; free = 0 })).free

-- "for each block of 16 points, the fewest and the most free nodes", of the first b blocks
unfoldable pub blocks_of : (ℕ → ℕ) → ℕ → ℕ → List Block
blocks_of g n zero = []
blocks_of g n (suc b) = blocks_of g n b ++ (record { fewest = block_fewest g n b; most = block_most g n b } ∷ [])

abbrev pub index : List Point → List Block
index ps = blocks_of (free_at ps) (length ps) (blocks (length ps))

-- "the blocks that begin before its hold's end [..] whose fewest is below the stack's nodes and whose most is not": is block b one? m gives
-- the minutes by place, and the hold ends at e.
abbrev pub read? : (ℕ → ℕ) → (ℕ → ℕ) → ℕ → ℕ → ℕ → ℕ → Bool
read? m g n nodes e b = ltb (m (16 * b)) e && (ltb (block_fewest g n b) nodes && leb nodes (block_most g n b))

-- "there of each point once, and also gives how many it read", of the first b blocks
unfoldable pub reads_of : (ℕ → ℕ) → (ℕ → ℕ) → ℕ → ℕ → ℕ → ℕ → ℕ
reads_of m g n nodes e zero = 0
reads_of m g n nodes e (suc b) = reads_of m g n nodes e b + on (read? m g n nodes e b) (size n b)

abbrev pub reads : List Point → ℕ → ℕ → ℕ
reads ps nodes e = reads_of (minute_at ps) (free_at ps) (length ps) nodes e (blocks (length ps))
