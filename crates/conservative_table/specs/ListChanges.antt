-- What becomes of a list of numbers in which one is inserted, or some leave or are changed, place by place.
-- Assumes nothing.
use Rattle.std.specs.Prelude.{ℕ, ◌+◌, ◌-◌, ◌≤◌, ◌<◌, ◌≡◌, Bool, true, false, List, get_or, length}
use Rattle.scheduler.specs.Limits.{max_nodes}

-- one point for now, two for each of 64 jobs, and two while a span is laid or taken out
abbrev pub rows : ℕ
rows = 131

-- the free nodes, from those before: some are given back, or taken
abbrev pub changed : Bool → ℕ → ℕ → ℕ
changed true nodes left = left + nodes
changed false nodes left = left - nodes

-- no more is taken than is free, and no more is free than a machine has
abbrev pub SpareNodes : Bool → ℕ → ℕ → Type 0
SpareNodes true nodes left = left + nodes ≤ max_nodes
SpareNodes false nodes left = nodes ≤ left

-- v is put in place k of the first n; those from there on move up
pub record Inserted (xs : List ℕ) (n k v : ℕ) (ys : List ℕ) : Type 0 where
  pub long : length ys ≡ length xs
  pub before : (j : ℕ) → j < k → get_or ys j 0 ≡ get_or xs j 0
  pub here : get_or ys k 0 ≡ v
  pub after : (j : ℕ) → k ≤ j → j < n → get_or ys (j + 1) 0 ≡ get_or xs j 0

-- `by` places leave the first n from k on; those after them move down
pub record Removed (xs : List ℕ) (n k by : ℕ) (ys : List ℕ) : Type 0 where
  pub long : length ys ≡ length xs
  pub before : (j : ℕ) → j < k → get_or ys j 0 ≡ get_or xs j 0
  pub after : (j : ℕ) → k ≤ j → j + by < n → get_or ys j 0 ≡ get_or xs (j + by) 0

-- `nodes` nodes can be taken, or given back, from one place up to another
pub record Adjustable (xs : List ℕ) (from to nodes : ℕ) (release : Bool) : Type 0 where
  pub long : length xs ≡ rows
  pub fit : to ≤ rows
  pub room : (j : ℕ) → from ≤ j → j < to → SpareNodes release nodes (get_or xs j 0)

pub record Adjusted (xs : List ℕ) (from to nodes : ℕ) (release : Bool) (ys : List ℕ) : Type 0 where
  pub long : length ys ≡ length xs
  pub before : (j : ℕ) → j < from → get_or ys j 0 ≡ get_or xs j 0
  pub inside : (j : ℕ) → from ≤ j → j < to → get_or ys j 0 ≡ changed release nodes (get_or xs j 0)
  pub after : (j : ℕ) → from ≤ j → to ≤ j → get_or ys j 0 ≡ get_or xs j 0
