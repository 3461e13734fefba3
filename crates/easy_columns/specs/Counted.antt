-- How many jobs hold nodes, and the nodes that are free.
-- Assumes nothing.
use Rattle.std.specs.Prelude.{ℕ}

pub record Taken : Type 0 where
  pub holding : ℕ
  pub spare : ℕ
