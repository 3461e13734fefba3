-- How many points the profile has once whoever waits has moved up, and how many tickets stand in the list of those started.
-- Assumes nothing.
use Rattle.std.specs.Prelude.{ℕ}

pub record MovedUp : Type 0 where
  pub count : ℕ
  pub started : ℕ
