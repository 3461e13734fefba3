-- What a call, a departure and a minute tell, with the counts of the lists after them.
-- Assumes nothing.
use Rattle.std.specs.Prelude.{ℕ}
use Rattle.scheduler.specs.declared.Refusal.{Refusal}

-- a call: live jobs, points of the profile, jobs that hold nodes, free nodes
pub record Told : Type 0 where
  pub refusal : Refusal
  pub ticket : ℕ
  pub promise : ℕ
  pub head : ℕ
  pub forecast : ℕ
  pub ended : ℕ
  pub started : ℕ
  pub clock : ℕ
  pub next : ℕ
  pub live : ℕ
  pub count : ℕ
  pub holding : ℕ
  pub spare : ℕ

-- a departure
pub record Left : Type 0 where
  pub refusal : Refusal
  pub live : ℕ
  pub ended : ℕ
  pub withdrawn : ℕ

-- a minute
pub record Expired : Type 0 where
  pub live : ℕ
  pub ended : ℕ
  pub starting : ℕ

-- the jobs before a place have been looked at
pub record Swept : Type 0 where
  pub at : ℕ
  pub live : ℕ
  pub ended : ℕ
  pub gone : ℕ
  pub starting : ℕ
