-- What comes next, as the code finds it.
-- Assumes nothing.
use Rattle.std.specs.Prelude.{Bool, cond, ℕ, leb, ltb}
use Rattle.scheduler.specs.declared.Refusal.TheVariants as refusal
use Rattle.scheduler.specs.Limits.{slots, horizon}
use Rattle.scheduler.specs.Answers.{accepts}
use Rattle.season_reading.specs.declared.Listed.{Listed}
use Rattle.season_reading.specs.declared.Listed.TheVariants as listed
use Rattle.season_rules.specs.Season.{arrival_refusal}
use Rattle.season_turns.specs.declared.Coming.{Coming}
use Rattle.season_turns.specs.declared.Coming.TheVariants as coming

-- by the line that is next
abbrev pub by_listed : Listed → (highest clock : ℕ) → (live : Bool) → Coming
by_listed (listed.Is a) highest clock live =
    let r = arrival_refusal highest a in
    cond (accepts r) (cond (leb a.minute clock) (coming.Arrives a) (coming.Steps a.minute)) (coming.Refuses r)
by_listed listed.Malformed highest clock live = coming.Refuses refusal.Malformed
by_listed listed.None highest clock live = cond live (coming.Steps horizon) coming.Over

-- and before it by the slot of a job that ends now
abbrev pub coming_of : (ending : ℕ) → Listed → (highest clock : ℕ) → (live : Bool) → Coming
coming_of ending x highest clock live = cond (ltb ending slots) (coming.Ends ending) (by_listed x highest clock live)
