-- The machine in which each run is over at its least, or now if that is past: which nodes it holds, and when they are free.
-- Assumes nothing.
use Rattle.std.specs.Prelude.{ℕ, ◌+◌, ◌≤◌, max, ◌≡◌, true, false, leb}
use Rattle.std.proofs.Common.{arith, sym, ap, ◌∙◌}
use Rattle.std.proofs.lemmas.List.{length-map}
use Rattle.lists.specs.Tests.{case, true_false, on}
use Rattle.lists.specs.Lists.{In, map_in, sum_map, sum_cong}
use Rattle.scheduler.specs.declared.Job.{Job}
use Rattle.scheduler.specs.declared.Settings.{Settings}
use Rattle.scheduler.specs.Jobs.{is_waiting, is_running, is_cleaning, is_holding, held}
use Rattle.scheduler.specs.Settings.{cleanup, unit, until}
use Rattle.scheduler.specs.Times.{run_from, hold_is, hold_unit, cleanup_unit, until_cleaning, until_cleaned}
use Rattle.scheduler.specs.Table.{nodes_held}
use Rattle.scheduler.specs.Model.{Model}
use Rattle.jobs.specs.Soundness.{SoundJob, Sound, running_holds, cleaning_holds, running_clean, waiting_is, holds_short}
use Rattle.easy_rules.specs.Easy.{freed, avail}
use Rattle.easy_rules.specs.EarliestStart.{over_at_least, at_least, earliest_for}
use Rattle.easy_laws.specs.Settling.{shadow_from, shadow_min, Releasing, shadow_suffices}

-- it holds its nodes still
module _ (now : ℕ) (j : Job) where
  pub over_holding : is_holding (over_at_least now j) ≡ is_holding j
  over_holding = case (is_running j) (λ r. rw (r, running_holds j.state r)) (λ r. rw r)

  pub over_nodes : (over_at_least now j).nodes ≡ j.nodes
  over_nodes = case (is_running j) (λ r. rw r) (λ r. rw r)

  pub over_held : held (over_at_least now j) ≡ held j
  over_held = rw (over_holding, over_nodes)

-- who does not run is as it was
pub over_same : (now : ℕ) (j : Job) → is_running j ≡ false → over_at_least now j ≡ j
over_same now j r = rw r

-- one that runs gives them back after its least or now, and cleanup; one in cleanup as before
module _ (S : Settings) (now : ℕ) (j : Job) where
  pub until_over : is_running j ≡ true → until S (over_at_least now j) ≡ max now (j.start + j.least) + cleanup S
  until_over r = rw r (until_cleaned S (max now (j.start + j.least)) j)

  pub until_cleared : is_cleaning j ≡ true → until S (over_at_least now j) ≡ j.end + cleanup S
  until_cleared c =
      ap (until S) (over_same now j (case (is_running j) (λ r. true_false (is_cleaning j) c (running_clean j.state r)) (λ r. r)))
      ∙ until_cleaning S j c

-- now or later, and within a unit
over_soon : (S : Settings) (now : ℕ) (j : Job) → SoundJob S now j → is_holding j ≡ true
    → (now ≤ until S (over_at_least now j)) × (until S (over_at_least now j) ≤ now + unit S)
over_soon S now j f h =
    case (is_running j)
    (λ r. omega (
      arith,
      until_over S now j r,
      f.holds h,
      f.least_to,
      run_from S j.estimate f.estimate_to,
      hold_is S j.estimate,
      hold_unit S j.estimate f.estimate_to,
      cleanup_unit S,
    ))
    (λ r. omega (arith, ap (until S) (over_same now j r), f.holds h, holds_short S now j f h))

-- where the nodes would be there now, it is now
pub earliest_now : (m : Model) (n : ℕ) → n ≤ avail (at_least m) m.clock → m.clock ≡ earliest_for m n
earliest_now m n l = omega (arith, shadow_from (at_least m) n, shadow_min (at_least m) n m.clock l (omega arith))

module _ (m : Model) (s : Sound m) where
  pub least_held_lem : nodes_held (at_least m).jobs ≡ nodes_held m.jobs
  least_held_lem =
      sum_map held (over_at_least m.clock) m.jobs
      ∙ sum_cong (λ (j : Job). held (over_at_least m.clock j)) held m.jobs (λ j i. over_held m.clock j)

  pub least_releasing : Releasing (at_least m)
  least_releasing = record {
    few = omega (arith, s.few, length-map m.jobs (over_at_least m.clock));
    nodes_to = s.nodes_to;
    capacity = omega (arith, least_held_lem, s.capacity);
    later = λ j i h. (each j i h).0;
    soon = λ j i h. (each j i h).1;
  }
    where
      each : (j : Job) → In j (at_least m).jobs → is_holding j ≡ true
          → (m.clock ≤ until m.settings j) × (until m.settings j ≤ m.clock + unit m.settings)
      each j i h =
          let k = map_in (over_at_least m.clock) m.jobs i in
          rw k.2 (over_soon m.settings m.clock k.0 (s.each k.0 k.1)
          (sym (over_holding m.clock k.0) ∙ sym (ap is_holding k.2) ∙ h))

-- ## For the reader

-- Document 02, No. 7: nodes come free "if every running stack ended at its least, or now if that is past, followed by clearing, and no waiting one
-- were there". The nodes of a job in cleanup come free as they do anyway.
module _ (S : Settings) (now t : ℕ) (j : Job) where
  pub running_frees_least : is_running j ≡ true → freed S t (over_at_least now j) ≡ on (leb (max now (j.start + j.least) + cleanup S) t) j.nodes
  running_frees_least r = rw (over_holding now j, running_holds j.state r, until_over S now j r, over_nodes now j)

  pub cleaning_frees_least : is_cleaning j ≡ true → freed S t (over_at_least now j) ≡ on (leb (j.end + cleanup S) t) j.nodes
  cleaning_frees_least c = rw (over_holding now j, cleaning_holds j.state c, until_cleared S now j c, over_nodes now j)

  pub waiting_frees_least : is_waiting j ≡ true → freed S t (over_at_least now j) ≡ 0
  waiting_frees_least w = rw (over_holding now j, waiting_is j.state w)

-- The soonest minute is "the smallest, now or later, at which its nodes would be free" then.
pub earliest_smallest : (m : Model) (n : ℕ) → Sound m → n ≤ m.settings.nodes
    → (m.clock ≤ earliest_for m n)
    × (n ≤ avail (at_least m) (earliest_for m n))
    × ((t : ℕ) → m.clock ≤ t → n ≤ avail (at_least m) t → earliest_for m n ≤ t)
earliest_smallest m n s l =
    (shadow_from (at_least m) n, shadow_suffices (at_least m) n (least_releasing m s) l, λ t c h. shadow_min (at_least m) n t h c)
