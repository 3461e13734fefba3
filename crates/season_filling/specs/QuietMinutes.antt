-- Minutes in which nothing happens are passed over: the season has the same left to print.
-- Assumes nothing.
use Rattle.std.specs.Prelude.{◌≡◌, Bool, ◌&&◌, List, ℕ, ◌+◌, ◌-◌, ◌≤◌, ◌<◌, leb, ltb}
use Rattle.std.proofs.Math.Path.{refl, sym, ap}
use Rattle.std.proofs.Common.{◌∙◌}
use Rattle.std.proofs.Math.Bool.{true, false}
use Rattle.std.proofs.Math.Option.{none}
use native.Mathlib.Omega.{arith}
use Rattle.std.proofs.Math.Dec.{eqb}
use borrow.Author.Tests.{lt-leb, leb-false, ltb-true, ltb-false, eqb-true, eqb-false, ne_eqb}
use Rattle.lists.specs.Tests.{case, and_right_false}
use Rattle.lists.specs.Lists.{first}
use Rattle.lists.specs.FirstLaws.{none_first}
use Rattle.paging.specs.Players.{Skips}
use Rattle.scheduler.specs.declared.Job.{Job}
use Rattle.scheduler.specs.declared.Scheduler.{Scheduler}
use Rattle.scheduler.specs.Limits.{horizon, slots}
use Rattle.scheduler.specs.Settings.{run_time}
use Rattle.scheduler.specs.Jobs.{is_running}
use Rattle.scheduler.specs.Model.{view}
use Rattle.scheduler.specs.Answers.{accepts}
use Rattle.guarantees.specs.Premise.{premise_sound}
use Rattle.quiet_minutes.specs.QuietTicks.{passed_over, passed_premise}
use Rattle.season_reading.specs.declared.Ahead.{Ahead}
use Rattle.season_reading.specs.declared.Listed.{Listed}
use Rattle.season_reading.specs.declared.Listed.TheVariants as listed
use Rattle.season_reading.specs.Meaning.{Reads}
use Rattle.season_rules.specs.Season.{Season, steps, actual, ends_now, by_end_of, turn_of, turns_left, arrival_refusal}
use Rattle.season_laws.specs.Progress.{arrival_fits}
use Rattle.season_laws.specs.QuietSeason.{later, quiet_remaining}
use Rattle.season_play.specs.Places.{Place, place, going, season_of, InPlay, ready_of}
use Rattle.season_play.specs.SeasonPlayer.{season_player}
use Rattle.season_turns.specs.declared.Coming.TheVariants as coming
use Rattle.season_turns.specs.EndingSlot.{Ending}
use Rattle.season_turns.specs.QuietSlots.{Calm}
use Rattle.season_turns.specs.NextTurn.{by_listed, coming_of}
use Rattle.season_filling.specs.Turns.{as_turn, some_live, noted_same, first_same, by_listed_lem}

-- ## Until when a line waits

-- where minutes pass until one, they do at every minute before it
pub record Waits (x : Listed) (highest clock : ℕ) (live : Bool) (n : ℕ) : Type 0 where
  pub from : clock ≤ n
  pub to : n ≤ horizon
  pub on : (c : ℕ) → c < n → by_listed x highest c live ≡ coming.Steps n

module _ (highest clock : ℕ) (live : Bool) (n : ℕ) (h : clock ≤ horizon) where
  waits : (x : Listed) → coming.Steps n ≡ by_listed x highest clock live → Waits x highest clock live n
  waits (listed.Is a) e =
      case (accepts (arrival_refusal highest a))
      (λ t. case (leb a.minute clock)
      (λ u. absurd (let w : coming.Steps n ≡ coming.Arrives a = (rw (t, u) at e) in let z : ◌≡◌ {A = ℕ} 0 1 = cc in omega arith))
      (λ u.
      let w : coming.Steps n ≡ coming.Steps a.minute = (rw (t, u) at e) in
      let m : n ≡ a.minute = cc in
      record {
        from = omega (arith, leb-false a.minute clock u, m);
        to = omega (arith, m, (arrival_fits highest a t).in_time_lem);
        on = λ c k. rw (t, lt-leb a.minute c (omega (arith, m))) (ap coming.Steps (sym m));
      }))
      (λ t. absurd (let w : coming.Steps n ≡ coming.Refuses (arrival_refusal highest a) = (rw t at e) in let z : ◌≡◌ {A = ℕ} 0 1 = cc in omega arith))
  waits listed.Malformed e = absurd (let z : ◌≡◌ {A = ℕ} 0 1 = cc in omega arith)
  waits listed.None e =
      case live
      (λ t.
      let w : coming.Steps n ≡ coming.Steps horizon = (rw t at e) in
      let m : n ≡ horizon = cc in
      record { from = omega (arith, m); to = omega (arith, m); on = λ c k. rw t (ap coming.Steps (sym m)) })
      (λ t. absurd (let w : coming.Steps n ≡ coming.Over = (rw t at e) in let z : ◌≡◌ {A = ℕ} 0 1 = cc in omega arith))

module _ (l : List ℕ) (at above highest : ℕ) (d : Scheduler) (xs ys : List ℕ) (q : InPlay l (place (going at above highest d) xs ys))
    {r : Ahead} (h : Reads l at above r) (k : ℕ) (e : Ending ys d k) (n : ℕ) where
  abbrev p : Place
  p = place (going at above highest d) xs ys

  abbrev s : Season
  s = season_of l p

  abbrev live : Bool
  live = some_live l p q

  clock_to : d.clock ≤ horizon
  unfolding view
  clock_to = (premise_sound d q.premise).clock_to

  module _ (f : coming.Steps n ≡ coming_of k r.listed highest d.clock live) where
    -- no job is over now, and a line waits, or none is left
    no_slot : slots ≤ k
    no_slot =
        case (ltb k slots)
        (λ b. absurd (let w : coming.Steps n ≡ coming.Ends k = (rw b at f) in let z : ◌≡◌ {A = ℕ} 0 1 = cc in omega arith))
        (λ b. ltb-false k slots b)

    line_waits : Waits r.listed highest d.clock live n
    line_waits =
        case (ltb k slots)
        (λ b. absurd (omega (arith, no_slot, ltb-true k slots b)))
        (λ b. waits highest d.clock live n clock_to r.listed (rw b at f))

    pub steps_range : (d.clock ≤ n) × (n ≤ horizon)
    steps_range = (line_waits.from, line_waits.to)

    module _ {until : ℕ} (c : Calm ys d n until) where
      abbrev minutes : ℕ
      minutes = until - d.clock

      none_over : (i : ℕ) → d.clock + i < until → first (ends_now (later s i)) s.model.jobs ≡ none
      unfolding view
      none_over i b = go (eqb i 0) refl
        where
          go : (z : Bool) → eqb i 0 ≡ z → first (ends_now (later s i)) s.model.jobs ≡ none
          go true o =
              let w : d.clock + i ≡ d.clock = omega (arith, eqb-true i 0 o) in
              ap (λ (t : ℕ). first (λ (j : Job). is_running j && (ltb (actual s j) (run_time d.settings j.estimate) && eqb (j.start + actual s j) t)) s.model.jobs) w
              ∙ first_same l p q ∙ e.nowhere no_slot
          go false o =
              let w = eqb-false i 0 o in
              none_first (ends_now (later s i)) s.model.jobs (λ j x.
              let v : j.start + actual s j ≡ d.clock + i → ⊥ = λ y.
              c.unended j x (d.clock + i) (omega (arith, w)) b (ap (λ (a : ℕ). j.start + a) (sym (noted_same l p q ys j x)) ∙ y) in
              and_right_false (is_running j) (and_right_false (ltb (actual s j) (run_time d.settings j.estimate)) (ne_eqb (j.start + actual s j) (d.clock + i) v)))

      still_steps : (i : ℕ) → i < minutes → turn_of (later s i) ≡ steps
      unfolding turn_of view
      still_steps i b =
          let m : d.clock + i < until = omega (arith, c.from) in
          ap (by_end_of (later s i)) (none_over i m)
          ∙ sym (by_listed_lem l p q (later s i) refl refl refl refl h)
          ∙ ap (as_turn l p q) (line_waits.on (d.clock + i) (omega (arith, c.to)))

      abbrev pub skipped : Place
      skipped = place (going at above highest (passed_over d minutes)) xs ys

      in_time_lem : d.clock + minutes ≤ horizon
      in_time_lem = omega (arith, c.from, c.to, line_waits.to)

      pub passes : Skips (season_player l) p skipped
      unfolding view turns_left
      passes =
          let o = quiet_remaining minutes s (ready_of l p q) in_time_lem c.quiet still_steps in
          record {
            left_is = o.0;
            ready = record {
              premise = passed_premise d minutes q.premise in_time_lem c.quiet;
              no_least = q.no_least;
              inside = q.inside;
              few = q.few;
              most = q.most;
              arrivals_whole = q.arrivals_whole;
              actuals_whole = q.actuals_whole;
            };
            no_more = fewer;
          }
        where
          fewer : turns_left (later s minutes) ≤ turns_left s
          fewer = omega arith

      -- and it has less to play, if there are such minutes
      pub passes_less : d.clock < until → turns_left (season_of l skipped) < turns_left s
      unfolding view turns_left
      passes_less b = omega (arith, c.from, in_time_lem)
