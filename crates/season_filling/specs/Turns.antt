-- What comes next as the code finds it is the season's next turn.
-- Assumes nothing.
use Rattle.std.specs.Prelude.{◌≡◌, Bool, true, cond, ◌&&◌, leb, ltb, take, get_or}
use Rattle.std.proofs.Math.Path.{refl, ap}
use Rattle.std.proofs.Common.{sym, subst, ◌∙◌, ltb-true, ltb-false}
use Rattle.std.proofs.Math.Bool.{false}
use mathlib.Core.List.{List, [], ◌∷◌, ◌++◌}
use Rattle.std.proofs.Math.Option.{Option, none, some}
use Prim.Native.Nat.{ℕ, suc, ◌+◌, ◌-◌}
use native.Mathlib.Omega.{arith}
use Rattle.std.proofs.Math.Dec.{eqb}
use Rattle.std.proofs.Math.Seq.{get_or-take}
use Rattle.lists.specs.Tests.{case, true_false, and_right_false}
use Rattle.lists.specs.Lists.{keep, first, In, here, there, in_keep, keep_in, keep_keep, keep_cong}
use Rattle.lists.specs.FirstLaws.{first_keep, first_cong}
use Rattle.lists.specs.Pads.{pad}
use Rattle.scheduler.specs.declared.Job.{Job}
use Rattle.scheduler.specs.declared.Scheduler.{Scheduler}
use Rattle.scheduler.specs.declared.State.{State}
use Rattle.scheduler.specs.declared.State.TheVariants.{Unused, Waiting, Running, Cleanup}
use Rattle.scheduler.specs.Limits.{horizon, slots}
use Rattle.scheduler.specs.Settings.{run_time}
use Rattle.scheduler.specs.States.{live?, running?}
use Rattle.scheduler.specs.Jobs.{unused, is_live_of, is_running, ends_at}
use Rattle.scheduler.specs.Model.{view, store}
use Rattle.scheduler.specs.Answers.{accepts}
use Rattle.jobs.specs.Order.{asc_in}
use Rattle.guarantees.specs.Premise.{premise_sound}
use Rattle.desk_lines.specs.LineLaws.{line_of, lines_done, lines_from}
use Rattle.season_reading.specs.declared.Ahead.{Ahead}
use Rattle.season_reading.specs.declared.Listed.{Listed}
use Rattle.season_reading.specs.declared.Listed.TheVariants as listed
use Rattle.season_reading.specs.Meaning.{Reads, listed_of, read_none, read_line}
use Rattle.season_rules.specs.declared.Arrival.{Arrival}
use Rattle.season_rules.specs.Reading.{arrival_of}
use Rattle.season_rules.specs.Season.{Season, Turn, ends, refuses, arrives, steps, over, ends_now, of_ticket, row_of, rows_of, by_jobs, by_arrival, by_lines_of, by_end_of, turn_of, arrival_refusal}
use Rattle.season_play.specs.Places.{Place, given, season_of, InPlay}
use Rattle.season_turns.specs.declared.Coming.{Coming}
use Rattle.season_turns.specs.declared.Coming.TheVariants as coming
use Rattle.season_turns.specs.EndingSlot.{over_now, Ending}
use Rattle.season_turns.specs.NextTurn.{by_listed, coming_of}
use Rattle.season_turns.specs.DueRows.{job_row, rows_by, due_rows}

-- who runs is live
running_live : (x : State) → running? x ≡ true → live? x ≡ true
running_live Unused e = e
running_live Waiting e = refl
running_live Running e = refl
running_live Cleanup e = refl

-- ## What is noted under a ticket

module _ (l : List ℕ) (p : Place) (q : InPlay l p) where
  abbrev d : Scheduler
  d = p.standing.scheduler

  abbrev s : Season
  s = season_of l p

  -- of a live job, as the season has it
  pub noted_same : (xs : List ℕ) (j : Job) → In j s.model.jobs → of_ticket (take (given d) xs) j.ticket ≡ of_ticket xs j.ticket
  unfolding view
  noted_same xs j i =
      let m = premise_sound d q.premise in
      get_or-take (given d) xs (j.ticket - 1) 0 (omega (arith, asc_in 1 s.model.jobs m.asc i, m.below j i))

  pub ends_same : (j : Job) → In j s.model.jobs → ends_now s j ≡ over_now p.actuals d j
  unfolding view
  ends_same j i = ap (λ (a : ℕ). is_running j && (ltb a (run_time d.settings j.estimate) && eqb (j.start + a) d.clock)) (noted_same p.actuals j i)

  pub first_same : first (ends_now s) s.model.jobs ≡ first (over_now p.actuals d) d.jobs
  unfolding view
  first_same =
      first_keep (ends_now s) is_live_of d.jobs
      ∙ first_cong (λ (j : Job). is_live_of j && ends_now s j) (over_now p.actuals d) d.jobs (λ j i.
      case (is_live_of j)
      (λ e. rw e (ends_same j (in_keep is_live_of i e)))
      (λ e. rw (e, dead j e)))
    where
      dead : (j : Job) → is_live_of j ≡ false → is_running j ≡ false
      dead j e = case (is_running j) (λ r. true_false (is_live_of j) (running_live j.state r) e) (λ r. r)

  -- the line of a job
  pub row_same : (j : Job) → In j s.model.jobs → row_of s j ≡ job_row d.settings (of_ticket p.arrivals j.ticket) (of_ticket p.actuals j.ticket) j
  unfolding view
  row_same j i = λ k. job_row d.settings (noted_same p.arrivals j i k) (noted_same p.actuals j i k) j

  rows_same : (js : List Job) → ((j : Job) → In j js → In j s.model.jobs) → rows_of s js ≡ rows_by p.arrivals p.actuals d.settings js
  rows_same [] f = refl
  rows_same (j ∷ js) f = λ k. row_same j (f j (here refl)) k ++ rows_same js (λ x i. f x (there i)) k

  -- those whose run the scheduler ends next
  pub due_same : rows_of s (keep (ends_at s.model.settings (suc s.model.clock)) s.model.jobs) ≡ due_rows p.arrivals p.actuals d
  unfolding view
  due_same =
      let S = d.settings in
      let n : suc d.clock ≡ d.clock + 1 = omega arith in
      rows_same (keep (ends_at S (suc d.clock)) s.model.jobs) (λ j i. (keep_in (ends_at S (suc d.clock)) s.model.jobs i).0)
      ∙ ap (rows_by p.arrivals p.actuals S)
      (keep_keep (ends_at S (suc d.clock)) is_live_of d.jobs
      ∙ keep_cong (λ (j : Job). is_live_of j && ends_at S (suc d.clock) j) (ends_at S (suc d.clock)) d.jobs (λ j i. runs j)
      ∙ ap (λ (k : ℕ). keep (ends_at S k) d.jobs) n)
    where
      runs : (j : Job) → (is_live_of j && ends_at d.settings (suc d.clock) j) ≡ ends_at d.settings (suc d.clock) j
      runs j =
          case (is_running j)
          (λ r. rw (running_live j.state r))
          (λ r. rw r (and_right_false (is_live_of j) refl))

  -- ## The next turn

  -- the turn that stands for what the code finds
  abbrev pub as_turn : Coming → Turn
  as_turn (coming.Ends k) = ends (get_or d.jobs k unused)
  as_turn (coming.Refuses r) = refuses r
  as_turn (coming.Arrives a) = arrives a
  as_turn (coming.Steps m) = steps
  as_turn coming.Over = over

  -- the first slot is used while there is a live job
  abbrev pub some_live : Bool
  some_live = is_live_of (get_or d.jobs 0 unused)

  live_is : (js : List Job) → s.model.jobs ≡ js → some_live ≡ is_live_of (get_or (pad slots unused js) 0 unused)
  unfolding store
  live_is js e = ap (λ (x : Scheduler). is_live_of (get_or x.jobs 0 unused)) q.premise.stored ∙ ap (λ (ks : List Job). is_live_of (get_or (pad slots unused ks) 0 unused)) e

  by_live : (js : List Job) → s.model.jobs ≡ js → as_turn (cond some_live (coming.Steps horizon) coming.Over) ≡ by_jobs js
  unfolding pad
  by_live [] e = rw (live_is [] e)
  by_live (j ∷ ks) e = rw (live_is (j ∷ ks) e ∙ ((premise_sound d q.premise).each j (subst (In j) (sym e) (here refl))).is_live)

  module _ (z : Season) (jobs_are : z.model.jobs ≡ s.model.jobs) (lines_are : z.lines ≡ s.lines) (above-is : z.above ≡ s.above)
      (highest-is : z.highest ≡ s.highest) {r : Ahead} (h : Reads l p.standing.at p.standing.above r) where
    abbrev pub found : Listed → Turn
    found x = as_turn (by_listed x p.standing.highest z.model.clock some_live)

    by_line : (o : Option Arrival) → r.listed ≡ listed_of o → by_lines_of z z.lines ≡ by_arrival z o
    by_line o e =
        let w = read_line h o e in
        ap (by_lines_of z) (lines_are ∙ lines_from l p.standing.at w.inside)
        ∙ ap (λ (n : ℕ). by_arrival z (arrival_of n (line_of l p.standing.at))) above-is
        ∙ ap (by_arrival z) w.line_says

    by_said : (x : Listed) → r.listed ≡ x → found x ≡ by_lines_of z z.lines
    by_said listed.None e =
        by_live s.model.jobs refl
        ∙ ap by_jobs (sym jobs_are)
        ∙ sym (ap (by_lines_of z) (lines_are ∙ lines_done l p.standing.at (read_none h e).0))
    by_said listed.Malformed e = sym (by_line none e)
    by_said (listed.Is a) e =
        arrival (accepts (arrival_refusal p.standing.highest a)) refl
        ∙ ap (λ (n : ℕ). by_highest n) (sym highest-is)
        ∙ sym (by_line (some a) e)
      where
        -- as the season says it, by the highest arrival
        by_highest : ℕ → Turn
        by_highest n = let v = arrival_refusal n a in cond (accepts v) (cond (leb a.minute z.model.clock) (arrives a) steps) (refuses v)

        arrival : (b : Bool) → accepts (arrival_refusal p.standing.highest a) ≡ b → found (listed.Is a) ≡ by_highest p.standing.highest
        arrival true k = rw k (case (leb a.minute z.model.clock) (λ m. rw m) (λ m. rw m))
        arrival false k = rw k

    pub by_listed_lem : found r.listed ≡ by_lines_of z z.lines
    by_listed_lem = by_said r.listed refl

  module _ {r : Ahead} (h : Reads l p.standing.at p.standing.above r) (k : ℕ) (e : Ending p.actuals d k) where
    abbrev next : Coming
    next = coming_of k r.listed p.standing.highest d.clock some_live

    -- what the code finds is the next turn
    pub next_is : as_turn next ≡ turn_of s
    unfolding turn_of view
    next_is =
        case (ltb k slots)
        (λ b. rw b (ap (by_end_of s) (sym (first_same ∙ e.found (ltb-true k slots b)))))
        (λ b. rw b (by_listed_lem s refl refl refl refl h ∙ ap (by_end_of s) (sym (first_same ∙ e.nowhere (ltb-false k slots b)))))
