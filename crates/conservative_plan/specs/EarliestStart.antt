-- The earliest start of a job, sought through the index of the profile.
-- Assumes nothing.
use Rattle.std.specs.Prelude.{◌≡◌, List, ℕ, ◌+◌, ◌≤◌, length}
use native.Mathlib.Omega.{arith}
use Rattle.std.proofs.Math.ListN.{length-map}
use Rattle.spans.specs.Spans.{earliest}
use Rattle.spans.proofs.ProfileLaws.{profile_length}
use Rattle.scheduler.specs.declared.Scheduler.{Scheduler}
use Rattle.scheduler.specs.Limits.{longest_hold}
use Rattle.scheduler.specs.Settings.{horizon}
use Rattle.scheduler.specs.Model.{Model, view}
use Rattle.jobs.specs.Premise.{Holds}
use Rattle.conservative_table.specs.ListChanges.{rows}
use Rattle.conservative_table.specs.ProfileLists.{exact_few}
use Rattle.conservative_index.specs.declared.Start.{Start}
use Rattle.spans.specs.Index.{blocks, minute_at, free_at, reads}
use Rattle.conservative_index.specs.BuiltIndex.{Indexed, reads_few}
use Rattle.conservative_index.specs.Search.{Searches, Sought}
use Rattle.conservative_rules.specs.Conservative.{span, spans, points}
use Rattle.conservative_plan.specs.PlannedSlots.{Planned, Tabulated, held_slots_lem, last_slots, tabulated_view}

-- the earliest start of n nodes for h minutes
abbrev pub start_for : Model → ℕ → ℕ → ℕ
start_for m n h = earliest m.settings.nodes (spans m.settings m.jobs) m.clock n h

-- the points that are read for it are those that No. 5 says
pub record Asked (m : Model) (n h : ℕ) (r : Start) : Type 0 where
  pub minute : r.minute ≡ start_for m n h
  pub reads : r.reads ≡ reads (points m) n (r.minute + h)
  pub few : r.reads ≤ 144

pub record Askable (d : Scheduler) (n h : ℕ) : Type 0 where
  pub planned : Holds Planned d
  pub nodes_to : n ≤ (view d).settings.nodes
  pub hold_from : 1 ≤ h
  pub hold_to : h ≤ longest_hold

pub tabulated_few : (d : Scheduler) {k : ℕ} {ms fs : List ℕ} → Holds Planned d → Tabulated d k ms fs → k ≤ rows
tabulated_few d h t = omega (arith, exact_few t, (held_slots_lem d h).all, length-map d.jobs (span (view d).settings))

module _ (d : Scheduler) {n h : ℕ} (a : Askable d n h) {k : ℕ} {ms fs lo hi : List ℕ} (t : Tabulated d k ms fs) (q : Indexed fs k lo hi) where
  pub searches : Searches ms fs k lo hi n h
  searches =
      let s = a.planned.holds.sound in
      record {
        machine = (view d).settings.nodes;
        spans = spans (view d).settings (view d).jobs;
        now = (view d).clock;
        profile = tabulated_view d a.planned t;
        clock = s.clock_to;
        ends = last_slots (view d).settings (horizon (view d).settings) (view d).jobs (λ j i. (s.each j i).ends);
        indexed = q;
        fit = tabulated_few d a.planned t;
        enough = a.nodes_to;
        some = a.hold_from;
      }

  pub asked : {r : Start} → ((s : Searches ms fs k lo hi n h) → Sought s r) → Asked (view d) n h r
  unfolding searches
  asked {r} f =
      let s = f searches in
      let ps = points (view d) in
      let c = profile_length (view d).settings.nodes (spans (view d).settings (view d).jobs) (view d).clock in
      record {
        minute = s.minute;
        reads = s.reads;
        few =
            omega (
              arith,
              s.reads,
              reads_few (minute_at ps) (free_at ps) (length ps) n (r.minute + h) (blocks (length ps)),
              c,
              length-map (view d).jobs (span (view d).settings),
              a.planned.holds.sound.few,
            );
      }
