-- A submission with the points kept beside the model: the start is sought through their index, and the job's span is taken in.
-- Assumes nothing.
use Rattle.std.specs.Prelude.{ℕ, ◌+◌, ◌≤◌, ◌<◌, ◌≡◌, refl, List, [], ◌∷◌, ◌++◌, length}
use native.Mathlib.Omega.{arith}
use Rattle.std.proofs.Common.{sym, ◌∙◌}
use Rattle.std.proofs.Math.Path.{ap, subst}
use Rattle.std.proofs.lemmas.List.{length-map}
use Rattle.spans.specs.declared.Span.{Span}
use Rattle.spans.specs.Spans.{takes, free}
use Rattle.spans.specs.Index.{blocks, minute_at, free_at, reads}
use Rattle.scheduler.specs.declared.Job.{Job}
use Rattle.scheduler.specs.declared.Submission.{Submission}
use Rattle.scheduler.specs.declared.Settings.{Settings}
use Rattle.scheduler.specs.Limits.{slots}
use Rattle.scheduler.specs.Settings.{horizon, hold_time}
use Rattle.scheduler.specs.Times.{until_fresh}
use Rattle.scheduler.specs.Model.{Model}
use Rattle.scheduler.specs.Answers.{Result}
use Rattle.history.specs.Calls.{submit}
use Rattle.conservative_table.specs.Points.{Kept}
use Rattle.conservative_table.specs.ProfileLists.{Laying, exact_kept, exact_same}
use Rattle.conservative_index.specs.declared.Start.{Start}
use Rattle.conservative_index.specs.BuiltIndex.{Indexed, reads_few}
use Rattle.conservative_index.specs.Search.{Searches, Sought}
use Rattle.conservative_index.specs.Intake.{Took}
use Rattle.conservative_rules.specs.Conservative.{span, spans, points, state_at, new_job, planned, reads_for, submitted, call}
use Rattle.conservative_laws.specs.Validity.{Valid, state_clean, room_with, used_append}
use Rattle.conservative_laws.specs.Sentences.{planned_is, few_points}
use Rattle.conservative_kept.specs.Beside.{Beside, fits_rows, ends_within}

module _ (m : Model) (o : Submission) (v : Valid m) {n : ℕ} {ms fs lo hi : List ℕ} (b : Beside m n ms fs lo hi) (enough : o.nodes ≤ m.settings.nodes) where
  abbrev S : Settings
  S = m.settings

  abbrev hold : ℕ
  hold = hold_time S o.estimate

  pub searches : 1 ≤ hold → Searches ms fs n lo hi o.nodes hold
  searches l = record {
    machine = S.nodes;
    spans = spans S m.jobs;
    now = m.clock;
    profile = b.profile;
    clock = v.sound.clock_to;
    ends = ends_within v.sound;
    indexed = b.indexed;
    fit = fits_rows v.sound b.profile;
    enough = enough;
    some = l;
  }

  pub start_found : (l : 1 ≤ hold) {s : Start} → ((q : Searches ms fs n lo hi o.nodes hold) → Sought q s) → s.minute ≡ planned m o
  unfolding searches planned
  start_found l f = (f (searches l)).minute

  -- and the points read for it
  pub reads_found : (l : 1 ≤ hold) {s : Start} → ((q : Searches ms fs n lo hi o.nodes hold) → Sought q s)
      → (s.reads ≡ reads_for m o (planned m o)) × (s.reads ≤ 144)
  unfolding searches
  reads_found l {s} f =
      let q = f (searches l) in
      let ps = points m in (
        q.reads ∙ ap (λ (x : ℕ). reads ps o.nodes (x + hold)) (start_found l f),
        omega (
          arith,
          q.reads,
          reads_few (minute_at ps) (free_at ps) (length ps) o.nodes (s.minute + hold) (blocks (length ps)),
          few_points m v,
        ),
      )

  -- it is taken in
  module _ (room : length m.jobs < slots) (within : planned m o + hold ≤ horizon S) where
    abbrev x : Span
    x = record { from = planned m o; until = planned m o + hold; nodes = o.nodes }

    kept : Kept (free S.nodes (spans S m.jobs)) m.clock n ms fs
    kept = exact_kept b.profile v.sound.clock_to (ends_within v.sound)

    pub lays : Laying ms fs 0 n x
    lays = record {
      machine = S.nodes;
      spans = spans S m.jobs;
      now = m.clock;
      profile = b.profile;
      few = omega (arith, length-map m.jobs (span S));
      clock = v.sound.clock_to;
      ends = ends_within v.sound;
      until = within;
      room = room_with S.nodes (spans S m.jobs) x m.clock o.nodes hold (planned m o) refl refl refl (planned_is m o enough) v.room;
      near_in = kept.table.some;
      near_to = omega (arith, kept.table.first);
    }

    abbrev job : Job
    job = new_job m o (planned m o)

    new_span : span S job ≡ x
    new_span = rw (until_fresh S m.next o (state_at m.clock (planned m o)) (planned m o) (planned m o) (state_clean m.clock (planned m o)))

    pub taken_beside : call m (submit o) ≡ submitted m o (planned m o) → {r : ℕ} {ms' fs' lo' hi' : List ℕ}
        → ((l : Laying ms fs 0 n x) → Indexed fs n lo hi → Took l r ms' fs' lo' hi') → Beside (call m (submit o)).model r ms' fs' lo' hi'
    unfolding lays submitted
    taken_beside e {r} {ms'} {fs'} {lo'} {hi'} f =
        let k = f lays b.indexed in
        subst (λ (y : Result). Beside y.model r ms' fs' lo' hi') (sym e) (record {
          profile =
              exact_same (spans S (m.jobs ++ (job ∷ []))) k.profile
              (λ t l. omega (arith, used_append S t m.jobs (job ∷ []), ap (takes t) new_span));
          indexed = k.indexed;
        })
