-- A tick of conservative backfilling at which no job ends, is released or starts: only the clock moves.
-- Assumes nothing.
use Rattle.std.specs.Prelude.{ℕ, suc, ◌≤◌, ◌≡◌, false, List, [], map}
use Rattle.std.proofs.Common.{ap, ◌∙◌, le-ltb}
use Rattle.std.proofs.Math.Option.{none}
use Rattle.lists.specs.Lists.{In, keep_none, map_same}
use Rattle.scheduler.specs.declared.Job.{Job}
use Rattle.scheduler.specs.declared.Refusal.TheVariants as refusal
use Rattle.scheduler.specs.Jobs.{ends_at, released_at}
use Rattle.scheduler.specs.Settings.{horizon}
use Rattle.scheduler.specs.Table.{tickets_of, ends, ended_of, remaining}
use Rattle.scheduler.specs.Model.{Model, ending}
use Rattle.scheduler.specs.Answers.{refusing, verdict}
use Rattle.scheduler.specs.Refusals.{tick_refusal}
use Rattle.jobs.specs.Soundness.{all_remain}
use Rattle.history.specs.Calls.{tick}
use Rattle.conservative_rules.specs.Conservative.{call, ticked, advanced, begun, turned}
use Rattle.conservative_laws.specs.Sentences.{starts_at, begun_turned}
use Rattle.conservative_laws.specs.TickedJob.{turned_other}
use Rattle.easy_laws.specs.QuietTick.{later}

module _ (m : Model) (l : suc m.clock ≤ horizon m.settings)
    (stays : (j : Job) → In j m.jobs → ends_at m.settings (suc m.clock) j ≡ false)
    (holds : (j : Job) → In j m.jobs → released_at m.settings (suc m.clock) j ≡ false)
    (waits : (j : Job) → In j m.jobs → starts_at (suc m.clock) j ≡ false)
  where
    abbrev n : ℕ
    n = suc m.clock

    same : remaining m.settings n (ending m) m.jobs ≡ m.jobs
    same = all_remain m.settings n (ending m) m.jobs stays (λ j i. rw (stays j i, holds j i))

    none_turns : map (turned n) (remaining m.settings n (ending m) m.jobs) ≡ m.jobs
    none_turns = ap (map (turned n)) same ∙ map_same (turned n) m.jobs (λ j i. turned_other n j (waits j i))

    none_ends : ended_of (ending m) m.jobs ≡ []
    none_ends = ap tickets_of (keep_none (ends (ending m)) m.jobs stays)

    none_starts : begun (remaining m.settings n (ending m) m.jobs) (map (turned n) (remaining m.settings n (ending m) m.jobs)) ≡ []
    none_starts =
        ap (λ (js : List Job). begun js (map (turned n) js)) same
        ∙ begun_turned n m.jobs
        ∙ ap tickets_of (keep_none (starts_at n) m.jobs waits)

    quiet_ticked : ticked m ≡ record { reply = refusing refusal.None; model = later m }
    unfolding ticked advanced
    quiet_ticked = λ i. record {
      reply = record { refusal = refusal.None; ticket = 0; promise = 0; reads = 0; ended = none_ends i; started = none_starts i; head = none };
      model = record { settings = m.settings; clock = n; next = m.next; jobs = none_turns i };
    }

    pub quiet_tick : call m tick ≡ record { reply = refusing refusal.None; model = later m }
    unfolding call tick_refusal verdict
    quiet_tick = rw (le-ltb (horizon m.settings) n l) quiet_ticked
