-- `migration::migrate` meets its contract: it is the turn of slot i, and the lists are the profile of the plan and its index.
-- Assumes nothing.
use mathlib.Core.Path.{◌≡◌, refl, sym, ap, ◌∙◌}
use mathlib.Core.List.{List}
use Prim.Native.Nat.{◌<◌}
use native.Mathlib.Omega.{arith}
use Rattle.scheduler.specs.declared.Job.{Job}
use Rattle.scheduler.specs.declared.Scheduler.{Scheduler}
use Rattle.scheduler.specs.Table.{with_jobs}
use Rattle.scheduler.specs.Model.{view}
use Rattle.conservative_index.specs.BuiltIndex.{built_none}
use Rattle.jobs.specs.Slots.{slots_all}
use Rattle.migration.specs.HeldSlots.{sound_of, slots_blank, fits, holders_few}
use Rattle.migration.specs.Replanning.{replanning_begins, replanning_ends, kept_turn, searches, span_low, lays, planned_turn, changed_scheduler}
use Rattle.migration.proofs.migrate.Goals.{else-is_waiting, then-is_waiting}
use Rattle.migration.proofs.migrate.Goals as goal

pub hold_slots-requires : goal.hold_slots-requires
hold_slots-requires c =
    let d = c.args.d in
    let s = sound_of d c.requires in
    (slots_all d s, slots_blank d s)

pub tabulate_slots-count-requires : goal.tabulate_slots-count-requires
tabulate_slots-count-requires c = rw (c.promise_settings-settings.ensures, c.hold_slots.ensures) (fits c.args.d c.requires, refl, refl)

pub build-requires : goal.build-requires
build-requires c =
    let t = rw (c.promise_settings-settings.ensures, c.hold_slots.ensures) at c.tabulate_slots-count.ensures in
    (built_none refl refl, t.free_long, holders_few c.args.d c.requires t, omega arith)

pub loop-i-init : goal.loop-i-init
unfolding view
loop-i-init c =
    record {
      settings-are = c.promise_settings-settings.ensures;
      scheduler_is = refl;
      turn = replanning_begins c.requires.holds (ap (λ (e : Scheduler). e.jobs) c.requires.stored) (rw (c.promise_settings-settings.ensures, c.hold_slots.ensures) at c.tabulate_slots-count.ensures) c.build.ensures;
    }

pub search-found-requires : goal.search-found-requires
unfolding view
search-found-requires c =
    let g = c.loop-i.invariant in
    searches g.turn (omega (arith, c.loop-i-test.true)) (sym c.is_waiting.ensures ∙ c.if-is_waiting.true) (rw g.settings-are at c.hold_time-hold.ensures)

pub span-taken-requires : goal.span-taken-requires
unfolding view
span-taken-requires c =
    let g = c.loop-i.invariant in
    span_low g.turn (omega (arith, c.loop-i-test.true)) (sym c.is_waiting.ensures ∙ c.if-is_waiting.true)
    (rw g.settings-are at c.hold_time-hold.ensures) c.search-found.ensures

pub take_in-count-requires : goal.take_in-count-requires
unfolding view
take_in-count-requires c =
    let g = c.loop-i.invariant in
    rw c.span-taken.ensures (
      lays g.turn (omega (arith, c.loop-i-test.true)) (sym c.is_waiting.ensures ∙ c.if-is_waiting.true)
          (rw g.settings-are at c.hold_time-hold.ensures) c.search-found.ensures,
      g.turn.indexed,
    )

-- a store into a slot leaves the rest of the scheduler as it was, whatever is stored
rest_stays : (d e : Scheduler) (js : List Job) → e ≡ with_jobs d e.jobs → with_jobs e js ≡ with_jobs d js
rest_stays d e js q = ap (λ (f : Scheduler). with_jobs f js) q

pub loop-i-preserved : goal.loop-i-preserved
unfolding view
loop-i-preserved c =
    let g = c.loop-i.invariant in
    let low : c.loop-i.i < 64 = omega arith in
    record {
      settings-are = g.settings-are;
      scheduler_is = rest_stays c.args.d c.loop-i.e _ g.scheduler_is;
      turn = rw c.kept.ensures
          (elim c.if-is_waiting.branch [
            | then-is_waiting x ↦ rw (x.minutes-is, x.free-is, x.count-is, x.low-is, x.high-is, x.j-is, x.place-j.ensures)
                (planned_turn g.turn low (sym c.is_waiting.ensures ∙ x.if-is_waiting.true) (rw g.settings-are at x.hold_time-hold.ensures) x.search-found.ensures
                (rw x.span-taken.ensures at x.take_in-count.ensures))
            | else-is_waiting x ↦ rw (x.minutes-is, x.free-is, x.count-is, x.low-is, x.high-is, x.j-is) (kept_turn g.turn low (sym c.is_waiting.ensures ∙ x.if-is_waiting.false))
          ]);
    }

pub returns : goal.returns
returns c =
    let g = c.loop-i.invariant in
    rw g.settings-are (changed_scheduler _ c.loop-i.e g.scheduler_is (replanning_ends g.turn (omega (arith, c.loop-i-test.false))))
