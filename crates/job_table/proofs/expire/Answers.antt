-- `job_table::expire` meets its contract: those that stay are written over the first slots, and the slots after them become unused.
-- Assumes nothing.
use Prim.Native.Nat.{◌+◌, ◌-◌, ◌≤◌, ◌<◌}
use native.Mathlib.Omega.{arith}
use mathlib.Core.Path.{◌≡◌, refl, sym, ◌∙◌}
use lib.ListN.{length, get_or, replicate, length-replicate}
use borrow.Author.Tests.{lt-ltb, le-ltb}
use borrow.Author.Rules.{rules}
use Rattle.std.proofs.lemmas.Slice.{put_mid-paste}
use Rattle.std.proofs.lemmas.List.Sorted.{IsPartitionPoint-from_clause}
use Rattle.lists.specs.Pads.{pad}
use Rattle.scheduler.specs.Jobs.{unused, is_live_of}
use Rattle.jobs.specs.Slots.{slots_low, slots_orderly}
use Rattle.job_table.specs.Parts.{due_by, capped_min}
use Rattle.scheduler.specs.Model.{view}
use Rattle.job_table.specs.Compacting.{clears_at_once, still_there, gone_step, cleaning_step, released_step, kept_step, compacts_length}
use Rattle.scheduler.proofs.Lengths.{whole}
use Rattle.job_table.specs.Leaving.{tick_goes, tick_cleans, tick_releases, tick_stays, due_ends, due_leaves, due_stays, expires}
use Rattle.job_table.proofs.Live.{live_first, live_end}
use Rattle.job_table.proofs.expire.Goals.{After-partition_point-live, in-Ends+else-cleared, in-Ends+then-cleared, in-Leaves, in-Stays}
use Rattle.job_table.proofs.expire.Goals as goal

pub overflow_add-clock : goal.overflow_add-clock
unfolding view
overflow_add-clock c = omega (arith, c.requires.holds.clock_to)

pub loop-i-init : goal.loop-i-init
unfolding pad
loop-i-init c = record {
  low = search rules;
  listed = record { gone_low = search rules; gone_is = refl; list_is = refl };
  stored = record { kept_low = search rules; kept_is = refl; scheduler_is = refl };
}

-- the jobs that are gone over are the live ones
live : (c : After-partition_point-live) → c.partition_point-live.result ≡ length (view c.args.d).jobs
live c =
    let d = c.args.d in
    let clause = c.partition_point-live.ensures.partitioned in
    live_end d c.requires _ (IsPartitionPoint-from_clause is_live_of d.jobs _ clause (live_first d c.requires) (λ a b f k. search rules))

-- the slot is as it was
pub due_at-requires : goal.due_at-requires
due_at-requires c =
    let l = c.loop-i in
    let d = c.args.d in
    let len = whole d c.well_formed.0 in
    let h : l.i < 64 = omega (arith, live (goal.at.due_at-requires c).After-partition_point-live, c.requires.holds.few) in
    rw (still_there l.invariant len h) (slots_low d c.requires l.i (omega arith), slots_orderly d c.requires l.i (omega arith))

pub loop-i-preserved : goal.loop-i-preserved
unfolding view
loop-i-preserved c =
    let l = c.loop-i in
    let d = c.args.d in
    let S = d.settings in
    let now = d.clock + 1 in
    let len = whole d c.well_formed.0 in
    let h : l.i < 64 = omega (arith, live (goal.at.loop-i-preserved c).After-partition_point-live, c.requires.holds.few) in
    let x = get_or d.jobs l.i unused in
    let there = still_there l.invariant len h in
    let what : c.due_at.result ≡ due_by S now x = rw there at c.due_at.ensures in
    elim c.match-due_at.branch [
      | in-Ends+then-cleared w ↦ let e = due_ends S now x (sym what ∙ w.in-Ends.is) in
          rw (w.e-is, w.list-is, w.kept-is, w.gone-is, w.cleaning.ensures, there) (cleaning_step l.invariant len h e (tick_cleans S now x e (lt-ltb _ _ (rw c.cleanup-cleared.ensures at w.if-cleared.true))))
      | in-Ends+else-cleared w ↦ let e = due_ends S now x (sym what ∙ w.in-Ends.is) in
          rw (w.e-is, w.list-is, w.kept-is, w.gone-is, there) (gone_step l.invariant len h e (tick_goes S now x e (le-ltb _ _ (rw c.cleanup-cleared.ensures at w.if-cleared.false))))
      | in-Leaves w ↦ let e = due_leaves S now x (sym what ∙ w.in-Leaves.is) in
          rw (w.e-is, w.list-is, w.kept-is, w.gone-is) (released_step l.invariant len h e.0 (tick_releases S now x e.0 e.1))
      | in-Stays w ↦ let e = due_stays S now x (sym what ∙ w.in-Stays.is) in
          rw (w.e-is, w.list-is, w.kept-is, w.gone-is, there) (kept_step l.invariant len h e.0 (tick_stays S now x e.0 e.1))
    ]

pub returns : goal.returns
unfolding view
returns c =
    let l = c.loop-i in
    let d = c.args.d in
    let len = whole d c.well_formed.0 in
    let k = l.kept in
    let n = c.partition_point-live.result in
    let end : l.i ≡ n = omega (arith, c.loop-i-test.false, l.auto.i-end) in
    let low : n ≤ 64 = omega (arith, live (goal.at.returns c).After-partition_point-live, c.requires.holds.few) in
    let blank : c.fill.new.self ≡ replicate (n - k) unused = search rules in
    let all = put_mid-paste k (n - k) l.e.jobs c.fill.new.self (replicate (n - k) unused) (n - k) blank refl (sym (length-replicate (n - k) unused)) in
    rw (c.past_horizon.ensures, all)
    (expires d c.requires l.invariant len (clears_at_once k n l.e (compacts_length l.invariant len) (omega (arith, l.invariant.stored.kept_low)) low)
    (end ∙ live (goal.at.returns c).After-partition_point-live) (sym end) (c.min.ensures ∙ capped_min (d.clock + 1)))
