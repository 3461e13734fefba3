-- `season_turns::put_due` meets its contract: the lines of the jobs looked at stand in the page.
-- Assumes nothing.
use mathlib.Core.Path.{◌≡◌, sym, subst, ◌∙◌}
use mathlib.Core.List.{List}
use Prim.Native.Nat.{ℕ, ◌+◌, ◌*◌, ◌≤◌, ◌<◌}
use native.Mathlib.Omega.{arith}
use lib.ListN.{length, take}
use lib.Seq.{take_all}
use Rattle.lists.specs.Lists.{keep}
use Rattle.text.specs.WrittenBytes.{Wrote, wrote_none, with_room, same_size}
use Rattle.scheduler.specs.declared.Job.{Job}
use Rattle.scheduler.specs.Jobs.{ends_at}
use Rattle.scheduler.specs.Model.{view}
use Rattle.guarantees.specs.Premise.{premise_sound}
use Rattle.script_writing.specs.AnswerText.{page_bytes}
use Rattle.quiet_minutes.specs.QuietCount.{slots_whole, slot_ready}
use Rattle.season_turns.specs.UsedSlots.{rest_unused}
use Rattle.season_turns.specs.DueRows.{rows_by, written_skip, written_more, due_front}
use Rattle.season_turns.proofs.put_due.Goals.{At-loop-j}
use Rattle.season_turns.proofs.put_due.Goals as goal

whole : (c : At-loop-j) → length c.args.d.jobs ≡ 64
whole c = slots_whole c.args.d c.requires.0

room : (c : At-loop-j) → c.loop-j.j-index < 64 → c.loop-j.p + 33 ≤ length c.loop-j.page
room c h = omega (arith, c.loop-j.invariant.1.place, c.loop-j.invariant.1.few, same_size c.loop-j.invariant.1, c.requires.1)

clock_low : (c : At-loop-j) → c.args.d.clock ≤ 1000000
unfolding view
clock_low c = (premise_sound c.args.d c.requires.0).clock_to

pub loop-j-init : goal.loop-j-init
loop-j-init c = (omega arith, wrote_none _ _ _)

pub overflow_add-d : goal.overflow_add-d
overflow_add-d c = omega (arith, clock_low (goal.at.overflow_add-d c).At-loop-j)

pub put_ended-p-requires : goal.put_ended-p-requires
put_ended-p-requires c =
    (room (goal.at.put_ended-p-requires c).At-loop-j (omega arith), (slot_ready c.args.d c.requires.0 c.loop-j.j-index (omega (arith, whole (goal.at.put_ended-p-requires c).At-loop-j))).0.0)

pub loop-j-preserved : goal.loop-j-preserved
loop-j-preserved c =
    let a = c.args in (
      omega arith,
      written_more a.arrivals.now a.actuals.now a.d.settings _ c.args.d.jobs c.loop-j.j-index (omega (arith, whole (goal.at.loop-j-preserved c).At-loop-j)) c.loop-j.invariant.1
          (sym c.ends_at.ensures ∙ c.if-not-ends_at.false) c.at_ticket-arrival.ensures
          c.at_ticket-actual.ensures c.put_ended-p.ensures,
    )

pub loop-j-preserved-then-not-ends_at : goal.loop-j-preserved-then-not-ends_at
loop-j-preserved-then-not-ends_at c =
    let a = c.args in (
      omega arith,
      written_skip a.arrivals.now a.actuals.now a.d.settings _ c.args.d.jobs c.loop-j.j-index (omega (arith, whole (goal.at.loop-j-preserved-then-not-ends_at c).At-loop-j)) c.loop-j.invariant.1
          (sym c.ends_at.ensures ∙ c.if-not-ends_at.true),
    )

pub shape_of-page-then-not-is_live : goal.shape_of-page-then-not-is_live
shape_of-page-then-not-is_live c = same_size c.loop-j.invariant.1

-- past a slot that is not live nothing is due
pub returns-then-not-is_live : goal.returns-then-not-is_live
returns-then-not-is_live c =
    let a = c.args in
    let e = sym c.is_live.ensures ∙ c.if-not-is_live.true in
    with_room (subst (λ (t : List ℕ). Wrote (33 * c.loop-j.j-index) a.page.now a.at t c.loop-j.page c.loop-j.p)
    (due_front a.arrivals.now a.actuals.now a.d c.loop-j.j-index (rest_unused a.d c.requires.0 c.loop-j.j-index e)) c.loop-j.invariant.1) page_bytes
    (omega (arith, c.loop-j.invariant.0))

pub shape_of-page : goal.shape_of-page
shape_of-page c = same_size c.loop-j.invariant.1

pub returns : goal.returns
returns c =
    let d = c.args.d in
    let all : take c.loop-j.j-index d.jobs ≡ d.jobs = take_all c.loop-j.j-index d.jobs (omega (arith, whole (goal.at.returns c).At-loop-j, c.loop-j-test.false)) in
    let a = c.args in
    with_room (subst (λ (js : List Job). Wrote (33 * c.loop-j.j-index) a.page.now a.at
    (rows_by a.arrivals.now a.actuals.now d.settings (keep (ends_at d.settings (d.clock + 1)) js)) c.loop-j.page c.loop-j.p) all c.loop-j.invariant.1) page_bytes
    (omega (arith, c.loop-j.invariant.0))
