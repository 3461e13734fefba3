-- `script::later` meets its contract: each turn adds its lines to the page and takes them from what is left to print.
-- Assumes nothing.
use mathlib.Core.Path.{◌≡◌, refl, sym, ◌∙◌}
use Prim.Native.Nat.{◌+◌, ◌-◌, ◌≤◌}
use native.Mathlib.Omega.{arith}
use lib.ListN.{length}
use Rattle.paging.specs.Players.{Skips, Turned}
use Rattle.paging.specs.PageFilling.{Filling, filling_none, filling_skip, filling_less, filling_more, filled_full, filled_over}
use Rattle.scheduler.specs.Model.{view}
use Rattle.guarantees.specs.Premise.{premise_sound}
use Rattle.quiet_minutes.specs.QuietCount.{Ahead, ahead_none, slots_whole, slot_ready, asked_none, asked_more, asked_all}
use Rattle.quiet_minutes.specs.QuietTicks.{passed_over}
use Rattle.kept_calls.specs.KeptPoints.{KeptBeside, Passing, beside_handed, passed_none}
use Rattle.script_writing.specs.AnswerText.{page_bytes}
use Rattle.script_play.specs.Pieces.{going, piece_of}
use Rattle.script_play.specs.Progress.{InPlay}
use Rattle.script_play.proofs.Progress.{script_player}
use Rattle.script.specs.QuietWait.{in_time_lem, passes_quiet, passes_skips}
use Rattle.script.specs.PageTurns.{call_few, over_turned, call_turned, lacks_turned, wait_turned, refused_turned}
use Rattle.script.specs.PageFilling.{filled_as}
use Rattle.script.proofs.later.Goals.{After-put_answer-end, After-put_refusal-end, After-put_refusal-end-in-Malformed, In-loop-end, In-loop-i, Joined-minutes-gt0, Joined-steps-gt0, Start, Then-is_none}
use Rattle.script.proofs.later.Goals.{else-minutes-gt0, else-steps-gt0, then-minutes-gt0, then-steps-gt0+else-loop-i-test}
use Rattle.script.proofs.later.Goals as goal

-- a script that is being played is one from its place, steps and scheduler on
begun : (c : Start) → let p = c.args.p in InPlay c.args.script.now (going p.at p.steps p.scheduler)
begun c = let r = c.requires.0 in record { premise = r.premise; inside = r.inside; few = r.few }

room : (c : In-loop-end) → c.loop-end.end + page_bytes ≤ length c.loop-end.page
room c = omega (
  arith,
  c.loop-end.invariant.0.whole,
  c.page_len.ensures,
  c.requires.2,
  c.loop-end-test.true,
)

-- the minutes passed over are quiet: there are none where no step of a wait is left
ahead : (c : Joined-steps-gt0) → let l = c.loop-end in Ahead l.d l.steps c.if-steps-gt0.minutes
ahead c =
    let l = c.loop-end in
    elim c.if-steps-gt0.branch [
      | then-steps-gt0+else-loop-i-test w ↦ let x = w.loop-i in
          rw w.minutes-is (asked_all l.d w.latest-until.result x.until l.steps x.i (slots_whole l.d l.invariant.0.ready.premise) (omega (arith, w.loop-i-test.false)) x.invariant
          w.latest-until.ensures.1 w.latest-until.ensures.2)
      | else-steps-gt0 w ↦ rw w.minutes-is (ahead_none _ _)
    ]

passing : (c : Joined-steps-gt0)
    → let l = c.loop-end in
    let k = c.if-steps-gt0.minutes in
    Skips (script_player c.args.script.now)
    (going l.at l.steps l.d) (going l.at (l.steps - k) (passed_over l.d k))
passing c = let r = c.loop-end.invariant.0.ready in passes_skips _ r (passes_quiet _ r.premise (ahead c))

quiet-filling : (c : Joined-steps-gt0)
    → let a = c.args in
    let l = c.loop-end in
    let k = c.if-steps-gt0.minutes in
    Filling (script_player a.script.now) page_bytes (going a.p.at a.p.steps a.p.scheduler) (length a.page.now) l.page l.end
    (going l.at (l.steps - k) (passed_over l.d k))
quiet-filling c = filling_skip c.loop-end.invariant.0 (passing c)

-- the points can follow
abbrev passes : (c : Joined-steps-gt0)
    → let l = c.loop-end in
    let k = c.if-steps-gt0.minutes in
    Passing l.d.settings.kind (l.d.clock + k) l.count l.points l.free l.low l.high
passes c =
    let l = c.loop-end in
    record {
      scheduler = l.d;
      minutes = c.if-steps-gt0.minutes;
      premise = l.invariant.0.ready.premise;
      beside = l.invariant.1;
      kind_is = refl;
      clock_is = refl;
      until = in_time_lem (going l.at l.steps l.d) l.invariant.0.ready.premise (ahead c);
    }

call-turn : (c : After-put_answer-end)
    → Turned page_bytes (piece_of c.args.script.now (going c.loop-end.at (c.loop-end.steps - c.if-steps-gt0.minutes) (passed_over c.loop-end.d c.if-steps-gt0.minutes))) c.loop-end.page c.loop-end.end c.put_answer-end.new.page c.put_answer-end.result (going c.next_turn-next.result.at c.next_turn-next.result.steps c.call-kept.result.outcome.scheduler)
call-turn c =
    call_turned _ _ _ _ _ c.next_turn-next.ensures _ c.in-Some.is _
    c.in-Call.is _ c.call-kept.ensures.0 c.put_answer-end.ensures

wait-turn : (c : Then-is_none)
    → Turned page_bytes (piece_of c.args.script.now (going c.loop-end.at (c.loop-end.steps - c.if-steps-gt0.minutes) (passed_over c.loop-end.d c.if-steps-gt0.minutes))) c.loop-end.page c.loop-end.end c.loop-end.page c.loop-end.end (going c.next_turn-next.result.at c.in-Wait.n (passed_over c.loop-end.d c.if-steps-gt0.minutes))
wait-turn c =
    wait_turned _ _ _ _ _ c.next_turn-next.ensures _ c.in-Some.is _
    c.in-Wait.is _ c.wait_refusal-reason.ensures _ _
    (sym c.is_none.ensures ∙ c.if-is_none.true)

refused-turn : (c : After-put_refusal-end)
    → Turned page_bytes (piece_of c.args.script.now (going c.loop-end.at (c.loop-end.steps - c.if-steps-gt0.minutes) (passed_over c.loop-end.d c.if-steps-gt0.minutes))) c.loop-end.page c.loop-end.end c.put_refusal-end.new.page c.put_refusal-end.result (going c.next_turn-next.result.at c.next_turn-next.result.steps (passed_over c.loop-end.d c.if-steps-gt0.minutes))
refused-turn c =
    refused_turned _ _ _ _ _ c.next_turn-next.ensures _ c.in-Some.is _
    c.in-Wait.is _ c.wait_refusal-reason.ensures
    (sym c.is_none.ensures ∙ c.if-is_none.false)
    c.put_refusal-end.ensures

lacks-turn : (c : After-put_refusal-end-in-Malformed)
    → Turned page_bytes (piece_of c.args.script.now (going c.loop-end.at (c.loop-end.steps - c.if-steps-gt0.minutes) (passed_over c.loop-end.d c.if-steps-gt0.minutes))) c.loop-end.page c.loop-end.end c.put_refusal-end-in-Malformed.new.page c.put_refusal-end-in-Malformed.result (going c.next_turn-next.result.at c.next_turn-next.result.steps (passed_over c.loop-end.d c.if-steps-gt0.minutes))
lacks-turn c = lacks_turned _ _ _ _ _ c.next_turn-next.ensures _ c.in-Some.is
    c.in-Malformed.is c.put_refusal-end-in-Malformed.ensures

-- the slots of the scheduler are 64
whole : (c : In-loop-i) → length c.loop-end.d.jobs ≡ 64
whole c = let l = c.loop-end in slots_whole l.d l.invariant.0.ready.premise

-- the points after the minutes passed over
kept-over : (c : Joined-minutes-gt0)
    → Ahead c.loop-end.d c.loop-end.steps c.if-steps-gt0.minutes
    → KeptBeside (view (passed_over c.loop-end.d c.if-steps-gt0.minutes)) c.if-minutes-gt0.count c.if-minutes-gt0.points c.if-minutes-gt0.free c.if-minutes-gt0.low c.if-minutes-gt0.high
kept-over c quiet =
    let l = c.loop-end in
    let following : Passing l.d.settings.kind (l.d.clock + c.if-steps-gt0.minutes) l.count l.points l.free l.low l.high = record {
      scheduler = l.d;
      minutes = c.if-steps-gt0.minutes;
      premise = l.invariant.0.ready.premise;
      beside = l.invariant.1;
      kind_is = refl;
      clock_is = refl;
      until = in_time_lem (going l.at l.steps l.d) l.invariant.0.ready.premise quiet;
    } in
    elim c.if-minutes-gt0.branch [
      | then-minutes-gt0 x ↦ rw (x.points-is, x.free-is, x.low-is, x.high-is, x.count-is) (x.pass_over-count.ensures following)
      | else-minutes-gt0 x ↦ rw (x.points-is, x.free-is, x.low-is, x.high-is, x.count-is) (passed_none l.d c.if-steps-gt0.minutes (omega (arith, x.if-minutes-gt0.false)) l.invariant.1)
    ]

pub overflow_sub-last : goal.overflow_sub-last
overflow_sub-last c = omega (arith, c.page_len.ensures, c.requires.2)

pub begin-count-requires : goal.begin-count-requires
begin-count-requires c = ((begun (goal.at.begin-count-requires c).Start).premise, refl, refl, refl, refl)

pub loop-end-init : goal.loop-end-init
loop-end-init c =
    (filling_none _ c.requires.2 (begun (goal.at.loop-end-init c).Start), c.begin-count.ensures)

-- ## The quiet minutes
pub latest-until-requires : goal.latest-until-requires
unfolding view
latest-until-requires c = let l = c.loop-end in (premise_sound l.d l.invariant.0.ready.premise).clock_to

pub loop-i-init : goal.loop-i-init
loop-i-init c = asked_none c.loop-end.d c.latest-until.result c.latest-until.ensures.0

pub offset_bounds-d-i : goal.offset_bounds-d-i
offset_bounds-d-i c = omega (arith, whole c)

pub bounds-d-i : goal.bounds-d-i
bounds-d-i c = omega (arith, whole c)

pub quiet_of-until-requires : goal.quiet_of-until-requires
quiet_of-until-requires c =
    let x = c.loop-i in
    let l = c.loop-end in
    let r = slot_ready l.d l.invariant.0.ready.premise x.i (omega (arith, whole (goal.at.quiet_of-until-requires c).In-loop-i)) in
    (r.0, r.1, x.invariant.from)

pub loop-i-preserved : goal.loop-i-preserved
loop-i-preserved c =
    let x = c.loop-i in
    let l = c.loop-end in
    let e = c.quiet_of-until.ensures in
    asked_more l.d _ x.until c.quiet_of-until.result x.i (whole (goal.at.loop-i-preserved c).In-loop-i) (omega arith) x.invariant e.0 e.1 e.2

pub overflow_sub-minutes : goal.overflow_sub-minutes
overflow_sub-minutes c = omega (arith, c.loop-i.invariant.from)

pub overflow_add-d : goal.overflow_add-d
overflow_add-d c =
    let l = c.loop-end in
    omega (arith, in_time_lem (going l.at l.steps l.d) l.invariant.0.ready.premise (ahead (goal.at.overflow_add-d c).Joined-steps-gt0))

pub overflow_sub-steps : goal.overflow_sub-steps
overflow_sub-steps c = omega (arith, (ahead (goal.at.overflow_sub-steps c).Joined-steps-gt0).few)

pub pass_over-count-requires : goal.pass_over-count-requires
pass_over-count-requires c =
    passes (goal.at.pass_over-count-requires c).Joined-steps-gt0

pub call-kept-requires : goal.call-kept-requires
call-kept-requires c =
    ((quiet-filling (goal.at.call-kept-requires c).Joined-steps-gt0).ready.premise, kept-over (goal.at.call-kept-requires c).Joined-minutes-gt0 (ahead (goal.at.call-kept-requires c).Joined-steps-gt0))

pub put_answer-end-requires : goal.put_answer-end-requires
put_answer-end-requires c =
    let f = call_few _ _ _ c.call-kept.ensures.0 (quiet-filling (goal.at.put_answer-end-requires c).Joined-steps-gt0).ready.premise in
    (f.0, f.1, room (goal.at.put_answer-end-requires c).In-loop-end)

pub loop-end-smaller-in-Call : goal.loop-end-smaller-in-Call
loop-end-smaller-in-Call c = omega (arith, filling_less (quiet-filling (goal.at.loop-end-smaller-in-Call c).Joined-steps-gt0) (omega arith) (call-turn (goal.at.loop-end-smaller-in-Call c).After-put_answer-end), (passing (goal.at.loop-end-smaller-in-Call c).Joined-steps-gt0).no_more)

pub loop-end-preserved-in-Call : goal.loop-end-preserved-in-Call
loop-end-preserved-in-Call c =
    let e = c.call-kept.ensures in
    (filling_more (quiet-filling (goal.at.loop-end-preserved-in-Call c).Joined-steps-gt0) (omega arith) (call-turn (goal.at.loop-end-preserved-in-Call c).After-put_answer-end) (room (goal.at.loop-end-preserved-in-Call c).In-loop-end), beside_handed _ _ _ (quiet-filling (goal.at.loop-end-preserved-in-Call c).Joined-steps-gt0).ready.premise e.0 e.1)

pub wait_refusal-reason-requires : goal.wait_refusal-reason-requires
wait_refusal-reason-requires c = (quiet-filling (goal.at.wait_refusal-reason-requires c).Joined-steps-gt0).ready.premise

pub loop-end-smaller-then-is_none : goal.loop-end-smaller-then-is_none
loop-end-smaller-then-is_none c = omega (arith, filling_less (quiet-filling (goal.at.loop-end-smaller-then-is_none c).Joined-steps-gt0) (omega arith) (wait-turn c), (passing (goal.at.loop-end-smaller-then-is_none c).Joined-steps-gt0).no_more)

pub loop-end-preserved-then-is_none : goal.loop-end-preserved-then-is_none
loop-end-preserved-then-is_none c = (filling_more (quiet-filling (goal.at.loop-end-preserved-then-is_none c).Joined-steps-gt0) (omega arith) (wait-turn c) (room (goal.at.loop-end-preserved-then-is_none c).In-loop-end), kept-over (goal.at.loop-end-preserved-then-is_none c).Joined-minutes-gt0 (ahead (goal.at.loop-end-preserved-then-is_none c).Joined-steps-gt0))

pub put_refusal-end-requires : goal.put_refusal-end-requires
put_refusal-end-requires c = omega (arith, room (goal.at.put_refusal-end-requires c).In-loop-end)

pub loop-end-smaller-in-Wait : goal.loop-end-smaller-in-Wait
loop-end-smaller-in-Wait c = omega (arith, filling_less (quiet-filling (goal.at.loop-end-smaller-in-Wait c).Joined-steps-gt0) (omega arith) (refused-turn (goal.at.loop-end-smaller-in-Wait c).After-put_refusal-end), (passing (goal.at.loop-end-smaller-in-Wait c).Joined-steps-gt0).no_more)

pub loop-end-preserved-in-Wait : goal.loop-end-preserved-in-Wait
loop-end-preserved-in-Wait c = (filling_more (quiet-filling (goal.at.loop-end-preserved-in-Wait c).Joined-steps-gt0) (omega arith) (refused-turn (goal.at.loop-end-preserved-in-Wait c).After-put_refusal-end) (room (goal.at.loop-end-preserved-in-Wait c).In-loop-end), kept-over (goal.at.loop-end-preserved-in-Wait c).Joined-minutes-gt0 (ahead (goal.at.loop-end-preserved-in-Wait c).Joined-steps-gt0))

pub put_refusal-end-requires-in-Malformed : goal.put_refusal-end-requires-in-Malformed
put_refusal-end-requires-in-Malformed c = omega (arith, room (goal.at.put_refusal-end-requires-in-Malformed c).In-loop-end)

pub loop-end-smaller : goal.loop-end-smaller
loop-end-smaller c = omega (arith, filling_less (quiet-filling (goal.at.loop-end-smaller c).Joined-steps-gt0) (omega arith) (lacks-turn (goal.at.loop-end-smaller c).After-put_refusal-end-in-Malformed), (passing (goal.at.loop-end-smaller c).Joined-steps-gt0).no_more)

pub loop-end-preserved : goal.loop-end-preserved
loop-end-preserved c = (filling_more (quiet-filling (goal.at.loop-end-preserved c).Joined-steps-gt0) (omega arith) (lacks-turn (goal.at.loop-end-preserved c).After-put_refusal-end-in-Malformed) (room (goal.at.loop-end-preserved c).In-loop-end), kept-over (goal.at.loop-end-preserved c).Joined-minutes-gt0 (ahead (goal.at.loop-end-preserved c).Joined-steps-gt0))

pub shape_of-page-in-None : goal.shape_of-page-in-None
shape_of-page-in-None c = c.loop-end.invariant.0.whole

pub returns-in-None : goal.returns-in-None
returns-in-None c =
    filled_as c.requires.1
    (filled_over (filling_more (quiet-filling (goal.at.returns-in-None c).Joined-steps-gt0) (omega arith) (over_turned _ _ _ _ _ c.next_turn-next.ensures _ _ c.in-None.is)
    (room (goal.at.returns-in-None c).In-loop-end)) refl)

pub shape_of-page : goal.shape_of-page
shape_of-page c = c.loop-end.invariant.0.whole

pub returns : goal.returns
returns c =
    filled_as c.requires.1
    (filled_full c.loop-end.invariant.0
    (omega (arith, c.loop-end.invariant.0.whole, c.page_len.ensures, c.requires.2, c.loop-end-test.false)))
