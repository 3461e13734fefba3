-- `season_filling::later` meets its contract: each turn adds its lines to the page and takes them from what is left to print.
-- Assumes nothing.
use mathlib.Core.Path.{◌≡◌, refl, sym, ap, subst, ◌∙◌}
use mathlib.Core.List.{List}
use mathlib.Core.Bool.{Bool}
use Prim.Native.Nat.{ℕ, ◌+◌, ◌-◌, ◌≤◌, ◌<◌}
use native.Mathlib.Omega.{arith}
use lib.ListN.{length}
use Rattle.paging.specs.Players.{Turned, Skips}
use Rattle.paging.specs.PageFilling.{Filled, filling_none, filling_skip, filling_less, filling_more, filled_full, filled_over}
use Rattle.scheduler.specs.declared.Scheduler.{Scheduler}
use Rattle.scheduler.specs.Model.{view}
use Rattle.quiet_minutes.specs.QuietTicks.{passed_over}
use Rattle.quiet_minutes.specs.QuietCount.{slots_whole, slot_ready}
use Rattle.kept_calls.specs.KeptPoints.{KeptBeside, Passing, beside_handed}
use Rattle.script_writing.specs.AnswerText.{page_bytes}
use Rattle.script_play.specs.declared.Stage.TheVariants.{Playing}
use Rattle.season_rules.specs.Season.{turns_left}
use Rattle.season_laws.specs.Progress.{some_left}
use Rattle.season_play.specs.declared.Standing.{Standing}
use Rattle.season_play.specs.Places.{Place, place, going, later_piece, season_of, InPlay}
use Rattle.season_play.specs.SeasonPlayer.{season_player}
use Rattle.season_turns.specs.declared.Coming.{Coming}
use Rattle.season_turns.specs.NextTurn.{coming_of}
use Rattle.season_filling.specs.Pieces.{ends_slot, ends_turned, refuses_turned, taken_turned, turned_away, ticket_range, steps_turned, over_turned}
use Rattle.season_filling.specs.QuietMinutes.{steps_range, passes, passes_less}
use Rattle.season_filling.proofs.later.Goals.{After-call-kept, After-call-kept-in-Steps, After-note-then-is_none, After-put_refusal-end-in-Arrives, After-read_ahead-ahead-in-Refuses, In-loop-end, Start, Then-d-until, Then-is_none}
use Rattle.season_filling.proofs.later.Goals as goal

-- a season that is being played is one from its place, lines and scheduler on
begun : (c : Start) → let a = c.args in InPlay a.list.now (place (going a.p.at a.p.above a.p.highest a.p.scheduler) a.arrivals.now a.actuals.now)
begun c =
    let r = c.requires.0 in
    record {
      premise = r.premise;
      no_least = r.no_least;
      inside = r.inside;
      few = r.few;
      most = r.most;
      arrivals_whole = r.arrivals_whole;
      actuals_whole = r.actuals_whole;
    }

room : (c : In-loop-end) → c.loop-end.end + page_bytes ≤ length c.loop-end.page
room c = omega (arith, c.loop-end.invariant.0.whole, c.page_len.ensures, c.requires.2, c.loop-end-test.true)

-- what is found
found : (f : Bool → Coming) {r w : Coming} {b b' : Bool} → r ≡ w → r ≡ f b → b ≡ b' → w ≡ f b'
found f e n b = sym e ∙ n ∙ ap f b

-- ## A job ends at its actual run length
end-turn : (c : After-call-kept)
    → let l = c.loop-end in
    Turned page_bytes (later_piece c.args.list.now (place (going l.at l.above l.highest l.d) l.arrivals l.actuals)) l.page l.end c.put_ended-end.new.page c.put_ended-end.result
    (place (going l.at l.above l.highest c.call-kept.result.outcome.scheduler) l.arrivals l.actuals)
end-turn c =
    let l = c.loop-end in
    ends_turned _ _ _ _ _ _ _ l.invariant.0.ready l.invariant.2 _ c.ending_slot-ending.ensures _
    (found (coming_of c.ending_slot-ending.result c.loop-end.ahead.listed c.loop-end.highest c.loop-end.d.clock) c.in-Ends.is c.next_turn-coming.ensures c.is_live.ensures) _ c.call-kept.ensures.0
    c.at_ticket-arrival.ensures c.at_ticket-actual.ensures c.put_ended-end.ensures

refused-turn : (c : After-read_ahead-ahead-in-Refuses)
    → let l = c.loop-end in
    Turned page_bytes (later_piece c.args.list.now (place (going l.at l.above l.highest l.d) l.arrivals l.actuals)) l.page l.end c.put_refusal-end.new.page c.put_refusal-end.result
    (place (going l.ahead.next c.one_more-above.result c.highest_with-highest.result l.d) l.arrivals l.actuals)
refused-turn c =
    let l = c.loop-end in
    refuses_turned _ _ _ _ _ _ _ l.invariant.0.ready l.invariant.2 _ c.ending_slot-ending.ensures refl c.one_more-above.ensures c.highest_with-highest.ensures _
    (found (coming_of c.ending_slot-ending.result c.loop-end.ahead.listed c.loop-end.highest c.loop-end.d.clock) c.in-Refuses.is c.next_turn-coming.ensures c.is_live.ensures) c.put_refusal-end.ensures

given-ticket : (c : Then-is_none)
    → (1 ≤ c.call-kept-in-Arrives.result.outcome.answer.ticket) × (c.call-kept-in-Arrives.result.outcome.answer.ticket ≤ 4096)
given-ticket c =
    let l = c.loop-end in
    ticket_range _ _ _ _ _ _ _ l.invariant.0.ready l.invariant.2 _ c.ending_slot-ending.ensures refl c.one_more-above-in-Arrives.ensures c.highest_with-highest-in-Arrives.ensures _
    (found (coming_of c.ending_slot-ending.result c.loop-end.ahead.listed c.loop-end.highest c.loop-end.d.clock) c.in-Arrives.is c.next_turn-coming.ensures c.is_live.ensures) _ c.call-kept-in-Arrives.ensures.0
    (sym c.is_none.ensures ∙ c.if-is_none.true)

taken-turn : (c : After-note-then-is_none)
    → let l = c.loop-end in
    Turned page_bytes (later_piece c.args.list.now (place (going l.at l.above l.highest l.d) l.arrivals l.actuals)) l.page l.end l.page l.end
    (place (going l.ahead.next c.one_more-above-in-Arrives.result c.highest_with-highest-in-Arrives.result c.call-kept-in-Arrives.result.outcome.scheduler)
    c.note.new.list c.note-then-is_none.new.list)
taken-turn c =
    let l = c.loop-end in
    taken_turned _ _ _ _ _ _ _ l.invariant.0.ready l.invariant.2 _ c.ending_slot-ending.ensures refl c.one_more-above-in-Arrives.ensures c.highest_with-highest-in-Arrives.ensures _
    (found (coming_of c.ending_slot-ending.result c.loop-end.ahead.listed c.loop-end.highest c.loop-end.d.clock) c.in-Arrives.is c.next_turn-coming.ensures c.is_live.ensures) _ c.call-kept-in-Arrives.ensures.0 _ _ c.note.ensures c.note-then-is_none.ensures
    (sym c.is_none.ensures ∙ c.if-is_none.true)

away-turn : (c : After-put_refusal-end-in-Arrives)
    → let l = c.loop-end in
    Turned page_bytes (later_piece c.args.list.now (place (going l.at l.above l.highest l.d) l.arrivals l.actuals)) l.page l.end c.put_refusal-end-in-Arrives.new.page c.put_refusal-end-in-Arrives.result
    (place (going l.ahead.next c.one_more-above-in-Arrives.result c.highest_with-highest-in-Arrives.result c.call-kept-in-Arrives.result.outcome.scheduler) l.arrivals l.actuals)
away-turn c =
    let l = c.loop-end in
    turned_away _ _ _ _ _ _ _ l.invariant.0.ready l.invariant.2 _ c.ending_slot-ending.ensures refl c.one_more-above-in-Arrives.ensures c.highest_with-highest-in-Arrives.ensures _
    (found (coming_of c.ending_slot-ending.result c.loop-end.ahead.listed c.loop-end.highest c.loop-end.d.clock) c.in-Arrives.is c.next_turn-coming.ensures c.is_live.ensures) _ c.call-kept-in-Arrives.ensures.0
    (sym c.is_none.ensures ∙ c.if-is_none.false) c.put_refusal-end-in-Arrives.ensures

beside-as : {d d' : Scheduler} {n : ℕ} {ms fs lo hi : List ℕ} → d ≡ d' → KeptBeside (view d) n ms fs lo hi → KeptBeside (view d') n ms fs lo hi
beside-as {d} {d'} {n} {ms} {fs} {lo} {hi} e b = subst (λ (x : Scheduler). KeptBeside (view x) n ms fs lo hi) e b

moved : (c : Then-d-until)
    → let l = c.loop-end in
    passed_over l.d (c.quiet_until-until.result - l.d.clock)
    ≡ record { settings = l.d.settings; clock = c.quiet_until-until.result; next = l.d.next; jobs = l.d.jobs }
moved c =
    let l = c.loop-end in
    let u = c.quiet_until-until in
    let e : l.d.clock + (u.result - l.d.clock) ≡ u.result = omega (arith, u.ensures.from) in
    λ i. record { settings = l.d.settings; clock = e i; next = l.d.next; jobs = l.d.jobs }

abbrev following : (c : Then-d-until)
    → let l = c.loop-end in
    Passing l.d.settings.kind c.quiet_until-until.result l.count l.points l.free l.low l.high
following c =
    let l = c.loop-end in
    let u = c.quiet_until-until in
    record {
      scheduler = l.d;
      minutes = u.result - l.d.clock;
      premise = l.invariant.0.ready.premise;
      beside = l.invariant.1;
      kind_is = refl;
      clock_is = omega (arith, u.ensures.from);
      until = omega (
        arith,
        u.ensures.to,
        (steps_range _ _ _ _ _ _ _ l.invariant.0.ready l.invariant.2 _ c.ending_slot-ending.ensures _ (found (coming_of c.ending_slot-ending.result c.loop-end.ahead.listed c.loop-end.highest c.loop-end.d.clock) c.in-Steps.is c.next_turn-coming.ensures c.is_live.ensures)).1,
      );
    }

skips : (c : Then-d-until)
    → let l = c.loop-end in
    let s = c.args.list.now in
    let p = place (going l.at l.above l.highest l.d) l.arrivals l.actuals in
    let r = place (going l.at l.above l.highest (record { settings = l.d.settings; clock = c.quiet_until-until.result; next = l.d.next; jobs = l.d.jobs })) l.arrivals l.actuals in
    Skips (season_player s) p r × (turns_left (season_of s r) < turns_left (season_of s p))
skips c =
    let l = c.loop-end in
    let s = c.args.list.now in
    let p = place (going l.at l.above l.highest l.d) l.arrivals l.actuals in
    let f = found (coming_of c.ending_slot-ending.result c.loop-end.ahead.listed c.loop-end.highest c.loop-end.d.clock) c.in-Steps.is c.next_turn-coming.ensures c.is_live.ensures in
    let e = c.ending_slot-ending.ensures in
    let u = c.quiet_until-until.ensures in
    subst (λ (x : Scheduler). let r = place (going l.at l.above l.highest x) l.arrivals l.actuals in
    Skips (season_player s) p r × (turns_left (season_of s r) < turns_left (season_of s p))) (moved c)
    (passes _ _ _ _ _ _ _ l.invariant.0.ready l.invariant.2 _ e _ f u, passes_less _ _ _ _ _ _ _ l.invariant.0.ready l.invariant.2 _ e _ f u c.if-d-until.true)

step-turn : (c : After-call-kept-in-Steps)
    → let l = c.loop-end in
    Turned page_bytes (later_piece c.args.list.now (place (going l.at l.above l.highest l.d) l.arrivals l.actuals)) l.page l.end c.put_due-end.new.page c.put_due-end.result
    (place (going l.at l.above l.highest c.call-kept-in-Steps.result.outcome.scheduler) l.arrivals l.actuals)
step-turn c =
    let l = c.loop-end in
    steps_turned _ _ _ _ _ _ _ l.invariant.0.ready l.invariant.2 _ c.ending_slot-ending.ensures _
    (found (coming_of c.ending_slot-ending.result c.loop-end.ahead.listed c.loop-end.highest c.loop-end.d.clock) c.in-Steps.is c.next_turn-coming.ensures c.is_live.ensures) _ c.call-kept-in-Steps.ensures.0 c.put_due-end.ensures

-- ## The end
filled_as : {l page : List ℕ} {g : Standing} {xs ys : List ℕ} {end : ℕ} {q : Place} → g.stage ≡ Playing
    → Filled (season_player l) (place (going g.at g.above g.highest g.scheduler) xs ys) page end q → Filled (season_player l) (place g xs ys) page end q
filled_as {l} {page} {g} {xs} {ys} {end} {q} e f =
    subst (λ (p : Place). Filled (season_player l) p page end q)
    (λ i. place (record { stage = sym e i; at = g.at; above = g.above; highest = g.highest; scheduler = g.scheduler }) xs ys) f

pub overflow_sub-last : goal.overflow_sub-last
overflow_sub-last c = omega (arith, c.page_len.ensures, c.requires.2)

pub begin-count-requires : goal.begin-count-requires
begin-count-requires c = ((begun (goal.at.begin-count-requires c).Start).premise, refl, refl, refl, refl)

pub loop-end-init : goal.loop-end-init
loop-end-init c = (filling_none _ c.requires.2 (begun (goal.at.loop-end-init c).Start), c.begin-count.ensures, c.read_ahead-ahead.ensures)

-- ## The next turn
pub ending_slot-ending-requires : goal.ending_slot-ending-requires
ending_slot-ending-requires c = c.loop-end.invariant.0.ready.premise

pub bounds-d-0 : goal.bounds-d-0
bounds-d-0 c = let l = c.loop-end in omega (arith, slots_whole l.d l.invariant.0.ready.premise)

pub offset_bounds-d-slot : goal.offset_bounds-d-slot
offset_bounds-d-slot c = omega (arith, ends_slot c.ending_slot-ending.result c.loop-end.ahead.listed c.loop-end.highest c.loop-end.d.clock _ c.is_live.result (sym c.in-Ends.is ∙ c.next_turn-coming.ensures))

pub bounds-d-slot : goal.bounds-d-slot
bounds-d-slot c = let l = c.loop-end in omega (arith, ends_slot c.ending_slot-ending.result c.loop-end.ahead.listed c.loop-end.highest c.loop-end.d.clock _ c.is_live.result (sym c.in-Ends.is ∙ c.next_turn-coming.ensures), slots_whole l.d l.invariant.0.ready.premise)

pub put_ended-end-requires : goal.put_ended-end-requires
put_ended-end-requires c =
    let l = c.loop-end in (
      omega (arith, room (goal.at.put_ended-end-requires c).In-loop-end),
      (slot_ready l.d l.invariant.0.ready.premise c.in-Ends.slot (omega (arith, ends_slot c.ending_slot-ending.result c.loop-end.ahead.listed c.loop-end.highest c.loop-end.d.clock _ c.is_live.result (sym c.in-Ends.is ∙ c.next_turn-coming.ensures), slots_whole l.d l.invariant.0.ready.premise))).0.0,
    )

pub call-kept-requires : goal.call-kept-requires
call-kept-requires c = let l = c.loop-end in (l.invariant.0.ready.premise, l.invariant.1)

pub loop-end-smaller-in-Ends : goal.loop-end-smaller-in-Ends
loop-end-smaller-in-Ends c = filling_less c.loop-end.invariant.0 (some_left _) (end-turn (goal.at.loop-end-smaller-in-Ends c).After-call-kept)

pub loop-end-preserved-in-Ends : goal.loop-end-preserved-in-Ends
loop-end-preserved-in-Ends c =
    let l = c.loop-end in
    let e = c.call-kept.ensures in
    (filling_more c.loop-end.invariant.0 (some_left _) (end-turn (goal.at.loop-end-preserved-in-Ends c).After-call-kept) (room (goal.at.loop-end-preserved-in-Ends c).In-loop-end), beside_handed _ _ _ l.invariant.0.ready.premise e.0 e.1, l.invariant.2)

-- ## A line is refused
pub put_refusal-end-requires : goal.put_refusal-end-requires
put_refusal-end-requires c = omega (arith, room (goal.at.put_refusal-end-requires c).In-loop-end)

pub loop-end-smaller-in-Refuses : goal.loop-end-smaller-in-Refuses
loop-end-smaller-in-Refuses c = filling_less c.loop-end.invariant.0 (some_left _) (refused-turn c)

pub loop-end-preserved-in-Refuses : goal.loop-end-preserved-in-Refuses
loop-end-preserved-in-Refuses c = (filling_more c.loop-end.invariant.0 (some_left _) (refused-turn c) (room (goal.at.loop-end-preserved-in-Refuses c).In-loop-end), c.loop-end.invariant.1, c.read_ahead-ahead-in-Refuses.ensures)

-- ## A job arrives
pub call-kept-requires-in-Arrives : goal.call-kept-requires-in-Arrives
call-kept-requires-in-Arrives c = let l = c.loop-end in (l.invariant.0.ready.premise, l.invariant.1)

pub note-requires : goal.note-requires
note-requires c = given-ticket (goal.at.note-requires c).Then-is_none

pub note-requires-then-is_none : goal.note-requires-then-is_none
note-requires-then-is_none c = given-ticket (goal.at.note-requires-then-is_none c).Then-is_none

pub loop-end-smaller-then-is_none : goal.loop-end-smaller-then-is_none
loop-end-smaller-then-is_none c = filling_less c.loop-end.invariant.0 (some_left _) (taken-turn c)

pub loop-end-preserved-then-is_none : goal.loop-end-preserved-then-is_none
loop-end-preserved-then-is_none c =
    let l = c.loop-end in
    let e = c.call-kept-in-Arrives.ensures in
    (filling_more c.loop-end.invariant.0 (some_left _) (taken-turn c) (room (goal.at.loop-end-preserved-then-is_none c).In-loop-end), beside_handed _ _ _ l.invariant.0.ready.premise e.0 e.1, c.read_ahead-ahead-in-Arrives.ensures)

pub put_refusal-end-requires-in-Arrives : goal.put_refusal-end-requires-in-Arrives
put_refusal-end-requires-in-Arrives c = omega (arith, room (goal.at.put_refusal-end-requires-in-Arrives c).In-loop-end)

pub loop-end-smaller-in-Arrives : goal.loop-end-smaller-in-Arrives
loop-end-smaller-in-Arrives c = filling_less c.loop-end.invariant.0 (some_left _) (away-turn (goal.at.loop-end-smaller-in-Arrives c).After-put_refusal-end-in-Arrives)

pub loop-end-preserved-in-Arrives : goal.loop-end-preserved-in-Arrives
loop-end-preserved-in-Arrives c =
    let l = c.loop-end in
    let e = c.call-kept-in-Arrives.ensures in
    (filling_more c.loop-end.invariant.0 (some_left _) (away-turn (goal.at.loop-end-preserved-in-Arrives c).After-put_refusal-end-in-Arrives) (room (goal.at.loop-end-preserved-in-Arrives c).In-loop-end), beside_handed _ _ _ l.invariant.0.ready.premise e.0 e.1, c.read_ahead-ahead-in-Arrives.ensures)

-- ## Minutes pass
pub quiet_until-until-requires : goal.quiet_until-until-requires
quiet_until-until-requires c =
    let l = c.loop-end in
    let r = steps_range _ _ _ _ _ _ _ l.invariant.0.ready l.invariant.2 _ c.ending_slot-ending.ensures _ (found (coming_of c.ending_slot-ending.result c.loop-end.ahead.listed c.loop-end.highest c.loop-end.d.clock) c.in-Steps.is c.next_turn-coming.ensures c.is_live.ensures) in
    (l.invariant.0.ready.premise, r.0, r.1)

pub pass_over-count-requires : goal.pass_over-count-requires
pass_over-count-requires c = following (goal.at.pass_over-count-requires c).Then-d-until

pub loop-end-smaller-then-d-until : goal.loop-end-smaller-then-d-until
loop-end-smaller-then-d-until c = (skips (goal.at.loop-end-smaller-then-d-until c).Then-d-until).1

pub loop-end-preserved-then-d-until : goal.loop-end-preserved-then-d-until
loop-end-preserved-then-d-until c =
    let l = c.loop-end in
    (filling_skip l.invariant.0 (skips (goal.at.loop-end-preserved-then-d-until c).Then-d-until).0, beside-as (moved (goal.at.loop-end-preserved-then-d-until c).Then-d-until) (c.pass_over-count.ensures (following (goal.at.loop-end-preserved-then-d-until c).Then-d-until)), l.invariant.2)

pub put_due-end-requires : goal.put_due-end-requires
put_due-end-requires c = (c.loop-end.invariant.0.ready.premise, room (goal.at.put_due-end-requires c).In-loop-end)

pub call-kept-requires-in-Steps : goal.call-kept-requires-in-Steps
call-kept-requires-in-Steps c = let l = c.loop-end in (l.invariant.0.ready.premise, l.invariant.1)

pub loop-end-smaller : goal.loop-end-smaller
loop-end-smaller c = filling_less c.loop-end.invariant.0 (some_left _) (step-turn (goal.at.loop-end-smaller c).After-call-kept-in-Steps)

pub loop-end-preserved : goal.loop-end-preserved
loop-end-preserved c =
    let l = c.loop-end in
    let e = c.call-kept-in-Steps.ensures in
    (filling_more c.loop-end.invariant.0 (some_left _) (step-turn (goal.at.loop-end-preserved c).After-call-kept-in-Steps) (room (goal.at.loop-end-preserved c).In-loop-end), beside_handed _ _ _ l.invariant.0.ready.premise e.0 e.1, l.invariant.2)

pub shape_of-page-in-Over : goal.shape_of-page-in-Over
shape_of-page-in-Over c = c.loop-end.invariant.0.whole

pub returns-in-Over : goal.returns-in-Over
returns-in-Over c =
    let l = c.loop-end in
    filled_as c.requires.1
    (filled_over (filling_more c.loop-end.invariant.0 (some_left _) (over_turned _ _ _ _ _ _ _ l.invariant.0.ready l.invariant.2 _ c.ending_slot-ending.ensures _ _
    (found (coming_of c.ending_slot-ending.result c.loop-end.ahead.listed c.loop-end.highest c.loop-end.d.clock) c.in-Over.is c.next_turn-coming.ensures c.is_live.ensures)) (room (goal.at.returns-in-Over c).In-loop-end)) refl)

pub shape_of-page : goal.shape_of-page
shape_of-page c = c.loop-end.invariant.0.whole

pub returns : goal.returns
returns c =
    let l = c.loop-end in
    filled_as c.requires.1
    (filled_full l.invariant.0 (omega (arith, l.invariant.0.whole, c.page_len.ensures, c.requires.2, c.loop-end-test.false)))
