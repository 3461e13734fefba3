-- `conservative_kept::submit` meets its contract: the answer is that of the submission by value, and the job's span is taken in.
-- Assumes nothing.
use Prim.Native.Nat.{◌+◌, ◌≤◌, ◌<◌}
use mathlib.Core.Path.{◌≡◌, sym, ap, ◌∙◌}
use mathlib.Core.Bool.{true}
use native.Mathlib.Omega.{arith}
use lib.ListN.{length}
use Rattle.scheduler.specs.Limits.{horizon, slots}
use Rattle.scheduler.specs.Settings.{hold_time}
use Rattle.scheduler.specs.Times.{hold_le}
use Rattle.scheduler.specs.Model.{view}
use Rattle.scheduler.specs.Answers.{accepts, refused_outcome}
use Rattle.job_table.specs.Parts.{shared_refusal}
use Rattle.conservative_rules.specs.Conservative.{planned, reads_for}
use Rattle.conservative.specs.Submit.{accepted, planned_low, shared_held, askable, room_held, taken_held, past_held, tests_held}
use Rattle.conservative.specs.Submit.{submit_checked, submit_past, submit_taken}
use Rattle.conservative_kept.specs.Submit.{searches, start_found, reads_found, lays, taken_beside}
use Rattle.conservative_kept.proofs.submit.Goals.{After-search-found, After-submit_refusal-refusal, Else-until-gt-HORIZON, Then-is_none, Then-until-gt-HORIZON}
use Rattle.conservative_kept.proofs.submit.Goals as goal

-- the tests that both kinds share
judged : (c : After-submit_refusal-refusal) → c.submit_refusal-refusal.result ≡ shared_refusal (view c.args.d)
    c.args.s
judged c =
    c.submit_refusal-refusal.ensures ∙ shared_held c.args.d c.args.s c.requires.0 _ _ c.quota.ensures c.live_of-live.ensures

passed : (c : Then-is_none) → accepts (shared_refusal (view c.args.d) c.args.s) ≡ true
passed c = ap accepts (sym (judged c.before.before)) ∙ sym c.is_none.ensures ∙ c.if-is_none.true

room : (c : Then-is_none) → length (view c.args.d).jobs < slots
room c =
    omega (arith, (room_held c.args.d c.args.s c.requires.0 (passed c) _ c.first_unused-slot.ensures).0, c.first_unused-slot.ensures)

-- the planned start
start : (c : After-search-found) → c.search-found.result.minute ≡ planned (view c.args.d) c.args.s
unfolding view
start c =
    let a = askable c.args.d c.args.s c.requires.0 (passed c.before.before) in
    start_found (view c.args.d) c.args.s c.requires.0.holds c.requires.1 a.nodes_to a.hold_from
    (rw c.hold_time-hold.ensures at c.search-found.ensures)

-- and the points read for it
counted : (c : After-search-found) → let m = view c.args.d in (c.search-found.result.reads ≡ reads_for m c.args.s (planned m c.args.s)) × (c.search-found.result.reads ≤ 144)
unfolding view
counted c =
    let a = askable c.args.d c.args.s c.requires.0 (passed c.before.before) in
    reads_found (view c.args.d) c.args.s c.requires.0.holds c.requires.1 a.nodes_to a.hold_from
    (rw c.hold_time-hold.ensures at c.search-found.ensures)

-- whether it ends by the last minute
late : (c : Then-until-gt-HORIZON)
    → horizon < planned (view c.args.d) c.args.s + hold_time (view c.args.d).settings c.args.s.estimate
unfolding view
late c = omega (arith, start c.before, c.hold_time-hold.ensures, c.if-until-gt-HORIZON.true)

within : (c : Else-until-gt-HORIZON)
    → planned (view c.args.d) c.args.s + hold_time (view c.args.d).settings c.args.s.estimate ≤ horizon
unfolding view
within c = omega (arith, start c.before, c.hold_time-hold.ensures, c.if-until-gt-HORIZON.false)

pub search-found-requires : goal.search-found-requires
unfolding view
search-found-requires c =
    let a = askable c.args.d c.args.s c.requires.0 (passed (goal.at.search-found-requires c).Then-is_none) in
    rw c.hold_time-hold.ensures
    (searches (view c.args.d) c.args.s c.requires.0.holds c.requires.1 a.nodes_to a.hold_from)

pub overflow_add-until : goal.overflow_add-until
unfolding view
overflow_add-until c =
    omega (
      arith,
      start c,
      c.hold_time-hold.ensures,
      planned_low c.args.d c.args.s c.requires.0,
      hold_le c.args.d.settings c.args.s.estimate,
    )

-- past it the job is refused, and nothing changes
pub returns-then-until-gt-HORIZON : goal.returns-then-until-gt-HORIZON
unfolding view
returns-then-until-gt-HORIZON c =
    let l = late (goal.at.returns-then-until-gt-HORIZON c).Then-until-gt-HORIZON in (
      c.refused.ensures ∙ past_held c.args.d c.args.s c.requires.0 (passed (goal.at.returns-then-until-gt-HORIZON c).Then-is_none) l,
      rw (submit_past (view c.args.d) c.args.s c.requires.0.holds.sound (passed (goal.at.returns-then-until-gt-HORIZON c).Then-is_none) l) c.requires.1,
    )

pub take_in-n-requires : goal.take_in-n-requires
unfolding view
take_in-n-requires c =
    let a = askable c.args.d c.args.s c.requires.0 (passed (goal.at.take_in-n-requires c).Then-is_none) in
    let l = within (goal.at.take_in-n-requires c).Else-until-gt-HORIZON in
    let k = lays (view c.args.d) c.args.s c.requires.0.holds c.requires.1 a.nodes_to (room (goal.at.take_in-n-requires c).Then-is_none) l in
    (rw (start (goal.at.take_in-n-requires c).After-search-found, c.hold_time-hold.ensures) k, c.requires.1.indexed)

pub overflow_cast-found : goal.overflow_cast-found
overflow_cast-found c = omega (arith, (counted (goal.at.overflow_cast-found c).After-search-found).1)

pub accept-taken-requires : goal.accept-taken-requires
accept-taken-requires c =
    room_held c.args.d c.args.s c.requires.0 (passed (goal.at.accept-taken-requires c).Then-is_none) _ c.first_unused-slot.ensures

pub returns-then-is_none : goal.returns-then-is_none
unfolding view
returns-then-is_none c =
    let a = askable c.args.d c.args.s c.requires.0 (passed (goal.at.returns-then-is_none c).Then-is_none) in
    let l = within (goal.at.returns-then-is_none c).Else-until-gt-HORIZON in (
      c.accept-taken.ensures
          ∙ (λ i. accepted c.args.d c.args.s c.first_unused-slot.result (start (goal.at.returns-then-is_none c).After-search-found i) ((counted (goal.at.returns-then-is_none c).After-search-found).0 i))
          ∙ taken_held c.args.d c.args.s c.requires.0 (passed (goal.at.returns-then-is_none c).Then-is_none) _ c.first_unused-slot.ensures l,
      taken_beside (view c.args.d) c.args.s c.requires.0.holds c.requires.1 a.nodes_to (room (goal.at.returns-then-is_none c).Then-is_none) l
          (submit_taken (view c.args.d) c.args.s c.requires.0.holds.sound (passed (goal.at.returns-then-is_none c).Then-is_none) l)
          (rw (start (goal.at.returns-then-is_none c).After-search-found, c.hold_time-hold.ensures) at c.take_in-n.ensures),
    )

pub returns : goal.returns
unfolding view
returns c =
    let a = ap accepts (sym (judged (goal.at.returns c).After-submit_refusal-refusal)) ∙ sym c.is_none.ensures ∙ c.if-is_none.false in (
      c.refused-2.ensures ∙ ap (refused_outcome c.args.d) (judged (goal.at.returns c).After-submit_refusal-refusal) ∙ tests_held c.args.d c.args.s c.requires.0 a,
      rw (submit_checked (view c.args.d) c.args.s c.requires.0.holds.sound a) c.requires.1,
    )
