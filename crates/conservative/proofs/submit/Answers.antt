-- `conservative::submit` meets its contract.
-- Assumes nothing.
use mathlib.Core.Path.{◌≡◌, sym, ap, ◌∙◌}
use mathlib.Core.Bool.{true}
use Prim.Native.Nat.{ℕ, ◌+◌}
use native.Mathlib.Omega.{arith}
use Rattle.scheduler.specs.Times.{hold_le}
use Rattle.scheduler.specs.Model.{view}
use Rattle.scheduler.specs.Answers.{accepts, refused_outcome}
use Rattle.job_table.specs.Parts.{shared_refusal}
use Rattle.spans.specs.Index.{reads}
use Rattle.conservative_rules.specs.Conservative.{points, planned, reads_for}
use Rattle.conservative_plan.specs.EarliestStart.{start_for}
use Rattle.conservative.specs.Submit.{accepted, planned_low, shared_held, askable, start_held, room_held, taken_held, past_held, tests_held}
use Rattle.conservative.proofs.submit.Goals.{After-earliest-found, After-submit_refusal-refusal, Then-is_none}
use Rattle.conservative.proofs.submit.Goals as goal

-- the tests that both kinds share
judged : (c : After-submit_refusal-refusal) → c.submit_refusal-refusal.result ≡ shared_refusal (view c.args.d)
    c.args.s
judged c =
    c.submit_refusal-refusal.ensures ∙ shared_held c.args.d c.args.s c.requires _ _ c.quota.ensures c.live_of-live.ensures

passed : (c : Then-is_none)
    → accepts (shared_refusal (view c.args.d) c.args.s) ≡ true
passed c = ap accepts (sym (judged c.before.before)) ∙ sym c.is_none.ensures ∙ c.if-is_none.true

-- the planned start
start : (c : After-earliest-found)
    → c.earliest-found.result.minute ≡ planned (view c.args.d)
    c.args.s
unfolding view
start c =
    c.earliest-found.ensures.minute
    ∙ ap (start_for (view c.args.d) c.args.s.nodes) c.hold_time-hold.ensures
    ∙ start_held c.args.d c.args.s c.requires (passed c.before.before)

-- and the points read for it
counted : (c : After-earliest-found)
    → let m = view c.args.d in c.earliest-found.result.reads ≡ reads_for m c.args.s (planned m c.args.s)
unfolding view
counted c =
    let o = c.args.s in
    let m = view c.args.d in
    c.earliest-found.ensures.reads
    ∙ ap (λ (x : ℕ). reads (points m) o.nodes (x + c.hold_time-hold.result)) (start c)
    ∙ ap (λ (x : ℕ). reads (points m) o.nodes (planned m o + x)) c.hold_time-hold.ensures

pub earliest-found-requires : goal.earliest-found-requires
unfolding view
earliest-found-requires c =
    rw c.hold_time-hold.ensures (askable c.args.d c.args.s c.requires (passed (goal.at.earliest-found-requires c).Then-is_none))

pub overflow_add-start : goal.overflow_add-start
unfolding view
overflow_add-start c =
    omega (
      arith,
      start c,
      c.hold_time-hold.ensures,
      planned_low c.args.d c.args.s c.requires,
      hold_le c.args.d.settings c.args.s.estimate,
    )

pub returns-then-start-hold-gt-HORIZON : goal.returns-then-start-hold-gt-HORIZON
unfolding view
returns-then-start-hold-gt-HORIZON c =
    c.refused.ensures ∙ past_held c.args.d c.args.s c.requires (passed (goal.at.returns-then-start-hold-gt-HORIZON c).Then-is_none)
    (omega (arith, start (goal.at.returns-then-start-hold-gt-HORIZON c).After-earliest-found, c.hold_time-hold.ensures, c.if-start-hold-gt-HORIZON.true))

pub overflow_cast-found : goal.overflow_cast-found
overflow_cast-found c = omega (arith, c.earliest-found.ensures.few)

pub accept-requires : goal.accept-requires
accept-requires c =
    room_held c.args.d c.args.s c.requires (passed (goal.at.accept-requires c).Then-is_none) _ c.first_unused-slot.ensures

pub returns-then-is_none : goal.returns-then-is_none
unfolding view
returns-then-is_none c =
    c.accept.ensures
    ∙ (λ i. accepted c.args.d c.args.s c.first_unused-slot.result (start (goal.at.returns-then-is_none c).After-earliest-found i) (counted (goal.at.returns-then-is_none c).After-earliest-found i))
    ∙ taken_held c.args.d c.args.s c.requires (passed (goal.at.returns-then-is_none c).Then-is_none) _ c.first_unused-slot.ensures
    (omega (arith, start (goal.at.returns-then-is_none c).After-earliest-found, c.hold_time-hold.ensures, c.if-start-hold-gt-HORIZON.false))

pub returns : goal.returns
returns c =
    c.refused-2.ensures
    ∙ ap (refused_outcome c.args.d) (judged (goal.at.returns c).After-submit_refusal-refusal)
    ∙ tests_held c.args.d c.args.s c.requires
    (ap accepts (sym (judged (goal.at.returns c).After-submit_refusal-refusal)) ∙ sym c.is_none.ensures ∙ c.if-is_none.false)
