-- `conservative_kept::depart` meets its contract: the passes go over the points without what the job gives back.
-- Assumes nothing.
use mathlib.Core.Path.{◌≡◌, refl, sym, ap, ◌∙◌}
use mathlib.Core.Bool.{Bool, true}
use mathlib.Core.List.{List, [], ◌∷◌}
use Rattle.std.specs.Prelude.{Option}
use Rattle.std.specs.Option.{unwrap_or}
use Rattle.std.specs.List.{position_from as first_from}
use Rattle.std.proofs.lemmas.Iterator.Adapters.{position_from-zero}
use Rattle.lists.specs.Tests.{case}
use Rattle.lists.specs.Loops.{position_from}
use Rattle.scheduler.specs.declared.Job.{Job}
use Rattle.scheduler.specs.Limits.{slots}
use Rattle.scheduler.specs.Jobs.{departs_as}
use native.Mathlib.Omega.{arith}
use Rattle.scheduler.specs.declared.Outcome.{Outcome}
use Rattle.scheduler.specs.Model.{store, view}
use Rattle.scheduler.specs.Answers.{outcome, accepts}
use Rattle.scheduler.proofs.Lengths.{whole}
use Rattle.scheduler.specs.declared.Scheduler.{Scheduler}
use Rattle.scheduler.specs.declared.Departure.{Departure}
use Rattle.scheduler.specs.Table.{with_jobs}
use Prim.Native.Nat.{ℕ, ◌+◌}
use Rattle.jobs.specs.Premise.{Holds, holds_as}
use Rattle.jobs.specs.Slots.{slots_low}
use Rattle.jobs.specs.Soundness.{Sound}
use Rattle.history.specs.Calls.{depart}
use Rattle.job_table.specs.declared.Part.{Part}
use Rattle.job_table.specs.Parts.{departing, part}
use Rattle.conservative_rules.specs.Conservative.{call, compressed}
use Rattle.conservative_laws.specs.Validity.{Valid}
use Rattle.conservative_laws.specs.Outcomes.{call_valid}
use Rattle.conservative.specs.Advance.{advanced_by}
use Rattle.conservative.specs.Depart.{departs_by, replannable_held, taken_held, refused_held}
use Rattle.conservative_kept.specs.Beside.{builds}
use Rattle.conservative_kept.specs.Depart.{slot_at, Leaver, leaver, lifts, lifted_profile, lifted_stored, passed_profile, refused_beside}
use Rattle.conservative_kept.proofs.depart.Goals.{After-leave-left, Then-is_none}
use Rattle.conservative_kept.proofs.depart.Goals.{else-is_none, then-is_none}
use Rattle.conservative_kept.proofs.depart.Goals as goal

left_is : (c : After-leave-left) → c.leave-left.result ≡ part (departing (view c.args.d) c.args.how c.args.ticket)
left_is c = c.leave-left.ensures

accepted : (c : Then-is_none) → accepts
    (departing (view c.args.d) c.args.how c.args.ticket).refusal ≡ true
accepted c = ap (λ (p : Part). accepts p.refusal) (sym (left_is c.before.before.before)) ∙ sym c.is_none.ensures ∙ c.if-is_none.true

-- the slot that is found
same_place : (p : Job → Bool) (k : ℕ) (js : List Job) → unwrap_or (first_from p k js) slots ≡ slot_at (position_from p k js)
same_place p k [] = refl
same_place p k (j ∷ js) = case (p j) (λ e. rw e refl) (λ e. rw e (same_place p (k + 1) js))

-- who leaves
who : (c : Then-is_none) → Leaver c.args.d c.args.how c.args.ticket (holds_as Valid Sound c.args.d (λ m v. v.sound) c.requires.0) (whole c.args.d c.well_formed.0)
    c.unwrap_or-slot.result
who c =
    let f = c.unwrap_or-slot in
    let p = departs_as c.args.how c.args.ticket in
    let e = f.ensures ∙ ap (λ (o : Option ℕ). unwrap_or o slots) (c.slot_of.ensures ∙ position_from-zero p c.args.d.jobs) ∙ same_place p 0 c.args.d.jobs in
    leaver c.args.d c.args.how c.args.ticket (holds_as Valid Sound c.args.d (λ m v. v.sound) c.requires.0) (whole c.args.d c.well_formed.0)
    f.result e (accepted c)

-- what the call answers, and the scheduler that it hands back, once the jobs that stay have had their turns
module _ (d : Scheduler) (how : Departure) (ticket : ℕ) (v : Holds Valid d) (left : Part) (e : left ≡ part (departing (view d) how ticket))
    (a : accepts (departing (view d) how ticket).refusal ≡ true) (moved : Scheduler)
    (q : moved ≡ with_jobs left.scheduler (compressed (view left.scheduler).settings left.scheduler.clock left.scheduler.jobs)) where
  answers : advanced_by left moved ≡ outcome (call (view d) (depart how ticket))
  answers = ap (advanced_by left) q ∙ ap departs_by e ∙ taken_held (view d) how ticket v.holds a

  hands_back : moved ≡ store (call (view d) (depart how ticket)).model
  unfolding advanced_by
  hands_back = ap (λ (o : Outcome). o.scheduler) answers

pub bounds-d-slot : goal.bounds-d-slot
bounds-d-slot c = (who c).low

pub freed-x-requires : goal.freed-x-requires
unfolding view
freed-x-requires c =
    let d = c.args.d in
    (slots_low d (holds_as Valid Sound d (λ m v. v.sound) c.requires.0) _ (omega (arith, (who (goal.at.freed-x-requires c).Then-is_none).low, whole d c.well_formed.0)), c.requires.0.holds.sound.clock_to)

pub lift-out-requires : goal.lift-out-requires
unfolding view
lift-out-requires c =
    rw c.freed-x.ensures
    (lifts (view c.args.d) c.requires.0.holds c.args.how c.args.ticket (who (goal.at.lift-out-requires c).Then-is_none).inside (who (goal.at.lift-out-requires c).Then-is_none).departs c.requires.1.profile)

pub replan_kept-passed-requires : goal.replan_kept-passed-requires
unfolding view
replan_kept-passed-requires c =
    let m = view c.args.d in
    let p = lifted_profile m c.requires.0.holds c.args.how c.args.ticket (who (goal.at.replan_kept-passed-requires c).Then-is_none).inside (who (goal.at.replan_kept-passed-requires c).Then-is_none).departs c.requires.1.profile
    (rw c.freed-x.ensures at c.lift-out.ensures) in
    rw (left_is (goal.at.replan_kept-passed-requires c).After-leave-left) (
      replannable_held m c.args.how c.args.ticket c.requires.0.holds (accepted (goal.at.replan_kept-passed-requires c).Then-is_none),
      lifted_stored m c.args.how c.args.ticket
          (accepted (goal.at.replan_kept-passed-requires c).Then-is_none) p,
    )

pub build-requires : goal.build-requires
unfolding view
build-requires c =
    let m = view c.args.d in
    let k = depart c.args.how c.args.ticket in
    builds (call_valid m k c.requires.0.holds).sound
    (passed_profile c.replan_kept-passed.result.scheduler (call m k).model (hands_back c.args.d c.args.how c.args.ticket c.requires.0 c.leave-left.result (left_is (goal.at.build-requires c).After-leave-left)
    (accepted (goal.at.build-requires c).Then-is_none) c.replan_kept-passed.result.scheduler c.replan_kept-passed.ensures.0) c.replan_kept-passed.ensures.1)
    c.requires.1.indexed.low_long c.requires.1.indexed.high_long

pub returns : goal.returns
unfolding view
returns c =
    let m = view c.args.d in
    let k = depart c.args.how c.args.ticket in
    let e = ap (λ (p : Part). accepts p.refusal) (sym (left_is (goal.at.returns c).After-leave-left)) ∙ sym c.is_none.ensures in
    let t = left_is (goal.at.returns c).After-leave-left in
    elim c.if-is_none.branch [
      | then-is_none w ↦
          let a = e ∙ w.if-is_none.true in
          let r = w.replan_kept-passed in
          let p = passed_profile r.result.scheduler (call m k).model
          (hands_back c.args.d c.args.how c.args.ticket c.requires.0 c.leave-left.result t a r.result.scheduler r.ensures.0) r.ensures.1 in (
            c.advance.ensures ∙ ap (advanced_by c.leave-left.result) w.after-is
                ∙ answers c.args.d c.args.how c.args.ticket c.requires.0 c.leave-left.result t a r.result.scheduler r.ensures.0,
            rw (w.minutes-is, w.free-is, w.low-is, w.high-is, w.n-is) (record { profile = p; indexed = w.build.ensures }),
          )
      | else-is_none w ↦
          let a = e ∙ w.if-is_none.false in (
            c.advance.ensures
                ∙ ap (advanced_by c.leave-left.result) w.after-is
                ∙ ap (λ (p : Part). advanced_by p p.scheduler) t
                ∙ refused_held m c.args.how c.args.ticket c.requires.0.holds a,
            rw (w.minutes-is, w.free-is, w.low-is, w.high-is, w.n-is, refused_beside m c.args.how c.args.ticket a) c.requires.1,
          )
    ]
