-- Calls that a season makes are taken: the end of a job that runs, and a tick while a job is live. What these end.
-- Assumes nothing.
use Rattle.std.specs.Prelude.{◌≡◌, refl, [], ◌∷◌, ℕ, suc, ◌+◌, ◌<◌}
use Rattle.std.proofs.Math.Path.{ap}
use Rattle.std.proofs.Common.{◌∙◌, arith}
use Rattle.std.proofs.Math.Bool.{true, false}
use borrow.Author.Tests.{eq-eqb, le-ltb}
use Rattle.lists.specs.Tests.{case, true_false, and_right_false}
use Rattle.lists.specs.Lists.{keep, In, any_in, none_any}
use Rattle.scheduler.specs.declared.Departure.TheVariants.{Complete}
use Rattle.scheduler.specs.declared.Kind.{Kind}
use Rattle.scheduler.specs.declared.Kind.TheVariants.{Conservative, Easy}
use Rattle.scheduler.specs.declared.Job.{Job}
use Rattle.scheduler.specs.declared.State.{State}
use Rattle.scheduler.specs.declared.State.TheVariants.{Unused, Waiting, Running, Cleanup}
use Rattle.scheduler.specs.Limits.{horizon}
use Rattle.scheduler.specs.Settings.{run_time, end_of}
use Rattle.scheduler.specs.States.{live?, waiting?, holding?}
use Rattle.scheduler.specs.Jobs.{is_running, is_waiting, is_holding, departs_as, ends_at}
use Rattle.scheduler.specs.Table.{tickets_of}
use Rattle.scheduler.specs.Model.{Model}
use Rattle.scheduler.specs.Answers.{accepts, verdict}
use Rattle.scheduler.specs.Refusals.{depart_refusal, departs_early, tick_refusal}
use Rattle.scheduler.specs.Settings.{bound_of}
use Rattle.jobs.specs.Soundness.{start_until, running_holds}
use Rattle.history.specs.Calls.{tick, complete}
use Rattle.conservative_laws.specs.Sentences as conservative
use Rattle.easy_laws.specs.Sentences as easy
use Rattle.easy_laws.specs.Course.{course_rest}
use Rattle.guarantees.specs.Rules.{rules_of, call}
use Rattle.guarantees.specs.Premise.{Valid, ValidBy, valid_sound}
use Rattle.quiet_minutes.specs.QuietTicks.{tick_refusal_lem}

module _ (m : Model) where
  -- who waits has its start before it, and gives its nodes back by the last minute
  waits_by : (k : Kind) → ValidBy k m → (j : Job) → In j m.jobs → is_waiting j ≡ true → m.clock < horizon
  waits_by Conservative w j i q =
      let e = w.sound.each j i in omega (arith, w.ahead j i q, start_until m.settings m.clock j e, e.ends)
  waits_by Easy w j i q =
      let r = w.ready.room j i q in
      omega (arith, course_rest m j.ticket (bound_of m.settings j) r.0 w.ready.sound w.rests, r.1)

  -- while a job is live, the last minute has not come
  pub live_clock : Valid m → (j : Job) → In j m.jobs → m.clock < horizon
  live_clock v j i = by j.state refl
    where
      held : is_holding j ≡ true → m.clock < horizon
      held h = let e = (valid_sound m v).each j i in omega (arith, e.holds h, e.ends)

      by : (x : State) → j.state ≡ x → m.clock < horizon
      by Unused q = true_false (live? j.state) ((valid_sound m v).each j i).is_live (ap live? q)
      by Waiting q = waits_by m.settings.kind v j i (ap waiting? q)
      by Running q = held (ap holding? q)
      by Cleanup q = held (ap holding? q)

  pub tick_taken : m.clock < horizon → accepts (call m tick).reply.refusal ≡ true
  unfolding tick_refusal verdict
  tick_taken l = ap accepts (tick_refusal_lem m) ∙ rw (le-ltb horizon (suc m.clock) l)

  complete_by : (k : Kind) (t : ℕ) → (rules_of k m (complete t)).reply.refusal ≡ depart_refusal m Complete t
  unfolding depart_refusal
  complete_by Conservative t = conservative.complete_refusal m t
  complete_by Easy t = easy.refusal_is m (complete t)

  -- the end of a job that runs is taken, where no job has a least
  pub complete_taken : Valid m → ((j : Job) → In j m.jobs → j.least ≡ 0) → (j : Job) → In j m.jobs → is_running j ≡ true
      → accepts (call m (complete j.ticket)).reply.refusal ≡ true
  unfolding depart_refusal verdict
  complete_taken v none j i r =
      let t = j.ticket in
      let there : departs_as Complete t j ≡ true = rw (r, eq-eqb t t refl) in
      ap accepts (complete_by m.settings.kind t)
      ∙ rw (any_in (departs_as Complete t) i there, none_any (departs_early m.clock Complete t) m.jobs late)
    where
      late : (x : Job) → In x m.jobs → departs_early m.clock Complete j.ticket x ≡ false
      late x k =
          case (is_running x)
          (λ q. and_right_false (departs_as Complete j.ticket x)
          (le-ltb m.clock (x.start + x.least)
          (omega (arith, none x k, ((valid_sound m v).each x k).holds (running_holds x.state q)))))
          (λ q. rw q)

  -- it ends that job alone, and a tick those that are due
  pub complete_ends : Valid m → (t : ℕ) → accepts (call m (complete t)).reply.refusal ≡ true → (call m (complete t)).reply.ended ≡ t ∷ []
  complete_ends v t a = by m.settings.kind v a
    where
      by : (k : Kind) → ValidBy k m → accepts (rules_of k m (complete t)).reply.refusal ≡ true → (rules_of k m (complete t)).reply.ended ≡ t ∷ []
      by Conservative w b = conservative.complete_ends m t w b
      by Easy w b = easy.complete_ends m t w.ready.sound b

  pub tick_ends : Valid m → accepts (call m tick).reply.refusal ≡ true
      → (call m tick).reply.ended ≡ tickets_of (keep (ends_at m.settings (suc m.clock)) m.jobs)
  unfolding run_time end_of
  tick_ends v a = by m.settings.kind v a
    where
      by : (k : Kind) → ValidBy k m → accepts (rules_of k m tick).reply.refusal ≡ true
          → (rules_of k m tick).reply.ended ≡ tickets_of (keep (ends_at m.settings (suc m.clock)) m.jobs)
      by Conservative w b = (conservative.tick_taken m w b).ended_is
      by Easy w b = easy.tick_ends m b
