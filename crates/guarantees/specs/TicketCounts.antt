-- How many tickets an answer names: never more than there are slots, so that the lists of an answer hold them all.
-- Assumes nothing.
use Rattle.std.specs.Prelude.{◌≡◌, refl, not, ◌&&◌, List, [], ◌∷◌, map, ℕ, zero, suc, ◌≤◌, eqb, length}
use Rattle.std.proofs.Math.Option.{Option, none, some}
use Rattle.std.proofs.Common.{arith, length-append}
use Rattle.std.proofs.lemmas.List.{length-map}
use Rattle.lists.specs.Tests.{case}
use Rattle.lists.specs.Lists.{keep, length_keep_le}
use Rattle.scheduler.specs.declared.Kind.{Kind}
use Rattle.scheduler.specs.declared.Kind.TheVariants.{Conservative, Easy}
use Rattle.scheduler.specs.declared.Job.{Job}
use Rattle.scheduler.specs.declared.Select.{Select}
use Rattle.scheduler.specs.declared.Select.TheVariants as select
use Rattle.scheduler.specs.Jobs.{is_waiting, is_running}
use Rattle.scheduler.specs.Table.{ticket_of, ends, ended_of, leaves, staying, ceased}
use Rattle.scheduler.specs.Model.{Model, ending, joined, without}
use Rattle.scheduler.specs.declared.Refusal.{Refusal}
use Rattle.scheduler.specs.Answers.{Result, refuse}
use Rattle.scheduler.specs.Refusals.{depart_refusal, tick_refusal}
use Rattle.scheduler.specs.Amending.{in_place_refusal, supersede, in_place_of}
use Rattle.jobs.specs.Soundness.{Sound, fit_room, submit_fit}
use Rattle.jobs.specs.Judgement.{judged_by}
use Rattle.history.specs.Calls.{Call, submit, depart, tick, amend, unchanged}
use Rattle.conservative_rules.specs.Conservative as conservative
use Rattle.easy_rules.specs.Easy as easy
use Rattle.guarantees.specs.Rules.{rules_of, call}

pub record FitsAnswer (r : Result) : Type 0 where
  pub ended : length r.reply.ended ≤ 64
  pub started : length r.reply.started ≤ 64

left_few : (s : Select) (js : List Job) → length js ≤ 64 → length (ended_of s js) ≤ 64
left_few s js h = omega (arith, length-map (keep (ends s) js) ticket_of, length_keep_le (ends s) js)

remain_few : (m : Model) (clock : ℕ) (s : Select) → length (without m clock s).jobs ≤ length m.jobs
remain_few m clock s =
    omega (
      arith,
      length-map (staying m.settings s m.jobs) (ceased clock s),
      length_keep_le (λ (j : Job). not (leaves m.settings s j)) m.jobs,
    )

pub begun_few : (js ks : List Job) → length (conservative.begun js ks) ≤ length js
begun_few [] ks = omega arith
begun_few (j ∷ js) [] = omega arith
begun_few (j ∷ js) (k ∷ ks) = case (is_waiting j && is_running k) (λ e. rw e (omega (arith, begun_few js ks))) (λ e. rw e (omega (arith, begun_few js ks)))

pub settle_few : (n : ℕ) (m : Model) → length (easy.settle n m).started ≤ n
unfolding easy.settle
settle_few zero m = omega arith
settle_few (suc n) m = go (λ a. settle_few n a) (easy.choice m) refl
  where
    go : ((a : Model) → length (easy.settle n a).started ≤ n) → (o : Option Job) → easy.choice m ≡ o → length (easy.settle (suc n) m).started ≤ suc n
    go rest none e = rw e (omega arith)
    go rest (some j) e = rw e (omega (arith, rest (easy.begin j.ticket m)))

finished_fits : (b m : Model) (t : ℕ) (ended : List ℕ) → length ended ≤ 64 → length m.jobs ≤ 64 → FitsAnswer (easy.finished b m t ended)
unfolding easy.finished
finished_fits b m t ended h g = record { ended = h; started = omega (arith, settle_few (length (easy.queue m.jobs)) m, length_keep_le is_waiting m.jobs) }

advanced_fits : (m : Model) (clock : ℕ) (s : Select) (after : List Job) → length m.jobs ≤ 64 → FitsAnswer (conservative.advanced m clock s after)
unfolding conservative.advanced
advanced_fits m clock s after h = record {
  ended = left_few s m.jobs h;
  started =
      omega (arith, begun_few (without m clock s).jobs after, remain_few m clock s);
}

leaving_fits : (m : Model) (clock : ℕ) (s : Select) → length m.jobs ≤ 64 → FitsAnswer (easy.advanced m clock s)
unfolding easy.advanced
leaving_fits m clock s h = finished_fits m (without m clock s) 0 _ (left_few s m.jobs h)
    (omega (arith, remain_few m clock s))

pub refused_fits : (m : Model) (r : Refusal) → FitsAnswer (refuse m r)
refused_fits m r = record { ended = omega arith; started = omega arith }

fits_by : (k : Kind) (m : Model) (c : Call) → Sound m → FitsAnswer (rules_of k m c)
unfolding
    conservative.call
    conservative.submit_refusal
    conservative.submitted
    conservative.departed
    conservative.ticked
    conservative.amended_to
    conservative.amended
    easy.call
    easy.submit_refusal
    easy.advanced
fits_by Conservative m (submit o) h =
    let s = conservative.planned m o in
    judged_by FitsAnswer m (conservative.submit_refusal m o s) (conservative.submitted m o s)
    (λ a. record { ended = omega arith; started = case (eqb s m.clock) (λ q. rw q (omega arith)) (λ q. rw q (omega arith)) })
    (λ a. refused_fits m _)
fits_by Conservative m (depart i t) h = judged_by FitsAnswer m (depart_refusal m i t) (conservative.departed m i t) (λ a. advanced_fits m _ _ _ h.few)
    (λ a. refused_fits m _)
fits_by Conservative m tick h = judged_by FitsAnswer m (tick_refusal m) (conservative.ticked m) (λ a. advanced_fits m _ _ _ h.few) (λ a. refused_fits m _)
fits_by Conservative m (amend a) h =
    judged_by FitsAnswer m (in_place_refusal m a) (conservative.amended m a)
    (λ x. record {
      ended = omega arith;
      started = omega (arith, begun_few (map (supersede a) m.jobs) (conservative.amended m a).model.jobs, length-map m.jobs (supersede a), h.few);
    })
    (λ x. refused_fits m _)
fits_by Conservative m (unchanged r) h = refused_fits m _
fits_by Easy m (submit o) h =
    let j = easy.new_job m o in
    judged_by FitsAnswer m (easy.submit_refusal m o) (easy.finished m (joined m j) m.next [])
    (λ a. finished_fits m (joined m j) m.next [] (omega arith) (omega (arith, fit_room m o h (submit_fit m o _ a).0, length-append m.jobs (j ∷ []))))
    (λ a. refused_fits m _)
fits_by Easy m (depart i t) h = judged_by FitsAnswer m (depart_refusal m i t) (easy.advanced m m.clock (select.Departing i t))
    (λ a. leaving_fits m _ (select.Departing i t) h.few) (λ a. refused_fits m _)
fits_by Easy m tick h = judged_by FitsAnswer m (tick_refusal m) (easy.advanced m (suc m.clock) (ending m))
    (λ a. leaving_fits m _ (ending m) h.few) (λ a. refused_fits m _)
fits_by Easy m (amend a) h =
    judged_by FitsAnswer m (in_place_refusal m a) (easy.finished m (in_place_of m a) a.ticket [])
    (λ x. finished_fits m (in_place_of m a) a.ticket [] (omega arith) (omega (arith, length-map m.jobs (supersede a), h.few)))
    (λ x. refused_fits m _)
fits_by Easy m (unchanged r) h = refused_fits m _

pub call_fits : (m : Model) (c : Call) → Sound m → FitsAnswer (call m c)
call_fits m c h = fits_by m.settings.kind m c h
