-- For the reader: if a job behind the head is withdrawn, nothing else changes. No job starts, the head hears nothing new, and its shadow stays.
-- Also what this kind owes of tickets, from which it follows that a withdrawn ticket is in no later answer.
-- Assumes nothing.
use Rattle.std.specs.Prelude.{ℕ, suc, ◌+◌, ◌-◌, ◌≡◌, refl, Bool, true, ◌&&◌, ◌||◌, eqb}
use Rattle.std.proofs.Common.{arith, ◌∙◌, ⊎_elim}
use Rattle.std.proofs.Math.Path.{sym, ap}
use Rattle.std.proofs.Math.Bool.{false, not}
use Rattle.std.proofs.Math.Option.{Option, none}
use mathlib.Core.List.{List, [], ◌∷◌, head?}
use Rattle.std.proofs.Math.Dec.{leb}
use borrow.Author.Tests.{lt-leb, eq-eqb, ne_eqb}
use Rattle.lists.specs.Tests.{true_false}
use Rattle.lists.specs.Lists.{keep, first, In, here, there, keep_in}
use Rattle.scheduler.specs.declared.Departure.TheVariants.{Cancel}
use Rattle.scheduler.specs.declared.Job.{Job}
use Rattle.scheduler.specs.declared.Select.TheVariants as select
use Rattle.scheduler.specs.Settings.{hold_time}
use Rattle.scheduler.specs.Model.{Model, ending, joined}
use Rattle.scheduler.specs.Answers.{Result, Forecast, accepts}
use Rattle.scheduler.specs.Refusals.{depart_refusal, tick_refusal}
use Rattle.scheduler.specs.Amending.{in_place_refusal, in_place_of}
use Rattle.jobs.specs.Judgement.{judged_by, judged_accepted}
use Rattle.jobs.specs.Departing.{left_ran, ticked_ran}
use Rattle.jobs.specs.Soundness.{Sound}
use Rattle.history.specs.Calls.{Call, submit, depart, cancel, tick, amend, unchanged}
use Rattle.history_proof.specs.Obligations.{Ticketed}
use Rattle.history_proof.specs.Departures.{Ended}
use Rattle.easy_rules.specs.Easy.{queue, head, free, avail, shadow, extra, qualifies, pick, choice, Settling, forecast, noted, finished, new_job, submit_refusal, advanced, call}
use Rattle.easy_laws.specs.Settling.{none_starts}
use Rattle.easy_laws.specs.Course.{OnCourse, left, queue_left, free_left, avail_left, shadow_left}
use Rattle.easy_laws.specs.EngineLaws.{settle_rests}
use Rattle.easy_laws.specs.Validity.{Valid, CallAccepted, Unchanged, called}
use Rattle.easy_laws.specs.Obligations.{waits_queued, taken_joins, quiet_comes}
use Rattle.easy_laws.specs.Sentences.{call_next}

-- none found where no element passes
first_of_none : (p : Job → Bool) (js : List Job) → ((j : Job) → In j js → p j ≡ false) → first p js ≡ none
first_of_none p [] f = refl
first_of_none p (j ∷ js) f = rw (f j (here refl)) (first_of_none p js (λ k i. f k (there i)))

module _ (m : Model) (t : ℕ) (v : Valid m) (h : Job) (later : List Job) (e : queue m.jobs ≡ h ∷ later) (n : h.ticket ≡ t → ⊥) where
  abbrev others : List Job
  others = keep (λ (j : Job). not (eqb j.ticket t)) later

  queue_others : queue (left m t v.ready.sound).jobs ≡ h ∷ others
  queue_others = rw (e, ne_eqb h.ticket t n) at (queue_left m t v.ready.sound)

  -- nobody qualifies who did not
  qualifies_left : (j : Job) → qualifies (left m t v.ready.sound) h j ≡ qualifies m h j
  unfolding qualifies extra
  qualifies_left j =
      ap (λ (f : ℕ). by f (shadow l h.nodes) (avail l (shadow l h.nodes))) (free_left m t v.ready.sound)
      ∙ ap (λ (s : ℕ). by (free m) s (avail l s)) (shadow_left m t v.ready.sound h.nodes)
      ∙ ap (by (free m) (shadow m h.nodes)) (avail_left m t v.ready.sound (shadow m h.nodes))
    where
      l : Model
      l = left m t v.ready.sound

      by : (now shadow then : ℕ) → Bool
      by now shadow then =
          leb j.nodes now && (leb (m.clock + hold_time m.settings j.estimate) shadow || leb j.nodes (then - h.nodes))

  withdrawn_rests : choice (left m t v.ready.sound) ≡ none
  unfolding pick
  withdrawn_rests =
      let x = none_starts m h later (ap (pick m) (sym e) ∙ v.rests) in
      let l : leb h.nodes (free (left m t v.ready.sound)) ≡ false = lt-leb h.nodes (free (left m t v.ready.sound)) (omega (arith, x.0, free_left m t v.ready.sound)) in
      ap (pick (left m t v.ready.sound)) queue_others
      ∙ rw l (first_of_none (qualifies (left m t v.ready.sound) h) others
      (λ j i. qualifies_left j ∙ x.1 j (keep_in (λ (j : Job). not (eqb j.ticket t)) later i).0))

  -- who was head is head, and hears nothing new
  still_head : queue (left m t v.ready.sound).jobs ≡ h ∷ others → forecast m (left m t v.ready.sound) ≡ none
  unfolding forecast
  still_head q = rw (q, e, eq-eqb h.ticket h.ticket refl)

  pub record Undisturbed : Type 0 where
    pub none_starts : (call m (cancel t)).reply.started ≡ []
    pub head_stays : head (call m (cancel t)).model ≡ head m
    pub shadow_stays : (k : ℕ) → shadow (call m (cancel t)).model k ≡ shadow m k

  -- Document 02, No. 1, of the withdrawal of a later job.
  pub later_withdrawn : accepts (call m (cancel t)).reply.refusal ≡ true → Undisturbed
  unfolding call advanced finished
  later_withdrawn a =
      let l = left m t v.ready.sound in
      let j = (judged_accepted m (depart_refusal m Cancel t) (advanced m m.clock (select.Departing Cancel t)) a).1 in
      let s = settle_rests l withdrawn_rests in
      let n : forecast m l ≡ none = still_head queue_others in
      let q : (call m (cancel t)).model ≡ l =
      ap (λ (o : Result). o.model) j ∙ ap (λ (x : Settling). noted (forecast m x.model) x.model) s ∙ ap (λ (f : Option Forecast). noted f l) n in
      record {
        none_starts = ap (λ (o : Result). o.reply.started) j ∙ ap (λ (x : Settling). x.started) s;
        head_stays = ap head q ∙ ap head? queue_others ∙ sym (ap head? e);
        shadow_stays = λ k. ap (λ (x : Model). shadow x k) q ∙ shadow_left m t v.ready.sound k;
      }

-- ## Tickets

-- a job whose run ends was running, and had run for at least its least
ended_ran : (m : Model) (c : Call) (u : ℕ) → Sound m → Ended m c u (call m c)
unfolding call advanced finished
ended_ran m (submit o) u s =
    judged_by (Ended m (submit o) u) m (submit_refusal m o) (finished m (joined m (new_job m o)) m.next [])
    (λ a e. true_false false e refl) (λ a e. true_false false e refl)
ended_ran m (depart h t) u s =
    judged_by (Ended m (depart h t) u) m (depart_refusal m h t) (advanced m m.clock (select.Departing h t))
    (λ a e. left_ran m h t u a e) (λ a e. true_false false e refl)
ended_ran m tick u s =
    judged_by (Ended m tick u) m (tick_refusal m) (advanced m (suc m.clock) (ending m)) (λ a e. ticked_ran m u s e) (λ a e. true_false false e refl)
ended_ran m (amend a) u s =
    judged_by (Ended m (amend a) u) m (in_place_refusal m a) (finished m (in_place_of m a) a.ticket []) (λ x e. true_false false e refl)
    (λ x e. true_false false e refl)
ended_ran m (unchanged w) u s = λ e. true_false false e refl

pub easy_ticketed : Ticketed call Valid OnCourse
easy_ticketed = record {
  sound = λ m v. v.ready.sound;
  next = call_next;
  gives = λ m c o v i.
      ⊎_elim
      (λ (t : CallAccepted m c (call m c)). (taken_joins m c (call m c) v t o i).0)
      (λ (q : Unchanged m c (call m c)). quiet_comes m c (call m c) v q o i)
      (called m c v);
  ends = λ m c t v. ended_ran m c t v.ready.sound;
  waits = λ m t b o. waits_queued m t o.waits;
}
