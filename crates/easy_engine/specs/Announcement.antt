-- The announcement of a new head, and a settling in which nothing happens.
-- Assumes nothing.
use Rattle.std.specs.Prelude.{ℕ, ◌≤◌, ◌≡◌, refl, Bool, cond, eqb, length, get_or}
use Rattle.std.proofs.Common.{arith, sym, ap, ◌∙◌, eq-eqb, ne_eqb}
use Rattle.std.proofs.Math.Option.{Option, none, some}
use mathlib.Core.List.{List, [], ◌∷◌, head?}
use Rattle.lists.specs.Lists.{In, first, first_in, keep_all, keep_in}
use Rattle.lists.specs.Pads.{pad}
use Rattle.scheduler.specs.declared.Job.{Job}
use Rattle.scheduler.specs.declared.Scheduler.{Scheduler}
use Rattle.scheduler.specs.Limits.{slots}
use Rattle.scheduler.specs.Jobs.{is_waiting}
use Rattle.scheduler.specs.Table.{ticket_of, tickets_of}
use Rattle.scheduler.specs.Model.{Model, view}
use Rattle.jobs.specs.Order.{asc_in}
use Rattle.jobs.specs.Soundness.{Sound}
use Rattle.jobs.specs.Premise.{Holds}
use Rattle.easy_rules.specs.Easy.{queue, head, head_is, shadow, free, Settling, settled, forecast}
use Rattle.lists.specs.FirstLaws.{head_keep}
use Rattle.easy_laws.specs.EngineLaws.{settle_rests}
use Rattle.easy_laws.specs.Validity.{Ready}
use Rattle.job_columns.specs.Columns.{Column}
use Rattle.easy_engine.specs.Survey.{asks_to, SurveyRests, ticket_in, announced, Answers}
use Rattle.easy_engine.specs.Choices.{none_start}

-- ## The forecast, by the ticket of the head before

head_is_by : (o : Option Job) (h : Job) → 1 ≤ h.ticket → head_is o h ≡ eqb (ticket_in o) h.ticket
head_is_by none h l = sym (ne_eqb 0 h.ticket (λ e. omega arith))
head_is_by (some k) h l = refl

module _ (b m : Model) where
  pub forecast_none : head m ≡ none → forecast b m ≡ none
  unfolding forecast
  forecast_none e = rw e

  module _ (h : Job) (e : head m ≡ some h) (l : 1 ≤ h.ticket) where
    forecast_by : forecast b m ≡ cond (eqb (ticket_in (head b)) h.ticket) none (some (record { ticket = h.ticket; minute = shadow m h.nodes }))
    unfolding forecast
    forecast_by = rw (e, head_is_by (head b) h l)

    pub forecast_same : ticket_in (head b) ≡ h.ticket → forecast b m ≡ none
    forecast_same q = forecast_by ∙ ap (λ (t : Bool). cond t none (some (record { ticket = h.ticket; minute = shadow m h.nodes })))
        (eq-eqb (ticket_in (head b)) h.ticket q)

    pub forecast_new : (ticket_in (head b) ≡ h.ticket → ⊥) → forecast b m ≡ some (record { ticket = h.ticket; minute = shadow m h.nodes })
    forecast_new q = forecast_by ∙ ap (λ (t : Bool). cond t none (some (record { ticket = h.ticket; minute = shadow m h.nodes })))
        (ne_eqb (ticket_in (head b)) h.ticket q)

-- the head is a job of the model
pub head_in : (m : Model) (h : Job) → head m ≡ some h → In h m.jobs
head_in m h e = (first_in is_waiting m.jobs (sym (head_keep is_waiting m.jobs) ∙ e)).0

module _ (b m : Model) where
  -- where the head is that of before there is none
  pub forecast_still : Sound m → ((h : Job) → head m ≡ some h → ticket_in (head b) ≡ h.ticket) → forecast b m ≡ none
  forecast_still s f = by (head m) refl
    where
      by : (o : Option Job) → head m ≡ o → forecast b m ≡ none
      by none e = forecast_none b m e
      by (some h) e = forecast_same b m h e (asc_in 1 m.jobs s.asc (head_in m h e)) (f h e)

-- ## The head

-- the first of the tickets of the waiting jobs
pub first_is : (d : Scheduler) (tickets : List ℕ) → Column ticket_of (queue (view d).jobs) tickets → get_or tickets 0 0 ≡ ticket_in (head (view d))
unfolding pad
first_is d tickets c = ap (λ (ns : List ℕ). get_or ns 0 0) c ∙ by (queue (view d).jobs)
  where
    by : (q : List Job) → get_or (pad slots 0 (tickets_of q)) 0 0 ≡ ticket_in (head? q)
    by [] = refl
    by (h ∷ q) = refl

-- ## Nobody fits, and the head is that of before

module _ (d : Scheduler) (h : Holds Ready d) {spare before : ℕ} (f : spare ≡ free (view d)) (r : SurveyRests (queue (view d).jobs) spare before) where
  pub quiet : settled (view d) ≡ record { model = view d; started = [] }
  quiet =
      settle_rests (view d)
      (none_start (view d) (queue (view d).jobs) (keep_all is_waiting (queue (view d).jobs) (λ j i. (keep_in is_waiting (view d).jobs i).1)) h.holds.sound
      (ap (λ (n : ℕ). first (asks_to n) (queue (view d).jobs)) (sym f) ∙ r.none_fits))

  pub quiet_answers : (order places : List ℕ) → Answers d places before order (record { started = 0; head = 0; forecast = 0 })
  quiet_answers order places = record {
    applies = record {
      asc = h.holds.sound.asc;
      few = h.holds.sound.few;
      stored = h.stored;
      count_is = ap (λ (x : Settling). length x.started) quiet;
      count_low = omega arith;
      order_low = λ k l. absurd (omega arith);
      place_low = λ k l. absurd (omega arith);
      ticket_is = λ k l. absurd (omega arith);
    };
    head_is_lem = λ b q.
        sym (ap (λ (x : Settling). announced (forecast b x.model)) quiet
        ∙ ap announced (forecast_still b (view d) h.holds.sound (λ k z. sym q ∙ r.same_head k z)));
  }
