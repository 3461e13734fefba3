-- The live jobs themselves, slot by slot, as waiting jobs: one that does not wait asks for more nodes than any machine has. So a settling
-- goes over the columns that a scheduler's jobs are kept in, and notes slots.
-- Assumes nothing.
use Rattle.std.specs.Prelude.{ℕ, ◌+◌, ◌≤◌, ◌<◌, ◌≡◌, refl, List, [], ◌++◌, map, length, get_or, drop}
use Rattle.std.proofs.Common.{arith, sym, ap, subst, ◌∙◌}
use Rattle.std.proofs.Math.Option.{none, some}
use Rattle.std.proofs.Math.ListN.{get_or-append}
use Rattle.std.proofs.lemmas.List.Edits.{sets-eq}
use Rattle.lists.specs.Lists.{In, first}
use Rattle.lists.specs.Pads.{pad}
use Rattle.scheduler.specs.declared.Settings.{Settings}
use Rattle.scheduler.specs.declared.Job.{Job}
use Rattle.scheduler.specs.Limits.{slots}
use Rattle.scheduler.specs.Jobs.{unused}
use Rattle.scheduler.specs.Table.{ticket_of, tickets_of}
use Rattle.scheduler.specs.Model.{Model}
use Rattle.jobs.specs.Order.{asc_in}
use Rattle.easy_rules.specs.Easy.{head, free, choice, begun, settled, forecast}
use Rattle.easy_laws.specs.Settling.{settles, settles_rest}
use Rattle.easy_laws.specs.EngineLaws.{settle_rests}
use Rattle.easy_laws.specs.Validity.{Ready}
use Rattle.job_columns.specs.Columns.{Column, estimate_of}
use Rattle.easy_engine.specs.declared.Settled.{Settled}
use Rattle.easy_engine.specs.declared.SlotAnswer.{SlotAnswer}
use Rattle.easy_engine.specs.Survey.{asks, asks_to, Holding, Surveyed, Settlement, Announces, ticket_in, announced}
use Rattle.easy_engine.specs.Shadows.{holding_few}
use Rattle.easy_engine.specs.Choices.{none_start}
use Rattle.easy_engine.specs.Announcement.{head_in, forecast_still}

-- the lists are the columns of all live jobs of a model that is ready to settle, and of those that hold nodes
pub record SlotSurvey (held ends : List ℕ) (running : ℕ) (asked estimates tickets : List ℕ) (live : ℕ) (order : List ℕ) (clock spare : ℕ)
    (S : Settings) : Type 0 where
  pub model : Model
  pub ready : Ready model
  pub settings_is : S ≡ model.settings
  pub clock_is : clock ≡ model.clock
  pub jobs : List Job
  pub holding : Holding model jobs held ends running spare
  pub live_is : length model.jobs ≡ live
  pub asked_are : Column asks model.jobs asked
  pub estimates_are : Column estimate_of model.jobs estimates
  pub tickets_are : Column ticket_of model.jobs tickets
  pub room : length order ≡ slots

-- the jobs that hold nodes, with those of these slots, which start
abbrev pub with_starts : Model → List Job → List ℕ → List Job
with_starts m rs places = rs ++ map (λ (i : ℕ). begun m.clock (get_or m.jobs i unused)) places

-- the slots of those who start, in order; the lists after it; the new head with its forecast
pub record SlotAnswers (m : Model) (rs : List Job) (before running : ℕ) (r : SlotAnswer) (held ends asked order : List ℕ) : Type 0 where
  pub places : List ℕ
  pub low : (i : ℕ) → In i places → i < length m.jobs
  pub count_is : length places ≡ r.started
  pub order_is : (k : ℕ) → k < length places → get_or order k 0 ≡ get_or places k 0
  pub started_are : map (λ (i : ℕ). get_or (tickets_of m.jobs) i 0) places ≡ (settled m).started
  pub holding : Holding (settled m).model (with_starts m rs places) held ends (running + r.started) r.spare
  pub asked_are : Column asks (settled m).model.jobs asked
  pub head_is_lem : (b : Model) → before ≡ ticket_in (head b)
      → record { ticket = r.head; minute = r.forecast } ≡ announced (forecast b (settled m).model)

-- nobody starts, and nobody is head who was not
pub record AtRest (b m : Model) : Type 0 where
  pub settled_is : settled m ≡ record { model = m; started = [] }
  pub silent : forecast b m ≡ none

-- ## The survey by slot

module _ {held ends : List ℕ} {running : ℕ} {asked estimates tickets : List ℕ} {live : ℕ} {order : List ℕ} {clock spare : ℕ} {S : Settings}
    (s : SlotSurvey held ends running asked estimates tickets live order clock spare S) where
  abbrev m : Model
  m = s.model

  abbrev pub surveyed : Surveyed held ends running asked estimates live clock spare S
  surveyed = record {
    model = m;
    ready = s.ready;
    settings_is = s.settings_is;
    clock_is = s.clock_is;
    jobs = s.jobs;
    holding = s.holding;
    asking = m.jobs;
    waits = record {
      asked_is = s.asked_are;
      estimates_is = s.estimates_are;
      count_is = s.live_is;
      few = omega (arith, s.live_is, s.ready.sound.few);
      asc = s.ready.sound.asc;
      queue_is = refl;
    };
  }

  module _ {q : Settled} {held' ends' asked' order' : List ℕ}
      (p : Settlement m s.jobs m.jobs estimates running live clock S 0 order q held' ends' asked' order') where
    -- nobody can start any more
    abbrev pub announces : Announces held' ends' q.running asked' tickets live clock q.spare S
    announces = record {
      estimates = estimates;
      surveyed = p.after;
      tickets_are = s.tickets_are ∙ ap (pad slots 0) (sym p.same_tickets);
      rests = ap choice p.model_is ∙ settles_rest (settles m s.ready.sound);
    }

    pub slot_answers : (before : ℕ) (r : SlotAnswer) → r.started ≡ q.count → r.spare ≡ q.spare
        → ((b : Model) → before ≡ ticket_in (head b) → record { ticket = r.head; minute = r.forecast } ≡ announced (forecast b p.after.model))
        → SlotAnswers m s.jobs before running r held' ends' asked' order'
    slot_answers before r ce se h =
        let few : length p.places ≤ slots = omega (arith, holding_few p.after.holding, p.running_is) in
        record {
          places = p.places;
          low = λ i u. omega (arith, p.low i u, s.live_is);
          count_is = omega (arith, p.count_is);
          order_is = λ k l.
              ap (λ (ns : List ℕ). get_or ns k 0) (p.order_is ∙ sets-eq p.places order 0 (omega (arith, s.room)))
              ∙ get_or-append p.places (drop (0 + length p.places) order) 0 k l;
          started_are = p.tickets_are;
          holding = after p.after.holding p.model_is p.holders_are (omega (arith, p.running_is, p.count_is)) se;
          asked_are = p.after.waits.asked_is ∙ ap (λ (js : List Job). pad slots 0 (map asks js)) (p.whole refl ∙ ap (λ (x : Model). x.jobs) p.model_is);
          head_is_lem = λ b e. h b e ∙ ap (λ (x : Model). announced (forecast b x)) p.model_is;
        }
      where
        after : {x y : Model} {xs ys : List Job} {i j a b : ℕ} → Holding x xs held' ends' i a → x ≡ y → xs ≡ ys → j ≡ i → b ≡ a
            → Holding y ys held' ends' j b
        after {y = y} {xs = xs} {ys = ys} {i = i} {j = j} {a = a} h e f g k =
            subst (λ (b : ℕ). Holding y ys held' ends' j b) (sym k)
            (subst (λ (j : ℕ). Holding y ys held' ends' j a) (sym g)
            (subst (λ (zs : List Job). Holding y zs held' ends' i a) f (subst (λ (z : Model). Holding z xs held' ends' i a) e h)))

-- ## Nobody fits, and the head is that of before

pub at_rest : (b m : Model) → Ready m → (spare leading before : ℕ) → spare ≡ free m → leading ≡ ticket_in (head m) → before ≡ ticket_in (head b)
    → first (asks_to spare) m.jobs ≡ none → (1 ≤ leading → leading ≡ before) → AtRest b m
at_rest b m r spare leading before f l e n h = record {
  settled_is = settle_rests m (none_start m m.jobs refl r.sound (ap (λ (k : ℕ). first (asks_to k) m.jobs) (sym f) ∙ n));
  silent = forecast_still b m r.sound (λ k z. sym e ∙ sym (h (omega (arith, l, ap ticket_in z, positive k z))) ∙ l ∙ ap ticket_in z);
}
  where
    positive : (k : Job) → head m ≡ some k → 1 ≤ k.ticket
    positive k z = asc_in 1 m.jobs r.sound.asc (head_in m k z)
