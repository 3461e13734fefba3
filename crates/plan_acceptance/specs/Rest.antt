-- A scheduler of EASY whose plan fits: the lists of its survey are those that the search for the shadow takes.
-- Assumes nothing.
use Rattle.std.specs.Prelude.{ℕ, ◌+◌, ◌-◌, ◌≤◌, ◌<◌, ◌≡◌, refl, Bool, true, false}
use native.Mathlib.Omega.{arith}
use Rattle.std.proofs.Common.{sym, subst, ◌∙◌}
use Rattle.std.proofs.Math.Path.{ap}
use mathlib.Core.List.{List, [], ◌∷◌, head?}
use Rattle.std.proofs.Math.Option.{Option, none, some}
use Rattle.lists.specs.Tests.{case, on}
use Rattle.lists.specs.Lists.{first, In, keep_in, sum_cong, sum_zero, sum_picked}
use Rattle.lists.specs.FirstLaws.{head_keep}
use Rattle.spans.specs.Spans.{used}
use Rattle.spans.proofs.UsedNodes.{takes_in}
use Rattle.spans.specs.EveryMinute.{fits_every}
use Rattle.spans.proofs.EveryMinute.{every_minute}
use Rattle.scheduler.specs.declared.Kind.{Kind}
use Rattle.scheduler.specs.declared.Kind.TheVariants.{Easy}
use Rattle.scheduler.specs.declared.Job.{Job}
use Rattle.scheduler.specs.declared.Scheduler.{Scheduler}
use Rattle.scheduler.specs.declared.Settings.{Settings}
use Rattle.scheduler.specs.Limits as limit
use Rattle.scheduler.specs.Jobs.{is_waiting, is_holding, held}
use Rattle.scheduler.specs.Settings.{unit}
use Rattle.scheduler.specs.Times.{unit_le}
use Rattle.scheduler.specs.Table.{nodes_held}
use Rattle.scheduler.specs.Model.{Model, view}
use Rattle.conservative_rules.specs.Conservative.{span, spans}
use Rattle.conservative_laws.specs.Validity.{taken, used_jobs}
use Rattle.easy_rules.specs.Easy.{queue, free, freed, avail, shadow, extra, on_choice}
use Rattle.easy_laws.specs.Settling.{Releasing, not_ended, shadow_from, shadow_to, shadow_suffices}
use Rattle.easy_laws.specs.Course.{head_in}
use Rattle.job_columns.specs.Columns.{nodes_of}
use Rattle.easy_engine.specs.Survey.{running, Held, Lacks}
use Rattle.checkpoint_rules.specs.Acceptance.{plan_of, minutes_fit}
use Rattle.checkpoint_laws.specs.Stages.{own_plan}
use Rattle.lists.specs.EveryLoop.{every_from}
use Rattle.plan_acceptance.specs.Plan.{PlanColumns, Planned, queue_slots}
use Rattle.plan_acceptance.specs.Queue.{rests_at, QueueTimed, nobody_asked, head_starts, rests_all}
use Rattle.plan_acceptance.specs.Tested.{Tested, plan_of_for, begun_by, held_after, held_within}

-- ## Of a model

module _ (m : Model) (t : Tested m) where
  abbrev S : Settings
  S = m.settings

  -- what the plan takes now are the nodes that are held now
  pub used_now : used m.clock (spans S (running m.jobs)) ≡ nodes_held m.jobs
  used_now =
      used_jobs S m.clock (running m.jobs)
      ∙ sum_picked (taken S m.clock) is_holding m.jobs
      ∙ sum_cong (λ (j : Job). on (is_holding j) (taken S m.clock j)) held m.jobs (λ j i.
      case (is_holding j) (λ h. rw (h, takes_in m.clock (span S j) (begun_by m t j i h) (held_after m t j i h))) (λ h. rw h))

  -- nothing but the free nodes is there now
  pub avail_free : avail m m.clock ≡ free m
  avail_free =
      omega (
        arith,
        sum_zero (freed S m.clock) m.jobs (λ j i. rw (not_ended S m.clock j (λ h. held_after m t j i h))),
      )

  module _ (k : S.kind ≡ Easy) (f : minutes_fit m ≡ true) where
    -- no more nodes are held than there are
    pub held_to : nodes_held m.jobs ≤ S.nodes
    unfolding minutes_fit
    held_to =
        omega (
          arith,
          used_now,
          every_minute S.nodes (spans S (running m.jobs)) m.clock
              (subst (λ (x : Kind). fits_every S.nodes (spans S (plan_of x m.jobs)) m.clock ≡ true) k f) m.clock (omega arith),
        )

    -- what the search for the shadow needs of a model
    pub releasing : Releasing m
    releasing = record {
      few = t.few;
      nodes_to = t.desk.nodes_to;
      capacity = held_to;
      later = λ j i h. omega (arith, held_after m t j i h);
      soon = λ j i h. held_within m t j i h;
    }

-- ## Of a scheduler and its lists

-- the records pass their tests, the plan fits, and the lists are its survey
pub record Fitting (d : Scheduler) (held froms untils : List ℕ) (count : ℕ) : Type 0 where
  pub kind : (view d).settings.kind ≡ Easy
  pub tested : Tested (view d)
  pub fit : minutes_fit (view d) ≡ true
  pub columns : PlanColumns (view d).settings (running (view d).jobs) held froms untils count

-- the first waiting job asks for this many nodes
pub record HeadAsks (m : Model) (need : ℕ) : Type 0 where
  pub job : Job
  pub later : List Job
  pub first : queue m.jobs ≡ job ∷ later
  pub need_is : need ≡ job.nodes

-- it has to wait for them until this minute, in which this many are there
pub record HeadWaits (m : Model) (need spare minute there : ℕ) : Type 0 where
  pub asks : HeadAsks m need
  pub spare_is : spare ≡ free m
  pub short : spare < need
  pub minute_is : minute ≡ shadow m need
  pub there_is : there ≡ avail m minute

module _ {d : Scheduler} {heldₗ froms untils : List ℕ} {count : ℕ} (v : Fitting d heldₗ froms untils count) where
  abbrev m : Model
  m = view d

  -- the lists stand for the plan
  abbrev pub plan_by : Planned heldₗ froms untils count
  plan_by = plan_of_for m v.tested Easy v.columns

  -- the nodes n that the plan takes now, and what they leave
  module _ (n : ℕ) (e : n ≡ used d.clock (spans m.settings (running m.jobs))) where
    pub used_to : n ≤ d.settings.nodes
    unfolding view
    used_to = omega (arith, e, used_now m v.tested, held_to m v.tested v.kind v.fit)

    pub spare_free : d.settings.nodes - n ≡ free m
    unfolding view
    spare_free = omega (arith, e, used_now m v.tested)

  -- code reads off the slots what the first that waits asks for: nothing where nobody waits
  module _ (need : ℕ) (a : need ≡ on_choice (first is_waiting d.jobs) 0 nodes_of) where
    asked : need ≡ on_choice (head? (queue m.jobs)) 0 nodes_of
    unfolding view
    asked =
        a ∙ ap (λ (o : Option Job). on_choice o 0 nodes_of) (sym (ap head? (queue_slots d.jobs) ∙ head_keep is_waiting d.jobs))

    pub nobody_asks : need ≡ 0 → true ≡ own_plan Easy m
    nobody_asks z = by (queue m.jobs) refl
      where
        by : (q : List Job) → queue m.jobs ≡ q → true ≡ own_plan Easy m
        by [] e = sym (nobody_asked m e)
        by (h ∷ later) e =
            let i = head_in m h later e in
            absurd (omega (arith, asked, ap (λ (q : List Job). on_choice (head? q) 0 nodes_of) e, (v.tested.each h i.0).range.nodes_from))

    pub head_asks : (need ≡ 0 → ⊥) → HeadAsks m need
    head_asks z = by (queue m.jobs) refl
      where
        by : (q : List Job) → queue m.jobs ≡ q → HeadAsks m need
        by [] e = absurd (z (asked ∙ ap (λ (q : List Job). on_choice (head? q) 0 nodes_of) e))
        by (h ∷ later) e = record { job = h; later = later; first = e; need_is = asked ∙ ap (λ (q : List Job). on_choice (head? q) 0 nodes_of) e }

  pub nobody_waits : first is_waiting d.jobs ≡ none → true ≡ own_plan Easy m
  nobody_waits e = nobody_asks 0 (sym (ap (λ (o : Option Job). on_choice o 0 nodes_of) e)) refl

  module _ (need : ℕ) (a : (j : Job) × (first is_waiting d.jobs ≡ some j) × (need ≡ j.nodes)) where
    head_slot : head? (queue m.jobs) ≡ some a.0
    unfolding view
    head_slot = ap head? (queue_slots d.jobs) ∙ head_keep is_waiting d.jobs ∙ a.1

    pub somebody_asks : HeadAsks m need
    somebody_asks = by (queue m.jobs) refl
      where
        by : (q : List Job) → queue m.jobs ≡ q → HeadAsks m need
        by [] e = absurd (let z : none ≡ some a.0 = ap head? (sym e) ∙ head_slot in let y : ◌≡◌ {A = ℕ} 0 1 = cc in omega arith)
        by (h ∷ later) e =
            let z : h ≡ a.0 = let w : some h ≡ some a.0 = ap head? (sym e) ∙ head_slot in cc in
            record { job = h; later = later; first = e; need_is = a.2 ∙ ap nodes_of (sym z) }

  -- the clock and the latest minute of the search, as code has them
  pub clock_low : d.clock ≤ limit.horizon
  unfolding view
  clock_low = v.tested.desk.clock_to

  pub latest_by : (latest : ℕ) → latest ≡ d.clock + unit d.settings → latest ≡ m.clock + unit m.settings
  unfolding view
  latest_by latest e = e

  module _ (spare : ℕ) (s : spare ≡ free m) where
    -- the lists stand for the jobs that hold nodes
    abbrev pub held_by : Held heldₗ untils count spare
    held_by = record {
      model = m;
      jobs = running m.jobs;
      holding = record {
        releasing = releasing m v.tested v.kind v.fit;
        runs = record { each = λ j i. (keep_in is_holding m.jobs i).1; same = λ f. sum_picked f is_holding m.jobs };
        held_is = v.columns.held_is;
        ends_is = v.columns.untils_are;
        count_is = v.columns.count_is;
        spare_is = s;
      };
    }

  module _ {need : ℕ} (h : HeadAsks m need) where
    -- no more than the machine has
    pub need_to : need ≤ m.settings.nodes
    need_to = omega (arith, h.need_is, (v.tested.each h.job (head_in m h.job h.later h.first).0).range.nodes_to)

    module _ (spare : ℕ) (s : spare ≡ free m) where
      -- it fits now, or lacks nodes
      pub head_fits_lem : need ≤ spare → false ≡ own_plan Easy m
      head_fits_lem l = sym (head_starts m h.job h.later h.first (omega (arith, h.need_is)))

      abbrev pub lacks_by : spare < need → (latest : ℕ) → latest ≡ d.clock + unit d.settings → Lacks heldₗ untils count spare need latest
      lacks_by l latest e = record {
        of = held_by spare s;
        more = omega (arith, avail_free m v.tested);
        within = need_to;
        latest_is = latest_by latest e;
      }

  -- ## Where the head waits

  module _ {need spare minute there : ℕ} (w : HeadWaits m need spare minute there) where
    -- then its nodes are there; no sum of the queue's tests leaves its range; and these tests decide
    pub enough : need ≤ there
    enough =
        omega (
          arith,
          w.there_is,
          ap (avail m) w.minute_is,
          shadow_suffices m need (releasing m v.tested v.kind v.fit) (need_to w.asks),
        )

    pub timed : QueueTimed d minute
    unfolding view
    timed = record {
      from = omega (arith, w.minute_is, shadow_from m need);
      early = omega (arith, w.minute_is, shadow_to m need, unit_le d.settings, v.tested.desk.clock_to);
      each = λ j i.
          let k = keep_in is_waiting m.jobs (subst (In j) (sym (queue_slots d.jobs)) i) in
          let r = v.tested.ranks v.kind j k.0 in
          (omega (arith, r.0, v.tested.desk.clock_to), r.1);
    }

    pub rests_by : (r : Bool) → r ≡ every_from (rests_at d.settings spare (there - need) (minute - d.clock) minute) 0 (queue d.jobs)
        → r ≡ own_plan Easy m
    unfolding view extra
    rests_by r e =
        let h = w.asks in
        let n : need ≡ h.job.nodes = h.need_is in
        let t : minute ≡ shadow m h.job.nodes = w.minute_is ∙ ap (shadow m) n in
        let b : there - need ≡ extra m h.job.nodes = omega (arith, w.there_is, ap (avail m) t, n) in
        e
        ∙ rw (w.spare_is, b, t, ← queue_slots d.jobs)
        (rests_all m h.job h.later h.first v.tested.asc (omega (arith, w.short, w.spare_is)))
