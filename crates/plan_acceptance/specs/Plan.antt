-- The plan of a scheduler in lent lists: its survey, the nodes that it takes in a minute, and whether every minute fits.
-- Assumes nothing.
use Rattle.std.specs.Prelude.{ℕ, ◌+◌, ◌*◌, max, ◌≤◌, ◌<◌, ◌≡◌, refl, Bool, true, false, ◌&&◌, List, [], ◌∷◌, leb, ltb, get_or, set, take, drop}
use Rattle.std.proofs.Common.{arith, sym, ap, subst, ◌∙◌, length-append, take_all, length-take-le, le-leb}
use Rattle.std.proofs.Math.ListN.{length}
use Rattle.std.proofs.lemmas.Bool.{lt-leb}
use Rattle.lists.specs.Tests.{on}
use Rattle.lists.specs.Lists.{keep, sum, In, keep_keep, keep_cong, in_keep, in_getD, length_keep_le, sum_to}
use Rattle.lists.specs.Loops.{sum_drop, sum_done, keep_take_yes, keep_take_no}
use Rattle.lists.specs.Every.{every, every_map}
use Rattle.spans.specs.declared.Span.{Span}
use Rattle.spans.specs.Spans.{takes, used}
use Rattle.spans.proofs.UsedNodes.{takes_le}
use Rattle.spans.specs.EveryMinute.{fits_every}
use Rattle.scheduler.specs.declared.Kind.{Kind}
use Rattle.scheduler.specs.declared.Kind.TheVariants.{Conservative, Easy}
use Rattle.scheduler.specs.declared.State.{State}
use Rattle.scheduler.specs.declared.State.TheVariants.{Unused, Waiting, Running, Cleanup}
use Rattle.scheduler.specs.declared.Job.{Job}
use Rattle.scheduler.specs.declared.Scheduler.{Scheduler}
use Rattle.scheduler.specs.declared.Settings.{Settings}
use Rattle.scheduler.specs.Limits.{slots, max_nodes}
use Rattle.scheduler.specs.States.{live?, waiting?, holding?}
use Rattle.scheduler.specs.Jobs.{unused, is_live_of, is_holding}
use Rattle.scheduler.specs.Settings.{until}
use Rattle.scheduler.specs.Model.{Model, view}
use Rattle.jobs.specs.Slots.{Low}
use Rattle.conservative_rules.specs.Conservative.{span, spans}
use Rattle.conservative_laws.specs.Validity.{taken, used_jobs}
use Rattle.easy_rules.specs.Easy.{queue}
use Rattle.job_columns.specs.Columns.{Column, nodes_of, column_at, column_push}
use Rattle.checkpoint_rules.specs.Acceptance.{plan_of}
use Rattle.lists.specs.EveryLoop.{every_passed, every_failed, every_ended}

-- ## Whom the plan has

-- the jobs that are planned or under way: on EASY a waiting job has no start yet
abbrev pub plan_in : Model → List Job
plan_in m = plan_of m.settings.kind m.jobs

-- by the slots: the live ones, and on EASY those that hold nodes
abbrev pub in_plan : Kind → Job → Bool
in_plan Conservative j = is_live_of j
in_plan Easy j = is_holding j

abbrev pub planned_of : Scheduler → List Job → List Job
planned_of d xs = keep (in_plan d.settings.kind) xs

-- a test that only live jobs pass picks the same among all slots as among the live ones
module _ (p : State → Bool) (l : (s : State) → (live? s && p s) ≡ p s) where
  among_live : (xs : List Job) → keep (λ (j : Job). p j.state) (keep is_live_of xs) ≡ keep (λ (j : Job). p j.state) xs
  among_live xs =
      keep_keep (λ (j : Job). p j.state) is_live_of xs
      ∙ keep_cong (λ (j : Job). is_live_of j && p j.state) (λ (j : Job). p j.state) xs (λ j i. l j.state)

-- who holds nodes or waits is live
holding_live : (s : State) → (live? s && holding? s) ≡ holding? s
holding_live Unused = refl
holding_live Waiting = refl
holding_live Running = refl
holding_live Cleanup = refl

waiting_live : (s : State) → (live? s && waiting? s) ≡ waiting? s
waiting_live Unused = refl
waiting_live Waiting = refl
waiting_live Running = refl
waiting_live Cleanup = refl

-- so the queue and the plan can be read off the slots
pub queue_slots : (xs : List Job) → queue (keep is_live_of xs) ≡ queue xs
queue_slots xs = among_live waiting? waiting_live xs

plan_slots : (k : Kind) (xs : List Job) → keep (in_plan k) xs ≡ plan_of k (keep is_live_of xs)
plan_slots Conservative xs = refl
plan_slots Easy xs = sym (among_live holding? holding_live xs)

planned_is : (d : Scheduler) → planned_of d d.jobs ≡ plan_in (view d)
unfolding view
planned_is d = plan_slots d.settings.kind d.jobs

-- ## Columns

-- the minute from which its nodes are taken
abbrev pub start_of : Job → ℕ
start_of j = j.start

-- the lists have of these jobs their nodes, the minutes from which these are taken, and those from which they are free again
pub record PlanColumns (S : Settings) (js : List Job) (held froms untils : List ℕ) (count : ℕ) : Type 0 where
  pub held_is : Column nodes_of js held
  pub froms_are : Column start_of js froms
  pub untils_are : Column (until S) js untils
  pub count_is : length js ≡ count

-- the lists stand for the plan of some jobs, no more than there are slots, whose nodes can be summed
pub record Planned (held froms untils : List ℕ) (count : ℕ) : Type 0 where
  pub settings : Settings
  pub jobs : List Job
  pub columns : PlanColumns settings jobs held froms untils count
  pub few : count ≤ slots
  pub low : (j : Job) → In j jobs → j.nodes ≤ max_nodes

-- ## The survey

-- no job of the plan has a minute past the last one, so that code can add a hold to it
abbrev pub PlanLow : Model → Type 0
PlanLow m = (j : Job) → In j (plan_in m) → Low j

-- a slot that passes the test of the plan holds a job of it
pub slot_in : (d : Scheduler) (i : ℕ) → i < length d.jobs → in_plan d.settings.kind (get_or d.jobs i unused) ≡ true
    → In (get_or d.jobs i unused) (plan_in (view d))
slot_in d i l e =
    subst (In (get_or d.jobs i unused)) (planned_is d) (in_keep (in_plan d.settings.kind) (in_getD d.jobs i unused l) e)

-- one slot more
module _ (d : Scheduler) {held froms untils : List ℕ} {count : ℕ} (i : ℕ)
    (v : PlanColumns d.settings (planned_of d (take i d.jobs)) held froms untils count) (len : length d.jobs ≡ slots) where
  abbrev x : Job
  x = get_or d.jobs i unused

  abbrev js : List Job
  js = planned_of d (take i d.jobs)

  abbrev test : Job → Bool
  test = in_plan d.settings.kind

  module _ (l : i < slots) where
    -- a place is left in the lists
    pub few_so_far : count < slots
    few_so_far = omega (arith, v.count_is, length_keep_le test (take i d.jobs), length-take-le i d.jobs (omega arith))

    -- the plan does not have it
    pub plan_skips : test x ≡ false → PlanColumns d.settings (planned_of d (take (i + 1) d.jobs)) held froms untils count
    plan_skips e =
        subst (λ (ys : List Job). PlanColumns d.settings ys held froms untils count) (sym (keep_take_no unused test d.jobs i (omega arith) e)) v

    -- the plan has it
    pub plan_takes : test x ≡ true → (n f u : ℕ) → n ≡ x.nodes → f ≡ x.start → u ≡ until d.settings x
        → PlanColumns d.settings (planned_of d (take (i + 1) d.jobs)) (set held count n) (set froms count f) (set untils count u) (count + 1)
    plan_takes e n f u a b c =
        subst (λ (ys : List Job). PlanColumns d.settings ys (set held count n) (set froms count f) (set untils count u) (count + 1))
        (sym (keep_take_yes unused test d.jobs i (omega arith) e)) (record {
          held_is = column_push nodes_of js held v.held_is x count n v.count_is few_so_far a;
          froms_are = column_push start_of js froms v.froms_are x count f v.count_is few_so_far b;
          untils_are = column_push (until d.settings) js untils v.untils_are x count u v.count_is few_so_far c;
          count_is = length-append js (x ∷ []) ∙ ap (λ (n : ℕ). n + 1) v.count_is;
        })

  -- all slots
  pub plan_all : slots ≤ i → PlanColumns d.settings (plan_in (view d)) held froms untils count
  plan_all l =
      subst (λ (ys : List Job). PlanColumns d.settings ys held froms untils count)
      (ap (planned_of d) (take_all i d.jobs (omega arith)) ∙ planned_is d) v

-- ## The nodes taken in a minute

module _ {held froms untils : List ℕ} {count : ℕ} (p : Planned held froms untils count) where
  abbrev S : Settings
  S = p.settings

  abbrev ys : List Job
  ys = p.jobs

  -- a loop adds up what each job takes: at first, one step, at the end, and how large the sum gets
  pub used_first : (t : ℕ) → sum (taken S t) (drop 0 ys) ≡ used t (spans S ys)
  used_first t = sym (used_jobs S t ys)

  pub used_step : (t i n : ℕ) → i < count → n ≡ on (leb (get_or froms i 0) t && ltb t (get_or untils i 0)) (get_or held i 0)
      → n + sum (taken S t) (drop (i + 1) ys) ≡ sum (taken S t) (drop i ys)
  unfolding takes
  used_step t i n l e =
      let h : i < length ys = omega (arith, p.columns.count_is) in
      let g : n ≡ taken S t (get_or ys i unused) =
      e
      ∙ rw (
        column_at start_of ys froms p.columns.froms_are unused i h,
        column_at (until S) ys untils p.columns.untils_are unused i h,
        column_at nodes_of ys held p.columns.held_is unused i h,
      ) in
      omega (arith, sum_drop unused (taken S t) ys i h)

  pub used_done : (t i : ℕ) → count ≤ i → sum (taken S t) (drop i ys) ≡ 0
  used_done t i l = sum_done unused (taken S t) ys i (omega (arith, p.columns.count_is))

  pub used_low : (t : ℕ) → used t (spans S ys) ≤ slots * max_nodes
  used_low t =
      omega (
        arith,
        used_jobs S t ys,
        sum_to (taken S t) max_nodes ys (λ j i. omega (arith, takes_le t (span S j), p.low j i)),
        p.columns.count_is,
        p.few,
      )

  -- ## Whether every minute fits

  module _ (N now : ℕ) where
    -- whether the nodes suffice in the minute in which this job begins, or now if that is past
    abbrev pub fits_at : Job → Bool
    fits_at j = leb (used (max now j.start) (spans S ys)) N

    -- a loop tries this of each job: at first, one step, and at the end
    pub fits_first : every fits_at (drop 0 ys) ≡ fits_every N (spans S ys) now
    fits_first = sym (every_map (λ (x : Span). leb (used (max now x.from) (spans S ys)) N) (span S) ys)

    -- t is the minute that is tried, and r the nodes that are taken in it
    module _ (i t r : ℕ) (l : i < count) (a : t ≡ max now (get_or froms i 0)) (b : r ≡ used t (spans S ys)) where
      inside : i < length ys
      inside = omega (arith, p.columns.count_is)

      fits_is : fits_at (get_or ys i unused) ≡ leb r N
      fits_is = rw (b, a, column_at start_of ys froms p.columns.froms_are unused i inside)

      pub fits_more : r ≤ N → every fits_at (drop i ys) ≡ every fits_at (drop (i + 1) ys)
      fits_more h = every_passed unused fits_at ys i inside (fits_is ∙ le-leb r N h)

      pub fits_fails : N < r → every fits_at (drop i ys) ≡ false
      fits_fails h = every_failed unused fits_at ys i inside (fits_is ∙ lt-leb r N h)

    pub fits_done : (i : ℕ) → count ≤ i → every fits_at (drop i ys) ≡ true
    fits_done i l = every_ended unused fits_at ys i (omega (arith, p.columns.count_is))
