-- Corrected orders in place (document 02, No. 13). The job that an order names waits on, with no more nodes and for no longer, and all else is as
-- it was. Also what the tests of an order leave.
-- Assumes nothing.
use Rattle.std.specs.Prelude.{ℕ, ◌≤◌, ◌≡◌, refl, true, false, not, ◌&&◌, List, map, eqb, ltb}
use Rattle.std.proofs.Common.{arith, sym, ap, subst, ◌∙◌, ltb-false}
use Rattle.std.proofs.lemmas.Simd.{map-map}
use Rattle.std.proofs.lemmas.List.{length-map}
use Rattle.lists.specs.Tests.{case, true_false, both, neither, on}
use Rattle.lists.specs.Lists.{In, map_in, map_cong, sum_map, sum_cong, any, any_none}
use Rattle.scheduler.specs.declared.State.{State}
use Rattle.scheduler.specs.declared.State.TheVariants.{Unused, Waiting, Running, Cleanup}
use Rattle.scheduler.specs.declared.Job.{Job}
use Rattle.scheduler.specs.declared.Settings.{Settings}
use Rattle.scheduler.specs.declared.Tenant.{Tenant}
use Rattle.scheduler.specs.declared.Amendment.{Amendment}
use Rattle.scheduler.specs.declared.Refusal.TheVariants as refusal
use Rattle.scheduler.specs.Tenants.{same_tenant}
use Rattle.scheduler.specs.Limits.{outside}
use Rattle.scheduler.specs.States.{waiting?, running?, holding?}
use Rattle.scheduler.specs.Jobs.{is_waiting, is_running, is_cleaning, is_holding, held}
use Rattle.scheduler.specs.Settings.{longest, run_time, hold_time, until, bound_of}
use Rattle.scheduler.specs.Times.{hold_is, until_is}
use Rattle.scheduler.specs.Table.{ticket_of, tickets_of, of_tenant}
use Rattle.scheduler.specs.Model.{Model}
use Rattle.scheduler.specs.Answers.{accepts}
use Rattle.scheduler.specs.Amending.{names, amend_refusal, grows, growing, in_place_refusal, superseded, supersede, in_place_of}
use Rattle.jobs.specs.Order.{asc_same}
use Rattle.jobs.specs.Soundness.{SoundJob, Sound, waiting_clean, passed}

-- a job that waits does not run
pub waits_runs : (s : State) → waiting? s ≡ true → running? s ≡ false
waits_runs Unused w = refl
waits_runs Waiting w = refl
waits_runs Running w = true_false false w refl
waits_runs Cleanup w = refl

waits_holds : (s : State) → waiting? s ≡ true → holding? s ≡ false
waits_holds Unused w = refl
waits_holds Waiting w = refl
waits_holds Running w = true_false false w refl
waits_holds Cleanup w = true_false false w refl

-- what its own tests leave
pub record InRange (S : Settings) (a : Amendment) : Type 0 where
  pub nodes_from : 1 ≤ a.nodes
  pub nodes_to : a.nodes ≤ S.nodes
  pub estimate_from : 1 ≤ a.estimate
  pub estimate_to : a.estimate ≤ longest S
  pub least_to : a.least ≤ a.estimate

pub amend_fit : (m : Model) (a : Amendment) → accepts (amend_refusal m a) ≡ true → (any (names a) m.jobs ≡ true) × InRange m.settings a
unfolding amend_refusal
amend_fit m a h =
    let z = passed (not (any (names a) m.jobs)) refusal.NotWaiting _ refl h in
    let x = passed (outside 1 m.settings.nodes a.nodes) refusal.NodesOutOfRange _ refl z.1 in
    let b = passed (outside 1 (longest m.settings) a.estimate) refusal.MinutesOutOfRange _ refl x.1 in
    let l = passed (ltb a.estimate a.least) refusal.LeastAboveMost _ refl b.1 in
    let x' = neither (ltb a.nodes 1) (ltb m.settings.nodes a.nodes) x.0 in
    let b' = neither (ltb a.estimate 1) (ltb (longest m.settings) a.estimate) b.0 in (
      case (any (names a) m.jobs) (λ e. e) (λ e. true_false true refl (rw e at z.0)),
      record {
        nodes_from = ltb-false a.nodes 1 x'.0;
        nodes_to = ltb-false m.settings.nodes a.nodes x'.1;
        estimate_from = ltb-false a.estimate 1 b'.0;
        estimate_to = ltb-false (longest m.settings) a.estimate b'.1;
        least_to = ltb-false a.estimate a.least l.0;
      },
    )

-- of the job that it names, that it grows in nothing
abbrev pub Shrinks : Model → Amendment → Type 0
Shrinks m a = (j : Job) → In j m.jobs → names a j ≡ true → grows m.settings a j ≡ false

-- ## One job

module _ (a : Amendment) where
  -- who is named waits
  pub named_waits : (j : Job) → names a j ≡ true → is_waiting j ≡ true
  named_waits j e = (both (is_waiting j) (eqb j.ticket a.ticket) e).0

  -- ticket, state, tenant, start, promise, end, and the minute and rank at intake and the forecast are kept
  pub kept_in : {A : Type 0} (f : Job → A) → ((j : Job) → f (superseded a j) ≡ f j) → (j : Job) → f (supersede a j) ≡ f j
  kept_in f g j = case (names a j) (λ e. rw e (g j)) (λ e. rw e)

  pub kept_ticket : (j : Job) → (supersede a j).ticket ≡ j.ticket
  kept_ticket = kept_in (λ (j : Job). j.ticket) (λ j. refl)

  pub kept_state : (j : Job) → (supersede a j).state ≡ j.state
  kept_state = kept_in (λ (j : Job). j.state) (λ j. refl)

  pub kept_start : (j : Job) → (supersede a j).start ≡ j.start
  kept_start = kept_in (λ (j : Job). j.start) (λ j. refl)

  pub kept_promise_lem : (j : Job) → (supersede a j).promise ≡ j.promise
  kept_promise_lem = kept_in (λ (j : Job). j.promise) (λ j. refl)

  pub kept_tenant : (j : Job) → (supersede a j).tenant ≡ j.tenant
  kept_tenant = kept_in (λ (j : Job). j.tenant) (λ j. refl)

  pub kept_submitted : (j : Job) → (supersede a j).submitted ≡ j.submitted
  kept_submitted = kept_in (λ (j : Job). j.submitted) (λ j. refl)

  pub kept_rank : (j : Job) → (supersede a j).rank ≡ j.rank
  kept_rank = kept_in (λ (j : Job). j.rank) (λ j. refl)

  pub kept_forecast : (j : Job) → (supersede a j).forecast ≡ j.forecast
  kept_forecast = kept_in (λ (j : Job). j.forecast) (λ j. refl)

  -- and so its bound
  pub kept_bound : (S : Settings) (j : Job) → bound_of S (supersede a j) ≡ bound_of S j
  kept_bound S = kept_in (bound_of S) (λ j. refl)

  -- nobody who holds nodes is named
  pub holder_same : (j : Job) → is_waiting j ≡ false → supersede a j ≡ j
  holder_same j w = case (names a j) (λ e. true_false (is_waiting j) (named_waits j e) w) (λ e. rw e)

  pub kept_held : (j : Job) → held (supersede a j) ≡ held j
  kept_held j = case (names a j) (λ e. rw (e, waits_holds j.state (named_waits j e))) (λ e. rw e)

  pub kept_tickets : (js : List Job) → tickets_of (map (supersede a) js) ≡ tickets_of js
  kept_tickets js =
      map-map ticket_of (supersede a) js ∙ map_cong (λ (j : Job). ticket_of (supersede a j)) ticket_of js (λ j i. kept_ticket j)

module _ (S : Settings) (a : Amendment) (j : Job) (g : names a j ≡ true → grows S a j ≡ false) where
  shrinks : names a j ≡ true → (a.nodes ≤ j.nodes) × (hold_time S a.estimate ≤ hold_time S j.estimate)
  shrinks e =
      let n = neither (ltb j.nodes a.nodes) (ltb (run_time S j.estimate) (run_time S a.estimate)) (g e) in (
        ltb-false j.nodes a.nodes n.0,
        omega (arith, hold_is S j.estimate, hold_is S a.estimate, ltb-false (run_time S j.estimate) (run_time S a.estimate) n.1),
      )

  pub fewer_nodes : (supersede a j).nodes ≤ j.nodes
  fewer_nodes = case (names a j) (λ e. rw e (shrinks e).0) (λ e. rw e (omega arith))

  pub shorter_hold : hold_time S (supersede a j).estimate ≤ hold_time S j.estimate
  shorter_hold = case (names a j) (λ e. rw e (shrinks e).1) (λ e. rw e (omega arith))

  pub sooner_until : until S (supersede a j) ≤ until S j
  sooner_until =
      case (names a j)
      (λ e. let c = waiting_clean j.state (named_waits a j e) in
      rw e (omega (arith, until_is S j c, until_is S (superseded a j) c, (shrinks e).1)))
      (λ e. rw e (omega arith))

  pub superseded_sound : (now : ℕ) → InRange S a → SoundJob S now j → SoundJob S now (supersede a j)
  superseded_sound now r f = case (names a j) (λ e. rw e (one e)) (λ e. rw e f)
    where
      one : names a j ≡ true → SoundJob S now (superseded a j)
      one e =
          let w = named_waits a j e in
          let u : until S (superseded a j) ≤ until S j = rw e at sooner_until in
          record {
            is_live = f.is_live;
            nodes_from = r.nodes_from;
            nodes_to = r.nodes_to;
            estimate_from = r.estimate_from;
            estimate_to = r.estimate_to;
            least_to = r.least_to;
            ends = omega (arith, u, f.ends);
            holds = λ h. true_false (is_holding j) h (waits_holds j.state w);
            runs = λ h. true_false (is_running j) h (waits_runs j.state w);
            cleaned = λ h. true_false (is_cleaning j) h (waiting_clean j.state w);
            no_end = f.no_end;
            tenant_is = f.tenant_is;
          }

-- ## All of them

module _ (m : Model) (a : Amendment) (r : InRange m.settings a) (g : Shrinks m a) where
  abbrev S : Settings
  S = m.settings

  pub superseded_in : (x : Job) → In x (in_place_of m a).jobs → (j : Job) × In j m.jobs × (x ≡ supersede a j)
  superseded_in x i = map_in (supersede a) m.jobs i

  pub inplace_sound : Sound m → Sound (in_place_of m a)
  inplace_sound s = record {
    nodes_from = s.nodes_from;
    nodes_to = s.nodes_to;
    longest_from = s.longest_from;
    longest_to = s.longest_to;
    cleanup_to = s.cleanup_to;
    quotas = s.quotas;
    one_each = s.one_each;
    clock_to = s.clock_to;
    next_from = s.next_from;
    next_to = s.next_to;
    few = omega (arith, s.few, length-map m.jobs (supersede a));
    asc = asc_same 1 m.jobs (map (supersede a) m.jobs) (sym (kept_tickets a m.jobs)) s.asc;
    below = λ x i.
        let j = superseded_in x i in
        omega (arith, s.below j.0 j.1, ap ticket_of j.2, kept_ticket a j.0);
    each = λ x i.
        let j = superseded_in x i in
        subst (SoundJob S m.clock) (sym j.2) (superseded_sound S a j.0 (g j.0 j.1) m.clock r (s.each j.0 j.1));
    capacity =
        omega (
          arith,
          s.capacity,
          sum_map held (supersede a) m.jobs,
          sum_cong (λ (j : Job). held (supersede a j)) held m.jobs (λ j i. kept_held a j),
        );
    shares = λ t.
        omega (
          arith,
          s.shares t,
          sum_map (mine t) (supersede a) m.jobs,
          sum_cong (λ (j : Job). mine t (supersede a j)) (mine t) m.jobs (λ j i. ap (λ (x : Tenant). on (same_tenant x t) 1) (kept_tenant a j)),
        );
  }
    where
      mine : Tenant → Job → ℕ
      mine t j = on (of_tenant t j) 1

-- ## What is taken in place

pub record InPlace (m : Model) (a : Amendment) : Type 0 where
  pub there : any (names a) m.jobs ≡ true
  pub range : InRange m.settings a
  pub shrinks : Shrinks m a

pub inplace_fit : (m : Model) (a : Amendment) → accepts (in_place_refusal m a) ≡ true → InPlace m a
unfolding in_place_refusal
inplace_fit m a h =
    case (growing m a)
    (λ g. true_false false (rw g at h) refl)
    (λ g. let f = amend_fit m a (rw g at h) in
    record {
      there = f.0;
      range = f.1;
      shrinks = λ j i n. let x = any_none (λ (k : Job). names a k && grows m.settings a k) g i in rw n at x;
    })
