-- What holds of every model that calls hand back, of either kind.
-- Assumes nothing.
use Rattle.std.specs.Prelude.{ℕ, suc, ◌+◌, ◌≤◌, ◌<◌, ◌≡◌, refl, Bool, true, false, not, cond, ◌&&◌, ◌||◌, List, [], ◌∷◌, ◌++◌, map, ◌⊎◌, eqb, leb, ltb, length}
use Rattle.std.proofs.Common.{arith, sym, ap, subst, ◌∙◌, inl, inr, length-append, leb-false, ltb-false, le-ltb, eqb-true}
use Rattle.std.proofs.lemmas.Simd.{map-map}
use Rattle.std.proofs.lemmas.List.{length-map}
use Rattle.std.proofs.lemmas.Bool.{lt-leb, eqb-false, not-true, not-false}
use Rattle.lists.specs.Tests.{case, true_false, both, neither, on}
use Rattle.lists.specs.Lists.{All, In, here, there, all_of, in_append, in_cons, in_nil, keep_in, length_keep_le, sum_append, sum_keep, sum_map, sum_cong}
use Rattle.lists.specs.Lists.{in_map, map_in, in_keep, keep_all, map_same, map_cong}
use Rattle.scheduler.specs.declared.State.{State}
use Rattle.scheduler.specs.declared.State.TheVariants.{Unused, Waiting, Running, Cleanup}
use Rattle.scheduler.specs.declared.Job.{Job}
use Rattle.scheduler.specs.declared.Tenant.{Tenant}
use Rattle.scheduler.specs.declared.Tenant.TheVariants.{Nobody, A, B}
use Rattle.scheduler.specs.declared.Submission.{Submission}
use Rattle.scheduler.specs.declared.Refusal.{Refusal}
use Rattle.scheduler.specs.declared.Refusal.TheVariants as refusal
use Rattle.scheduler.specs.declared.Opening.{Opening}
use Rattle.scheduler.specs.declared.Departure.{Departure}
use Rattle.scheduler.specs.declared.Departure.TheVariants.{Complete, Cancel}
use Rattle.scheduler.specs.declared.Select.{Select}
use Rattle.scheduler.specs.declared.Select.TheVariants as select
use Rattle.scheduler.specs.Limits as limit
use Rattle.scheduler.specs.Limits.{max_nodes, last_ticket, longest_estimate, longest_cleanup, outside, misdivided}
use Rattle.scheduler.specs.States.{waiting?, running?, cleaning?, holding?}
use Rattle.scheduler.specs.Tenants.{known, same_tenant}
use Rattle.scheduler.specs.Jobs.{is_live_of, is_running, is_waiting, is_cleaning, is_holding, held, cleaning}
use Rattle.scheduler.specs.declared.Settings.{Settings}
use Rattle.scheduler.specs.Settings.{refused_settings, horizon, slots, quota, longest, cleanup, unit, end_of, until}
use Rattle.scheduler.specs.Times.{until_is, until_end, until_cleaning, until_cleaned, hold_unit, cleanup_unit}
use Rattle.scheduler.specs.Table.{nodes_held, of_tenant, live_of, ticket_of, tickets_of, ends, withdraws, releases, leaves, staying, ceased, remaining}
use Rattle.scheduler.specs.Model.{Model, ending, Live, empty, joined, without}
use Rattle.scheduler.specs.Answers.{verdict, accepts}
use Rattle.scheduler.specs.Refusals.{submit_tests}
use Rattle.scheduler.specs.Opening.{opening_refusal, opening}
use Rattle.jobs.specs.Order.{Asc, asc_keep, asc_append, asc_same}

pub record SoundJob (S : Settings) (clock : ℕ) (j : Job) : Type 0 where
  pub is_live : is_live_of j ≡ true
  pub nodes_from : 1 ≤ j.nodes
  pub nodes_to : j.nodes ≤ S.nodes
  pub estimate_from : 1 ≤ j.estimate
  pub estimate_to : j.estimate ≤ longest S
  pub least_to : j.least ≤ j.estimate
  -- no hold passes the last minute
  pub ends : until S j ≤ horizon S
  pub holds : is_holding j ≡ true → (j.start ≤ clock) × (clock < until S j)
  -- one that runs has not reached its end
  pub runs : is_running j ≡ true → clock < end_of S j
  -- "its record, and no other, keeps its end"
  pub cleaned : is_cleaning j ≡ true → (j.start ≤ j.end) × (j.end ≤ clock)
  pub no_end : is_cleaning j ≡ false → j.end ≡ 0
  -- "Each record carries its house"
  pub tenant_is : known j.tenant ≡ true

-- a job that holds nodes runs or is in cleanup, and no job does two of these
pub running_holds : (s : State) → running? s ≡ true → holding? s ≡ true
running_holds Unused h = h
running_holds Waiting h = h
running_holds Running h = h
running_holds Cleanup h = refl

pub cleaning_holds : (s : State) → cleaning? s ≡ true → holding? s ≡ true
cleaning_holds Unused h = h
cleaning_holds Waiting h = h
cleaning_holds Running h = refl
cleaning_holds Cleanup h = h

pub holding_runs : (s : State) → holding? s ≡ true → cleaning? s ≡ false → running? s ≡ true
holding_runs Unused h n = h
holding_runs Waiting h n = h
holding_runs Running h n = h
holding_runs Cleanup h n = true_false true refl n

pub running_clean : (s : State) → running? s ≡ true → cleaning? s ≡ false
running_clean Unused h = refl
running_clean Waiting h = refl
running_clean Running h = refl
running_clean Cleanup h = true_false false h refl

pub waiting_clean : (s : State) → waiting? s ≡ true → cleaning? s ≡ false
waiting_clean Unused h = refl
waiting_clean Waiting h = refl
waiting_clean Running h = refl
waiting_clean Cleanup h = true_false false h refl

pub waiting_is : (s : State) → waiting? s ≡ true → s ≡ Waiting
waiting_is Unused h = true_false false h refl
waiting_is Waiting h = refl
waiting_is Running h = true_false false h refl
waiting_is Cleanup h = true_false false h refl

waiting_still : (s : State) → waiting? s ≡ true → running? s ≡ false
waiting_still Unused h = refl
waiting_still Waiting h = refl
waiting_still Running h = true_false false h refl
waiting_still Cleanup h = refl

-- nodes are given back no earlier than the start
pub start_until : (S : Settings) (clock : ℕ) (j : Job) → SoundJob S clock j → j.start ≤ until S j
start_until S clock j f =
    case (is_cleaning j) (λ c. omega (arith, f.cleaned c, until_cleaning S j c)) (λ c. omega (arith, until_is S j c))

-- a job that holds nodes gives them back within a unit
pub holds_short : (S : Settings) (clock : ℕ) (j : Job) → SoundJob S clock j → is_holding j ≡ true → until S j ≤ clock + unit S
holds_short S clock j f r =
    case (is_cleaning j)
    (λ c. omega (arith, f.cleaned c, until_cleaning S j c, cleanup_unit S))
    (λ c. omega (arith, f.holds r, until_is S j c, hold_unit S j.estimate f.estimate_to))

pub record Sound (m : Model) : Type 0 where
  pub nodes_from : 1 ≤ m.settings.nodes
  pub nodes_to : m.settings.nodes ≤ max_nodes
  pub longest_from : 1 ≤ m.settings.longest
  pub longest_to : m.settings.longest ≤ longest_estimate
  pub cleanup_to : m.settings.cleanup ≤ longest_cleanup
  -- "the 64 places are divided between them"
  pub quotas : m.settings.quota_a + m.settings.quota_b ≡ slots m.settings
  -- "at least one each"
  pub one_each : (1 ≤ m.settings.quota_a) × (1 ≤ m.settings.quota_b)
  pub clock_to : m.clock ≤ horizon m.settings
  pub next_from : 1 ≤ m.next
  pub next_to : m.next ≤ suc last_ticket
  pub few : length m.jobs ≤ slots m.settings
  pub asc : Asc 1 m.jobs
  pub below : (j : Job) → In j m.jobs → j.ticket < m.next
  pub each : (j : Job) → In j m.jobs → SoundJob m.settings m.clock j
  pub capacity : nodes_held m.jobs ≤ m.settings.nodes
  -- "No house ever has more live than its places"
  pub shares : (t : Tenant) → live_of t m.jobs ≤ quota m.settings t

pub all_live : (m : Model) → Sound m → All Live m.jobs
all_live m s = all_of Live m.jobs (λ j i. (s.each j i).is_live)

tenant_same : (s t : Tenant) → same_tenant s t ≡ true → s ≡ t
tenant_same Nobody Nobody e = refl
tenant_same Nobody A e = true_false false e refl
tenant_same Nobody B e = true_false false e refl
tenant_same A Nobody e = true_false false e refl
tenant_same A A e = refl
tenant_same A B e = true_false false e refl
tenant_same B Nobody e = true_false false e refl
tenant_same B A e = true_false false e refl
tenant_same B B e = refl

-- every job is one of the two tenants'
pub both_tenants : (js : List Job) → ((j : Job) → In j js → known j.tenant ≡ true) → length js ≡ live_of A js + live_of B js
both_tenants [] f = refl
both_tenants (j ∷ js) f = omega (arith, one j.tenant (f j (here refl)), both_tenants js (λ x i. f x (there i)))
  where
    one : (t : Tenant) → known t ≡ true → 1 ≡ on (same_tenant t A) 1 + on (same_tenant t B) 1
    one Nobody k = true_false false k refl
    one A k = refl
    one B k = refl

-- ## Opening

sound_empty : (S : Settings) (c t : ℕ) → 1 ≤ S.nodes → S.nodes ≤ max_nodes → 1 ≤ S.longest → S.longest ≤ longest_estimate
    → S.cleanup ≤ longest_cleanup → S.quota_a + S.quota_b ≡ limit.slots → (1 ≤ S.quota_a) × (1 ≤ S.quota_b)
    → c ≤ limit.horizon → 1 ≤ t → t ≤ last_ticket → Sound (empty S c t)
sound_empty S c t a b l h k g u d e f = record {
  nodes_from = a;
  nodes_to = b;
  longest_from = l;
  longest_to = h;
  cleanup_to = k;
  quotas = g;
  one_each = u;
  clock_to = d;
  next_from = e;
  next_to = omega arith;
  few = omega arith;
  asc = tt;
  below = λ j i. in_nil i;
  each = λ j i. in_nil i;
  capacity = omega arith;
  shares = λ t. omega arith;
}

pub opening_sound : (o : Opening) → Sound (opening o)
unfolding opening opening_refusal verdict
opening_sound o =
    case (outside 1 longest_estimate o.settings.longest)
    (λ l. rw l refused)
    (λ l. rw l (case (outside 1 max_nodes o.settings.nodes)
    (λ p. rw p refused)
    (λ p. rw p (case (ltb limit.horizon o.minute || outside 1 last_ticket o.ticket)
    (λ q. rw q refused)
    (λ q. rw q (case (ltb longest_cleanup o.settings.cleanup)
    (λ k. rw k refused)
    (λ k. rw k (case (misdivided o.settings.quota_a o.settings.quota_b) (λ g. rw g refused) (λ g. rw g (taken l p q k g))))))))))
  where
    refused : Sound (empty (refused_settings o.settings.kind) 0 1)
    refused =
        sound_empty (refused_settings o.settings.kind) 0 1 (omega arith) (omega arith) (omega arith) (omega arith) (omega arith) refl
        (omega arith, omega arith) (omega arith) (omega arith) (omega arith)

    nonzero : (n : ℕ) → eqb n 0 ≡ false → 1 ≤ n
    nonzero n e = omega (arith, eqb-false n 0 e)

    taken : outside 1 longest_estimate o.settings.longest ≡ false → outside 1 max_nodes o.settings.nodes ≡ false
        → (ltb limit.horizon o.minute || outside 1 last_ticket o.ticket) ≡ false
        → ltb longest_cleanup o.settings.cleanup ≡ false → misdivided o.settings.quota_a o.settings.quota_b ≡ false
        → Sound (empty o.settings o.minute o.ticket)
    taken l p q k g =
        let S = o.settings in
        let z = neither (ltb S.longest 1) (ltb longest_estimate S.longest) l in
        let w = neither (not (eqb (S.quota_a + S.quota_b) limit.slots) || eqb S.quota_a 0) (eqb S.quota_b 0) g in
        let x = neither (not (eqb (S.quota_a + S.quota_b) limit.slots)) (eqb S.quota_a 0) w.0 in
        let y : S.quota_a + S.quota_b ≡ limit.slots = eqb-true (S.quota_a + S.quota_b) limit.slots (not-false _ x.0) in
        let a = neither (ltb S.nodes 1) (ltb max_nodes S.nodes) p in
        let b = neither (ltb limit.horizon o.minute) (outside 1 last_ticket o.ticket) q in
        let c = neither (ltb o.ticket 1) (ltb last_ticket o.ticket) b.1 in
        sound_empty S o.minute o.ticket (ltb-false S.nodes 1 a.0) (ltb-false max_nodes S.nodes a.1) (ltb-false S.longest 1 z.0)
        (ltb-false longest_estimate S.longest z.1) (ltb-false longest_cleanup S.cleanup k) y
        (nonzero S.quota_a x.1, nonzero S.quota_b w.1) (ltb-false limit.horizon o.minute b.0)
        (ltb-false o.ticket 1 c.0) (ltb-false last_ticket o.ticket c.1)

-- ## Submission

-- what its tests leave
pub record Fit (m : Model) (o : Submission) : Type 0 where
  pub nodes_from : 1 ≤ o.nodes
  pub nodes_to : o.nodes ≤ m.settings.nodes
  pub estimate_from : 1 ≤ o.estimate
  pub estimate_to : o.estimate ≤ longest m.settings
  pub least_to : o.least ≤ o.estimate
  pub tenant_is : known o.tenant ≡ true
  pub share : live_of o.tenant m.jobs < quota m.settings o.tenant
  pub ticket_left : m.next ≤ last_ticket

-- so there is a slot: a tenant that has places left, and the other within its own, leave one of the 64
pub fit_room : (m : Model) (o : Submission) → Sound m → Fit m o → length m.jobs < slots m.settings
fit_room m o s f =
    by o.tenant f.tenant_is f.share
  where
    both : length m.jobs ≡ live_of A m.jobs + live_of B m.jobs
    both = both_tenants m.jobs (λ j i. (s.each j i).tenant_is)

    by : (t : Tenant) → known t ≡ true → live_of t m.jobs < quota m.settings t → length m.jobs < slots m.settings
    by Nobody k l = true_false false k refl
    by A k l = omega (arith, both, l, s.shares B, s.quotas)
    by B k l = omega (arith, both, l, s.shares A, s.quotas)

-- a test that is passed leaves the tests after it
pub passed : (b : Bool) (r : Refusal) (ts : List (Bool × Refusal)) → accepts r ≡ false → accepts (verdict ((b, r) ∷ ts)) ≡ true
    → (b ≡ false) × (accepts (verdict ts) ≡ true)
unfolding verdict
passed true r ts n e = true_false (accepts r) e n
passed false r ts n e = (refl, e)

pub submit_fit : (m : Model) (o : Submission) (more : List (Bool × Refusal)) → accepts (verdict (submit_tests m o more)) ≡ true
    → Fit m o × (accepts (verdict more) ≡ true)
submit_fit m o more h =
    let z = passed (not (known o.tenant)) refusal.UnknownTenant _ refl h in
    let a = passed (outside 1 m.settings.nodes o.nodes) refusal.NodesOutOfRange _ refl z.1 in
    let b = passed (outside 1 (longest m.settings) o.estimate) refusal.MinutesOutOfRange _ refl a.1 in
    let l = passed (ltb o.estimate o.least) refusal.LeastAboveMost _ refl b.1 in
    let c = passed (leb (quota m.settings o.tenant) (live_of o.tenant m.jobs)) refusal.QuotaFull _ refl l.1 in
    let d = passed (ltb last_ticket m.next) refusal.NoTicketLeft _ refl c.1 in
    let a' = neither (ltb o.nodes 1) (ltb m.settings.nodes o.nodes) a.0 in
    let b' = neither (ltb o.estimate 1) (ltb (longest m.settings) o.estimate) b.0 in (
      record {
        nodes_from = ltb-false o.nodes 1 a'.0;
        nodes_to = ltb-false m.settings.nodes o.nodes a'.1;
        estimate_from = ltb-false o.estimate 1 b'.0;
        estimate_to = ltb-false (longest m.settings) o.estimate b'.1;
        least_to = ltb-false o.estimate o.least l.0;
        tenant_is = not-false (known o.tenant) z.0;
        share = leb-false (quota m.settings o.tenant) (live_of o.tenant m.jobs) c.0;
        ticket_left = ltb-false last_ticket m.next d.0;
      },
      d.1,
    )

-- and what fits passes them all
pub fit_passes : (m : Model) (o : Submission) (more : List (Bool × Refusal)) → Fit m o → verdict (submit_tests m o more) ≡ verdict more
unfolding verdict
fit_passes m o more f =
    rw (
      f.tenant_is,
      le-ltb o.nodes 1 f.nodes_from,
      le-ltb m.settings.nodes o.nodes f.nodes_to,
      le-ltb o.estimate 1 f.estimate_from,
      le-ltb (longest m.settings) o.estimate f.estimate_to,
      le-ltb o.estimate o.least f.least_to,
      lt-leb (quota m.settings o.tenant) (live_of o.tenant m.jobs) f.share,
      le-ltb last_ticket m.next f.ticket_left,
    )

pub sound_join : (m : Model) (o : Submission) (j : Job) → Sound m → Fit m o → SoundJob m.settings m.clock j → j.ticket ≡ m.next
    → j.tenant ≡ o.tenant → nodes_held m.jobs + held j ≤ m.settings.nodes → Sound (joined m j)
sound_join m o j s f sj t u c = record {
  nodes_from = s.nodes_from;
  nodes_to = s.nodes_to;
  longest_from = s.longest_from;
  longest_to = s.longest_to;
  cleanup_to = s.cleanup_to;
  quotas = s.quotas;
  one_each = s.one_each;
  clock_to = s.clock_to;
  next_from = omega arith;
  next_to = omega (arith, f.ticket_left);
  few = omega (arith, fit_room m o s f, length-append m.jobs (j ∷ []));
  asc = asc_append 1 m.next m.jobs j s.asc s.below s.next_from t;
  below = λ k i. low k (in_append m.jobs i);
  each = λ k i. one k (in_append m.jobs i);
  capacity = omega (arith, c, sum_append held m.jobs (j ∷ []));
  shares = share;
}
  where
    share : (t : Tenant) → live_of t (m.jobs ++ (j ∷ [])) ≤ quota m.settings t
    share t =
        case (of_tenant t j)
        (λ q. let same : o.tenant ≡ t = sym u ∙ tenant_same j.tenant t q in
        omega (
          arith,
          sum_append (λ (x : Job). on (of_tenant t x) 1) m.jobs (j ∷ []),
          ap (λ (b : Bool). on b 1) q,
          subst (λ (t : Tenant). live_of t m.jobs < quota m.settings t) same f.share,
        ))
        (λ q. omega (arith, sum_append (λ (x : Job). on (of_tenant t x) 1) m.jobs (j ∷ []), ap (λ (b : Bool). on b 1) q, s.shares t))

    last : (k : Job) → In k (j ∷ []) → k ≡ j
    last k i = go (in_cons i)
      where
        go : (k ≡ j) ⊎ In k [] → k ≡ j
        go (inl q) = q
        go (inr u) = in_nil u

    low : (k : Job) → In k m.jobs ⊎ In k (j ∷ []) → k.ticket < suc m.next
    low k (inl i) = omega (arith, s.below k i)
    low k (inr i) = omega (arith, ap (λ (x : Job). x.ticket) (last k i))

    one : (k : Job) → In k m.jobs ⊎ In k (j ∷ []) → SoundJob m.settings m.clock k
    one k (inl i) = s.each k i
    one k (inr i) = rw (last k i) sj

-- ## Jobs leave

-- the clock that an early end or a withdrawal leaves, and that of a tick; and which jobs they pick
pub data Leaving (m : Model) : ℕ → Select → Type 0 where
  early : (h : Departure) (t : ℕ) → Leaving m m.clock (select.Departing h t)
  in_time_lem : suc m.clock ≤ horizon m.settings → Leaving m (suc m.clock) (ending m)

-- only jobs that wait are withdrawn, only runs that go on end, and only jobs in cleanup are released
pub withdraws_waits : (s : Select) (j : Job) → withdraws s j ≡ true → is_waiting j ≡ true
withdraws_waits select.Live j e = true_false false e refl
withdraws_waits select.Waiting j e = true_false false e refl
withdraws_waits (select.Departing Complete t) j e = true_false false e refl
withdraws_waits (select.Departing Cancel t) j e = (both (is_waiting j) (eqb j.ticket t) e).0
withdraws_waits (select.EndingAt S t) j e = true_false false e refl

pub ends_runs : (s : Select) (j : Job) → ends s j ≡ true → is_running j ≡ true
ends_runs select.Live j e = true_false false e refl
ends_runs select.Waiting j e = true_false false e refl
ends_runs (select.Departing Complete t) j e = (both (is_running j) (eqb j.ticket t) e).0
ends_runs (select.Departing Cancel t) j e = true_false false e refl
ends_runs (select.EndingAt S t) j e = (both (is_running j) (eqb (end_of S j) t) e).0

pub releases_cleaned : (s : Select) (j : Job) → releases s j ≡ true → is_cleaning j ≡ true
releases_cleaned select.Live j e = true_false false e refl
releases_cleaned select.Waiting j e = true_false false e refl
releases_cleaned (select.Departing h t) j e = true_false false e refl
releases_cleaned (select.EndingAt S t) j e = (both (is_cleaning j) (eqb (until S j) t) e).0

-- who stays: a job that is not withdrawn and not released; and if its run ends, there is a cleanup
pub stays : (S : Settings) (s : Select) (j : Job) → leaves S s j ≡ false
    → (withdraws s j ≡ false) × (releases s j ≡ false) × (ends s j ≡ true → 1 ≤ cleanup S)
stays S s j e =
    let a = neither (withdraws s j || releases s j) (ends s j && eqb (cleanup S) 0) e in
    let b = neither (withdraws s j) (releases s j) a.0 in
    (b.0, b.1, λ r. omega (arith, eqb-false (cleanup S) 0 (rw r at a.1)))

-- the clock is now or a minute later
pub leaving_clock : (m : Model) (c : ℕ) (s : Select) → Leaving m c s → (m.clock ≤ c) × (c ≤ suc m.clock)
leaving_clock m c s (early h t) = omega arith
leaving_clock m c s (in_time_lem h) = omega arith

-- of a job, where the clock is set
module _ (m : Model) (c : ℕ) (s : Select) (l : Leaving m c s) (j : Job) (f : SoundJob m.settings m.clock j) where
  -- a run that ends does so by its time
  pub ends_by : ends s j ≡ true → c ≤ end_of m.settings j
  ends_by e = omega (arith, leaving_clock m c s l, f.runs (ends_runs s j e))

  -- a run that does not end goes on
  pub runs_on : is_running j ≡ true → ends s j ≡ false → c < end_of m.settings j
  runs_on r e = go l e
    where
      go : {c : ℕ} {s : Select} → Leaving m c s → ends s j ≡ false → c < end_of m.settings j
      go (early h t) e = f.runs r
      go (in_time_lem h) e = omega (arith, eqb-false (end_of m.settings j) (suc m.clock) (rw r at e), f.runs r)

  -- nodes that are not released are not free yet
  pub cleans_on : is_cleaning j ≡ true → releases s j ≡ false → c < until m.settings j
  cleans_on r e = go l e
    where
      held_now : m.clock < until m.settings j
      held_now = (f.holds (cleaning_holds j.state r)).1

      go : {c : ℕ} {s : Select} → Leaving m c s → releases s j ≡ false → c < until m.settings j
      go (early h t) e = held_now
      go (in_time_lem h) e = omega (arith, eqb-false (until m.settings j) (suc m.clock) (rw r at e), held_now)

-- a job that stays still has its ticket, and holds the nodes that it held
pub ceased_ticket : (now : ℕ) (s : Select) (j : Job) → (ceased now s j).ticket ≡ j.ticket
ceased_ticket now s j = case (ends s j) (λ e. rw e) (λ e. rw e)

-- one that waits goes on waiting
pub ceased_waits : (now : ℕ) (s : Select) (j : Job) → is_waiting (ceased now s j) ≡ true → ceased now s j ≡ j
ceased_waits now s j w = case (ends s j) (λ e. true_false false (rw e at w) refl) (λ e. rw e)

pub waits_on : (now : ℕ) (s : Select) (j : Job) → is_waiting j ≡ true → ceased now s j ≡ j
waits_on now s j w = case (ends s j) (λ e. true_false (is_running j) (ends_runs s j e) (waiting_still j.state w)) (λ e. rw e)

pub ceased_tenant : (now : ℕ) (s : Select) (j : Job) → (ceased now s j).tenant ≡ j.tenant
ceased_tenant now s j = case (ends s j) (λ e. rw e) (λ e. rw e)

pub ceased_held : (now : ℕ) (s : Select) (j : Job) → held (ceased now s j) ≡ held j
ceased_held now s j =
    case (ends s j) (λ e. rw (e, running_holds j.state (ends_runs s j e))) (λ e. rw e)

module _ (S : Settings) (now : ℕ) (s : Select) (js : List Job) where
  pub remaining_tickets : tickets_of (remaining S now s js) ≡ tickets_of (staying S s js)
  remaining_tickets =
      map-map ticket_of (ceased now s) (staying S s js)
      ∙ map_cong (λ (j : Job). ticket_of (ceased now s j)) ticket_of (staying S s js) (λ j i. ceased_ticket now s j)

  -- who remains was there, and did not leave
  pub remaining_in : {j : Job} → In j (remaining S now s js) → (k : Job) × In k js × (leaves S s k ≡ false) × (j ≡ ceased now s k)
  remaining_in i =
      let k = map_in (ceased now s) (staying S s js) i in
      let q = keep_in (λ (j : Job). not (leaves S s j)) js k.1 in
      (k.0, q.0, not-true (leaves S s k.0) q.1, k.2)

  -- where no run ends and nobody leaves, all remain as they are
  pub all_remain : ((j : Job) → In j js → ends s j ≡ false) → ((j : Job) → In j js → leaves S s j ≡ false) → remaining S now s js ≡ js
  all_remain e l =
      ap (map (ceased now s)) (keep_all (λ (j : Job). not (leaves S s j)) js (λ j i. ap not (l j i)))
      ∙ map_same (ceased now s) js (λ j i. ap (λ (b : Bool). cond b (cleaning now j) j) (e j i))

  -- one that waits and remains was there as it is
  pub remained_waits : {j : Job} → In j (remaining S now s js) → is_waiting j ≡ true → In j js × (leaves S s j ≡ false)
  remained_waits {j} i w = go (remaining_in i)
    where
      go : (k : Job) × In k js × (leaves S s k ≡ false) × (j ≡ ceased now s k) → In j js × (leaves S s j ≡ false)
      go (k, a, n, e) =
          let same : j ≡ k = e ∙ ceased_waits now s k (subst (λ (x : Job). is_waiting x ≡ true) e w) in
          subst (λ (x : Job). In x js × (leaves S s x ≡ false)) (sym same) (a, n)

  -- and one that waits and does not leave remains
  pub waits_remains : {j : Job} → In j js → is_waiting j ≡ true → leaves S s j ≡ false → In j (remaining S now s js)
  waits_remains {j} i w n =
      subst (λ (x : Job). In x (remaining S now s js)) (waits_on now s j w)
      (in_map (ceased now s) (in_keep (λ (j : Job). not (leaves S s j)) i (ap not n)))

pub sound_leave : (m : Model) (c : ℕ) (s : Select) → Sound m → Leaving m c s → Sound (without m c s)
sound_leave m c s v l = record {
  nodes_from = v.nodes_from;
  nodes_to = v.nodes_to;
  longest_from = v.longest_from;
  longest_to = v.longest_to;
  cleanup_to = v.cleanup_to;
  quotas = v.quotas;
  one_each = v.one_each;
  clock_to = clock_low l;
  next_from = v.next_from;
  next_to = v.next_to;
  few =
      omega (
        arith,
        v.few,
        length-map (staying S s m.jobs) (ceased c s),
        length_keep_le (λ (j : Job). not (leaves S s j)) m.jobs,
      );
  asc =
      asc_same 1 (staying S s m.jobs) (remaining S c s m.jobs) (sym (remaining_tickets S c s m.jobs))
      (asc_keep (λ (j : Job). not (leaves S s j)) 1 m.jobs v.asc);
  below = λ j i. low j (remaining_in S c s m.jobs i);
  each = λ j i. one j (remaining_in S c s m.jobs i);
  capacity =
      omega (
        arith,
        v.capacity,
        sum_map held (ceased c s) (staying S s m.jobs),
        sum_cong (λ (j : Job). held (ceased c s j)) held (staying S s m.jobs) (λ j i. ceased_held c s j),
        sum_keep held (leaves S s) m.jobs,
      );
  shares = λ t.
      omega (
        arith,
        v.shares t,
        sum_map (mine t) (ceased c s) (staying S s m.jobs),
        sum_cong (λ (j : Job). mine t (ceased c s j)) (mine t) (staying S s m.jobs) (λ j i.
            ap (λ (x : Tenant). on (same_tenant x t) 1) (ceased_tenant c s j)),
        sum_keep (mine t) (leaves S s) m.jobs,
      );
}
  where
    S : Settings
    S = m.settings

    mine : Tenant → Job → ℕ
    mine t j = on (of_tenant t j) 1

    clock_low : {c : ℕ} {s : Select} → Leaving m c s → c ≤ horizon m.settings
    clock_low (early h t) = v.clock_to
    clock_low (in_time_lem h) = h

    low : (j : Job) → (k : Job) × In k m.jobs × (leaves S s k ≡ false) × (j ≡ ceased c s k) → j.ticket < m.next
    low j (k, i, q, e) = omega (arith, v.below k i, ap (λ (x : Job). x.ticket) e, ceased_ticket c s k)

    -- its run ends
    cleaned : (k : Job) → SoundJob S m.clock k → ends s k ≡ true → 1 ≤ cleanup S → SoundJob S c (cleaning c k)
    cleaned k w e p =
        let r : is_running k ≡ true = ends_runs s k e in
        record {
          is_live = refl;
          nodes_from = w.nodes_from;
          nodes_to = w.nodes_to;
          estimate_from = w.estimate_from;
          estimate_to = w.estimate_to;
          least_to = w.least_to;
          ends = omega (arith, until_cleaned S c k, ends_by m c s l k w e, w.ends, until_end S k (running_clean k.state r));
          holds = λ h. (omega (arith, w.holds (running_holds k.state r), leaving_clock m c s l), omega (arith, until_cleaned S c k));
          runs = λ h. true_false false h refl;
          cleaned = λ h. (omega (arith, w.holds (running_holds k.state r), leaving_clock m c s l), omega arith);
          no_end = λ h. true_false true refl h;
          tenant_is = w.tenant_is;
        }

    -- it does not
    goes_on : (k : Job) → SoundJob S m.clock k → ends s k ≡ false → releases s k ≡ false → SoundJob S c k
    goes_on k w e p = record {
      is_live = w.is_live;
      nodes_from = w.nodes_from;
      nodes_to = w.nodes_to;
      estimate_from = w.estimate_from;
      estimate_to = w.estimate_to;
      least_to = w.least_to;
      ends = w.ends;
      holds = λ h. (omega (arith, w.holds h, leaving_clock m c s l), later h);
      runs = λ h. runs_on m c s l k w h e;
      cleaned = λ h. ((w.cleaned h).0, omega (arith, (w.cleaned h).1, leaving_clock m c s l));
      no_end = w.no_end;
      tenant_is = w.tenant_is;
    }
      where
        later : is_holding k ≡ true → c < until S k
        later h =
            case (is_cleaning k) (λ q. cleans_on m c s l k w q p)
            (λ q. omega (arith, runs_on m c s l k w (holding_runs k.state h q) e, until_end S k q))

    one : (j : Job) → (k : Job) × In k m.jobs × (leaves S s k ≡ false) × (j ≡ ceased c s k) → SoundJob S c j
    one j (k, i, q, e) =
        let w = v.each k i in
        let p = stays S s k q in
        subst (SoundJob S c) (sym e) (case (ends s k) (λ y. rw y (cleaned k w y (p.2 y))) (λ y. rw y (goes_on k w y p.1)))
