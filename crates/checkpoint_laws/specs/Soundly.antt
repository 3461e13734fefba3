-- What is accepted is sound, and what is sound passes the tests that both kinds share.
-- Assumes nothing.
use Rattle.std.specs.Prelude.{ℕ, suc, ◌+◌, ◌≤◌, ◌<◌, max, ◌≡◌, refl, Bool, true, false, not, ◌&&◌, ◌||◌, List, [], ◌∷◌, leb, ltb, eqb, length}
use Rattle.std.proofs.Common.{arith, sym, ap, subst, ◌∙◌, leb-true, le-leb, ltb-true, lt-ltb, eqb-true, eq-eqb, ne_eqb}
use Rattle.std.proofs.lemmas.Bool.{eqb-false, not-true, not-false}
use Rattle.lists.specs.Tests.{case, true_false, both, neither, on}
use Rattle.lists.specs.Lists.{keep, sum, All, In, here, there, all_in, keep_in, in_keep, sum_zero, sum_kept, sum_le}
use Rattle.lists.specs.Every.{every, when, and_both, when_then, then_when, every_in, every_of}
use Rattle.spans.specs.Spans.{takes, used}
use Rattle.spans.specs.EveryMinute.{fits_every}
use Rattle.spans.proofs.EveryMinute.{every_minute, minutes_fit_lem}
use Rattle.scheduler.specs.declared.Kind.{Kind}
use Rattle.scheduler.specs.declared.Kind.TheVariants.{Conservative, Easy}
use Rattle.scheduler.specs.declared.State.{State}
use Rattle.scheduler.specs.declared.State.TheVariants.{Unused, Waiting, Running, Cleanup}
use Rattle.scheduler.specs.declared.Job.{Job}
use Rattle.scheduler.specs.declared.Settings.{Settings}
use Rattle.scheduler.specs.declared.Tenant.{Tenant}
use Rattle.scheduler.specs.declared.Tenant.TheVariants.{Nobody, A, B}
use Rattle.scheduler.specs.Limits as limit
use Rattle.scheduler.specs.Limits.{max_nodes, longest_cleanup, longest_estimate, last_ticket, misdivided}
use Rattle.scheduler.specs.Tenants.{known, same_tenant}
use Rattle.scheduler.specs.States.{live?, waiting?, running?, cleaning?, holding?}
use Rattle.scheduler.specs.Jobs.{is_live_of, is_waiting, is_running, is_cleaning, is_holding, held}
use Rattle.scheduler.specs.Settings.{horizon, slots, quota, longest, cleanup, hold_time, unit, end_of, until, bound_of}
use Rattle.scheduler.specs.Times.{longest_is, hold_le, end_is, until_is, until_end, until_cleaning}
use Rattle.scheduler.specs.Table.{nodes_held, of_tenant, live_of}
use Rattle.scheduler.specs.Model.{Model, Live}
use Rattle.jobs.specs.Order.{Asc}
use Rattle.jobs.specs.Slots.{sound_low}
use Rattle.jobs.specs.Soundness.{Sound, SoundJob, both_tenants, running_clean, waiting_clean, running_holds, cleaning_holds}
use Rattle.checkpoint_rules.specs.Acceptance.{in_range, ascending, tickets_hold, desk_in_range, job_in_range, shares_hold, least_holds, lacking, lacks_zero}
use Rattle.checkpoint_rules.specs.Acceptance.{runs_now, cleans_now, record_holds}

-- what a reader of lines makes: live records, and the longest estimate that there is (document 02, No. 6: "elsewhere 10,080")
pub record Lined (m : Model) : Type 0 where
  pub live : All Live m.jobs
  pub longest : m.settings.longest ≡ longest_estimate

pub in_range_lem : (low high x : ℕ) → in_range low high x ≡ true → (low ≤ x) × (x ≤ high)
in_range_lem low high x e = let b = both (leb low x) (leb x high) e in (leb-true low x b.0, leb-true x high b.1)

pub range_in : (low high x : ℕ) → low ≤ x → x ≤ high → in_range low high x ≡ true
range_in low high x a b = and_both (le-leb low x a) (le-leb x high b)

-- ## Tickets

pub ascending_asc : (low : ℕ) (js : List Job) → ascending low js ≡ true → Asc low js
ascending_asc low [] e = tt
ascending_asc low (j ∷ js) e =
    let b = both (leb low j.ticket) (ascending (suc j.ticket) js) e in
    (leb-true low j.ticket b.0, ascending_asc (suc j.ticket) js b.1)

pub asc_ascending : (low : ℕ) (js : List Job) → Asc low js → ascending low js ≡ true
asc_ascending low [] a = refl
asc_ascending low (j ∷ js) a = and_both (le-leb low j.ticket a.0) (asc_ascending (suc j.ticket) js a.1)

-- ## The `desk` line

pub record DeskRange (m : Model) : Type 0 where
  pub nodes_from : 1 ≤ m.settings.nodes
  pub nodes_to : m.settings.nodes ≤ max_nodes
  pub clock_to : m.clock ≤ horizon m.settings
  pub next_from : 1 ≤ m.next
  pub next_to : m.next ≤ suc last_ticket
  pub cleanup_to : m.settings.cleanup ≤ longest_cleanup
  pub quotas : m.settings.quota_a + m.settings.quota_b ≡ slots m.settings
  pub one_each : (1 ≤ m.settings.quota_a) × (1 ≤ m.settings.quota_b)

pub desk_range : (m : Model) → desk_in_range m.settings m.clock m.next ≡ true → DeskRange m
unfolding desk_in_range
desk_range m e =
    let S = m.settings in
    let n = in_range 1 max_nodes S.nodes in
    let c = leb m.clock (horizon S) in
    let x = in_range 1 (suc last_ticket) m.next in
    let k = leb S.cleanup longest_cleanup in
    let a = S.quota_a in
    let b = S.quota_b in
    let e5 = both (n && c && x && k) (not (misdivided a b)) e in
    let e4 = both (n && c && x) k e5.0 in
    let e3 = both (n && c) x e4.0 in
    let e2 = both n c e3.0 in
    let r1 = in_range_lem 1 max_nodes S.nodes e2.0 in
    let r3 = in_range_lem 1 (suc last_ticket) m.next e3.1 in
    let w = neither (not (eqb (a + b) limit.slots) || eqb a 0) (eqb b 0) (not-true (misdivided a b) e5.1) in
    let y = neither (not (eqb (a + b) limit.slots)) (eqb a 0) w.0 in
    record {
      nodes_from = r1.0;
      nodes_to = r1.1;
      clock_to = leb-true m.clock (horizon S) e2.1;
      next_from = r3.0;
      next_to = r3.1;
      cleanup_to = leb-true S.cleanup longest_cleanup e4.1;
      quotas = eqb-true (a + b) limit.slots (not-false _ y.0);
      one_each = (omega (arith, eqb-false a 0 y.1), omega (arith, eqb-false b 0 w.1));
    }

pub range_desk : (m : Model) → DeskRange m → desk_in_range m.settings m.clock m.next ≡ true
unfolding desk_in_range
range_desk m r =
    let S = m.settings in
    let a = S.quota_a in
    let b = S.quota_b in
    and_both (and_both (and_both (and_both (range_in 1 max_nodes S.nodes r.nodes_from r.nodes_to) (le-leb m.clock (horizon S) r.clock_to))
    (range_in 1 (suc last_ticket) m.next r.next_from r.next_to)) (le-leb S.cleanup longest_cleanup r.cleanup_to))
    (rw (eq-eqb (a + b) limit.slots r.quotas, ne_eqb a 0 (λ z. omega (arith, r.one_each)), ne_eqb b 0 (λ z. omega (arith, r.one_each))))

-- ## A record

pub record JobRange (S : Settings) (j : Job) : Type 0 where
  pub nodes_from : 1 ≤ j.nodes
  pub nodes_to : j.nodes ≤ S.nodes
  pub estimate_from : 1 ≤ j.estimate
  pub estimate_to : j.estimate ≤ longest S
  pub start_to : j.start ≤ horizon S
  pub promise_to : j.promise ≤ horizon S
  pub end_to : j.end ≤ horizon S
  pub tenant_is : known j.tenant ≡ true
  pub submitted_to : j.submitted ≤ horizon S
  pub forecast_to : j.forecast ≤ horizon S

pub job_range : (S : Settings) (j : Job) → job_in_range S j ≡ true → JobRange S j
unfolding job_in_range
job_range S j e =
    let H = horizon S in
    let a = in_range 1 S.nodes j.nodes in
    let b = in_range 1 (longest S) j.estimate in
    let c = leb j.start H in
    let d = leb j.promise H in
    let f = leb j.end H in
    let g = known j.tenant in
    let h = leb j.submitted H in
    let e8 = both (a && b && c && d && f && g && h) (leb j.forecast H) e in
    let e7 = both (a && b && c && d && f && g) h e8.0 in
    let e6 = both (a && b && c && d && f) g e7.0 in
    let e5 = both (a && b && c && d) f e6.0 in
    let e4 = both (a && b && c) d e5.0 in
    let e3 = both (a && b) c e4.0 in
    let e2 = both a b e3.0 in
    let r1 = in_range_lem 1 S.nodes j.nodes e2.0 in
    let r2 = in_range_lem 1 (longest S) j.estimate e2.1 in
    record {
      nodes_from = r1.0;
      nodes_to = r1.1;
      estimate_from = r2.0;
      estimate_to = r2.1;
      start_to = leb-true j.start H e3.1;
      promise_to = leb-true j.promise H e4.1;
      end_to = leb-true j.end H e5.1;
      tenant_is = e6.1;
      submitted_to = leb-true j.submitted H e7.1;
      forecast_to = leb-true j.forecast H e8.1;
    }

pub range_job : (S : Settings) (j : Job) → JobRange S j → job_in_range S j ≡ true
unfolding job_in_range
range_job S j r =
    let H = horizon S in
    and_both (and_both (and_both (and_both (and_both (and_both (and_both (range_in 1 S.nodes j.nodes r.nodes_from r.nodes_to)
    (range_in 1 (longest S) j.estimate r.estimate_from r.estimate_to)) (le-leb j.start H r.start_to)) (le-leb j.promise H r.promise_to))
    (le-leb j.end H r.end_to)) r.tenant_is) (le-leb j.submitted H r.submitted_to)) (le-leb j.forecast H r.forecast_to)

-- what every record passes
pub record RecordFacts (m : Model) (j : Job) : Type 0 where
  pub range : JobRange m.settings j
  pub least_to : j.least ≤ j.estimate
  pub no_end : is_cleaning j ≡ false → j.end ≡ 0
  pub lacks : lacking m.settings.kind j ≡ true
  pub runs : is_running j ≡ true → (j.start ≤ m.clock) × (m.clock < end_of m.settings j)
  pub cleans : is_cleaning j ≡ true → (j.start ≤ j.end) × (j.end ≤ m.clock) × (m.clock < until m.settings j)

pub record_facts : (m : Model) (j : Job) → record_holds m.settings m.clock j ≡ true → RecordFacts m j
unfolding record_holds lacks_zero
record_facts m j e =
    let S = m.settings in
    let now = m.clock in
    let a = job_in_range S j in
    let b = least_holds j in
    let c = lacks_zero S.kind j in
    let d = runs_now S now j in
    let e5 = both (a && b && c && d) (cleans_now S now j) e in
    let e4 = both (a && b && c) d e5.0 in
    let e3 = both (a && b) c e4.0 in
    let e2 = both a b e3.0 in
    let z = both (when (not (is_cleaning j)) (eqb j.end 0)) (lacking S.kind j) e3.1 in
    record {
      range = job_range S j e2.0;
      least_to = leb-true j.least j.estimate e2.1;
      no_end = λ n. eqb-true j.end 0 (when_then (not (is_cleaning j)) z.0 (rw n));
      lacks = z.1;
      runs = λ r. let p = both (leb j.start now) (ltb now (end_of S j)) (when_then (is_running j) e4.1 r) in
          (leb-true j.start now p.0, ltb-true now (end_of S j) p.1);
      cleans = λ r. let p = both (leb j.start j.end && leb j.end now) (ltb now (until S j)) (when_then (is_cleaning j) e5.1 r) in
          let q = both (leb j.start j.end) (leb j.end now) p.0 in
          (leb-true j.start j.end q.0, leb-true j.end now q.1, ltb-true now (until S j) p.1);
    }

pub facts_record : (m : Model) (j : Job) → RecordFacts m j → record_holds m.settings m.clock j ≡ true
unfolding record_holds lacks_zero
facts_record m j f =
    let S = m.settings in
    let now = m.clock in
    and_both (and_both (and_both (and_both (range_job S j f.range) (le-leb j.least j.estimate f.least_to))
    (and_both (then_when (not (is_cleaning j)) (λ n. eq-eqb j.end 0 (f.no_end (not-true (is_cleaning j) n)))) f.lacks))
    (then_when (is_running j) (λ r. and_both (le-leb j.start now (f.runs r).0) (lt-ltb now (end_of S j) (f.runs r).1))))
    (then_when (is_cleaning j) (λ r. and_both (and_both (le-leb j.start j.end (f.cleans r).0) (le-leb j.end now (f.cleans r).1))
    (lt-ltb now (until S j) (f.cleans r).2)))

-- ## Sound

-- who holds nodes runs or is in cleanup
holding_is : (s : State) → holding? s ≡ true → cleaning? s ≡ false → running? s ≡ true
holding_is Unused h n = h
holding_is Waiting h n = h
holding_is Running h n = refl
holding_is Cleanup h n = true_false true refl n

pub sound_job : (m : Model) (j : Job) → RecordFacts m j → is_live_of j ≡ true → until m.settings j ≤ horizon m.settings
    → SoundJob m.settings m.clock j
sound_job m j f l u = record {
  is_live = l;
  nodes_from = f.range.nodes_from;
  nodes_to = f.range.nodes_to;
  estimate_from = f.range.estimate_from;
  estimate_to = f.range.estimate_to;
  least_to = f.least_to;
  ends = u;
  holds = λ h.
      case (is_cleaning j)
      (λ c. let q = f.cleans c in (omega (arith, q), q.2))
      (λ c. let r = f.runs (holding_is j.state h c) in (r.0, omega (arith, r.1, until_end m.settings j c)));
  runs = λ r. (f.runs r).1;
  cleaned = λ c. let q = f.cleans c in (q.0, q.1);
  no_end = f.no_end;
  tenant_is = f.range.tenant_is;
}

-- nobody's are none
pub none_nobody : (js : List Job) → ((j : Job) → In j js → known j.tenant ≡ true) → live_of Nobody js ≡ 0
none_nobody js f = sum_zero (λ (j : Job). on (of_tenant Nobody j) 1) js (λ j i. one j.tenant (f j i))
  where
    one : (t : Tenant) → known t ≡ true → on (same_tenant t Nobody) 1 ≡ 0
    one Nobody k = true_false false k refl
    one A k = refl
    one B k = refl

-- what the shared tests give where every hold ends by the last minute and no more nodes are held now than there are
pub sound_of : (m : Model) → Lined m → tickets_hold m ≡ true → DeskRange m → shares_hold m ≡ true → ((j : Job) → In j m.jobs → RecordFacts m j)
    → ((j : Job) → In j m.jobs → until m.settings j ≤ horizon m.settings) → nodes_held m.jobs ≤ m.settings.nodes → Sound m
sound_of m l t r s f u c =
    let js = m.jobs in
    let S = m.settings in
    let tk = both (ascending 1 js) (every (λ (j : Job). ltb j.ticket m.next) js) t in
    let sh = both (leb (live_of A js) (quota S A)) (leb (live_of B js) (quota S B)) s in
    let a : live_of A js ≤ quota S A = leb-true (live_of A js) (quota S A) sh.0 in
    let b : live_of B js ≤ quota S B = leb-true (live_of B js) (quota S B) sh.1 in
    record {
      nodes_from = r.nodes_from;
      nodes_to = r.nodes_to;
      longest_from = omega (arith, l.longest);
      longest_to = omega (arith, l.longest);
      cleanup_to = r.cleanup_to;
      quotas = r.quotas;
      one_each = r.one_each;
      clock_to = r.clock_to;
      next_from = r.next_from;
      next_to = r.next_to;
      few = omega (arith, both_tenants js (λ j i. (f j i).range.tenant_is), a, b, r.quotas);
      asc = ascending_asc 1 js tk.0;
      below = λ j i. ltb-true j.ticket m.next (every_in (λ (j : Job). ltb j.ticket m.next) tk.1 i);
      each = λ j i. sound_job m j (f j i) (all_in Live l.live i) (u j i);
      capacity = c;
      shares = by a b;
    }
  where
    by : live_of A m.jobs ≤ quota m.settings A → live_of B m.jobs ≤ quota m.settings B → (t : Tenant) → live_of t m.jobs ≤ quota m.settings t
    by a b Nobody = omega (arith, none_nobody m.jobs (λ j i. (f j i).range.tenant_is))
    by a b A = a
    by a b B = b

-- and back
pub sound_tickets : (m : Model) → Sound m → tickets_hold m ≡ true
sound_tickets m s =
    and_both (asc_ascending 1 m.jobs s.asc)
    (every_of (λ (j : Job). ltb j.ticket m.next) m.jobs (λ j i. lt-ltb j.ticket m.next (s.below j i)))

pub sound_desk : (m : Model) → Sound m → desk_in_range m.settings m.clock m.next ≡ true
sound_desk m s =
    range_desk m (record {
      nodes_from = s.nodes_from;
      nodes_to = s.nodes_to;
      clock_to = s.clock_to;
      next_from = s.next_from;
      next_to = s.next_to;
      cleanup_to = s.cleanup_to;
      quotas = s.quotas;
      one_each = s.one_each;
    })

pub sound_shares : (m : Model) → Sound m → shares_hold m ≡ true
sound_shares m s =
    and_both (le-leb (live_of A m.jobs) (quota m.settings A) (s.shares A)) (le-leb (live_of B m.jobs) (quota m.settings B) (s.shares B))

pub sound_record : (m : Model) (j : Job) → Sound m → In j m.jobs → lacking m.settings.kind j ≡ true → j.promise ≤ horizon m.settings
    → j.submitted ≤ horizon m.settings → j.forecast ≤ horizon m.settings → record_holds m.settings m.clock j ≡ true
sound_record m j s i l p b f =
    let g = s.each j i in
    let w = sound_low m s j i in
    facts_record m j (record {
      range = record {
        nodes_from = g.nodes_from;
        nodes_to = g.nodes_to;
        estimate_from = g.estimate_from;
        estimate_to = g.estimate_to;
        start_to = w.0;
        promise_to = p;
        end_to = w.1;
        tenant_is = g.tenant_is;
        submitted_to = b;
        forecast_to = f;
      };
      least_to = g.least_to;
      no_end = g.no_end;
      lacks = l;
      runs = λ r. ((g.holds (running_holds j.state r)).0, g.runs r);
      cleans = λ c. ((g.cleaned c).0, (g.cleaned c).1, (g.holds (cleaning_holds j.state c)).1);
    })
