-- Who is named as a holder: exactly the jobs that hold nodes in that minute, by running, cleanup or plan, in ticket order, and never the job
-- itself. If no gap is left, their nodes and its own are more than there are.
-- Assumes nothing.
use Rattle.std.specs.Prelude.{ℕ, suc, ◌+◌, ◌≤◌, ◌<◌, ◌≡◌, true, false, ◌&&◌, List, [], map, leb, ltb, eqb}
use Rattle.std.proofs.Common.{arith, ap, ◌∙◌, leb-true, ltb-true, le-leb, lt-ltb}
use Rattle.std.proofs.Math.Path.{sym, subst}
use Rattle.std.proofs.lemmas.Simd.{map-map}
use Rattle.std.proofs.lemmas.Bool.{lt-leb}
use Rattle.lists.specs.Tests.{both, true_false}
use Rattle.lists.specs.Lists.{keep, sum, In, in_map, map_in, keep_in, in_keep, sum_map, sum_keep, sum_picked}
use Rattle.spans.specs.Spans.{takes, used}
use Rattle.scheduler.specs.declared.Job.{Job}
use Rattle.scheduler.specs.declared.Settings.{Settings}
use Rattle.scheduler.specs.Jobs.{is_live_of, is_waiting, is_running, is_cleaning, is_holding}
use Rattle.scheduler.specs.Settings.{cleanup, hold_time, until}
use Rattle.scheduler.specs.Times.{until_is, until_cleaning}
use Rattle.scheduler.specs.Model.{Model}
use Rattle.jobs.specs.Order.{asc_keep, asc_one}
use Rattle.jobs.specs.Soundness.{running_holds, cleaning_holds, running_clean, waiting_clean}
use Rattle.conservative_rules.specs.Conservative.{spans}
use Rattle.conservative_laws.specs.Validity.{Valid, taken, used_jobs}
use Rattle.conservative_laws.specs.Tightness.{Tight, others, short_before}
use Rattle.conservative_laws.specs.Sentences.{Rising, tickets_rise}
use Rattle.why_rules.specs.Why.{Holder, Finding, minute_before, holds_in, holder, finding_of, findings}

-- the nodes of a job are taken in a minute: from its start on until they are free again
abbrev pub Taken : Settings → ℕ → Job → Type 0
Taken S t j = (j.start ≤ t) × (t < until S j)

holds_taken : (S : Settings) (t : ℕ) (j : Job) → holds_in S t j ≡ true → Taken S t j
holds_taken S t j e =
    let b = both (leb j.start t) (ltb t (until S j)) e in
    (leb-true j.start t b.0, ltb-true t (until S j) b.1)

taken_holds : (S : Settings) (t : ℕ) (j : Job) → Taken S t j → holds_in S t j ≡ true
taken_holds S t j h = rw (le-leb j.start t h.0, lt-ltb t (until S j) h.1)

-- ## By running, cleanup or plan: of a valid model, in a minute that is now or later

module _ (m : Model) (v : Valid m) (t : ℕ) (l : m.clock ≤ t) (j : Job) (i : In j m.jobs) where
  begun : is_holding j ≡ true → j.start ≤ t
  begun h = omega (arith, (v.sound.each j i).holds h)

  -- a job that runs, until its run and the cleanup after it are over
  pub held_by_running : is_running j ≡ true → holds_in m.settings t j ≡ ltb t (j.start + hold_time m.settings j.estimate)
  held_by_running r = rw (le-leb j.start t (begun (running_holds j.state r)), until_is m.settings j (running_clean j.state r))

  -- a job in cleanup, until that is over
  pub held_by_clearing : is_cleaning j ≡ true → holds_in m.settings t j ≡ ltb t (j.end + cleanup m.settings)
  held_by_clearing c = rw (le-leb j.start t (begun (cleaning_holds j.state c)), until_cleaning m.settings j c)

  -- a job that waits, from its planned start on
  pub held_by_plan : is_waiting j ≡ true → holds_in m.settings t j ≡ (leb j.start t && ltb t (j.start + hold_time m.settings j.estimate))
  held_by_plan w = rw (until_is m.settings j (waiting_clean j.state w))

-- ## The holders that a sentence names

abbrev pub holder_ticket : Holder → ℕ
holder_ticket h = h.ticket

abbrev pub holder_nodes : Holder → ℕ
holder_nodes h = h.nodes

abbrev pub finding_ticket : Finding → ℕ
finding_ticket f = f.ticket

module _ (m : Model) (v : Valid m) where
  -- "in ticket order"
  pub findings_rise : Rising 1 (map finding_ticket (findings m))
  unfolding finding_of
  findings_rise =
      subst (Rising 1) (sym (map-map finding_ticket (finding_of m) (keep is_waiting m.jobs)))
      (tickets_rise 1 (keep is_waiting m.jobs) (asc_keep is_waiting 1 m.jobs v.sound.asc))

module _ (m : Model) (v : Valid m) (j : Job) (i : In j m.jobs) (w : is_waiting j ≡ true) where
  abbrev S : Settings
  S = m.settings

  abbrev before : ℕ
  before = minute_before j

  -- "the minute just before its start": it is now or later
  pub minute_before_lem : (m.clock ≤ before) × (suc before ≡ j.start)
  minute_before_lem = let a = v.ahead j i w in (omega arith, omega arith)

  abbrev holding : List Job
  holding = keep (holds_in S before) m.jobs

  -- a job is named, with its nodes, exactly if they are taken in that minute
  pub named_exactly : (k : Job) → In k m.jobs
      → (In (holder k) (finding_of m j).holders → Taken S before k) × (Taken S before k → In (holder k) (finding_of m j).holders)
  unfolding finding_of
  named_exactly k n = (λ h. go (map_in holder holding h), λ h. in_map holder (in_keep (holds_in S before) n (taken_holds S before k h)))
    where
      go : (x : Job) × In x holding × (holder k ≡ holder x) → Taken S before k
      go (x, u, e) =
          let p = keep_in (holds_in S before) m.jobs u in
          subst (Taken S before) (asc_one 1 m.jobs x k v.sound.asc p.0 n (sym (ap holder_ticket e))) (holds_taken S before x p.1)

  -- and nobody is named who is no live job
  pub named_live : (h : Holder) → In h (finding_of m j).holders → (k : Job) × In k m.jobs × (is_live_of k ≡ true) × (h ≡ holder k)
  unfolding finding_of
  named_live h n =
      let x = map_in holder holding n in
      let k = (keep_in (holds_in S before) m.jobs x.1).0 in
      (x.0, k, (v.sound.each x.0 k).is_live, x.2)

  -- before its start the job itself holds nothing
  pub own_not : holds_in S before j ≡ false
  own_not = rw (lt-leb j.start before (omega (arith, v.ahead j i w)))

  -- "The stack itself is no holder": none has its ticket
  pub never_itself : (h : Holder) → In h (finding_of m j).holders → h.ticket ≡ j.ticket → ⊥
  unfolding finding_of
  never_itself h n e = go (map_in holder holding n)
    where
      go : (x : Job) × In x holding × (h ≡ holder x) → ⊥
      go (x, u, q) =
          let p = keep_in (holds_in S before) m.jobs u in
          let same : x ≡ j = asc_one 1 m.jobs x j v.sound.asc p.0 i (sym (ap holder_ticket q) ∙ e) in
          true_false (holds_in S before j) (sym (ap (holds_in S before) same) ∙ p.1) own_not

  -- "ascending"
  pub holders_rise : Rising 1 (map holder_ticket (finding_of m j).holders)
  unfolding finding_of
  holders_rise =
      subst (Rising 1) (sym (map-map holder_ticket holder holding)) (tickets_rise 1 holding (asc_keep (holds_in S before) 1 m.jobs v.sound.asc))

  -- together they hold what the plan takes in that minute
  pub holders_take : sum holder_nodes (finding_of m j).holders ≡ used before (spans S m.jobs)
  unfolding finding_of takes
  holders_take =
      sum_map holder_nodes holder holding ∙ sum_picked (λ (k : Job). k.nodes) (holds_in S before) m.jobs ∙ sym (used_jobs S before m.jobs)

  -- "Where the rule on gaps holds, the holders' nodes plus its own exceed the rack."
  pub holders_exceed : Tight m → S.nodes < sum holder_nodes (finding_of m j).holders + j.nodes
  holders_exceed T =
      omega (
        arith,
        holders_take,
        short_before m j v T i w,
        used_jobs S before m.jobs,
        used_jobs S before (others j.ticket m.jobs),
        sum_keep (taken S before) (λ (k : Job). eqb k.ticket j.ticket) m.jobs,
      )

  -- so there is one
  pub some_holder : Tight m → (finding_of m j).holders ≡ [] → ⊥
  some_holder T e = omega (arith, holders_exceed T, ap (sum holder_nodes) e, (v.sound.each j i).nodes_to)
