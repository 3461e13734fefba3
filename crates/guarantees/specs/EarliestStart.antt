-- For both kinds, document 02, No. 7: a job never starts before the earliest start given for it, whatever calls come.
-- Assumes nothing.
use Rattle.std.specs.Prelude.{ℕ, ◌+◌, ◌≤◌, ◌<◌, max, ◌≡◌, refl, Bool, true, false, not, ◌&&◌, List, [], ◌∷◌, map, leb, ltb, eqb, length, get_or}
use Rattle.std.proofs.Common.{arith, sym, ap, subst, ◌∙◌, inl, inr, leb-true, leb-false, lt-ltb, le-ltb, ne_eqb, eq-eqb, eqb-true}
use Rattle.std.proofs.Math.Option.{Option, none, some}
use Rattle.lists.specs.Tests.{case, true_false, both, neither, on, and_right_false}
use Rattle.lists.specs.Lists.{sum, elem, All, In, here, there, in_map, map_in, sum_in, first, first_in}
use Rattle.scheduler.specs.declared.Departure.TheVariants.{Cancel}
use Rattle.scheduler.specs.declared.Kind.{Kind}
use Rattle.scheduler.specs.declared.Kind.TheVariants.{Conservative, Easy}
use Rattle.scheduler.specs.declared.State.{State}
use Rattle.scheduler.specs.declared.State.TheVariants.{Unused, Waiting, Running, Cleanup}
use Rattle.scheduler.specs.declared.Job.{Job}
use Rattle.scheduler.specs.declared.Amendment.{Amendment}
use Rattle.scheduler.specs.Answers.{accepts}
use Rattle.scheduler.specs.States.{live?, waiting?, running?, cleaning?, holding?}
use Rattle.scheduler.specs.Jobs.{is_waiting, is_holding, held, departs_as}
use Rattle.scheduler.specs.Settings.{cleanup, unit, until}
use Rattle.scheduler.specs.Table.{nodes_held}
use Rattle.scheduler.specs.Model.{Model}
use Rattle.jobs.specs.Order.{asc_one}
use Rattle.jobs.specs.Soundness.{Sound}
use Rattle.history.specs.Calls.{Call, Event, after, events}
use Rattle.history.specs.Book.{Entry, Book, Fate, waiting, running, cleaning, ended, withdrawn, start, fate_after, fate_from, waits, last_asked, asked_of}
use Rattle.history.specs.Beginning.{fate_by}
use Rattle.history.specs.News.{amended_ticket, News, news, amended_nodes}
use Rattle.history_proof.specs.Obligations.{JobShown, shown, live, remark, said, Aim, Meets, Lawful, Ticketed, Kept}
use Rattle.history_proof.specs.Departures.{kept_by}
use Rattle.history_proof.specs.Cleaning.{clock_rises, lives_shown}
use Rattle.history_proof.specs.LeastHolds.{beyond, least_held, all_held, held_stays}
use Rattle.history_proof.specs.Entries.{entry_fate}
use Rattle.history_proof.specs.Proof.{kept_one}
use Rattle.conservative_laws.specs.Obligations.{conservative_lawful}
use Rattle.conservative_laws.specs.Sentences.{conservative_ticketed}
use Rattle.easy_rules.specs.Easy.{freed, avail}
use Rattle.easy_rules.specs.EarliestStart.{over_at_least, at_least, earliest_for, earliest_start}
use Rattle.easy_laws.specs.Settling.{shadow_from, shadow_min, shadow_suffices}
use Rattle.easy_laws.specs.EarliestStart.{over_nodes, over_holding, until_over, until_cleared, least_held_lem, least_releasing}
use Rattle.easy_laws.specs.Obligations.{easy_lawful}
use Rattle.easy_laws.specs.Withdrawal.{easy_ticketed}
use Rattle.guarantees.specs.Rules.{rules_of, call}
use Rattle.guarantees.specs.Statement.{book_from, same_events}
use Rattle.guarantees.specs.Premise.{ValidBy, Valid}

-- ## Nodes free, and nodes held by others, are the machine's

pub record WaitsFor (m : Model) (t n : ℕ) : Type 0 where
  pub job : Job
  pub inside : In job m.jobs
  pub waits : is_waiting job ≡ true
  pub named : job.ticket ≡ t
  pub asks : job.nodes ≡ n

-- by a minute they are free, or they are not
split : (x u n : ℕ) → on (leb x u) n + on (ltb u x) n ≡ n
split x u n =
    case (leb x u)
    (λ e. rw (e, le-ltb u x (leb-true x u e)) (omega arith))
    (λ e. rw (e, lt-ltb u x (leb-false x u e)) (omega arith))

module _ (m : Model) (s : Sound m) (t n : ℕ) (w : WaitsFor m t n) where
  -- who holds nodes is another
  another : (j : Job) → In j m.jobs → is_holding j ≡ true → eqb j.ticket t ≡ false
  another j i h = ne_eqb j.ticket t (λ e. absurd (apart (ap is_holding (asc_one 1 m.jobs j w.job s.asc i w.inside (e ∙ sym w.named)))))
    where
      idle : (x : State) → waiting? x ≡ true → holding? x ≡ false
      idle Unused q = refl
      idle Waiting q = refl
      idle Running q = true_false false q refl
      idle Cleanup q = true_false false q refl

      apart : is_holding j ≡ is_holding w.job → ⊥
      apart e = true_false (is_holding j) h (e ∙ idle w.job.state w.waits)

  module _ (u : ℕ) where
    abbrev k : ℕ
    k = cleanup m.settings

    one : (j : Job) → In j m.jobs
        → freed m.settings u (over_at_least m.clock j) + least_held k m.clock u t (shown j) ≡ held (over_at_least m.clock j)
    one j i = go j.state refl
      where
        -- it holds no nodes
        none_held : is_holding j ≡ false → fate_by j.state j.start j.end ≡ waiting
            → freed m.settings u (over_at_least m.clock j) + least_held k m.clock u t (shown j) ≡ held (over_at_least m.clock j)
        none_held h f = rw (over_holding m.clock j, h, f, and_right_false (not (eqb j.ticket t)) {b = false} refl)

        -- it holds some until a minute
        some_held : (x : ℕ) → is_holding j ≡ true → until m.settings (over_at_least m.clock j) ≡ x
            → least_held k m.clock u t (shown j) ≡ on (not (eqb j.ticket t) && ltb u x) j.nodes
            → freed m.settings u (over_at_least m.clock j) + least_held k m.clock u t (shown j) ≡ held (over_at_least m.clock j)
        some_held x h e f = rw (f, over_holding m.clock j, h, e, over_nodes m.clock j, another j i h) (split x u j.nodes)

        go : (x : State) → j.state ≡ x
            → freed m.settings u (over_at_least m.clock j) + least_held k m.clock u t (shown j) ≡ held (over_at_least m.clock j)
        go Unused q = none_held (ap holding? q) (ap (λ (x : State). fate_by x j.start j.end) q)
        go Waiting q = none_held (ap holding? q) (ap (λ (x : State). fate_by x j.start j.end) q)
        go Running q = some_held (max m.clock (j.start + j.least) + k) (ap holding? q) (until_over m.settings m.clock j (ap running? q)) (rw q)
        go Cleanup q = some_held (j.end + k) (ap holding? q) (until_cleared m.settings m.clock j (ap cleaning? q)) (rw q)

    all : (js : List Job) → ((j : Job) → In j js → In j m.jobs)
        → sum (freed m.settings u) (map (over_at_least m.clock) js) + sum (least_held k m.clock u t) (map shown js)
        ≡ nodes_held (map (over_at_least m.clock) js)
    all [] f = refl
    all (j ∷ js) f = omega (arith, one j (f j (here refl)), all js (λ x i. f x (there i)))

    -- at a minute, where each run is over at its least: what is there, and what others hold
    there_or_held : avail (at_least m) u + all_held m u t ≡ m.settings.nodes
    there_or_held = omega (arith, all m.jobs (λ j i. i), least_held_lem m s, s.capacity)

-- what others hold so and what one holds is within what all hold
module _ (k c u t : ℕ) where
  within_one : (j : Job) → least_held k c u t (shown j) + on (eqb j.ticket t) (held j) ≤ held j
  within_one j = case (eqb j.ticket t) (λ e. rw e (omega arith)) (λ e. rw e (omega (arith, go j.state)))
    where
      some : (b : Bool) → on b j.nodes ≤ j.nodes
      some true = omega arith
      some false = omega arith

      go : (x : State) → on (beyond k c u j.least (fate_by x j.start j.end)) j.nodes ≤ on (holding? x) j.nodes
      go Unused = omega arith
      go Waiting = omega arith
      go Running = some (ltb u (max c (j.start + j.least) + k))
      go Cleanup = some (ltb u (j.end + k))

  within_all : (js : List Job) → sum (least_held k c u t) (map shown js) + sum (λ (j : Job). on (eqb j.ticket t) (held j)) js ≤ nodes_held js
  within_all [] = omega arith
  within_all (j ∷ js) = omega (arith, within_one j, within_all js)

-- document 02, No. 13: "its soonest minute counts afresh". So the minute given is claimed as long as no event amends the job
abbrev pub Unamended : ℕ → News → Type 0
Unamended t e = elem t (map amended_ticket e.amended) ≡ false

abbrev pub NoneAmends : ℕ → List Event → Type 0
NoneAmends t es = All (λ (e : Event). Unamended t (news e)) es

-- it asks for what it asked for before
same_last : (cs : List Amendment) (t n : ℕ) → elem t (map amended_ticket cs) ≡ false → last_asked amended_nodes cs t n ≡ n
same_last [] t n e = refl
same_last (x ∷ xs) t n e =
    let b = neither (eqb t x.ticket) (elem t (map amended_ticket xs)) e in
    let o : eqb x.ticket t ≡ false =
    case (eqb x.ticket t) (λ q. true_false (eqb t x.ticket) (eq-eqb t x.ticket (sym (eqb-true x.ticket t q))) b.0) (λ q. q) in
    rw o (same_last xs t n b.1)

same_asked : (cs : List Amendment) (f : Fate) (t n : ℕ) → elem t (map amended_ticket cs) ≡ false → asked_of amended_nodes cs f t n ≡ n
same_asked cs f t n e = case (waits f) (λ w. rw w (same_last cs t n e)) (λ w. rw w)

-- ## A lower bound is kept

-- to start no sooner than b
abbrev pub from : ℕ → Aim
from b = record { may_start = λ (s : ℕ). b ≤ s; may_wait = λ (w : ℕ). w ≡ w }

-- it waits for n nodes, and cannot start before b
abbrev pub NoSooner : (n b : ℕ) → Model → ℕ → Type 0
NoSooner n b m t = WaitsFor m t n × (b ≤ earliest_for m n)

module _ {κ : Kind} {Fit : Model → Type 0} {OnCourse : Model → ℕ → ℕ → Type 0} (L : Lawful κ (rules_of κ) Fit OnCourse) (T : Ticketed (rules_of κ) Fit OnCourse)
  where
    module _ (m : Model) (c : Call) (t n : ℕ) (v : Fit m) (w : WaitsFor m t n) (asked : Unamended t (said (rules_of κ) m c)) where
      abbrev m' : Model
      m' = (rules_of κ m c).model

      s : Sound m
      s = T.sound m v

      s' : Sound m'
      s' = T.sound m' (L.valid m c v)

      -- the machine's nodes stay what they were
      same_nodes : m'.settings.nodes ≡ m.settings.nodes
      same_nodes = ap (λ S. S.nodes) (L.settings m c v)

      -- its fate after the call, by what the call says
      abbrev fate : Fate
      fate = fate_after (cleanup m'.settings) m'.clock (said (rules_of κ) m c) t waiting

      waits_fate : fate_by w.job.state w.job.start w.job.end ≡ waiting
      waits_fate = by w.job.state w.waits
        where
          by : (x : State) → waiting? x ≡ true → fate_by x w.job.start w.job.end ≡ waiting
          by Unused q = refl
          by Waiting q = refl
          by Running q = true_false false q refl
          by Cleanup q = true_false false q refl

      -- where it lives on, the job with its fate
      record Found : Type 0 where
        job : Job
        inside : In job m'.jobs
        named : job.ticket ≡ t
        asks : job.nodes ≡ n
        fate_is : fate_by job.state job.start job.end ≡ fate

      found : (f : Fate) → fate ≡ f → live f ≡ true → Found
      found f e l =
          let r = remark (cleanup m'.settings) m'.clock (said (rules_of κ) m c) (shown w.job) in
          let q : r.fate ≡ fate =
          ap (λ (x : Fate). fate_after (cleanup m'.settings) m'.clock (said (rules_of κ) m c) w.job.ticket x) waits_fate
          ∙ ap (λ (x : ℕ). fate_after (cleanup m'.settings) m'.clock (said (rules_of κ) m c) x waiting) w.named in
          let j = map_in shown m'.jobs (lives_shown L m c v (shown w.job) (in_map shown w.inside) (ap live (q ∙ e) ∙ l)) in
          record {
            job = j.0;
            inside = j.1;
            named = sym (ap (λ (x : JobShown). x.ticket) j.2) ∙ w.named;
            asks =
                sym (ap (λ (x : JobShown). x.nodes) j.2)
                ∙ same_asked (said (rules_of κ) m c).amended (fate_by w.job.state w.job.start w.job.end) w.job.ticket w.job.nodes
                (ap (λ (x : ℕ). elem x (map amended_ticket (said (rules_of κ) m c).amended)) w.named ∙ asked)
                ∙ w.asks;
            fate_is = sym (ap (λ (x : JobShown). x.fate) j.2) ∙ q;
          }

      -- it starts: then its nodes were there, beside those that others still hold
      starts_later : fate ≡ running m'.clock → earliest_for m n ≤ m'.clock
      starts_later e =
          let f = found (running m'.clock) e refl in
          let runs-now = runs f.job.state f.job.start f.job.end (f.fate_is ∙ e) in
          let own : on (eqb f.job.ticket t) (held f.job) ≡ n = rw (eq-eqb f.job.ticket t f.named, runs-now) f.asks in
          shadow_min (at_least m) n m'.clock
          (omega (
            arith,
            there_or_held m s t n w m'.clock,
            held_stays L T m c v m'.clock t (omega arith),
            within_all (cleanup m'.settings) m'.clock m'.clock t m'.jobs,
            sum_in (λ (j : Job). on (eqb j.ticket t) (held j)) f.inside,
            s'.capacity,
            same_nodes,
          ))
          (clock_rises L m c v)
        where
          runs : (x : State) (b i : ℕ) → fate_by x b i ≡ running m'.clock → holding? x ≡ true
          runs Unused b i q = absurd (let z : ◌≡◌ {A = ℕ} 0 1 = cc in omega arith)
          runs Waiting b i q = absurd (let z : ◌≡◌ {A = ℕ} 0 1 = cc in omega arith)
          runs Running b i q = refl
          runs Cleanup b i q = refl

      -- it waits on: then what others hold has not become less
      waits_on : fate ≡ waiting → WaitsFor m' t n
      waits_on e =
          let f = found waiting e refl in
          record {
            job = f.job;
            inside = f.inside;
            waits = by f.job.state f.job.start f.job.end (s'.each f.job f.inside).is_live (f.fate_is ∙ e);
            named = f.named;
            asks = f.asks;
          }
        where
          by : (x : State) (b i : ℕ) → live? x ≡ true → fate_by x b i ≡ waiting → waiting? x ≡ true
          by Unused b i l q = l
          by Waiting b i l q = refl
          by Running b i l q = absurd (let z : ◌≡◌ {A = ℕ} 0 1 = cc in omega arith)
          by Cleanup b i l q = absurd (let z : ◌≡◌ {A = ℕ} 0 1 = cc in omega arith)

      never_falls : fate ≡ waiting → earliest_for m n ≤ earliest_for m' n
      never_falls e =
          let u = earliest_for m' n in
          let w' = waits_on e in
          let from' : m'.clock ≤ u = shadow_from (at_least m') n in
          shadow_min (at_least m) n u
          (omega (
            arith,
            there_or_held m s t n w u,
            there_or_held m' s' t n w' u,
            held_stays L T m c v u t from',
            shadow_suffices (at_least m') n (least_releasing m' s')
                (omega (arith, (s'.each w'.job w'.inside).nodes_to, w'.asks)),
            same_nodes,
          ))
          (omega (arith, clock_rises L m c v))

    keeps_no_sooner : (n b : ℕ) (m : Model) (c : Call) (t : ℕ) → Fit m → Unamended t (said (rules_of κ) m c) → NoSooner n b m t
        → elem t (said (rules_of κ) m c).withdrew ≡ false → Kept (from b) (NoSooner n b) t (said (rules_of κ) m c) (rules_of κ m c).model
    keeps_no_sooner n b m c t v u o q =
        kept_by (said (rules_of κ) m c) (from b) (NoSooner n b) (rules_of κ m c).model t q
        (case (elem t (said (rules_of κ) m c).started)
        (λ x. inl (x, omega (arith, o.1, starts_later m c t n v o.0 u (rw (q, x)))))
        (λ x. inr (x, (waits_on m c t n v o.0 u (rw (q, x)), omega (arith, o.1, never_falls m c t n v o.0 u (rw (q, x)))))))

    -- whatever calls come that do not amend it, of a job with a fate
    pub holds_on : (n b : ℕ) (m : Model) (t : ℕ) (f : Fate) (cs : List Call) → Fit m → NoneAmends t (events (rules_of κ) m cs)
        → Meets (from b) (NoSooner n b) m t f
        → Meets (from b) (NoSooner n b) (after (rules_of κ) m cs) t (fate_from (cleanup m.settings) m.clock t f (events (rules_of κ) m cs))
    holds_on n b m t f [] v u o = o
    holds_on n b m t f (c ∷ cs) v u o =
        let R = rules_of κ in
        let p = cleanup m.settings in
        let a = kept_one R Fit (from b) (NoSooner n b) L.clock m c v p t (λ x. refl) (keeps_no_sooner n b m c t v u.0) f o in
        let h = holds_on n b (R m c).model t (fate_after p (R m c).model.clock (said R m c) t f) cs (L.valid m c v) u.1 a in
        subst (λ (x : ℕ). Meets (from b) (NoSooner n b) (after R (R m c).model cs) t
        (fate_from p x t (fate_after p x (said R m c) t f) (events R (R m c).model cs))) (L.clock m c v)
        (subst (λ (q : ℕ). Meets (from b) (NoSooner n b) (after R (R m c).model cs) t
        (fate_from q (R m c).model.clock t (fate_after p (R m c).model.clock (said R m c) t f) (events R (R m c).model cs)))
        (ap cleanup (L.settings m c v)) h)

    no_sooner : (n : ℕ) (m : Model) (t s : ℕ) (cs : List Call) → Fit m → WaitsFor m t n → NoneAmends t (events (rules_of κ) m cs)
        → start (fate_from (cleanup m.settings) m.clock t waiting (events (rules_of κ) m cs)) ≡ some s → earliest_for m n ≤ s
    no_sooner n m t s cs v w u e =
        started (after (rules_of κ) m cs) (fate_from (cleanup m.settings) m.clock t waiting (events (rules_of κ) m cs)) e
        (holds_on n (earliest_for m n) m t waiting cs v u (w, omega arith))
      where
        started : (m' : Model) (f : Fate) → start f ≡ some s → Meets (from (earliest_for m n)) (NoSooner n (earliest_for m n)) m' t f → earliest_for m n ≤ s
        started m' waiting e o = absurd (let z : ◌≡◌ {A = ℕ} 0 1 = cc in omega arith)
        started m' (running x) e o = let z : x ≡ s = cc in omega arith
        started m' (cleaning x y) e o = let z : x ≡ s = cc in omega arith
        started m' (ended x) e o = let z : x ≡ s = cc in omega arith
        started m' (withdrawn x) e o = absurd (let z : ◌≡◌ {A = ℕ} 0 1 = cc in omega arith)

    pub no_sooner_call : (n : ℕ) (m : Model) (t s : ℕ) (cs : List Call) → Fit m → WaitsFor m t n → NoneAmends t (events call m cs)
        → start (fate_from (cleanup m.settings) m.clock t waiting (events call m cs)) ≡ some s → earliest_for m n ≤ s
    no_sooner_call n m t s cs v w u e =
        no_sooner n m t s cs v w (subst (NoneAmends t) (same_events L m cs v) u)
        (subst (λ (es : List Event). start (fate_from (cleanup m.settings) m.clock t waiting es) ≡ some s) (same_events L m cs v) e)

-- ## For the reader

-- who gets an answer: a job that waits, with the earliest start for its nodes
pub answered : (m : Model) (t : ℕ) → accepts (earliest_start m t).refusal ≡ true → (n : ℕ) × WaitsFor m t n × ((earliest_start m t).minute ≡ earliest_for m n)
unfolding earliest_start
answered m t a = by (first (departs_as Cancel t) m.jobs) refl
  where
    by : (f : Option Job) → first (departs_as Cancel t) m.jobs ≡ f
        → (n : ℕ) × WaitsFor m t n × ((earliest_start m t).minute ≡ earliest_for m n)
    by none e = true_false false (rw e at a) refl
    by (some j) e =
        let i = first_in (departs_as Cancel t) m.jobs e in
        let b = both (is_waiting j) (eqb j.ticket t) i.1 in
        (j.nodes, record { job = j; inside = i.0; waits = b.0; named = eqb-true j.ticket t b.1; asks = refl }, rw e)

-- From a valid model of either kind and for every list of calls that follows: by the calls and their answers, the job starts no sooner than
-- the minute given, as long as none of them amends it.
pub starts_no_sooner : (m : Model) (t s : ℕ) (cs : List Call) → Valid m → accepts (earliest_start m t).refusal ≡ true
    → NoneAmends t (events call m cs) → start (fate_from (cleanup m.settings) m.clock t waiting (events call m cs)) ≡ some s
    → (earliest_start m t).minute ≤ s
starts_no_sooner m t s cs v a u e =
    let w = answered m t a in
    omega (arith, w.2, by m.settings.kind v w.0 w.1)
  where
    by : (k : Kind) → ValidBy k m → (n : ℕ) → WaitsFor m t n → earliest_for m n ≤ s
    by Conservative v n w = no_sooner_call conservative_lawful conservative_ticketed n m t s cs v w u e
    by Easy v n w = no_sooner_call easy_lawful easy_ticketed n m t s cs v w u e

-- The same of the job's entry in a book, whatever the book has said before: where the entry waits when the minute is given, its start in the
-- book after the calls that follow is no sooner.
pub entry_no_sooner : (m : Model) (b : Book) (cs : List Call) (i s : ℕ) (z : Entry) → Valid m → b.clock ≡ m.clock → i < length b.entries
    → (get_or b.entries i z).fate ≡ waiting → accepts (earliest_start m (get_or b.entries i z).ticket).refusal ≡ true
    → NoneAmends (get_or b.entries i z).ticket (events call m cs) → start (get_or (book_from m b (events call m cs)).entries i z).fate ≡ some s
    → (earliest_start m (get_or b.entries i z).ticket).minute ≤ s
entry_no_sooner m b cs i s z v c l w a u e =
    let t = (get_or b.entries i z).ticket in
    let f = entry_fate (unit m.settings) (cleanup m.settings) b (events call m cs) i z l
    ∙ ap (λ (f : Fate). fate_from (cleanup m.settings) b.clock t f (events call m cs)) w
    ∙ ap (λ (x : ℕ). fate_from (cleanup m.settings) x t waiting (events call m cs)) c in
    starts_no_sooner m t s cs v a u (ap start (sym f) ∙ e)
