-- For the reader: what the definitions of this kind mean, in document 01's words. So no definition can be bent along with the code that is equated
-- with it.
-- Assumes nothing.
use Rattle.std.specs.Prelude.{ℕ, zero, suc, ◌+◌, ◌*◌, ◌≤◌, ◌<◌, ◌≡◌, refl, Bool, true, false, not, ◌&&◌, ◌||◌, cond, List, [], ◌∷◌, ◌++◌, ◌⊎◌, leb, ltb, eqb, length}
use Rattle.std.proofs.Common.{arith, sym, ap, ap₂, subst, ◌∙◌, inl, inr, ⊎_elim, leb-true, leb-false, le-leb, ltb-true, ltb-false, le-ltb, lt-ltb, eq-eqb, ne_eqb}
use Rattle.std.proofs.Math.Option.{Option, none, some}
use Rattle.std.proofs.lemmas.Bool.{lt-leb}
use Rattle.lists.specs.Tests.{case, true_false, on, both, either, neither}
use Rattle.lists.specs.Lists.{keep, first, any, elem, In, map_in, keep_in, keep_none, first_in}
use Rattle.walltime.specs.WallTime.{wall_time}
use Rattle.scheduler.specs.declared.Job.{Job}
use Rattle.scheduler.specs.declared.Submission.{Submission}
use Rattle.scheduler.specs.declared.Refusal.{Refusal}
use Rattle.scheduler.specs.declared.Refusal.TheVariants as refusal
use Rattle.scheduler.specs.declared.Departure.TheVariants.{Complete, Cancel}
use Rattle.scheduler.specs.declared.Select.{Select}
use Rattle.scheduler.specs.declared.Select.TheVariants as select
use Rattle.scheduler.specs.Limits.{last_ticket, outside}
use Rattle.scheduler.specs.Tenants.{known}
use Rattle.scheduler.specs.Jobs.{is_waiting, is_running, is_cleaning, departs_as, held}
use Rattle.scheduler.specs.declared.Settings.{Settings}
use Rattle.scheduler.specs.Settings.{horizon, quota, longest, cleanup, run_time, hold_time, unit, end_of}
use Rattle.scheduler.specs.Times.{until_is, until_cleaning}
use Rattle.scheduler.specs.Table.{live_of, ticket_of, tickets_of, ended_of}
use Rattle.scheduler.specs.Model.{Model, ending, joined}
use Rattle.scheduler.specs.Answers.{Result, Forecast, verdict, accepts, refuse}
use Rattle.scheduler.specs.Refusals.{depart_refusal, tick_refusal}
use Rattle.scheduler.specs.Amending.{in_place_refusal, in_place_of}
use Rattle.jobs.specs.Judgement.{judged_by, judged_accepted, judged_refusal, judged_refused}
use Rattle.jobs.specs.Order.{Asc, asc_one, elem_job}
use Rattle.jobs.specs.Departing.{cancel_judged, departs_alone}
use Rattle.jobs.specs.Soundness.{Sound, Fit, fit_passes, running_holds, cleaning_holds, running_clean}
use Rattle.history.specs.Calls.{Call, submit, depart, complete, cancel, tick, amend, unchanged}
use Rattle.history.specs.News.{Newcomer, News, news_of}
use Rattle.history.specs.Tickets.{next_after}
use Rattle.easy_rules.specs.Easy.{queue, head, free, freed, avail, shadow, extra, qualifies, pick, choice, begin, Settling, on_choice, settled}
use Rattle.easy_rules.specs.Easy.{head_is, forecast, noted, finished, new_job, submit_refusal, advanced, call}
use Rattle.easy_laws.specs.Settling.{shadow_from, shadow_min, shadow_holds, none_starts, How, how, Chosen, chosen, sum_mark}
use Rattle.easy_laws.specs.Settling.{queue_mark, one_fewer, asc_begin, each_begin, idle, marks, Settles, rest, start, settles}
use Rattle.easy_laws.specs.Settling.{settles_jobs}
use Rattle.easy_laws.specs.Course.{Waits, head_lowest, settles_waited}
use Rattle.easy_laws.specs.Validity.{Valid, latest_end, OwnPart, submits, departs, ticks, joiner, CallAccepted, taken_next, taken_came, amends}
use Rattle.easy_laws.specs.Noted.{waited_noted, forecast_noted}
use Rattle.easy_laws.specs.Validity.{Unchanged, quiet_news, called, call_valid, Joins, joins_ticket, moved_waited}

-- ## The shadow

-- Document 02, No. 3: "nodes stay taken for clearing minutes", "and for those minutes shadow, extra and demand 3 count them as held by a stack
-- running until these end". The nodes of a running job come free at its start plus its held time and the cleanup. The nodes of a job whose run has
-- ended come free at its end plus the cleanup.
module _ (S : Settings) (t : ℕ) (j : Job) where
  pub running_frees : is_running j ≡ true → freed S t j ≡ on (leb (j.start + (wall_time j.estimate + cleanup S)) t) j.nodes
  unfolding hold_time run_time
  running_frees r = rw (running_holds j.state r, until_is S j (running_clean j.state r))

  pub cleaning_frees : is_cleaning j ≡ true → freed S t j ≡ on (leb (j.end + cleanup S) t) j.nodes
  cleaning_frees c = rw (cleaning_holds j.state c, until_cleaning S j c)

-- It is the smallest of all minutes from now on at which the nodes suffice.
pub shadow_smallest : (m : Model) (n : ℕ) → Sound m → n ≤ m.settings.nodes
    → (m.clock ≤ shadow m n) × (n ≤ avail m (shadow m n)) × ((t : ℕ) → m.clock ≤ t → n ≤ avail m t → shadow m n ≤ t)
shadow_smallest m n s l = (shadow_from m n, shadow_holds m n s l, λ t c h. shadow_min m n t h c)

-- ## At rest

-- The head's nodes are not free, and a later job whose nodes are free meets neither (i) nor (ii).
pub record Rests (m : Model) : Type 0 where
  pub lacks : (h : Job) (later : List Job) → queue m.jobs ≡ h ∷ later → free m < h.nodes
  pub none_qualifies : (h : Job) (later : List Job) → queue m.jobs ≡ h ∷ later → (j : Job) → In j later → j.nodes ≤ free m
      → (shadow m h.nodes < m.clock + hold_time m.settings j.estimate) × (extra m h.nodes < j.nodes)

rests : (m : Model) → choice m ≡ none → Rests m
unfolding qualifies
rests m e = record {
  lacks = λ h later q. (none_starts m h later (ap (pick m) (sym q) ∙ e)).0;
  none_qualifies = λ h later q j i l.
      let one = leb (m.clock + hold_time m.settings j.estimate) (shadow m h.nodes) in
      let two = leb j.nodes (extra m h.nodes) in
      let n : (one || two) ≡ false = rw (le-leb j.nodes (free m) l) at ((none_starts m h later (ap (pick m) (sym q) ∙ e)).1 j i) in
      let r = neither one two n in
      (leb-false (m.clock + hold_time m.settings j.estimate) (shadow m h.nodes) r.0, leb-false j.nodes (extra m h.nodes) r.1);
}

-- Every call leaves the scheduler at rest.
pub call_rests : (m : Model) (c : Call) → Valid m → Rests (call m c).model
call_rests m c v = rests (call m c).model (call_valid m c v).rests

-- ## Settling

-- Jobs start one by one, each as the head that fits or as the first later one that qualifies, on the model of its moment
-- (`How`); and then the scheduler is at rest.
pub data Steps : Model → Model → List ℕ → Type 0 where
  done : {m : Model} → Rests m → Steps m m []
  next : {m m' : Model} {ts : List ℕ} (j : Job) → How m j (queue m.jobs) → Steps (begin j.ticket m) m' ts → Steps m m' (j.ticket ∷ ts)

steps : {m m' : Model} {ts : List ℕ} → Settles m m' ts → Steps m m' ts
steps (rest {m = m} e) = done (rests m e)
steps (start {m = m} j e s) = next j (how m j (queue m.jobs) e) (steps s)

pub settled_steps : (m : Model) → Sound m → Steps m (settled m).model (settled m).started
settled_steps m s = steps (settles m s)

-- Document 01's steps as they are written, one loop after the other.
-- 1. "While the head's nodes are free now, it starts."
abbrev pub head_fits : Model → List Job → Option Job
head_fits m [] = none
head_fits m (h ∷ later) = cond (leb h.nodes (free m)) (some h) none

-- 3. "The first later stack that" qualifies "starts. Shadow, extra and both rules are worked out afresh after each stack passed
-- forward, until none qualifies."
abbrev pub later_one : Model → List Job → Option Job
later_one m [] = none
later_one m (h ∷ later) = first (qualifies m h) later

unfoldable pub repeat : (Model → List Job → Option Job) → ℕ → Model → Settling
repeat f zero m = record { model = m; started = [] }
repeat f (suc n) m =
    on_choice (f m (queue m.jobs)) (record { model = m; started = [] }) λ j.
    let rest = repeat f n (begin j.ticket m) in
    record { model = rest.model; started = j.ticket ∷ rest.started }

abbrev pub all_of : (Model → List Job → Option Job) → Model → Settling
all_of f m = repeat f (length (queue m.jobs)) m

abbrev pub by_steps : Model → Settling
by_steps m =
    let one = all_of head_fits m in
    let three = all_of later_one one.model in
    record { model = three.model; started = one.started ++ three.started }

fits_pick : (m : Model) (q : List Job) (j : Job) → head_fits m q ≡ some j → pick m q ≡ some j
unfolding pick
fits_pick m [] j e = e
fits_pick m (h ∷ later) j e = case (leb h.nodes (free m)) (λ l. rw l (rw l at e))
    (λ l. absurd (let w : none ≡ some j = rw l at e in let z : ◌≡◌ {A = ℕ} 0 1 = cc in omega arith))

later_pick : (m : Model) (q : List Job) → head_fits m q ≡ none → pick m q ≡ later_one m q
unfolding pick
later_pick m [] e = refl
later_pick m (h ∷ later) e = case (leb h.nodes (free m))
    (λ l. absurd (let w : some h ≡ none = rw l at e in let z : ◌≡◌ {A = ℕ} 0 1 = cc in omega arith)) (λ l. rw l)

-- passing a job forward leaves the head still without its nodes
still_lacks : (m : Model) (j : Job) → Asc 1 m.jobs → head_fits m (queue m.jobs) ≡ none → later_one m (queue m.jobs) ≡ some j
    → head_fits (begin j.ticket m) (queue (begin j.ticket m).jobs) ≡ none
still_lacks m j a e f = by (queue m.jobs) refl (later_pick m (queue m.jobs) e ∙ f)
  where
    by : (q : List Job) → queue m.jobs ≡ q → choice m ≡ some j → head_fits (begin j.ticket m) (queue (begin j.ticket m).jobs) ≡ none
    by [] x c = rw (queue_mark m.clock j.ticket m.jobs, x)
    by (h ∷ later) x c =
        let i = first_in (qualifies m h) later (rw x at f) in
        let d : eqb h.ticket j.ticket ≡ false = ne_eqb h.ticket j.ticket (λ z. omega (arith, head_lowest m h later x a j i.0)) in
        let l : free m < h.nodes = lacks (rw x at e) in
        let s = sum_mark held m.clock 1 m.jobs a (chosen m j c).isin in
        let w : held j ≡ 0 = rw (idle j (chosen m j c).waits) in
        rw (queue_mark m.clock j.ticket m.jobs, x, d, lt-leb h.nodes (free (begin j.ticket m)) (omega arith))
      where
        lacks : head_fits m (h ∷ later) ≡ none → free m < h.nodes
        lacks y = case (leb h.nodes (free m)) (λ k. absurd (let w : some h ≡ none = rw k at y in let z : ◌≡◌ {A = ℕ} 0 1 = cc in omega arith))
            (λ k. leb-false h.nodes (free m) k)

nobody : (m : Model) (f : Model → List Job → Option Job) → f m [] ≡ none → length (queue m.jobs) ≤ 0 → f m (queue m.jobs) ≡ none
nobody m f e l = by (queue m.jobs) l
  where
    by : (q : List Job) → length q ≤ 0 → f m q ≡ none
    by [] l = e
    by (h ∷ later) l = absurd (omega arith)

three_settles : (n : ℕ) (m : Model) → Asc 1 m.jobs → head_fits m (queue m.jobs) ≡ none → length (queue m.jobs) ≤ n
    → Settles m (repeat later_one n m).model (repeat later_one n m).started
unfolding repeat
three_settles zero m a e l = rest (later_pick m (queue m.jobs) e ∙ nobody m later_one refl l)
three_settles (suc n) m a e l =
    by (later_one m (queue m.jobs)) refl
    (λ j f c. three_settles n (begin j.ticket m) (asc_begin j.ticket m a) (still_lacks m j a e f) (omega (arith, one_fewer m j a c)))
  where
    by : (o : Option Job) → later_one m (queue m.jobs) ≡ o
        → ((j : Job) → later_one m (queue m.jobs) ≡ some j → Chosen m j
        → Settles (begin j.ticket m) (repeat later_one n (begin j.ticket m)).model (repeat later_one n (begin j.ticket m)).started)
        → Settles m (repeat later_one (suc n) m).model (repeat later_one (suc n) m).started
    by none f g = rw (f, repeat) (rest (later_pick m (queue m.jobs) e ∙ f))
    by (some j) f g = let c = later_pick m (queue m.jobs) e ∙ f in rw (f, repeat) (start j c (g j f (chosen m j c)))

-- step 1 from here, and then step 3
abbrev then : Settling → Settling
then one = let three = all_of later_one one.model in record { model = three.model; started = one.started ++ three.started }

steps_settle : (n : ℕ) (m : Model) → Asc 1 m.jobs → length (queue m.jobs) ≤ n
    → Settles m (then (repeat head_fits n m)).model (then (repeat head_fits n m)).started
unfolding repeat
steps_settle zero m a l = three_settles (length (queue m.jobs)) m a (nobody m head_fits refl l) (omega arith)
steps_settle (suc n) m a l = by (head_fits m (queue m.jobs)) refl
    (λ j c. steps_settle n (begin j.ticket m) (asc_begin j.ticket m a) (omega (arith, one_fewer m j a c)))
  where
    by : (o : Option Job) → head_fits m (queue m.jobs) ≡ o
        → ((j : Job) → Chosen m j → Settles (begin j.ticket m) (then (repeat head_fits n (begin j.ticket m))).model
        (then (repeat head_fits n (begin j.ticket m))).started)
        → Settles m (then (repeat head_fits (suc n) m)).model (then (repeat head_fits (suc n) m)).started
    by none f g = rw (f, repeat) (three_settles (length (queue m.jobs)) m a f (omega arith))
    by (some j) f g = let c = fits_pick m (queue m.jobs) j f in rw (f, repeat) (start j c (g j (chosen m j c)))

-- a settling goes one way only
settles_same : {m a b : Model} {ts us : List ℕ} → Settles m a ts → Settles m b us → (a ≡ b) × (ts ≡ us)
settles_same (rest {m = m} e) t = by t e
  where
    by : {n b : Model} {us : List ℕ} → Settles n b us → choice n ≡ none → (n ≡ b) × ([] ≡ us)
    by (rest f) e = (refl, refl)
    by (start j f s) e = absurd (let z : ◌≡◌ {A = ℕ} 0 1 = cc in omega arith)
settles_same {a = a} (start {m = m} {ts = ts} j e s) t = by t e (λ b us u. settles_same s u)
  where
    by : {n b : Model} {us : List ℕ} → Settles n b us → choice n ≡ some j
        → ((b : Model) (us : List ℕ) → Settles (begin j.ticket n) b us → (a ≡ b) × (ts ≡ us))
        → (a ≡ b) × (j.ticket ∷ ts ≡ us)
    by (rest f) e g = absurd (let z : ◌≡◌ {A = ℕ} 0 1 = cc in omega arith)
    by (start {m = n} {m' = b} {ts = us} k f s) e g =
        let z : k ≡ j = cc in
        let r = g b us (subst (λ (x : Job). Settles (begin x.ticket n) b us) z s) in
        (r.0, (let w : k.ticket ≡ j.ticket = ap ticket_of z in let y = r.1 in cc))

-- The settling is document 01's steps as they are written.
pub settled_by_steps : (m : Model) → Sound m → settled m ≡ by_steps m
settled_by_steps m s =
    let r = settles_same (settles m s) (steps_settle (length (queue m.jobs)) m s.asc (omega arith)) in
    λ i. record { model = r.0 i; started = r.1 i }

-- ## Accepted and refused

-- a call is judged by these tests and no others
abbrev pub refusal_of : Model → Call → Refusal
refusal_of m (submit o) = submit_refusal m o
refusal_of m (depart h t) = depart_refusal m h t
refusal_of m tick = tick_refusal m
refusal_of m (amend a) = in_place_refusal m a
refusal_of m (unchanged r) = r

finished_none : (m mid : Model) (t : ℕ) (ts : List ℕ) → (finished m mid t ts).reply.refusal ≡ refusal.None
unfolding finished
finished_none m mid t ts = refl

pub refusal_is : (m : Model) (c : Call) → (call m c).reply.refusal ≡ refusal_of m c
unfolding call advanced
refusal_is m (submit o) = judged_refusal m (submit_refusal m o) (finished m (joined m (new_job m o)) m.next []) (finished_none m _ _ _)
refusal_is m (depart h t) = judged_refusal m (depart_refusal m h t) (advanced m m.clock (select.Departing h t)) (finished_none m _ _ _)
refusal_is m tick = judged_refusal m (tick_refusal m) (advanced m (suc m.clock) (ending m)) (finished_none m _ _ _)
refusal_is m (amend a) = judged_refusal m (in_place_refusal m a) (finished m (in_place_of m a) a.ticket []) (finished_none m _ _ _)
refusal_is m (unchanged r) = refl

-- A refused call leaves the model as it was, and gives its number and nothing else.
pub refused_same : (m : Model) (c : Call) → accepts (call m c).reply.refusal ≡ false → call m c ≡ refuse m (call m c).reply.refusal
unfolding call advanced
refused_same m (submit o) a = judged_refused m (submit_refusal m o) (finished m (joined m (new_job m o)) m.next []) (finished_none m _ _ _) a
refused_same m (depart h t) a = judged_refused m (depart_refusal m h t) (advanced m m.clock (select.Departing h t)) (finished_none m _ _ _) a
refused_same m tick a = judged_refused m (tick_refusal m) (advanced m (suc m.clock) (ending m)) (finished_none m _ _ _) a
refused_same m (amend c) a = judged_refused m (in_place_refusal m c) (finished m (in_place_of m c) c.ticket []) (finished_none m _ _ _) a
refused_same m (unchanged r) a = refl

-- Each refusal of a submission, with its conditions in the documents' order and no others. 14: "a house other than A or B"; 1: "stack nodes 0 or
-- above the rack's"; 2: "estimate .. outside 1 to 10,080", by document 02, No. 6, to the longest; 19: "least above most"; 15: "the house's places
-- are all live"; 5: "ticket 999,999 has been given"; 6: "now + r × 10,080 + held above it, r being the number waiting before plus one", by document
-- 02, No. 3, with the cleanup in both, and by No. 6 with the longest estimate's held time
pub submit_refusal_lem : (m : Model) (o : Submission) → (call m (submit o)).reply.refusal ≡ verdict
    ((not (known o.tenant), refusal.UnknownTenant)
    ∷ (ltb o.nodes 1 || ltb m.settings.nodes o.nodes, refusal.NodesOutOfRange)
    ∷ (ltb o.estimate 1 || ltb (longest m.settings) o.estimate, refusal.MinutesOutOfRange)
    ∷ (ltb o.estimate o.least, refusal.LeastAboveMost)
    ∷ (leb (quota m.settings o.tenant) (live_of o.tenant m.jobs), refusal.QuotaFull)
    ∷ (ltb 999999 m.next, refusal.NoTicketLeft)
    ∷ (
      ltb 1000000
          (m.clock + suc (length (keep is_waiting m.jobs)) * (wall_time (longest m.settings) + cleanup m.settings)
          + (wall_time o.estimate + cleanup m.settings)),
      refusal.PastHorizon,
    )
    ∷ [])
unfolding submit_refusal run_time hold_time unit
submit_refusal_lem m o = refusal_is m (submit o)

-- Nothing is refused except on its condition. A submission of which no condition holds is accepted.
abbrev pub Because : Model → Submission → Refusal → Type 0
Because m o refusal.None = Fit m o × (latest_end m o.estimate ≤ horizon m.settings)
Because m o refusal.NodesOutOfRange = (o.nodes < 1) ⊎ (m.settings.nodes < o.nodes)
Because m o refusal.MinutesOutOfRange = (o.estimate < 1) ⊎ (longest m.settings < o.estimate)
Because m o refusal.OpeningOutOfRange = ⊥
Because m o refusal.NoTicketLeft = last_ticket < m.next
Because m o refusal.PastHorizon = horizon m.settings < latest_end m o.estimate
Because m o refusal.NotRunning = ⊥
Because m o refusal.Malformed = ⊥
Because m o refusal.TooShort = ⊥
Because m o refusal.NotWaiting = ⊥
Because m o refusal.CleanupOutOfRange = ⊥
Because m o refusal.QuotasOutOfRange = ⊥
Because m o refusal.UnknownTenant = known o.tenant ≡ false
Because m o refusal.QuotaFull = quota m.settings o.tenant ≤ live_of o.tenant m.jobs
Because m o refusal.LongestOutOfRange = ⊥
Because m o refusal.ArrivalFalls = ⊥
Because m o refusal.NoRunLength = ⊥
Because m o refusal.LeastAboveMost = o.estimate < o.least
Because m o refusal.BeforeLeast = ⊥
Because m o refusal.WantedMinutePast = ⊥
Because m o refusal.TextMalformed = ⊥
Because m o refusal.TextRejected = ⊥

pub submit_because : (m : Model) (o : Submission) → Because m o (submit_refusal m o)
unfolding submit_refusal verdict
submit_because m o =
    case (known o.tenant) (λ k.
    rw k (case (outside 1 m.settings.nodes o.nodes) (λ a. rw a (beyond 1 m.settings.nodes o.nodes a)) (λ a.
    rw a (case (outside 1 (longest m.settings) o.estimate) (λ b. rw b (beyond 1 (longest m.settings) o.estimate b)) (λ b.
    rw b (case (ltb o.estimate o.least) (λ e. rw e (ltb-true o.estimate o.least e)) (λ e.
    rw e (case (leb places mine) (λ c. rw c (leb-true places mine c)) (λ c.
    rw c (case (ltb last_ticket m.next) (λ d. rw d (ltb-true last_ticket m.next d)) (λ d.
    rw d (case (ltb (horizon m.settings) (latest_end m o.estimate)) (λ f. rw f (ltb-true (horizon m.settings) (latest_end m o.estimate) f)) (λ f.
    rw f (
      fit k (inside 1 m.settings.nodes o.nodes a) (inside 1 (longest m.settings) o.estimate b) (ltb-false o.estimate o.least e)
          (leb-false places mine c) (ltb-false last_ticket m.next d),
      ltb-false (horizon m.settings) (latest_end m o.estimate) f,
    )))))))))))))) (λ k. rw k k)
  where
    places : ℕ
    places = quota m.settings o.tenant

    mine : ℕ
    mine = live_of o.tenant m.jobs

    fit : known o.tenant ≡ true → (1 ≤ o.nodes) × (o.nodes ≤ m.settings.nodes) → (1 ≤ o.estimate) × (o.estimate ≤ longest m.settings)
        → o.least ≤ o.estimate → mine < places → m.next ≤ last_ticket → Fit m o
    fit k a b l c d = record {
      nodes_from = a.0;
      nodes_to = a.1;
      estimate_from = b.0;
      estimate_to = b.1;
      least_to = l;
      tenant_is = k;
      share = c;
      ticket_left = d;
    }

    beyond : (low high x : ℕ) → outside low high x ≡ true → (x < low) ⊎ (high < x)
    beyond low high x q = ⊎_elim (λ (z : ltb x low ≡ true). inl (ltb-true x low z)) (λ (z : ltb high x ≡ true). inr (ltb-true high x z))
        (either (ltb x low) (ltb high x) q)

    inside : (low high x : ℕ) → outside low high x ≡ false → (low ≤ x) × (x ≤ high)
    inside low high x q = let r = neither (ltb x low) (ltb high x) q in (ltb-false x low r.0, ltb-false high x r.1)

pub submit_accepts : (m : Model) (o : Submission) → Fit m o → latest_end m o.estimate ≤ horizon m.settings → submit_refusal m o ≡ refusal.None
unfolding submit_refusal verdict
submit_accepts m o f l =
    fit_passes m o ((ltb (horizon m.settings) (latest_end m o.estimate), refusal.PastHorizon) ∷ []) f
    ∙ rw (le-ltb (horizon m.settings) (latest_end m o.estimate) l)

-- 7: "the ended ticket is not running: waiting, over or never given"; 20, document 02, No. 7: "an end before the least, after 7"
pub complete_because : (m : Model) (t : ℕ) → depart_refusal m Complete t ≡ cond
    (any (λ (j : Job). is_running j && eqb j.ticket t) m.jobs)
    (cond (any (λ (j : Job). (is_running j && eqb j.ticket t) && ltb m.clock (j.start + j.least)) m.jobs) refusal.BeforeLeast refusal.None)
    refusal.NotRunning
unfolding depart_refusal verdict
complete_because m t = case (any (departs_as Complete t) m.jobs) (λ e. rw e) (λ e. rw e)

-- Document 02, No. 3: "An end of a clearing stack is refused by 7."
pub cleaning_refused : (m : Model) (j : Job) → Sound m → In j m.jobs → is_cleaning j ≡ true
    → (call m (complete j.ticket)).reply.refusal ≡ refusal.NotRunning
cleaning_refused m j s i c = refusal_is m (complete t) ∙ complete_because m t ∙ case (any p m.jobs) (λ a. absurd (ran a)) (λ a. rw a)
  where
    t : ℕ
    t = j.ticket

    p : Job → Bool
    p = departs_as Complete t

    -- a job that ended would be the one job with this ticket, and would be running
    ran : any p m.jobs ≡ true → ⊥
    ran a =
        let k = elem_job t (keep p m.jobs) (ap (elem t) (departs_alone Complete t 1 m.jobs s.asc a) ∙ rw (eq-eqb t t refl)) in
        let q = keep_in p m.jobs k.1 in
        let z : k.0 ≡ j = asc_one 1 m.jobs k.0 j s.asc q.0 i k.2 in
        let r : is_running j ≡ true = ap is_running (sym z) ∙ (both (is_running k.0) (eqb k.0.ticket t) q.1).0 in
        true_false (is_cleaning j) c (running_clean j.state r)

-- 11, document 02, No. 1: "the withdrawn ticket is not waiting"
pub cancel_because : (m : Model) (t : ℕ)
    → depart_refusal m Cancel t ≡ cond (any (λ (j : Job). is_waiting j && eqb j.ticket t) m.jobs) refusal.None refusal.NotWaiting
cancel_because m t = cancel_judged m t

pub tick_because : (m : Model) → tick_refusal m ≡ cond (leb (suc m.clock) (horizon m.settings)) refusal.None refusal.PastHorizon
unfolding tick_refusal verdict
tick_because m =
    case (leb (suc m.clock) (horizon m.settings))
    (λ e. rw (e, le-ltb (horizon m.settings) (suc m.clock) (leb-true (suc m.clock) (horizon m.settings) e)))
    (λ e. rw (e, lt-ltb (horizon m.settings) (suc m.clock) (leb-false (suc m.clock) (horizon m.settings) e)))

-- ## Forecasts

-- "A stack that is head after a call and was not before gets the shadow then as its forecast", and no other does.
pub record Forecasts (before after : Model) (f : Option Forecast) : Type 0 where
  pub new_head : (h : Job) → head after ≡ some h → ((k : Job) → head before ≡ some k → k.ticket ≡ h.ticket → ⊥)
      → f ≡ some (record { ticket = h.ticket; minute = shadow after h.nodes })
  pub old_head : (h k : Job) → head after ≡ some h → head before ≡ some k → k.ticket ≡ h.ticket → f ≡ none
  pub no_head : head after ≡ none → f ≡ none

-- what `forecast` gives, by the two heads
abbrev heard : Model → Option Job → Option Job → Option Forecast
heard after o p = on_choice p none λ h. cond (head_is o h) none (some (record { ticket = h.ticket; minute = shadow after h.nodes }))

is_new : (o : Option Job) (h : Job) → ((k : Job) → o ≡ some k → k.ticket ≡ h.ticket → ⊥) → head_is o h ≡ false
is_new none h n = refl
is_new (some k) h n = ne_eqb k.ticket h.ticket (n k refl)

forecasts : (before after : Model) → Forecasts before after (forecast before after)
unfolding forecast
forecasts before after = record {
  new_head = λ h q n. ap (heard after (head before)) q ∙ rw (is_new (head before) h n);
  old_head = λ h k q o e. ap₂ (heard after) o q ∙ rw (eq-eqb k.ticket h.ticket e);
  no_head = λ q. ap (heard after (head before)) q;
}

-- who was head is no new head
same_heads : (m : Model) → Forecasts m m none
same_heads m = record { new_head = λ h q n. absurd (n h q refl); old_head = λ h k q o e. refl; no_head = λ q. refl }

abbrev Announces : Model → Result → Type 0
Announces m r = Forecasts m r.model r.reply.head

finished_forecasts : (m mid : Model) (t : ℕ) (ts : List ℕ) → Announces m (finished m mid t ts)
unfolding finished
finished_forecasts m mid t ts =
    let l = (settled mid).model in
    let f = forecast m l in
    subst (Forecasts m (noted f l)) (forecast_noted m f l) (forecasts m (noted f l))

-- Of every call, refused ones too.
pub call_forecasts : (m : Model) (c : Call) → Announces m (call m c)
unfolding call advanced
call_forecasts m (submit o) = judged_by (Announces m) m (submit_refusal m o) (finished m (joined m (new_job m o)) m.next [])
    (λ a. finished_forecasts m _ _ _) (λ a. same_heads m)
call_forecasts m (depart h t) = judged_by (Announces m) m (depart_refusal m h t) (advanced m m.clock (select.Departing h t))
    (λ a. finished_forecasts m _ _ _) (λ a. same_heads m)
call_forecasts m tick = judged_by (Announces m) m (tick_refusal m) (advanced m (suc m.clock) (ending m))
    (λ a. finished_forecasts m _ _ _) (λ a. same_heads m)
call_forecasts m (amend a) = judged_by (Announces m) m (in_place_refusal m a) (finished m (in_place_of m a) a.ticket [])
    (λ x. finished_forecasts m _ _ _) (λ x. same_heads m)
call_forecasts m (unchanged r) = same_heads m

-- ## Ends

advanced_ended : (m : Model) (c : ℕ) (s : Select) → (advanced m c s).reply.ended ≡ ended_of s m.jobs
unfolding advanced finished
advanced_ended m c s = refl

-- A tick ends the jobs whose end, "s + held", is the minute that it comes to, and no others. A job whose nodes are released then does not end.
pub tick_ends : (m : Model) → accepts (call m tick).reply.refusal ≡ true
    → (call m tick).reply.ended ≡ tickets_of (keep (λ (j : Job). is_running j && eqb (j.start + wall_time j.estimate) (suc m.clock)) m.jobs)
unfolding call run_time end_of
tick_ends m a =
    ap (λ (o : Result). o.reply.ended) (judged_accepted m (tick_refusal m) (advanced m (suc m.clock) (ending m)) a).1
    ∙ advanced_ended m (suc m.clock) (ending m)

-- An accepted early end ends that ticket alone, an accepted withdrawal none.
pub complete_ends : (m : Model) (t : ℕ) → Sound m → accepts (call m (complete t)).reply.refusal ≡ true → (call m (complete t)).reply.ended ≡ t ∷ []
unfolding call depart_refusal verdict
complete_ends m t s a =
    let j = judged_accepted m (depart_refusal m Complete t) (advanced m m.clock (select.Departing Complete t)) a in
    ap (λ (o : Result). o.reply.ended) j.1
    ∙ advanced_ended m m.clock (select.Departing Complete t)
    ∙ departs_alone Complete t 1 m.jobs s.asc
    (case (any (departs_as Complete t) m.jobs) (λ e. e) (λ e. true_false false (rw e at j.0) refl))

pub cancel_ends : (m : Model) (t : ℕ) → (call m (cancel t)).reply.ended ≡ []
unfolding call
cancel_ends m t =
    judged_by (λ (o : Result). o.reply.ended ≡ []) m (depart_refusal m Cancel t) (advanced m m.clock (select.Departing Cancel t))
    (λ a. advanced_ended m m.clock (select.Departing Cancel t) ∙ ap tickets_of (keep_none (λ (j : Job). false) m.jobs (λ j i. refl))) (λ a. refl)

-- ## Starts

-- after a settling no job that it started waits
settles_runs : (t : ℕ) {m m' : Model} {ts : List ℕ} → Settles m m' ts → elem t ts ≡ true → Waits m' t → ⊥
settles_runs t {m} {m'} {ts} s e w =
    let r = map_in (marks m.clock ts) m.jobs (subst (λ (l : List Job). In w.job l) (settles_jobs s) w.isin) in
    by r.0 r.2
  where
    by : (a : Job) → w.job ≡ marks m.clock ts a → ⊥
    by a q =
        case (elem a.ticket ts)
        (λ x. true_false (is_waiting w.job) w.waits (ap is_waiting q ∙ rw x))
        (λ x. let y : w.job ≡ a = q ∙ rw x in
        true_false (elem t ts) e (ap (λ (n : ℕ). elem n ts) (sym w.named ∙ ap ticket_of y) ∙ x))

abbrev pub Distinct : List ℕ → Type 0
Distinct [] = Unit {0}
Distinct (t ∷ ts) = (elem t ts ≡ false) × Distinct ts

settles_distinct : {m m' : Model} {ts : List ℕ} → Settles m m' ts → Distinct ts
settles_distinct (rest e) = tt
settles_distinct (start {m = m} {ts = ts} j e s) =
    (case (elem j.ticket ts) (λ x. absurd (runs (settles_waited j.ticket s x))) (λ x. x), settles_distinct s)
  where
    runs : Waits (begin j.ticket m) j.ticket → ⊥
    runs w =
        each_begin (λ (k : Job). is_waiting k ≡ true → k.ticket ≡ j.ticket → ⊥) j.ticket m
        (λ k i n x y. n y)
        (λ k i n x y. true_false false x refl)
        w.job w.isin w.waits w.named

-- A job starts only while it waits. A ticket started was waiting before the call, or the call took it in. It does not wait afterwards, so that no
-- later call starts it again. No call starts a ticket twice.
pub record Starts (m : Model) (c : Call) (o : Result) : Type 0 where
  pub waited : (t : ℕ) → elem t o.reply.started ≡ true → Waits m t ⊎ (t ≡ o.reply.ticket)
  pub runs : (t : ℕ) → elem t o.reply.started ≡ true → Waits o.model t → ⊥
  pub once : Distinct o.reply.started

pub call_starts : (m : Model) (c : Call) → Valid m → Starts m c (call m c)
call_starts m c v =
    ⊎_elim
    (λ (t : CallAccepted m c (call m c)). record {
      waited = λ u e. came u t (moved_waited t.moved u (settles_waited u t.trace e));
      runs = λ u e w.
          settles_runs u t.trace e
          (waited_noted (forecast m t.last) t.last u (subst (λ (x : Model). Waits x u) t.model_is w));
      once = settles_distinct t.trace;
    })
    (λ (q : Unchanged m c (call m c)). subst (λ (o : Result). Starts m c o) (sym q.same)
    (record { waited = λ u e. true_false false e refl; runs = λ u e w. true_false false e refl; once = tt }))
    (called m c v)
  where
    came : (u : ℕ) (t : CallAccepted m c (call m c)) → Waits m u ⊎ Joins t.moved u → Waits m u ⊎ (u ≡ (call m c).reply.ticket)
    came u t (inl w) = inl w
    came u t (inr (o, i, e)) = inr (sym e ∙ joins_ticket t.moved o i)

-- ## Tickets

moved_next : {m : Model} {c : Call} {mid : Model} {t : ℕ} {ts : List ℕ} (x : OwnPart m c mid t ts) → mid.next ≡ next_after (joiner x) m.next
moved_next (submits o f room) = refl
moved_next (departs h t a) = refl
moved_next (amends a p) = refl
moved_next (ticks l) = refl

pub call_next : (m : Model) (c : Call) → Valid m → (call m c).model.next ≡ next_after (news_of c (call m c).reply).came m.next
call_next m c v =
    ⊎_elim
    (λ (t : CallAccepted m c (call m c)). taken_next m c (call m c) t ∙ moved_next t.moved
    ∙ ap (λ (os : List Newcomer). next_after os m.next) (sym (taken_came m c (call m c) t)))
    (λ (q : Unchanged m c (call m c)). ap (λ (o : Result). o.model.next) q.same
    ∙ ap (λ (e : News). next_after e.came m.next) (sym (quiet_news m c (call m c) q)))
    (called m c v)

-- an accepted submission answers the next ticket
pub submit_ticket : (m : Model) (o : Submission) → accepts (call m (submit o)).reply.refusal ≡ true → (call m (submit o)).reply.ticket ≡ m.next
unfolding call finished
submit_ticket m o a = ap (λ (r : Result). r.reply.ticket)
    (judged_accepted m (submit_refusal m o) (finished m (joined m (new_job m o)) m.next []) a).1
