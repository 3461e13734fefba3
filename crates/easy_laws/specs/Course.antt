-- The one invariant of a waiting job, and what keeps it: the head's shadow plus a unit for each job that waits before this one is at most b. b is
-- any number: document 01's bound, a forecast, or the last start that leaves room before the last minute.
-- Assumes nothing.
use Prim.Native.Nat.{ℕ, suc, ◌+◌, ◌-◌, ◌*◌, ◌≤◌, ◌<◌}
use Rattle.std.proofs.Common.{arith, mul-le-mul_right, sym, subst, ◌∙◌, append-nil}
use Rattle.std.specs.Prelude.{◌≡◌, refl, Bool, true, false, not, ◌&&◌, ◌||◌, List, [], ◌∷◌, ◌++◌, ltb, eqb, length}
use Rattle.std.proofs.Math.Path.{ap}
use Rattle.std.proofs.Math.Option.{none}
use Rattle.std.proofs.Math.Logic.{⊎_elim}
use Rattle.std.proofs.Math.Dec.{leb}
use borrow.Author.Tests.{leb-true, leb-false, le-leb, lt-ltb, le-ltb, eqb-true, eq-eqb, ne_eqb}
use Rattle.lists.specs.Tests.{case, true_false, on, on_le, both, either}
use Rattle.lists.specs.Lists.{keep, elem, sum, In, here, in_nil, in_cons, in_map, in_left, in_right, keep_in, in_keep, first_in}
use Rattle.lists.specs.Lists.{keep_append, keep_cong, keep_all, sum_append, sum_map, sum_cong, sum_keep, sum_le, sum_zero, sum_in, length_keep}
use Rattle.lists.specs.Least.{least}
use Rattle.scheduler.specs.declared.Submission.{Submission}
use Rattle.scheduler.specs.declared.State.TheVariants.{Running}
use Rattle.scheduler.specs.declared.Job.{Job}
use Rattle.scheduler.specs.declared.Departure.TheVariants.{Complete, Cancel}
use Rattle.scheduler.specs.declared.Select.{Select}
use Rattle.scheduler.specs.declared.Select.TheVariants as select
use Rattle.scheduler.specs.Jobs.{is_waiting, is_holding, held, cleaning}
use Rattle.scheduler.specs.declared.Settings.{Settings}
use Rattle.scheduler.specs.Settings.{hold_time, unit, until}
use Rattle.scheduler.specs.Times.{until_at, until_end, until_cleaned}
use Rattle.scheduler.specs.Table.{ticket_of, nodes_held, ends, withdraws, leaves, staying, ceased, remaining}
use Rattle.scheduler.specs.Model.{Model, joined, without}
use Rattle.jobs.specs.Order.{Asc, asc_in, asc_keep}
use Rattle.jobs.specs.Soundness.{Sound, running_holds, running_clean, Leaving, early, in_time_lem, leaving_clock, ends_runs, ends_by, ceased_held}
use Rattle.easy_rules.specs.Easy.{queue, free, freed, avail, shadow, extra, qualifies, pick, choice, begun, mark, begin, new_job, rank}
use Rattle.easy_laws.specs.Settling.{shadow_from, shadow_to, shadow_min, shadow_holds, avail_now, none_starts, How, as_head, passing}
use Rattle.easy_laws.specs.Settling.{Chosen, chosen, each_begin, Settles, rest, start, idle, mark_same, sum_mark, queue_mark}
use Rattle.easy_laws.specs.Remaining.{waiting_remains, queue_remaining}

-- the job with ticket u waits
pub record Waits (m : Model) (u : ℕ) : Type 0 where
  pub job : Job
  pub isin : In job m.jobs
  pub waits : is_waiting job ≡ true
  pub named : job.ticket ≡ u

-- the number of jobs that wait before u
abbrev pub before : ℕ → Job → ℕ
before u j = on (is_waiting j && ltb j.ticket u) 1

abbrev pub ahead : ℕ → List Job → ℕ
ahead u js = sum (before u) js

-- the job u waits, and will start by b
pub record OnCourse (m : Model) (u b : ℕ) : Type 0 where
  pub waits : Waits m u
  pub by : (h : Job) (later : List Job) → queue m.jobs ≡ h ∷ later → shadow m h.nodes + ahead u m.jobs * unit m.settings ≤ b

-- a job that waits after a start waited before it
waits_mark : (t : ℕ) (m : Model) (u : ℕ) → Waits (begin t m) u → Waits m u
waits_mark t m u w =
    each_begin (λ (k : Job). is_waiting k ≡ true → k.ticket ≡ u → Waits m u) t m
    (λ k i n x e. record { job = k; isin = i; waits = x; named = e })
    (λ k i e x. true_false false x refl)
    w.job w.isin w.waits w.named

-- a job that a settling starts waited before it
pub settles_waited : (u : ℕ) {m m' : Model} {ts : List ℕ} → Settles m m' ts → elem u ts ≡ true → Waits m u
settles_waited u (rest e) q = true_false false q refl
settles_waited u (start {m = m} j e s) q =
    let c = chosen m j e in
    case (eqb u j.ticket)
    (λ z. record { job = j; isin = c.isin; waits = c.waits; named = sym (eqb-true u j.ticket z) })
    (λ z. waits_mark j.ticket m u (settles_waited u s (rw z at q)))

-- ## The head

pub record Head (m : Model) : Type 0 where
  pub job : Job
  pub later : List Job
  pub first : queue m.jobs ≡ job ∷ later

-- where a job waits there is a head
pub head_of : (m : Model) (u : ℕ) → Waits m u → Head m
head_of m u w = by (queue m.jobs) refl (in_keep is_waiting w.isin w.waits)
  where
    by : (q : List Job) → queue m.jobs ≡ q → In w.job q → Head m
    by [] e i = in_nil i
    by (h ∷ later) e i = record { job = h; later = later; first = e }

module _ (m : Model) (h : Job) (later : List Job) (e : queue m.jobs ≡ h ∷ later) where
  pub head_in : In h m.jobs × (is_waiting h ≡ true)
  head_in = keep_in is_waiting m.jobs (subst (λ (q : List Job). In h q) (sym e) (here refl))

  -- it has the lowest ticket of those that wait
  pub head_lowest : Asc 1 m.jobs → (j : Job) → In j later → h.ticket < j.ticket
  head_lowest a j i = asc_in (suc h.ticket) later (subst (λ (q : List Job). Asc 1 q) e (asc_keep is_waiting 1 m.jobs a)).1 i

  pub head_before_lem : (u : ℕ) → Asc 1 m.jobs → Waits m u → (h.ticket ≡ u → ⊥) → h.ticket < u
  head_before_lem u a w n =
      ⊎_elim (λ (z : w.job ≡ h). absurd (n (ap ticket_of (sym z) ∙ w.named)))
      (λ (k : In w.job later). omega (arith, head_lowest a w.job k, w.named))
      (in_cons (subst (λ (q : List Job). In w.job q) e (in_keep is_waiting w.isin w.waits)))

  pub none_ahead : Asc 1 m.jobs → ahead h.ticket m.jobs ≡ 0
  none_ahead a = sum_zero (before h.ticket) m.jobs one
    where
      one : (j : Job) → In j m.jobs → before h.ticket j ≡ 0
      one j i =
          case (is_waiting j)
          (λ w. rw (
            w,
            le-ltb j.ticket h.ticket
                (⊎_elim (λ (z : j ≡ h). omega (arith, ap ticket_of z)) (λ (k : In j later). omega (arith, head_lowest a j k))
                (in_cons (subst (λ (q : List Job). In j q) e (in_keep is_waiting i w)))),
          ))
          (λ w. rw w)

  -- the head is on course for its shadow
  pub head_course : Sound m → OnCourse m h.ticket (shadow m h.nodes)
  head_course s = record {
    waits = record { job = h; isin = head_in.0; waits = head_in.1; named = refl };
    by = λ k q e'.
        let p : h ∷ later ≡ k ∷ q = sym e ∙ e' in
        let z : h ≡ k = cc in
        omega (arith, ap (λ (x : Job). shadow m x.nodes) z, ap (λ (x : ℕ). x * unit m.settings) (none_ahead s.asc));
  }

  -- At rest the head's nodes are not free, and the clock stands before the shadow.
  pub head_lacks : choice m ≡ none → free m < h.nodes
  head_lacks r = (none_starts m h later (ap (pick m) (sym e) ∙ r)).0

  pub rest_shadow : Sound m → choice m ≡ none → m.clock < shadow m h.nodes
  rest_shadow s r =
      case (leb (shadow m h.nodes) m.clock)
      (λ l. absurd
      (omega (
        arith,
        shadow_holds m h.nodes s (s.each h head_in.0).nodes_to,
        avail_now m (shadow m h.nodes) s (leb-true (shadow m h.nodes) m.clock l),
        head_lacks r,
      )))
      (λ l. leb-false (shadow m h.nodes) m.clock l)

-- A job on course has time: b is not past, and at rest it is yet to come.
module _ (m : Model) (u b : ℕ) (o : OnCourse m u b) where
  pub course_clock : m.clock ≤ b
  course_clock =
      let h = head_of m u o.waits in
      omega (arith, o.by h.job h.later h.first, shadow_from m h.job.nodes)

  pub course_rest : Sound m → choice m ≡ none → m.clock < b
  course_rest s r =
      let h = head_of m u o.waits in
      omega (arith, o.by h.job h.later h.first, rest_shadow m h.job h.later h.first s r)

-- ## A start keeps it

module _ (m : Model) (j : Job) (s : Sound m) (c : Chosen m j) where
  pub avail_begin : (t : ℕ) → avail (begin j.ticket m) t ≡ free m - j.nodes +
      (sum (freed m.settings t) m.jobs + on (leb (m.clock + hold_time m.settings j.estimate) t) j.nodes)
  avail_begin t =
      let a = sum_mark held m.clock 1 m.jobs s.asc c.isin in
      let b = sum_mark (freed m.settings t) m.clock 1 m.jobs s.asc c.isin in
      let z : held j ≡ 0 = rw (idle j c.waits) in
      let y : freed m.settings t j ≡ 0 = rw (idle j c.waits) in
      let u : freed m.settings t (begun m.clock j) ≡ on (leb (m.clock + hold_time m.settings j.estimate) t) j.nodes =
      rw (until_at m.settings Running m.clock j refl) in
      omega arith

  -- by either rule, a job passed forward leaves the head its nodes at the shadow
  pub passing_holds : (h : Job) → h.nodes ≤ m.settings.nodes → qualifies m h j ≡ true → h.nodes ≤ avail (begin j.ticket m) (shadow m h.nodes)
  unfolding qualifies extra
  passing_holds h l q =
      let t = shadow m h.nodes in
      let one = leb (m.clock + hold_time m.settings j.estimate) t in
      let two = leb j.nodes (extra m h.nodes) in
      ⊎_elim
      (λ (i : one ≡ true). rw (avail_begin t, i) (omega (arith, shadow_holds m h.nodes s l, c.fits)))
      (λ (i : two ≡ true). rw (avail_begin t) (omega (arith, shadow_holds m h.nodes s l, c.fits, leb-true j.nodes (extra m h.nodes) i)))
      (either one two (both (leb j.nodes (free m)) (one || two) q).1)

  module _ (u b : ℕ) (n : j.ticket ≡ u → ⊥) (o : OnCourse m u b) where
    waits_begin : Waits (begin j.ticket m) u
    waits_begin =
        let w = o.waits in
        record {
          job = w.job;
          isin = subst (λ (k : Job). In k (begin j.ticket m).jobs) (mark_same m.clock j.ticket w.job (λ e. n (sym e ∙ w.named)))
              (in_map (mark m.clock j.ticket) w.isin);
          waits = w.waits;
          named = w.named;
        }

    -- the head starts: the next one's shadow is at most a unit from now, and one job fewer waits before u
    by_head : (later : List Job) → queue m.jobs ≡ j ∷ later → (k : Job)
        → shadow (begin j.ticket m) k.nodes + ahead u (begin j.ticket m).jobs * unit m.settings ≤ b
    by_head later e k =
        let l = head_before_lem m j later e u s.asc o.waits n in
        let a = sum_mark (before u) m.clock 1 m.jobs s.asc c.isin in
        let z : before u j ≡ 1 = rw (c.waits, lt-ltb j.ticket u l) in
        let f : ahead u m.jobs ≡ suc (ahead u (begin j.ticket m).jobs) = omega arith in
        omega (arith, ap (λ (x : ℕ). x * unit m.settings) f, o.by j later e, shadow_from m j.nodes, shadow_to (begin j.ticket m) k.nodes)

    -- a later job passes: the head stays head, and its shadow comes no later
    by_passing : (h : Job) (later : List Job) → queue m.jobs ≡ h ∷ later → In j later → qualifies m h j ≡ true
        → (k : Job) (q : List Job) → queue (begin j.ticket m).jobs ≡ k ∷ q
        → shadow (begin j.ticket m) k.nodes + ahead u (begin j.ticket m).jobs * unit m.settings ≤ b
    by_passing h later e i f k q e' =
        let d : eqb h.ticket j.ticket ≡ false = ne_eqb h.ticket j.ticket (λ z. omega (arith, head_lowest m h later e s.asc j i)) in
        let p : h ∷ keep (λ (x : Job). not (eqb x.ticket j.ticket)) later ≡ k ∷ q =
        sym (rw (e, d) at (queue_mark m.clock j.ticket m.jobs)) ∙ e' in
        let z : h ≡ k = cc in
        let a = sum_mark (before u) m.clock 1 m.jobs s.asc c.isin in
        let r = shadow_min (begin j.ticket m) h.nodes (shadow m h.nodes) (passing_holds h (s.each h (head_in m h later e).0).nodes_to f)
        (shadow_from m h.nodes) in
        rw (← z) (omega (
          arith,
          mul-le-mul_right {m = ahead u (begin j.ticket m).jobs} {n = ahead u m.jobs} (unit m.settings) (omega arith),
          o.by h later e,
        ))

    pub begin_keeps : OnCourse (begin j.ticket m) u b
    begin_keeps = record { waits = waits_begin; by = go (queue m.jobs) refl c.way }
      where
        go : (q : List Job) → queue m.jobs ≡ q → How m j q → (k : Job) (r : List Job) → queue (begin j.ticket m).jobs ≡ k ∷ r
            → shadow (begin j.ticket m) k.nodes + ahead u (begin j.ticket m).jobs * unit m.settings ≤ b
        go q e (as_head later l) k r e' = by_head later e k
        go q e (passing h later l f) k r e' = let i = first_in (qualifies m h) later f in by_passing h later e i.0 i.1 k r e'

-- ## What a call does before it settles keeps it

-- no minute has fewer nodes, and nobody comes before those that wait
pub record Eases (m m' : Model) : Type 0 where
  pub settings : m'.settings ≡ m.settings
  pub soon : m'.clock ≤ suc m.clock
  pub last : List Job
  pub queued : queue m'.jobs ≡ queue m.jobs ++ last
  pub nodes : (t : ℕ) → avail m t ≤ avail m' t
  pub fewer : (u : ℕ) → u < m.next → ahead u m'.jobs ≤ ahead u m.jobs
  pub stay : (j : Job) → In j m.jobs → is_waiting j ≡ true → In j m'.jobs

pub eased : (m m' : Model) (u b : ℕ) → Sound m → choice m ≡ none → Eases m m' → OnCourse m u b → OnCourse m' u b
eased m m' u b s r x o =
    let w = o.waits in
    record {
      waits = record { job = w.job; isin = x.stay w.job w.isin w.waits; waits = w.waits; named = w.named };
      by = λ k q e'.
          let h = head_of m u w in
          let p : h.job ∷ (h.later ++ x.last) ≡ k ∷ q = sym (rw h.first at x.queued) ∙ e' in
          let z : h.job ≡ k = cc in
          let n = h.job.nodes in
          let t = shadow_min m' n (shadow m n)
          (omega (arith, x.nodes (shadow m n), shadow_holds m n s (s.each h.job (head_in m h.job h.later h.first).0).nodes_to))
          (omega (arith, x.soon, rest_shadow m h.job h.later h.first s r)) in
          let f = x.fewer u (omega (arith, s.below w.job w.isin, w.named)) in
          rw (← z) (omega (
            arith,
            ap (λ (S : Settings). ahead u m'.jobs * unit S) x.settings,
            mul-le-mul_right {m = ahead u m'.jobs} {n = ahead u m.jobs} (unit m.settings) f,
            o.by h.job h.later h.first,
          ));
    }

-- runs end and nodes are released, and nobody is withdrawn
module _ (m : Model) (c : ℕ) (p : Select) (s : Sound m) (l : Leaving m c p) (none_withdrawn : (j : Job) → withdraws p j ≡ false) where
  abbrev S : Settings
  S = m.settings

  abbrev stayers : List Job
  stayers = staying S p m.jobs

  pub queue_leave : queue (remaining S c p m.jobs) ≡ queue m.jobs
  queue_leave =
      queue_remaining S c p m.jobs ∙ keep_all (λ (j : Job). not (withdraws p j)) (queue m.jobs) (λ j i. rw (none_withdrawn j))

  -- whose run ends gives its nodes back no later
  freed_ceased : (t : ℕ) (j : Job) → In j m.jobs → freed S t j ≤ freed S t (ceased c p j)
  freed_ceased t j i = case (ends p j) (λ e. rw (e, running_holds j.state (ends_runs p j e)) (ending e)) (λ e. rw e (omega arith))
    where
      ending : ends p j ≡ true → on (leb (until S j) t) j.nodes ≤ on (leb (until S (cleaning c j)) t) j.nodes
      ending e =
          case (leb (until S j) t)
          (λ q. rw (
            q,
            le-leb (until S (cleaning c j)) t
                (omega (
                  arith,
                  until_cleaned S c j,
                  ends_by m c p l j (s.each j i) e,
                  until_end S j (running_clean j.state (ends_runs p j e)),
                  leb-true (until S j) t q,
                )),
          ) (omega arith))
          (λ q. rw q (omega arith))

  avail_leave : (t : ℕ) → avail m t ≤ avail (without m c p) t
  avail_leave t =
      let a = sum_keep held (leaves S p) m.jobs in
      let b = sum_keep (freed S t) (leaves S p) m.jobs in
      let d = sum_le (λ (j : Job). on (leaves S p j) (freed S t j)) (λ (j : Job). on (leaves S p j) (held j)) m.jobs (λ j i. less j) in
      let h : nodes_held (remaining S c p m.jobs) ≡ nodes_held stayers =
      sum_map held (ceased c p) stayers ∙ sum_cong (λ (j : Job). held (ceased c p j)) held stayers (λ j i. ceased_held c p j) in
      let f = sum_le (freed S t) (λ (j : Job). freed S t (ceased c p j)) stayers
      (λ j i. freed_ceased t j (keep_in (λ (j : Job). not (leaves S p j)) m.jobs i).0) in
      omega (arith, s.capacity, sum_map (freed S t) (ceased c p) stayers)
    where
      less : (j : Job) → on (leaves S p j) (freed S t j) ≤ on (leaves S p j) (held j)
      less j =
          case (leaves S p j)
          (λ e. rw e (case (is_holding j) (λ r. rw r (on_le (leb (until S j) t) j.nodes)) (λ r. rw r (omega arith))))
          (λ e. rw e (omega arith))

  fewer_leave : (u : ℕ) → ahead u (remaining S c p m.jobs) ≤ ahead u m.jobs
  fewer_leave u =
      omega (
        arith,
        sum_map (before u) (ceased c p) stayers,
        sum_le (λ (j : Job). before u (ceased c p j)) (before u) stayers (λ j i. case (ends p j) (λ e. rw e (omega arith)) (λ e. rw e (omega arith))),
        sum_keep (before u) (leaves S p) m.jobs,
      )

  pub leave_eases : Eases m (without m c p)
  leave_eases = record {
    settings = refl;
    soon = (leaving_clock m c p l).1;
    last = [];
    queued = queue_leave ∙ sym (append-nil (queue m.jobs));
    nodes = avail_leave;
    fewer = λ u k. fewer_leave u;
    stay = λ j i w. waiting_remains S c p m.jobs i w (none_withdrawn j);
  }

-- a waiting job is withdrawn: the head's shadow stays, or another is head and one job fewer waits before u
module _ (m : Model) (t : ℕ) (s : Sound m) where
  abbrev withdrawal : Select
  withdrawal = select.Departing Cancel t

  abbrev gone : Job → Bool
  gone = leaves m.settings withdrawal

  abbrev pub left : Model
  left = without m m.clock withdrawal

  abbrev rest_of : List Job
  rest_of = staying m.settings withdrawal m.jobs

  pub queue_left : queue left.jobs ≡ keep (λ (j : Job). not (eqb j.ticket t)) (queue m.jobs)
  queue_left =
      queue_remaining m.settings m.clock withdrawal m.jobs
      ∙ keep_cong (λ (j : Job). not (withdraws withdrawal j)) (λ (j : Job). not (eqb j.ticket t)) (queue m.jobs)
      (λ j i. rw (keep_in is_waiting m.jobs i).1)

  -- no run ends, so that each is as it was
  sum_left : (f : Job → ℕ) → sum f left.jobs + sum (λ (j : Job). on (gone j) (f j)) m.jobs ≡ sum f m.jobs
  sum_left f = omega (arith, sum_map f (ceased m.clock withdrawal) rest_of, sum_keep f gone m.jobs)

  -- one that waits holds no nodes, and frees none
  none_of : (f : Job → ℕ) → ((j : Job) → is_holding j ≡ false → f j ≡ 0) → sum f left.jobs ≡ sum f m.jobs
  none_of f n =
      let b = sum_zero (λ (j : Job). on (gone j) (f j)) m.jobs (λ j i. zero_of j) in
      omega (arith, sum_left f)
    where
      zero_of : (j : Job) → on (gone j) (f j) ≡ 0
      zero_of j = case (is_waiting j) (λ w. rw (w, n j (idle j w)) (case (eqb j.ticket t) (λ e. rw e) (λ e. rw e))) (λ w. rw w)

  pub free_left : free left ≡ free m
  free_left = ap (λ (n : ℕ). m.settings.nodes - n) (none_of held (λ j h. rw h))

  pub avail_left : (r : ℕ) → avail left r ≡ avail m r
  avail_left r = omega (arith, free_left, none_of (freed m.settings r) (λ j h. rw h))

  -- no shadow moves
  pub shadow_left : (n : ℕ) → shadow left n ≡ shadow m n
  unfolding shadow
  shadow_left n = ap (λ (p : ℕ → Bool). least p (unit m.settings) m.clock) (λ i r. leb n (avail_left r i))

  pub withdraw_keeps : (u b : ℕ) → (u ≡ t → ⊥) → OnCourse m u b → OnCourse left u b
  withdraw_keeps u b n o =
      let w = o.waits in
      record {
        waits = record {
          job = w.job;
          isin =
              waiting_remains m.settings m.clock withdrawal m.jobs w.isin w.waits
              (rw w.waits (ne_eqb w.job.ticket t (λ e. n (sym w.named ∙ e))));
          waits = w.waits;
          named = w.named;
        };
        by = λ h q e. let k = head_of m u w in by_head k.job k.later k.first h q e;
      }
    where
      by_head : (k : Job) (later : List Job) → queue m.jobs ≡ k ∷ later → (h : Job) (q : List Job) → queue left.jobs ≡ h ∷ q
          → shadow left h.nodes + ahead u left.jobs * unit m.settings ≤ b
      by_head k later f h q e =
          case (eqb k.ticket t)
          (λ x. let y : k.ticket ≡ t = eqb-true k.ticket t x in
          let l : k.ticket < u = head_before_lem m k later f u s.asc o.waits (λ z. n (sym z ∙ y)) in
          let i = head_in m k later f in
          let z : on (gone k) (before u k) ≡ 1 = rw (i.1, x, lt-ltb k.ticket u l) in
          let c : suc (ahead u left.jobs) ≤ ahead u m.jobs = omega (arith, sum_left (before u), sum_in (λ (j : Job). on (gone j) (before u j)) i.0) in
          omega (
            arith,
            mul-le-mul_right {m = suc (ahead u left.jobs)} {n = ahead u m.jobs} (unit m.settings) c,
            o.by k later f,
            shadow_from m k.nodes,
            shadow_to left h.nodes,
          ))
          (λ x. let p : k ∷ keep (λ (j : Job). not (eqb j.ticket t)) later ≡ h ∷ q = sym (rw (f, x) at queue_left) ∙ e in
          let z : k ≡ h = cc in
          rw (← z) (omega (
            arith,
            shadow_left k.nodes,
            mul-le-mul_right {m = ahead u left.jobs} {n = ahead u m.jobs} (unit m.settings) (omega (arith, sum_left (before u))),
            o.by k later f,
          )))

-- runs end and jobs leave: a waiting job that is not withdrawn is still on course
pub leave_keeps : (m : Model) (c : ℕ) (p : Select) → Sound m → choice m ≡ none → Leaving m c p → (u b : ℕ)
    → ((j : Job) → In j m.jobs → is_waiting j ≡ true → j.ticket ≡ u → withdraws p j ≡ false) → OnCourse m u b → OnCourse (without m c p) u b
leave_keeps m c p s r (early Complete t) u b n o = eased m _ u b s r (leave_eases m _ _ s (early Complete t) (λ j. refl)) o
leave_keeps m c p s r (early Cancel t) u b n o =
    withdraw_keeps m t s u b
    (λ e. let w = o.waits in
    true_false (eqb w.job.ticket t) (eq-eqb w.job.ticket t (w.named ∙ e)) (rw w.waits at (n w.job w.isin w.waits w.named)))
    o
leave_keeps m c p s r (in_time_lem l) u b n o = eased m _ u b s r (leave_eases m _ _ s (in_time_lem l) (λ j. refl)) o

-- a job joins at the end of the queue
module _ (m : Model) (o : Submission) where
  pub join_eases : Eases m (joined m (new_job m o))
  join_eases = record {
    settings = refl;
    soon = omega arith;
    last = new_job m o ∷ [];
    queued = keep_append is_waiting m.jobs (new_job m o ∷ []);
    nodes = λ t. omega (arith, sum_append held m.jobs (new_job m o ∷ []), sum_append (freed m.settings t) m.jobs (new_job m o ∷ []));
    fewer = λ u l. let z : before u (new_job m o) ≡ 0 = rw (le-ltb m.next u (omega arith)) in
        omega (arith, sum_append (before u) m.jobs (new_job m o ∷ []));
    stay = λ j i w. in_left (new_job m o ∷ []) i;
  }

  -- and is on course for its bound: "the clock at intake + r × 10,080", by document 02, No. 3, "r × (10,080 + clearing)"
  pub join_course : OnCourse (joined m (new_job m o)) m.next (m.clock + rank m * unit m.settings)
  join_course = record {
    waits = record { job = new_job m o; isin = in_right m.jobs (here refl); waits = refl; named = refl };
    by = λ h q x.
        let z : before m.next (new_job m o) ≡ 0 = rw (le-ltb m.next m.next (omega arith)) in
        let a = sum_append (before m.next) m.jobs (new_job m o ∷ []) in
        let d = sum_le (before m.next) (λ (j : Job). on (is_waiting j) 1) m.jobs (λ j i. less j) in
        let f : ahead m.next (joined m (new_job m o)).jobs ≤ length (queue m.jobs) = omega (arith, length_keep is_waiting m.jobs) in
        omega (
          arith,
          mul-le-mul_right {m = ahead m.next (joined m (new_job m o)).jobs} {n = length (queue m.jobs)}
              (unit m.settings) f,
          shadow_to (joined m (new_job m o)) h.nodes,
        );
  }
    where
      less : (j : Job) → before m.next j ≤ on (is_waiting j) 1
      less j = case (is_waiting j) (λ w. rw w (on_le (ltb j.ticket m.next) 1)) (λ w. rw w (omega arith))
