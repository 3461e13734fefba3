-- Document 02, No. 10: "after any call no waiting stack of the Promise Desk could begin earlier with all others held". An early end and a
-- withdrawal bring this about from any valid model, and every other call keeps it. The theorem over lists of calls is in `guarantees`.
-- Assumes nothing.
use Rattle.std.specs.Prelude.{ℕ, suc, ◌+◌, ◌-◌, ◌≤◌, ◌<◌, ◌≡◌, refl, true, not, cond, ◌⊎◌, leb, eqb, get_or}
use Rattle.std.proofs.Common.{arith, sym, ap, subst, ◌∙◌, inl, inr, ⊎_elim, leb-true, leb-false, eq-eqb, ne_eqb}
use mathlib.Core.List.{List, [], ◌∷◌, ◌++◌, map, head-eq_of_cons-eq, tail-eq_of_cons-eq}
use Rattle.lists.specs.Tests.{case, true_false, le_or}
use Rattle.lists.specs.Lists.{keep, In, here, there, in_nil, in_cons, in_right, in_append, map_in, keep_all}
use Rattle.spans.specs.Spans.{takes, used, free, last_end, fits, earliest, Fits, Earliest}
use Rattle.spans.proofs.UsedNodes.{takes_in}
use Rattle.spans.proofs.EarliestStart.{earliest_is}
use Rattle.scheduler.specs.declared.Job.{Job}
use Rattle.scheduler.specs.declared.Submission.{Submission}
use Rattle.scheduler.specs.declared.Departure.{Departure}
use Rattle.scheduler.specs.declared.Opening.{Opening}
use Rattle.scheduler.specs.declared.Select.TheVariants as select
use Rattle.scheduler.specs.Jobs.{unused, is_waiting}
use Rattle.scheduler.specs.declared.Settings.{Settings}
use Rattle.scheduler.specs.Settings.{cleanup, run_time, hold_time, end_of, until}
use Rattle.scheduler.specs.Times.{until_is}
use Rattle.scheduler.specs.Table.{remaining}
use Rattle.scheduler.specs.Model.{Model, ending}
use Rattle.scheduler.specs.Answers.{Result, accepts}
use Rattle.scheduler.specs.Refusals.{depart_refusal, tick_refusal}
use Rattle.scheduler.specs.Opening.{opening_refusal, opening}
use Rattle.scheduler.specs.declared.Amendment.{Amendment}
use Rattle.scheduler.specs.Amending.{in_place_refusal, supersede, in_place_of}
use Rattle.jobs.specs.Order.{Asc, asc_in}
use Rattle.jobs.specs.Judgement.{judged_by, judged_accepted}
use Rattle.jobs.specs.Soundness.{waiting_clean, remained_waits}
use Rattle.jobs.specs.Amended.{InPlace, inplace_fit}
use Rattle.history.specs.Calls.{Call, submit, depart, tick, amend, unchanged}
use Rattle.conservative_laws.specs.Amended.{valid_compressible, inplace_valid}
use Rattle.conservative_laws.specs.Validity.{Valid, used_append}
use Rattle.conservative_laws.specs.Remaining.{ticked_used}
use Rattle.conservative_laws.specs.Compression.{left_compressible, compressed_is}
use Rattle.conservative_laws.specs.Outcomes.{call_valid}
use Rattle.conservative_laws.specs.Sentences.{starts_at, planned_is, refused_is}
use Rattle.conservative_laws.specs.TickedJob.{turned_other}
use Rattle.conservative_rules.specs.Conservative.{span, spans, planned, new_job, submit_refusal, submitted, placed, advanced, moved, pass, start_of, departed}
use Rattle.conservative_rules.specs.Conservative.{turned, ticked, amended_to, amended, call}
use Rattle.conservative_rules.specs.Computed.{machine, gapped}

-- all jobs but the one with this ticket
abbrev pub others : ℕ → List Job → List Job
others t js = keep (λ (k : Job). not (eqb k.ticket t)) js

-- the planned start of each waiting job is the smallest minute, now or later, from which on its nodes are free for its hold with all others
-- held
abbrev pub Tight : Model → Type 0
Tight m =
    (j : Job) → In j m.jobs → is_waiting j ≡ true
    → Earliest (free m.settings.nodes (spans m.settings (others j.ticket m.jobs))) m.clock j.nodes
    (hold_time m.settings j.estimate) j.start

-- the same with all jobs together, less what this one takes itself
abbrev pub Fixed : Settings → ℕ → List Job → Job → Type 0
Fixed S now js j =
    (r : ℕ) → now ≤ r
    → ((t : ℕ) → r ≤ t → t < r + hold_time S j.estimate → used t (spans S js) + j.nodes ≤ S.nodes + takes t (span S j))
    → j.start ≤ r

-- ## One job and the others

pub used_others : (S : Settings) (t lo : ℕ) (js : List Job) {j : Job} → Asc lo js → In j js
    → used t (spans S js) ≡ takes t (span S j) + used t (spans S (others j.ticket js))
used_others S t lo [] a i = in_nil i
used_others S t lo (x ∷ xs) {j} a i = go (in_cons i) (λ k. used_others S t (suc x.ticket) xs a.1 k)
  where
    go : (j ≡ x) ⊎ In j xs → (In j xs → used t (spans S xs) ≡ takes t (span S j) + used t (spans S (others j.ticket xs)))
        → used t (spans S (x ∷ xs)) ≡ takes t (span S j) + used t (spans S (others j.ticket (x ∷ xs)))
    go (inl e) f =
        subst (λ (y : Job). used t (spans S (x ∷ xs)) ≡ takes t (span S y) + used t (spans S (others y.ticket (x ∷ xs)))) (sym e)
        (rw (
          eq-eqb x.ticket x.ticket refl,
          keep_all (λ (k : Job). not (eqb k.ticket x.ticket)) xs
              (λ k u. ap not (ne_eqb k.ticket x.ticket (λ q. omega (arith, asc_in (suc x.ticket) xs a.1 u)))),
        ))
    go (inr k) f =
        rw (ne_eqb x.ticket j.ticket (λ q. omega (arith, asc_in (suc x.ticket) xs a.1 k)))
        (omega (arith, f k))

module _ (m : Model) (v : Valid m) where
  abbrev S : Settings
  S = m.settings

  pub tight_fixed : Tight m → (j : Job) → In j m.jobs → is_waiting j ≡ true → Fixed S m.clock m.jobs j
  tight_fixed T j i w r l f = (T j i w).smallest r l (λ t a b. omega (arith, f t a b, used_others S t 1 m.jobs v.sound.asc i))

  pub fixed_tight : ((j : Job) → In j m.jobs → is_waiting j ≡ true → Fixed S m.clock m.jobs j) → Tight m
  fixed_tight F j i w =
      let u : (t : ℕ) → used t (spans S m.jobs) ≡ takes t (span S j) + used t (spans S (others j.ticket m.jobs)) =
      λ t. used_others S t 1 m.jobs v.sound.asc i in
      let from : m.clock < j.start = v.ahead j i w in
      record {
        later = omega arith;
        fit = λ t a b.
            omega (
              arith,
              v.room t (omega arith),
              u t,
              takes_in t (span S j) a (omega (arith, until_is S j (waiting_clean j.state w))),
            );
        smallest = λ r l f. F j i w r l (λ t a b. omega (arith, f t a b, u t, v.room t (omega arith)));
      }

-- ## An early end or a withdrawal

-- where a pass moves nobody, nobody could begin earlier; `done` have had their turn
pub still_fixed : (S : Settings) (now : ℕ) (done js all : List Job) → ((j : Job) → In j js → j.nodes ≤ S.nodes) → pass S now done js ≡ js
    → ((t : ℕ) → used t (spans S all) ≡ used t (spans S done) + used t (spans S js))
    → (j : Job) → In j js → is_waiting j ≡ true → Fixed S now all j
unfolding pass
still_fixed S now done [] all n e u j i w = in_nil i
still_fixed S now done (x ∷ xs) all n e u j i w = go (in_cons i)
    (λ k. still_fixed S now (x ∷ done) xs all (λ y a. n y (there a)) (ap (λ (y : Job). pass S now (y ∷ done) xs) (sym head) ∙ tail) (λ t. omega (arith, u t)) j k w)
  where
    k : Job
    k = moved S now (done ++ xs) x

    head : k ≡ x
    head = head-eq_of_cons-eq e

    tail : pass S now (k ∷ done) xs ≡ xs
    tail = tail-eq_of_cons-eq e

    at : ℕ
    at = earliest S.nodes (spans S (done ++ xs)) now x.nodes (hold_time S x.estimate)

    start_is : is_waiting x ≡ true → at ≡ x.start
    start_is q = ap start_of (ap (λ b. cond b (placed now at x) x) (sym q) ∙ head)

    first : is_waiting x ≡ true → Fixed S now all x
    first q r l f =
        omega (
          arith,
          start_is q,
          (earliest_is S.nodes (spans S (done ++ xs)) now x.nodes (hold_time S x.estimate) (n x (here refl))).smallest r l
              (λ t a b. omega (arith, f t a b, u t, used_append S t done xs)),
        )

    go : (j ≡ x) ⊎ In j xs → (In j xs → Fixed S now all j) → Fixed S now all j
    go (inl q) f = subst (Fixed S now all) (sym q) (first (subst (λ (y : Job). is_waiting y ≡ true) q w))
    go (inr k) f = f k

-- after an early end or a withdrawal that is not refused, any valid model is tight
pub depart_tight : (m : Model) (h : Departure) (t : ℕ) → Valid m → accepts (call m (depart h t)).reply.refusal ≡ true
    → Tight (call m (depart h t)).model
unfolding call departed advanced
depart_tight m h t v a =
    let now = m.clock in
    let js = remaining m.settings now (select.Departing h t) m.jobs in
    let p = compressed_is m.settings now js (left_compressible m h t v) in
    let e = (judged_accepted m (depart_refusal m h t) (departed m h t) a).1 in
    subst (λ (r : Result). Valid r.model → Tight r.model) (sym e)
    (λ w. fixed_tight (departed m h t).model w
    (still_fixed m.settings now [] (departed m h t).model.jobs (departed m h t).model.jobs (λ j i. (p.ready.each j i).nodes_to) p.still (λ r. omega arith)))
    (call_valid m (depart h t) v)

-- and after an order that is amended in place
in_place_tight : (m : Model) (a : Amendment) → Valid m → InPlace m a → Valid (amended m a).model → Tight (amended m a).model
unfolding amended_to amended
in_place_tight m a v f w =
    let js = map (supersede a) m.jobs in
    let p = compressed_is m.settings m.clock js (valid_compressible (in_place_of m a) (inplace_valid m a f.range f.shrinks v)) in
    fixed_tight (amended m a).model w
    (still_fixed m.settings m.clock [] (amended m a).model.jobs (amended m a).model.jobs (λ j i. (p.ready.each j i).nodes_to) p.still
    (λ r. omega arith))

pub amend_tight : (m : Model) (a : Amendment) → Valid m → accepts (call m (amend a)).reply.refusal ≡ true → Tight (call m (amend a)).model
unfolding call
amend_tight m a v x =
    let e = judged_accepted m (in_place_refusal m a) (amended m a) x in
    subst (λ (r : Result). Valid r.model → Tight r.model) (sym e.1) (λ w. in_place_tight m a v (inplace_fit m a e.0) w) (call_valid m (amend a) v)

-- ## The other calls

module _ (m : Model) (v : Valid m) (T : Tight m) where
  -- the model after a call is tight if it is valid
  abbrev TightAfter : Result → Type 0
  TightAfter r = Valid r.model → Tight r.model

  -- a submission: the others have no more room than before, and the new job stands at its smallest minute
  submit_tight : (o : Submission) → TightAfter (submitted m o (planned m o))
  unfolding submitted
  submit_tight o w = fixed_tight (submitted m o (planned m o)).model w (λ j i q. go j q (in_append m.jobs i))
    where
      S : Settings
      S = m.settings

      new : Job
      new = new_job m o (planned m o)

      more : (t : ℕ) → used t (spans S (m.jobs ++ (new ∷ []))) ≡ used t (spans S m.jobs) + takes t (span S new)
      more t = omega (arith, used_append S t m.jobs (new ∷ []))

      last : Fixed S m.clock (m.jobs ++ (new ∷ [])) new
      last r l f =
          (planned_is m o (w.sound.each new (in_right m.jobs (here refl))).nodes_to).smallest r l (λ t a b. omega (arith, f t a b, more t))

      go : (j : Job) → is_waiting j ≡ true → In j m.jobs ⊎ In j (new ∷ []) → Fixed S m.clock (m.jobs ++ (new ∷ [])) j
      go j q (inl i) = λ r l f. tight_fixed m v T j i q r l (λ t a b. omega (arith, f t a b, more t))
      go j q (inr i) = one (in_cons i)
        where
          one : (j ≡ new) ⊎ In j [] → Fixed S m.clock (m.jobs ++ (new ∷ [])) j
          one (inl e) = subst (Fixed S m.clock (m.jobs ++ (new ∷ []))) (sym e) last
          one (inr u) = in_nil u

  -- a tick: the same nodes are held from then on, and the jobs that still wait have not moved
  tick_tight : TightAfter (ticked m)
  unfolding ticked advanced
  tick_tight w = fixed_tight (ticked m).model w (λ k i q. waits k q (map_in (turned now) js i))
    where
      S : Settings
      S = m.settings

      now : ℕ
      now = suc m.clock

      js : List Job
      js = remaining S now (ending m) m.jobs

      waits : (k : Job) → is_waiting k ≡ true → (j : Job) × In j js × (k ≡ turned now j) → Fixed S now (map (turned now) js) k
      waits k q (j, i, e) =
          case (starts_at now j)
          (λ s. true_false (is_waiting k) q (ap is_waiting e ∙ rw s))
          (λ s. let same : k ≡ j = e ∙ turned_other now j s in
          let p : is_waiting j ≡ true = subst (λ (y : Job). is_waiting y ≡ true) same q in
          subst (Fixed S now (map (turned now) js)) (sym same)
          (λ r l f. tight_fixed m v T j (remained_waits S now (ending m) m.jobs i p).0 p r (omega arith)
          (λ t a b. omega (arith, f t a b, ticked_used S now t (omega arith) m.jobs))))

pub call_tight : (m : Model) (c : Call) → Valid m → Tight m → Tight (call m c).model
unfolding call
call_tight m (submit o) v T =
    let s = planned m o in
    judged_by (TightAfter m v T) m (submit_refusal m o s) (submitted m o s) (λ a. submit_tight m v T o) (λ a w. T) (call_valid m (submit o) v)
call_tight m (depart h t) v T =
    case (accepts (call m (depart h t)).reply.refusal)
    (λ a. depart_tight m h t v a)
    (λ a. subst (λ (r : Result). Tight r.model) (sym (refused_is m (depart h t) a)) T)
call_tight m tick v T = judged_by (TightAfter m v T) m (tick_refusal m) (ticked m) (λ a. tick_tight m v T) (λ a w. T) (call_valid m tick v)
call_tight m (amend a) v T =
    case (accepts (call m (amend a)).reply.refusal)
    (λ x. amend_tight m a v x)
    (λ x. subst (λ (r : Result). Tight r.model) (sym (refused_is m (amend a) x)) T)
call_tight m (unchanged r) v T = T

-- no job waits at an opening
pub opening_tight : (o : Opening) → Tight (opening o)
unfolding opening
opening_tight o = case (accepts (opening_refusal o)) (λ e. rw e (λ j i w. in_nil i)) (λ e. rw e (λ j i w. in_nil i))

-- ## For the reader

-- so in the minute before its planned start, a waiting job and the jobs that hold nodes then would need more nodes than there are
pub short_before : (m : Model) (j : Job) → Valid m → Tight m → In j m.jobs → is_waiting j ≡ true
    → m.settings.nodes < used (j.start - 1) (spans m.settings (others j.ticket m.jobs)) + j.nodes
short_before m j v T i w =
    let ahead = v.ahead j i w in
    let E = T j i w in
    case (leb (used b (spans S (others j.ticket m.jobs)) + j.nodes) S.nodes)
    (λ q. absurd (omega (arith, E.smallest b (omega arith) (sooner (leb-true (used b (spans S (others j.ticket m.jobs)) + j.nodes) S.nodes q)))))
    (λ q. leb-false (used b (spans S (others j.ticket m.jobs)) + j.nodes) S.nodes q)
  where
    S : Settings
    S = m.settings

    b : ℕ
    b = j.start - 1

    sooner : used b (spans S (others j.ticket m.jobs)) + j.nodes ≤ S.nodes
        → Fits (free S.nodes (spans S (others j.ticket m.jobs))) j.nodes (hold_time S j.estimate) b
    sooner l t p q =
        ⊎_elim
        (λ (k : j.start ≤ t). (T j i w).fit t k (omega arith))
        (λ (k : t < j.start). subst (λ (x : ℕ). j.nodes ≤ free S.nodes (spans S (others j.ticket m.jobs)) x) (let e : b ≡ t = omega arith in e) (omega (arith, l)))
        (le_or j.start t)

-- "Staff see a free stretch that an earlier ticket could use": so a single pass leaves document 001's figure 2
pub single_pass_leaves_gap : Tight (record { settings = machine 0; clock = 0; next = 5; jobs = gapped }) → ⊥
unfolding cleanup run_time hold_time end_of until takes last_end fits earliest
single_pass_leaves_gap T =
    let j = get_or gapped 1 unused in
    let s : ℕ = earliest 2 (spans (machine 0) (others 3 gapped)) 0 2 5 in
    let could : s ≡ 10 = refl in
    let E = earliest_is 2 (spans (machine 0) (others 3 gapped)) 0 2 5 (omega arith) in
    omega (arith, could, (T j (there (here refl)) refl).smallest s E.later E.fit)
