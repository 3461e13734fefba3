-- Settling: the shadow's laws, what starting one job does, and the settling as it goes.
-- Assumes nothing.
use Rattle.std.specs.Prelude.{ℕ, zero, suc, ◌+◌, ◌≤◌, ◌<◌, ◌≡◌, refl, Bool, true, false, not, cond, List, [], ◌∷◌, map, eqb, length}
use Rattle.std.proofs.Common.{arith, sym, ap, subst, ◌∙◌, leb-true, leb-false, le-leb, eqb-true, eq-eqb, ne_eqb}
use Rattle.std.proofs.Math.Option.{Option, none, some}
use Rattle.std.proofs.Math.Dec.{leb}
use Rattle.std.proofs.lemmas.List.{length-map}
use Rattle.std.proofs.lemmas.Bool.{lt-leb, eqb-false}
use Rattle.lists.specs.Tests.{case, true_false, on, both}
use Rattle.lists.specs.Lists.{keep, first, elem, sum, In, here, there, map_in, keep_in, first_in, map_same, sum_cong, sum_zero, sum_le, length_keep}
use Rattle.lists.specs.Least.{least_from, least_to, least_holds_lem, least_min}
use Rattle.scheduler.specs.declared.State.{State}
use Rattle.scheduler.specs.declared.State.TheVariants.{Unused, Waiting, Running, Cleanup}
use Rattle.scheduler.specs.declared.Job.{Job}
use Rattle.scheduler.specs.States.{waiting?, running?, holding?}
use Rattle.scheduler.specs.Jobs.{is_waiting, is_running, is_holding, held}
use Rattle.scheduler.specs.declared.Settings.{Settings}
use Rattle.scheduler.specs.Limits.{max_nodes}
use Rattle.scheduler.specs.Settings.{horizon, slots, hold_time, unit, until}
use Rattle.scheduler.specs.Times.{run_pos, hold_pos, end_is, until_at}
use Rattle.scheduler.specs.Table.{nodes_held, of_tenant, ticket_of, tickets_of}
use Rattle.scheduler.specs.Model.{Model}
use Rattle.jobs.specs.Order.{Asc, asc_in, asc_same, asc_one}
use Rattle.jobs.specs.Soundness.{Sound, SoundJob, holds_short}
use Rattle.lists.specs.FirstLaws.{first_none}
use Rattle.easy_rules.specs.Easy.{queue, free, over_by, freed, avail, shadow, qualifies, pick, choice, begun, mark, begin, settle, settled}

-- ## The shadow is the smallest minute, now or later, at which the nodes suffice

module _ (m : Model) (n : ℕ) where
  pub shadow_from : m.clock ≤ shadow m n
  unfolding shadow
  shadow_from = least_from (λ (t : ℕ). leb n (avail m t)) (unit m.settings) m.clock

  pub shadow_to : shadow m n ≤ m.clock + unit m.settings
  unfolding shadow
  shadow_to = least_to (λ (t : ℕ). leb n (avail m t)) (unit m.settings) m.clock

  pub shadow_min : (t : ℕ) → n ≤ avail m t → m.clock ≤ t → shadow m n ≤ t
  unfolding shadow
  shadow_min t h l = least_min (λ (t : ℕ). leb n (avail m t)) (unit m.settings) m.clock t (le-leb n (avail m t) h) l

-- the nodes of a job are free again by then, and not before
pub ended_by : (S : Settings) (t : ℕ) (j : Job) → is_holding j ≡ true → until S j ≤ t → over_by S t j ≡ true
ended_by S t j r l = rw r (le-leb _ t (omega arith))

pub not_ended : (S : Settings) (t : ℕ) (j : Job) → (is_holding j ≡ true → t < until S j) → over_by S t j ≡ false
not_ended S t j l = case (is_holding j) (λ r. rw r (lt-leb _ t (omega (arith, l r)))) (λ r. rw r)

-- What the shadow needs of a model: no more nodes are held than it has, and each job that holds some gives them back now or later, within a unit.
pub record Releasing (m : Model) : Type 0 where
  pub few : length m.jobs ≤ slots m.settings
  pub nodes_to : m.settings.nodes ≤ max_nodes
  pub capacity : nodes_held m.jobs ≤ m.settings.nodes
  pub later : (j : Job) → In j m.jobs → is_holding j ≡ true → m.clock ≤ until m.settings j
  pub soon : (j : Job) → In j m.jobs → is_holding j ≡ true → until m.settings j ≤ m.clock + unit m.settings

pub sound_releasing : (m : Model) → Sound m → Releasing m
sound_releasing m s = record {
  few = s.few;
  nodes_to = s.nodes_to;
  capacity = s.capacity;
  later = λ j i r. omega (arith, (s.each j i).holds r);
  soon = λ j i r. holds_short m.settings m.clock j (s.each j i) r;
}

-- a unit from now all nodes are free
pub avail_all : (m : Model) → Releasing m → avail m (m.clock + unit m.settings) ≡ m.settings.nodes
avail_all m s =
    let e = sum_cong (freed m.settings (m.clock + unit m.settings)) held m.jobs ended in
    omega (arith, s.capacity)
  where
    ended : (j : Job) → In j m.jobs → freed m.settings (m.clock + unit m.settings) j ≡ held j
    ended j i = case (is_holding j) (λ r. rw (ended_by m.settings (m.clock + unit m.settings) j r (s.soon j i r), r)) (λ r. rw r)

pub shadow_suffices : (m : Model) (n : ℕ) → Releasing m → n ≤ m.settings.nodes → n ≤ avail m (shadow m n)
unfolding shadow
shadow_suffices m n s l =
    leb-true n (avail m (shadow m n))
    (least_holds_lem (λ (t : ℕ). leb n (avail m t)) (unit m.settings) m.clock
    (le-leb n (avail m (m.clock + unit m.settings)) (omega (arith, avail_all m s))))

pub shadow_holds : (m : Model) (n : ℕ) → Sound m → n ≤ m.settings.nodes → n ≤ avail m (shadow m n)
shadow_holds m n s l = shadow_suffices m n (sound_releasing m s) l

-- the nodes do not get fewer with time
pub avail_rises : (m : Model) (t u : ℕ) → t ≤ u → avail m t ≤ avail m u
avail_rises m t u l = omega (arith, sum_le (freed m.settings t) (freed m.settings u) m.jobs (λ j i. more j))
  where
    more : (j : Job) → freed m.settings t j ≤ freed m.settings u j
    more j =
        case (over_by m.settings t j)
        (λ e. let b = both (is_holding j) (leb (until m.settings j) t) e in
        rw (e, ended_by m.settings u j b.0 (omega (arith, leb-true (until m.settings j) t b.1))) (omega arith))
        (λ e. rw e (omega arith))

-- no nodes that are held come free by now, so that nothing but the free nodes is there now
pub avail_now : (m : Model) (t : ℕ) → Sound m → t ≤ m.clock → avail m t ≡ free m
avail_now m t s l = omega (arith, sum_zero (freed m.settings t) m.jobs (λ j i. later j (s.each j i)))
  where
    later : (j : Job) → SoundJob m.settings m.clock j → freed m.settings t j ≡ 0
    later j f = rw (not_ended m.settings t j (λ r. omega (arith, f.holds r)))

-- ## The job that starts next

-- where none can start, the head does not fit and no later job qualifies
pub none_starts : (m : Model) (h : Job) (later : List Job) → pick m (h ∷ later) ≡ none
    → (free m < h.nodes) × ((j : Job) → In j later → qualifies m h j ≡ false)
unfolding pick
none_starts m h later e =
    case (leb h.nodes (free m))
    (λ l. absurd (let w : some h ≡ none = rw l at e in let z : ◌≡◌ {A = ℕ} 0 1 = cc in omega arith))
    (λ l. (leb-false h.nodes (free m) l, first_none (qualifies m h) later (rw l at e)))

-- as document 01's steps 1 and 3 say it: the head, if it fits; otherwise the first later job that qualifies
pub data How (m : Model) (j : Job) : List Job → Type 0 where
  as_head : (later : List Job) → j.nodes ≤ free m → How m j (j ∷ later)
  passing : (h : Job) (later : List Job) → free m < h.nodes → first (qualifies m h) later ≡ some j → How m j (h ∷ later)

pub how : (m : Model) (j : Job) (q : List Job) → pick m q ≡ some j → How m j q
unfolding pick
how m j [] e = absurd (let z : ◌≡◌ {A = ℕ} 0 1 = cc in omega arith)
how m j (h ∷ later) e =
    case (leb h.nodes (free m))
    (λ l. fits l (rw l at e))
    (λ l. passing h later (leb-false h.nodes (free m) l) (rw l at e))
  where
    fits : leb h.nodes (free m) ≡ true → some h ≡ some j → How m j (h ∷ later)
    fits l s = let z : h ≡ j = cc in subst (λ (k : Job). How m k (h ∷ later)) z (as_head later (leb-true h.nodes (free m) l))

pub record Chosen (m : Model) (j : Job) : Type 0 where
  pub isin : In j m.jobs
  pub waits : is_waiting j ≡ true
  pub fits : j.nodes ≤ free m
  pub way : How m j (queue m.jobs)

how_in : (m : Model) (j : Job) {q : List Job} → How m j q → In j q × (j.nodes ≤ free m)
unfolding qualifies
how_in m j (as_head later l) = (here refl, l)
how_in m j (passing h later l e) =
    let r = first_in (qualifies m h) later e in
    (there r.0, leb-true j.nodes (free m) (both (leb j.nodes (free m)) _ r.1).0)

pub chosen : (m : Model) (j : Job) → choice m ≡ some j → Chosen m j
chosen m j e =
    let w = how m j (queue m.jobs) e in
    let i = how_in m j w in
    let k = keep_in is_waiting m.jobs i.0 in
    record { isin = k.0; waits = k.1; fits = i.1; way = w }

-- ## One start

-- of a job that waits a test says what it says of those that wait
waits_by : (p : State → Bool) (j : Job) → is_waiting j ≡ true → p j.state ≡ p Waiting
waits_by p j e = by j.state e
  where
    by : (s : State) → waiting? s ≡ true → p s ≡ p Waiting
    by Unused e = true_false false e refl
    by Waiting e = refl
    by Running e = true_false false e refl
    by Cleanup e = true_false false e refl

-- it holds no nodes, and does not run
pub idle : (j : Job) → is_waiting j ≡ true → is_holding j ≡ false
idle j e = waits_by holding? j e

pub not_running : (j : Job) → is_waiting j ≡ true → is_running j ≡ false
not_running j e = waits_by running? j e

pub mark_ticket : (now t : ℕ) (j : Job) → (mark now t j).ticket ≡ j.ticket
mark_ticket now t j = case (eqb j.ticket t) (λ e. rw e) (λ e. rw e)

pub mark_same : (now t : ℕ) (j : Job) → (j.ticket ≡ t → ⊥) → mark now t j ≡ j
mark_same now t j n = rw (ne_eqb j.ticket t n)

pub mark_begun : (now t : ℕ) (j : Job) → j.ticket ≡ t → mark now t j ≡ begun now j
mark_begun now t j e = rw (eq-eqb j.ticket t e)

tickets_mark : (now t : ℕ) (js : List Job) → tickets_of js ≡ tickets_of (map (mark now t) js)
tickets_mark now t [] = refl
tickets_mark now t (j ∷ js) = rw (mark_ticket now t j, ← tickets_mark now t js)

pub asc_begin : (t : ℕ) (m : Model) → Asc 1 m.jobs → Asc 1 (begin t m).jobs
asc_begin t m a = asc_same 1 m.jobs (begin t m).jobs (tickets_mark m.clock t m.jobs) a

-- starting one job changes a sum by that job alone
pub sum_mark : (f : Job → ℕ) (now lo : ℕ) (js : List Job) {j : Job} → Asc lo js → In j js
    → sum f (map (mark now j.ticket) js) + f j ≡ sum f js + f (begun now j)
sum_mark f now lo js {j} a i = by lo a i
  where
    by : (lo : ℕ) {js : List Job} → Asc lo js → In j js → sum f (map (mark now j.ticket) js) + f j ≡ sum f js + f (begun now j)
    by lo a (here {x = x} {xs = xs} e) =
        let q : x.ticket ≡ j.ticket = ap ticket_of (sym e) in
        let r : map (mark now j.ticket) xs ≡ xs =
        map_same (mark now j.ticket) xs (λ k i. mark_same now j.ticket k (λ z. omega (arith, asc_in (suc x.ticket) xs a.1 i))) in
        rw (mark_begun now j.ticket x q, r) (omega (arith, ap f e, ap (λ (k : Job). f (begun now k)) e))
    by lo a (there {x = x} {xs = xs} i) =
        rw (mark_same now j.ticket x (λ z. omega (arith, asc_in (suc x.ticket) xs a.1 i))) (omega (arith, by (suc x.ticket) a.1 i))

-- the queue then lacks that ticket
pub queue_mark : (now t : ℕ) (js : List Job) → queue (map (mark now t) js) ≡ keep (λ (j : Job). not (eqb j.ticket t)) (queue js)
queue_mark now t [] = refl
queue_mark now t (j ∷ js) =
    case (eqb j.ticket t)
    (λ e. case (is_waiting j) (λ r. rw (e, r, e, queue_mark now t js)) (λ r. rw (e, r, queue_mark now t js)))
    (λ e. case (is_waiting j) (λ r. rw (e, r, e, queue_mark now t js)) (λ r. rw (e, r, queue_mark now t js)))

-- one job fewer waits
pub one_fewer : (m : Model) (j : Job) → Asc 1 m.jobs → Chosen m j → suc (length (queue (begin j.ticket m).jobs)) ≡ length (queue m.jobs)
one_fewer m j a c =
    let s = sum_mark (λ (k : Job). on (is_waiting k) 1) m.clock 1 m.jobs a c.isin in
    let z : on (is_waiting j) 1 ≡ 1 = rw c.waits in
    omega (arith, length_keep is_waiting m.jobs, length_keep is_waiting (map (mark m.clock j.ticket) m.jobs))

-- what holds of each other job, and of the one that starts now, holds of each job after the start
pub each_begin : (P : Job → Type 0) (t : ℕ) (m : Model) → ((j : Job) → In j m.jobs → (j.ticket ≡ t → ⊥) → P j)
    → ((j : Job) → In j m.jobs → j.ticket ≡ t → P (begun m.clock j)) → (k : Job) → In k (begin t m).jobs → P k
each_begin P t m f g k i =
    let r = map_in (mark m.clock t) m.jobs i in
    subst P (sym r.2)
    (case (eqb r.0.ticket t) (λ e. rw e (g r.0 r.1 (eqb-true r.0.ticket t e))) (λ e. rw e (f r.0 r.1 (eqb-false r.0.ticket t e))))

-- A start keeps the model sound, if the job's hold does not pass the last minute.
pub sound_begin : (m : Model) (j : Job) → Sound m → Chosen m j → m.clock + hold_time m.settings j.estimate ≤ horizon m.settings
    → Sound (begin j.ticket m)
sound_begin m j s c room = record {
  nodes_from = s.nodes_from;
  nodes_to = s.nodes_to;
  longest_from = s.longest_from;
  longest_to = s.longest_to;
  cleanup_to = s.cleanup_to;
  quotas = s.quotas;
  one_each = s.one_each;
  clock_to = s.clock_to;
  next_from = s.next_from;
  next_to = s.next_to;
  few = omega (arith, s.few, length-map m.jobs (mark m.clock j.ticket));
  asc = asc_begin j.ticket m s.asc;
  below = each_begin (λ (k : Job). k.ticket < m.next) j.ticket m (λ k i e. s.below k i) (λ k i e. s.below k i);
  each = each_begin (SoundJob m.settings m.clock) j.ticket m (λ k i e. s.each k i)
      (λ k i e. started k i (asc_one 1 m.jobs k j s.asc i c.isin e));
  capacity =
      let t = sum_mark held m.clock 1 m.jobs s.asc c.isin in
      let z : held j ≡ 0 = rw (idle j c.waits) in
      omega (arith, s.capacity, c.fits);
  shares = λ t. omega (arith, s.shares t, sum_mark (λ (k : Job). on (of_tenant t k) 1) m.clock 1 m.jobs s.asc c.isin);
}
  where
    started : (k : Job) → In k m.jobs → k ≡ j → SoundJob m.settings m.clock (begun m.clock k)
    started k i e =
        let f = s.each k i in
        record {
          is_live = refl;
          nodes_from = f.nodes_from;
          nodes_to = f.nodes_to;
          estimate_from = f.estimate_from;
          estimate_to = f.estimate_to;
          least_to = f.least_to;
          ends = rw (until_at m.settings Running m.clock k refl, e) room;
          holds = λ r. omega (arith, until_at m.settings Running m.clock k refl, hold_pos m.settings k.estimate f.estimate_from);
          runs = λ r. omega (arith, end_is m.settings (begun m.clock k), run_pos m.settings k.estimate f.estimate_from);
          cleaned = λ r. true_false false r refl;
          no_end = λ r. refl;
          tenant_is = f.tenant_is;
        }

-- ## The settling, as it goes

-- from a model to another by starting these tickets, each the choice of the model of its moment, until there is no choice
pub data Settles : Model → Model → List ℕ → Type 0 where
  rest : {m : Model} → choice m ≡ none → Settles m m []
  start : {m m' : Model} {ts : List ℕ} (j : Job) → choice m ≡ some j → Settles (begin j.ticket m) m' ts → Settles m m' (j.ticket ∷ ts)

none_left : (m : Model) (q : List Job) → length q ≤ 0 → pick m q ≡ none
unfolding pick
none_left m [] l = refl
none_left m (h ∷ later) l = absurd (omega arith)

settles_by : (n : ℕ) (m : Model) → Asc 1 m.jobs → length (queue m.jobs) ≤ n → Settles m (settle n m).model (settle n m).started
unfolding settle
settles_by zero m a l = rest (none_left m (queue m.jobs) l)
settles_by (suc n) m a l = by (choice m) refl (λ j c. settles_by n (begin j.ticket m) (asc_begin j.ticket m a) (omega (arith, one_fewer m j a c)))
  where
    by : (o : Option Job) → choice m ≡ o → ((j : Job) → Chosen m j
        → Settles (begin j.ticket m) (settle n (begin j.ticket m)).model (settle n (begin j.ticket m)).started)
        → Settles m (settle (suc n) m).model (settle (suc n) m).started
    by none e f = rw (e, settle) (rest e)
    by (some j) e f = rw (e, settle) (start j e (f j (chosen m j e)))

pub settles : (m : Model) → Sound m → Settles m (settled m).model (settled m).started
settles m s = settles_by (length (queue m.jobs)) m s.asc (omega arith)

pub settles_rest : {m m' : Model} {ts : List ℕ} → Settles m m' ts → choice m' ≡ none
settles_rest (rest e) = e
settles_rest (start j e s) = settles_rest s

pub settles_clock : {m m' : Model} {ts : List ℕ} → Settles m m' ts → m'.clock ≡ m.clock
settles_clock (rest e) = refl
settles_clock (start j e s) = settles_clock s

pub settles_settings : {m m' : Model} {ts : List ℕ} → Settles m m' ts → m'.settings ≡ m.settings
settles_settings (rest e) = refl
settles_settings (start j e s) = settles_settings s

pub settles_next : {m m' : Model} {ts : List ℕ} → Settles m m' ts → m'.next ≡ m.next
settles_next (rest e) = refl
settles_next (start j e s) = settles_next s

-- The jobs afterwards: those of the list run from now.
abbrev pub marks : ℕ → List ℕ → Job → Job
marks now ts j = cond (elem j.ticket ts) (begun now j) j

marks_more : (now t : ℕ) (ts : List ℕ) (js : List Job) → map (marks now ts) (map (mark now t) js) ≡ map (marks now (t ∷ ts)) js
marks_more now t ts [] = refl
marks_more now t ts (j ∷ js) = rw (one, marks_more now t ts js)
  where
    one : marks now ts (mark now t j) ≡ marks now (t ∷ ts) j
    one = case (eqb j.ticket t) (λ e. rw e (case (elem j.ticket ts) (λ q. rw q) (λ q. rw q))) (λ e. rw e)

pub settles_jobs : {m m' : Model} {ts : List ℕ} → Settles m m' ts → m'.jobs ≡ map (marks m.clock ts) m.jobs
settles_jobs (rest {m = m} e) = sym (map_same (marks m.clock []) m.jobs (λ j i. refl))
settles_jobs (start {m = m} {ts = ts} j e s) = settles_jobs s ∙ marks_more m.clock j.ticket ts m.jobs
