-- Laws in the shape of the code: a search over the ends of running jobs, two searches over a list, a start as one store, and the
-- settling without its fuel.
-- Assumes nothing.
use Rattle.std.specs.Prelude.{ℕ, zero, suc, ◌+◌, ◌-◌, ◌≤◌, ◌<◌, max, Bool, true, ◌&&◌, cond, ◌⊎◌, leb, ltb, get_or, set, drop, replicate}
use Rattle.std.proofs.Common.{arith, add-one, sym, ◌∙◌, inl, inr, drop_of_length-le, drop-cons}
use Rattle.std.proofs.Math.Path.{◌≡◌, refl, ap}
use Rattle.std.proofs.Math.Option.{none, some}
use mathlib.Core.List.{List, [], ◌∷◌, map, head?}
use Rattle.std.proofs.Math.ListN.{length, get_or-append}
use borrow.Author.Tests.{leb-true, leb-false, le-leb, lt-leb, ltb-true, lt-ltb}
use Rattle.lists.specs.Tests.{case, le_or, on, on_le, both}
use Rattle.lists.specs.Lists.{first, In, here, there, in_getD, map_same, sum_cong, sum_le}
use Rattle.lists.specs.Pads.{pad}
use Rattle.scheduler.specs.declared.Job.{Job}
use Rattle.scheduler.specs.Limits as limit
use Rattle.scheduler.specs.Jobs.{unused, is_waiting, is_holding, held}
use Rattle.scheduler.specs.declared.Settings.{Settings}
use Rattle.scheduler.specs.Settings.{until}
use Rattle.scheduler.specs.Table.{with_jobs}
use Rattle.scheduler.specs.Model.{Model, store, with_model_jobs}
use Rattle.scheduler.specs.TableLaws.{put_stored}
use Rattle.jobs.specs.Order.{Asc, asc_in}
use Rattle.lists.specs.FirstLaws.{first_keep, head_keep}
use Rattle.easy_rules.specs.Easy.{queue, head, free, freed, over_by, avail, shadow, qualifies, pick, choice, begun, mark, begin, settle, settled}
use Rattle.easy_laws.specs.Settling.{shadow_from, shadow_min, Releasing, shadow_suffices, ended_by, not_ended, avail_rises, chosen, mark_same, mark_begun, one_fewer}

-- ## The shadow by the ends of running jobs

-- nodes at a minute are at most the machine's
pub avail_to : (m : Model) (t : ℕ) → Releasing m → avail m t ≤ m.settings.nodes
avail_to m t s = omega (arith, s.capacity, sum_le (freed m.settings t) held m.jobs (λ j i. less j))
  where
    less : (j : Job) → freed m.settings t j ≤ held j
    less j = case (is_holding j) (λ r. rw r (on_le (leb (until m.settings j) t) j.nodes)) (λ r. rw r (omega arith))

-- a minute at which the nodes suffice, and before which from now on they do not, is the shadow
pub shadow_is : (m : Model) (n t : ℕ) → Releasing m → n ≤ m.settings.nodes → m.clock ≤ t → n ≤ avail m t
    → ((k : ℕ) → m.clock ≤ k → k < t → avail m k < n) → t ≡ shadow m n
shadow_is m n t s l c e f = by (le_or t (shadow m n))
  where
    by : (t ≤ shadow m n) ⊎ (shadow m n < t) → t ≡ shadow m n
    by (inl k) = omega (arith, shadow_min m n t e c)
    by (inr k) = absurd (omega (arith, f (shadow m n) (shadow_from m n) k, shadow_suffices m n s l))

-- the latest end by t, and c where there is none
abbrev latest : Settings → ℕ → ℕ → List Job → ℕ
latest S t c [] = c
latest S t c (j ∷ js) = max (on (over_by S t j) (until S j)) (latest S t c js)

-- a running job that ends then
pub record EndsAt (S : Settings) (t : ℕ) (js : List Job) : Type 0 where
  pub job : Job
  pub isin : In job js
  pub runs : is_holding job ≡ true
  pub ends : until S job ≡ t

module _ (S : Settings) (t c : ℕ) where
  latest_by : (js : List Job) → c ≤ t → latest S t c js ≤ t
  latest_by [] l = l
  latest_by (j ∷ js) l =
      case (over_by S t j)
      (λ e. rw e (omega (arith, latest_by js l, leb-true (until S j) t (both (is_holding j) (leb (until S j) t) e).1)))
      (λ e. rw e (omega (arith, latest_by js l)))

  latest_from : {j : Job} {js : List Job} → In j js → over_by S t j ≡ true → until S j ≤ latest S t c js
  latest_from (here {x = x} z) e = rw (ap (over_by S t) (sym z) ∙ e) (omega (arith, ap (until S) z))
  latest_from (there i) e = omega (arith, latest_from i e)

  latest_is : (js : List Job) → (latest S t c js ≤ c) ⊎ EndsAt S (latest S t c js) js
  latest_is [] = inl (omega arith)
  latest_is (j ∷ js) =
      case (over_by S t j)
      (λ e. rw e (by (both (is_holding j) (leb (until S j) t) e).0 (le_or (latest S t c js) (until S j)) (latest_is js)))
      (λ e. rw e (older 0 (omega arith) (latest_is js)))
    where
      older : (x : ℕ) → x ≤ latest S t c js → (latest S t c js ≤ c) ⊎ EndsAt S (latest S t c js) js
          → (max x (latest S t c js) ≤ c) ⊎ EndsAt S (max x (latest S t c js)) (j ∷ js)
      older x l (inl p) = inl (omega arith)
      older x l (inr p) = inr (record { job = p.job; isin = there p.isin; runs = p.runs; ends = omega (arith, p.ends) })

      by : is_holding j ≡ true → (latest S t c js ≤ until S j) ⊎ (until S j < latest S t c js) → (latest S t c js ≤ c) ⊎ EndsAt S (latest S t c js) js
          → (max (until S j) (latest S t c js) ≤ c) ⊎ EndsAt S (max (until S j) (latest S t c js)) (j ∷ js)
      by r (inl l) p = inr (record { job = j; isin = here refl; runs = r; ends = omega arith })
      by r (inr l) p = older (until S j) (omega arith) p

-- nodes change at ends alone
avail_latest : (m : Model) (t c : ℕ) → c ≤ t → avail m t ≡ avail m (latest m.settings t c m.jobs)
avail_latest m t c l = ap (λ (x : ℕ). free m + x) (sum_cong (freed m.settings t) (freed m.settings (latest m.settings t c m.jobs)) m.jobs same)
  where
    same : (j : Job) → In j m.jobs → freed m.settings t j ≡ freed m.settings (latest m.settings t c m.jobs) j
    same j i =
        let S = m.settings in
        let k = latest S t c m.jobs in
        case (over_by S t j)
        (λ e. rw (e, ended_by S k j (both (is_holding j) (leb (until S j) t) e).0 (latest_from S t c i e)))
        (λ e. rw (e, not_ended S k j (λ r. omega (arith, latest_by S t c m.jobs l, leb-false (until S j) t (rw r at e)))))

-- Where n nodes are not there now: a minute at which they suffice, and before which they suffice at no end, is the shadow.
pub shadow_by_ends : (m : Model) (n t : ℕ) → Releasing m → n ≤ m.settings.nodes → avail m m.clock < n → m.clock ≤ t → n ≤ avail m t
    → ((j : Job) → In j m.jobs → is_holding j ≡ true → until m.settings j < t → avail m (until m.settings j) < n) → t ≡ shadow m n
shadow_by_ends m n t s l f c e h = shadow_is m n t s l c e (λ k a b. by k a b (latest_is m.settings k m.clock m.jobs))
  where
    by : (k : ℕ) → m.clock ≤ k → k < t → (latest m.settings k m.clock m.jobs ≤ m.clock)
        ⊎ EndsAt m.settings (latest m.settings k m.clock m.jobs) m.jobs → avail m k < n
    by k a b (inl p) = omega (arith, avail_latest m k m.clock a, avail_rises m (latest m.settings k m.clock m.jobs) m.clock p)
    by k a b (inr p) =
        omega (
          arith,
          h p.job p.isin p.runs (omega (arith, latest_by m.settings k m.clock m.jobs a, p.ends)),
          ap (avail m) p.ends,
          avail_latest m k m.clock a,
        )

-- The search: from a unit after now, go over the jobs and keep the earliest end at which the nodes suffice.
abbrev pub sooner : Model → ℕ → ℕ → Job → ℕ
sooner m n best j = cond (is_holding j && ltb (until m.settings j) best && leb n (avail m (until m.settings j))) (until m.settings j) best

abbrev pub earliest : Model → ℕ → ℕ → List Job → ℕ
earliest m n best [] = best
earliest m n best (j ∷ js) = earliest m n (sooner m n best j) js

module _ (m : Model) (n : ℕ) where
  abbrev test : ℕ → Job → Bool
  test best j = is_holding j && ltb (until m.settings j) best && leb n (avail m (until m.settings j))

  sooner_by : (best : ℕ) (j : Job) → sooner m n best j ≤ best
  sooner_by best j =
      case (test best j)
      (λ e. rw e (omega (
        arith,
        ltb-true (until m.settings j) best
            (both (is_holding j) (ltb (until m.settings j) best)
            (both (is_holding j && ltb (until m.settings j) best) (leb n (avail m (until m.settings j))) e).0).1,
      )))
      (λ e. rw e (omega arith))

  earliest_by : (best : ℕ) (js : List Job) → earliest m n best js ≤ best
  earliest_by best [] = omega arith
  earliest_by best (j ∷ js) = omega (arith, earliest_by (sooner m n best j) js, sooner_by best j)

  -- no end at which the nodes suffice is earlier
  pub earliest_min : {j : Job} (best : ℕ) {js : List Job} → In j js → is_holding j ≡ true → n ≤ avail m (until m.settings j)
      → earliest m n best js ≤ until m.settings j
  earliest_min {j = j} best (here {x = x} {xs = xs} z) r l =
      let S = m.settings in
      by (le_or best (until S j))
    where
      by : (best ≤ until m.settings j) ⊎ (until m.settings j < best) → earliest m n (sooner m n best x) xs ≤ until m.settings j
      by (inl k) = omega (arith, earliest_by (sooner m n best x) xs, sooner_by best x)
      by (inr k) =
          let e : sooner m n best x ≡ until m.settings j =
          rw (← z, r, lt-ltb (until m.settings j) best k, le-leb n (avail m (until m.settings j)) l) in
          omega (arith, earliest_by (sooner m n best x) xs)
  earliest_min best (there {x = x} i) r l = earliest_min (sooner m n best x) i r l

  -- what holds of the first minute, and of each end at which the nodes suffice, holds of the one found
  pub earliest_holds : (P : ℕ → Type 0) (best : ℕ) (js : List Job) → P best
      → ((j : Job) → In j js → is_holding j ≡ true → n ≤ avail m (until m.settings j) → P (until m.settings j)) → P (earliest m n best js)
  earliest_holds P best [] p f = p
  earliest_holds P best (j ∷ js) p f = earliest_holds P (sooner m n best j) js step (λ k i. f k (there i))
    where
      step : P (sooner m n best j)
      step =
          case (test best j)
          (λ e. let a = both (is_holding j && ltb (until m.settings j) best) (leb n (avail m (until m.settings j))) e in
          rw e (f j (here refl) (both (is_holding j) (ltb (until m.settings j) best) a.0).0 (leb-true n (avail m (until m.settings j)) a.1)))
          (λ e. rw e p)

  -- the search as a loop: one step more, and its end
  pub earliest_step : (z : Job) (best : ℕ) (xs : List Job) (i : ℕ) → i < length xs
      → earliest m n best (drop i xs) ≡ earliest m n (sooner m n best (get_or xs i z)) (drop (i + 1) xs)
  earliest_step z best xs i h = rw (add-one, drop-cons xs i z h)

  pub earliest_done : (best : ℕ) (xs : List Job) (i : ℕ) → length xs ≤ i → earliest m n best (drop i xs) ≡ best
  earliest_done best xs i h = rw (drop_of_length-le xs h)

-- ## The choice over a list

-- a later job that passes the head can be looked for among all: the head itself does not fit
abbrev pub passes : Model → Job → Job → Bool
passes m h j = is_waiting j && qualifies m h j

module _ (m : Model) where
  -- nobody waits; the head fits; or the first that may pass it
  pub choice_empty : head m ≡ none → choice m ≡ none
  unfolding pick
  choice_empty e = by (queue m.jobs) refl
    where
      by : (k : List Job) → queue m.jobs ≡ k → choice m ≡ none
      by [] x = rw x
      by (k ∷ later) x = absurd (let y : some k ≡ none = rw x at e in let z : ◌≡◌ {A = ℕ} 0 1 = cc in omega arith)

  pub choice_head : (h : Job) → head m ≡ some h → h.nodes ≤ free m → choice m ≡ some h
  unfolding pick
  choice_head h e l = by (queue m.jobs) refl
    where
      by : (q : List Job) → queue m.jobs ≡ q → choice m ≡ some h
      by [] x = absurd (let y : none ≡ some h = rw x at e in let z : ◌≡◌ {A = ℕ} 0 1 = cc in omega arith)
      by (k ∷ later) x =
          let y : some k ≡ some h = rw x at e in
          let z : k ≡ h = cc in
          rw (x, z, le-leb h.nodes (free m) l)

  -- over any list with the same queue
  module _ (ws : List Job) (same : queue ws ≡ queue m.jobs) where
    pub head_first : head m ≡ first is_waiting ws
    head_first = ap head? (sym same) ∙ head_keep is_waiting ws

    pub choice_scan : (h : Job) → head m ≡ some h → free m < h.nodes → choice m ≡ first (passes m h) ws
    unfolding pick qualifies
    choice_scan h e l = by (queue m.jobs) refl ∙ ap (first (qualifies m h)) (sym same) ∙ first_keep (qualifies m h) is_waiting ws
      where
        by : (q : List Job) → queue m.jobs ≡ q → choice m ≡ first (qualifies m h) (queue m.jobs)
        by [] x = rw x
        by (k ∷ later) x =
            let y : some k ≡ some h = rw x at e in
            let z : k ≡ h = cc in
            rw (x, z, lt-leb h.nodes (free m) l)

-- ## A start is one store

mark_set : (now lo : ℕ) (js : List Job) (i : ℕ) (z : Job) → Asc lo js → i < length js
    → map (mark now (get_or js i z).ticket) js ≡ set js i (begun now (get_or js i z))
mark_set now lo [] i z a h = absurd (omega arith)
mark_set now lo (x ∷ xs) zero z a h =
    rw (
      mark_begun now x.ticket x refl,
      map_same (mark now x.ticket) xs
          (λ k i. mark_same now x.ticket k (λ e. omega (arith, asc_in (suc x.ticket) xs a.1 i))),
    )
mark_set now lo (x ∷ xs) (suc i) z a h =
    let l = asc_in (suc x.ticket) xs a.1 (in_getD xs i z (omega arith)) in
    rw (mark_same now (get_or xs i z).ticket x (λ e. omega arith), mark_set now (suc x.ticket) xs i z a.1 (omega arith))

module _ (m : Model) (i : ℕ) (z : Job) (h : i < length m.jobs) where
  pub begin_set : Asc 1 m.jobs → begin (get_or m.jobs i z).ticket m ≡ with_model_jobs m (set m.jobs i (begun m.clock (get_or m.jobs i z)))
  begin_set a = ap (with_model_jobs m) (mark_set m.clock 1 m.jobs i z a h)

  pub job_stored : get_or (store m).jobs i z ≡ get_or m.jobs i z
  unfolding store pad
  job_stored = get_or-append m.jobs (replicate (limit.slots - length m.jobs) unused) z i h

  pub begin_stored : Asc 1 m.jobs → with_jobs (store m) (set (store m).jobs i (begun m.clock (get_or m.jobs i z))) ≡ store
      (begin (get_or m.jobs i z).ticket m)
  begin_stored a = put_stored m i (begun m.clock (get_or m.jobs i z)) h ∙ ap store (sym (begin_set a))

-- ## Settling, without its fuel

pub settle_rests : (m : Model) → choice m ≡ none → settled m ≡ record { model = m; started = [] }
unfolding settle
settle_rests m e = by (length (queue m.jobs))
  where
    by : (n : ℕ) → settle n m ≡ record { model = m; started = [] }
    by zero = refl
    by (suc n) = rw (e, settle)

pub settle_goes : (m : Model) (j : Job) → Asc 1 m.jobs → choice m ≡ some j
    → settled m ≡ record { model = (settled (begin j.ticket m)).model; started = j.ticket ∷ (settled (begin j.ticket m)).started }
unfolding settle
settle_goes m j a e = ap (λ (n : ℕ). settle n m) (sym (one_fewer m j a (chosen m j e))) ∙ by (length (queue (begin j.ticket m).jobs))
  where
    by : (n : ℕ) → settle (suc n) m ≡ record { model = (settle n (begin j.ticket m)).model; started = j.ticket ∷ (settle n (begin j.ticket m)).started }
    by n = rw (e, settle)
