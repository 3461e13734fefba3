-- A submission starts no job but its own, and the jobs that waited before it wait on. A corrected order that grows (document 02, No. 13) has one
-- answer, with the starts of a withdrawal and then those of a submission: so the tickets tell which are which.
-- Assumes nothing.
use Prim.Native.Nat.{ℕ, ◌+◌, ◌-◌, ◌≤◌, ◌<◌}
use Rattle.std.proofs.Common.{arith, sym, ◌∙◌, inl, inr, ⊎_elim}
use Rattle.std.specs.Prelude.{◌≡◌, not, ◌&&◌, ◌||◌, ◌⊎◌, ltb, eqb}
use Rattle.std.proofs.Math.Path.{refl, ap}
use Rattle.std.proofs.Math.Bool.{Bool, true, false}
use Rattle.std.proofs.Math.Option.{none, some}
use mathlib.Core.List.{List, [], ◌∷◌, ◌++◌, append-nil}
use Rattle.std.proofs.Math.Dec.{leb}
use borrow.Author.Tests.{leb-true, le-leb, lt-leb, eq-eqb, ne_eqb, ltb-false}
use Rattle.lists.specs.Tests.{case, true_false, on, both, either}
use Rattle.lists.specs.Lists.{keep, first, In, in_nil, in_cons, in_append, keep_in, keep_append, keep_all, sum_append, first_in}
use Rattle.lists.specs.Least.{least}
use Rattle.lists.specs.FirstLaws.{none_first}
use Rattle.scheduler.specs.declared.Job.{Job}
use Rattle.scheduler.specs.declared.Settings.{Settings}
use Rattle.scheduler.specs.declared.Submission.{Submission}
use Rattle.scheduler.specs.declared.Refusal.TheVariants as refusal
use Rattle.scheduler.specs.Jobs.{is_waiting, held}
use Rattle.scheduler.specs.Settings.{horizon, hold_time, unit}
use Rattle.scheduler.specs.Model.{Model, joined}
use Rattle.scheduler.specs.Answers.{Result, accepts}
use Rattle.jobs.specs.Judgement.{judged_accepted}
use Rattle.jobs.specs.Soundness.{Sound, Fit, passed, submit_fit}
use Rattle.history.specs.Calls.{submit}
use Rattle.easy_rules.specs.Easy.{queue, free, freed, avail, shadow, extra, qualifies, pick, choice, begin, finished, new_job, submit_refusal, call}
use Rattle.easy_laws.specs.Settling.{shadow_from, shadow_min, shadow_holds, none_starts, sum_mark, Chosen, chosen, Settles, rest, start, settles, queue_mark}
use Rattle.easy_laws.specs.Course.{head_in, avail_begin, passing_holds}
use Rattle.easy_laws.specs.Validity.{latest_end, Valid, begin_ready, submits, moved_ready}

-- who is picked from a queue
picked : (m : Model) (x h : Job) (r : List Job) → pick m (h ∷ r) ≡ some x → ((x ≡ h) × (h.nodes ≤ free m)) ⊎ (first (qualifies m h) r ≡ some x)
unfolding pick
picked m x h r e =
    case (leb h.nodes (free m))
    (λ l. let w : some h ≡ some x = rw l at e in let z : x ≡ h = cc in inl (z, leb-true h.nodes (free m) l))
    (λ l. inr (rw l at e))

module _ (m : Model) (o : Submission) (v : Valid m) (f : Fit m o) (room : latest_end m o.estimate ≤ horizon m.settings) where
  abbrev S : Settings
  S = m.settings

  abbrev new : Job
  new = new_job m o

  abbrev J : Model
  J = joined m new

  s : Sound J
  s = (moved_ready (submits o f room) v).sound

  -- ## The new job holds nothing yet

  free_join : free J ≡ free m
  free_join = omega (arith, sum_append held m.jobs (new ∷ []))

  avail_join : (t : ℕ) → avail J t ≡ avail m t
  avail_join t = omega (arith, free_join, sum_append (freed S t) m.jobs (new ∷ []))

  shadow_join : (n : ℕ) → shadow J n ≡ shadow m n
  unfolding shadow
  shadow_join n = ap (λ (p : ℕ → Bool). least p (unit S) m.clock) (λ i t. leb n (avail_join t i))

  queue_join : queue J.jobs ≡ queue m.jobs ++ (new ∷ [])
  queue_join = keep_append is_waiting m.jobs (new ∷ [])

  qualifies_join : (h y : Job) → qualifies J h y ≡ qualifies m h y
  unfolding qualifies extra
  qualifies_join h y =
      ap (λ (x : ℕ). by x (shadow J h.nodes) (avail J (shadow J h.nodes))) free_join
      ∙ ap (λ (x : ℕ). by (free m) x (avail J x)) (shadow_join h.nodes)
      ∙ ap (by (free m) (shadow m h.nodes)) (avail_join (shadow m h.nodes))
    where
      by : (now shadow then : ℕ) → Bool
      by now shadow then = leb y.nodes now && (leb (m.clock + hold_time S y.estimate) shadow || leb y.nodes (then - h.nodes))

  -- ## Nobody but the new job can start

  behind : (h : Job) (later : List Job) → queue m.jobs ≡ h ∷ later → (free m < h.nodes) × ((y : Job) → In y later → qualifies m h y ≡ false)
  behind h later e = none_starts m h later (ap (pick m) (sym e) ∙ v.rests)

  in_last : {y : Job} → In y (new ∷ []) → y ≡ new
  in_last i = ⊎_elim (λ e. e) (λ k. in_nil k) (in_cons i)

  chosen_new : (x : Job) → choice J ≡ some x → x ≡ new
  chosen_new x e = by (queue m.jobs) refl
    where
      by : (q : List Job) → queue m.jobs ≡ q → x ≡ new
      by [] p = go (picked J x new [] (sym (ap (pick J) (queue_join ∙ ap (λ (l : List Job). l ++ (new ∷ [])) p)) ∙ e))
        where
          go : ((x ≡ new) × (new.nodes ≤ free J)) ⊎ (first (qualifies J new) [] ≡ some x) → x ≡ new
          go (inl q) = q.0
          go (inr u) = in_nil (first_in (qualifies J new) [] u).0
      by (h ∷ later) p = go (picked J x h (later ++ (new ∷ [])) (sym (ap (pick J) (queue_join ∙ ap (λ (l : List Job). l ++ (new ∷ [])) p)) ∙ e))
        where
          or_new : In x later ⊎ In x (new ∷ []) → qualifies J h x ≡ true → x ≡ new
          or_new (inl k) q = true_false (qualifies J h x) q (qualifies_join h x ∙ (behind h later p).1 x k)
          or_new (inr k) q = in_last k

          go : ((x ≡ h) × (h.nodes ≤ free J)) ⊎ (first (qualifies J h) (later ++ (new ∷ [])) ≡ some x) → x ≡ new
          go (inl q) = absurd (omega (arith, q.1, free_join, (behind h later p).0))
          go (inr u) = let i = first_in (qualifies J h) (later ++ (new ∷ [])) u in or_new (in_append later i.0) i.1

  -- ## And once it has started, nobody can

  abbrev B : Model
  B = begin m.next J

  -- those that waited wait still
  queue_begun : queue B.jobs ≡ queue m.jobs
  queue_begun =
      queue_mark m.clock m.next J.jobs
      ∙ ap (keep other) queue_join
      ∙ keep_append other (queue m.jobs) (new ∷ [])
      ∙ rw (keep_all other (queue m.jobs) older, eq-eqb m.next m.next refl) (append-nil (queue m.jobs))
    where
      other : Job → Bool
      other j = not (eqb j.ticket m.next)

      older : (j : Job) → In j (queue m.jobs) → other j ≡ true
      older j i = ap not (ne_eqb j.ticket m.next (λ e. omega (arith, v.ready.sound.below j (keep_in is_waiting m.jobs i).0)))

  module _ (e : choice J ≡ some new) where
    c : Chosen J new
    c = chosen J new e

    -- it leaves no more nodes in any minute
    less : (t : ℕ) → avail B t ≤ avail m t
    less t = omega (arith, avail_begin J new s c t, avail_join t, free_join, c.fits, on_le' (leb (m.clock + hold_time S new.estimate) t) new.nodes)
      where
        on_le' : (b : Bool) (n : ℕ) → on b n ≤ n
        on_le' true n = omega arith
        on_le' false n = omega arith

    fewer : free B ≤ free m
    fewer =
        omega (arith, free_join, sum_mark held m.clock 1 J.jobs s.asc c.isin)

    -- a job that the head let pass leaves the head's shadow where it was
    shadow_stays : (h : Job) (later : List Job) → queue m.jobs ≡ h ∷ later → shadow B h.nodes ≡ shadow m h.nodes
    shadow_stays h later p =
        let n = h.nodes in
        let to : n ≤ S.nodes = (v.ready.sound.each h (head_in m h later p).0).nodes_to in
        let q : qualifies J h new ≡ true = passes h later p in
        let t = shadow J n in
        let u = shadow B n in
        omega (
          arith,
          shadow_join n,
          shadow_min B n t (passing_holds J new s c h to q) (shadow_from J n),
          shadow_min m n u (omega (arith, less u, begun_holds n to)) (shadow_from B n),
        )
      where
        begun_sound : Sound B
        begun_sound = (begin_ready J new (moved_ready (submits o f room) v) c).sound

        begun_holds : (n : ℕ) → n ≤ S.nodes → n ≤ avail B (shadow B n)
        begun_holds n to = shadow_holds B n begun_sound to

        passes : (h : Job) (later : List Job) → queue m.jobs ≡ h ∷ later → qualifies J h new ≡ true
        passes h later p = go (picked J new h (later ++ (new ∷ [])) (sym (ap (pick J) (queue_join ∙ ap (λ (l : List Job). l ++ (new ∷ [])) p)) ∙ e))
          where
            go : ((new ≡ h) × (h.nodes ≤ free J)) ⊎ (first (qualifies J h) (later ++ (new ∷ [])) ≡ some new) → qualifies J h new ≡ true
            go (inl q) = absurd (omega (arith, q.1, free_join, (behind h later p).0))
            go (inr u) = (first_in (qualifies J h) (later ++ (new ∷ [])) u).1

    -- who did not qualify does not
    still : (h : Job) (later : List Job) → queue m.jobs ≡ h ∷ later → (y : Job) → qualifies B h y ≡ true → qualifies m h y ≡ true
    unfolding qualifies extra
    still h later p y q =
        let t = shadow m h.nodes in
        let st = shadow_stays h later p in
        let one = leb (m.clock + hold_time S y.estimate) (shadow B h.nodes) in
        let two = leb y.nodes (avail B (shadow B h.nodes) - h.nodes) in
        let a = both (leb y.nodes (free B)) (one || two) q in
        let fit = leb-true y.nodes (free B) a.0 in
        rw (le-leb y.nodes (free m) (omega (arith, fewer)))
        (⊎_elim
        (λ (i : one ≡ true).
        let w = leb-true (m.clock + hold_time S y.estimate) (shadow B h.nodes) i in
        rw (le-leb (m.clock + hold_time S y.estimate) t (omega (arith, st))))
        (λ (i : two ≡ true).
        let w = leb-true y.nodes (avail B (shadow B h.nodes) - h.nodes) i in
        let z : y.nodes ≤ avail m t - h.nodes = omega (arith, less t, ap (avail B) st) in
        or_right (leb (m.clock + hold_time S y.estimate) t) (le-leb y.nodes (avail m t - h.nodes) z))
        (either one two a.1))
      where
        or_right : (b : Bool) {d : Bool} → d ≡ true → (b || d) ≡ true
        or_right true x = refl
        or_right false x = x

    begun_rests : choice B ≡ none
    unfolding pick
    begun_rests = by (queue m.jobs) refl
      where
        by : (q : List Job) → queue m.jobs ≡ q → choice B ≡ none
        by [] p = ap (pick B) (queue_begun ∙ p)
        by (h ∷ later) p =
            let x = behind h later p in
            ap (pick B) (queue_begun ∙ p)
            ∙ rw (lt-leb h.nodes (free B) (omega (arith, fewer, x.0)))
            (none_first (qualifies B h) later (λ y i.
            case (qualifies B h y) (λ q. true_false (qualifies m h y) (still h later p y q) (x.1 y i)) (λ q. q)))

  -- ## So a submission starts its own job, or nobody, and those that waited wait still

  pub own_start : {m' : Model} {ts : List ℕ} → Settles J m' ts → ((ts ≡ []) × (m' ≡ J)) ⊎ ((ts ≡ m.next ∷ []) × (m' ≡ B))
  own_start t = go t refl
    where
      none_more : {k m' : Model} {ts : List ℕ} → Settles k m' ts → choice k ≡ none → (ts ≡ []) × (m' ≡ k)
      none_more (rest e) n = (refl, refl)
      none_more (start j e r) n = absurd (let q : some j ≡ none = sym e ∙ n in let z : ◌≡◌ {A = ℕ} 0 1 = cc in omega arith)

      go : {k m' : Model} {ts : List ℕ} → Settles k m' ts → k ≡ J → ((ts ≡ []) × (m' ≡ J)) ⊎ ((ts ≡ m.next ∷ []) × (m' ≡ B))
      go (rest e) q = inl (refl, q)
      go (start {m = k} {ts = ts} j e r) q =
          let c : choice J ≡ some j = ap choice (sym q) ∙ e in
          let n : j ≡ new = chosen_new j c in
          let b : begin j.ticket k ≡ B = ap (λ (x : Model). begin j.ticket x) q ∙ ap (λ (x : Job). begin x.ticket J) n in
          let w = none_more r (ap choice b ∙ begun_rests (c ∙ ap some n)) in
          inr (ap (λ (x : Job). x.ticket ∷ ts) n ∙ ap (λ (l : List ℕ). m.next ∷ l) w.0, w.1 ∙ b)

  -- so those that waited wait still, and before it
  pub own_queue : {m' : Model} {ts : List ℕ} → Settles J m' ts → (queue m'.jobs ≡ queue m.jobs) ⊎ (queue m'.jobs ≡ queue m.jobs ++ (new ∷ []))
  own_queue t =
      ⊎_elim (λ r. inr (ap (λ (x : Model). queue x.jobs) r.1 ∙ queue_join))
      (λ r. inl (ap (λ (x : Model). queue x.jobs) r.1 ∙ queue_begun)) (own_start t)

-- ## A submission that is taken

pub record TakenIn (m : Model) (o : Submission) : Type 0 where
  pub fit : Fit m o
  pub room : latest_end m o.estimate ≤ horizon m.settings
  pub is : call m (submit o) ≡ finished m (joined m (new_job m o)) m.next []

pub taken_in : (m : Model) (o : Submission) → accepts (call m (submit o)).reply.refusal ≡ true → TakenIn m o
unfolding call submit_refusal
taken_in m o x =
    let a = judged_accepted m (submit_refusal m o) (finished m (joined m (new_job m o)) m.next []) x in
    let f = submit_fit m o _ a.0 in
    let p = passed (ltb (horizon m.settings) (latest_end m o.estimate)) refusal.PastHorizon [] refl f.1 in
    record { fit = f.0; room = ltb-false (horizon m.settings) (latest_end m o.estimate) p.0; is = a.1 }

-- so it starts one job at most
pub starts_one : (m : Model) (o : Submission) → Valid m → accepts (call m (submit o)).reply.refusal ≡ true
    → ((call m (submit o)).reply.started ≡ []) ⊎ ((call m (submit o)).reply.started ≡ m.next ∷ [])
unfolding finished
starts_one m o v x =
    let t = taken_in m o x in
    let e = ap (λ (r : Result). r.reply.started) t.is in
    ⊎_elim (λ y. inl (e ∙ y.0)) (λ y. inr (e ∙ y.0))
    (own_start m o v t.fit t.room (settles (joined m (new_job m o)) (moved_ready (submits o t.fit t.room) v).sound))
