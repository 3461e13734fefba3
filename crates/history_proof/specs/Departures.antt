-- How a kind shows that its answer tells what has changed: the jobs after an event are those that stay, each as the event says, and who
-- comes; and how it shows what is kept of a start.
-- Assumes nothing.
use Rattle.std.specs.Prelude.{◌≡◌, refl, Bool, true, false, not, cond, List, [], ◌++◌, map, ◌⊎◌, ℕ, suc, ◌+◌, ◌≤◌, ◌<◌, eqb}
use Rattle.std.proofs.Math.Path.{sym}
use Rattle.std.proofs.Common.{ap, subst, ◌∙◌, append-nil, inl, inr, arith, le-ltb, lt-ltb, eqb-true, ne_eqb}
use Rattle.std.proofs.lemmas.List.{map-append}
use Rattle.std.proofs.lemmas.Simd.{map-map}
use Rattle.std.proofs.lemmas.Bool.{eqb-false}
use Rattle.lists.specs.Tests.{case, true_false, both, and_right_false}
use Rattle.lists.specs.Lists.{keep, elem, In, in_keep, keep_append, keep_all, keep_none, keep_cong, keep_map, map_cong}
use Rattle.scheduler.specs.declared.State.{State}
use Rattle.scheduler.specs.declared.State.TheVariants.{Unused, Waiting, Running, Cleanup}
use Rattle.scheduler.specs.declared.Job.{Job}
use Rattle.scheduler.specs.declared.Settings.{Settings}
use Rattle.scheduler.specs.declared.Departure.TheVariants.{Complete}
use Rattle.scheduler.specs.declared.Select.{Select}
use Rattle.scheduler.specs.declared.Select.TheVariants as select
use Rattle.scheduler.specs.States.{waiting?, running?, cleaning?}
use Rattle.scheduler.specs.Jobs as jobs
use Rattle.scheduler.specs.Jobs.{is_waiting, is_running, is_cleaning}
use Rattle.scheduler.specs.Settings.{cleanup, until}
use Rattle.scheduler.specs.Times.{until_cleaning}
use Rattle.scheduler.specs.Table.{tickets_of, ends, ended_of, withdraws, releases, leaves, ceased}
use Rattle.scheduler.specs.Model.{Model}
use Rattle.scheduler.specs.Answers.{Result}
use Rattle.jobs.specs.Order.{asc_in, job_elem, elem_picked}
use Rattle.jobs.specs.Departing.{Ran}
use Rattle.jobs.specs.Soundness.{SoundJob, Sound, Leaving, early, in_time_lem, withdraws_waits, ends_runs, releases_cleaned, stays, cleans_on, cleaning_holds}
use Rattle.history.specs.Calls.{Call}
use Rattle.history.specs.News.{Newcomer, News, news_of, nothing, clock_after, amended_nodes, amended_least}
use Rattle.history.specs.Book.{Fate, waiting, cleaning, ended, over, fate_after, waits, asked_of}
use Rattle.history.specs.Beginning.{fate_by}
use Rattle.history_proof.specs.Obligations.{JobShown, shown, live, is_live_of, remark, shown_after, newly, comers, Tells, Aim, Kept}
use Rattle.history_proof.specs.Obligations.{Queued}

-- the same job with another fate
abbrev pub refated : JobShown → Fate → JobShown
refated x f = record { ticket = x.ticket; nodes = x.nodes; promise = x.promise; tenant = x.tenant; least = x.least; fate = f }

pub shown_with : (x : JobShown) (f : Fate) → f ≡ x.fate → refated x f ≡ x
shown_with x f e = ap (refated x) e

-- where nobody is amended, an event leaves of a job all but its fate
pub remark_same : (k c : ℕ) (e : News) (x : JobShown) → e.amended ≡ []
    → remark k c e x ≡ refated x (fate_after k c e x.ticket x.fate)
remark_same k c e x n = λ i. record {
  ticket = x.ticket;
  nodes = nodes i;
  promise = x.promise;
  tenant = x.tenant;
  least = least i;
  fate = fate_after k c e x.ticket x.fate;
}
  where
    nodes : asked_of amended_nodes e.amended x.fate x.ticket x.nodes ≡ x.nodes
    nodes = ap (λ cs. asked_of amended_nodes cs x.fate x.ticket x.nodes) n ∙ case (waits x.fate) (λ w. rw w) (λ w. rw w)

    least : asked_of amended_least e.amended x.fate x.ticket x.least ≡ x.least
    least = ap (λ cs. asked_of amended_least cs x.fate x.ticket x.least) n ∙ case (waits x.fate) (λ w. rw w) (λ w. rw w)

-- so of one that does not wait
pub remark_started : (k c : ℕ) (e : News) (x : JobShown) → waits x.fate ≡ false
    → remark k c e x ≡ refated x (fate_after k c e x.ticket x.fate)
remark_started k c e x w = rw w

-- a job that waits is in the queue
pub queued_by : (m : Model) (t : ℕ) (j : Job) → In j m.jobs → is_waiting j ≡ true → j.ticket ≡ t → Queued m t
queued_by m t j i w e = subst (Queued m) e (job_elem (keep is_waiting m.jobs) (in_keep is_waiting i w))

-- whose nodes are taken still, where nodes stay taken for k minutes after the end n, and whose are free
over_holds : (k c s n : ℕ) → c < n + k → over k c s n ≡ cleaning s n
over_holds k c s n l = rw (lt-ltb c (n + k) l)

over_free : (k c s n : ℕ) → n + k ≤ c → over k c s n ≡ ended s
over_free k c s n l = rw (le-ltb c (n + k) l)

running_is : (s : State) → running? s ≡ true → s ≡ Running
running_is Unused r = true_false false r refl
running_is Waiting r = true_false false r refl
running_is Running r = refl
running_is Cleanup r = true_false false r refl

-- it is live after an event that leaves the clock at c, where nodes stay taken for k minutes
abbrev pub lives : (k c : ℕ) → News → Job → Bool
lives k c e j = is_live_of (remark k c e (shown j))

-- ## Those that a test picks leave

-- an event says so: whose runs end, and who is withdrawn
pub record Departs (m : Model) (c : ℕ) (s : Select) (e : News) : Type 0 where
  pub leaving : Leaving m c s
  pub ended_are : e.ended ≡ ended_of s m.jobs
  pub withdrew_are : e.withdrew ≡ tickets_of (keep (withdraws s) m.jobs)
  pub none_amended : e.amended ≡ []

module _ (m : Model) (c : ℕ) (s : Select) (e : News) (v : Sound m) (d : Departs m c s e) where
  abbrev S : Settings
  S = m.settings

  abbrev k : ℕ
  k = cleanup S

  module _ (j : Job) (i : In j m.jobs) where
    says_ended : elem j.ticket e.ended ≡ ends s j
    says_ended = ap (elem j.ticket) d.ended_are ∙ elem_picked (ends s) 1 m.jobs j v.asc i

    says_withdrew : elem j.ticket e.withdrew ≡ withdraws s j
    says_withdrew = ap (elem j.ticket) d.withdrew_are ∙ elem_picked (withdraws s) 1 m.jobs j v.asc i

    f : SoundJob S m.clock j
    f = v.each j i

    -- a job in cleanup is released in the minute in which its nodes are free
    released_now : is_cleaning j ≡ true → releases s j ≡ true → j.end + k ≤ c
    released_now r q = go d.leaving q
      where
        go : {c : ℕ} {s : Select} → Leaving m c s → releases s j ≡ true → j.end + k ≤ c
        go (early h t) q = true_false false q refl
        go (in_time_lem l) q =
            omega (arith, until_cleaning S j r, eqb-true (until S j) (suc m.clock) (both (is_cleaning j) (eqb (until S j) (suc m.clock)) q).1)

    -- and until then its nodes are taken
    still : is_cleaning j ≡ true → releases s j ≡ false → c < j.end + k
    still r q = omega (arith, until_cleaning S j r, cleans_on m c s d.leaving j f r q)

    -- who lives on: who does not leave
    pub departs_live : lives k c e j ≡ not (leaves S s j)
    departs_live = go j.state refl
      where
        unless : (b d : Bool) → (b ≡ true → d ≡ true) → d ≡ false → b ≡ false
        unless b d h n = case b (λ q. true_false d (h q) n) (λ q. q)

        -- one that waits
        wait : is_running j ≡ false → is_cleaning j ≡ false → live (fate_after k c e j.ticket waiting) ≡ not (leaves S s j)
        wait r n =
            rw (says_withdrew, unless (releases s j) (is_cleaning j) (releases_cleaned s j) n, unless (ends s j) (is_running j) (ends_runs s j) r)
            (case (withdraws s j) (λ w. rw w) (λ w. rw w (case (elem j.ticket e.started) (λ y. rw y) (λ y. rw y))))

        go : (x : State) → j.state ≡ x → live (fate_after k c e j.ticket (fate_by x j.start j.end)) ≡ not (leaves S s j)
        go Unused q = wait (ap running? q) (ap cleaning? q)
        go Waiting q = wait (ap running? q) (ap cleaning? q)
        go Running q =
            rw (
              says_ended,
              unless (withdraws s j) (is_waiting j) (withdraws_waits s j) (ap waiting? q),
              unless (releases s j) (is_cleaning j) (releases_cleaned s j) (ap cleaning? q),
            )
            (case (ends s j)
            (λ y. rw y (case (eqb k 0)
            (λ z. rw z (ap live (over_free k c j.start c (omega (arith, eqb-true k 0 z)))))
            (λ z. rw z (ap live (over_holds k c j.start c (omega (arith, eqb-false k 0 z)))))))
            (λ y. rw y))
        go Cleanup q =
            rw (
              unless (withdraws s j) (is_waiting j) (withdraws_waits s j) (ap waiting? q),
              unless (ends s j) (is_running j) (ends_runs s j) (ap running? q),
            )
            (case (releases s j)
            (λ y. rw y (ap live (over_free k c j.start j.end (released_now (ap cleaning? q) y))))
            (λ y. rw y (ap live (over_holds k c j.start j.end (still (ap cleaning? q) y)))))

    -- who lives on and does not start is shown as it remains
    pub departs_shown : leaves S s j ≡ false → elem j.ticket e.started ≡ false → remark k c e (shown j) ≡ shown (ceased c s j)
    departs_shown n p =
        let u = stays S s j n in
        case (ends s j)
        (λ y. rw y (remark_same k c e (shown j) d.none_amended ∙ shown_with (shown (jobs.cleaning c j)) _ (ending_fate (ends_runs s j y) y (u.2 y))))
        (λ y. rw y (remark_same k c e (shown j) d.none_amended ∙ shown_with (shown j) _ (same_fate y u.0 u.1)))
      where
        ending_fate : is_running j ≡ true → ends s j ≡ true → 1 ≤ k → fate_after k c e j.ticket (fate_by j.state j.start j.end) ≡ cleaning j.start c
        ending_fate r y l = rw (running_is j.state r, says_ended, y) (over_holds k c j.start c (omega arith))

        same_fate : ends s j ≡ false → withdraws s j ≡ false → releases s j ≡ false
            → fate_after k c e j.ticket (fate_by j.state j.start j.end) ≡ fate_by j.state j.start j.end
        same_fate y w z = go j.state refl
          where
            go : (x : State) → j.state ≡ x → fate_after k c e j.ticket (fate_by x j.start j.end) ≡ fate_by x j.start j.end
            go Unused q = rw (says_withdrew, w, p)
            go Waiting q = rw (says_withdrew, w, p)
            go Running q = rw (says_ended, y)
            go Cleanup q = over_holds k c j.start j.end (still (ap cleaning? q) z)

-- ## The jobs after an event

module _ (k c : ℕ) (e : News) where
  -- they are those that a test did not pick, each as the event says, and who comes
  pub tells_by : (p : Job → Bool) (js after : List Job) → ((j : Job) → In j js → lives k c e j ≡ not (p j))
      → map shown after ≡ map (remark k c e) (map shown (keep (λ (j : Job). not (p j)) js)) ++ keep is_live_of (map (remark k c e) (comers e))
      → map shown after ≡ shown_after k c e (map shown js ++ comers e)
  tells_by p js after f h =
      h
      ∙ ap (λ (l : List JobShown). l ++ keep is_live_of (map (remark k c e) (comers e))) (sym stayed)
      ∙ sym (keep_append is_live_of (map (remark k c e) (map shown js)) (map (remark k c e) (comers e)))
      ∙ sym (ap (keep is_live_of) (map-append (remark k c e) (map shown js) (comers e)))
    where
      stayed : keep is_live_of (map (remark k c e) (map shown js)) ≡ map (remark k c e) (map shown (keep (λ (j : Job). not (p j)) js))
      stayed =
          keep_map is_live_of (remark k c e) (map shown js)
          ∙ ap (map (remark k c e))
          (keep_map (λ (x : JobShown). is_live_of (remark k c e x)) shown js ∙ ap (map shown) (keep_cong (lives k c e) (λ (j : Job). not (p j)) js f))

  -- where nobody comes
  pub tells_leave : (p : Job → Bool) (js after : List Job) → ((j : Job) → In j js → lives k c e j ≡ not (p j)) → e.came ≡ []
      → map shown after ≡ map (remark k c e) (map shown (keep (λ (j : Job). not (p j)) js)) → map shown after ≡ shown_after k c e (map shown js ++ comers e)
  tells_leave p js after f n h =
      tells_by p js after f
      (h ∙ sym (append-nil stay) ∙ ap (λ (os : List Newcomer). stay ++ keep is_live_of (map (remark k c e) (map newly os))) (sym n))
    where
      stay : List JobShown
      stay = map (remark k c e) (map shown (keep (λ (j : Job). not (p j)) js))

-- ## Nobody leaves

-- no job has ticket 0
pub nobody : Select
nobody = select.Departing Complete 0

module _ (m : Model) (e : News) (v : Sound m) (d : e.ended ≡ []) (w : e.withdrew ≡ []) (n : e.amended ≡ []) where
  pub none_ends : (j : Job) → In j m.jobs → ends nobody j ≡ false
  unfolding nobody
  none_ends j i = and_right_false (is_running j) (ne_eqb j.ticket 0 (λ z. omega (arith, asc_in 1 m.jobs v.asc i)))

  pub nobody_departs : Departs m m.clock nobody e
  unfolding nobody
  nobody_departs = record {
    leaving = early Complete 0;
    ended_are = d ∙ sym (ap tickets_of (keep_none (ends nobody) m.jobs none_ends));
    withdrew_are = w ∙ sym (ap tickets_of (keep_none (λ (j : Job). false) m.jobs (λ j i. refl)));
    none_amended = n;
  }

  pub none_leaves : (j : Job) → In j m.jobs → leaves m.settings nobody j ≡ false
  unfolding nobody
  none_leaves j i = rw (none_ends j i)

  pub stay_live : (j : Job) → In j m.jobs → lives (cleanup m.settings) m.clock e j ≡ true
  stay_live j i = departs_live m m.clock nobody e v nobody_departs j i ∙ ap not (none_leaves j i)

  -- who does not start is shown as it was
  pub stay_shown : (j : Job) → In j m.jobs → elem j.ticket e.started ≡ false → remark (cleanup m.settings) m.clock e (shown j) ≡ shown j
  stay_shown j i p =
      departs_shown m m.clock nobody e v nobody_departs j i (none_leaves j i) p
      ∙ ap (λ (b : Bool). shown (cond b (jobs.cleaning m.clock j) j)) (none_ends j i)

  -- and nobody starts but who comes
  pub tells_stay : (more : List Job) → ((j : Job) → In j m.jobs → elem j.ticket e.started ≡ false)
      → map shown more ≡ keep is_live_of (map (remark (cleanup m.settings) m.clock e) (comers e))
      → map shown (m.jobs ++ more) ≡ shown_after (cleanup m.settings) m.clock e (map shown m.jobs ++ comers e)
  tells_stay more f h =
      let k = cleanup m.settings in
      let c = m.clock in
      tells_by k c e (λ (j : Job). false) m.jobs (m.jobs ++ more) stay_live
      (map-append shown m.jobs more ∙ rw (keep_all (λ (j : Job). true) m.jobs (λ j i. refl), h)
      (ap (λ (l : List JobShown). l ++ keep is_live_of (map (remark k c e) (comers e)))
      (sym (map-map (remark k c e) shown m.jobs
      ∙ map_cong (λ (j : Job). remark k c e (shown j)) shown m.jobs (λ j i. stay_shown j i (f j i))))))

-- where nothing is said, nothing has changed
pub tells_nothing : (m : Model) (e : News) → Sound m → e ≡ nothing → Tells m e m
tells_nothing m e v n =
    subst (λ (x : News). Tells m x m) (sym n) (rw (append-nil m.jobs) at (tells_stay m nothing v refl refl refl [] (λ j i. refl) refl))

-- ## Whose run ends

-- it ran, for its least or longer
abbrev pub Ended : Model → Call → ℕ → Result → Type 0
Ended m c u r = elem u r.reply.ended ≡ true → Ran m (clock_after (news_of c r.reply) m.clock) u

-- ## What is kept of a start

-- one that waits and is withdrawn lives on no longer
pub withdrawn_dies : (k c : ℕ) (e : News) (j : Job) → is_waiting j ≡ true → elem j.ticket e.withdrew ≡ true → lives k c e j ≡ false
withdrawn_dies k c e j w q = go j.state w
  where
    go : (s : State) → waiting? s ≡ true → live (fate_after k c e j.ticket (fate_by s j.start j.end)) ≡ false
    go Unused w = true_false false w refl
    go Waiting w = rw q
    go Running w = true_false false w refl
    go Cleanup w = true_false false w refl

-- of whom an event says nothing lives on, as long as its nodes are taken
pub unless_said : (S : Settings) (c : ℕ) (e : News) (j : Job) → SoundJob S c j → elem j.ticket e.withdrew ≡ false → elem j.ticket e.ended ≡ false
    → lives (cleanup S) c e j ≡ true
unless_said S c e j f w n = go j.state refl
  where
    wait : live (fate_after (cleanup S) c e j.ticket waiting) ≡ true
    wait = rw w (case (elem j.ticket e.started) (λ y. rw y) (λ y. rw y))

    go : (s : State) → j.state ≡ s → live (fate_after (cleanup S) c e j.ticket (fate_by s j.start j.end)) ≡ true
    go Unused q = wait
    go Waiting q = wait
    go Running q = rw n
    go Cleanup q =
        ap live (over_holds (cleanup S) c j.start j.end
        (omega (arith, f.holds (cleaning_holds j.state (ap cleaning? q)), until_cleaning S j (ap cleaning? q))))

-- where the job is not withdrawn: it has started so, or goes on waiting and is on course still
pub kept_by : (e : News) (a : Aim) (Course : Model → ℕ → Type 0) (m : Model) (t : ℕ) → elem t e.withdrew ≡ false
    → ((elem t e.started ≡ true) × a.may_start m.clock) ⊎ ((elem t e.started ≡ false) × Course m t) → Kept a Course t e m
kept_by e a Course m t w (inl (q, p)) = rw (w, q) p
kept_by e a Course m t w (inr (q, o)) = rw (w, q) o
