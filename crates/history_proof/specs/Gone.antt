-- A ticket that is over is in no later answer: once a job is withdrawn or its run has ended, no call starts it, ends its run, withdraws it,
-- forecasts it or gives its ticket again.
-- Assumes nothing.
use Rattle.std.specs.Prelude.{◌≡◌, refl, true, false, List, [], ◌∷◌, ◌++◌, map, ◌⊎◌, ℕ, suc, ◌+◌, ◌≤◌, ◌<◌, ltb}
use Rattle.std.proofs.Common.{sym, ap, subst, ◌∙◌, inl, inr, arith}
use Rattle.std.proofs.Math.Option.{some}
use Rattle.lists.specs.Tests.{case, true_false}
use Rattle.lists.specs.Lists.{keep, elem, All, In, in_append, in_map, map_in, keep_in}
use Rattle.scheduler.specs.declared.Kind.{Kind}
use Rattle.scheduler.specs.declared.Job.{Job}
use Rattle.scheduler.specs.declared.State.{State}
use Rattle.scheduler.specs.declared.State.TheVariants.{Unused, Waiting, Running, Cleanup}
use Rattle.scheduler.specs.States.{running?, cleaning?}
use Rattle.scheduler.specs.Jobs.{is_waiting, is_running, is_cleaning}
use Rattle.scheduler.specs.Settings.{cleanup}
use Rattle.scheduler.specs.Model.{Model}
use Rattle.scheduler.specs.Answers.{Forecast}
use Rattle.jobs.specs.Order.{asc_one, elem_job}
use Rattle.jobs.specs.Departing.{Ran}
use Rattle.jobs.specs.Soundness.{waiting_clean, running_clean}
use Rattle.history.specs.Calls.{Call, Rules, Event, events}
use Rattle.history.specs.News.{Newcomer, amended_ticket, News, news, clock_after}
use Rattle.history.specs.Tickets.{next_after}
use Rattle.history.specs.Book.{over, fate_after}
use Rattle.history.specs.Beginning.{fate_by}
use Rattle.history_proof.specs.Obligations.{JobShown, shown, live, is_live_of, remark, newly, comers, said, Queued, Comes, Lawful, Ticketed}
use Rattle.history_proof.specs.Departures.{lives, withdrawn_dies}
use Rattle.history_proof.specs.Cleaning.{cleans, cleans_job}

-- an event says nothing of this ticket
pub record Unsaid (t : ℕ) (e : News) : Type 0 where
  pub came : Comes e t → ⊥
  pub amended : elem t (map amended_ticket e.amended) ≡ false
  pub withdrew : elem t e.withdrew ≡ false
  pub ended : elem t e.ended ≡ false
  pub started : elem t e.started ≡ false
  pub head : (f : Forecast) → e.head ≡ some f → f.ticket ≡ t → ⊥

-- nor does a list of calls and answers
abbrev pub Silent : ℕ → List Event → Type 0
Silent t es = All (λ (e : Event). Unsaid t (news e)) es

-- the ticket was given, and the only job that may have it is in cleanup
pub record Gone (m : Model) (t : ℕ) : Type 0 where
  pub given : t < m.next
  pub absent : (j : Job) → In j m.jobs → j.ticket ≡ t → is_cleaning j ≡ true

-- so none that waits
gone_waits : (m : Model) (t : ℕ) → Gone m t → Queued m t → ⊥
gone_waits m t g e =
    let j = elem_job t (keep is_waiting m.jobs) e in
    let k = keep_in is_waiting m.jobs j.1 in
    true_false (is_cleaning j.0) (g.absent j.0 k.0 j.2) (waiting_clean j.0.state k.1)

abbrev ticket_shown : JobShown → ℕ
ticket_shown x = x.ticket

-- whose run is over, and who is live, is in cleanup
over_cleans : (k c s n : ℕ) → live (over k c s n) ≡ true → cleans (over k c s n) ≡ true
over_cleans k c s n l = case (ltb c (n + k)) (λ q. rw q) (λ q. true_false false (rw q at l) refl)

-- one that is in cleanup stays so, and one whose run ends comes to be so
cleans_on : (k c : ℕ) (e : News) (t : ℕ) (s : State) (b n : ℕ) → (cleaning? s ≡ true) ⊎ ((running? s ≡ true) × (elem t e.ended ≡ true))
    → live (fate_after k c e t (fate_by s b n)) ≡ true → cleans (fate_after k c e t (fate_by s b n)) ≡ true
cleans_on k c e t Unused b n (inl q) l = true_false false q refl
cleans_on k c e t Unused b n (inr (r, x)) l = true_false false r refl
cleans_on k c e t Waiting b n (inl q) l = true_false false q refl
cleans_on k c e t Waiting b n (inr (r, x)) l = true_false false r refl
cleans_on k c e t Running b n (inl q) l = true_false false q refl
cleans_on k c e t Running b n (inr (r, x)) l = rw x (over_cleans k c b c (rw x at l))
cleans_on k c e t Cleanup b n (inl q) l = over_cleans k c b n l
cleans_on k c e t Cleanup b n (inr (r, x)) l = true_false false r refl

-- the next ticket never falls
next_up : (os : List Newcomer) (n : ℕ) → n ≤ next_after os n
next_up [] n = omega arith
next_up (o ∷ os) n = omega (arith, next_up os (suc n))

module _ {k : Kind} {R : Rules} {Valid : Model → Type 0} {OnCourse : Model → ℕ → ℕ → Type 0} (L : Lawful k R Valid OnCourse) (T : Ticketed R Valid OnCourse) where
  module _ (m : Model) (c : Call) (v : Valid m) where
    abbrev m' : Model
    m' = (R m c).model

    abbrev r : News
    r = said R m c

    abbrev lasts : ℕ
    lasts = cleanup m'.settings

    -- a job after the call was there before it and lives on, or has the ticket given now
    data From (j : Job) : Type 0 where
      before : (i : Job) → In i m.jobs → shown j ≡ remark lasts m'.clock r (shown i) → lives lasts m'.clock r i ≡ true → From j
      now : j.ticket ≡ m.next → From j

    from : (j : Job) → In j m'.jobs → From j
    from j i =
        let xs = map shown m.jobs ++ comers r in
        let k = keep_in is_live_of (map (remark lasts m'.clock r) xs) (subst (In (shown j)) (L.tells m c v) (in_map shown i)) in
        let x = map_in (remark lasts m'.clock r) xs k.0 in
        go x.0 x.2 (sym (ap is_live_of x.2) ∙ k.1) (in_append (map shown m.jobs) x.1)
      where
        go : (x : JobShown) → shown j ≡ remark lasts m'.clock r x → is_live_of (remark lasts m'.clock r x) ≡ true
            → In x (map shown m.jobs) ⊎ In x (comers r) → From j
        go x e l (inl k) =
            let y = map_in shown m.jobs k in
            before y.0 y.1 (e ∙ ap (remark lasts m'.clock r) y.2) (sym (ap (λ (z : JobShown). is_live_of (remark lasts m'.clock r z)) y.2) ∙ l)
        go x e l (inr k) = let y = map_in newly r.came k in now (ap ticket_shown e ∙ ap ticket_shown y.2 ∙ T.gives m c y.0 v y.1)

    -- who is gone after the call: a ticket given before it, if the only job that lives on with it is in cleanup
    gone_after : (t : ℕ) → t < m.next
        → ((i : Job) → In i m.jobs → i.ticket ≡ t → lives lasts m'.clock r i ≡ true
        → (is_cleaning i ≡ true) ⊎ ((is_running i ≡ true) × (elem t r.ended ≡ true)))
        → Gone m' t
    gone_after t l f = record { given = omega (arith, T.next m c v, next_up r.came m.next); absent = λ j i e. by j e (from j i) }
      where
        by : (j : Job) → j.ticket ≡ t → From j → is_cleaning j ≡ true
        by j e (before i k q y) =
            let u : i.ticket ≡ t = sym (ap ticket_shown q) ∙ e in
            sym (cleans_job j.state j.start j.end)
            ∙ ap (λ (x : JobShown). cleans x.fate) q
            ∙ cleans_on lasts m'.clock r i.ticket i.state i.start i.end (named (sym u) (f i k u y)) y
          where
            named : {x y : ℕ} {A : Type 0} → x ≡ y → A ⊎ ((is_running i ≡ true) × (elem x r.ended ≡ true))
                → A ⊎ ((is_running i ≡ true) × (elem y r.ended ≡ true))
            named e (inl a) = inl a
            named e (inr (b, z)) = inr (b, subst (λ (t : ℕ). elem t r.ended ≡ true) e z)
        by j e (now q) = absurd (omega arith)

    gone_stays : (t : ℕ) → Gone m t → Gone m' t
    gone_stays t g = gone_after t g.given (λ i k e y. inl (g.absent i k e))

    -- the one job with a ticket
    alone : (t : ℕ) (i j : Job) → In i m.jobs → In j m.jobs → i.ticket ≡ t → j.ticket ≡ t → i ≡ j
    alone t i j k l e q = asc_one 1 m.jobs i j (T.sound m v).asc k l (e ∙ sym q)

    pub withdrawn_gone : (t : ℕ) → elem t r.withdrew ≡ true → Gone m' t
    withdrawn_gone t q =
        let j = elem_job t (keep is_waiting m.jobs) (L.withdraws m c t v q) in
        let p = keep_in is_waiting m.jobs j.1 in
        gone_after t (omega (arith, j.2, (T.sound m v).below j.0 p.0)) (λ i k e y.
        true_false (lives lasts m'.clock r i) y
        (withdrawn_dies lasts m'.clock r i (ap is_waiting (alone t i j.0 k p.0 e j.2) ∙ p.1)
        (ap (λ (t : ℕ). elem t r.withdrew) e ∙ q)))

    pub ended_gone : (t : ℕ) → elem t r.ended ≡ true → Gone m' t
    ended_gone t q =
        let j = T.ends m c t v q in
        gone_after t (omega (arith, j.named, (T.sound m v).below j.job j.inside))
        (λ i k e y. inr (ap is_running (alone t i j.job k j.inside e j.named) ∙ j.runs, q))

    -- and the call that withdraws does not start
    pub withdrawn_unstarted : (t : ℕ) → elem t r.withdrew ≡ true → elem t r.started ≡ false
    withdrawn_unstarted t q = case (elem t r.started) (λ s. true_false (elem t r.withdrew) q (L.starts m c t v s).0) (λ s. s)

    -- nothing is said of a ticket that is gone
    gone_unsaid : (t : ℕ) → Gone m t → Unsaid t r
    gone_unsaid t g = record {
      came = new;
      amended = never (map amended_ticket r.amended) (λ e. gone_waits m t g (L.amends m c t v e));
      withdrew = never r.withdrew (λ e. gone_waits m t g (L.withdraws m c t v e));
      ended = never r.ended (λ e. ran (T.ends m c t v e));
      started = never r.started (λ e. waited (L.starts m c t v e).1);
      head = λ f h e. gone_waits m' t (gone_stays t g) (subst (Queued m') e (T.waits m' f.ticket f.minute (L.forecasts m c f v h)));
    }
      where
        never : (ts : List ℕ) → (elem t ts ≡ true → ⊥) → elem t ts ≡ false
        never ts f = case (elem t ts) (λ e. absurd (f e)) (λ e. e)

        ran : Ran m (clock_after r m.clock) t → ⊥
        ran j = true_false (is_cleaning j.job) (g.absent j.job j.inside j.named) (running_clean j.job.state j.runs)

        new : Comes r t → ⊥
        new (o, i, e) = omega (arith, g.given, T.gives m c o v i)

        waited : Queued m t ⊎ Comes r t → ⊥
        waited (inl q) = gone_waits m t g q
        waited (inr o) = new o

  pub gone_silent : (m : Model) (t : ℕ) (cs : List Call) → Valid m → Gone m t → Silent t (events R m cs)
  gone_silent m t [] v g = tt
  gone_silent m t (c ∷ cs) v g = (gone_unsaid m c v t g, gone_silent (R m c).model t cs (L.valid m c v) (gone_stays m c v t g))

  -- a job that a call withdraws does not start by it, and is in no later answer
  pub withdrawn_silent : (m : Model) (c : Call) (t : ℕ) (cs : List Call) → Valid m → elem t (said R m c).withdrew ≡ true
      → (elem t (said R m c).started ≡ false) × Silent t (events R (R m c).model cs)
  withdrawn_silent m c t cs v q = (withdrawn_unstarted m c v t q, gone_silent (R m c).model t cs (L.valid m c v) (withdrawn_gone m c v t q))

  -- nor is one whose run has ended
  pub ended_silent : (m : Model) (c : Call) (t : ℕ) (cs : List Call) → Valid m → elem t (said R m c).ended ≡ true → Silent t (events R (R m c).model cs)
  ended_silent m c t cs v q = gone_silent (R m c).model t cs (L.valid m c v) (ended_gone m c v t q)
