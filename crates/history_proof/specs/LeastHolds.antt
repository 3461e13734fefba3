-- The nodes that jobs hold beyond a minute at the least, where each run is over at its least or now if that is past. No call makes them fewer.
-- Assumes nothing.
use Rattle.std.specs.Prelude.{◌≡◌, refl, Bool, true, false, not, ◌&&◌, List, [], ◌∷◌, ◌++◌, map, ◌⊎◌, ℕ, ◌+◌, ◌≤◌, ◌<◌, max, eqb, ltb}
use Rattle.std.proofs.Common.{sym, ap, ◌∙◌, inl, inr, arith, ltb-true, lt-ltb}
use Rattle.lists.specs.Tests.{case, true_false, on}
use Rattle.lists.specs.Lists.{keep, sum, elem, In, here, there, in_append, map_in, sum_append}
use Rattle.scheduler.specs.declared.Kind.{Kind}
use Rattle.scheduler.specs.declared.Job.{Job}
use Rattle.scheduler.specs.declared.State.{State}
use Rattle.scheduler.specs.declared.State.TheVariants.{Unused, Waiting, Running, Cleanup}
use Rattle.scheduler.specs.Settings.{cleanup}
use Rattle.scheduler.specs.Model.{Model}
use Rattle.jobs.specs.Order.{asc_one}
use Rattle.history.specs.Calls.{Call, Rules}
use Rattle.history.specs.News.{News}
use Rattle.history.specs.Book.{Fate, waiting, running, cleaning, ended, withdrawn, over, fate_after, waits}
use Rattle.history.specs.Beginning.{fate_by}
use Rattle.history_proof.specs.Obligations.{JobShown, shown, live, is_live_of, remark, newly, comers, said, Lawful, Ticketed}
use Rattle.history_proof.specs.Cleaning.{clock_rises}

-- its nodes are taken beyond the minute u at the least; the clock is at c, and nodes stay taken for k minutes after the end of a run
abbrev pub beyond : (k c u least : ℕ) → Fate → Bool
beyond k c u l waiting = false
beyond k c u l (running s) = ltb u (max c (s + l) + k)
beyond k c u l (cleaning s e) = ltb u (e + k)
beyond k c u l (ended s) = false
beyond k c u l (withdrawn w) = false

-- the nodes that a job other than t holds so
abbrev pub least_held : (k c u t : ℕ) → JobShown → ℕ
least_held k c u t x = on (not (eqb x.ticket t) && beyond k c u x.least x.fate) x.nodes

-- those of all the jobs of a model
abbrev pub all_held : Model → (u t : ℕ) → ℕ
all_held m u t = sum (least_held (cleanup m.settings) m.clock u t) (map shown m.jobs)

-- ## One job

module _ (k c c' u : ℕ) (e : News) (up : c ≤ c') (past : c' ≤ u) where
  -- where one test implies another
  implies : (a b : Bool) (n p : ℕ) → (a ≡ true → (b ≡ true) × (n ≡ p)) → (o : Bool) → on (o && a) n ≤ on (o && b) p
  implies true b n p f true = rw (f refl).0 (omega (arith, (f refl).1))
  implies true b n p f false = omega arith
  implies false b n p f true = omega arith
  implies false b n p f false = omega arith

  -- who holds nodes beyond u does not wait, so that nothing is asked anew for it
  begun : (l : ℕ) (f : Fate) → beyond k c u l f ≡ true → waits f ≡ false
  begun l waiting b = true_false false b refl
  begun l (running s) b = refl
  begun l (cleaning s n) b = refl
  begun l (ended s) b = refl
  begun l (withdrawn w) b = refl

  -- what is taken beyond u before the event is so after it, and where the job is live no longer, nothing was
  module _ (t l : ℕ) where
    kept : (f : Fate) → ((s : ℕ) → f ≡ running s → elem t e.ended ≡ true → s + l ≤ c')
        → beyond k c u l f ≡ true → (live (fate_after k c' e t f) ≡ true) × (beyond k c' u l (fate_after k c' e t f) ≡ true)
    kept waiting r b = true_false false b refl
    kept (running s) r b = case (elem t e.ended) (λ q. rw q (cut (r s refl q))) (λ q. rw q (refl, lt-ltb u (max c' (s + l) + k) (omega (arith, before))))
      where
        before : u < max c (s + l) + k
        before = ltb-true u (max c (s + l) + k) b

        cut : s + l ≤ c' → (live (over k c' s c') ≡ true) × (beyond k c' u l (over k c' s c') ≡ true)
        cut g = rw (lt-ltb c' (c' + k) (omega (arith, before))) (refl, lt-ltb u (c' + k) (omega (arith, before)))
    kept (cleaning s n) r b =
        let before = ltb-true u (n + k) b in
        rw (lt-ltb c' (n + k) (omega arith)) (refl, b)
    kept (ended s) r b = true_false false b refl
    kept (withdrawn w) r b = true_false false b refl

  module _ (t : ℕ) where
    -- as the event finds a job and leaves it
    abbrev old : JobShown → ℕ
    old x = least_held k c u t x

    abbrev new : JobShown → ℕ
    new x = least_held k c' u t (remark k c' e x)

    stays : (x : JobShown) → ((s : ℕ) → x.fate ≡ running s → elem x.ticket e.ended ≡ true → s + x.least ≤ c')
        → (is_live_of (remark k c' e x) ≡ false → old x ≡ 0) × (old x ≤ new x)
    stays x r =
        let f = kept x.ticket x.least x.fate r in (
          λ q. case (beyond k c u x.least x.fate) (λ b. true_false (is_live_of (remark k c' e x)) (f b).0 q) (λ b. rw b (none (not (eqb x.ticket t)))),
          implies (beyond k c u x.least x.fate) (beyond k c' u (remark k c' e x).least (remark k c' e x).fate) x.nodes (remark k c' e x).nodes
              (λ b. let w = begun x.least x.fate b in rw w ((f b).1, refl)) (not (eqb x.ticket t)),
        )
      where
        none : (o : Bool) → on (o && false) x.nodes ≡ 0
        none true = refl
        none false = refl

    -- all of them
    all_stay : (xs : List JobShown) → ((x : JobShown) → In x xs → (s : ℕ) → x.fate ≡ running s → elem x.ticket e.ended ≡ true → s + x.least ≤ c')
        → sum old xs ≤ sum (least_held k c' u t) (keep is_live_of (map (remark k c' e) xs))
    all_stay [] r = omega arith
    all_stay (x ∷ xs) r =
        let a = stays x (r x (here refl)) in
        let b = all_stay xs (λ y i. r y (there i)) in
        case (is_live_of (remark k c' e x)) (λ q. rw q (omega (arith, a.1))) (λ q. rw q (omega (arith, a.0 q)))

-- ## One call

running_start : (x : State) (b n s : ℕ) → fate_by x b n ≡ running s → b ≡ s
running_start Unused b n s e = absurd (let z : ◌≡◌ {A = ℕ} 0 1 = cc in omega arith)
running_start Waiting b n s e = absurd (let z : ◌≡◌ {A = ℕ} 0 1 = cc in omega arith)
running_start Running b n s e = cc
running_start Cleanup b n s e = absurd (let z : ◌≡◌ {A = ℕ} 0 1 = cc in omega arith)

module _ {k : Kind} {R : Rules} {Valid : Model → Type 0} {OnCourse : Model → ℕ → ℕ → Type 0} (L : Lawful k R Valid OnCourse) (T : Ticketed R Valid OnCourse)
    (m : Model) (c : Call) (v : Valid m) where
  abbrev m' : Model
  m' = (R m c).model

  -- an end is never before start + least
  late : (x : JobShown) → In x (map shown m.jobs ++ comers (said R m c)) → (s : ℕ) → x.fate ≡ running s → elem x.ticket (said R m c).ended ≡ true
      → s + x.least ≤ m'.clock
  late x i s f q = by (in_append (map shown m.jobs) i)
    where
      by : In x (map shown m.jobs) ⊎ In x (comers (said R m c)) → s + x.least ≤ m'.clock
      by (inl a) =
          let j = map_in shown m.jobs a in
          let r = T.ends m c x.ticket v q in
          let ticket = sym (ap (λ (y : JobShown). y.ticket) j.2) ∙ sym r.named in
          let same = asc_one 1 m.jobs j.0 r.job (T.sound m v).asc j.1 r.inside ticket in
          let begin = running_start j.0.state j.0.start j.0.end s (sym (ap (λ (y : JobShown). y.fate) j.2) ∙ f) in
          omega (
            arith,
            r.least_over,
            L.clock m c v,
            ap (λ (y : Job). y.start + y.least) same,
            ap (λ (y : JobShown). y.least) j.2,
          )
      by (inr a) =
          let o = map_in newly (said R m c).came a in
          absurd (let g : waiting ≡ running s = sym (ap (λ (y : JobShown). y.fate) o.2) ∙ f in let z : ◌≡◌ {A = ℕ} 0 1 = cc in omega arith)

  -- from the clock after the call on, no nodes held beyond a minute at the least come to be held less
  pub held_stays : (u t : ℕ) → m'.clock ≤ u → all_held m u t ≤ all_held m' u t
  held_stays u t p =
      let S : cleanup m'.settings ≡ cleanup m.settings = ap cleanup (L.settings m c v) in
      let xs = map shown m.jobs in
      let f = least_held (cleanup m.settings) m.clock u t in
      let a = all_stay (cleanup m'.settings) m.clock m'.clock u (said R m c) (clock_rises L m c v) p t (xs ++ comers (said R m c)) late in
      omega (
        arith,
        a,
        sum_append (least_held (cleanup m'.settings) m.clock u t) xs (comers (said R m c)),
        ap (λ (n : ℕ). sum (least_held n m.clock u t) xs) S,
        ap (sum (least_held (cleanup m'.settings) m'.clock u t)) (L.tells m c v),
      )
