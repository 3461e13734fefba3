-- The change: waiting jobs planned one after another, in ticket order. Each is planned for later than now, by what EASY counts of it (the
-- head's shadow and a unit for each job before it), and at the smallest minute beside all others.
-- Assumes nothing.
use Prim.Native.Nat.{ℕ, suc, ◌+◌, ◌-◌, ◌*◌, ◌≤◌, ◌<◌}
use Rattle.std.proofs.Common.{arith, sym, subst, ◌∙◌, inl, inr}
use Rattle.std.specs.Prelude.{◌≡◌, Bool, false, ◌&&◌, cond, ◌⊎◌, leb}
use Rattle.std.proofs.Math.Path.{refl, ap}
use Rattle.std.proofs.Math.Bool.{true}
use mathlib.Core.List.{List, [], ◌∷◌}
use Rattle.std.proofs.Math.Logic.{⊎_elim}
use Rattle.std.proofs.Math.Dec.{ltb}
use borrow.Author.Tests.{leb-false, le-leb, lt-ltb, le-ltb}
use Rattle.lists.specs.Tests.{case, true_false, on, and_right_false, neither, le_or}
use Rattle.lists.specs.Lists.{keep, sum, In, here, there, in_cons, in_keep, keep_in, map_in, all_of, sum_in, sum_zero}
use Rattle.spans.specs.declared.Span.{Span}
use Rattle.spans.specs.Spans.{takes, used, free, last_end, Earliest}
use Rattle.spans.proofs.UsedNodes.{takes_in, last_le, used_last}
use Rattle.spans.proofs.EarliestStart.{earliest_is}
use Rattle.scheduler.specs.declared.State.{State}
use Rattle.scheduler.specs.declared.State.TheVariants.{Unused, Waiting, Running, Cleanup}
use Rattle.scheduler.specs.declared.Job.{Job}
use Rattle.scheduler.specs.declared.Settings.{Settings}
use Rattle.scheduler.specs.States.{live?, waiting?, holding?}
use Rattle.scheduler.specs.Jobs.{is_waiting, is_holding}
use Rattle.scheduler.specs.Settings.{hold_time, unit, until}
use Rattle.scheduler.specs.Times.{hold_pos, hold_unit, until_fresh}
use Rattle.scheduler.specs.Model.{Model}
use Rattle.jobs.specs.Order.{Asc, asc_in}
use Rattle.jobs.specs.Soundness.{SoundJob, Sound, holds_short}
use Rattle.conservative_rules.specs.Conservative.{span, spans, planned, state_at}
use Rattle.conservative_laws.specs.Validity.{Zip, room_with, state_clean}
use Rattle.easy_rules.specs.Easy as easy
use Rattle.easy_rules.specs.Easy.{queue, avail, shadow, extra, qualifies, pick}
use Rattle.easy_laws.specs.Settling.{shadow_from, avail_now, none_starts, idle}
use Rattle.easy_laws.specs.Course.{before, ahead, Head, head_of, head_in, head_lowest, none_ahead, rest_shadow}
use Rattle.easy_laws.specs.Validity.{Valid}
use Rattle.migration_rules.specs.Migration.{promise_settings, promise_model, kept, promised, planned_among, replanned}
use Rattle.migration_laws.specs.Holders.{hold_same, until_kept, holders, held_in, used_holders, holders_avail, shadow_least, shadow_fits}

-- who is live and does not wait holds nodes
pub waits_or_holds : (x : State) → live? x ≡ true → waiting? x ≡ false → holding? x ≡ true
waits_or_holds Unused l w = true_false false l refl
waits_or_holds Waiting l w = true_false true refl w
waits_or_holds Running l w = refl
waits_or_holds Cleanup l w = refl

-- nobody of those from a ticket on comes before it
none_before : (u lo : ℕ) (js : List Job) → Asc lo js → u ≤ lo → ahead u js ≡ 0
none_before u lo js a l =
    sum_zero (before u) js (λ j i. rw (and_right_false (is_waiting j) (le-ltb j.ticket u (omega (arith, asc_in lo js a i)))))

module _ (m : Model) (v : Valid m) where
  abbrev S : Settings
  S = m.settings

  abbrev P : Settings
  P = promise_settings m.settings

  abbrev T : Model
  T = promise_model m

  abbrev s : Sound m
  s = v.ready.sound

  -- where a job is planned, `total` being what all take in a minute
  pub record Planned (total : ℕ → ℕ) (j : Job) (p : ℕ) : Type 0 where
    pub later : m.clock < p
    -- not before the shadow that it would have
    pub from : shadow m j.nodes ≤ p
    -- the head's shadow, and a unit for each that waits before it
    pub by : (h : Job) (rest : List Job) → queue m.jobs ≡ h ∷ rest → p ≤ shadow m h.nodes + ahead j.ticket m.jobs * unit S
    -- at no smaller minute would it fit beside all others
    pub fixed : (r : ℕ) → m.clock ≤ r
        → ((t : ℕ) → r ≤ t → t < r + hold_time P j.estimate → total t + j.nodes ≤ S.nodes + takes t (span P (promised m.clock p j)))
        → p ≤ r

  pub data Changed (total : ℕ → ℕ) (j : Job) : Job → Type 0 where
    stays : is_holding j ≡ true → Changed total j (kept j)
    plans : (p : ℕ) → is_waiting j ≡ true → Planned total j p → Changed total j (promised m.clock p j)

  -- k have been planned, and `done` are these and those that hold nodes
  record Going (k : ℕ) (done : List Job) : Type 0 where
    first : k ≡ 0 → done ≡ holders m
    more : (t : ℕ) → used t (spans P (holders m)) ≤ used t (spans P done)
    room : (t : ℕ) → m.clock ≤ t → used t (spans P done) ≤ S.nodes
    -- the head has its place at its shadow
    headed : 1 ≤ k → (h : Job) (rest : List Job) → queue m.jobs ≡ h ∷ rest
        → used (shadow m h.nodes) (spans P (holders m)) + h.nodes ≤ used (shadow m h.nodes) (spans P done)
    -- and all give their nodes back in time for the next
    ends : 1 ≤ k → (h : Job) (rest : List Job) → queue m.jobs ≡ h ∷ rest → (x : Job) → In x done → until P x ≤ shadow m h.nodes + k * unit S

  -- ## One job

  module _ (k : ℕ) (done : List Job) (g : Going k done) (j : Job) (i : In j m.jobs) (w : is_waiting j ≡ true) (a : ahead j.ticket m.jobs ≡ k) where
    f : SoundJob S m.clock j
    f = s.each j i

    -- its planned start
    at : ℕ
    at = planned_among T done j

    abbrev hold : ℕ
    hold = hold_time P j.estimate

    hold_some : 1 ≤ hold
    hold_some = hold_pos P j.estimate f.estimate_from

    E : Earliest (free S.nodes (spans P done)) m.clock j.nodes hold at
    unfolding at planned
    E = earliest_is S.nodes (spans P done) m.clock j.nodes hold f.nodes_to

    abbrev new : Job
    new = promised m.clock at j

    new_until : until P new ≡ at + hold
    new_until = until_fresh P j.ticket _ (state_at m.clock at) at at (state_clean m.clock at)

    at_from : shadow m j.nodes ≤ at
    at_from =
        shadow_least m s j.nodes at E.later
        (omega (arith, E.fit at (omega arith) (omega (arith, hold_some)), g.more at))

    module _ (h : Job) (rest : List Job) (e : queue m.jobs ≡ h ∷ rest) where
      -- it is the head, or stands behind it
      place : ((k ≡ 0) × (j ≡ h)) ⊎ ((1 ≤ k) × In j rest)
      place = go (in_cons (subst (λ (q : List Job). In j q) e (in_keep is_waiting i w)))
        where
          go : (j ≡ h) ⊎ In j rest → ((k ≡ 0) × (j ≡ h)) ⊎ ((1 ≤ k) × In j rest)
          go (inl q) = inl (omega (arith, ap (λ (x : Job). ahead x.ticket m.jobs) q, none_ahead m h rest e s.asc), q)
          go (inr q) =
              let b : before j.ticket h ≡ 1 = rw ((head_in m h rest e).1, lt-ltb h.ticket j.ticket (head_lowest m h rest e s.asc j q)) in
              inr (omega (arith, sum_in (before j.ticket) (head_in m h rest e).0), q)

      -- the head comes to its shadow
      as_head : k ≡ 0 → j ≡ h → at ≡ shadow m h.nodes
      as_head z q =
          let d = g.first z in
          let n = ap (λ (x : Job). shadow m x.nodes) q in
          omega (
            arith,
            n,
            at_from,
            E.smallest (shadow m j.nodes) (shadow_from m j.nodes) (λ t b c.
                omega (arith, ap (λ (l : List Job). used t (spans P l)) d, shadow_fits m s j.nodes t f.nodes_to b)),
          )

      -- one behind it comes to a minute at which all that were planned before have given their nodes back, or sooner
      behind_by : 1 ≤ k → at ≤ shadow m h.nodes + k * unit S
      behind_by o =
          let c = shadow m h.nodes + k * unit S in
          let last : last_end (spans P done) ≤ c =
          last_le c (spans P done) (all_of (λ (x : Span). x.until ≤ c) (spans P done) (λ x u.
          let y = map_in (span P) done u in
          omega (arith, ap (λ (z : Span). z.until) y.2, g.ends o h rest e y.0 y.1))) in
          E.smallest c (omega (arith, shadow_from m h.nodes))
          (λ t b d. omega (arith, used_last t (spans P done) (omega arith), f.nodes_to))

      -- and does not come to now: by neither rule could it pass the head
      behind_later : 1 ≤ k → In j rest → m.clock < at
      unfolding qualifies extra
      behind_later o q = ⊎_elim (λ l. absurd (never l)) (λ l. l) (le_or at m.clock)
        where
          c : ℕ
          c = shadow m h.nodes

          lags : qualifies m h j ≡ false
          lags = (none_starts m h rest (ap (pick m) (sym e) ∙ v.rests)).1 j q

          never : at ≤ m.clock → ⊥
          never l =
              let now : at ≡ m.clock = omega (arith, E.later) in
              let u : used m.clock (spans P (holders m)) + avail m m.clock ≡ S.nodes = holders_avail m s m.clock (omega arith) in
              let n : j.nodes ≤ easy.free m =
              omega (arith, E.fit m.clock (omega arith) (omega (arith, hold_some)), g.more m.clock, u, avail_now m m.clock s (omega arith)) in
              let b = neither (leb (m.clock + hold_time S j.estimate) c) (leb j.nodes (avail m c - h.nodes)) (rw (le-leb j.nodes (easy.free m) n) at lags) in
              let long = leb-false (m.clock + hold_time S j.estimate) c b.0 in
              let wide = leb-false j.nodes (avail m c - h.nodes) b.1 in
              omega (
                arith,
                hold_same S j.estimate,
                E.fit c (omega (arith, shadow_from m h.nodes)) (omega (arith, hold_same S j.estimate)),
                g.headed o h rest e,
                holders_avail m s c (shadow_from m h.nodes),
              )

      at_by : at ≤ shadow m h.nodes + k * unit S
      at_by = ⊎_elim (λ (x : (k ≡ 0) × (j ≡ h)). omega (arith, as_head x.0 x.1)) (λ (x : (1 ≤ k) × In j rest). behind_by x.0) place

      at_later : m.clock < at
      at_later =
          ⊎_elim (λ (x : (k ≡ 0) × (j ≡ h)). omega (arith, as_head x.0 x.1, rest_shadow m h rest e s v.rests))
          (λ (x : (1 ≤ k) × In j rest). behind_later x.0 x.1)
          place

      -- with it in its place
      new_headed : used (shadow m h.nodes) (spans P (holders m)) + h.nodes ≤ used (shadow m h.nodes) (spans P (new ∷ done))
      new_headed =
          let c = shadow m h.nodes in
          ⊎_elim
          (λ (x : (k ≡ 0) × (j ≡ h)).
          let q = as_head x.0 x.1 in
          omega (
            arith,
            g.more c,
            takes_in c (span P new) (omega arith) (omega (arith, new_until, hold_some)),
            ap (λ (y : Job). y.nodes) x.1,
          ))
          (λ (x : (1 ≤ k) × In j rest). omega (arith, g.headed x.0 h rest e))
          place

      new_ends : (x : Job) → In x (new ∷ done) → until P x ≤ shadow m h.nodes + suc k * unit S
      new_ends x u = go (in_cons u)
        where
          c : ℕ
          c = shadow m h.nodes

          held_ends : (y : Job) × In y (keep is_holding m.jobs) × (x ≡ kept y) → until P x ≤ c + unit S
          held_ends (y, r, q) =
              let p = keep_in is_holding m.jobs r in
              omega (
                arith,
                ap (until P) q,
                until_kept S y,
                holds_short S m.clock y (s.each y p.0) p.1,
                shadow_from m h.nodes,
              )

          old : In x done → ((k ≡ 0) × (j ≡ h)) ⊎ ((1 ≤ k) × In j rest) → until P x ≤ c + suc k * unit S
          old r (inl z) =
              let n = held_ends (map_in kept (keep is_holding m.jobs) (subst (λ (l : List Job). In x l) (g.first z.0) r)) in
              omega (arith, n, ap (λ (n : ℕ). suc n * unit S) z.0)
          old r (inr z) = omega (arith, g.ends z.0 h rest e x r)

          go : (x ≡ new) ⊎ In x done → until P x ≤ c + suc k * unit S
          go (inl q) =
              omega (arith, ap (until P) q, new_until, at_by, hold_same S j.estimate, hold_unit S j.estimate f.estimate_to)
          go (inr r) = old r place

    abbrev hd : Head m
    hd = head_of m j.ticket (record { job = j; isin = i; waits = w; named = refl })

    planned_so : (total : ℕ → ℕ) → ((t : ℕ) → used t (spans P done) + takes t (span P new) ≤ total t) → Planned total j at
    planned_so total q = record {
      later = at_later hd.job hd.later hd.first;
      from = at_from;
      by = λ h rest e. omega (arith, at_by h rest e, ap (λ (n : ℕ). n * unit S) a);
      fixed = λ r l u. E.smallest r l (λ t b c. omega (arith, u t b c, q t));
    }

    goes_on : Going (suc k) (new ∷ done)
    goes_on = record {
      first = λ z. absurd (omega arith);
      more = λ t. omega (arith, g.more t);
      room = λ t l.
          omega (arith, room_with S.nodes (spans P done) (span P new) m.clock j.nodes hold at refl new_until refl E g.room t l);
      headed = λ o h rest e. new_headed h rest e;
      ends = λ o h rest e. new_ends h rest e;
    }

  -- ## All of them

  -- those that are planned
  pub plan_of : List Job → List Job → List Job
  plan_of done [] = []
  plan_of done (j ∷ js) =
      let k : Job = promised m.clock (planned_among T done j) j in
      let later = plan_of (k ∷ done) js in
      let same = plan_of done js in
      cond (is_waiting j) (k ∷ later) same

  -- what all take, with those that are planned already
  abbrev pub taken_by : ℕ → List Job → List Job → ℕ
  taken_by t done js = used t (spans P done) + used t (spans P (plan_of done js))

  start_going : Going 0 (holders m)
  start_going = record {
    first = λ z. refl;
    more = λ t. omega arith;
    room = λ t l. omega (arith, holders_avail m s t l);
    headed = λ o. absurd (omega arith);
    ends = λ o. absurd (omega arith);
  }

  walk : (k lo : ℕ) (done js : List Job) (total : ℕ → ℕ) → Going k done → Asc lo js → ((x : Job) → In x js → In x m.jobs)
      → ((u : ℕ) → lo ≤ u → ahead u m.jobs ≡ k + ahead u js)
      → ((t : ℕ) → taken_by t done js ≤ total t)
      → Zip (Changed total) js (replanned T done js) × ((t : ℕ) → m.clock ≤ t → taken_by t done js ≤ S.nodes)
  unfolding replanned plan_of at
  walk k lo done [] total g o i c q = (tt, λ t l. omega (arith, g.room t l))
  walk k lo done (j ∷ js) total g o i c q =
      case (is_waiting j)
      (λ w.
      let a : ahead j.ticket m.jobs ≡ k = mine w in
      let x = i j (here refl) in
      let new : Job = promised m.clock (planned_among T done j) j in
      let q' : (t : ℕ) → taken_by t (new ∷ done) js ≤ total t = λ t. omega (arith, rw w at (q t)) in
      let r = walk (suc k) (suc j.ticket) (new ∷ done) js total (goes_on k done g j x w a) o.1 (λ y n. i y (there n))
      (λ u l. omega (arith, c u (omega (arith, o.0)), counted w u l)) q' in
      rw w ((plans (planned_among T done j) w (planned_so k done g j x w a total (λ t. omega (arith, q' t))), r.0), λ t l. omega (arith, r.1 t l)))
      (λ w.
      let r = walk k (suc j.ticket) done js total g o.1 (λ y n. i y (there n))
      (λ u l. omega (arith, c u (omega (arith, o.0)), ap (λ (b : Bool). on (b && ltb j.ticket u) 1) w)) (λ t. rw w at (q t)) in
      rw w ((stays (waits_or_holds j.state (s.each j (i j (here refl))).is_live w), r.0), r.1))
    where
      counted : is_waiting j ≡ true → (u : ℕ) → suc j.ticket ≤ u → before u j ≡ 1
      counted w u l = rw (w, lt-ltb j.ticket u l)

      mine : is_waiting j ≡ true → ahead j.ticket m.jobs ≡ k
      mine w =
          omega (
            arith,
            c j.ticket o.0,
            none_before j.ticket (suc j.ticket) js o.1 (omega arith),
            ap (λ (b : Bool). on b 1) (and_right_false (is_waiting j) (le-ltb j.ticket j.ticket (omega arith))),
          )

  -- what those take that the change leaves
  merged : (t : ℕ) (done js : List Job) → ((x : Job) → In x js → In x m.jobs)
      → used t (spans P (replanned T done js)) ≡ sum (held_in m s t) js + used t (spans P (plan_of done js))
  unfolding replanned plan_of
  merged t done [] i = refl
  merged t done (j ∷ js) i =
      case (is_waiting j)
      (λ w.
      let new : Job = promised m.clock (planned_among T done j) j in
      rw (w, idle j w) (omega (arith, merged t (new ∷ done) js (λ x n. i x (there n)))))
      (λ w.
      rw (w, waits_or_holds j.state (s.each j (i j (here refl))).is_live w) (omega (arith, merged t done js (λ x n. i x (there n)))))

  abbrev pub after : List Job
  after = replanned T (holders m) m.jobs

  pub all_take : (t : ℕ) → used t (spans P after) ≡ taken_by t (holders m) m.jobs
  all_take t = omega (arith, merged t (holders m) m.jobs (λ x n. n), used_holders m s t)

  walked : Zip (Changed (λ (t : ℕ). used t (spans P after))) m.jobs after
      × ((t : ℕ) → m.clock ≤ t → taken_by t (holders m) m.jobs ≤ S.nodes)
  walked =
      walk 0 1 (holders m) m.jobs (λ (t : ℕ). used t (spans P after)) start_going s.asc (λ x n. n) (λ u l. omega arith)
      (λ t. omega (arith, all_take t))

  pub changed_all : Zip (Changed (λ (t : ℕ). used t (spans P after))) m.jobs after
  changed_all = walked.0

  pub changed_room : (t : ℕ) → m.clock ≤ t → used t (spans P after) ≤ S.nodes
  changed_room t l = omega (arith, walked.1 t l, all_take t)
