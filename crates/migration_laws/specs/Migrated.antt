-- The change from EASY to conservative backfilling: it hands back a valid model with no gaps, in which nobody has started; the head's promise
-- is its shadow, and each promise lies within whatever EASY held the job to.
-- Assumes nothing.
use Rattle.std.specs.Prelude.{ℕ, ◌+◌, ◌*◌, ◌≤◌, ◌<◌, ◌≡◌, refl, true, false, ◌&&◌, List, [], ◌∷◌}
use Rattle.std.proofs.Common.{arith, sym, subst, ◌∙◌, ne_eqb}
use Rattle.std.proofs.Math.Path.{ap}
use Rattle.lists.specs.Tests.{true_false, and_right_false}
use Rattle.lists.specs.Lists.{In}
use Rattle.spans.specs.Spans.{used}
use Rattle.scheduler.specs.declared.State.{State}
use Rattle.scheduler.specs.declared.State.TheVariants.{Unused, Waiting, Running, Cleanup}
use Rattle.scheduler.specs.declared.Job.{Job}
use Rattle.scheduler.specs.declared.Settings.{Settings}
use Rattle.scheduler.specs.States.{waiting?, running?, cleaning?, holding?}
use Rattle.scheduler.specs.Jobs.{is_waiting, is_running, is_holding}
use Rattle.scheduler.specs.Settings.{horizon, unit, until, bound_of}
use Rattle.scheduler.specs.Times.{until_fresh}
use Rattle.scheduler.specs.Table.{ticket_of}
use Rattle.scheduler.specs.Model.{Model}
use Rattle.jobs.specs.Order.{asc_same}
use Rattle.jobs.specs.Soundness.{SoundJob, Sound, start_until}
use Rattle.conservative_rules.specs.Conservative.{spans, state_at, begun}
use Rattle.conservative_laws.specs.Validity as conservative
use Rattle.conservative_laws.specs.Validity.{Zip, Unranked, zip_left, zip_right, zip_length, zip_live, zip_tickets, held_used, state_live, state_clean, state_now}
use Rattle.conservative_laws.specs.Obligations as course
use Rattle.conservative_laws.specs.Tightness.{Tight, Fixed, fixed_tight}
use Rattle.easy_rules.specs.Easy.{queue, shadow}
use Rattle.easy_laws.specs.Settling.{idle}
use Rattle.easy_laws.specs.Course.{ahead, OnCourse, head_of, head_in, none_ahead}
use Rattle.easy_laws.specs.Validity.{Valid}
use Rattle.migration_rules.specs.Migration.{promise_settings, kept, promised, migrated}
use Rattle.migration_laws.specs.Holders.{longest_same, hold_same, until_kept, end_kept, quota_same}
use Rattle.migration_laws.specs.Planning.{Planned, Changed, stays, plans, after, changed_all, changed_room}

holds_waits : (x : State) → holding? x ≡ true → waiting? x ≡ false
holds_waits Unused e = refl
holds_waits Waiting e = true_false false e refl
holds_waits Running e = refl
holds_waits Cleanup e = refl

module _ (m : Model) (v : Valid m) where
  abbrev S : Settings
  S = m.settings

  abbrev P : Settings
  P = promise_settings m.settings

  abbrev s : Sound m
  s = v.ready.sound

  abbrev pub total : ℕ → ℕ
  total t = used t (spans P (after m v))

  abbrev pub To : Job → Job → Type 0
  To = Changed m v total

  -- ## One job

  to_ticket : (j x : Job) → To j x → x.ticket ≡ j.ticket
  to_ticket j x (stays h) = refl
  to_ticket j x (plans p w q) = refl

  to_tenant : (j x : Job) → To j x → x.tenant ≡ j.tenant
  to_tenant j x (stays h) = refl
  to_tenant j x (plans p w q) = refl

  -- one that waits goes on waiting: "Nobody starts by it"
  plan_waits : (p : ℕ) → m.clock < p → state_at m.clock p ≡ Waiting
  plan_waits p l = rw (ne_eqb p m.clock (λ e. omega arith))

  -- its planned start, which is its promise, lies within whatever it was on course for
  plan_by : (j : Job) (p b : ℕ) → Planned m v total j p → OnCourse m j.ticket b → p ≤ b
  plan_by j p b q o =
      let h = head_of m j.ticket o.waits in
      omega (arith, q.by h.job h.later h.first, o.by h.job h.later h.first)

  to_sound : (j x : Job) → In j m.jobs → To j x → SoundJob P m.clock x
  to_sound j x i (stays h) =
      let f = s.each j i in
      record {
        is_live = f.is_live;
        nodes_from = f.nodes_from;
        nodes_to = f.nodes_to;
        estimate_from = f.estimate_from;
        estimate_to = omega (arith, f.estimate_to, longest_same S);
        least_to = f.least_to;
        ends = omega (arith, f.ends, until_kept S j);
        holds = λ r. ((f.holds r).0, omega (arith, (f.holds r).1, until_kept S j));
        runs = λ r. omega (arith, f.runs r, end_kept S j);
        cleaned = f.cleaned;
        no_end = f.no_end;
        tenant_is = f.tenant_is;
      }
  to_sound j x i (plans p w q) =
      let f = s.each j i in
      let now = m.clock in
      let r = v.ready.room j i w in
      let u = until_fresh P j.ticket (record { nodes = j.nodes; estimate = j.estimate; tenant = j.tenant; least = j.least })
      (state_at now p) p p (state_clean now p) in
      record {
        is_live = state_live now p;
        nodes_from = f.nodes_from;
        nodes_to = f.nodes_to;
        estimate_from = f.estimate_from;
        estimate_to = omega (arith, f.estimate_to, longest_same S);
        least_to = f.least_to;
        -- "Show that no planned hold passes the last minute"
        ends = omega (arith, u, plan_by j p (bound_of S j) q r.0, r.1, hold_same S j.estimate);
        holds = λ e. absurd (omega (arith, state_now holding? refl now p e, q.later));
        runs = λ e. absurd (omega (arith, state_now running? refl now p e, q.later));
        cleaned = λ e. true_false (cleaning? (state_at now p)) e (state_clean now p);
        no_end = λ e. refl;
        tenant_is = f.tenant_is;
      }

  to_promised : (j x : Job) → To j x → x.start ≡ x.promise
  to_promised j x (stays h) = refl
  to_promised j x (plans p w q) = refl

  to_unranked : (j x : Job) → To j x → Unranked x
  to_unranked j x (stays h) = (refl, refl, refl)
  to_unranked j x (plans p w q) = (refl, refl, refl)

  to_ahead : (j x : Job) → To j x → is_waiting x ≡ true → m.clock < x.start
  to_ahead j x (stays h) e = true_false (is_waiting j) e (holds_waits j.state h)
  to_ahead j x (plans p w q) e = q.later

  to_fixed : (j x : Job) → To j x → is_waiting x ≡ true → Fixed P m.clock (after m v) x
  to_fixed j x (stays h) e = true_false (is_waiting j) e (holds_waits j.state h)
  to_fixed j x (plans p w q) e = q.fixed

  -- ## All of them

  beside : (x : Job) → In x (after m v) → (j : Job) × In j m.jobs × To j x
  beside x i = zip_right To m.jobs (after m v) (changed_all m v) i

  each : (x : Job) → In x (after m v) → SoundJob P m.clock x
  each x i = let b = beside x i in to_sound b.0 x b.1 b.2

  -- the new model is one that conservative backfilling hands back: "so the change always goes through"
  pub migrated_valid : conservative.Valid (migrated m)
  unfolding migrated
  migrated_valid = record {
    kind = refl;
    sound = record {
      nodes_from = s.nodes_from;
      nodes_to = s.nodes_to;
      longest_from = s.longest_from;
      longest_to = s.longest_to;
      cleanup_to = s.cleanup_to;
      quotas = s.quotas;
      one_each = s.one_each;
      clock_to = s.clock_to;
      next_from = s.next_from;
      next_to = s.next_to;
      few = omega (arith, s.few, zip_length To m.jobs (after m v) (changed_all m v));
      asc = asc_same 1 m.jobs (after m v) (zip_tickets To m.jobs (after m v) to_ticket (changed_all m v)) s.asc;
      below = λ x i. let b = beside x i in omega (arith, s.below b.0 b.1, to_ticket b.0 x b.2);
      each = each;
      capacity = omega (arith, held_used P m.clock (after m v) each, changed_room m v m.clock (omega arith));
      shares = λ t. omega (arith, s.shares t, zip_live To t m.jobs (after m v) to_tenant (changed_all m v), quota_same S t);
    };
    room = changed_room m v;
    promised = λ x i. let b = beside x i in omega (arith, to_promised b.0 x b.2);
    promise_to = λ x i.
        let b = beside x i in
        omega (arith, to_promised b.0 x b.2, (each x i).ends, start_until P m.clock x (each x i));
    ahead = λ x i w. let b = beside x i in to_ahead b.0 x b.2 w;
    unranked = λ x i. let b = beside x i in to_unranked b.0 x b.2;
  }

  -- no waiting job could begin earlier with all others held
  pub migrated_tight : Tight (migrated m)
  unfolding migrated
  migrated_tight = fixed_tight (migrated m) migrated_valid (λ x i w. let b = beside x i in to_fixed b.0 x b.2 w)

  -- ## For the reader

  -- "Running and clearing stacks keep starts, now their promises, and ends", and everything else
  pub migrated_keeps : (j : Job) → In j m.jobs → is_holding j ≡ true → In (kept j) (migrated m).jobs
  unfolding migrated
  migrated_keeps j i h = go (zip_left To m.jobs (after m v) (changed_all m v) i)
    where
      go : (x : Job) × In x (after m v) × To j x → In (kept j) (after m v)
      go (x, k, stays e) = k
      go (x, k, plans p w q) = true_false (is_holding j) h (idle j w)

  -- "Show that no planned hold passes the last minute"
  pub holds_end_lem : (x : Job) → In x (migrated m).jobs → until (migrated m).settings x ≤ horizon (migrated m).settings
  holds_end_lem x i = (migrated_valid.sound.each x i).ends

  none_begun : (js ks : List Job) → Zip To js ks → begun js ks ≡ []
  none_begun [] [] z = refl
  none_begun [] (k ∷ ks) z = absurd z
  none_begun (j ∷ js) [] z = absurd z
  none_begun (j ∷ js) (k ∷ ks) z = rw (not_begun j k z.0) (none_begun js ks z.1)
    where
      not_begun : (j x : Job) → To j x → is_waiting j && is_running x ≡ false
      not_begun j x (stays h) = rw (holds_waits j.state h)
      not_begun j x (plans p w q) = and_right_false (is_waiting j) (ap running? (plan_waits p q.later))

  -- nobody starts by the change, as a call's answer would tell who does: no job that waited runs
  pub nobody_starts : begun m.jobs (migrated m).jobs ≡ []
  unfolding migrated
  nobody_starts = none_begun m.jobs (after m v) (changed_all m v)

  -- a waiting job keeps its ticket and what was asked for it, waits still, and has a promise: by this record
  pub record Promised (j x : Job) : Type 0 where
    pub inside : In x (migrated m).jobs
    pub job_is : x ≡ promised m.clock x.promise j
    pub waits : is_waiting x ≡ true
    pub later : m.clock < x.promise
    pub planned : x.start ≡ x.promise
    -- not before the shadow that it would have as head
    pub from : shadow m j.nodes ≤ x.promise
    -- "the k-th waiting one's is at most shadow + k × (10,080 + clearing)"
    pub by : (h : Job) (rest : List Job) → queue m.jobs ≡ h ∷ rest → x.promise ≤ shadow m h.nodes + ahead j.ticket m.jobs * unit S
    -- within whatever EASY held it to: its bound, its forecast
    pub within : (b : ℕ) → OnCourse m j.ticket b → x.promise ≤ b

  pub migrated_promised : (j : Job) → In j m.jobs → is_waiting j ≡ true → (x : Job) × Promised j x
  unfolding migrated
  migrated_promised j i w = go (zip_left To m.jobs (after m v) (changed_all m v) i)
    where
      go : (x : Job) × In x (after m v) × To j x → (x : Job) × Promised j x
      go (x, k, stays e) = true_false (is_holding j) e (idle j w)
      go (x, k, plans p u q) = (
        promised m.clock p j,
        record {
          inside = k;
          job_is = refl;
          waits = ap waiting? (plan_waits p q.later);
          later = q.later;
          planned = refl;
          from = q.from;
          by = q.by;
          within = λ b o. plan_by j p b q o;
        },
      )

  -- "every promise of a waiting stack lies within the bound it had on the Loose Desk", by its record
  pub promised_in_bound : (j : Job) (i : In j m.jobs) (w : is_waiting j ≡ true) → (migrated_promised j i w).0.promise ≤ bound_of S j
  promised_in_bound j i w = (migrated_promised j i w).1.within (bound_of S j) (v.ready.room j i w).0

  -- "The head's promise is no later than its forecast", by its record: no other waiting job has one
  pub promised_in_forecast : (j : Job) (i : In j m.jobs) (w : is_waiting j ≡ true) → 1 ≤ j.forecast → (migrated_promised j i w).0.promise ≤ j.forecast
  promised_in_forecast j i w f = (migrated_promised j i w).1.within j.forecast (v.ready.kept j i w f)

  -- it is the present shadow
  pub head_promise : (h : Job) (rest : List Job) (e : queue m.jobs ≡ h ∷ rest)
      → let i = head_in m h rest e in (migrated_promised h i.0 i.1).0.promise ≡ shadow m h.nodes
  head_promise h rest e =
      let i = head_in m h rest e in
      let x = migrated_promised h i.0 i.1 in
      omega (arith, x.1.from, x.1.by h rest e, ap (λ (n : ℕ). n * unit S) (none_ahead m h rest e s.asc))

  -- a job that EASY held to start by b is planned to do so by the new rules
  pub course_kept : (u b : ℕ) → OnCourse m u b → course.OnCourse (migrated m) u b
  course_kept u b o =
      let w = o.waits in
      let x = migrated_promised w.job w.isin w.waits in
      let y = x.1 in
      record {
        job = x.0;
        inside = y.inside;
        waits = y.waits;
        is_u = ap ticket_of y.job_is ∙ w.named;
        by = omega (arith, y.planned, y.within b (subst (λ (t : ℕ). OnCourse m t b) (sym w.named) o));
      }
