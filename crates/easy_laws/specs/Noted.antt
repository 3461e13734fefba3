-- A forecast that is kept in the record of its job (document 02, No. 11) changes nothing else: who waits, the nodes, the shadow, who may start and
-- what is on course stay as they were.
-- Assumes nothing.
use Prim.Native.Nat.{ℕ, ◌+◌, ◌-◌, ◌*◌, ◌<◌}
use Rattle.std.proofs.Common.{arith, sym, subst, ◌∙◌, eqb-true}
use Rattle.std.proofs.Math.Path.{◌≡◌, refl, ap, ap₂}
use Rattle.std.proofs.Math.Bool.{Bool}
use Rattle.std.specs.Prelude.{true, ◌&&◌, ◌||◌, cond, eqb, length}
use Rattle.std.proofs.Math.Option.{Option, none, some}
use mathlib.Core.List.{List, [], ◌∷◌, map, head?, map-map}
use Rattle.std.proofs.Math.Dec.{leb}
use Rattle.std.proofs.lemmas.List.{length-map}
use Rattle.lists.specs.Tests.{case, on}
use Rattle.lists.specs.Lists.{first, sum, In, in_map, map_in, map_cong, keep_map, keep_cong, map_same, sum_map, sum_cong}
use Rattle.lists.specs.Least.{least}
use Rattle.scheduler.specs.declared.Job.{Job}
use Rattle.scheduler.specs.declared.Settings.{Settings}
use Rattle.scheduler.specs.Jobs.{is_waiting, held, foretold}
use Rattle.scheduler.specs.Settings.{hold_time, unit, end_of, until}
use Rattle.scheduler.specs.Table.{ticket_of, tickets_of, of_tenant}
use Rattle.scheduler.specs.Model.{Model}
use Rattle.scheduler.specs.Answers.{Forecast}
use Rattle.jobs.specs.Order.{asc_same}
use Rattle.jobs.specs.Soundness.{Sound, SoundJob}
use Rattle.easy_rules.specs.Easy.{queue, head, free, freed, avail, shadow, extra, qualifies, pick, choice, noting, noted, on_choice, head_is, forecast}
use Rattle.easy_laws.specs.Course.{Waits, before, ahead, OnCourse, Head}

-- what becomes of each job
abbrev pub notes : Option Forecast → Job → Job
notes none j = j
notes (some f) j = noting f j

pub noted_jobs : (o : Option Forecast) (m : Model) → (noted o m).jobs ≡ map (notes o) m.jobs
noted_jobs none m = sym (map_same (λ (j : Job). j) m.jobs (λ j i. refl))
noted_jobs (some f) m = refl

pub noted_settings : (o : Option Forecast) (m : Model) → (noted o m).settings ≡ m.settings
noted_settings none m = refl
noted_settings (some f) m = refl

pub noted_clock : (o : Option Forecast) (m : Model) → (noted o m).clock ≡ m.clock
noted_clock none m = refl
noted_clock (some f) m = refl

pub noted_next : (o : Option Forecast) (m : Model) → (noted o m).next ≡ m.next
noted_next none m = refl
noted_next (some f) m = refl

-- what does not read the forecast reads what it read
pub notes_by : {A : Type 0} (g : Job → A) → ((t : ℕ) (j : Job) → g (foretold t j) ≡ g j) → (o : Option Forecast) (j : Job) → g (notes o j) ≡ g j
notes_by g e none j = refl
notes_by g e (some f) j = case (eqb j.ticket f.ticket) (λ q. rw q (e f.minute j)) (λ q. rw q)

-- what holds of a job whatever its forecast holds of it still
pub notes_keeps : (P : Job → Type 0) → ((t : ℕ) (j : Job) → P j → P (foretold t j)) → (o : Option Forecast) (j : Job) → P j → P (notes o j)
notes_keeps P e none j p = p
notes_keeps P e (some f) j p = case (eqb j.ticket f.ticket) (λ q. rw q (e f.minute j p)) (λ q. rw q p)

pub notes_ticket : (o : Option Forecast) (j : Job) → (notes o j).ticket ≡ j.ticket
notes_ticket o j = notes_by ticket_of (λ t j. refl) o j

module _ (o : Option Forecast) (m : Model) where
  pub in_noted : {k : Job} → In k (noted o m).jobs → (j : Job) × In j m.jobs × (k ≡ notes o j)
  in_noted {k} i = map_in (notes o) m.jobs (subst (λ (js : List Job). In k js) (noted_jobs o m) i)

  pub noted_in : {j : Job} → In j m.jobs → In (notes o j) (noted o m).jobs
  noted_in {j} i = subst (λ (js : List Job). In (notes o j) js) (sym (noted_jobs o m)) (in_map (notes o) i)

  pub each_noted : (P : Job → Type 0) → ((j : Job) → In j m.jobs → P (notes o j)) → (k : Job) → In k (noted o m).jobs → P k
  each_noted P f k i = let r = in_noted i in subst P (sym r.2) (f r.0 r.1)

  pub sum_noted : (g : Job → ℕ) → ((t : ℕ) (j : Job) → g (foretold t j) ≡ g j) → sum g (noted o m).jobs ≡ sum g m.jobs
  sum_noted g e =
      ap (sum g) (noted_jobs o m) ∙ sum_map g (notes o) m.jobs ∙ sum_cong (λ (j : Job). g (notes o j)) g m.jobs (λ j i. notes_by g e o j)

  pub queue_noted : queue (noted o m).jobs ≡ map (notes o) (queue m.jobs)
  queue_noted =
      ap queue (noted_jobs o m) ∙ keep_map is_waiting (notes o) m.jobs
      ∙ ap (map (notes o)) (keep_cong (λ (j : Job). is_waiting (notes o j)) is_waiting m.jobs (λ j i. notes_by is_waiting (λ t j. refl) o j))

  pub free_noted : free (noted o m) ≡ free m
  free_noted = ap₂ (λ (S : Settings) (n : ℕ). S.nodes - n) (noted_settings o m) (sum_noted held (λ t j. refl))

  pub avail_noted : (t : ℕ) → avail (noted o m) t ≡ avail m t
  unfolding until
  avail_noted t =
      ap₂ ◌+◌ free_noted
      (ap (λ (S : Settings). sum (freed S t) (noted o m).jobs) (noted_settings o m) ∙ sum_noted (freed m.settings t) (λ u j. refl))

  pub shadow_noted : (n : ℕ) → shadow (noted o m) n ≡ shadow m n
  unfolding shadow
  shadow_noted n =
      ap (λ (p : ℕ → Bool). least p (unit (noted o m).settings) (noted o m).clock) (λ i t. leb n (avail_noted t i))
      ∙ ap₂ (λ (S : Settings) (c : ℕ). least (λ (t : ℕ). leb n (avail m t)) (unit S) c) (noted_settings o m) (noted_clock o m)

  -- who may pass the head
  qualifies_noted : (h j : Job) → qualifies (noted o m) (notes o h) (notes o j) ≡ qualifies m h j
  unfolding qualifies extra
  qualifies_noted h j = λ i. by (jn i) (je i) (hn i) (free_noted i) (noted_clock o m i) (noted_settings o m i) (sh i) (av i)
    where
      by : (jn je hn free clock : ℕ) → Settings → (shadow then : ℕ) → Bool
      by jn je hn f c S s a = leb jn f && (leb (c + hold_time S je) s || leb jn (a - hn))

      jn : (notes o j).nodes ≡ j.nodes
      jn = notes_by (λ (x : Job). x.nodes) (λ t x. refl) o j

      je : (notes o j).estimate ≡ j.estimate
      je = notes_by (λ (x : Job). x.estimate) (λ t x. refl) o j

      hn : (notes o h).nodes ≡ h.nodes
      hn = notes_by (λ (x : Job). x.nodes) (λ t x. refl) o h

      sh : shadow (noted o m) (notes o h).nodes ≡ shadow m h.nodes
      sh = ap (shadow (noted o m)) hn ∙ shadow_noted h.nodes

      av : avail (noted o m) (shadow (noted o m) (notes o h).nodes) ≡ avail m (shadow m h.nodes)
      av = ap (avail (noted o m)) sh ∙ avail_noted (shadow m h.nodes)

  first_noted : (h : Job) (js : List Job) → first (qualifies m h) js ≡ none → first (qualifies (noted o m) (notes o h)) (map (notes o) js) ≡ none
  first_noted h [] e = refl
  first_noted h (j ∷ js) e =
      case (qualifies m h j)
      (λ q. absurd (let w : some j ≡ none = rw q at e in let z : ◌≡◌ {A = ℕ} 0 1 = cc in omega arith))
      (λ q. rw (qualifies_noted h j ∙ q) (first_noted h js (rw q at e)))

  pick_noted : (q : List Job) → pick m q ≡ none → pick (noted o m) (map (notes o) q) ≡ none
  unfolding pick
  pick_noted [] e = refl
  pick_noted (h ∷ later) e =
      case (leb h.nodes (free m))
      (λ l. absurd (let w : some h ≡ none = rw l at e in let z : ◌≡◌ {A = ℕ} 0 1 = cc in omega arith))
      (λ l. rw (ap₂ leb (notes_by (λ (x : Job). x.nodes) (λ t x. refl) o h) free_noted ∙ l) (first_noted h later (rw l at e)))

  -- at rest it stays
  pub choice_noted : choice m ≡ none → choice (noted o m) ≡ none
  choice_noted e = ap (pick (noted o m)) queue_noted ∙ pick_noted (queue m.jobs) e

  -- ## What is on course

  pub waits_noted : (u : ℕ) → Waits m u → Waits (noted o m) u
  waits_noted u w = record {
    job = notes o w.job;
    isin = noted_in w.isin;
    waits = notes_by is_waiting (λ t j. refl) o w.job ∙ w.waits;
    named = notes_ticket o w.job ∙ w.named;
  }

  -- and who waits after it waited
  pub waited_noted : (u : ℕ) → Waits (noted o m) u → Waits m u
  waited_noted u w =
      each_noted (λ (k : Job). is_waiting k ≡ true → k.ticket ≡ u → Waits m u)
      (λ j i x e. record {
        job = j;
        isin = i;
        waits = sym (notes_by is_waiting (λ t k. refl) o j) ∙ x;
        named = sym (notes_ticket o j) ∙ e;
      })
      w.job w.isin w.waits w.named

  -- the first in the queue is the one that it was
  pub head_noted : (k : Job) (q : List Job) → queue (noted o m).jobs ≡ k ∷ q
      → (h : Job) × (later : List Job) × (queue m.jobs ≡ h ∷ later) × (k ≡ notes o h) × (q ≡ map (notes o) later)
  head_noted k q e = by (queue m.jobs) refl
    where
      by : (p : List Job) → queue m.jobs ≡ p
          → (h : Job) × (later : List Job) × (queue m.jobs ≡ h ∷ later) × (k ≡ notes o h) × (q ≡ map (notes o) later)
      by [] x = absurd (let y : [] ≡ k ∷ q = sym (rw x at queue_noted) ∙ e in let z : ◌≡◌ {A = ℕ} 0 1 = cc in omega arith)
      by (h ∷ later) x = let y : notes o h ∷ map (notes o) later ≡ k ∷ q = sym (rw x at queue_noted) ∙ e in (h, later, x, cc, cc)

  ahead_noted : (u : ℕ) → ahead u (noted o m).jobs ≡ ahead u m.jobs
  ahead_noted u = sum_noted (before u) (λ t j. refl)

  pub course_noted : (u b : ℕ) → OnCourse m u b → OnCourse (noted o m) u b
  course_noted u b c = record {
    waits = waits_noted u c.waits;
    by = λ k q e.
        let r = head_noted k q e in
        let n : k.nodes ≡ r.0.nodes = ap (λ (x : Job). x.nodes) r.3 ∙ notes_by (λ (x : Job). x.nodes) (λ t x. refl) o r.0 in
        omega (
          arith,
          c.by r.0 r.1 r.2,
          ap (shadow (noted o m)) n,
          shadow_noted r.0.nodes,
          ap₂ (λ (x : ℕ) (S : Settings). x * unit S) (ahead_noted u) (noted_settings o m),
        );
  }

  -- ## It stays sound

  job_noted : (S : Settings) (clock t : ℕ) (j : Job) → SoundJob S clock j → SoundJob S clock (foretold t j)
  unfolding until end_of
  job_noted S clock t j f = record {
    is_live = f.is_live;
    nodes_from = f.nodes_from;
    nodes_to = f.nodes_to;
    estimate_from = f.estimate_from;
    estimate_to = f.estimate_to;
    least_to = f.least_to;
    ends = f.ends;
    holds = f.holds;
    runs = f.runs;
    cleaned = f.cleaned;
    no_end = f.no_end;
    tenant_is = f.tenant_is;
  }

  tickets_noted : tickets_of m.jobs ≡ tickets_of (noted o m).jobs
  tickets_noted =
      sym (ap tickets_of (noted_jobs o m) ∙ map-map ticket_of (notes o) m.jobs
      ∙ map_cong (λ (j : Job). ticket_of (notes o j)) ticket_of m.jobs (λ j i. notes_ticket o j))

  pub sound_noted : Sound m → Sound (noted o m)
  sound_noted s =
      subst Sound
      (sym (λ i. record { settings = noted_settings o m i; clock = noted_clock o m i; next = noted_next o m i; jobs = (noted o m).jobs }))
      (record {
        nodes_from = s.nodes_from;
        nodes_to = s.nodes_to;
        longest_from = s.longest_from;
        longest_to = s.longest_to;
        cleanup_to = s.cleanup_to;
        quotas = s.quotas;
        one_each = s.one_each;
        clock_to = s.clock_to;
        next_from = s.next_from;
        next_to = s.next_to;
        few = omega (arith, s.few, ap length (noted_jobs o m), length-map m.jobs (notes o));
        asc = asc_same 1 m.jobs (noted o m).jobs tickets_noted s.asc;
        below = each_noted (λ (k : Job). k.ticket < m.next) (λ j i. omega (arith, s.below j i, notes_ticket o j));
        each = each_noted (SoundJob m.settings m.clock) (λ j i.
            notes_keeps (SoundJob m.settings m.clock) (job_noted m.settings m.clock) o j (s.each j i));
        capacity = omega (arith, s.capacity, sum_noted held (λ t j. refl));
        shares = λ t. omega (arith, s.shares t, sum_noted (λ (j : Job). on (of_tenant t j) 1) (λ u j. refl));
      })

-- ## The forecast

-- it is the same once it is kept
pub forecast_noted : (b : Model) (o : Option Forecast) (m : Model) → forecast b (noted o m) ≡ forecast b m
unfolding forecast
forecast_noted b o m = by (queue m.jobs) refl
  where
    told : Model → Option Job → Option Forecast
    told x h = on_choice h none λ h. cond (head_is (head b) h) none (some (record { ticket = h.ticket; minute = shadow x h.nodes }))

    is : (k : Option Job) (h : Job) → head_is k (notes o h) ≡ head_is k h
    is none h = refl
    is (some k) h = ap (eqb k.ticket) (notes_ticket o h)

    by : (q : List Job) → queue m.jobs ≡ q → told (noted o m) (head (noted o m)) ≡ told m (head m)
    by [] e = ap (λ (p : List Job). told (noted o m) (head? p)) (queue_noted o m) ∙ rw e
    by (h ∷ later) e =
        ap (λ (p : List Job). told (noted o m) (head? p)) (queue_noted o m)
        ∙ rw (
          e,
          is (head b) h,
          notes_ticket o h,
          notes_by (λ (x : Job). x.nodes) (λ t x. refl) o h,
          shadow_noted o m h.nodes,
        )

-- a forecast is the shadow of the head
pub forecast_says : (b m : Model) (f : Forecast) → forecast b m ≡ some f → (h : Head m) × (f.ticket ≡ h.job.ticket) × (f.minute ≡ shadow m h.job.nodes)
unfolding forecast
forecast_says b m f e = by (queue m.jobs) refl
  where
    by : (q : List Job) → queue m.jobs ≡ q → (h : Head m) × (f.ticket ≡ h.job.ticket) × (f.minute ≡ shadow m h.job.nodes)
    by [] x = absurd (let y : none ≡ some f = rw x at e in let z : ◌≡◌ {A = ℕ} 0 1 = cc in omega arith)
    by (k ∷ later) x = told (rw x at e)
      where
        told : cond (head_is (head b) k) none (some (record { ticket = k.ticket; minute = shadow m k.nodes })) ≡ some f
            → (h : Head m) × (f.ticket ≡ h.job.ticket) × (f.minute ≡ shadow m h.job.nodes)
        told y =
            case (head_is (head b) k)
            (λ p. absurd (let w : none ≡ some f = rw p at y in let z : ◌≡◌ {A = ℕ} 0 1 = cc in omega arith))
            (λ p. let w : some (record { ticket = k.ticket; minute = shadow m k.nodes }) ≡ some f = rw p at y in
            let z : record { ticket = k.ticket; minute = shadow m k.nodes } ≡ f = cc in
            (record { job = k; later = later; first = x }, ap (λ (g : Forecast). g.ticket) (sym z), ap (λ (g : Forecast). g.minute) (sym z)))

-- and where none is given, who is head was head before
pub forecast_silent : (b m : Model) → forecast b m ≡ none → (h : Head m) → (k : Head b) × (k.job.ticket ≡ h.job.ticket)
unfolding forecast
forecast_silent b m e h = by (queue b.jobs) refl
  where
    told : Option Job → Option Forecast
    told k = cond (head_is k h.job) none (some (record { ticket = h.job.ticket; minute = shadow m h.job.nodes }))

    silent : told (head b) ≡ none
    silent = rw h.first at e

    never : {A : Type 0} (f : Forecast) → some f ≡ none → A
    never f y = absurd (let z : ◌≡◌ {A = ℕ} 0 1 = cc in omega arith)

    by : (q : List Job) → queue b.jobs ≡ q → (k : Head b) × (k.job.ticket ≡ h.job.ticket)
    by [] x = never _ (ap (λ (p : List Job). told (head? p)) (sym x) ∙ silent)
    by (k ∷ later) x =
        case (eqb k.ticket h.job.ticket)
        (λ y. (record { job = k; later = later; first = x }, eqb-true k.ticket h.job.ticket y))
        (λ y. never _ (rw y at (ap (λ (p : List Job). told (head? p)) (sym x) ∙ silent)))
