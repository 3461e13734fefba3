-- A list of calls that starts from a valid model: the book that it starts with agrees with the model.
-- Assumes nothing.
use Rattle.std.specs.Prelude.{◌≡◌, refl, Bool, true, false, ◌&&◌, List, map, ℕ, ◌≤◌, ltb, eqb}
use Rattle.std.proofs.Common.{sym, ap, subst, ◌∙◌, arith, eq-eqb, eqb-true, lt-ltb, ltb-true}
use Rattle.std.proofs.lemmas.Simd.{map-map}
use Rattle.std.proofs.Math.Option.{Option, none, some}
use Rattle.lists.specs.Tests.{case, true_false, both}
use Rattle.lists.specs.Lists.{keep, In, map_in, keep_map, keep_all, map_cong, all_in}
use Rattle.scheduler.specs.declared.Kind.{Kind}
use Rattle.scheduler.specs.declared.Kind.TheVariants.{Conservative, Easy}
use Rattle.scheduler.specs.declared.State.{State}
use Rattle.scheduler.specs.declared.State.TheVariants.{Unused, Waiting, Running, Cleanup}
use Rattle.scheduler.specs.declared.Job.{Job}
use Rattle.scheduler.specs.Jobs as jobs
use Rattle.scheduler.specs.States.{live?, waiting?}
use Rattle.scheduler.specs.Settings.{bound_of}
use Rattle.scheduler.specs.Model.{Model, Live}
use Rattle.history.specs.Calls.{Rules}
use Rattle.history.specs.Book.{Fate, waiting, running, cleaning, Entry, Book, lowest, is, head_of, is_waiting, waits}
use Rattle.history.specs.Beginning.{fate_by, if_waiting, entry_of, entries_of, beginning}
use Rattle.history_proof.specs.Obligations.{shown, live, deadline, lowest_waiting, Lawful, Seeded}
use Rattle.history_proof.specs.Seen.{seen, is_live_entry, same_queue}
use Rattle.history_proof.specs.Proof.{OnTime, deadline_of, Agrees}

live_fate : (s : State) (b n : ℕ) → live (fate_by s b n) ≡ true
live_fate Unused b n = refl
live_fate Waiting b n = refl
live_fate Running b n = refl
live_fate Cleanup b n = refl

-- what is given only of one that waits
given_waits : (w : Bool) (n d : ℕ) → if_waiting w n ≡ some d → (w ≡ true) × (n ≡ d)
given_waits true n d e = (refl, cc)
given_waits false n d e = absurd (let z : ◌≡◌ {A = ℕ} 0 1 = cc in omega arith)

module _ {k : Kind} {R : Rules} {Valid : Model → Type 0} {OnCourse : Model → ℕ → ℕ → Type 0} (L : Lawful k R Valid OnCourse) (G : Seeded k Valid OnCourse)
    (m : Model) (v : Valid m) where
  abbrev top : Option ℕ
  top = lowest_waiting m

  abbrev of : Job → Entry
  of j = entry_of m.settings top j

  jobs_are : map seen (keep is_live_entry (entries_of m)) ≡ map shown m.jobs
  jobs_are =
      ap (map seen)
      (keep_map is_live_entry of m.jobs
      ∙ ap (map of) (keep_all (λ (j : Job). is_live_entry (of j)) m.jobs (λ j i. live_fate j.state j.start j.end)))
      ∙ map-map seen of m.jobs

  -- every entry is that of a job
  pub each : (P : Entry → Type 0) → ((j : Job) → In j m.jobs → P (of j)) → (x : Entry) → In x (entries_of m) → P x
  each P f x i = let r = map_in of m.jobs i in subst P (sym r.2) (f r.0 r.1)

  -- a job that waits by the book waits
  pub waits_is : (j : Job) → In j m.jobs → waits (fate_by j.state j.start j.end) ≡ jobs.is_waiting j
  waits_is j i = by j.state (all_in Live (L.all_live m v) i)
    where
      by : (s : State) → live? s ≡ true → waits (fate_by s j.start j.end) ≡ waiting? s
      by Unused e = true_false false e refl
      by Waiting e = refl
      by Running e = refl
      by Cleanup e = refl

  -- on time: it waits and is on course, or it has started
  on_time : (j : Job) (d : ℕ) → In j m.jobs → (jobs.is_waiting j ≡ true → OnCourse m j.ticket d) → (jobs.is_waiting j ≡ false → j.start ≤ d)
      → OnTime OnCourse m j.ticket (fate_by j.state j.start j.end) d
  on_time j d i f g = by j.state refl (all_in Live (L.all_live m v) i)
    where
      by : (s : State) → j.state ≡ s → live? j.state ≡ true → OnTime OnCourse m j.ticket (fate_by s j.start j.end) d
      by Unused e l = true_false (live? j.state) l (ap live? e)
      by Waiting e l = f (ap waiting? e)
      by Running e l = g (ap waiting? e)
      by Cleanup e l = g (ap waiting? e)

  deadline_kept : (κ : Kind) → k ≡ κ → (j : Job) (d : ℕ) → In j m.jobs → deadline_of κ (of j) ≡ some d
      → OnTime OnCourse m j.ticket (fate_by j.state j.start j.end) d
  deadline_kept Conservative q j d i e =
      let z : j.promise ≡ d = cc in
      on_time j d i
      (λ w. subst (OnCourse m j.ticket) (ap (λ (κ : Kind). deadline κ j.promise (bound_of m.settings j)) q ∙ z) (G.waiting m j v i w))
      (λ w. omega (arith, G.started q m j v i))
  deadline_kept Easy q j d i e =
      let y = given_waits (jobs.is_waiting j) (bound_of m.settings j) d e in
      on_time j d i
      (λ w. subst (OnCourse m j.ticket) (ap (λ (κ : Kind). deadline κ j.promise (bound_of m.settings j)) q ∙ y.1) (G.waiting m j v i w))
      (λ w. true_false (jobs.is_waiting j) y.0 w)

  some_is : (o : Option ℕ) (t : ℕ) → o ≡ some t → is o t ≡ true
  some_is o t e = rw e (eq-eqb t t refl)

  is_some : (o : Option ℕ) (t : ℕ) → is o t ≡ true → o ≡ some t
  is_some none t e = true_false false e refl
  is_some (some x) t e = ap some (eqb-true x t e)

  pub beginning_agrees : Agrees k OnCourse m (beginning m)
  beginning_agrees = record {
    clock_is = refl;
    jobs_are = jobs_are;
    deadlines = λ x d i e.
        each (λ (y : Entry). deadline_of k y ≡ some d → OnTime OnCourse m y.ticket y.fate d) (λ j u q. deadline_kept k refl j d u q) x i e;
    forecasts = λ x f i e.
        each (λ (y : Entry). y.forecast ≡ some f → OnTime OnCourse m y.ticket y.fate f)
        (λ j u q.
        let y = given_waits (jobs.is_waiting j && ltb 0 j.forecast) j.forecast f q in
        let b = both (jobs.is_waiting j) (ltb 0 j.forecast) y.0 in
        on_time j f u
        (λ w. subst (OnCourse m j.ticket) y.1 (G.forecasts m j v u w (ltb-true 0 j.forecast b.1)))
        (λ w. true_false (jobs.is_waiting j) b.0 w))
        x i e;
    heard_one = λ q x i h.
        each (λ (y : Entry). y.headed ≡ true → (f : ℕ) × (y.forecast ≡ some f))
        (λ j u e.
        let b = both (jobs.is_waiting j) (is top j.ticket) e in
        (j.forecast, rw (b.0, lt-ltb 0 j.forecast (G.heads q m j v u b.0 (is_some top j.ticket b.1)))))
        x i h;
    heads = λ x i w h.
        each (λ (y : Entry). is_waiting y ≡ true → head_of (entries_of m) ≡ some y.ticket → y.headed ≡ true)
        (λ j u w h. rw (
          sym (waits_is j u) ∙ w,
          some_is top j.ticket (sym (ap lowest (same_queue m.jobs (entries_of m) (L.all_live m v) jobs_are)) ∙ h),
        ))
        x i w h;
    none_stray = refl;
  }
