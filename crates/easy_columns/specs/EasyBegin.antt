-- The columns of EASY from those of both kinds: one loop over the live jobs.
-- Assumes nothing.
use Rattle.std.specs.Prelude.{ℕ, zero, suc, ◌+◌, ◌-◌, ◌≤◌, ◌<◌, ◌≡◌, refl, true, false, cond, List, [], ◌∷◌, ◌++◌, eqb, length, get_or, set, take}
use Rattle.std.proofs.Common.{arith, add-one, sym, ap, subst, ◌∙◌, length-append, take_all, take-suc, length-take-le, eqb-true, eq-eqb, ne_eqb}
use Rattle.std.proofs.lemmas.Bool.{eqb-false}
use Rattle.lists.specs.Tests.{case, true_false}
use Rattle.lists.specs.Lists.{sum, in_getD, keep_in, sum_picked, length_keep_le}
use Rattle.lists.specs.Loops.{keep_take_yes, keep_take_no}
use Rattle.scheduler.specs.declared.State.{State}
use Rattle.scheduler.specs.declared.State.TheVariants.{Unused, Waiting, Running, Cleanup}
use Rattle.scheduler.specs.declared.Settings.{Settings}
use Rattle.scheduler.specs.declared.Job.{Job}
use Rattle.scheduler.specs.Limits.{slots, horizon}
use Rattle.scheduler.specs.States.{live?, waiting?, running?, cleaning?, holding?}
use Rattle.scheduler.specs.Jobs.{unused, is_waiting, is_running, is_holding, held}
use Rattle.scheduler.specs.Settings.{cleanup, until}
use Rattle.scheduler.specs.Times.{until_end}
use Rattle.scheduler.specs.Table.{nodes_held, ticket_of}
use Rattle.scheduler.specs.Model.{Model}
use Rattle.jobs.specs.Soundness.{Sound, SoundJob, running_clean}
use Rattle.easy_laws.specs.Settling.{idle, sound_releasing}
use Rattle.job_columns.specs.Columns.{Column, Blank, nodes_of, column_at, column_push}
use Rattle.job_columns.specs.JobColumns.{state_of, due_of, JobColumns}
use Rattle.job_columns.specs.Encoding.{number_waiting, number_running, due_running, due_cleaning}
use Rattle.easy_engine.specs.Survey.{nobody, asks, running}
use Rattle.easy_engine.specs.SurveyLoop.{sum_first}
use Rattle.easy_columns.specs.Counted.{Taken}
use Rattle.easy_columns.specs.EasyColumns.{Holders}

-- the columns of both kinds of a sound model, and four lists that hold nothing yet
pub record Beginning (tickets nodes states dues asked held ends holders : List ℕ) (live : ℕ) (S : Settings) : Type 0 where
  pub model : Model
  pub sound : Sound model
  pub settings_is : S ≡ model.settings
  pub starts : List ℕ
  pub tenants : List ℕ
  pub estimates : List ℕ
  pub leasts : List ℕ
  pub core : JobColumns model.settings model.jobs tickets nodes states dues starts tenants estimates leasts live
  pub asked_none : Blank asked
  pub held_none : Blank held
  pub ends_none : Blank ends
  pub holders_none : Blank holders

-- what its jobs ask for, and who holds nodes
pub record Begins (m : Model) (asked held ends holders : List ℕ) (r : Taken) : Type 0 where
  pub asked_are : Column asks m.jobs asked
  pub held_by : Holders m held ends holders r.holding r.spare

-- so far, of the first jobs
pub record Looked (m : Model) (i : ℕ) (asked heldₗ ends holders : List ℕ) (n spare : ℕ) : Type 0 where
  pub asked_are : Column asks (take i m.jobs) asked
  pub held_are : Column nodes_of (running (take i m.jobs)) heldₗ
  pub ends_are : Column (until m.settings) (running (take i m.jobs)) ends
  pub holders_are : Column ticket_of (running (take i m.jobs)) holders
  pub count_is : length (running (take i m.jobs)) ≡ n
  pub spare_is : spare + nodes_held (take i m.jobs) ≡ m.settings.nodes

holds_live : (s : State) → live? s ≡ true → waiting? s ≡ false → holding? s ≡ true
holds_live Unused l w = true_false false l refl
holds_live Waiting l w = true_false true refl w
holds_live Running l w = refl
holds_live Cleanup l w = refl

module _ {tickets nodes states dues asked heldₗ ends holders : List ℕ} {live : ℕ} {S : Settings}
    (b : Beginning tickets nodes states dues asked heldₗ ends holders live S) where
  abbrev m : Model
  m = b.model

  abbrev js : List Job
  js = b.model.jobs

  pub begin_few : live ≤ slots
  begin_few = omega (arith, b.core.live_is, b.sound.few)

  pub looked_first : (all : ℕ) → all ≡ S.nodes → Looked m 0 asked heldₗ ends holders 0 all
  looked_first all e = record {
    asked_are = b.asked_none;
    held_are = b.held_none;
    ends_are = b.ends_none;
    holders_are = b.holders_none;
    count_is = refl;
    spare_is = omega (arith, e, ap (λ (T : Settings). T.nodes) b.settings_is);
  }

  module _ (i : ℕ) (l : i < live) where
    abbrev x : Job
    x = get_or js i unused

    low : i < length js
    low = omega (arith, b.core.live_is)

    sound_job : SoundJob m.settings m.clock x
    sound_job = b.sound.each x (in_getD js i unused low)

    state_is : get_or states i 0 ≡ state_of x
    state_is = column_at state_of js states b.core.states_are unused i low

    nodes_is : get_or nodes i 0 ≡ x.nodes
    nodes_is = column_at nodes_of js nodes b.core.nodes_are unused i low

    due_is : get_or dues i 0 ≡ due_of m.settings x
    due_is = column_at (due_of m.settings) js dues b.core.dues_are unused i low

    waits_if : get_or states i 0 ≡ 1 → is_waiting x ≡ true
    waits_if e = sym (number_waiting x.state) ∙ eq-eqb (state_of x) 1 (sym state_is ∙ e)

    not_waits : (get_or states i 0 ≡ 1 → ⊥) → is_waiting x ≡ false
    not_waits f = sym (number_waiting x.state) ∙ ne_eqb (state_of x) 1 (λ q. f (state_is ∙ q))

    more : take (i + 1) js ≡ take i js ++ (x ∷ [])
    more = rw (add-one, take-suc js i unused low)

    so_far : length (take i js) ≡ i
    so_far = length-take-le i js (omega (arith, low))

    module _ {asked' heldₗ' ends' holders' : List ℕ} {n spare : ℕ} (v : Looked m i asked' heldₗ' ends' holders' n spare) where
      asked_next : (k : ℕ) → k ≡ asks x → Column asks (take (i + 1) js) (set asked' i k)
      asked_next k e =
          subst (λ (xs : List Job). Column asks xs (set asked' i k)) (sym more)
          (column_push asks (take i js) asked' v.asked_are x i k so_far (omega (arith, begin_few)) e)

      -- a place is left
      pub looked_room : n < slots
      looked_room = omega (arith, v.count_is, length_keep_le is_holding (take i js), so_far, begin_few)

      -- it waits
      pub looked_waits : get_or states i 0 ≡ 1 → Looked m (i + 1) (set asked' i (get_or nodes i 0)) heldₗ' ends' holders' n spare
      looked_waits e =
          let w = waits_if e in
          let r : running (take (i + 1) js) ≡ running (take i js) = keep_take_no unused is_holding js i low (idle x w) in
          let z : held x ≡ 0 = rw (idle x w) in
          record {
            asked_are = asked_next (get_or nodes i 0) (nodes_is ∙ rw w);
            held_are = subst (λ (xs : List Job). Column nodes_of xs heldₗ') (sym r) v.held_are;
            ends_are = subst (λ (xs : List Job). Column (until m.settings) xs ends') (sym r) v.ends_are;
            holders_are = subst (λ (xs : List Job). Column ticket_of xs holders') (sym r) v.holders_are;
            count_is = ap length r ∙ v.count_is;
            spare_is = omega (arith, v.spare_is, sum_first held js i low);
          }

      -- it holds nodes
      module _ (f : get_or states i 0 ≡ 1 → ⊥) where
        holds : is_holding x ≡ true
        holds = holds_live x.state sound_job.is_live (not_waits f)

        pub looked_fits : get_or nodes i 0 ≤ spare
        looked_fits =
            let z : held x ≡ x.nodes = rw holds in
            omega (arith, nodes_is, v.spare_is, sum_first held js i low, sum_within held js (i + 1), b.sound.capacity)
          where
            sum_within : (f : Job → ℕ) (xs : List Job) (i : ℕ) → sum f (take i xs) ≤ sum f xs
            sum_within f xs zero = omega arith
            sum_within f [] (suc i) = omega arith
            sum_within f (y ∷ xs) (suc i) = omega (arith, sum_within f xs i)

        -- until when: a run until its end and the cleanup
        pub until_running : get_or states i 0 ≡ 2 → (minutes : ℕ) → minutes ≡ cleanup S → get_or dues i 0 + minutes ≡ until m.settings x
        until_running e minutes q =
            let r : is_running x ≡ true = sym (number_running x.state) ∙ eq-eqb (state_of x) 2 (sym state_is ∙ e) in
            omega (
              arith,
              due_is,
              due_running m.settings x r,
              until_end m.settings x (running_clean x.state r),
              q,
              ap cleanup b.settings_is,
            )

        until_cleaning : (get_or states i 0 ≡ 2 → ⊥) → get_or dues i 0 ≡ until m.settings x
        until_cleaning e =
            let r : is_running x ≡ false = sym (number_running x.state) ∙ ne_eqb (state_of x) 2 (λ q. e (state_is ∙ q)) in
            due_is ∙ due_cleaning m.settings x (cleans x.state holds r)
          where
            cleans : (s : State) → holding? s ≡ true → running? s ≡ false → cleaning? s ≡ true
            cleans Unused h r = h
            cleans Waiting h r = h
            cleans Running h r = true_false true refl r
            cleans Cleanup h r = refl

        -- by the state
        pub until_is : (minutes : ℕ) → minutes ≡ cleanup S → cond (eqb (get_or states i 0) 2) (get_or dues i 0 + minutes) (get_or dues i 0) ≡ until m.settings x
        until_is minutes q =
            case (eqb (get_or states i 0) 2)
            (λ e. rw e (until_running (eqb-true (get_or states i 0) 2 e) minutes q))
            (λ e. rw e (until_cleaning (eqb-false (get_or states i 0) 2 e)))

        -- the minute fits
        pub until_low : (end : ℕ) → end ≡ until m.settings x → end ≤ horizon
        until_low end e = omega (arith, e, sound_job.ends)

        pub looked_holds : (end : ℕ) → end ≡ until m.settings x
            → Looked m (i + 1) (set asked' i nobody) (set heldₗ' n (get_or nodes i 0)) (set ends' n end) (set holders' n (get_or tickets i 0)) (n + 1)
            (spare - get_or nodes i 0)
        looked_holds end e =
            let r : running (take (i + 1) js) ≡ running (take i js) ++ (x ∷ []) = keep_take_yes unused is_holding js i low holds in
            let z : held x ≡ x.nodes = rw holds in
            record {
              asked_are = asked_next nobody (rw (not_waits f));
              held_are =
                  subst (λ (xs : List Job). Column nodes_of xs (set heldₗ' n (get_or nodes i 0))) (sym r)
                  (column_push nodes_of (running (take i js)) heldₗ' v.held_are x n (get_or nodes i 0) v.count_is looked_room nodes_is);
              ends_are =
                  subst (λ (xs : List Job). Column (until m.settings) xs (set ends' n end)) (sym r)
                  (column_push (until m.settings) (running (take i js)) ends' v.ends_are x n end v.count_is looked_room e);
              holders_are =
                  subst (λ (xs : List Job). Column ticket_of xs (set holders' n (get_or tickets i 0))) (sym r)
                  (column_push ticket_of (running (take i js)) holders' v.holders_are x n (get_or tickets i 0) v.count_is looked_room
                  (column_at ticket_of js tickets b.core.tickets_are unused i low));
              count_is = ap length r ∙ length-append (running (take i js)) (x ∷ []) ∙ ap (λ (k : ℕ). k + 1) v.count_is;
              spare_is = omega (arith, nodes_is, v.spare_is, sum_first held js i low, looked_fits);
            }

  -- all have been looked at
  pub looked_all : {asked' heldₗ' ends' holders' : List ℕ} {n spare : ℕ} (i : ℕ) → live ≤ i → Looked m i asked' heldₗ' ends' holders' n spare
      → Begins m asked' heldₗ' ends' holders' (record { holding = n; spare = spare })
  looked_all {asked'} {heldₗ'} {ends'} {holders'} {n} {spare} i l v =
      let e : take i js ≡ js = take_all i js (omega (arith, b.core.live_is)) in
      record {
        asked_are = subst (λ (xs : List Job). Column asks xs asked') e v.asked_are;
        held_by = record {
          jobs = running js;
          holds = record {
            releasing = sound_releasing m b.sound;
            runs = record { each = λ j k. (keep_in is_holding js k).1; same = λ f. sum_picked f is_holding js };
            held_is = subst (λ (xs : List Job). Column nodes_of (running xs) heldₗ') e v.held_are;
            ends_is = subst (λ (xs : List Job). Column (until m.settings) (running xs) ends') e v.ends_are;
            count_is = ap (λ (xs : List Job). length (running xs)) (sym e) ∙ v.count_is;
            spare_is = omega (arith, v.spare_is, ap nodes_held e);
          };
          holders_are = subst (λ (xs : List Job). Column ticket_of (running xs) holders') e v.holders_are;
        };
      }
