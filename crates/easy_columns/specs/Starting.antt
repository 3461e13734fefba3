-- Starts written into the columns one after another, each in its slot.
-- Assumes nothing.
use Rattle.std.specs.Prelude.{ℕ, zero, suc, ◌+◌, ◌-◌, ◌≤◌, ◌<◌, ◌≡◌, refl, List, [], ◌∷◌, ◌++◌, map, length, get_or, set, take}
use Rattle.std.proofs.Common.{arith, add-one, sym, ap, subst, ◌∙◌, append_assoc, append-nil, length-append, length-set, take-suc, take_all, take-suc-set, length-take-le}
use Rattle.std.proofs.lemmas.List.{length-map}
use Rattle.std.proofs.Math.ListN.{get_or-map}
use Rattle.lists.specs.Lists.{In, in_getD}
use Rattle.lists.specs.Pads.{pad, pad_push}
use Rattle.scheduler.specs.declared.Job.{Job}
use Rattle.scheduler.specs.declared.State.TheVariants.{Running}
use Rattle.scheduler.specs.Limits.{slots}
use Rattle.scheduler.specs.Jobs.{unused, job_at}
use Rattle.scheduler.specs.Settings.{cleanup, run_time, until}
use Rattle.scheduler.specs.Times.{hold_is, until_at}
use Rattle.scheduler.specs.Table.{ticket_of, tickets_of}
use Rattle.scheduler.specs.Model.{Model}
use Rattle.jobs.specs.Order.{Asc}
use Rattle.easy_rules.specs.Easy.{begun, begin}
use Rattle.easy_laws.specs.EngineLaws.{begin_set}
use Rattle.job_columns.specs.Columns.{Column, Whole, estimate_of, column_at}
use Rattle.job_columns.specs.JobColumns.{JobColumns}
use Rattle.job_columns.specs.ColumnChanges.{columns_begun}
use Rattle.easy_engine.specs.Survey.{begins}
use Rattle.easy_engine.specs.WrittenStarts.{begins_keep, begins_asc, begins_clock, begins_last, begins_length, ticket_still}

-- the tickets of the jobs in these slots
abbrev pub tickets_at : Model → List ℕ → List ℕ
tickets_at m places = map (λ (i : ℕ). get_or (tickets_of m.jobs) i 0) places

-- `count` jobs start now: `order` has their slots, and `ends` has from `holding` on until when they hold their nodes
pub record Starting (tickets states dues starts order started ends holders : List ℕ) (count holding clock minutes : ℕ) : Type 0 where
  pub model : Model
  pub asc : Asc 1 model.jobs
  pub few : length model.jobs ≤ slots
  pub clock_is : clock ≡ model.clock
  pub cleanup_is : minutes ≡ cleanup model.settings
  pub live : ℕ
  pub nodes : List ℕ
  pub tenants : List ℕ
  pub estimates : List ℕ
  pub leasts : List ℕ
  pub core : JobColumns model.settings model.jobs tickets nodes states dues starts tenants estimates leasts live
  pub jobs : List Job
  pub holders_are : Column ticket_of jobs holders
  pub holding_is : length jobs ≡ holding
  pub room : Whole started
  pub places : List ℕ
  pub low : (i : ℕ) → In i places → i < length model.jobs
  pub count_is : length places ≡ count
  pub order_is : (k : ℕ) → k < count → get_or order k 0 ≡ get_or places k 0
  pub fits : holding + count ≤ slots
  pub ends_are : (k : ℕ) → k < count → get_or ends (holding + k) 0 ≡ until model.settings (begun clock (get_or model.jobs (get_or places k 0) unused))

-- the first k are written
pub record Written (m : Model) (places : List ℕ) (jobs : List Job) (tickets nodes states dues starts tenants estimates leasts : List ℕ) (live : ℕ)
    (started holders : List ℕ) (k : ℕ) : Type 0 where
  pub core : JobColumns m.settings (begins (take k (tickets_at m places)) m).jobs tickets nodes states dues starts tenants estimates leasts live
  pub started_are : take k started ≡ take k (tickets_at m places)
  pub room : Whole started
  pub holders_are : holders ≡ pad slots 0 (tickets_of jobs ++ take k (tickets_at m places))

module _ {tickets states dues starts order started ends holders : List ℕ} {count holding clock minutes : ℕ}
    (s : Starting tickets states dues starts order started ends holders count holding clock minutes) where
  abbrev m : Model
  m = s.model

  abbrev ts : List ℕ
  ts = tickets_at m s.places

  ts_length : length ts ≡ count
  ts_length = length-map s.places (λ (i : ℕ). get_or (tickets_of m.jobs) i 0) ∙ s.count_is

  pub written_first : Written m s.places s.jobs tickets s.nodes states dues starts s.tenants s.estimates s.leasts s.live started holders 0
  written_first = record {
    core = s.core;
    started_are = refl;
    room = s.room;
    holders_are = s.holders_are ∙ ap (pad slots 0) (sym (append-nil (tickets_of s.jobs)));
  }

  -- the slot of the next start
  module _ (k : ℕ) (l : k < count) where
    abbrev at : ℕ
    at = get_or order k 0

    abbrev place : ℕ
    place = get_or s.places k 0

    pub at_low : at < length m.jobs
    at_low = omega (arith, s.order_is k l, s.low place (in_getD s.places k 0 (omega (arith, s.count_is))))

    end_is : get_or ends (holding + k) 0 ≡ clock + run_time m.settings (get_or m.jobs at unused).estimate + minutes
    end_is =
        let j = get_or m.jobs place unused in
        s.ends_are k l
        ∙ until_at m.settings Running clock j refl
        ∙ omega (
          arith,
          hold_is m.settings j.estimate,
          s.cleanup_is,
          ap (λ (i : ℕ). run_time m.settings (get_or m.jobs i unused).estimate) (s.order_is k l),
        )

    -- its end is after the cleanup
    pub end_low : minutes ≤ get_or ends (holding + k) 0
    end_low = omega (arith, end_is)

    ticket_is : get_or tickets at 0 ≡ get_or ts k 0
    ticket_is =
        column_at ticket_of m.jobs tickets s.core.tickets_are unused at at_low
        ∙ ap (λ (i : ℕ). (get_or m.jobs i unused).ticket) (s.order_is k l)
        ∙ sym (get_or-map ticket_of m.jobs place unused)
        ∙ mapped s.places k (omega (arith, s.count_is))
      where
        mapped : (ks : List ℕ) (k : ℕ) → k < length ks → get_or (tickets_of m.jobs) (get_or ks k 0) 0 ≡ get_or (tickets_at m ks) k 0
        mapped [] k l = absurd (omega arith)
        mapped (i ∷ ks) zero l = refl
        mapped (i ∷ ks) (suc k) l = mapped ks k (omega arith)

    module _ {states' dues' starts' started' holders' : List ℕ}
        (v : Written m s.places s.jobs tickets s.nodes states' dues' starts' s.tenants s.estimates s.leasts s.live started' holders' k) where
      abbrev now : Model
      now = begins (take k ts) m

      more : take (k + 1) ts ≡ take k ts ++ (get_or ts k 0 ∷ [])
      more = rw (add-one, take-suc ts k 0 (omega (arith, ts_length)))

      inside : at < length now.jobs
      inside = omega (arith, at_low, begins_length (take k ts) m)

      estimate_still : (get_or now.jobs at unused).estimate ≡ (get_or m.jobs at unused).estimate
      estimate_still =
          sym (get_or-map estimate_of now.jobs at unused)
          ∙ ap (λ (ns : List ℕ). get_or ns at 0) (begins_keep estimate_of (λ now j. refl) (take k ts) m)
          ∙ get_or-map estimate_of m.jobs at unused

      next_jobs : set now.jobs at (job_at Running clock (get_or now.jobs at unused)) ≡ (begins (take (k + 1) ts) m).jobs
      next_jobs =
          ap (λ (c : ℕ). set now.jobs at (job_at Running c (get_or now.jobs at unused))) (s.clock_is ∙ sym (begins_clock (take k ts) m))
          ∙ sym (ap (λ (x : Model). x.jobs) (begin_set now at unused inside (begins_asc (take k ts) m s.asc)))
          ∙ ap (λ (t : ℕ). (begin t now).jobs)
          (ticket_still (take k ts) m at ∙ sym (column_at ticket_of m.jobs tickets s.core.tickets_are unused at at_low) ∙ ticket_is)
          ∙ ap (λ (x : Model). x.jobs) (sym (begins_last (take k ts) (get_or ts k 0) m))
          ∙ ap (λ (us : List ℕ). (begins us m).jobs) (sym more)

      pub written_next : Written m s.places s.jobs tickets s.nodes (set states' at 2) (set dues' at (get_or ends (holding + k) 0 - minutes))
          (set starts' at clock) s.tenants s.estimates s.leasts s.live (set started' k (get_or tickets at 0))
          (set holders' (holding + k) (get_or tickets at 0)) (k + 1)
      written_next = record {
        core =
            subst (λ (js : List Job). JobColumns m.settings js tickets s.nodes (set states' at 2) (set dues' at (get_or ends (holding + k) 0 - minutes))
            (set starts' at clock) s.tenants s.estimates s.leasts s.live) next_jobs
            (columns_begun v.core at (omega (arith, inside, v.core.live_is)) clock (get_or ends (holding + k) 0 - minutes)
            (omega (arith, end_is, ap (run_time m.settings) estimate_still)));
        started_are =
            rw (add-one k) (take-suc-set started' k (get_or tickets at 0) (omega (arith, v.room, s.fits)))
            ∙ ap (λ (us : List ℕ). us ++ (get_or tickets at 0 ∷ [])) v.started_are
            ∙ ap (λ (t : ℕ). take k ts ++ (t ∷ [])) ticket_is
            ∙ sym more;
        room = length-set started' k (get_or tickets at 0) ∙ v.room;
        holders_are =
            ap (λ (ns : List ℕ). set ns (holding + k) (get_or tickets at 0)) v.holders_are
            ∙ pad_push slots 0 (tickets_of s.jobs ++ take k ts) (get_or tickets at 0) (holding + k) long (omega (arith, s.fits))
            ∙ ap (pad slots 0)
            (append_assoc (tickets_of s.jobs) (take k ts) (get_or tickets at 0 ∷ [])
            ∙ ap (λ (us : List ℕ). tickets_of s.jobs ++ us) (ap (λ (t : ℕ). take k ts ++ (t ∷ [])) ticket_is ∙ sym more));
      }
        where
          long : length (tickets_of s.jobs ++ take k ts) ≡ holding + k
          long =
              omega (
                arith,
                length-append (tickets_of s.jobs) (take k ts),
                length-map s.jobs ticket_of,
                s.holding_is,
                length-take-le k ts (omega (arith, ts_length)),
              )

-- all starts are in the columns, and in the lists
pub record Begun (m : Model) (places : List ℕ) (jobs : List Job) (tickets nodes states dues starts tenants estimates leasts : List ℕ) (live : ℕ)
    (started holders : List ℕ) (count : ℕ) : Type 0 where
  pub core : JobColumns m.settings (begins (tickets_at m places) m).jobs tickets nodes states dues starts tenants estimates leasts live
  pub started_are : take count started ≡ tickets_at m places
  pub room : Whole started
  pub holders_are : holders ≡ pad slots 0 (tickets_of jobs ++ tickets_at m places)

pub written_all : {tickets states dues starts order started ends holders : List ℕ} {count holding clock minutes : ℕ}
    (s : Starting tickets states dues starts order started ends holders count holding clock minutes) {states' dues' starts' started' holders' : List ℕ}
    (k : ℕ) → count ≤ k → k ≤ count
    → Written s.model s.places s.jobs tickets s.nodes states' dues' starts' s.tenants s.estimates s.leasts s.live started' holders' k
    → Begun s.model s.places s.jobs tickets s.nodes states' dues' starts' s.tenants s.estimates s.leasts s.live started' holders' count
written_all {tickets} {count = count} s {states'} {dues'} {starts'} {started'} k l h v =
    let ts = tickets_at s.model s.places in
    let e : take k ts ≡ ts = take_all k ts (omega (arith, length-map s.places (λ (i : ℕ). get_or (tickets_of s.model.jobs) i 0), s.count_is)) in
    let q : k ≡ count = omega arith in
    record {
      core =
          subst (λ (us : List ℕ). JobColumns s.model.settings (begins us s.model).jobs tickets s.nodes states' dues' starts' s.tenants
          s.estimates s.leasts s.live) e v.core;
      started_are = ap (λ (n : ℕ). take n started') (sym q) ∙ v.started_are ∙ e;
      room = v.room;
      holders_are = v.holders_are ∙ ap (λ (us : List ℕ). pad slots 0 (tickets_of s.jobs ++ us)) e;
    }
