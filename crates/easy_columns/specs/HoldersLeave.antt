-- Who holds nodes after a call's own part: at a tick, at an early end, at a withdrawal, and where a job comes in.
-- Assumes nothing.
use Rattle.std.specs.Prelude.{ℕ, suc, ◌+◌, ◌-◌, ◌≤◌, ◌<◌, ◌≡◌, refl, Bool, true, false, not, ◌&&◌, ◌||◌, cond, List, [], ◌∷◌, map, eqb, ltb, length, get_or, set}
use Rattle.std.proofs.Common.{arith, sym, ap, subst, ◌∙◌, length-set, eqb-true, eq-eqb, ne_eqb, ltb-true, lt-ltb}
use Rattle.std.proofs.Math.Option.{Option, none, some}
use Rattle.std.proofs.lemmas.List.{length-map}
use Rattle.std.proofs.lemmas.Bool.{eqb-false}
use Rattle.lists.specs.Tests.{case, true_false, on, both, and_right_false}
use Rattle.lists.specs.Lists.{In, sum, in_getD, keep_all, sum_append, sum_map, sum_keep, sum_picked, sum_cong, sum_in, sum_zero}
use Rattle.lists.specs.FirstLaws.{first_none, first_nowhere}
use Rattle.lists.specs.Loops.{position, position_says}
use Rattle.scheduler.specs.declared.Departure.TheVariants.{Complete, Cancel}
use Rattle.scheduler.specs.declared.State.{State}
use Rattle.scheduler.specs.declared.State.TheVariants.{Unused, Waiting, Running, Cleanup}
use Rattle.scheduler.specs.declared.Settings.{Settings}
use Rattle.scheduler.specs.declared.Job.{Job}
use Rattle.scheduler.specs.declared.Select.{Select}
use Rattle.scheduler.specs.declared.Select.TheVariants as select
use Rattle.scheduler.specs.declared.Submission.{Submission}
use Rattle.scheduler.specs.Limits.{slots, max_nodes}
use Rattle.scheduler.specs.States.{running?, cleaning?}
use Rattle.scheduler.specs.Jobs.{unused, is_waiting, is_running, is_cleaning, is_holding, held, cleaning}
use Rattle.scheduler.specs.Settings.{horizon, cleanup, end_of, until}
use Rattle.scheduler.specs.Times.{cleanup_le, until_end, until_cleaned}
use Rattle.scheduler.specs.Table.{nodes_held, ticket_of, ends, leaves, staying, ceased}
use Rattle.scheduler.specs.Model.{Model, ending, joined, without}
use Rattle.jobs.specs.Order.{asc_one}
use Rattle.jobs.specs.Soundness.{Sound, Leaving, early, in_time_lem, running_holds, holding_runs, running_clean, ends_runs, ceased_ticket, sound_leave}
use Rattle.easy_rules.specs.Easy.{free, new_job}
use Rattle.easy_laws.specs.Settling.{sound_releasing, idle}
use Rattle.job_columns.specs.Columns.{Column, nodes_of, column_at, column_set, column_map, column_still}
use Rattle.job_columns.specs.Searches.{place_of, has_ticket}
use Rattle.easy_engine.specs.Survey.{Runs}
use Rattle.easy_engine.specs.Shadows.{holding_few}
use Rattle.easy_columns.specs.EasyColumns.{Holders}
use Rattle.easy_columns.specs.HoldersChange.{runs_kept, runs_alike, runs_joined, runs_have, runs_once, runs_there, once_set, once_sum}
use Rattle.easy_columns.specs.Sifting as sift
use Rattle.easy_columns.specs.Sifting.{taken_out, out_column, out_length, out_sum, out_in, goes, given, Sift, Sifted, sifted_sum, sifted_left}

-- these hold nodes, and the job of this ticket runs and is over now
pub record Ending (held ends holders : List ℕ) (holding spare ticket clock minutes : ℕ) : Type 0 where
  pub model : Model
  pub sound : Sound model
  pub clock_is : clock ≡ model.clock
  pub minutes_is : minutes ≡ cleanup model.settings
  pub held_by : Holders model held ends holders holding spare
  pub job : Job
  pub inside : In job model.jobs
  pub runs : is_running job ≡ true
  pub named : job.ticket ≡ ticket

-- a run that ends keeps its nodes, whether it holds them, and its ticket
ceased_nodes : (now : ℕ) (s : Select) (j : Job) → (ceased now s j).nodes ≡ j.nodes
ceased_nodes now s j = case (ends s j) (λ e. rw e) (λ e. rw e)

ceased_holds : (now : ℕ) (s : Select) (j : Job) → is_holding (ceased now s j) ≡ is_holding j
ceased_holds now s j = case (ends s j) (λ e. rw (e, running_holds j.state (ends_runs s j e))) (λ e. rw e)

-- parts of a sum
sum_parts : (f : Job → ℕ) (p : Job → Bool) (xs : List Job) → sum (λ (j : Job). on (not (p j)) (f j)) xs + sum (λ (j : Job). on (p j) (f j)) xs ≡ sum f xs
sum_parts f p xs = omega (arith, sum_keep f p xs, sum_picked f (λ (j : Job). not (p j)) xs)

module _ (m : Model) (s : Sound m) {heldₗ endsₗ holders : List ℕ} {holding spare : ℕ} (h : Holders m heldₗ endsₗ holders holding spare) where
  abbrev rs : List Job
  rs = h.jobs

  abbrev S : Settings
  S = m.settings

  -- who holds nodes does so past now, and who runs runs past now
  holds_later : (j : Job) → In j rs → m.clock < until S j
  holds_later j i =
      ltb-true m.clock (until S j)
      (runs_have m rs h.holds.runs (λ (k : Job). ltb m.clock (until S k)) (λ k l r. lt-ltb m.clock (until S k) ((s.each k l).holds r).1) j i)

  runs_later : (j : Job) → In j rs → is_running j ≡ true → m.clock < end_of S j
  runs_later j i r =
      ltb-true m.clock (end_of S j)
      (rw r at (runs_have m rs h.holds.runs (λ (k : Job). cond (is_running k) (ltb m.clock (end_of S k)) true)
      (λ k l q. case (is_running k) (λ e. rw e (lt-ltb m.clock (end_of S k) ((s.each k l).runs e))) (λ e. rw e)) j i))

  pub held_all : sum nodes_of rs ≡ nodes_held m.jobs
  held_all = h.holds.runs.same nodes_of

  -- ## Some leave

  module _ (c : ℕ) (p : Select) (l : Leaving m c p) where
    abbrev after : Model
    after = without m c p

    kept : Runs after (map (ceased c p) (staying S p rs))
    kept = runs_kept m after (λ (j : Job). not (leaves S p j)) (ceased c p) (ceased_holds c p) refl rs h.holds.runs

    -- these are who holds nodes then
    module _ (xs : List Job) (inside : (j : Job) → In j xs → In j rs)
        (same : (f : Job → ℕ) → sum f xs ≡ sum (λ (j : Job). on (not (leaves S p j)) (f j)) rs)
        (still : (j : Job) → In j xs → until S (ceased c p j) ≡ until S j) where
      runs_after : Runs after (map (ceased c p) xs)
      runs_after =
          runs_alike after (λ (j : Job). not (leaves S p j)) (ceased c p) rs xs kept
          (λ j i. ceased_holds c p j ∙ h.holds.runs.each j (inside j i)) same

      left_is : (left : ℕ) → left ≡ spare + sum (λ (j : Job). on (leaves S p j) j.nodes) rs → left ≡ free after
      left_is left e =
          omega (
            arith,
            h.holds.spare_is,
            runs_after.same nodes_of,
            sum_map nodes_of (ceased c p) xs,
            sum_cong (λ (j : Job). nodes_of (ceased c p j)) nodes_of xs (λ j i. ceased_nodes c p j),
            same nodes_of,
            sum_parts nodes_of (leaves S p) rs,
            held_all,
            s.capacity,
          )

      holders_after : {held' ends' holders' : List ℕ} {n left : ℕ} → Column nodes_of xs held' → Column (until S) xs ends' → Column ticket_of xs holders'
          → length xs ≡ n → left ≡ spare + sum (λ (j : Job). on (leaves S p j) j.nodes) rs → Holders after held' ends' holders' n left
      holders_after ch ce ct n e = record {
        jobs = map (ceased c p) xs;
        holds = record {
          releasing = sound_releasing after (sound_leave m c p s l);
          runs = runs_after;
          held_is = column_map nodes_of xs _ ch (ceased c p) (λ j i. ceased_nodes c p j);
          ends_is = column_map (until S) xs _ ce (ceased c p) still;
          count_is = length-map xs (ceased c p) ∙ n;
          spare_is = left_is _ e;
        };
        holders_are = column_map ticket_of xs _ ct (ceased c p) (λ j i. ceased_ticket c p j);
      }

  -- ## A tick

  -- a run that ends in time is free when it was to be
  tick_still : (j : Job) → until S (ceased (suc m.clock) (ending m) j) ≡ until S j
  tick_still j =
      case (ends (ending m) j)
      (λ e. let b = both (is_running j) (eqb (end_of S j) (suc m.clock)) e in
      rw e (omega (
        arith,
        until_cleaned S (suc m.clock) j,
        until_end S j (running_clean j.state b.0),
        eqb-true (end_of S j) (suc m.clock) b.1,
      )))
      (λ e. rw e)

  -- who leaves is whose nodes are free in the minute
  tick_goes : (j : Job) → In j rs → goes (until S) (suc m.clock) j ≡ leaves S (ending m) j
  tick_goes j i =
      case (is_cleaning j)
      (λ k. rw (k, cleans_runs j.state k) (or_no (eqb (until S j) (suc m.clock))))
      (λ k. let r = holding_runs j.state (h.holds.runs.each j i) k in
      rw (k, r) (by (runs_later j i r) (until_end S j k)))
    where
      cleans_runs : (t : State) → cleaning? t ≡ true → running? t ≡ false
      cleans_runs Unused e = refl
      cleans_runs Waiting e = refl
      cleans_runs Running e = true_false false e refl
      cleans_runs Cleanup e = refl

      or_no : (a : Bool) → a ≡ (a || false)
      or_no true = refl
      or_no false = refl

      by : m.clock < end_of S j → until S j ≡ end_of S j + cleanup S
          → eqb (until S j) (suc m.clock) ≡ (eqb (end_of S j) (suc m.clock) && eqb (cleanup S) 0)
      by a b =
          case (eqb (cleanup S) 0)
          (λ z. rw z (let u : until S j ≡ end_of S j = omega (arith, eqb-true (cleanup S) 0 z) in
          ap (λ (n : ℕ). eqb n (suc m.clock)) u ∙ and_yes (eqb (end_of S j) (suc m.clock))))
          (λ z. rw (z, and_right_false (eqb (end_of S j) (suc m.clock)) refl)
          (ne_eqb (until S j) (suc m.clock) (λ q. eqb-false (cleanup S) 0 z (omega arith))))
        where
          and_yes : (a : Bool) → a ≡ (a && true)
          and_yes true = refl
          and_yes false = refl

  abbrev pub tick_sift : Sift heldₗ endsₗ holders holding spare
  tick_sift = record {
    jobs = rs;
    frees = until S;
    held_are = h.holds.held_is;
    ends_are = h.holds.ends_is;
    holders_are = h.holders_are;
    count_is = h.holds.count_is;
    few = holding_few h.holds;
    within = omega (arith, h.holds.spare_is, held_all, s.capacity, s.nodes_to);
  }

  pub holders_ticked : suc m.clock ≤ horizon S → {held' ends' holders' : List ℕ} {n left i : ℕ}
      → (v : Sifted rs (until S) (suc m.clock) spare held' ends' holders' n left i) → n ≤ i
      → Holders (without m (suc m.clock) (ending m)) held' ends' holders' n left
  holders_ticked q v d =
      holders_after (suc m.clock) (ending m) (in_time_lem q) v.jobs v.inside
      (λ f. sifted_sum v d f ∙ sum_cong (λ (j : Job). on (not (goes (until S) (suc m.clock) j)) (f j))
      (λ (j : Job). on (not (leaves S (ending m) j)) (f j)) rs (λ j i. ap (λ (b : Bool). on (not b) (f j)) (tick_goes j i)))
      (λ j i. tick_still j) v.held_are v.ends_are v.holders_are v.count_is
      (sifted_left v d
      ∙ ap (λ (n : ℕ). spare + n)
      (sum_cong (given (until S) (suc m.clock)) (λ (j : Job). on (leaves S (ending m) j) j.nodes) rs (λ j i. ap (λ (b : Bool). on b j.nodes) (tick_goes j i))))

  -- ## A withdrawal

  pub holders_withdrawn : (t : ℕ) → Holders (without m m.clock (select.Departing Cancel t)) heldₗ endsₗ holders holding spare
  holders_withdrawn t =
      let p = select.Departing Cancel t in
      holders_after m.clock p (early Cancel t) rs (λ j i. i)
      (λ f. sum_cong f (λ (j : Job). on (not (leaves S p j)) (f j)) rs (λ j i. rw (stays j i)))
      (λ j i. refl) h.holds.held_is h.holds.ends_is h.holders_are h.holds.count_is
      (omega (arith, sum_zero (λ (j : Job). on (leaves S p j) j.nodes) rs (λ j i. rw (stays j i))))
    where
      stays : (j : Job) → In j rs → leaves S (select.Departing Cancel t) j ≡ false
      stays j i =
          case (is_waiting j)
          (λ w. true_false (is_holding j) (h.holds.runs.each j i) (idle j w))
          (λ w. rw w)

  -- ## An early end

  module _ (t : ℕ) (k : Job) (inside : In k m.jobs) (runs : is_running k ≡ true) (named : k.ticket ≡ t) (i : ℕ)
      (place : i ≡ place_of (position (has_ticket t) rs) holding) where
    abbrev p : Select
    p = select.Departing Complete t

    -- who has the ticket runs
    runs_named : (j : Job) → In j rs → has_ticket t j ≡ true → is_running j ≡ true
    runs_named j u e =
        rw e at (runs_have m rs h.holds.runs (λ (x : Job). cond (has_ticket t x) (is_running x) true)
        (λ x l q. case (has_ticket t x)
        (λ z. rw z (ap is_running (asc_one 1 m.jobs x k s.asc l inside (eqb-true x.ticket t z ∙ sym named)) ∙ runs))
        (λ z. rw z)) j u)

    ends_named : (j : Job) → In j rs → ends p j ≡ has_ticket t j
    ends_named j u =
        case (has_ticket t j) (λ e. rw (runs_named j u e)) (λ e. rw e (and_right_false (is_running j) refl))

    once : sum (λ (j : Job). on (has_ticket t j) 1) rs ≤ 1
    once = runs_once m rs h.holds.runs t s.asc

    found : (i < length rs) × (has_ticket t (get_or rs i unused) ≡ true)
    found = by (position (has_ticket t) rs) refl
      where
        by : (o : Option ℕ) → position (has_ticket t) rs ≡ o → (i < length rs) × (has_ticket t (get_or rs i unused) ≡ true)
        by none x =
            let z = sum_zero (λ (j : Job). on (has_ticket t j) 1) rs (λ j u. rw (first_none (has_ticket t) rs (first_nowhere (has_ticket t) rs 0 x) j u)) in
            absurd (omega (
              arith,
              runs_there m rs h.holds.runs k inside (running_holds k.state runs),
              ap (λ (n : ℕ). sum (λ (j : Job). on (has_ticket n j) 1) rs) named,
            ))
        by (some n) x =
            let q = position_says unused (has_ticket t) rs 0 n x in
            let z : i ≡ q.at = omega (arith, q.at_is, place ∙ ap (λ (o : Option ℕ). place_of o holding) x) in
            (omega (arith, q.inside), ap (λ (n : ℕ). has_ticket t (get_or rs n unused)) z ∙ q.passes)

    pub holder_low : i < holding
    holder_low = omega (arith, found.0, h.holds.count_is)

    abbrev x : Job
    x = get_or rs i unused

    ends_there : ends p x ≡ true
    ends_there = ends_named x (in_getD rs i unused found.0) ∙ found.1

    ends_once : sum (λ (j : Job). on (ends p j) 1) rs ≤ 1
    ends_once = omega (arith, sum_cong (λ (j : Job). on (ends p j) 1) (λ (j : Job). on (has_ticket t j) 1) rs (λ j u. ap (λ (b : Bool). on b 1) (ends_named j u)), once)

    -- its nodes are cleared first
    pub holders_cleaned : 1 ≤ cleanup S → Holders (without m m.clock p) heldₗ (set endsₗ i (m.clock + cleanup S)) holders holding spare
    holders_cleaned c =
        let e : map (ceased m.clock p) rs ≡ set rs i (cleaning m.clock x) = once_set (ends p) (cleaning m.clock) rs i found.0 ends_there ends_once in
        let y = cleaning m.clock x in
        let n : (j : Job) → leaves S p j ≡ false = λ j. rw (ne_eqb (cleanup S) 0 (λ z. omega arith)) (and_right_false (ends p j) refl) in
        let q : staying S p rs ≡ rs = keep_all (λ (j : Job). not (leaves S p j)) rs (λ j u. ap not (n j)) in
        let r : Runs (without m m.clock p) (set rs i y) = subst (λ (xs : List Job). Runs (without m m.clock p) xs) (ap (map (ceased m.clock p)) q ∙ e)
        (kept m.clock p (early Complete t)) in
        record {
          jobs = set rs i y;
          holds = record {
            releasing = sound_releasing _ (sound_leave m m.clock p s (early Complete t));
            runs = r;
            held_is = column_still nodes_of rs heldₗ h.holds.held_is unused i y refl;
            ends_is = column_set (until S) rs endsₗ h.holds.ends_is i y (m.clock + cleanup S) found.0 (sym (until_cleaned S m.clock x));
            count_is = length-set rs i y ∙ h.holds.count_is;
            spare_is =
                omega (
                  arith,
                  h.holds.spare_is,
                  r.same nodes_of,
                  ap (sum nodes_of) (sym e),
                  sum_map nodes_of (ceased m.clock p) rs,
                  sum_cong (λ (j : Job). nodes_of (ceased m.clock p j)) nodes_of rs (λ j u. ceased_nodes m.clock p j),
                  held_all,
                );
          };
          holders_are = column_still ticket_of rs holders h.holders_are unused i y refl;
        }

    -- its nodes are free at once
    module _ (c : cleanup S ≡ 0) (last : ℕ) (z : holding ≡ last + 1) where
      long : length rs ≡ last + 1
      long = h.holds.count_is ∙ z

      abbrev xs : List Job
      xs = sift.without i last rs

      leaves_ends : (j : Job) → leaves S p j ≡ ends p j
      leaves_ends j = rw (eq-eqb (cleanup S) 0 c) (and_yes (ends p j))
        where
          and_yes : (a : Bool) → (a && true) ≡ a
          and_yes true = refl
          and_yes false = refl

      share : (f : Job → ℕ) → sum (λ (j : Job). on (leaves S p j) (f j)) rs ≡ f x
      share f =
          sum_cong (λ (j : Job). on (leaves S p j) (f j)) (λ (j : Job). on (ends p j) (f j)) rs (λ j u. ap (λ (b : Bool). on b (f j)) (leaves_ends j))
          ∙ once_sum (ends p) f rs i found.0 ends_there ends_once

      none_ends : (j : Job) → In j xs → ends p j ≡ false
      none_ends j u =
          case (ends p j)
          (λ e. let one : on (ends p j) 1 ≡ 1 = rw e in
          let own : on (ends p x) 1 ≡ 1 = rw ends_there in
          absurd (omega (
            arith,
            sum_in (λ (k : Job). on (ends p k) 1) u,
            out_sum rs i last found.0 long (λ (k : Job). on (ends p k) 1),
            ends_once,
          )))
          (λ e. e)

      pub free_low : spare + get_or heldₗ i 0 ≤ max_nodes
      free_low =
          omega (
            arith,
            h.holds.spare_is,
            held_all,
            s.capacity,
            s.nodes_to,
            sum_in nodes_of (in_getD rs i unused found.0),
            column_at nodes_of rs heldₗ h.holds.held_is unused i found.0,
          )

      pub holders_freed : Holders (without m m.clock p) (taken_out i last heldₗ) (taken_out i last endsₗ) (taken_out i last holders) last (spare + get_or heldₗ i 0)
      holders_freed =
          let few : length rs ≤ slots = omega (arith, holding_few h.holds, h.holds.count_is) in
          holders_after m.clock p (early Complete t) xs (λ j u. out_in rs i last found.0 long j u)
          (λ f. omega (arith, out_sum rs i last found.0 long f, sum_parts f (leaves S p) rs, share f))
          (λ j u. ap (λ (b : Bool). until S (cond b (cleaning m.clock j) j)) (none_ends j u))
          (out_column rs i last found.0 long nodes_of heldₗ h.holds.held_is few)
          (out_column rs i last found.0 long (until S) endsₗ h.holds.ends_is few)
          (out_column rs i last found.0 long ticket_of holders h.holders_are few)
          (out_length rs i last found.0 long)
          (ap (λ (n : ℕ). spare + n) (column_at nodes_of rs heldₗ h.holds.held_is unused i found.0 ∙ sym (share nodes_of)))

  -- ## A job comes in

  pub holders_joined : (o : Submission) → Sound (joined m (new_job m o)) → Holders (joined m (new_job m o)) heldₗ endsₗ holders holding spare
  holders_joined o q = record {
    jobs = rs;
    holds = record {
      releasing = sound_releasing (joined m (new_job m o)) q;
      runs = runs_joined m (new_job m o) refl rs h.holds.runs;
      held_is = h.holds.held_is;
      ends_is = h.holds.ends_is;
      count_is = h.holds.count_is;
      spare_is = omega (arith, h.holds.spare_is, sum_append held m.jobs (new_job m o ∷ []));
    };
    holders_are = h.holders_are;
  }

-- ## An early end, by the numbers of the call

module _ {heldₗ endsₗ holders : List ℕ} {holding spare ticket clock minutes : ℕ} (e : Ending heldₗ endsₗ holders holding spare ticket clock minutes) (i : ℕ)
    (place : i ≡ place_of (position (has_ticket ticket) e.held_by.jobs) holding) where
  pub ending_few : holding ≤ slots
  ending_few = holding_few e.held_by.holds

  pub ending_low : i < holding
  ending_low = holder_low e.model e.sound e.held_by ticket e.job e.inside e.runs e.named i place

  -- the minute of the end fits
  pub ending_minute : clock + minutes ≤ 1000030
  ending_minute = omega (arith, e.clock_is, e.minutes_is, e.sound.clock_to, cleanup_le e.model.settings)

  pub ending_cleaned : 0 < minutes
      → Holders (without e.model e.model.clock (select.Departing Complete ticket)) heldₗ (set endsₗ i (clock + minutes)) holders holding spare
  ending_cleaned l =
      let q : e.model.clock + cleanup e.model.settings ≡ clock + minutes = omega (arith, e.clock_is, e.minutes_is) in
      subst (λ (n : ℕ). Holders (without e.model e.model.clock (select.Departing Complete ticket)) heldₗ (set endsₗ i n) holders holding spare) q
      (holders_cleaned e.model e.sound e.held_by ticket e.job e.inside e.runs e.named i place (omega (arith, e.minutes_is)))

  module _ (l : minutes ≤ 0) where
    none_cleared : cleanup e.model.settings ≡ 0
    none_cleared = omega (arith, e.minutes_is)

    last_is : holding ≡ holding - 1 + 1
    last_is = omega (arith, ending_low)

    pub ending_within : spare + get_or heldₗ i 0 ≤ max_nodes
    ending_within =
        free_low e.model e.sound e.held_by ticket e.job e.inside e.runs e.named i place none_cleared (holding - 1) last_is

    pub ending_freed : Holders (without e.model e.model.clock (select.Departing Complete ticket)) (taken_out i (holding - 1) heldₗ)
        (taken_out i (holding - 1) endsₗ) (taken_out i (holding - 1) holders) (holding - 1) (spare + get_or heldₗ i 0)
    ending_freed =
        holders_freed e.model e.sound e.held_by ticket e.job e.inside e.runs e.named i place none_cleared (holding - 1) last_is
