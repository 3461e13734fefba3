-- The passes after an early end or a withdrawal, over the slots of the table: each waiting job has its turn, in ticket order, until a whole pass
-- moves no job.
-- Assumes nothing.
use Rattle.std.specs.Prelude.{◌≡◌, refl, true, false, cond, ◌⊎◌, ltb, eqb, length, get_or, take, drop, set}
use Rattle.std.proofs.Common.{sym, ap, ◌∙◌, ⊎_elim, add-one, eqb-true, lt-ltb, le-ltb}
use Rattle.std.proofs.Math.Path.{subst}
use mathlib.Core.List.{List, [], ◌∷◌, ◌++◌}
use Rattle.std.proofs.Math.Logic.{inl, inr}
use Prim.Native.Nat.{ℕ, zero, suc, ◌+◌, ◌-◌, ◌*◌, ◌≤◌, ◌<◌}
use native.Mathlib.Omega.{arith}
use Rattle.std.proofs.lemmas.List.{set_split, set-get_or}
use Rattle.std.proofs.Math.Seq.{split_at}
use Rattle.std.proofs.lemmas.Bool.{eqb-false}
use Rattle.lists.specs.Tests.{on, case, true_false, le_or}
use Rattle.lists.specs.Lists.{All, In, sum, all_of, all_in, all_at}
use Rattle.lists.specs.Loops.{sum_set}
use Rattle.lists.specs.Pads.{all_pad}
use Rattle.scheduler.specs.declared.Job.{Job}
use Rattle.scheduler.specs.declared.Scheduler.{Scheduler}
use Rattle.scheduler.specs.Limits.{slots}
use Rattle.scheduler.specs.Jobs.{unused, is_waiting}
use Rattle.scheduler.specs.declared.Settings.{Settings}
use Rattle.scheduler.specs.Settings.{hold_time}
use Rattle.scheduler.specs.Times.{hold_pos}
use Rattle.scheduler.specs.Model.{Model, store, view}
use Rattle.jobs.specs.Soundness.{waiting_clean}
use Rattle.jobs.specs.Premise.{Holds}
use Rattle.conservative_table.specs.ProfileLists.{IsProfile}
use Rattle.conservative_rules.specs.Conservative.{spans, placed, moved, pass, start_of, compressed}
use Rattle.conservative_laws.specs.Validity.{Follows, stays, moves, follows_start}
use Rattle.conservative_laws.specs.PassLoop.{turn, loop, pass_as_loop}
use Rattle.conservative_laws.specs.Compression.{Movable, Compressible, follows_movable, follows_still, compressed_still, compressed_passed}
use Rattle.conservative_plan.specs.declared.Replanned.{Replanned}
use Rattle.conservative_plan.specs.PlannedSlots.{Planned, SlotsOf, planned_jobs, planned_slots}
use Rattle.conservative_plan.specs.Replan.{Replans, TurnDone, all_instead, moved_to, follows, fits_after}

-- a model whose waiting jobs are planned for later than now
pub record Replannable (m : Model) : Type 0 where
  pub planned : Planned m
  pub ahead : (j : Job) → In j m.jobs → is_waiting j ≡ true → m.clock < j.start

pub compressible_jobs : (m : Model) → Replannable m → Compressible m.settings m.clock m.jobs
compressible_jobs m r = record {
  each = λ j i.
      let s = r.planned.sound.each j i in
      record { nodes_to = s.nodes_to; ahead = r.ahead j i; no_end = λ w. s.no_end (waiting_clean j.state w) };
  room = r.planned.room;
}

-- a slot whose job can have its turn
pub record SlotJob (S : Settings) (now : ℕ) (j : Job) : Type 0 where
  pub movable : Movable S now j
  pub nodes_from : is_waiting j ≡ true → 1 ≤ j.nodes
  pub hold_from : is_waiting j ≡ true → 1 ≤ hold_time S j.estimate

-- so is each job of such a model, and an unused slot
model_jobs : (m : Model) → Replannable m → All (SlotJob m.settings m.clock) m.jobs
model_jobs m r =
    all_of _ m.jobs (λ j i.
    let s = r.planned.sound.each j i in
    record {
      movable = (compressible_jobs m r).each j i;
      nodes_from = λ e. s.nodes_from;
      hold_from = λ e. hold_pos m.settings j.estimate s.estimate_from;
    })

slot_jobs : (m : Model) → Replannable m → All (SlotJob m.settings m.clock) (store m).jobs
unfolding store
slot_jobs m r = all_pad slots unused (SlotJob m.settings m.clock) m.jobs none (model_jobs m r)
  where
    none : SlotJob m.settings m.clock unused
    none = record {
      movable = record { nodes_to = omega arith; ahead = λ e. true_false false e refl; no_end = λ e. refl };
      nodes_from = λ e. true_false false e refl;
      hold_from = λ e. true_false false e refl;
    }

follows_slot : (S : Settings) (now : ℕ) (j k : Job) → Follows now j k → SlotJob S now j → SlotJob S now k
follows_slot S now j k (stays e) s = s
follows_slot S now j k (moves r e a b) s = record {
  movable = follows_movable S now j (placed now r j) (moves r e a b) s.movable;
  nodes_from = λ w. s.nodes_from e;
  hold_from = λ w. s.hold_from e;
}

-- so many slots over which passes can go: the 64 of a table, or as many as there are jobs
pub record Before (size : ℕ) (S : Settings) (now : ℕ) (js : List Job) : Type 0 where
  pub fits : SlotsOf size S now js
  pub each : All (SlotJob S now) js

pub held_before : (d : Scheduler) → Holds Replannable d → Before slots (view d).settings d.clock d.jobs
unfolding view
held_before d h =
    subst (λ (e : Scheduler). Before slots (view d).settings d.clock e.jobs) (sym h.stored)
    (record { fits = planned_slots (view d) h.holds.planned; each = slot_jobs (view d) h.holds })

pub jobs_before : (m : Model) → Replannable m → Before (length m.jobs) m.settings m.clock m.jobs
jobs_before m r = record { fits = planned_jobs m r.planned; each = model_jobs m r }

module _ {size : ℕ} {S : Settings} {now : ℕ} {js : List Job} (b : Before size S now js) where
  compressible : Compressible S now js
  compressible = record { each = λ j i. (all_in (SlotJob S now) b.each i).movable; room = b.fits.room }

  as_pass : loop S now unused size 0 js ≡ pass S now [] js
  as_pass =
      ap (λ (n : ℕ). loop S now unused n 0 js) (sym b.fits.all)
      ∙ pass_as_loop S now unused js (λ k x. (all_in (SlotJob S now) b.each x).movable.nodes_to)

  -- a pass more makes no difference
  round : compressed S now (loop S now unused size 0 js) ≡ compressed S now js
  round = ap (compressed S now) as_pass ∙ compressed_passed S now js compressible

-- ## Turns

-- turns in a row without a move, after one more turn that finds a job at one start and leaves it at another; 0 if this turn moved the job
abbrev pub calm_turns : ℕ → ℕ → ℕ → ℕ
calm_turns n before after = on (eqb after before) n

-- the slot whose turn is next
abbrev pub slot_after : (size i : ℕ) → ℕ
slot_after size i = cond (ltb (i + 1) size) (i + 1) 0

-- No more turns than these are left: the sum of the planned starts falls where a turn moves a job, and the number of turns in a row without a move
-- rises where it does not.
abbrev pub turns_left : List Job → ℕ → ℕ
turns_left js turns = 65 * sum start_of js + (64 - turns)

-- js are the slots when it is the turn of i, and the lists are their profile; this many turns in a row were without a move
pub record Turning (size : ℕ) (S : Settings) (now : ℕ) (js₀ js : List Job) (i turns n : ℕ) (ms fs : List ℕ) : Type 0 where
  pub to : i ≤ size
  pub low : turns < size → i < size
  pub few : turns ≤ size
  pub before : Before size S now js
  -- the rest of this pass, and the passes after it, come to what is asked for
  pub rest : compressed S now (loop S now unused (size - i) i js) ≡ compressed S now js₀
  -- these are the turns before i, and before them those from the last slot down
  pub calm : (x : ℕ) → x < i → i ≤ x + turns → turn S now unused x js ≡ js
  pub calm_last : (x : ℕ) → x < size → i + size ≤ x + turns → turn S now unused x js ≡ js
  pub profile : IsProfile S.nodes (spans S js) now n ms fs

pub turns_begin : {size : ℕ} {S : Settings} {now : ℕ} {js : List Job} {n : ℕ} {ms fs : List ℕ} → Before size S now js
    → IsProfile S.nodes (spans S js) now n ms fs → Turning size S now js js 0 0 n ms fs
turns_begin {size} b t =
    let whole : size - 0 ≡ size = omega arith in
    record {
      to = omega arith;
      low = λ l. omega arith;
      few = omega arith;
      before = b;
      rest = rw whole (round b);
      calm = λ x l k. absurd (omega arith);
      calm_last = λ x l k. absurd (omega arith);
      profile = t;
    }

module _ {size : ℕ} {S : Settings} {now : ℕ} {js₀ js : List Job} {i turns n : ℕ} {ms fs : List ℕ} (v : Turning size S now js₀ js i turns n ms fs)
    (l : turns < size) where
  abbrev j : Job
  j = get_or js i unused

  in₀ : i < length js
  in₀ = omega (arith, v.before.fits.all, v.low l)

  split : js ≡ take i js ++ j ∷ drop (i + 1) js
  split = split_at js i unused in₀ ∙ rw (← add-one i)

  put_is : (k : Job) → set js i k ≡ take i js ++ k ∷ drop (i + 1) js
  put_is k = set_split js i k in₀ ∙ rw (← add-one i)

  slot_job : SlotJob S now j
  slot_job = all_at (SlotJob S now) js i unused v.before.each in₀

  -- the turn of a waiting job
  replans : is_waiting j ≡ true → Replans ms fs n j now
  replans w = record {
    settings = S;
    size = size;
    xs = take i js;
    ys = drop (i + 1) js;
    fits = subst (SlotsOf size S now) split v.before.fits;
    profile = subst (λ (ks : List Job). IsProfile S.nodes (spans S ks) now n ms fs) split v.profile;
    waits = w;
    ahead = slot_job.movable.ahead w;
    nodes_from = slot_job.nodes_from w;
    nodes_to = slot_job.movable.nodes_to;
    hold_from = slot_job.hold_from w;
    no_end = slot_job.movable.no_end w;
  }

  pub turn_asked : {hold : ℕ} → hold ≡ hold_time S j.estimate → is_waiting j ≡ true
      → (q : Replans ms fs n j now) × (hold ≡ hold_time q.settings j.estimate)
  unfolding replans
  turn_asked h w = (replans w, h)

  -- one turn of the definition's loop
  loop_turn : loop S now unused (size - i) i js ≡ loop S now unused (size - (i + 1)) (i + 1) (turn S now unused i js)
  unfolding loop
  loop_turn = let more : size - i ≡ suc (size - (i + 1)) = omega (arith, v.low l) in rw more

  -- what the next turn finds: no job has moved, or the count begins anew
  module _ {ks : List Job} {k n' : ℕ} {ms' fs' : List ℕ} (e : ks ≡ turn S now unused i js) (b : Before size S now ks)
      (p : IsProfile S.nodes (spans S ks) now n' ms' fs') (c : ((k ≡ turns + 1) × (ks ≡ js)) ⊎ (k ≡ 0)) where
    few_turns : k ≤ size
    few_turns = ⊎_elim (λ x. omega (arith, x.0)) (λ x. omega arith) c

    rest_is : compressed S now (loop S now unused (size - (i + 1)) (i + 1) ks) ≡ compressed S now js₀
    rest_is = ap (λ (l : List Job). compressed S now (loop S now unused (size - (i + 1)) (i + 1) l)) e ∙ sym (ap (compressed S now) loop_turn) ∙ v.rest

    -- the turns in a row without a move, up to this turn
    calm_now : (x : ℕ) → x < i + 1 → i + 1 ≤ x + k → turn S now unused x ks ≡ ks
    calm_now x a g = ⊎_elim (λ y. same y.0 y.1) (λ y. absurd (omega arith)) c
      where
        same : k ≡ turns + 1 → ks ≡ js → turn S now unused x ks ≡ ks
        same y q =
            subst (λ (l : List Job). turn S now unused x l ≡ l) (sym q)
            (⊎_elim (λ h. ap (λ (z : ℕ). turn S now unused z js) (omega arith) ∙ sym e ∙ q) (λ h. v.calm x h (omega arith)) (le_or i x))

    calm_before : (x : ℕ) → x < size → i + 1 + size ≤ x + k → turn S now unused x ks ≡ ks
    calm_before x a g =
        ⊎_elim
        (λ y. subst (λ (l : List Job). turn S now unused x l ≡ l) (sym y.1) (v.calm_last x a (omega (arith, y.0))))
        (λ y. absurd (omega arith)) c

    onward : i + 1 < size → Turning size S now js₀ ks (i + 1) k n' ms' fs'
    onward h = record { to = omega arith; low = λ k. h; few = few_turns; before = b; rest = rest_is; calm = calm_now; calm_last = calm_before; profile = p }

    around : size ≤ i + 1 → Turning size S now js₀ ks 0 k n' ms' fs'
    unfolding loop
    around h =
        let none : size - (i + 1) ≡ 0 = omega arith in
        let whole : size - 0 ≡ size = omega arith in
        record {
          to = omega arith;
          low = λ k. omega arith;
          few = few_turns;
          before = b;
          rest = rw whole (round b ∙ (rw none at rest_is));
          calm = λ x a g. absurd (omega arith);
          calm_last = λ x a g. calm_now x (omega arith) (omega (arith, v.low l));
          profile = p;
        }

    next : Turning size S now js₀ ks (slot_after size i) k n' ms' fs'
    next = ⊎_elim (λ h. rw (le-ltb (i + 1) size h) (around h)) (λ h. rw (lt-ltb (i + 1) size h) (onward h)) (le_or size (i + 1))

  module _ {hold : ℕ} (h : hold ≡ hold_time S j.estimate) (w : is_waiting j ≡ true) (r : Replanned) {ms' fs' : List ℕ}
      (f : (q : Replans ms fs n j now) → hold ≡ hold_time q.settings j.estimate → TurnDone q r ms' fs') where
    done : TurnDone (replans w) r ms' fs'
    unfolding replans
    done = f (replans w) h

    set_is : set js i r.job ≡ take i js ++ moved_to (replans w) ∷ drop (i + 1) js
    set_is = ap (set js i) done.job_is ∙ put_is (moved_to (replans w))

    followed : Follows now j r.job
    followed = subst (Follows now j) (sym done.job_is) (follows (replans w))

    before_after : Before size S now (set js i r.job)
    unfolding replans
    before_after = record {
      fits = subst (SlotsOf size S now) (sym set_is) (fits_after (replans w));
      each =
          subst (All (SlotJob S now)) (sym (put_is r.job))
          (all_instead (SlotJob S now) (take i js) j r.job (drop (i + 1) js) (subst (All (SlotJob S now)) split v.before.each)
          (follows_slot S now j r.job followed slot_job));
    }

    pub stays_if : eqb r.job.start j.start ≡ true → set js i r.job ≡ js
    stays_if q = ap (set js i) (follows_still S now j r.job followed slot_job.movable (eqb-true r.job.start j.start q)) ∙ set-get_or js i unused

    pub turn_taken : Turning size S now js₀ (set js i r.job) (slot_after size i) (calm_turns (turns + 1) j.start r.job.start) r.count ms' fs'
    unfolding replans
    turn_taken =
        next (ap (set js i) done.job_is) before_after
        (subst (λ (ks : List Job). IsProfile S.nodes (spans S ks) now r.count ms' fs') (sym set_is) done.profile)
        (case (eqb r.job.start j.start) (λ q. inl (rw q, stays_if q)) (λ q. inr (rw q)))

    pub taken_falls : turns_left (set js i r.job) (calm_turns (turns + 1) j.start r.job.start) < turns_left js turns
    taken_falls =
        case (eqb r.job.start j.start)
        (λ q. rw (q, stays_if q) (omega (arith, l, v.before.fits.few)))
        (λ q. rw q
        (omega (
          arith,
          l,
          v.before.fits.few,
          eqb-false r.job.start j.start q,
          follows_start now j r.job followed,
          sum_set unused start_of js i r.job in₀,
        )))

  pub turn_passed : is_waiting j ≡ false → Turning size S now js₀ js (slot_after size i) (turns + 1) n ms fs
  turn_passed w =
      let still : moved S now (take i js ++ drop (i + 1) js) j ≡ j = rw w in
      next (sym (ap (set js i) still ∙ set-get_or js i unused)) v.before v.profile (inl (refl, refl))

-- as many turns in a row as there are slots were without a move: no pass would move a job
pub turns_end : {size : ℕ} {S : Settings} {now : ℕ} {js₀ js : List Job} {i turns n : ℕ} {ms fs : List ℕ} → Turning size S now js₀ js i turns n ms fs
    → size ≤ turns → js ≡ compressed S now js₀
unfolding loop
turns_end {size} {S} {now} {js₀} {js} {i} {turns} v h =
    let still : pass S now [] js ≡ js = sym (as_pass v.before) ∙ unchanged size 0 (omega arith) in
    sym (compressed_still S now js still) ∙ ap (compressed S now) (sym (unchanged (size - i) i (omega (arith, v.to)))) ∙ v.rest
  where
    all : (x : ℕ) → x < size → turn S now unused x js ≡ js
    all x l = ⊎_elim (λ a. v.calm_last x l (omega arith)) (λ a. v.calm x a (omega (arith, v.to))) (le_or i x)

    unchanged : (k x : ℕ) → x + k ≤ size → loop S now unused k x js ≡ js
    unchanged zero x a = refl
    unchanged (suc k) x a = ap (loop S now unused k (x + 1)) (all x (omega arith)) ∙ unchanged k (x + 1) (omega arith)
