-- What minutes that pass at once give, as the code comes to it: those before the last are passed over, and the last is a tick.
-- Assumes nothing.
use Rattle.std.specs.Prelude.{ℕ, zero, suc, ◌+◌, ◌-◌, ◌≤◌, ◌<◌, ◌≡◌, refl, true, false, [], ◌∷◌, ◌++◌, replicate}
use Rattle.std.proofs.Common.{arith, ap₂, subst, ◌∙◌, le-ltb}
use Rattle.std.proofs.Math.Path.{sym, ap}
use Rattle.std.proofs.lemmas.List.{replicate-append-replicate}
use Rattle.lists.specs.Tests.{case}
use Rattle.scheduler.specs.declared.Outcome.{Outcome}
use Rattle.scheduler.specs.declared.Refusal.TheVariants as refusal
use Rattle.scheduler.specs.declared.Scheduler.{Scheduler}
use Rattle.scheduler.specs.Limits.{horizon}
use Rattle.scheduler.specs.Model.{Model, store, view}
use Rattle.scheduler.specs.Answers.{Result, accepts, verdict, answer, outcome, refuse, refusing, refused_answer}
use Rattle.scheduler.specs.Refusals.{tick_refusal, wait_refusal}
use Rattle.history.specs.Calls.{tick, after}
use Rattle.guarantees.specs.Rules.{call}
use Rattle.guarantees.specs.Premise.{Premise, Valid, after_valid, stored_premise}
use Rattle.guarantees.specs.Statement.{after_append}
use Rattle.guarantees.specs.Cleanup.{settings_stay}
use Rattle.advance_rules.specs.Advance.{is_due, advances_to, advanced_by, ticks, advanced}
use Rattle.quiet_minutes.specs.DueMinutes.{Quiet}
use Rattle.quiet_minutes.specs.QuietTicks.{tick_refusal_lem, passed, quiet_tick, passed_after, passed_valid, passed_over, passed_premise}
use Rattle.advancing.specs.declared.AdvanceOutcome.{AdvanceOutcome}
use Rattle.advancing.specs.Minutes.{wait_some, wait_within, wait_taken, passes_by_lem, advances_from, advances_within, quiet_before, advances_due, advances_all}

-- how many minutes have passed, and what the last of them gives
abbrev pub advance_outcome : (minutes : ℕ) → Result → AdvanceOutcome
advance_outcome k r = record { answer = record { answer = answer r.reply; minutes = k }; scheduler = store r.model }

-- what the call gives by value
abbrev pub advances : Scheduler → (minutes : ℕ) → AdvanceOutcome
advances d n = advance_outcome (advanced_by (view d) n) (advanced call (view d) n)

-- ## Of a model

-- one tick more
pub one_after : (k : ℕ) → replicate k tick ++ (tick ∷ []) ≡ replicate (suc k) tick
one_after k = let e : k + 1 ≡ suc k = omega arith in replicate-append-replicate k 1 tick ∙ ap (λ (i : ℕ). replicate i tick) e

module _ (m : Model) (n : ℕ) where
  pub advance_refused : accepts (wait_refusal m n) ≡ false → (advanced call m n ≡ refuse m (wait_refusal m n)) × (advanced_by m n ≡ 0)
  unfolding advanced advanced_by
  advance_refused a = (rw a, rw a)

  module _ (v : Valid m) (a : accepts (wait_refusal m n) ≡ true) where
    -- those before the last
    abbrev pub quietly : ℕ
    quietly = advances_to m n - m.clock - 1

    pub one_more : advanced_by m n ≡ suc quietly
    one_more = omega (arith, passes_by_lem m n a, advances_from m n (wait_some m n a))

    pub in_time_lem : m.clock + suc quietly ≤ horizon
    in_time_lem = omega (arith, wait_within m n a, advances_within m n (wait_some m n a), advances_from m n (wait_some m n a))

    pub quiet_all : Quiet m quietly
    quiet_all = quiet_before m n (wait_some m n a)

    -- a tick after these
    pub advance_ticks : advanced call m n ≡ call (passed m quietly) tick
    unfolding advanced
    advance_ticks = rw (a, one_more) (ap (λ (x : Model). call x tick) (passed_after quietly m v (omega (arith, in_time_lem)) quiet_all))

    -- which is not refused
    pub advance_taken : (advanced call m n).reply.refusal ≡ refusal.None
    unfolding tick_refusal verdict
    advance_taken =
        ap (λ (r : Result). r.reply.refusal) advance_ticks
        ∙ tick_refusal_lem (passed m quietly)
        ∙ rw (le-ltb horizon (suc (m.clock + quietly)) (omega (arith, in_time_lem)))

    -- ### By how many minutes are quiet

    -- and then something is due
    pub advance_due : (r : ℕ) → r < n → Quiet m r → is_due m (suc (m.clock + r)) ≡ true
        → (advanced_by m n ≡ suc r) × (advanced call m n ≡ call (passed m r) tick)
    advance_due r l q e =
        let k : quietly ≡ r = omega (arith, advances_due m n (wait_some m n a) r l q e) in
        (one_more ∙ ap suc k, advance_ticks ∙ ap (λ (x : ℕ). call (passed m x) tick) k)

    -- or all of them: the last one's tick gives nothing
    pub advance_all : Quiet m n → (advanced_by m n ≡ n) × (advanced call m n ≡ record { reply = refusing refusal.None; model = passed m n })
    advance_all q =
        let some = wait_some m n a in
        let k : suc quietly ≡ n = omega (arith, advances_all m n some q) in
        let w = passed_valid quietly m v (omega (arith, in_time_lem)) quiet_all in
        let t = quiet_tick (passed m quietly) w (omega (arith, in_time_lem)) (λ j i. q j i (suc (m.clock + quietly)) (omega arith) (omega (arith, k))) in
        let c : m.clock + quietly + 1 ≡ m.clock + n = omega (arith, k) in (
          one_more ∙ k,
          advance_ticks ∙ t
              ∙ (λ i. record { reply = refusing refusal.None; model = record { settings = m.settings; clock = c i; next = m.next; jobs = m.jobs } }),
        )

-- "`wait` 2, 6": it answers what refuses that wait
pub advance_refusal : (m : Model) (n : ℕ) → Valid m → (advanced call m n).reply.refusal ≡ wait_refusal m n
advance_refusal m n v =
    case (accepts (wait_refusal m n))
    (λ a. advance_taken m n v a ∙ sym (wait_taken m n a))
    (λ a. ap (λ (r : Result). r.reply.refusal) (advance_refused m n a).0)

-- as many ticks lead there
pub advance_after : (m : Model) (n : ℕ) → (advanced call m n).model ≡ after call m (replicate (advanced_by m n) tick)
unfolding advanced advanced_by
advance_after m n = case (accepts (wait_refusal m n)) (λ a. rw a (of_ticks (advances_to m n - m.clock))) (λ a. rw a)
  where
    of_ticks : (k : ℕ) → (ticks call m k).model ≡ after call m (replicate k tick)
    of_ticks zero = refl
    of_ticks (suc k) = sym (after_append m (replicate k tick) (tick ∷ [])) ∙ ap (after call m) (one_after k)

pub advance_valid : (m : Model) (n : ℕ) → Valid m → Valid (advanced call m n).model
advance_valid m n v = subst Valid (sym (advance_after m n)) (after_valid m (replicate (advanced_by m n) tick) v)

pub advance_settings : (m : Model) (n : ℕ) → Valid m → (advanced call m n).model.settings ≡ m.settings
advance_settings m n v = ap (λ (x : Model). x.settings) (advance_after m n) ∙ settings_stay m (replicate (advanced_by m n) tick) v

-- ## Of a scheduler

-- it may be called
pub advances_premise : (d : Scheduler) (n : ℕ) → Premise d → Premise (advances d n).scheduler
advances_premise d n h = stored_premise (advanced call (view d) n).model (advance_valid (view d) n h.holds)

-- and is as it was where the call is refused
pub refused_advances : (d : Scheduler) (n : ℕ) → Premise d → accepts (advances d n).answer.answer.refusal ≡ false → (advances d n).scheduler ≡ d
refused_advances d n h a =
    let b : accepts (wait_refusal (view d) n) ≡ false = sym (ap accepts (advance_refusal (view d) n h.holds)) ∙ a in
    ap (λ (r : Result). store r.model) (advance_refused (view d) n b).0 ∙ sym h.stored

-- ## As the code has it

-- r of the next minutes are quiet, and in the one after them something is due unless that is past the last
pub record QuietFor (d : Scheduler) (most r : ℕ) : Type 0 where
  pub few : r ≤ most
  pub quiet : Quiet (view d) r
  pub due : r < most → is_due (view d) (suc (d.clock + r)) ≡ true

module _ (d : Scheduler) (n r : ℕ) (h : Premise d) (f : QuietFor d n r) (a : accepts (wait_refusal (view d) n) ≡ true) where
  pub passed_time : d.clock + r ≤ horizon
  unfolding view
  passed_time = omega (arith, wait_within (view d) n a, f.few)

  pub passed_held : Premise (passed_over d r)
  passed_held = passed_premise d r h passed_time f.quiet

  -- a tick is made
  pub given_due : (o : Outcome) → r < n → o ≡ outcome (call (view (passed_over d r)) tick)
      → ◌≡◌ {A = AdvanceOutcome} (record { answer = record { answer = o.answer; minutes = r + 1 }; scheduler = o.scheduler }) (advances d n)
  unfolding view
  given_due o l e =
      let g = advance_due (view d) n h.holds a r l f.quiet (f.due l) in
      let p : o ≡ outcome (advanced call (view d) n) = e ∙ ap outcome (sym g.1) in
      let k : r + 1 ≡ advanced_by (view d) n = omega (arith, g.0) in
      λ i. record { answer = record { answer = (p i).answer; minutes = k i }; scheduler = (p i).scheduler }

  -- or none
  pub given_all : n ≤ r
      → ◌≡◌ {A = AdvanceOutcome} (record { answer = record { answer = refused_answer refusal.None; minutes = r }; scheduler = passed_over d r }) (advances d n)
  unfolding view store
  given_all l =
      let e : n ≡ r = omega (arith, f.few) in
      let g = advance_all (view d) n h.holds a (rw e f.quiet) in
      let k : r ≡ advanced_by (view d) n = sym (g.0 ∙ e) in
      let s : passed_over d r ≡ store (passed (view d) n) = ap (λ (x : Scheduler). passed_over x r) h.stored ∙ ap (λ (i : ℕ). store (passed (view d) i)) (sym e) in
      (λ i. record { answer = record { answer = refused_answer refusal.None; minutes = k i }; scheduler = s i })
      ∙ ap (advance_outcome (advanced_by (view d) n)) (sym g.1)

-- refused
pub given_refused : (d : Scheduler) (n : ℕ) → Premise d → accepts (wait_refusal (view d) n) ≡ false
    → ◌≡◌ {A = AdvanceOutcome} (record { answer = record { answer = refused_answer (wait_refusal (view d) n); minutes = 0 }; scheduler = d }) (advances d n)
given_refused d n h a =
    let g = advance_refused (view d) n a in
    ap (λ (x : Scheduler). record { answer = record { answer = refused_answer (wait_refusal (view d) n); minutes = 0 }; scheduler = x }) h.stored
    ∙ ap₂ advance_outcome (sym g.1) (sym g.0)
