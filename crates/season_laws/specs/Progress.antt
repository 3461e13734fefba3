-- Every season comes to its end: each turn leaves fewer turns.
-- Assumes nothing.
use Rattle.std.specs.Prelude.{◌≡◌, false, cond, ◌⊎◌, ℕ, zero, suc, ◌+◌, ◌-◌, ◌*◌, max, ◌≤◌, ◌<◌, eqb, leb, ltb}
use Rattle.std.proofs.Math.Path.{refl}
use Rattle.std.proofs.Common.{sym, ap, subst, ◌∙◌, inl, inr, arith}
use Rattle.std.proofs.Math.Bool.{true}
use mathlib.Core.List.{List, [], ◌∷◌, ◌++◌}
use Rattle.std.proofs.Math.Option.{Option, none, some}
use Rattle.std.proofs.Math.ListN.{length}
use borrow.Author.Tests.{eq-eqb, eqb-false, leb-false, leb-true, ltb-false}
use Rattle.lists.specs.Tests.{case, both, true_false}
use Rattle.lists.specs.Lists.{first, first_in, elem, sum, In, here, in_nil, in_cons}
use Rattle.scheduler.specs.declared.Job.{Job}
use Rattle.scheduler.specs.declared.Refusal.{Refusal}
use Rattle.scheduler.specs.declared.Refusal.TheVariants as refusal
use Rattle.scheduler.specs.declared.Submission.{Submission}
use Rattle.scheduler.specs.declared.Tenant.TheVariants.{A}
use Rattle.scheduler.specs.Limits.{horizon}
use Rattle.scheduler.specs.Jobs.{is_running}
use Rattle.scheduler.specs.Model.{Model}
use Rattle.scheduler.specs.Answers.{Reply, accepts}
use Rattle.jobs.specs.Soundness.{passed}
use Rattle.history.specs.Calls.{Call, submit, tick, complete}
use Rattle.history.specs.News.{Newcomer}
use Rattle.history_proof.specs.Obligations.{comers, said}
use Rattle.guarantees.specs.Rules.{call}
use Rattle.guarantees.specs.Premise.{Valid, call_valid}
use Rattle.desk_lines.specs.Lines.{Line}
use Rattle.season_rules.specs.declared.Arrival.{Arrival}
use Rattle.season_rules.specs.Reading.{arrival_of}
use Rattle.season_rules.specs.Season as season
use Rattle.season_rules.specs.Season.{Season, Turn, ends, refuses, arrives, steps, over, ends_now, by_jobs, by_arrival, by_lines_of, by_end_of, turn_of, arrival_refusal, order_of}
use Rattle.season_rules.specs.Season.{text_by, season_by, is_over, played, unended, turns_left, remaining, noted, next_line, first_arrival, arrival_next, highest_with}
use Rattle.season_laws.specs.Accepted.{live_clock, tick_taken, complete_taken, complete_ends}
use Rattle.season_laws.specs.Ended.{going, clock_is, depart_came, tick_came, none_amended, unended_after, unended_less, leasts_after}

-- what holds of a season all along: its model is valid, and no job has a least
pub record Ready (s : Season) : Type 0 where
  pub valid : Valid s.model
  pub no_least : (j : Job) → In j s.model.jobs → j.least ≡ 0

-- what the tests of an arrival leave
pub record Fits (highest : ℕ) (a : Arrival) : Type 0 where
  pub from : highest ≤ a.minute
  pub runs : 1 ≤ a.actual
  pub in_time_lem : a.minute ≤ horizon

pub arrival_fits : (highest : ℕ) (a : Arrival) → accepts (arrival_refusal highest a) ≡ true → Fits highest a
unfolding arrival_refusal
arrival_fits highest a q =
    let x = passed (ltb a.minute highest) refusal.ArrivalFalls _ refl q in
    let y = passed (eqb a.actual 0) refusal.NoRunLength _ refl x.1 in
    let z = passed (ltb horizon a.minute) refusal.PastHorizon _ refl y.1 in
    let n = eqb-false a.actual 0 y.0 in
    record { from = ltb-false a.minute highest x.0; runs = omega (arith, n); in_time_lem = ltb-false horizon a.minute z.0 }

-- ## Why a turn comes

-- the highest arrival of the lines up to the next
abbrev pub reach : Season → ℕ
reach s = highest_with s.highest (arrival_next s)

pub data Because (s : Season) : Turn → Type 0 where
  ending : {j : Job} → In j s.model.jobs → is_running j ≡ true → Because s (ends j)
  refused : {r : Refusal} {l : Line} {ls : List Line} → s.lines ≡ l ∷ ls → Because s (refuses r)
  arriving : {a : Arrival} {l : Line} {ls : List Line} → s.lines ≡ l ∷ ls → arrival_of s.above l ≡ some a → Fits s.highest a → a.minute ≤ s.model.clock
      → Because s (arrives a)
  -- a job is live, or a line waits for its minute
  passing : s.model.clock < horizon → (s.lines ≡ []) ⊎ (s.model.clock < reach s) → Because s steps
  gone : s.lines ≡ [] → s.model.jobs ≡ [] → Because s over

module _ (s : Season) (v : Valid s.model) where
  by_jobs_lem : (js : List Job) → s.model.jobs ≡ js → s.lines ≡ [] → Because s (by_jobs js)
  by_jobs_lem [] e n = gone n e
  by_jobs_lem (j ∷ js) e n = passing (live_clock s.model v j (subst (In j) (sym e) (here refl))) (inl n)

  by_arrival_lem : (l : Line) (ls : List Line) → s.lines ≡ l ∷ ls → (o : Option Arrival) → arrival_of s.above l ≡ o → Because s (by_arrival s o)
  by_arrival_lem l ls e none f = refused e
  by_arrival_lem l ls e (some a) f =
      case (accepts (arrival_refusal s.highest a))
      (λ q. rw q (fitting (arrival_fits s.highest a q)))
      (λ q. rw q (refused e))
    where
      fitting : Fits s.highest a → Because s (cond (leb a.minute s.model.clock) (arrives a) steps)
      fitting t =
          let g : reach s ≡ max s.highest a.minute = ap (highest_with s.highest) (ap (first_arrival s.above) e ∙ f) in
          case (leb a.minute s.model.clock)
          (λ k. rw k (arriving e f t (leb-true a.minute s.model.clock k)))
          (λ k. rw k (passing (omega (arith, leb-false a.minute s.model.clock k, t.in_time_lem)) (inr (omega (arith, leb-false a.minute s.model.clock k, g)))))

  by_lines : (ls : List Line) → s.lines ≡ ls → Because s (by_lines_of s ls)
  by_lines [] e = by_jobs_lem s.model.jobs refl e
  by_lines (l ∷ ls) e = by_arrival_lem l ls e (arrival_of s.above l) refl

  by_end : (o : Option Job) → first (ends_now s) s.model.jobs ≡ o → Because s (by_end_of s o)
  by_end (some j) e = let i = first_in (ends_now s) s.model.jobs e in ending i.0 (both (is_running j) _ i.1).0
  by_end none e = by_lines s.lines refl

  pub because : Because s (turn_of s)
  unfolding turn_of
  because = by_end (first (ends_now s) s.model.jobs) refl

pub ends_because : (s : Season) (j : Job) → Because s (ends j) → In j s.model.jobs × (is_running j ≡ true)
ends_because s j (ending i q) = (i, q)

pub arrives_because : (s : Season) (a : Arrival) → Because s (arrives a) → (l : Line) × (ls : List Line) × (s.lines ≡ l ∷ ls) × (arrival_of s.above l ≡ some a)
arrives_because s a (arriving {l = l} {ls = ls} e f t k) = (l, ls, e, f)

pub refuses_because : (s : Season) (r : Refusal) → Because s (refuses r) → (l : Line) × (ls : List Line) × (s.lines ≡ l ∷ ls)
refuses_because s r (refused {l = l} {ls = ls} e) = (l, ls, e)

pub steps_because : (s : Season) → Because s steps → s.model.clock < horizon
steps_because s (passing h w) = h

-- ## Each turn leaves fewer

-- the job that an arrival brings
abbrev comer : Model → Arrival → Newcomer
comer m a = let r = (call m (submit (order_of a))).reply in
    record { ticket = r.ticket; nodes = a.nodes; promise = r.promise; tenant = A; least = 0 }

module _ (s : Season) (r : Ready s) where
  abbrev m : Model
  m = s.model

  after_ready : (c : Call) → (said call m c).amended ≡ [] → ((o : Newcomer) → In o (said call m c).came → o.least ≡ 0) → Ready (season.after s (call m c))
  after_ready c n f = record { valid = call_valid m c r.valid; no_least = leasts_after m c r.valid n r.no_least f }

  none_come : (c : Call) → (said call m c).amended ≡ [] → (said call m c).came ≡ [] → Ready (season.after s (call m c))
  none_come c n e = after_ready c n (λ o i. in_nil (subst (In o) e i))

  none_more : (c : Call) → (said call m c).came ≡ [] → sum going (comers (said call m c)) ≡ 0
  none_more c e = rw e

  -- an arrival brings one, or is refused
  no_least_comes : (a : Arrival) (o : Newcomer) → In o (said call m (submit (order_of a))).came → o.least ≡ 0
  no_least_comes a o i =
      case (accepts (call m (submit (order_of a))).reply.refusal) (λ e. only (in_cons (rw e at i))) (λ e. in_nil (rw e at i))
    where
      only : (o ≡ comer m a) ⊎ In o [] → o.least ≡ 0
      only (inl q) = ap (λ (x : Newcomer). x.least) q
      only (inr k) = in_nil k

  one_more : (a : Arrival) → sum going (comers (said call m (submit (order_of a)))) ≤ 1
  one_more a = case (accepts (call m (submit (order_of a))).reply.refusal) (λ e. rw e (omega arith)) (λ e. rw e (omega arith))

  noted_ready : (a : Arrival) (p : Reply) (z : Season) → Ready z → Ready (noted a p z)
  noted_ready a p z q =
      case (accepts p.refusal) (λ e. rw e (record { valid = q.valid; no_least = q.no_least })) (λ e. rw e q)

  by_ready : (t : Turn) → Ready (season_by s t)
  by_ready (ends j) = none_come (complete j.ticket) (none_amended (accepts (call m (complete j.ticket)).reply.refusal)) (depart_came m j.ticket)
  by_ready (refuses x) = record { valid = r.valid; no_least = r.no_least }
  by_ready (arrives a) =
      let q = after_ready (submit (order_of a)) (none_amended (accepts (call m (submit (order_of a))).reply.refusal)) (no_least_comes a) in
      noted_ready a (call m (submit (order_of a))).reply (next_line (season.after s (call m (submit (order_of a))))) (record { valid = q.valid; no_least = q.no_least })
  by_ready steps = none_come tick (none_amended (accepts (call m tick).reply.refusal)) (tick_came m)
  by_ready over = r

  -- what holds goes on holding
  pub next_ready : Ready (season_by s (turn_of s))
  next_ready = by_ready (turn_of s)

  line_less : (l : Line) (ls : List Line) → s.lines ≡ l ∷ ls → suc (length (season.rest s.lines)) ≡ length s.lines
  line_less l ls e = rw e

  noted_left : (a : Arrival) (p : Reply) (z : Season) → turns_left (noted a p z) ≡ turns_left z
  unfolding turns_left
  noted_left a p z = case (accepts p.refusal) (λ e. rw e) (λ e. rw e)

  -- a step alone moves the clock
  pub complete_clock : (t : ℕ) → (call m (complete t)).model.clock ≡ m.clock
  complete_clock t = clock_is m (complete t) r.valid ∙ case (accepts (call m (complete t)).reply.refusal) (λ q. rw q) (λ q. rw q)

  pub submit_clock : (o : Submission) → (call m (submit o)).model.clock ≡ m.clock
  submit_clock o = clock_is m (submit o) r.valid ∙ case (accepts (call m (submit o)).reply.refusal) (λ q. rw q) (λ q. rw q)

  pub tick_clock : m.clock < horizon → (call m tick).model.clock ≡ suc m.clock
  tick_clock h = clock_is m tick r.valid ∙ rw (tick_taken m h)

  by_less : (t : Turn) → Because s t → is_over t ≡ false → turns_left (season_by s t) < turns_left s
  unfolding turns_left
  by_less (ends j) (ending i q) n =
      let c = complete j.ticket in
      let a = complete_taken m r.valid r.no_least j i q in
      let e : elem j.ticket (call m c).reply.ended ≡ true = rw (complete_ends m r.valid j.ticket a, eq-eqb j.ticket j.ticket refl) in
      omega (arith, unended_less m c r.valid j i q e, none_more c (depart_came m j.ticket), complete_clock j.ticket)
  by_less (refuses x) (refused {l = l} {ls = ls} e) n = omega (arith, line_less l ls e)
  by_less (arrives a) (arriving {l = l} {ls = ls} e f t k) n =
      let c = submit (order_of a) in
      omega (arith, noted_left a (call m c).reply (next_line (season.after s (call m c))), line_less l ls e, unended_after m c r.valid, one_more a, submit_clock (order_of a))
  by_less steps (passing h w) n = omega (arith, unended_after m tick r.valid, none_more tick (tick_came m), tick_clock h, h)
  by_less over (gone e f) n = true_false true refl n

pub next_less : (s : Season) → Ready s → is_over (turn_of s) ≡ false → turns_left (season_by s (turn_of s)) < turns_left s
next_less s r n = by_less s r (turn_of s) (because s r.valid) n

-- ## All the turns

pub some_left : (s : Season) → 1 ≤ turns_left s
unfolding turns_left
some_left s = omega arith

pub over_silent : (s : Season) (t : Turn) → is_over t ≡ true → text_by s t ≡ []
over_silent s (ends j) e = true_false false e refl
over_silent s (refuses r) e = true_false false e refl
over_silent s (arrives a) e = true_false false e refl
over_silent s steps e = true_false false e refl
over_silent s over e = refl

-- more turns than are left print no more
played_same : (n k : ℕ) (s : Season) → Ready s → turns_left s ≤ n → turns_left s ≤ k → played n s ≡ played k s
unfolding played
played_same zero k s r h l = absurd (omega (arith, some_left s))
played_same (suc n) zero s r h l = absurd (omega (arith, some_left s))
played_same (suc n) (suc k) s r h l =
    case (is_over (turn_of s))
    (λ e. rw e)
    (λ e. rw e (ap (λ (x : List ℕ). text_by s (turn_of s) ++ x)
    (played_same n k (season_by s (turn_of s)) (next_ready s r) (omega (arith, next_less s r e)) (omega (arith, next_less s r e)))))

module _ (s : Season) where
  abbrev next : Season
  next = season_by s (turn_of s)

  -- what is left to print: what the next turn prints, and what is left then
  pub remaining_next : Ready s → is_over (turn_of s) ≡ false → remaining s ≡ text_by s (turn_of s) ++ remaining next
  unfolding played turns_left
  remaining_next r e =
      rw e (ap (λ (x : List ℕ). text_by s (turn_of s) ++ x)
      (played_same (2 * length s.lines + unended s.model.jobs + (horizon - s.model.clock)) (turns_left next) next (next_ready s r)
      (omega (arith, next_less s r e)) (omega arith)))

  pub remaining_over : is_over (turn_of s) ≡ true → remaining s ≡ []
  unfolding played turns_left
  remaining_over e = rw (e, over_silent s (turn_of s) e)

-- ## A season ends

abbrev pub after_turns : ℕ → Season → Season
after_turns zero s = s
after_turns (suc n) s = after_turns n (season_by s (turn_of s))

stays_over : (s : Season) (t : Turn) → is_over t ≡ true → season_by s t ≡ s
stays_over s (ends j) e = true_false false e refl
stays_over s (refuses r) e = true_false false e refl
stays_over s (arrives a) e = true_false false e refl
stays_over s steps e = true_false false e refl
stays_over s over e = refl

still_over : (n : ℕ) (s : Season) → is_over (turn_of s) ≡ true → is_over (turn_of (after_turns n s)) ≡ true
still_over zero s e = e
still_over (suc n) s e = subst (λ (z : Season). is_over (turn_of (after_turns n z)) ≡ true) (sym (stays_over s (turn_of s) e)) (still_over n s e)

ends_by : (n : ℕ) (s : Season) → Ready s → turns_left s ≤ n → is_over (turn_of (after_turns n s)) ≡ true
ends_by zero s r h = absurd (omega (arith, some_left s))
ends_by (suc n) s r h =
    case (is_over (turn_of s))
    (λ e. still_over (suc n) s e)
    (λ e. ends_by n (next s) (next_ready s r) (omega (arith, next_less s r e)))

-- After as many turns as it has left at most, no line and no live job is left. So the number of turns in `remaining` cuts nothing off.
pub season_ends : (s : Season) → Ready s → is_over (turn_of (after_turns (turns_left s) s)) ≡ true
season_ends s r = ends_by (turns_left s) s r (omega arith)
