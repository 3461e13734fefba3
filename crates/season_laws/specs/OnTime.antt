-- A job arrives in its minute. Document 02, No. 6: "for 9, 17, 18 and such an arrival right after the line above is done with, else in its
-- arrival minute".
-- Assumes nothing.
use Rattle.std.specs.Prelude.{◌≡◌, refl, ◌⊎◌, ℕ, zero, suc, max, ◌≤◌}
use Rattle.std.proofs.Common.{sym, ap, subst, ◌∙◌, inl, inr, arith}
use mathlib.Core.List.{List, [], ◌∷◌, cons≢nil}
use Rattle.std.proofs.Math.Option.{Option, none, some}
use Rattle.lists.specs.Tests.{case}
use Rattle.lists.specs.Lists.{In, in_nil}
use Rattle.scheduler.specs.declared.Opening.{Opening}
use Rattle.scheduler.specs.Answers.{accepts}
use Rattle.scheduler.specs.Opening.{opening_refusal, opening}
use Rattle.history.specs.Calls.{submit}
use Rattle.guarantees.specs.Rules.{call}
use Rattle.guarantees.specs.Premise.{opening_valid}
use Rattle.guarantees.specs.Proof.{opening_empty}
use Rattle.desk_lines.specs.Lines.{Line}
use Rattle.season_rules.specs.declared.Arrival.{Arrival}
use Rattle.season_rules.specs.Season.{Season, Turn, ends, refuses, arrives, steps, over, turn_of, order_of, season_by, next_line}
use Rattle.season_rules.specs.Season.{first_arrival, arrival_next, highest_with, beginning}
use Rattle.season_laws.specs.Progress.{Ready, Because, refused, arriving, passing, because, next_ready, reach, after_turns}
use Rattle.season_laws.specs.Progress.{complete_clock, submit_clock, tick_clock}

-- while lines are left, the clock is not past the highest arrival up to the next
abbrev InTime : Season → Type 0
InTime s = (s.lines ≡ []) ⊎ (s.model.clock ≤ reach s)

highest_grows : (h : ℕ) (o : Option Arrival) → h ≤ highest_with h o
highest_grows h none = omega arith
highest_grows h (some a) = omega arith

module _ (s : Season) (r : Ready s) where
  not_past : (l : Line) (ls : List Line) → s.lines ≡ l ∷ ls → InTime s → s.model.clock ≤ reach s
  not_past l ls e (inl n) = absurd (cons≢nil (sym e ∙ n))
  not_past l ls e (inr h) = h

  -- after a line its minute, if it has the form, is among those above
  line_time : (z : Season) → z.highest ≡ reach s → z.model.clock ≡ s.model.clock → s.model.clock ≤ reach s → InTime z
  line_time z e k h = inr (omega (arith, highest_grows z.highest (arrival_next z), e, k, h))

  by_time : (t : Turn) → Because s t → InTime s → InTime (season_by s t)
  by_time (ends j) b (inl n) = inl n
  by_time (ends j) b (inr h) = inr (omega (arith, complete_clock s r j.ticket, h))
  by_time (refuses x) (refused {l = l} {ls = ls} e) i = line_time (next_line s) refl refl (not_past l ls e i)
  by_time (arrives a) (arriving {l = l} {ls = ls} e f t k) i =
      case (accepts (call s.model (submit (order_of a))).reply.refusal)
      (λ q. line_time (season_by s (arrives a)) (rw q) (rw q (submit_clock s r (order_of a))) (not_past l ls e i))
      (λ q. line_time (season_by s (arrives a)) (rw q) (rw q (submit_clock s r (order_of a))) (not_past l ls e i))
  by_time steps (passing h (inl n)) i = inl n
  by_time steps (passing h (inr l)) i = inr (omega (arith, tick_clock s r h, l))
  by_time over b i = i

  arrives_now : (a : Arrival) → Because s (arrives a) → InTime s → s.model.clock ≡ a.minute
  arrives_now a (arriving {l = l} {ls = ls} e f t k) i =
      let g : reach s ≡ max s.highest a.minute = ap (highest_with s.highest) (ap (first_arrival s.above) e ∙ f) in
      omega (arith, not_past l ls e i, g, t.from, k)

after_time : (n : ℕ) (s : Season) → Ready s → InTime s → Ready (after_turns n s) × InTime (after_turns n s)
after_time zero s r i = (r, i)
after_time (suc n) s r i = after_time n (season_by s (turn_of s)) (next_ready s r) (by_time s r (turn_of s) (because s r.valid) i)

-- In every season from minute 0, after any number of turns: the job that arrives next does so in its minute.
module _ (o : Opening) (z : o.minute ≡ 0) (ls : List Line) where
  abbrev first : Season
  first = beginning (opening o) ls

  first_clock : (opening o).clock ≡ 0
  unfolding opening
  first_clock = case (accepts (opening_refusal o)) (λ q. rw q z) (λ q. rw q)

  first_ready : Ready first
  first_ready = record { valid = opening_valid o; no_least = λ j i. in_nil (subst (In j) (opening_empty o) i) }

  pub arrives_on_time : (n : ℕ) (a : Arrival) → turn_of (after_turns n first) ≡ arrives a → (after_turns n first).model.clock ≡ a.minute
  arrives_on_time n a e =
      let s = after_turns n first in
      let t = after_time n first first_ready (inr (omega (arith, first_clock))) in
      arrives_now s t.0 a (subst (Because s) e (because s t.0.valid)) t.1
