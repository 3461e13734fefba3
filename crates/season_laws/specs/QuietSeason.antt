-- Minutes in which nothing is due, no job is over and nobody arrives print nothing: with them passed over, a season has the same left to print.
-- Assumes nothing.
use Rattle.std.specs.Prelude.{◌≡◌, refl, [], ◌++◌, ℕ, zero, suc, ◌+◌, ◌≤◌, ◌<◌}
use Rattle.std.proofs.Common.{sym, ap, subst, ◌∙◌, arith}
use Rattle.lists.specs.Lists.{keep_none}
use Rattle.scheduler.specs.declared.Refusal.TheVariants as refusal
use Rattle.scheduler.specs.Limits.{horizon}
use Rattle.scheduler.specs.Model.{Model}
use Rattle.scheduler.specs.Answers.{Result, refusing}
use Rattle.history.specs.Calls.{tick}
use Rattle.guarantees.specs.Rules.{call}
use Rattle.quiet_minutes.specs.DueMinutes.{Quiet}
use Rattle.quiet_minutes.specs.QuietTicks.{passed, quiet_tick, quiet_next, quiet_rest, passed_none, passed_more}
use Rattle.season_rules.specs.Season as season
use Rattle.season_rules.specs.Season.{Season, steps, turn_of, text_by, season_by, is_over, text_of, rows_of, remaining}
use Rattle.season_laws.specs.Progress.{Ready, next_ready, remaining_next}

-- k minutes later
abbrev pub later : Season → ℕ → Season
later s k = record {
  model = passed s.model k;
  lines = s.lines;
  above = s.above;
  highest = s.highest;
  arrivals = s.arrivals;
  actuals = s.actuals;
}

later_none : (s : Season) → later s 0 ≡ s
later_none s = ap (λ (m : Model). season.after s (record { reply = refusing refusal.None; model = m })) (passed_none s.model)

later_more : (s : Season) (k : ℕ) → later (later s 1) k ≡ later s (suc k)
later_more s k = ap (λ (m : Model). season.after s (record { reply = refusing refusal.None; model = m })) (passed_more s.model k)

-- a reply that tells of nobody prints nothing
nothing_told : (s : Season) → text_of s (refusing refusal.None) ≡ []
unfolding text_of
nothing_told s = ap (rows_of s) (keep_none _ s.model.jobs (λ j i. refl))

module _ (s : Season) (r : Ready s) (e : turn_of s ≡ steps) where
  -- one quiet minute
  one_less : call s.model tick ≡ record { reply = refusing refusal.None; model = passed s.model 1 }
      → (remaining s ≡ remaining (later s 1)) × Ready (later s 1)
  one_less q =
      let next : season_by s (turn_of s) ≡ later s 1 = ap (season_by s) e ∙ ap (season.after s) q in
      let text : text_by s (turn_of s) ≡ [] = ap (text_by s) e ∙ ap (λ (o : Result). text_of s o.reply) q ∙ nothing_told s in
      (remaining_next s r (ap is_over e) ∙ (λ i. text i ++ remaining (next i)), subst Ready next (next_ready s r))

-- k of them: in each the turn is a step, and at its tick nothing is due
pub quiet_remaining : (k : ℕ) (s : Season) → Ready s → s.model.clock + k ≤ horizon → Quiet s.model k → ((i : ℕ) → i < k → turn_of (later s i) ≡ steps)
    → (remaining (later s k) ≡ remaining s) × Ready (later s k)
quiet_remaining zero s r l q f = (ap remaining (later_none s), subst Ready (sym (later_none s)) r)
quiet_remaining (suc k) s r l q f =
    let e : turn_of s ≡ steps = ap turn_of (sym (later_none s)) ∙ f 0 (omega arith) in
    let o = one_less s r e (quiet_tick s.model r.valid (omega arith) (quiet_next s.model k q)) in
    let rest = quiet_remaining k (later s 1) o.1 (omega arith) (quiet_rest s.model k q)
    (λ i h. ap turn_of (later_more s i) ∙ f (suc i) (omega arith)) in
    (ap remaining (sym (later_more s k)) ∙ rest.0 ∙ sym o.0, subst Ready (later_more s k) rest.1)
