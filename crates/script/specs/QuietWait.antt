-- Quiet minutes of a wait print nothing: with them passed over, a script has the same left to print.
-- Assumes nothing.
use Rattle.std.specs.Prelude.{ℕ, zero, suc, ◌+◌, ◌-◌, ◌*◌, ◌≤◌, ◌≡◌, length, drop, replicate}
use Rattle.std.proofs.Common.{arith, subst, ◌∙◌}
use Rattle.std.proofs.Math.Path.{refl, sym, ap}
use mathlib.Core.List.{List, [], ◌++◌}
use Rattle.paging.specs.Players.{Skips}
use Rattle.scheduler.specs.declared.Kind.{Kind}
use Rattle.scheduler.specs.declared.Refusal.TheVariants as refusal
use Rattle.scheduler.specs.Limits.{horizon, longest_wait}
use Rattle.scheduler.specs.Model.{Model, view}
use Rattle.scheduler.specs.Answers.{Result, refusing}
use Rattle.history.specs.Calls.{tick, after}
use Rattle.guarantees.specs.Rules.{call}
use Rattle.guarantees.specs.Premise.{Premise, Valid, premise_sound}
use Rattle.guarantees.specs.Chain.{handed}
use Rattle.quiet_minutes.specs.DueMinutes.{Quiet}
use Rattle.quiet_minutes.specs.QuietTicks.{passed, quiet_tick, tick_valid, quiet_next, quiet_rest, passed_none, passed_more, passed_over}
use Rattle.quiet_minutes.specs.QuietTicks.{passed_premise, passed_handed}
use Rattle.quiet_minutes.specs.QuietCount.{Ahead}
use Rattle.desk_lines.specs.Lines.{lines_of}
use Rattle.script_rules.specs.Writing.{text_of, taken, rows_of}
use Rattle.script_rules.specs.Printout.{printed_all, played}
use Rattle.script_play.specs.declared.Play.{Play}
use Rattle.script_play.specs.declared.Stage.TheVariants.{First, Playing, Over}
use Rattle.script_play.specs.declared.Stage.{Stage}
use Rattle.script_play.specs.Remainder.{from_here, left_by, left}
use Rattle.script_play.specs.Progress.{InPlay, weight, weight_by}
use Rattle.script_play.proofs.Progress.{script_player}

-- r stands some quiet minutes after p, with the scheduler that as many ticks hand back. How many minutes they are may differ from one correct
-- program to another; what is left to print may not
pub record PassesOver (p r : Play) : Type 0 where
  pub stage_is : r.stage ≡ p.stage
  pub at_is : r.at ≡ p.at
  pub minutes : ℕ
  pub steps_is : r.steps + minutes ≡ p.steps
  pub quiet : Quiet (view p.scheduler) minutes
  pub scheduler_is : r.scheduler ≡ handed p.scheduler (replicate minutes tick)
  pub premise : Premise r.scheduler
  pub left_is : (s : List ℕ) → left s r ≡ left s p

nothing_told : (k : Kind) (t : ℕ) → text_of k t (refusing refusal.None) ≡ []
unfolding text_of taken rows_of
nothing_told k t = refl

module _ (s : List ℕ) (at : ℕ) where
  -- one quiet minute
  one_less : (m : Model) (n : ℕ) → call m tick ≡ record { reply = refusing refusal.None; model = passed m 1 }
      → from_here s at (suc n) m ≡ from_here s at n (passed m 1)
  unfolding printed_all
  one_less m n e =
      ap (λ (t : List ℕ). (t ++ printed_all (call m tick).model (replicate n tick)) ++ played (after call (call m tick).model (replicate n tick))
      (lines_of (drop at s)))
      (ap (λ (r : Result). text_of m.settings.kind r.model.clock r.reply) e ∙ nothing_told m.settings.kind (m.clock + 1))
      ∙ ap (λ (r : Result). from_here s at n r.model) e

  pub quiet_left : (k n : ℕ) (m : Model) → Valid m → m.clock + k ≤ horizon → Quiet m k → from_here s at (k + n) m ≡ from_here s at n (passed m k)
  quiet_left zero n m v l q =
      let e : 0 + n ≡ n = omega arith in
      ap (λ (i : ℕ). from_here s at i m) e ∙ ap (from_here s at n) (sym (passed_none m))
  quiet_left (suc k) n m v l q =
      let e : suc k + n ≡ suc (k + n) = omega arith in
      let h = quiet_next m k q in
      ap (λ (i : ℕ). from_here s at i m) e
      ∙ one_less m (k + n) (quiet_tick m v (omega arith) h)
      ∙ quiet_left k n (passed m 1) (tick_valid m v (omega arith) h) (omega arith) (quiet_rest m k q)
      ∙ ap (from_here s at n) (passed_more m k)

module _ (p : Play) (h : Premise p.scheduler) {k : ℕ} (a : Ahead p.scheduler p.steps k) where
  pub in_time_lem : p.scheduler.clock + k ≤ horizon
  unfolding view
  in_time_lem = a.within (premise_sound p.scheduler h).clock_to

  abbrev pub passed_by : Play
  passed_by = record { stage = p.stage; at = p.at; steps = p.steps - k; scheduler = passed_over p.scheduler k }

  left_same : (g : Stage) (s : List ℕ) → left_by g s passed_by ≡ left_by g s p
  unfolding view
  left_same First s = refl
  left_same Playing s =
      let e : k + (p.steps - k) ≡ p.steps = omega (arith, a.few) in
      sym (quiet_left s p.at k (p.steps - k) (view p.scheduler) h.holds in_time_lem a.quiet)
      ∙ ap (λ (i : ℕ). from_here s p.at i (view p.scheduler)) e
  left_same Over s = refl

  pub passes_quiet : PassesOver p passed_by
  passes_quiet = record {
    stage_is = refl;
    at_is = refl;
    minutes = k;
    steps_is = omega (arith, a.few);
    quiet = a.quiet;
    scheduler_is = passed_handed p.scheduler k h in_time_lem a.quiet;
    premise = passed_premise p.scheduler k h in_time_lem a.quiet;
    left_is = left_same p.stage;
  }

-- of a script being played, r stands for p: it is ready too, and has no more to play
pub passes_skips : (s : List ℕ) {p r : Play} → InPlay s p → PassesOver p r → Skips (script_player s) p r
passes_skips s {p} {r} q o = record {
  left_is = o.left_is s;
  ready = record { premise = o.premise; inside = omega (arith, q.inside, o.at_is); few = omega (arith, q.few, o.steps_is) };
  no_more = subst (λ (g : Stage). weight_by g s r ≤ weight s p) (sym o.stage_is) (by p.stage);
}
  where
    by : (g : Stage) → weight_by g s r ≤ weight_by g s p
    by First = omega arith
    by Playing = let e = ap (λ (i : ℕ). (length s - i) * suc longest_wait) o.at_is in omega (arith, o.steps_is)
    by Over = omega arith
