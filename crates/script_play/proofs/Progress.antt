-- Every script comes to its end: each piece leaves less to play.
-- Assumes nothing.
use Rattle.std.specs.Prelude.{◌≡◌, refl, true, List, [], ℕ, suc, ◌+◌, ◌-◌, ◌*◌, ◌≤◌, ◌<◌, eqb, leb, ltb, length}
use Rattle.std.proofs.Common.{sym, subst, arith}
use Rattle.std.proofs.Math.Option.{Option, none, some}
use borrow.Author.Tests.{eqb-false, leb-false, ltb-false}
use Rattle.lists.specs.Tests.{case, neither}
use Rattle.text.specs.Lines.{begins_of}
use Rattle.text.specs.LineLaws.{begins_inside}
use Rattle.paging.specs.Players.{Player, pieces, pieces_left}
use Rattle.scheduler.specs.declared.Refusal.TheVariants as refusal
use Rattle.scheduler.specs.declared.Scheduler.{Scheduler}
use Rattle.scheduler.specs.Limits.{longest_wait, outside}
use Rattle.scheduler.specs.Model.{Model, view}
use Rattle.scheduler.specs.Answers.{accepts}
use Rattle.scheduler.specs.Refusals.{wait_refusal}
use Rattle.jobs.specs.Soundness.{passed}
use Rattle.history.specs.Calls.{Command, ask, wait, tick}
use Rattle.guarantees.specs.Premise.{Premise, call_premise, opened_premise}
use Rattle.desk_lines.specs.LineLaws.{line_of, past, Past, past_line}
use Rattle.script_rules.specs.Reading.{command_of}
use Rattle.desk_lines.specs.DeskLine.{opening_in}
use Rattle.script_rules.specs.Printout.{longest_script, printout}
use Rattle.script_play.specs.FirstPieces.{first_holds}
use Rattle.script_play.specs.declared.Play.{Play}
use Rattle.script_play.specs.declared.Stage.TheVariants.{First, Playing, Over}
use Rattle.script_play.specs.declared.Stage.{Stage}
use Rattle.script_play.specs.Pieces.{beginning, over, going, starts, first_piece, command_piece, later_piece, piece_by, piece_of}
use Rattle.script_play.specs.Remainder.{left, left_by}
use Rattle.script_play.proofs.Remainder.{next_piece}
use Rattle.script_play.specs.Progress.{InPlay, begin_ready, weight_by, weight}

-- ## Pieces

pub wait_few : (m : Model) (n : ℕ) → accepts (wait_refusal m n) ≡ true → n ≤ longest_wait
unfolding wait_refusal
wait_few m n a =
    let p = passed (outside 1 longest_wait n) refusal.MinutesOutOfRange _ refl a in
    ltb-false longest_wait n (neither (ltb n 1) (ltb longest_wait n) p.0).1

-- a piece leaves less to play, from a weight w down
pub record Onward (s : List ℕ) (w : ℕ) (p : Play) : Type 0 where
  pub ready : InPlay s p
  pub less : weight s p < w

module _ (s : List ℕ) where
  onward : (at next steps : ℕ) (d : Scheduler) → Premise d → at < next → next ≤ length s → steps ≤ longest_wait
      → Onward s (suc ((length s - at) * suc longest_wait)) (going next steps d)
  onward at next steps d g low high few = record { ready = record { premise = g; inside = high; few = few }; less = omega (arith, low, high, few) }

  -- a line more
  module _ (at : ℕ) (h : at < length s) where
    past_at : Past s at
    past_at = past_line s at h

    by_command : (d : Scheduler) → Premise d → (q : Option Command) → Onward s (suc ((length s - at) * suc longest_wait)) (command_piece (past s at) 0 d q).play
    by_command d g none = onward at (past s at) 0 d g past_at.further past_at.within (omega arith)
    by_command d g (some (ask c)) = onward at (past s at) 0 _ (call_premise d c g) past_at.further past_at.within (omega arith)
    by_command d g (some (wait n)) =
        case (accepts (wait_refusal (view d) n))
        (λ e. rw e (onward at (past s at) n d g past_at.further past_at.within (wait_few (view d) n e)))
        (λ e. rw e (onward at (past s at) 0 d g past_at.further past_at.within (omega arith)))

  over_onward : (w : ℕ) (p : Play) → InPlay s p → Onward s (suc w) (over p)
  over_onward w p r = record { ready = record { premise = r.premise; inside = r.inside; few = r.few }; less = omega arith }

  more : (w v : ℕ) (p : Play) → w ≤ v → Onward s w p → Onward s v p
  more w v p h o = record { ready = o.ready; less = omega (arith, h, o.less) }

  by_first : (p : Play) → InPlay s p → Onward s (weight_by First s p) (first_piece s p).play
  by_first p r =
      first_holds (over p) starts opening_in s (Onward s (weight_by First s p)) (over_onward _ p r)
      (λ e h o f a. more _ _ _ (omega arith) (onward 0 (e + 1) 0 _ (opened_premise o) (omega arith) (omega arith) (omega arith)))
      (begins_of longest_script s) (begins_inside longest_script s)

  by_later : (p : Play) → InPlay s p → Onward s (weight_by Playing s p) (later_piece s p).play
  unfolding later_piece
  by_later p r =
      case (eqb p.steps 0)
      (λ e. rw e (case (leb (length s) p.at)
      (λ q. rw q (over_onward _ p r))
      (λ q. rw q (more _ _ _ (omega arith) (by_command p.at (leb-false (length s) p.at q) p.scheduler r.premise (command_of (line_of s p.at)))))))
      (λ e. rw e (record {
        ready = record { premise = call_premise p.scheduler tick r.premise; inside = r.inside; few = omega (arith, r.few) };
        less = omega (arith, eqb-false p.steps 0 e);
      }))

  -- of a piece: what holds goes on holding, and a script that is not over has less to play
  by_stage : (g : Stage) (p : Play) → p.stage ≡ g → InPlay s p → InPlay s (piece_by g s p).play × (weight s (piece_by g s p).play ≤ weight_by g s p - 1)
  by_stage First p e r = let o = by_first p r in (o.ready, omega (arith, o.less))
  by_stage Playing p e r = let o = by_later p r in (o.ready, omega (arith, o.less))
  by_stage Over p e r = (r, subst (λ (g : Stage). weight_by g s p ≤ 0) (sym e) (omega arith))

  pub next_ready : (p : Play) → InPlay s p → InPlay s (piece_of s p).play
  next_ready p r = (by_stage p.stage p refl r).0

  pub next_less : (p : Play) → InPlay s p → weight s (piece_of s p).play ≤ weight s p - 1
  next_less p r = (by_stage p.stage p refl r).1

  pub over_left : (g : Stage) (p : Play) → weight_by g s p ≡ 0 → left_by g s p ≡ []
  over_left First p h = absurd (omega arith)
  over_left Playing p h = absurd (omega arith)
  over_left Over p h = refl

  -- ## All the pieces

  abbrev pub script_player : Player Play
  script_player = record {
    next = piece_of s;
    left = left s;
    weight = weight s;
    Ready = InPlay s;
    next_left = λ p r. next_piece s p r.premise;
    next_ready = next_ready;
    next_less = next_less;
    over_left = λ p. over_left p.stage p;
  }

  -- from the beginning, they are the printout of the whole script
  pub pieces_whole : (n : ℕ) → weight s beginning ≤ n → pieces script_player n beginning ≡ printout s
  pieces_whole n h = pieces_left script_player n beginning (begin_ready s) h
