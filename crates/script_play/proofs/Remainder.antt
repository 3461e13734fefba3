-- Played to the end, the pieces are the printout of the whole script.
-- Assumes nothing.
use Rattle.std.specs.Prelude.{◌≡◌, false, List, ◌++◌, leb, length, drop, replicate}
use Rattle.std.proofs.Math.Path.{refl, ap}
use Rattle.std.proofs.Common.{sym, ◌∙◌, append-nil, append_assoc, ne_eqb, leb-true, leb-false}
use Rattle.std.proofs.Math.Option.{Option, none, some}
use Prim.Native.Nat.{ℕ, zero, suc, ◌+◌, ◌-◌}
use native.Mathlib.Omega.{arith}
use Rattle.lists.specs.Tests.{case}
use Rattle.text.specs.Lines.{begins_of}
use Rattle.scheduler.specs.declared.Opening.{Opening}
use Rattle.scheduler.specs.declared.Refusal.{Refusal}
use Rattle.scheduler.specs.declared.Scheduler.{Scheduler}
use Rattle.scheduler.specs.Model.{Model, view, store}
use Rattle.scheduler.specs.Opening.{opening, opened}
use Rattle.scheduler.specs.Answers.{Result, accepts, code}
use Rattle.scheduler.specs.Refusals.{wait_refusal}
use Rattle.history.specs.Calls.{Call, Command, ask, wait, tick, unchanged, after}
use Rattle.guarantees.specs.Rules.{call}
use Rattle.guarantees.specs.Premise.{Premise, Valid, valid_view, call_valid, opening_valid}
use Rattle.guarantees.specs.Chain.{unchanged_refuses}
use Rattle.desk_lines.specs.Lines.{lines_of}
use Rattle.desk_lines.specs.LineLaws.{line_of, past, lines_done, lines_from}
use Rattle.script_rules.specs.Reading.{command_of}
use Rattle.desk_lines.specs.DeskLine.{opening_in}
use Rattle.script_rules.specs.Writing.{no_row, text_of}
use Rattle.script_rules.specs.Printout.{printed, printed_all, called_by, printed_by, played, longest_script, printout}
use Rattle.script_rules.specs.Beginnings.{printout_begins}
use Rattle.script_play.specs.FirstPieces.{first_left}
use Rattle.script_play.specs.declared.Play.{Play}
use Rattle.script_play.specs.declared.Stage.TheVariants.{First, Playing, Over}
use Rattle.script_play.specs.declared.Stage.{Stage}
use Rattle.script_play.specs.Pieces.{over, starts, first_piece, call_piece, command_piece, later_by, later_piece, piece_by, piece_of}
use Rattle.script_play.specs.Remainder.{from_here, left_by, left}

-- ## Each piece is the first part of what is left

-- what a call leaves is read back
module _ (m : Model) (c : Call) (v : Valid m) where
  model_after : view (store (call m c).model) ≡ (call m c).model
  model_after = valid_view (call m c).model (call_valid m c v)

-- a refused wait prints its number
refusal_text : (m : Model) (r : Refusal) → accepts r ≡ false → printed m (unchanged r) ≡ no_row (code r)
unfolding text_of
refusal_text m r e = rw (unchanged_refuses m r, e)

module _ (s : List ℕ) where
  -- one line more, and one step more
  module _ (at : ℕ) (d : Scheduler) (h : Premise d) where
    by_call : (steps : ℕ) (c : Call) → from_here s at steps (call (view d) c).model ≡ left s (call_piece at steps d c).play
    by_call steps c = ap (from_here s at steps) (sym (model_after (view d) c h.holds))

    by_command : (q : Option Command)
        → printed_by (view d) q ++ played (after call (view d) (called_by (view d) q)) (lines_of (drop at s))
        ≡ (command_piece at 0 d q).text ++ left s (command_piece at 0 d q).play
    unfolding printed_all
    by_command none = refl
    by_command (some (ask c)) = ap (λ t. t ++ played (call (view d) c).model (lines_of (drop at s))) (append-nil (printed (view d) c))
        ∙ ap (λ t. printed (view d) c ++ t) (by_call 0 c)
    by_command (some (wait n)) =
        case (accepts (wait_refusal (view d) n))
        (λ e. rw e)
        (λ e.
        let m = view d in
        let w = wait_refusal m n in
        let ls = lines_of (drop at s) in
        rw e (ap (λ t. t ++ played (call m (unchanged w)).model ls) (append-nil (printed m (unchanged w)) ∙ refusal_text m w e)
        ∙ ap (λ (r : Result). no_row (code w) ++ played r.model ls) (unchanged_refuses m w)))

  opened_left : (next : ℕ) (o : Opening) → left s (starts next (opened o).scheduler) ≡ played (opening o) (lines_of (drop next s))
  unfolding
      opened
      printed_all
  opened_left next o = ap (λ m. played m (lines_of (drop next s))) (valid_view (opening o) (opening_valid o))

  by_first : (p : Play) → printout s ≡ (first_piece s p).text ++ left s (first_piece s p).play
  unfolding printout
  by_first p =
      printout_begins opening_in played longest_script s
      ∙ first_left (over p) starts opening_in s played (left s) refl (λ e o f a. opened_left (e + 1) o) (begins_of longest_script s)

  by_steps_lem : (n : ℕ) (p : Play) → Premise p.scheduler → from_here s p.at n (view p.scheduler) ≡ (later_by n s p).text ++ left s (later_by n s p).play
  unfolding
      printed_all
      played
  by_steps_lem zero p h =
      case (leb (length s) p.at)
      (λ q. rw q (ap (played (view p.scheduler)) (lines_done s p.at (leb-true (length s) p.at q))))
      (λ q. rw q (ap (played (view p.scheduler)) (lines_from s p.at (leb-false (length s) p.at q))
      ∙ by_command (past s p.at) p.scheduler h (command_of (line_of s p.at))))
  by_steps_lem (suc n) p h =
      let m = view p.scheduler in
      let some_left : suc n ≡ 0 → ⊥ = λ q. omega arith in
      let back : suc n - 1 ≡ n = omega arith in
      rw (ne_eqb (suc n) 0 some_left, back) (append_assoc (printed m tick) (printed_all (call m tick).model (replicate n tick)) _
      ∙ ap (λ t. printed m tick ++ t) (by_call p.at p.scheduler h n tick))

  by_later : (p : Play) → Premise p.scheduler → left_by Playing s p ≡ (later_piece s p).text ++ left s (later_piece s p).play
  unfolding later_piece
  by_later p h = by_steps_lem p.steps p h

  by_stage : (g : Stage) (p : Play) → p.stage ≡ g → Premise p.scheduler → left_by g s p ≡ (piece_by g s p).text ++ left s (piece_by g s p).play
  by_stage First p e h = by_first p
  by_stage Playing p e h = by_later p h
  by_stage Over p e h = sym (ap (λ g. left_by g s p) e)

  pub next_piece : (p : Play) → Premise p.scheduler → left s p ≡ (piece_of s p).text ++ left s (piece_of s p).play
  next_piece p h = by_stage p.stage p refl h
