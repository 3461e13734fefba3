-- What a turn of a script that is being played leaves: the lines in the page are those of the piece that the definitions give.
-- Assumes nothing.
use Rattle.std.specs.Prelude.{◌≡◌, true, false, List, [], ℕ, ◌≤◌, Some, None}
use Rattle.std.proofs.Common.{sym, ◌∙◌}
use Rattle.std.proofs.Math.Path.{ap, subst}
use Rattle.std.proofs.Math.Option.{some}
use Rattle.text.specs.WrittenBytes.{Wrote}
use Rattle.paging.specs.Players.{Piece, piece, Turned, turned_as, turned, turned_none}
use Rattle.scheduler.specs.declared.Outcome.{Outcome}
use Rattle.scheduler.specs.declared.Refusal.{Refusal}
use Rattle.scheduler.specs.declared.Request.{Request}
use Rattle.scheduler.specs.declared.Scheduler.{Scheduler}
use Rattle.scheduler.specs.Table.{tickets}
use Rattle.scheduler.specs.Model.{view, store}
use Rattle.scheduler.specs.Answers.{accepts, code, outcome}
use Rattle.scheduler.specs.Refusals.{wait_refusal}
use Rattle.history.specs.Calls.{Call, wait, asked}
use Rattle.guarantees.specs.Rules.{call}
use Rattle.guarantees.specs.Premise.{Premise, premise_sound}
use Rattle.guarantees.specs.TicketCounts.{call_fits}
use Rattle.script_rules.specs.Writing.{no_row}
use Rattle.script_rules.specs.Printout.{malformed}
use Rattle.script_writing.specs.AnswerText.{page_bytes, answer_text, answer_text_lem}
use Rattle.script_reading.specs.declared.Asked.{Asked}
use Rattle.script_reading.specs.declared.Asked.TheVariants as later
use Rattle.script_reading.specs.Meaning.{asks}
use Rattle.script_play.specs.declared.Play.{Play}
use Rattle.script_play.specs.Pieces.{over, going, call_piece, command_piece, piece_of}
use Rattle.std.specs.declared.option.Option as rust
use Rattle.script_turns.specs.declared.Next.{Next}
use Rattle.script_turns.specs.NextTurn.{turn_piece, Comes}

-- what a call gives, with the lines of its answer
module _ (d : Scheduler) (c : Call) (r : Outcome) (e : r ≡ outcome (call (view d) c)) where
  call_piece_lem : (next steps : ℕ) → piece (answer_text d.settings.kind r.scheduler.clock r.answer) (going next steps r.scheduler) ≡ call_piece next steps d c
  unfolding
      view
      store
  call_piece_lem next steps =
      ap (λ (x : Outcome). piece (answer_text d.settings.kind x.scheduler.clock x.answer) (going next steps x.scheduler)) e
      ∙ ap (λ t. piece t (going next steps (outcome (call (view d) c)).scheduler))
      (answer_text_lem d.settings.kind (call (view d) c).model.clock (call (view d) c).reply)

  pub call_few : Premise d → (r.answer.ended.count ≤ 64) × (r.answer.started.count ≤ 64)
  unfolding tickets
  call_few h =
      let f = call_fits (view d) c (premise_sound d h) in
      subst (λ (x : Outcome). (x.answer.ended.count ≤ 64) × (x.answer.started.count ≤ 64)) (sym e) (f.ended, f.started)

-- each way through the loop leaves the lines of the next turn
module _ (s : List ℕ) (at steps : ℕ) (d : Scheduler) (n : Next) (comes : Comes s at steps n) where
  abbrev here : Piece Play
  here = piece_of s (going at steps d)

  known : (t : rust.Option Asked) → n.turn ≡ t → turn_piece t n.at n.steps d ≡ here
  known t e = ap (λ (x : rust.Option Asked). turn_piece x n.at n.steps d) (sym e) ∙ comes.piece_is d

  pub over_turned : (page : List ℕ) (out : ℕ) → n.turn ≡ None → Turned page_bytes here page out page out (over (going n.at n.steps d))
  over_turned page out e = turned_as (known None e) (turned_none _ page out _)

  module _ (a : Asked) (e : n.turn ≡ Some a) where
    asked_piece : (b : Asked) → a ≡ b → command_piece n.at n.steps d (asks b) ≡ here
    asked_piece b f = known (Some b) (e ∙ ap Some f)

    pub call_turned : {page after : List ℕ} {out end : ℕ} (q : Request) → a ≡ later.Call q → (o : Outcome) → o ≡ outcome (call (view d) (asked q))
        → Wrote page_bytes page out (answer_text d.settings.kind o.scheduler.clock o.answer) after end
        → Turned page_bytes here page out after end (going n.at n.steps o.scheduler)
    call_turned q f o g w = turned_as (call_piece_lem d (asked q) o g n.at n.steps ∙ asked_piece _ f) (turned _ w)

    pub lacks_turned : {page after : List ℕ} {out end : ℕ} → a ≡ later.Malformed → Wrote page_bytes page out malformed after end
        → Turned page_bytes here page out after end (going n.at n.steps d)
    lacks_turned f w = turned_as (asked_piece _ f) (turned _ w)

    module _ (minutes : ℕ) (f : a ≡ later.Wait minutes) (w : Refusal) (g : w ≡ wait_refusal (view d) minutes) where
      pub wait_turned : (page : List ℕ) (out : ℕ) → accepts w ≡ true → Turned page_bytes here page out page out (going n.at minutes d)
      wait_turned page out h =
          let b : accepts (wait_refusal (view d) minutes) ≡ true = sym (ap accepts g) ∙ h in
          let taken : piece [] (going n.at minutes d) ≡ command_piece n.at n.steps d (some (wait minutes)) = rw b in
          turned_as (taken ∙ asked_piece _ f) (turned_none _ page out _)

      pub refused_turned : {page after : List ℕ} {out end : ℕ} → accepts w ≡ false → Wrote page_bytes page out (no_row (code w)) after end
          → Turned page_bytes here page out after end (going n.at n.steps d)
      refused_turned h v =
          let b : accepts (wait_refusal (view d) minutes) ≡ false = sym (ap accepts g) ∙ h in
          let refused : piece (no_row (code (wait_refusal (view d) minutes))) (going n.at n.steps d) ≡ command_piece n.at n.steps d
          (some (wait minutes)) = rw b in
          turned_as (ap (λ (x : Refusal). piece (no_row (code x)) (going n.at n.steps d)) g ∙ refused ∙ asked_piece _ f) (turned _ v)
