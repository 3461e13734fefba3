-- The turn of a first line: the piece that the definitions give, of anything that is played over the scheduler which that line opens.
-- Assumes nothing.
use Rattle.std.specs.Prelude.{◌≡◌, ℕ, ◌+◌, take, Some, None}
use Rattle.std.proofs.Math.Path.{sym, ap}
use Rattle.std.proofs.Common.{◌∙◌}
use Rattle.std.proofs.Math.Bool.{true, false}
use mathlib.Core.List.{List, []}
use Rattle.std.proofs.Math.Option.{Option, some}
use Rattle.text.specs.declared.Begins.{Begins}
use Rattle.text.specs.declared.Begins.TheVariants as begins
use Rattle.text.specs.Lines.{begins_of}
use Rattle.paging.specs.Players.{Piece, piece}
use Rattle.scheduler.specs.declared.Opening.{Opening}
use Rattle.scheduler.specs.declared.Opened.{Opened}
use Rattle.scheduler.specs.declared.Scheduler.{Scheduler}
use Rattle.scheduler.specs.Opening.{opening_refusal, opened}
use Rattle.scheduler.specs.Answers.{accepts, code}
use Rattle.script_rules.specs.Writing.{no_row}
use Rattle.script_rules.specs.Printout.{malformed}
use Rattle.std.specs.declared.option.Option as rust
use Rattle.script_reading.specs.Meaning.{opens}
use Rattle.script_play.specs.FirstPieces.{opening_piece, first_by_of}

module _ {P : Type 0} (stops : P) (starts : ℕ → Scheduler → P) where
  -- by how the text begins
  module _ (opens : List ℕ → Option Opening) (longest : ℕ) (s : List ℕ) {b : Begins} (e : b ≡ begins_of longest s) where
    abbrev whole : Piece P
    whole = first_by_of stops starts opens (begins_of longest s) s

    pub first_by : {c : Begins} → b ≡ c → first_by_of stops starts opens c s ≡ whole
    first_by {c} f = ap (λ (x : Begins). first_by_of stops starts opens x s) (sym f ∙ e)

    pub first_line : {end : ℕ} {o : Option Opening} → b ≡ begins.Line end → o ≡ opens (take end s) → opening_piece stops starts (end + 1) o ≡ whole
    first_line {end} g h = ap (opening_piece stops starts (end + 1)) h ∙ first_by g

  -- by what its first line says
  module _ (next : ℕ) (f : rust.Option Opening) where
    abbrev asked : Piece P
    asked = opening_piece stops starts next (opens f)

    module _ (o : Opening) (r : Opened) (e : f ≡ Some o) (g : r ≡ opened o) where
      said : opening_piece stops starts next (some o) ≡ asked
      said = ap (λ (x : rust.Option Opening). opening_piece stops starts next (opens x)) (sym e)

      pub opening_takes : accepts r.refusal ≡ true → piece [] (starts next r.scheduler) ≡ asked
      unfolding opened
      opening_takes a =
          let b : accepts (opening_refusal o) ≡ true = sym (ap (λ (x : Opened). accepts x.refusal) g) ∙ a in
          let taken : opening_piece stops starts next (some o) ≡ piece [] (starts next (opened o).scheduler) = rw b in
          ap (λ (x : Opened). piece [] (starts next x.scheduler)) g ∙ sym taken ∙ said

      pub opening_refuses : accepts r.refusal ≡ false → piece (no_row (code r.refusal)) stops ≡ asked
      unfolding opened
      opening_refuses a =
          let b : accepts (opening_refusal o) ≡ false = sym (ap (λ (x : Opened). accepts x.refusal) g) ∙ a in
          let refuses : opening_piece stops starts next (some o) ≡ piece (no_row (code (opening_refusal o))) stops = rw b in
          ap (λ (x : Opened). piece (no_row (code x.refusal)) stops) g ∙ sym refuses ∙ said

    pub opening_lacks : f ≡ None → piece malformed stops ≡ asked
    opening_lacks e = ap (λ (x : rust.Option Opening). opening_piece stops starts next (opens x)) (sym e)
