-- `script_writing::put_rows` meets its contract: the rows of the tickets passed are written.
-- Assumes nothing.
use mathlib.Core.List.{List}
use Prim.Native.Nat.{ℕ, ◌+◌, ◌*◌, ◌≤◌}
use lib.ListN.{length, take}
use Rattle.script_rules.specs.Writing.{rows_of}
use Rattle.text.specs.WrittenBytes.{Wrote}
use Rattle.script_writing.proofs.put_rows.Given as goal

pub record Inv (page₀ : List ℕ) (at : ℕ) (word : List ℕ) (minute : ℕ) (tickets : List ℕ) (page : List ℕ) (p i : ℕ) : Type 0 where
  pub low : i ≤ length tickets
  pub written : Wrote ((length word + 23) * i) page₀ at (rows_of word minute (take i tickets)) page p

abbrev pub invariant-loop-ticket : goal.invariant-loop-ticket
invariant-loop-ticket l = Inv l.initial.page l.at l.word l.minute l.tickets l.page l.p l.ticket-index
