-- `checkpoint_writing::put_text` meets its contract: the lines of the slots passed are written.
-- Assumes nothing.
use mathlib.Core.List.{List}
use Prim.Native.Nat.{ℕ, ◌*◌, ◌≤◌}
use lib.ListN.{take}
use Rattle.text.specs.WrittenBytes.{Wrote}
use Rattle.scheduler.specs.declared.Job.{Job}
use Rattle.checkpoint_writing.specs.TextParts.{slot_texts}
use Rattle.checkpoint_writing.proofs.put_text.Given as goal

pub record Inv (page₀ : List ℕ) (js : List Job) (at₀ : ℕ) (page : List ℕ) (at i : ℕ) : Type 0 where
  pub low : i ≤ 64
  pub written : Wrote (114 * i) page₀ at₀ (slot_texts (take i js)) page at

abbrev pub invariant-loop-j : goal.invariant-loop-j
invariant-loop-j l = Inv l.initial.page l.j-items l.initial.at l.page l.at l.j-index
