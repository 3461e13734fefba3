-- `status_page::put_page` meets its contract: the lines of the slots passed are written.
-- Assumes nothing.
use mathlib.Core.List.{List}
use Prim.Native.Nat.{ℕ, ◌*◌, ◌≤◌}
use lib.ListN.{take}
use Rattle.text.specs.WrittenBytes.{Wrote}
use Rattle.scheduler.specs.declared.Job.{Job}
use Rattle.scheduler.specs.declared.Settings.{Settings}
use Rattle.status_page_laws.specs.Pages.{line_bytes}
use Rattle.status_page.specs.SlotLines.{slot_lines}
use Rattle.status_page.proofs.put_page.Given as goal

pub record Inv (page₀ : List ℕ) (S : Settings) (js : List Job) (at₀ : ℕ) (page : List ℕ) (at i : ℕ) : Type 0 where
  pub low : i ≤ 64
  pub written : Wrote (line_bytes * i) page₀ at₀ (slot_lines S (take i js)) page at

abbrev pub invariant-loop-j : goal.invariant-loop-j
invariant-loop-j l = Inv l.initial.page l.settings l.j-items l.initial.at l.page l.at l.j-index
