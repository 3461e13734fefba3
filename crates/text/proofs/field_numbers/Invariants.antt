-- `text::field_numbers` meets its contract: the numbers kept, and then those in the fields from `start` on, are all.
-- Assumes nothing.
use mathlib.Core.Path.{◌≡◌}
use mathlib.Core.List.{List, ◌++◌}
use Prim.Native.Nat.{ℕ, ◌-◌, ◌≤◌}
use lib.ListN.{length, drop}
use Rattle.lists.specs.Pads.{pad}
use Rattle.text.specs.Fields.{fields_of}
use Rattle.text.specs.Numbers.{leading}
use Rattle.text.proofs.field_numbers.Given as goal

pub record Inv (line : List ℕ) (k : ℕ) (values : List ℕ) (count start : ℕ) : Type 0 where
  pub kept : List ℕ
  pub size : length kept ≡ count
  pub few : count ≤ 8
  pub inside : start ≤ length line
  pub values-are : values ≡ pad 8 0 kept
  pub all : kept ++ leading (8 - count) (fields_of (drop start line)) ≡ leading 8 (drop k (fields_of line))

abbrev pub invariant-loop-count : goal.invariant-loop-count
invariant-loop-count l = Inv l.line l.k l.values l.count l.start
