-- A scheduler that a function is handed has 64 slots.
-- Assumes nothing.
use mathlib.Core.Path.{◌≡◌, sym, ◌∙◌}
use mathlib.Core.List.{List, map}
use Prim.Native.Nat.{ℕ}
use lib.ListN.{length, length-map}
use denote.Laws.{Is}
use denote.Struct.Declared.{row}
use denote.Struct.Laws as S
use borrow.Author.Rules.{rules}
use Rattle.scheduler.specs.declared.Scheduler.{Scheduler}
use Rattle.scheduler.specs.contracts.Scheduler as K
use Rattle.scheduler.proofs.Scheduler.TheLaws as K'

pub length_mapped : (X Y : Type 0) (f : X → Y) (l : List X) (n : ℕ) → length (map f l) ≡ n → length l ≡ n
length_mapped X Y f l n p = sym (length-map l f) ∙ p

pub whole : (d : Scheduler) → Is (row K.the_type) d (S.vals K.the_type K'.the_laws d) → length d.jobs ≡ 64
whole d h = search (rules, length_mapped)
