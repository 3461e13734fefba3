-- A desk that a function is handed has 64 records.
-- Assumes nothing.
use mathlib.Core.Path.{◌≡◌}
use lib.ListN.{length}
use denote.Laws.{Is}
use denote.Struct.Declared.{row}
use denote.Struct.Laws as S
use borrow.Author.Rules.{rules}
use Rattle.scheduler.proofs.Lengths.{length_mapped}
use Rattle.hingerota.specs.declared.Desk.{Desk}
use Rattle.hingerota.specs.contracts.Desk as K
use Rattle.hingerota.proofs.Desk.TheLaws as K'

pub whole : (d : Desk) → Is (row K.the_type) d (S.vals K.the_type K'.the_laws d) → length d.jobs ≡ 64
whole d h = search (rules, length_mapped)
