-- A part that a function is handed has 64 slots.
-- Assumes nothing.
use mathlib.Core.Path.{◌≡◌}
use lib.ListN.{length}
use denote.Laws.{Is}
use denote.Struct.Declared.{row}
use denote.Struct.Laws as S
use borrow.Author.Rules.{rules}
use Rattle.scheduler.proofs.Lengths.{length_mapped}
use Rattle.job_table.specs.declared.Part.{Part}
use Rattle.job_table.specs.contracts.Part as K
use Rattle.job_table.proofs.Part.TheLaws as K'

pub part_whole : (p : Part) → Is (row K.the_type) p (S.vals K.the_type K'.the_laws p) → length p.scheduler.jobs ≡ 64
part_whole p h = search (rules, length_mapped)
