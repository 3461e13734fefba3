-- `conservative_plan::index_of` meets its contract: the blocks of the index are copied out.
-- Assumes nothing.
use mathlib.Core.Path.{refl, ap, ◌∙◌}
use native.Mathlib.Omega.{arith}
use Rattle.conservative_index.specs.StoredIndex.{stored_blocks}
use Rattle.conservative_index.specs.BuiltIndex.{built_none, indexed_index}
use Rattle.conservative_plan.specs.PlannedSlots.{tabulated_view}
use Rattle.conservative_plan.specs.EarliestStart.{tabulated_few}
use Rattle.conservative_plan.proofs.index_of.Goals as goal

pub build-requires : goal.build-requires
build-requires c =
    let t = c.tabulate-count.ensures in
    (built_none refl refl, t.free_long, tabulated_few c.args.d c.requires t, omega arith)

pub copied-requires : goal.copied-requires
copied-requires c =
    let b = c.build.ensures in
    (b.low_long, b.high_long, tabulated_few c.args.d c.requires c.tabulate-count.ensures)

pub returns : goal.returns
returns c =
    let b = c.build.ensures in
    c.copied.ensures
    ∙ ap stored_blocks (indexed_index (tabulated_view c.args.d c.requires c.tabulate-count.ensures) (tabulated_few c.args.d c.requires c.tabulate-count.ensures) b)
