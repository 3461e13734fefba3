-- `conservative_plan::earliest` meets its contract: the search goes through the index of the profile.
-- Assumes nothing.
use mathlib.Core.Path.{refl}
use native.Mathlib.Omega.{arith}
use Rattle.conservative_index.specs.BuiltIndex.{built_none}
use Rattle.conservative_plan.specs.EarliestStart.{tabulated_few, searches, asked}
use Rattle.conservative_plan.proofs.earliest.Goals as goal

pub build-requires : goal.build-requires
build-requires c =
    let t = c.tabulate-count.ensures in (
      built_none refl refl,
      t.free_long,
      tabulated_few c.args.d c.requires.planned t,
      omega arith,
    )

pub search-requires : goal.search-requires
search-requires c =
    searches c.args.d c.requires c.tabulate-count.ensures
    c.build.ensures

pub returns : goal.returns
returns c =
    asked c.args.d c.requires c.tabulate-count.ensures
    c.build.ensures c.search.ensures
