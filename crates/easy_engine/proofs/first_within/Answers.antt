-- `easy_engine::first_within` meets its contract: the numbers searched are what the jobs ask for.
-- Assumes nothing.
use Rattle.std.proofs.Common.{arith, leb, take, length-take, ap, ◌∙◌}
use Rattle.lists.specs.Chains.{option_of, position_is}
use Rattle.lists.specs.Loops.{position}
use Rattle.job_columns.specs.Columns.{column_take}
use Rattle.easy_engine.specs.Survey.{asks}
use Rattle.easy_engine.specs.Found.{position_map, below}
use Rattle.easy_engine.proofs.first_within.Goals as goal

pub returns : goal.returns
returns c =
    let a = c.args in
    record {
      place = λ ws k n.
          ap option_of c.first_to.ensures
          ∙ position_is (λ n. leb n a.most) (take a.waiting a.asked.now)
          ∙ ap (position (λ n. leb n a.most)) (column_take asks ws a.asked.now k a.waiting n)
          ∙ position_map (λ n. leb n a.most) asks 0 ws;
      within = below (λ n. leb n a.most) (take a.waiting a.asked.now) (omega (arith, length-take a.waiting a.asked.now)) _ c.first_to.ensures;
    }
