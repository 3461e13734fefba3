-- `text::number_len` meets its contract: the digits counted and those of what is left are the number's, and one more.
-- Assumes nothing.
use mathlib.Core.Path.{ap}
use native.Mathlib.Omega.{arith}
use lib.ListN.{length}
use Rattle.text.specs.NumberLaws.{decimal_one, decimal_some, decimal_length, decimal_ten}
use Rattle.text.proofs.number_len.Goals as goal

pub overflow_add-n : goal.overflow_add-n
overflow_add-n c = omega (arith, decimal_ten c.args.v (omega arith), decimal_some c.loop-rest.rest)

pub loop-rest-preserved : goal.loop-rest-preserved
loop-rest-preserved c = omega (arith, decimal_length c.loop-rest.rest c.loop-rest-test.true)

pub returns : goal.returns
returns c = omega (arith, ap length (decimal_one c.loop-rest.rest c.loop-rest-test.false))
