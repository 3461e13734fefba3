-- `lent_calls::index` meets its contract: what `calls::index` gives is written to the front of the list.
-- Assumes nothing.
use Rattle.std.proofs.Common.{arith}
use Rattle.lent_calls.specs.IndexContract.{blocks_few, blocks_shown}
use Rattle.lent_calls.proofs.index.Goals as goal

pub write_to-requires : goal.write_to-requires
write_to-requires c =
    let f = blocks_few c.args.d.now _ _ c.requires c.index.ensures in
    (omega arith, (f.0, omega (arith, f.1)))

pub returns : goal.returns
returns c =
    rw (c.write_to.ensures.0, c.write_to.ensures.1) (blocks_shown c.args.d.now c.args.blocks.now _ c.index.ensures)
