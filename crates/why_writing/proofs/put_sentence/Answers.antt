-- `why_writing::put_sentence` meets its contract: its parts are written one after the other.
-- Assumes nothing.
use mathlib.Core.List.{[], ◌∷◌}
use native.Mathlib.Omega.{arith}
use Rattle.why_writing.specs.ExactText.{writes, writes_then, room_at}
use Rattle.why_writing.specs.ListedText.{listed_text, listed_length}
use Rattle.why_writing.proofs.put_sentence.Goals as goal

pub put_pair-a-requires : goal.put_pair-a-requires
put_pair-a-requires c =
    let a = c.args in
    record {
      fits =
          omega (
            arith,
            c.requires.1.fits,
            listed_length a.ticket a.minute a.tickets.now a.plan.now.held a.plan.now.froms a.plan.now.untils a.plan.now.count,
          );
    }

pub put_holders-b-requires : goal.put_holders-b-requires
put_holders-b-requires c =
    let a = c.args in (
      c.requires.0,
      room_at c.put_pair-a.ensures c.requires.1
          (omega (arith, listed_length a.ticket a.minute a.tickets.now a.plan.now.held a.plan.now.froms a.plan.now.untils a.plan.now.count)),
    )

pub put_byte-requires : goal.put_byte-requires
put_byte-requires c =
    let a = c.args in
    omega (
      arith,
      c.requires.1.fits,
      listed_length a.ticket a.minute a.tickets.now a.plan.now.held a.plan.now.froms a.plan.now.untils a.plan.now.count,
      c.put_pair-a.ensures.place,
      c.put_pair-a.auto,
      c.put_holders-b.ensures.place,
      c.put_holders-b.auto,
    )

pub returns : goal.returns
unfolding listed_text
returns c =
    writes_then c.put_pair-a.ensures (writes_then c.put_holders-b.ensures (writes (10 ∷ []) c.put_byte.ensures))
