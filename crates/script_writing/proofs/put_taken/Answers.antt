-- `script_writing::put_taken` meets its contract: its lines are written one after the other.
-- Assumes nothing.
use native.Mathlib.Omega.{arith}
use Rattle.std.proofs.lemmas.List.{length-take}
use Rattle.script_writing.specs.AnswerText.{taken_text}
use Rattle.text.specs.WrittenBytes.{with_room, and_then}
use Rattle.script_writing.proofs.put_taken.Goals as goal

pub returns : goal.returns
unfolding taken_text
returns c =
    let a = c.args.a in
    let lines = and_then c.put_took-p.ensures (and_then c.put_rows-q.ensures (and_then c.put_rows-s.ensures c.put_head.ensures)) in
    with_room lines _ (omega (arith, c.requires, length-take a.ended.count a.ended.list, length-take a.started.count a.started.list))
