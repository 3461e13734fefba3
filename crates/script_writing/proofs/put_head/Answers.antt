-- `script_writing::put_head` meets its contract: nothing for no head, or its line.
-- Assumes nothing.
use borrow.Author.Tests.{eq-eqb, ne_eqb}
use Rattle.script_writing.specs.AnswerText.{head_text}
use Rattle.text.specs.WrittenBytes.{wrote_none}
use Rattle.script_writing.proofs.put_head.Goals as goal

pub returns-then-head-eq0 : goal.returns-then-head-eq0
unfolding head_text
returns-then-head-eq0 c =
    let a = c.args in
    rw (eq-eqb a.head 0 c.if-head-eq0.true) (wrote_none 27 a.page.now a.at)

pub returns : goal.returns
unfolding head_text
returns c =
    rw (ne_eqb c.args.head 0 c.if-head-eq0.false) c.put_row.ensures
