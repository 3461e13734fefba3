-- `script_writing::put_took` meets its contract: nothing for no ticket, or its line.
-- Assumes nothing.
use native.Mathlib.Omega.{arith}
use borrow.Author.Tests.{eq-eqb, ne_eqb}
use Rattle.script_rules.specs.Writing.{took_word, row}
use Rattle.script_writing.specs.AnswerText.{took_text}
use Rattle.text.specs.WrittenBytes.{wrote, wrote_none, and_then}
use Rattle.script_writing.proofs.put_took.Goals as goal

pub returns-then-ticket-eq0 : goal.returns-then-ticket-eq0
unfolding took_text
returns-then-ticket-eq0 c =
    let a = c.args in
    rw (eq-eqb a.ticket 0 c.if-ticket-eq0.true) (wrote_none 27 a.page.now a.at)

pub returns : goal.returns
unfolding took_text row
returns c =
    rw (ne_eqb c.args.ticket 0 c.if-ticket-eq0.false)
    (and_then (wrote 4 _ _ took_word _ _ (omega arith) c.put_word-p.ensures) (and_then c.put_field-q.ensures c.put_promise.ensures))
