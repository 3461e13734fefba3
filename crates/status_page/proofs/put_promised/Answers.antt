-- `status_page::put_promised` meets its contract, for either kind.
-- Assumes nothing.
use borrow.Author.Rules.{rules}
use Rattle.status_page.proofs.put_promised.Goals as goal

pub put_number_right-requires : goal.put_number_right-requires
put_number_right-requires c =
    ((rw c.in-Conservative.is at c.requires.0).within, search rules)

pub returns-in-Conservative : goal.returns-in-Conservative
returns-in-Conservative c =
    rw c.in-Conservative.is c.put_number_right.ensures

pub returns-in-Easy : goal.returns-in-Easy
returns-in-Easy c =
    rw c.in-Easy.is c.put_word_right.ensures
