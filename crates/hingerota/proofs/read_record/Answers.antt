use Rattle.hingerota.proofs.read_record.Goals as goal

pub returns : goal.returns
returns c = rw (c.state_of.ensures, c.of_letter.ensures)
