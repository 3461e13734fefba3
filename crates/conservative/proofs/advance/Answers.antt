use Rattle.conservative.specs.Advance.{advanced_by}
use Rattle.conservative.proofs.advance.Goals as goal

pub returns : goal.returns
unfolding advanced_by
returns c = rw (c.newly_running.ensures, c.refused.ensures)
