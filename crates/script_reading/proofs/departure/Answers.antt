-- `script_reading::departure` meets its contract: one number, and no field after it.
-- Assumes nothing.
use Rattle.history.specs.Calls.{ask, depart}
use Rattle.script_reading.specs.CommandFields.{last}
use Rattle.script_reading.specs.LineReading.{up_to_end, up_to_next}
use Rattle.script_reading.proofs.departure.Goals as goal

pub returns : goal.returns
returns c =
    let r = c.number_after-a.ensures in
    up_to_next _ r (last (λ t. ask (depart c.args.how t))) c.in-Some.is (up_to_end _ _ _ (r.ends _ c.in-Some.is))
