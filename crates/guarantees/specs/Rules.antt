-- What each call gives, by the kind of the scheduler.
-- Assumes nothing.
use Rattle.scheduler.specs.declared.Kind.{Kind}
use Rattle.scheduler.specs.declared.Kind.TheVariants.{Conservative, Easy}
use Rattle.history.specs.Calls.{Rules}
use Rattle.conservative_rules.specs.Conservative as conservative
use Rattle.easy_rules.specs.Easy as easy

abbrev pub rules_of : Kind → Rules
rules_of Conservative = conservative.call
rules_of Easy = easy.call

abbrev pub call : Rules
call m c = rules_of m.settings.kind m c
