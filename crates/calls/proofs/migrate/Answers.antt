-- `calls::migrate` meets its contract: of an EASY scheduler by `migration::migrate`, and a conservative one stays as it is.
-- Assumes nothing.
use mathlib.Core.Path.{sym, ◌∙◌}
use Rattle.scheduler.specs.declared.Kind.TheVariants.{Easy}
use Rattle.guarantees.specs.Premise.{premise_of}
use Rattle.calls.specs.MigrateCall.{migrating_same, migrating_easy}
use Rattle.calls.proofs.migrate.Goals as goal

pub migrate-requires : goal.migrate-requires
migrate-requires c =
    premise_of c.args.d Easy c.in-Easy.is c.requires

pub returns-in-Conservative : goal.returns-in-Conservative
returns-in-Conservative c =
    sym (migrating_same c.args.d c.requires c.in-Conservative.is)

pub returns-in-Easy : goal.returns-in-Easy
returns-in-Easy c =
    c.migrate.ensures ∙ sym (migrating_easy c.args.d c.in-Easy.is)
