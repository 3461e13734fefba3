-- What the change of kind by value gives, the call on the lent desk leaves (`HostMigrates`).
-- Assumes nothing.
use Rattle.std.specs.Prelude.{◌≡◌}
use Rattle.std.proofs.Common.{sym, subst}
use Rattle.scheduler.specs.Model.{store, view}
use Rattle.guarantees.specs.Migration.{changed_longest}
use Rattle.calls.specs.MigrateCall.{migrating, migrating_premise}
use Rattle.hingerota.specs.declared.Desk.{Desk}
use Rattle.hingerota.specs.Mirror.{read}
use Rattle.hingerota.specs.DeskPremise.{Handed}
use Rattle.hingerota.proofs.DeskPremise.{mirror_handed}
use Rattle.hingerota.specs.MigrateContract.{migrated_desk, HostMigrates}

migrated_handed : (d : Desk) → Handed d → Handed (migrated_desk d)
unfolding store view read
migrated_handed d h = mirror_handed (migrating (read d)) (changed_longest (view (read d))) (migrating_premise (read d) h.premise)

pub migrates_given : (d e : Desk) → Handed d → e ≡ migrated_desk d → HostMigrates d e
migrates_given d e h q = record { leaves = q; handed = subst Handed (sym q) (migrated_handed d h) }
