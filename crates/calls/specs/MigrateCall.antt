-- What the change from EASY to conservative backfilling hands back. Document 02, No. 12: "Show that no planned hold passes the last minute, so the
-- change always goes through." It has no answer: it is never refused, and nobody starts by it (`nobody_starts` in
-- `migration_laws/specs/Migrated.antt`). The promises stand in the records.
-- Assumes nothing.
use Rattle.std.specs.Prelude.{◌≡◌}
use Rattle.std.proofs.Common.{sym, ap, ◌∙◌}
use Rattle.scheduler.specs.declared.Kind.{Kind}
use Rattle.scheduler.specs.declared.Kind.TheVariants.{Conservative, Easy}
use Rattle.scheduler.specs.declared.Scheduler.{Scheduler}
use Rattle.scheduler.specs.Model.{store, view}
use Rattle.migration_rules.specs.Migration.{migrated, changed_by, changed}
use Rattle.guarantees.specs.Premise.{Premise, stored_premise}
use Rattle.guarantees.specs.Proof.{change_valid}

abbrev pub migrating : Scheduler → Scheduler
migrating d = store (changed (view d))

-- the new scheduler may be called
pub migrating_premise : (d : Scheduler) → Premise d → Premise (migrating d)
migrating_premise d h = stored_premise (changed (view d)) (change_valid (view d) h.holds)

-- of a scheduler of a kind
changed_of : (d : Scheduler) (k : Kind) → d.settings.kind ≡ k → changed (view d) ≡ changed_by k (view d)
unfolding view
changed_of d k e = ap (λ (x : Kind). changed_by x (view d)) e

-- a conservative one is handed back as it is
pub migrating_same : (d : Scheduler) → Premise d → d.settings.kind ≡ Conservative → migrating d ≡ d
migrating_same d h e = ap store (changed_of d Conservative e) ∙ sym h.stored

pub migrating_easy : (d : Scheduler) → d.settings.kind ≡ Easy → migrating d ≡ store (migrated (view d))
migrating_easy d e = ap store (changed_of d Easy e)
