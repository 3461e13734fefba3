-- What the question for a longest estimate gives, by the kind of the scheduler. Document 02, No. 9, asks it of the Promise Desk: a Loose Desk
-- plans no starts, and has nothing to answer.
-- Assumes nothing.
use Rattle.std.specs.Prelude.{◌≡◌}
use Rattle.scheduler.specs.declared.Inquiry.{Inquiry}
use Rattle.scheduler.specs.declared.Kind.{Kind}
use Rattle.scheduler.specs.declared.Kind.TheVariants.{Conservative, Easy}
use Rattle.scheduler.specs.declared.Longest.{Longest}
use Rattle.scheduler.specs.declared.Refusal.TheVariants as refusal
use Rattle.scheduler.specs.declared.Scheduler.{Scheduler}
use Rattle.scheduler.specs.Model.{Model, view}
use Rattle.conservative_rules.specs.LongestEstimate.{longest_estimate}

abbrev pub longest_by : Kind → Model → Inquiry → Longest
longest_by Conservative m q = longest_estimate m q
longest_by Easy m q = record { refusal = refusal.None; estimate = 0 }

abbrev pub longest_of : Model → Inquiry → Longest
longest_of m q = longest_by m.settings.kind m q

-- of a scheduler of a kind
pub longest_of_lem : (d : Scheduler) (q : Inquiry) (k : Kind) → d.settings.kind ≡ k → longest_of (view d) q ≡ longest_by k (view d) q
unfolding view
longest_of_lem d q k e = rw e
