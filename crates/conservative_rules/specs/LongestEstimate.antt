-- How long may a job be and still start by a wanted minute? (Document 02, No. 9.) Only conservative backfilling answers this.
-- Assumes nothing.
use Rattle.std.specs.Prelude.{Bool, ◌&&◌, cond, ℕ, leb, ltb}
use Rattle.lists.specs.Greatest.{greatest}
use Rattle.scheduler.specs.declared.Inquiry.{Inquiry}
use Rattle.scheduler.specs.declared.Longest.{Longest}
use Rattle.scheduler.specs.declared.Refusal.{Refusal}
use Rattle.scheduler.specs.declared.Refusal.TheVariants as refusal
use Rattle.scheduler.specs.declared.Submission.{Submission}
use Rattle.scheduler.specs.Settings.{longest}
use Rattle.scheduler.specs.Model.{Model}
use Rattle.scheduler.specs.Answers.{Reply, accepts}
use Rattle.history.specs.Calls.{submit, order_of}
use Rattle.conservative_rules.specs.Conservative.{call}

-- a job with the nodes and the tenant that are asked for, and this estimate; what a submission of it would be answered now
abbrev pub asking : Inquiry → ℕ → Submission
asking q e = order_of q.tenant q.nodes e

abbrev pub reply_to : Model → Inquiry → ℕ → Reply
reply_to m q e = (call m (submit (asking q e))).reply

-- it would be taken, and promised "that minute or an earlier one"
unfoldable pub in_time : Model → Inquiry → ℕ → Bool
in_time m q e = accepts (reply_to m q e).refusal && leb (reply_to m q e).promise q.minute

-- "the largest estimate for which the Promise Desk would promise that minute or an earlier one, or say there is none", which is 0
unfoldable pub longest_for : Model → Inquiry → ℕ
longest_for m q = greatest (in_time m q) (longest m.settings)

-- "Conditions that would refuse an estimate of 1 refuse the question. Checks: 21, the wanted minute is before the clock, ahead of all others."
unfoldable pub inquiry_refusal : Model → Inquiry → Refusal
inquiry_refusal m q = cond (ltb q.minute m.clock) refusal.WantedMinutePast (reply_to m q 1).refusal

unfoldable pub longest_estimate : Model → Inquiry → Longest
longest_estimate m q = let r = inquiry_refusal m q in record { refusal = r; estimate = cond (accepts r) (longest_for m q) 0 }
