-- What becomes of a corrected order (document 02, No. 13), and what one in place does on the table. It is the same for both kinds.
-- Assumes nothing.
use Rattle.std.specs.Prelude.{ℕ, cond, [], ◌∷◌, ltb}
use Rattle.std.proofs.Math.Option.{Option, none, some}
use Rattle.scheduler.specs.declared.Job.{Job}
use Rattle.scheduler.specs.declared.Settings.{Settings}
use Rattle.scheduler.specs.declared.Amendment.{Amendment}
use Rattle.scheduler.specs.declared.Refusal.{Refusal}
use Rattle.scheduler.specs.declared.Refusal.TheVariants as refusal
use Rattle.scheduler.specs.Limits.{slots, outside}
use Rattle.scheduler.specs.Settings.{longest}
use Rattle.scheduler.specs.Model.{Model}
use Rattle.scheduler.specs.Answers.{verdict, accepts}
use Rattle.scheduler.specs.Amending.{named, amend_refusal, grows, in_place_refusal, in_place_of, order_for}
use Rattle.job_table.specs.Parts.{Own, coming, judged_own}
use Rattle.amending.specs.declared.Way.{Way}
use Rattle.amending.specs.declared.Way.TheVariants as way

-- by the job that it names: "If neither nodes nor held time grow, it supersedes that record in place .. If either grows, the old ticket is
-- withdrawn and the order is taken in last"
abbrev pub way_for : Settings → Amendment → Option Job → Way
way_for S a none = way.Refused refusal.NotWaiting
way_for S a (some j) = cond (grows S a j) (way.Anew (order_for a j)) way.InPlace

unfoldable pub way_of : Model → Amendment → Way
way_of m a = cond (accepts (amend_refusal m a)) (way_for m.settings a (named m a)) (way.Refused (amend_refusal m a))

-- in place, before anybody moves; a refused one changes nothing
abbrev pub superseding : Model → Amendment → Own
superseding m a = judged_own m (in_place_refusal m a) (coming 0 (in_place_of m a))

-- ## By the slot of the job that it names

-- the one after the last if there is none
abbrev pub slot_of : Option ℕ → ℕ
slot_of none = slots
slot_of (some i) = i

-- "then 1, 2 and 19"
unfoldable pub range_refusal : Settings → Amendment → Refusal
range_refusal S a =
    verdict
    ((outside 1 S.nodes a.nodes, refusal.NodesOutOfRange)
    ∷ (outside 1 (longest S) a.estimate, refusal.MinutesOutOfRange)
    ∷ (ltb a.estimate a.least, refusal.LeastAboveMost)
    ∷ [])

abbrev pub way_by : Settings → Amendment → Job → Way
way_by S a j = cond (accepts (range_refusal S a)) (way_for S a (some j)) (way.Refused (range_refusal S a))

abbrev pub in_place_by : Settings → Amendment → Job → Refusal
in_place_by S a j = cond (grows S a j) refusal.NotWaiting (range_refusal S a)
