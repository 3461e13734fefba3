-- `easy_columns::submit` meets its contract: the tests of both kinds refuse it, or it is admitted.
-- Assumes nothing.
use native.Mathlib.Omega.{arith}
use mathlib.Core.Path.{◌≡◌, sym, ◌∙◌}
use Rattle.job_table.specs.Parts.{shared_refusal}
use Rattle.easy_columns.specs.Held.{KeptIn}
use Rattle.easy_columns.specs.EasySubmit.{shared_judged, submit_refused, submit_admits}
use Rattle.easy_columns.proofs.submit.Goals.{After-submit_refusal-why, Start}
use Rattle.easy_columns.proofs.submit.Goals as goal

module _ (c : After-submit_refusal-why) where
  abbrev s : Start
  s = c.before.before.before

  abbrev K : Type 0
  K = KeptIn s.args.columns.now s.args.queue.now s.args.occupancy.now s.args.clock s.args.next s.args.settings

  judged : (k : K) → c.submit_refusal-why.result ≡ shared_refusal k.model s.args.s
  judged k =
      shared_judged k s.args.s c.live_of-mine.result
      (rw c.quota.ensures at (c.live_of-mine.ensures k.model.jobs k.columns.core.tenants_are k.columns.core.live_is))
      c.submit_refusal-why.result c.submit_refusal-why.ensures

pub live_of-mine-requires : goal.live_of-mine-requires
live_of-mine-requires c =
    let p = c.requires.0 in
    omega (arith, p.columns.core.live_is, p.valid.ready.sound.few)

pub admit-requires : goal.admit-requires
admit-requires c =
    let p = (s (goal.at.admit-requires c).After-submit_refusal-why).requires in
    submit_admits p.0 (s (goal.at.admit-requires c).After-submit_refusal-why).args.s p.1 _ (judged (goal.at.admit-requires c).After-submit_refusal-why p.0) (sym c.is_none.ensures ∙ c.if-is_none.true)

pub returns-then-is_none : goal.returns-then-is_none
returns-then-is_none c =
    λ k ended e.
    c.admit.ensures (submit_admits k (s (goal.at.returns-then-is_none c).After-submit_refusal-why).args.s (s (goal.at.returns-then-is_none c).After-submit_refusal-why).requires.1 _ (judged (goal.at.returns-then-is_none c).After-submit_refusal-why k) (sym c.is_none.ensures ∙ c.if-is_none.true)) ended e

pub returns : goal.returns
returns c =
    λ k ended e.
    rw c.refused.ensures (submit_refused k (s (goal.at.returns c).After-submit_refusal-why).args.s (s (goal.at.returns c).After-submit_refusal-why).requires.1 _ (judged (goal.at.returns c).After-submit_refusal-why k) (sym c.is_none.ensures ∙ c.if-is_none.false) e)
