-- `conservative_columns::submit` meets its contract: refused by the tests that both kinds share, past the last minute, or taken in.
-- Assumes nothing.
use mathlib.Core.Path.{◌≡◌, sym, ap, ◌∙◌}
use mathlib.Core.Bool.{true, false}
use native.Mathlib.Omega.{arith}
use Rattle.scheduler.specs.declared.Settings.{Settings}
use Rattle.scheduler.specs.Settings.{hold_time}
use Rattle.scheduler.specs.Times.{hold_le}
use Rattle.scheduler.specs.Answers.{accepts, refuse}
use Rattle.job_table.specs.Parts.{shared_refusal}
use Rattle.conservative_rules.specs.Conservative.{planned}
use Rattle.conservative.specs.Submit.{submit_checked, submit_past, planned_within}
use Rattle.conservative_columns.specs.Held.{KeptIn, AdmitsIn}
use Rattle.conservative_columns.specs.ConservativeColumns.{few_live, refused_answer_lem}
use Rattle.conservative_columns.specs.Submit.{judged, sought_from, sought_start}
use Rattle.conservative_columns.proofs.submit.Goals.{After-hold_time-hold, After-search-found, After-submit_refusal-why, Else-not-is_none, Else-start-hold-gt-HORIZON}
use Rattle.conservative_columns.proofs.submit.Goals as goal

-- the tests that both kinds share
why-is : (c : After-submit_refusal-why) (k : let a = c.args in KeptIn a.settings a.clock a.next a.columns.now a.promised.now a.profile.now) → c.submit_refusal-why.result ≡ shared_refusal k.model c.args.s
why-is c k =
    c.submit_refusal-why.ensures
    ∙ judged k c.args.s c.quota.result c.live_of-own.result c.quota.ensures
    (c.live_of-own.ensures k.model.jobs k.columns.core.tenants_are k.columns.core.live_is)

passed : (c : Else-not-is_none) (k : let a = c.args in KeptIn a.settings a.clock a.next a.columns.now a.promised.now a.profile.now) → accepts (shared_refusal k.model c.args.s) ≡ true
passed c k =
    ap accepts (sym (why-is c.before.before k)) ∙ sym c.is_none.ensures ∙ c.if-not-is_none.false

hold_is : (c : After-hold_time-hold) (k : let a = c.args in KeptIn a.settings a.clock a.next a.columns.now a.promised.now a.profile.now) → c.hold_time-hold.result ≡ hold_time k.model.settings c.args.s.estimate
hold_is c k = c.hold_time-hold.ensures ∙ ap (λ (S : Settings). hold_time S c.args.s.estimate) k.settings_is

start_is : (c : After-search-found) (k : let a = c.args in KeptIn a.settings a.clock a.next a.columns.now a.promised.now a.profile.now) → accepts (shared_refusal k.model c.args.s) ≡ true
    → c.hold_time-hold.result ≡ hold_time k.model.settings c.args.s.estimate → c.search-found.result.minute ≡ planned k.model c.args.s
start_is c k p h = sought_start k c.args.s p c.hold_time-hold.result h c.search-found.ensures

-- it is taken in
admits : (c : Else-start-hold-gt-HORIZON) (k : let a = c.args in KeptIn a.settings a.clock a.next a.columns.now a.promised.now a.profile.now) → accepts (shared_refusal k.model c.args.s) ≡ true
    → c.hold_time-hold.result ≡ hold_time k.model.settings c.args.s.estimate
    → let a = c.args in
    AdmitsIn a.settings a.clock a.next a.columns.now a.promised.now a.profile.now a.s c.search-found.result.minute c.hold_time-hold.result
admits c k p h = record { kept = k; shared = p; start_is = start_is c.before k p h; hold_is = h; within = c.if-start-hold-gt-HORIZON.false }

-- a test refuses it
pub returns-then-not-is_none : goal.returns-then-not-is_none
returns-then-not-is_none c =
    λ k ended whole.
    let no : accepts (shared_refusal k.model c.args.s) ≡ false =
    ap accepts (sym (why-is (goal.at.returns-then-not-is_none c).After-submit_refusal-why k)) ∙ sym c.is_none.ensures ∙ c.if-not-is_none.true in
    rw c.refused.ensures
    (refused_answer_lem k _ _ ended c.args.started.now whole c.requires.1
    (submit_checked k.model c.args.s k.valid.sound no ∙ ap (refuse k.model) (sym (why-is (goal.at.returns-then-not-is_none c).After-submit_refusal-why k))))

pub search-found-requires : goal.search-found-requires
search-found-requires c =
    let k = c.requires.0 in
    let at = goal.at.search-found-requires c in
    sought_from k c.args.s (passed at.Else-not-is_none k) c.hold_time-hold.result (hold_is at.After-hold_time-hold k)

pub overflow_add-start : goal.overflow_add-start
overflow_add-start c =
    let k = c.requires.0 in
    let at = goal.at.overflow_add-start c in
    let h = hold_is at.After-hold_time-hold k in
    omega (
      arith,
      start_is at.After-search-found k (passed at.Else-not-is_none k) h,
      h,
      planned_within k.model c.args.s k.valid.sound,
      hold_le k.model.settings c.args.s.estimate,
    )

-- it would end past the last minute
pub returns-then-start-hold-gt-HORIZON : goal.returns-then-start-hold-gt-HORIZON
returns-then-start-hold-gt-HORIZON c =
    let at = goal.at.returns-then-start-hold-gt-HORIZON c in
    λ k ended whole.
    let p = passed at.Else-not-is_none k in
    let h = hold_is at.After-hold_time-hold k in
    rw c.refused-then-start-hold-gt-HORIZON.ensures
    (refused_answer_lem k _ _ ended c.args.started.now whole c.requires.1
    (submit_past k.model c.args.s k.valid.sound p (omega (arith, start_is at.After-search-found k p h, h, c.if-start-hold-gt-HORIZON.true))))

pub admit-requires : goal.admit-requires
admit-requires c =
    let k = c.requires.0 in
    let at = goal.at.admit-requires c in
    (admits at.Else-start-hold-gt-HORIZON k (passed at.Else-not-is_none k) (hold_is at.After-hold_time-hold k), c.requires.1)

pub returns : goal.returns
unfolding admits
returns c =
    let at = goal.at.returns c in
    λ k. c.admit.ensures (admits at.Else-start-hold-gt-HORIZON k (passed at.Else-not-is_none k) (hold_is at.After-hold_time-hold k))

pub live_of-own-requires : goal.live_of-own-requires
live_of-own-requires c = few_live c.requires.0
