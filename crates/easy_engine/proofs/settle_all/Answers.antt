-- `easy_engine::settle_all` meets its contract: nothing happens, or the lists are settled and a new head is announced.
-- Assumes nothing.
use native.Mathlib.Omega.{arith}
use mathlib.Core.Path.{ap, ◌∙◌}
use Rattle.scheduler.specs.Model.{Model}
use Rattle.easy_rules.specs.Easy.{forecast}
use Rattle.easy_engine.specs.Survey.{announced}
use Rattle.easy_engine.specs.SurveyLoop.{starts_of, spare_free, waits_of, surveyed}
use Rattle.easy_engine.specs.WrittenStarts.{applies, tickets_still, rests_after}
use Rattle.easy_engine.specs.Announcement.{quiet_answers}
use Rattle.easy_engine.proofs.settle_all.Goals as goal

pub rests-requires : goal.rests-requires
rests-requires c =
    let u = c.requires in
    (waits_of u.scheduler u.ready u.passed).few

pub returns-then-rests : goal.returns-then-rests
returns-then-rests c =
    λ u. let d = u.scheduler in
    let h = u.ready in
    let v = u.passed in
    let q = waits_of d h v in
    quiet_answers d h (spare_free d h v) (c.rests.ensures _ q.asked_is v.tickets_are q.count_is c.if-rests.true) _ u.places

pub fill_ends-requires : goal.fill_ends-requires
fill_ends-requires c =
    let u = c.requires in
    starts_of u.scheduler u.ready u.passed

pub settle-s-requires : goal.settle-s-requires
settle-s-requires c =
    let u = c.requires in
    let d = u.scheduler in
    (surveyed d u.ready u.passed _ u.clock_is _ u.settings_is c.fill_ends.new.ends (c.fill_ends.ensures (starts_of d u.ready u.passed)), omega arith)

pub announce-new-requires : goal.announce-new-requires
announce-new-requires c =
    let u = c.requires in
    let d = u.scheduler in
    let h = u.ready in
    let v = u.passed in
    let p = c.settle-s.ensures (surveyed d h v _ u.clock_is _ u.settings_is c.fill_ends.new.ends (c.fill_ends.ensures (starts_of d h v))) in
    record { estimates = _; surveyed = p.after; tickets_are = tickets_still d h v p u.room; rests = rests_after d h v p u.room }

pub returns : goal.returns
returns c =
    λ u. let d = u.scheduler in
    let h = u.ready in
    let v = u.passed in
    let p = c.settle-s.ensures (surveyed d h v _ u.clock_is _ u.settings_is c.fill_ends.new.ends (c.fill_ends.ensures (starts_of d h v))) in
    record {
      applies = applies d h v p u.room;
      head_is_lem = λ m q.
          c.announce-new.ensures
          (record { estimates = _; surveyed = p.after; tickets_are = tickets_still d h v p u.room; rests = rests_after d h v p u.room }) m
          q
          ∙ ap (λ (x : Model). announced (forecast m x)) p.model_is;
    }
