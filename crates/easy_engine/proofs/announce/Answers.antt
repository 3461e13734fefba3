-- `easy_engine::announce` meets its contract: nobody waits, the head is that of before, or it is another.
-- Assumes nothing.
use Prim.Native.Nat.{ℕ, ◌+◌}
use native.Mathlib.Omega.{arith}
use mathlib.Core.Path.{◌≡◌, sym, ap, ◌∙◌}
use lib.ListN.{get_or}
use Rattle.scheduler.specs.Jobs.{unused}
use Rattle.scheduler.specs.Settings.{unit}
use Rattle.scheduler.specs.Times.{unit_le}
use Rattle.scheduler.specs.Table.{ticket_of}
use Rattle.job_columns.specs.Columns.{column_at}
use Rattle.easy_engine.specs.Choices.{nobody_waits, low, need_is, the_head, head_ticket_lem, head_rests, head_lacks}
use Rattle.easy_rules.specs.Easy.{shadow}
use Rattle.scheduler.specs.Limits.{max_nodes}
use Rattle.easy_engine.specs.Survey.{asks_to, announced}
use Rattle.easy_engine.specs.Found.{found, within, nowhere}
use Rattle.easy_engine.specs.Announcement.{forecast_none, forecast_same, forecast_new}
use Rattle.easy_engine.proofs.announce.Goals.{After-unit}
use Rattle.easy_engine.proofs.announce.Goals as goal

-- one unit from now
latest : (c : After-unit) → let a = c.args in a.clock + c.unit.result ≡ a.clock + unit a.settings
latest c = ap (λ (n : ℕ). c.args.clock + n) c.unit.ensures

pub returns-in_default : goal.returns-in_default
returns-in_default c = λ a m q.
    let s = a.surveyed in
    let n = s.waits.count_is in
    let z = nowhere (asks_to max_nodes) s.asking n _ (c.first_within.ensures.place s.asking s.waits.asked_is n) c.in_default.is in
    sym (ap announced (forecast_none m s.model (nobody_waits s c.args.waiting z (omega arith))))

pub returns-then-before-ticket : goal.returns-then-before-ticket
returns-then-before-ticket c =
    let i = c.in-Some.h in
    λ a m q.
    let s = a.surveyed in
    let n = s.waits.count_is in
    let k = c.first_within.ensures.place s.asking s.waits.asked_is n in
    let e = found (asks_to max_nodes) s.asking n _ k i c.in-Some.is in
    let l = within (asks_to max_nodes) s.asking n _ k i c.in-Some.is in
    let t = column_at ticket_of s.asking c.args.tickets.now a.tickets_are unused i (low s i e l) in
    sym (ap announced (forecast_same m s.model (get_or s.asking i unused) (the_head s i e l) (head_ticket_lem s i e l) (sym q ∙ c.if-before-ticket.true ∙ t)))

pub overflow_add-latest : goal.overflow_add-latest
overflow_add-latest c =
    let s = c.requires.surveyed in
    omega (arith, s.clock_is, s.ready.sound.clock_to, c.unit.ensures, unit_le c.args.settings)

pub shadow-minute-requires : goal.shadow-minute-requires
shadow-minute-requires c =
    let i = c.in-Some.h in
    let a = c.requires in
    let s = a.surveyed in
    let n = s.waits.count_is in
    let k = c.first_within.ensures.place s.asking s.waits.asked_is n in
    let e = found (asks_to max_nodes) s.asking n _ k i c.in-Some.is in
    let l = within (asks_to max_nodes) s.asking n _ k i c.in-Some.is in
    head_lacks s i e l (head_rests s i e l a.rests) _ (latest (goal.at.shadow-minute-requires c).After-unit)

pub returns : goal.returns
returns c =
    let i = c.in-Some.h in
    λ a m q.
    let s = a.surveyed in
    let n = s.waits.count_is in
    let k = c.first_within.ensures.place s.asking s.waits.asked_is n in
    let e = found (asks_to max_nodes) s.asking n _ k i c.in-Some.is in
    let l = within (asks_to max_nodes) s.asking n _ k i c.in-Some.is in
    let t = column_at ticket_of s.asking c.args.tickets.now a.tickets_are unused i (low s i e l) in
    let h = get_or s.asking i unused in
    let x = head_lacks s i e l (head_rests s i e l a.rests) _ (latest (goal.at.returns c).After-unit) in
    let m-is : c.shadow-minute.result ≡ shadow s.model h.nodes = c.shadow-minute.ensures x ∙ ap (shadow s.model) (need_is s i e l) in
    rw (t, m-is) (sym (ap announced (forecast_new m s.model h (the_head s i e l) (head_ticket_lem s i e l) (λ z. c.if-before-ticket.false (q ∙ z ∙ sym t)))))
