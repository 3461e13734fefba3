-- `easy_engine::choose` meets its contract: nobody waits, the head fits, nobody fits, or the first that may pass.
-- Assumes nothing.
use Prim.Native.Nat.{ℕ, ◌+◌, ◌<◌}
use native.Mathlib.Omega.{arith}
use mathlib.Core.Path.{◌≡◌, ap}
use Rattle.job_columns.specs.Searches.{place_of}
use Rattle.lists.specs.Loops.{position}
use Rattle.scheduler.specs.Limits.{max_nodes}
use Rattle.scheduler.specs.Settings.{unit}
use Rattle.scheduler.specs.Times.{unit_le}
use Rattle.easy_engine.specs.Survey.{asks_to}
use Rattle.easy_engine.specs.Choices.{by_no_fit, by_no_head, by_head, head_lacks, extra_low, room_low, by_pass}
use Rattle.easy_engine.specs.Found.{found, within, nowhere, chosen_by, none_chosen}
use Rattle.easy_engine.proofs.choose.Goals.{In_ok-h, After-unit}
use Rattle.easy_engine.proofs.choose.Goals as goal

-- where the head is
head_at : (c : In_ok-h) → let s = c.requires in
    (c.in_ok-h.h ≡ place_of (position (asks_to max_nodes) s.asking) c.args.waiting) × (c.in_ok-h.h < c.args.waiting)
head_at c =
    let s = c.requires in
    let n = s.waits.count_is in
    let e = c.first_within.ensures.place s.asking s.waits.asked_is n in
    (found (asks_to max_nodes) s.asking n _ e _ c.in_ok-h.was, within (asks_to max_nodes) s.asking n _ e _ c.in_ok-h.was)

-- one unit from now
latest : (c : After-unit) → let a = c.args in a.clock + c.unit.result ≡ a.clock + unit a.settings
latest c = ap (λ (n : ℕ). c.args.clock + n) c.unit.ensures

pub returns-in_err-h : goal.returns-in_err-h
returns-in_err-h c = λ s.
    let n = s.waits.count_is in
    let z = nowhere (asks_to max_nodes) s.asking n _ (c.first_within.ensures.place s.asking s.waits.asked_is n) c.in_err-h.was in
    rw c.from_residual.ensures (none_chosen s.asking n _ (by_no_head s c.args.waiting z (omega arith)))

pub offset_bounds-asked-h : goal.offset_bounds-asked-h
offset_bounds-asked-h c = let h = head_at (goal.at.offset_bounds-asked-h c).In_ok-h in omega (arith, h.1, c.requires.waits.few)

pub bounds-asked-h : goal.bounds-asked-h
bounds-asked-h c = let h = head_at (goal.at.bounds-asked-h c).In_ok-h in omega (arith, h.1, c.requires.waits.few)

pub returns-then-need-spare : goal.returns-then-need-spare
returns-then-need-spare c = λ s.
    let n = s.waits.count_is in
    let e = c.first_within.ensures.place s.asking s.waits.asked_is n in
    let l = within (asks_to max_nodes) s.asking n _ e _ c.in_ok-h.was in
    (l, by_head s c.in_ok-h.h (found (asks_to max_nodes) s.asking n _ e _ c.in_ok-h.was) l c.if-need-spare.true)

pub returns-in_err-fit : goal.returns-in_err-fit
returns-in_err-fit c = λ s.
    let n = s.waits.count_is in
    let z = nowhere (asks_to c.args.spare) s.asking n _ (c.first_within-2.ensures.place s.asking s.waits.asked_is n) c.in_err-fit.was in
    rw c.from_residual-in_err-fit.ensures (none_chosen s.asking n _ (by_no_fit s c.args.waiting z (omega arith)))

pub overflow_add-latest : goal.overflow_add-latest
overflow_add-latest c =
    omega (arith, c.requires.ready.sound.clock_to, c.requires.clock_is, c.unit.ensures, unit_le c.args.settings)

pub shadow-minute-requires : goal.shadow-minute-requires
shadow-minute-requires c =
    let p = c.requires in
    let h = head_at (goal.at.shadow-minute-requires c).In_ok-h in
    head_lacks p c.in_ok-h.h h.0 h.1 c.if-need-spare.false _ (latest (goal.at.shadow-minute-requires c).After-unit)

pub avail_at-requires : goal.avail_at-requires
avail_at-requires c =
    let p = c.requires in
    record { model = p.model; jobs = p.jobs; holding = p.holding }

pub overflow_sub-extra : goal.overflow_sub-extra
overflow_sub-extra c =
    let p = c.requires in
    let h = head_at (goal.at.overflow_sub-extra c).In_ok-h in
    let i = c.in_ok-h.h in
    let f = c.if-need-spare.false in
    let k = head_lacks p i h.0 h.1 f _ (latest (goal.at.overflow_sub-extra c).After-unit) in
    extra_low p i h.0 h.1 f c.shadow-minute.result c.avail_at.result (c.shadow-minute.ensures k) (c.avail_at.ensures k.of)

pub overflow_sub-room : goal.overflow_sub-room
overflow_sub-room c =
    let p = c.requires in
    let h = head_at (goal.at.overflow_sub-room c).In_ok-h in
    let i = c.in_ok-h.h in
    let f = c.if-need-spare.false in
    let k = head_lacks p i h.0 h.1 f _ (latest (goal.at.overflow_sub-room c).After-unit) in
    room_low p i h.0 h.1 f c.shadow-minute.result c.avail_at.result (c.shadow-minute.ensures k) (c.avail_at.ensures k.of)

pub returns : goal.returns
returns c = λ s.
    let n = s.waits.count_is in
    let i = c.in_ok-h.h in
    let e = c.first_within.ensures.place s.asking s.waits.asked_is n in
    let h = found (asks_to max_nodes) s.asking n _ e i c.in_ok-h.was in
    let l = within (asks_to max_nodes) s.asking n _ e i c.in_ok-h.was in
    let f = c.if-need-spare.false in
    let k = head_lacks s i h l f _ (latest (goal.at.returns c).After-unit) in
    let fit = found (asks_to c.args.spare) s.asking n _ (c.first_within-2.ensures.place s.asking s.waits.asked_is n) _ c.in_ok-fit.was in
    chosen_by _ s.asking n c.forward.result (c.forward.ensures s.asking s.waits.asked_is s.waits.estimates_is n fit) _
    (λ r re. by_pass s i h l f c.shadow-minute.result c.avail_at.result (c.shadow-minute.ensures k) (c.avail_at.ensures k.of) r re)
