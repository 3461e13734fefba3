-- `easy_columns::admit` meets its contract: the job could end past the last minute, or it comes in and the columns are settled.
-- Assumes nothing.
use Prim.Native.Nat.{◌+◌, ◌*◌, ◌≤◌, ◌<◌}
use native.Mathlib.Omega.{arith}
use mathlib.Core.Path.{◌≡◌, refl}
use lib.ListN.{length}
use Rattle.lists.specs.Lists.{keep}
use Rattle.scheduler.specs.Limits.{slots}
use Rattle.scheduler.specs.Jobs.{is_waiting}
use Rattle.easy_laws.specs.Validity.{latest_end}
use Rattle.easy_columns.specs.Held.{AdmitsIn, unfinished_as}
use Rattle.easy_columns.specs.EasySubmit.{few_wait, latest_is, latest_low, settled_core, admit_refused, admit_room, admit_next, admitted, admit_before, admit_gives}
use Rattle.easy_columns.proofs.admit.Goals.{After-hold_time, After-unit, After-waiting-waits, Else-latest-gt-HORIZON, Start}
use Rattle.easy_columns.proofs.admit.Goals as goal

-- so many wait
module _ (c : After-waiting-waits) where
  abbrev s : Start
  s = c.before

  abbrev A : Type 0
  A = AdmitsIn s.args.columns.now s.args.queue.now s.args.occupancy.now s.args.started.now s.args.clock s.args.next s.args.settings s.args.s

  waits : (a : A) → c.waiting-waits.result ≡ length (keep is_waiting a.kept.model.jobs)
  waits a = c.waiting-waits.ensures a.kept.model.jobs a.kept.columns.core.states_are a.kept.columns.core.live_is

  few : c.waiting-waits.result ≤ slots
  few = few_wait s.requires.kept s.args.s c.waiting-waits.result (waits s.requires)

low : (c : After-unit)
    → let n = c.waiting-waits.result + 1 in
    (n * c.unit.result ≤ 657150) × (c.args.clock + n * c.unit.result ≤ 1657150)
low c =
    let l = latest_low (s c.before).requires.kept (s c.before).args.s c.waiting-waits.result (waits c.before (s c.before).requires) _ _ c.unit.ensures refl in
    (l.0, l.1)

-- the latest end
module _ (c : After-hold_time) where
  abbrev w : After-waiting-waits
  w = c.before.before

  pub latest : (a : A w)
      → (s w).args.clock + (w.waiting-waits.result + 1) * c.unit.result + c.hold_time.result ≡ latest_end a.kept.model (s w).args.s.estimate
  latest a = latest_is a.kept (s w).args.s w.waiting-waits.result (waits w a) _ _ c.unit.ensures c.hold_time.ensures

-- ## It comes in
-- room for it
room : (c : Else-latest-gt-HORIZON)
    → ((s (w c.before)).args.columns.now.live < slots) × ((s (w c.before)).args.next ≤ 999999)
room c =
    let a = (s (w c.before)).requires in
    ((admit_room a (w c.before).waiting-waits.result (waits (w c.before) a) _ (latest c.before a) c.if-latest-gt-HORIZON.false).0, admit_next a (w c.before).waiting-waits.result (waits (w c.before) a) _ (latest c.before a) c.if-latest-gt-HORIZON.false)

pub waiting-waits-requires : goal.waiting-waits-requires
waiting-waits-requires c = omega (arith, c.requires.kept.columns.core.live_is, c.requires.kept.valid.ready.sound.few)

pub overflow_cast-waits : goal.overflow_cast-waits
overflow_cast-waits c = omega (arith, few c)

pub overflow_add-latest : goal.overflow_add-latest
overflow_add-latest c = omega (arith, few c)

pub overflow_mul-latest : goal.overflow_mul-latest
overflow_mul-latest c = omega (arith, low c)

pub overflow_add-latest-2 : goal.overflow_add-latest-2
overflow_add-latest-2 c = omega (arith, low c)

pub overflow_add-latest-3 : goal.overflow_add-latest-3
overflow_add-latest-3 c =
    omega (
      arith,
      (latest_low (s (goal.at.overflow_add-latest-3 c).After-waiting-waits).requires.kept (s (goal.at.overflow_add-latest-3 c).After-waiting-waits).args.s c.waiting-waits.result (waits (goal.at.overflow_add-latest-3 c).After-waiting-waits (s (goal.at.overflow_add-latest-3 c).After-waiting-waits).requires) _ _ c.unit.ensures c.hold_time.ensures).2,
    )

pub returns-then-latest-gt-HORIZON : goal.returns-then-latest-gt-HORIZON
returns-then-latest-gt-HORIZON c =
    λ a ended e. rw c.refused.ensures (admit_refused a (w (goal.at.returns-then-latest-gt-HORIZON c).After-hold_time).waiting-waits.result (waits (w (goal.at.returns-then-latest-gt-HORIZON c).After-hold_time) a) _ (latest (goal.at.returns-then-latest-gt-HORIZON c).After-hold_time a) c.if-latest-gt-HORIZON.true e)

pub overflow_add-waits : goal.overflow_add-waits
overflow_add-waits c = omega (arith, few (w (goal.at.overflow_add-waits c).After-hold_time))

pub enter-requires : goal.enter-requires
enter-requires c =
    let a = (s (w (goal.at.enter-requires c).After-hold_time)).requires in
    admit_room a (w (goal.at.enter-requires c).After-hold_time).waiting-waits.result (waits (w (goal.at.enter-requires c).After-hold_time) a) _ (latest (goal.at.enter-requires c).After-hold_time a) c.if-latest-gt-HORIZON.false

pub overflow_add-next : goal.overflow_add-next
overflow_add-next c =
    omega (arith, room (goal.at.overflow_add-next c).Else-latest-gt-HORIZON)

pub finish-requires : goal.finish-requires
finish-requires c =
    let a = (s (w (goal.at.finish-requires c).After-hold_time)).requires in
    let q = rw c.enter.ensures.one_more at (c.enter.ensures.entered a.kept.model.jobs (settled_core a.kept) a.kept.columns.queue) in
    unfinished_as _ c.enter.ensures.one_more (admitted a (w (goal.at.finish-requires c).After-hold_time).waiting-waits.result (waits (w (goal.at.finish-requires c).After-hold_time) a) _ (latest (goal.at.finish-requires c).After-hold_time a) c.if-latest-gt-HORIZON.false q.0 q.1)

pub returns : goal.returns
returns c =
    λ a ended e.
    let q = rw c.enter.ensures.one_more at (c.enter.ensures.entered a.kept.model.jobs (settled_core a.kept) a.kept.columns.queue) in
    let l = c.if-latest-gt-HORIZON.false in
    rw (c.finish.ensures.retimed, c.finish.ensures.reasked) (admit_gives a (w (goal.at.returns c).After-hold_time).waiting-waits.result (waits (w (goal.at.returns c).After-hold_time) a) _ (latest (goal.at.returns c).After-hold_time a) l q.0 q.1 e
    (c.finish.ensures.finishes (unfinished_as _ c.enter.ensures.one_more (admitted a (w (goal.at.returns c).After-hold_time).waiting-waits.result (waits (w (goal.at.returns c).After-hold_time) a) _ (latest (goal.at.returns c).After-hold_time a) l q.0 q.1)) a.kept.model
    (admit_before a (w (goal.at.returns c).After-hold_time).waiting-waits.result (waits (w (goal.at.returns c).After-hold_time) a) _ (latest (goal.at.returns c).After-hold_time a) l q.0 q.1)))
