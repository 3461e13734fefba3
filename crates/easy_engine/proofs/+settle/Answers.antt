-- `easy_engine::settle` meets its contract, and ends: one job more runs at each call.
-- Assumes nothing.
use Prim.Native.Nat.{ℕ, ◌<◌}
use native.Mathlib.Omega.{arith}
use mathlib.Core.Path.{◌≡◌}
use Rattle.easy_rules.specs.Easy.{choice}
use Rattle.easy_engine.specs.Survey.{job_in}
use Rattle.easy_engine.specs.Starts.{rests, start_room, start_fits, next, goes}
use Rattle.easy_engine.specs.Found.{none_is}
use Rattle.easy_engine.proofs.+settle.Goals.{In-Some}
use Rattle.easy_engine.proofs.+settle.Goals as goal

-- the job that starts is the one chosen
starts : (t : ℕ) (c : In-Some t) → let s = c.requires.0 in (c.in-Some.i < c.args.waiting) × (job_in s.asking c.in-Some.i ≡ choice s.model)
starts t c = rw c.in-Some.is at c.choose.ensures c.requires.0

pub returns-in_default : goal.returns-in_default
returns-in_default t c = λ s.
    rests s c.args.waiting c.args.order.now c.args.count (omega arith) (none_is s.asking s.waits.count_is _ (rw c.in_default.is at c.choose.ensures s))

pub start-n-requires : goal.start-n-requires
start-n-requires t c =
    let p = c.requires in
    let e = starts t (goal.at.start-n-requires t c).In-Some in
    let r = start_room p.0 c.in-Some.i e.0 e.1 in
    (r.0, omega (arith, p.1, r.0), r.1, r.2)

pub overflow_add-running : goal.overflow_add-running
overflow_add-running t c =
    let e = starts t (goal.at.overflow_add-running t c).In-Some in
    omega (arith, (start_room c.requires.0 c.in-Some.i e.0 e.1).0)

pub overflow_add-count : goal.overflow_add-count
overflow_add-count t c =
    let e = starts t (goal.at.overflow_add-count t c).In-Some in
    omega (arith, c.requires.1, (start_room c.requires.0 c.in-Some.i e.0 e.1).0)

pub overflow_sub-spare : goal.overflow_sub-spare
overflow_sub-spare t c =
    let e = starts t (goal.at.overflow_sub-spare t c).In-Some in
    omega (arith, start_fits c.requires.0 c.in-Some.i e.0 e.1, c.start-n.ensures.nodes_is)

pub settle-requires : goal.settle-requires
settle-requires t c =
    let p = c.requires in
    let i = c.in-Some.i in
    let e = starts t (goal.at.settle-requires t c).In-Some in
    let r = start_room p.0 i e.0 e.1 in
    (omega (arith, r.0, c.decreases), (next p.0 i e.0 e.1 c.start-n.ensures, omega (arith, p.1)))

pub returns : goal.returns
returns t c =
    let i = c.in-Some.i in
    let g = c.start-n.ensures in
    λ s. let e : (i < c.args.waiting) × (job_in s.asking i ≡ choice s.model) = rw c.in-Some.is at c.choose.ensures s in
    goes s i e.0 e.1 g (c.settle.ensures (next s i e.0 e.1 g))
