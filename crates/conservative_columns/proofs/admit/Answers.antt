-- `conservative_columns::admit` meets its contract: the job's span is taken in, and the job stands last in every column.
-- Assumes nothing.
use Prim.Native.Nat.{◌<◌}
use mathlib.Core.Path.{◌≡◌, ap, ◌∙◌}
use native.Mathlib.Omega.{arith}
use Rattle.scheduler.specs.declared.State.{State}
use Rattle.scheduler.specs.Limits.{slots}
use Rattle.scheduler.specs.Jobs.{fresh}
use Rattle.conservative_columns.specs.Submit.{arriving, admit_room, admit_lays, admit_order, admit_ticket, admit_low, core_by_settings, admitted}
use Rattle.conservative_columns.proofs.admit.Goals.{After-append, After-fresh-job}
use Rattle.conservative_columns.proofs.admit.Goals as goal

-- the job that stands last
job_is : (c : After-fresh-job) → c.fresh-job.result ≡ arriving c.requires.0
job_is c =
    c.fresh-job.ensures ∙ ap (λ (x : State). fresh c.args.next c.args.s x c.args.start c.args.start) c.state_at-state.ensures

room : (c : After-append) → c.args.columns.now.live < slots
room c = admit_room c.requires.0

pub take_in-profile-requires : goal.take_in-profile-requires
take_in-profile-requires c = let q = c.requires.0 in (admit_lays q, q.kept.columns.beside.indexed)

pub fresh-job-requires : goal.fresh-job-requires
fresh-job-requires c = admit_order c.requires.0

pub append-requires : goal.append-requires
append-requires c =
    let q = c.requires.0 in
    (admit_room q, rw (job_is (goal.at.append-requires c).After-fresh-job) (admit_low q))

pub returns : goal.returns
returns c =
    λ q ended whole.
    rw c.append.ensures.one_more (admitted q (rw (job_is (goal.at.returns c).After-fresh-job, c.append.ensures.one_more) at (c.append.ensures.appended _ (core_by_settings q))) c.take_in-profile.ensures ended whole c.list_if_now.ensures)

pub overflow_add-x : goal.overflow_add-x
overflow_add-x c = omega (arith, c.requires.0.within)

pub offset_bounds-promised-at : goal.offset_bounds-promised-at
offset_bounds-promised-at c = omega (arith, room c)

pub bounds-promised-at : goal.bounds-promised-at
bounds-promised-at c = room (goal.at.bounds-promised-at c).After-append

pub offset_bounds-promised-at-2 : goal.offset_bounds-promised-at-2
offset_bounds-promised-at-2 c = omega (arith, room (goal.at.offset_bounds-promised-at-2 c).After-append)

pub bounds-promised-at-2 : goal.bounds-promised-at-2
bounds-promised-at-2 c = room (goal.at.bounds-promised-at-2 c).After-append

pub overflow_add-result : goal.overflow_add-result
overflow_add-result c = omega (arith, admit_ticket c.requires.0)
