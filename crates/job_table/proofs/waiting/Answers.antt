use Rattle.std.proofs.Common.{rules, ◌≡◌, take, count_by}
use Rattle.lists.specs.Chains.{count_keep}
use Rattle.scheduler.specs.Jobs.{is_waiting}
use Rattle.jobs.specs.Slots.{first_live}
use Rattle.job_table.proofs.waiting.Goals as goal

pub returns : goal.returns
returns c =
    let d = c.args.d in
    let e : c.count.result ≡ count_by is_waiting (take c.first_unused-live.result d.jobs) = search rules in
    rw (e, count_keep is_waiting (take c.first_unused-live.result d.jobs), c.first_unused-live.ensures, first_live d c.requires)
