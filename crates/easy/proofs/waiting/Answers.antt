-- `easy::waiting` meets its contract.
-- Assumes nothing.
use Rattle.std.proofs.Common.{rules, ◌≡◌, count_by}
use Rattle.lists.specs.Chains.{count_keep}
use Rattle.scheduler.specs.Jobs.{is_waiting}
use Rattle.easy.proofs.waiting.Goals as goal

pub returns : goal.returns
returns c =
    let e : c.count.result ≡ count_by is_waiting c.args.jobs.now = search rules in
    rw e (count_keep is_waiting c.args.jobs.now)
