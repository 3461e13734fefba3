-- `record_acceptance::live_of` meets its contract: live slots of the tenant's are counted.
-- Assumes nothing.
use mathlib.Core.Path.{◌≡◌, sym, ◌∙◌}
use mathlib.Core.Bool.{◌&&◌}
use borrow.Author.Rules.{rules}
use Rattle.std.specs.List.{count_by}
use Rattle.lists.specs.Lists.{count_kept, length_keep}
use Rattle.lists.specs.Chains.{count_keep}
use Rattle.scheduler.proofs.Equality.{tenants_same}
use Rattle.scheduler.specs.declared.Job.{Job}
use Rattle.scheduler.specs.Jobs.{is_live_of}
use Rattle.scheduler.specs.Table.{of_tenant}
use Rattle.record_acceptance.proofs.live_of.Goals as goal

pub returns : goal.returns
returns c =
    let js = c.args.jobs.now in
    let p = of_tenant c.args.tenant in
    let both = λ (j : Job). is_live_of j && p j in
    let n : c.count.result ≡ count_by both js = search (rules, tenants_same) in
    n ∙ count_keep both js ∙ length_keep both js ∙ sym (count_kept is_live_of p js)
