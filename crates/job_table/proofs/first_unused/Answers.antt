use borrow.Author.Rules.{rules}
use Rattle.std.proofs.lemmas.List.Sorted.{IsPartitionPoint-from_clause}
use Rattle.scheduler.specs.Jobs.{is_live_of}
use Rattle.job_table.proofs.Live.{live_first, live_end}
use Rattle.job_table.proofs.first_unused.Goals as goal

pub returns : goal.returns
returns c =
    let d = c.args.d in
    let clause = c.partition_point.ensures.partitioned in
    live_end d c.requires _ (IsPartitionPoint-from_clause is_live_of d.jobs _ clause (live_first d c.requires) (λ a b f k. search rules))
