-- On the Loose Desk the bound of a waiting job, by the calls and their answers, is the one that its record keeps: intake minute + r × (10,080 +
-- cleanup). This holds from every start, an opening or a reading, and after every list of calls. So whoever writes a scheduler out and reads it
-- back goes on with the bounds that were given before.
-- Assumes nothing.
use Rattle.std.specs.Prelude.{◌≡◌, List}
use Rattle.std.proofs.Common.{sym, subst}
use Rattle.scheduler.specs.declared.Kind.{Kind}
use Rattle.scheduler.specs.declared.Kind.TheVariants.{Easy}
use Rattle.scheduler.specs.Model.{Model}
use Rattle.history.specs.Calls.{Call, Event, after, events}
use Rattle.history_proof.specs.RecordedBounds as proof
use Rattle.history_proof.specs.RecordedBounds.{AsRecorded}
use Rattle.easy_rules.specs.Easy as easy-rules
use Rattle.easy_laws.specs.Validity as easy
use Rattle.easy_laws.specs.Obligations.{easy_lawful, easy_seeded}
use Rattle.easy_laws.specs.Withdrawal.{easy_ticketed}
use Rattle.easy_laws.specs.KeptRecords.{easy_recorded}
use Rattle.checkpoint_laws.specs.Restored.{ValidAs}
use Rattle.guarantees.specs.Rules.{call}
use Rattle.guarantees.specs.Statement.{book_of, Start, start_of, same_events, same_after}
use Rattle.guarantees.specs.Proof.{start_valid}

pub bounds_recorded : (s : Start) (cs : List Call) → (start_of s).settings.kind ≡ Easy
    → AsRecorded (after call (start_of s) cs) (book_of (start_of s) (events call (start_of s) cs))
bounds_recorded s cs k =
    let m = start_of s in
    let v : easy.Valid m = subst (λ (x : Kind). ValidAs x m) k (start_valid s) in
    subst (λ (n : Model). AsRecorded n (book_of m (events call m cs))) (sym (same_after easy_lawful m cs v))
    (subst (λ (es : List Event). AsRecorded (after easy-rules.call m cs) (book_of m es)) (sym (same_events easy_lawful m cs v))
    (proof.bounds_recorded easy_lawful easy_ticketed easy_recorded easy_seeded m cs v))
