-- Document 02, No. 14, over lists of calls: "Where the rule on gaps holds, the holders' nodes plus its own exceed the rack." From every opening the
-- rule holds after every list of calls. On a desk read back it holds "from its first early end or withdrawal" (No. 11). On the scheduler that the
-- change from EASY hands back it holds after every list of calls (No. 12).
-- Assumes nothing.
use Rattle.std.specs.Prelude.{◌≡◌, true, List, [], ◌∷◌, ℕ, ◌+◌, ◌<◌}
use Rattle.std.proofs.Common.{ap, subst, ◌∙◌}
use Rattle.lists.specs.Lists.{sum, In}
use Rattle.scheduler.specs.declared.Departure.{Departure}
use Rattle.scheduler.specs.declared.Kind.{Kind}
use Rattle.scheduler.specs.declared.Kind.TheVariants.{Conservative, Easy}
use Rattle.scheduler.specs.declared.Job.{Job}
use Rattle.scheduler.specs.declared.Opening.{Opening}
use Rattle.scheduler.specs.declared.Settings.{Settings}
use Rattle.scheduler.specs.Jobs.{is_waiting}
use Rattle.scheduler.specs.Model.{Model}
use Rattle.scheduler.specs.Opening.{opening}
use Rattle.scheduler.specs.Answers.{accepts}
use Rattle.history.specs.Calls.{Call, depart, after}
use Rattle.conservative_laws.specs.Tightness.{Tight}
use Rattle.guarantees.specs.Rules.{call}
use Rattle.guarantees.specs.Statement.{Start, changes, start_of}
use Rattle.guarantees.specs.Premise.{ValidBy, Valid, opening_valid, call_valid, after_valid}
use Rattle.guarantees.specs.Proof.{opening_kind, start_valid}
use Rattle.guarantees.specs.Cleanup.{settings_stay}
use Rattle.guarantees.specs.NoGaps.{no_gaps}
use Rattle.guarantees.specs.Restored.{no_gaps_once}
use Rattle.guarantees.specs.Migration.{changed_kind, around_change}
use Rattle.why_rules.specs.Why.{finding_of}
use Rattle.why_laws.specs.Holders.{holder_nodes, holders_exceed}

-- for each waiting job, the holders' nodes and its own are more than there are
abbrev pub Exceeds : Model → Type 0
Exceeds m = (j : Job) → In j m.jobs → is_waiting j ≡ true → m.settings.nodes < sum holder_nodes (finding_of m j).holders + j.nodes

exceeds_valid : (m : Model) → Valid m → m.settings.kind ≡ Conservative → Tight m → Exceeds m
exceeds_valid m v k T j i w = holders_exceed m (subst (λ (x : Kind). ValidBy x m) k v) j i w T

kind_stays : (m : Model) (cs : List Call) → Valid m → m.settings.kind ≡ Conservative → (after call m cs).settings.kind ≡ Conservative
kind_stays m cs v k = ap (λ (S : Settings). S.kind) (settings_stay m cs v) ∙ k

-- from every opening, a refused one too, and after every list of calls
pub holders_always_exceed : (o : Opening) (cs : List Call) → o.settings.kind ≡ Conservative → Exceeds (after call (opening o) cs)
holders_always_exceed o cs k =
    let v = opening_valid o in
    exceeds_valid (after call (opening o) cs) (after_valid (opening o) cs v) (kind_stays (opening o) cs v (opening_kind o ∙ k)) (no_gaps o cs k)

-- from every start, a reading too: once an early end or a withdrawal was not refused, whatever calls came before it and follow
pub holders_exceed_once : (s : Start) (before : List Call) (h : Departure) (t : ℕ) (cs : List Call) → (start_of s).settings.kind ≡ Conservative
    → let m = after call (start_of s) before in accepts (call m (depart h t)).reply.refusal ≡ true → Exceeds (after call (call m (depart h t)).model cs)
holders_exceed_once s before h t cs k a =
    let m = after call (start_of s) before in
    let v : Valid m = after_valid (start_of s) before (start_valid s) in
    let n = (call m (depart h t)).model in
    let u : Valid n = call_valid m (depart h t) v in
    let e = kind_stays n cs u (kind_stays m (depart h t ∷ []) v (kind_stays (start_of s) before (start_valid s) k)) in
    exceeds_valid (after call n cs) (after_valid n cs u) e (no_gaps_once s before h t cs k a)

-- from every start of an EASY scheduler, after every list of calls, the change, and every other list of calls
pub holders_exceed_after_change : (s : Start) (before cs : List Call) → (start_of s).settings.kind ≡ Easy → Exceeds (after call (start_of (changes s before)) cs)
holders_exceed_after_change s before cs k =
    let n = start_of (changes s before) in
    let v : Valid n = start_valid (changes s before) in
    exceeds_valid (after call n cs) (after_valid n cs v) (kind_stays n cs v (changed_kind (after call (start_of s) before)))
    (around_change s before cs k).no_gaps
