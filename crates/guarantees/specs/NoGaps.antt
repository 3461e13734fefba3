-- Of conservative backfilling, document 02, No. 10: "after any call no waiting stack of the Promise Desk could begin earlier with all others
-- held". `Tight` says so of a model.
-- Assumes nothing.
use Rattle.std.specs.Prelude.{◌≡◌, true, List, [], ◌∷◌, ℕ}
use Rattle.std.proofs.Common.{sym, subst}
use Rattle.scheduler.specs.declared.Departure.{Departure}
use Rattle.scheduler.specs.declared.Kind.{Kind}
use Rattle.scheduler.specs.declared.Kind.TheVariants.{Conservative}
use Rattle.scheduler.specs.declared.Opening.{Opening}
use Rattle.scheduler.specs.Model.{Model}
use Rattle.scheduler.specs.Answers.{Result, accepts}
use Rattle.scheduler.specs.Opening.{opening}
use Rattle.scheduler.specs.declared.Amendment.{Amendment}
use Rattle.history.specs.Calls.{Call, depart, amend, after}
use Rattle.conservative_laws.specs.Validity as conservative
use Rattle.conservative_laws.specs.Obligations.{conservative_lawful}
use Rattle.conservative_laws.specs.Tightness.{Tight, opening_tight, depart_tight, amend_tight, call_tight}
use Rattle.guarantees.specs.Rules.{rules_of, call}
use Rattle.guarantees.specs.Statement.{by_rules}
use Rattle.guarantees.specs.Premise.{ValidBy, Valid}

-- every list of calls keeps it
pub stays_tight : (m : Model) (cs : List Call) → conservative.Valid m → Tight m → Tight (after call m cs)
stays_tight m [] v T = T
stays_tight m (c ∷ cs) v T =
    subst (λ (r : Result). Tight (after call r.model cs)) (sym (by_rules conservative_lawful m c v))
    (stays_tight (rules_of Conservative m c).model cs (conservative_lawful.valid m c v) (call_tight m c v T))

-- From every opening, a refused one too, and after every list of calls: submissions, early ends, withdrawals, orders amended in place and ticks,
-- taken or refused.
pub no_gaps : (o : Opening) (cs : List Call) → o.settings.kind ≡ Conservative → Tight (after call (opening o) cs)
no_gaps o cs k = stays_tight (opening o) cs (conservative.opening_valid o k) (opening_tight o)

-- From any valid model, which may have gaps: after a call that leaves none, and every list of calls that follows.
closed_from : (m : Model) (c : Call) (cs : List Call) → Valid m → m.settings.kind ≡ Conservative
    → (conservative.Valid m → accepts (rules_of Conservative m c).reply.refusal ≡ true → Tight (rules_of Conservative m c).model)
    → accepts (call m c).reply.refusal ≡ true → Tight (after call (call m c).model cs)
closed_from m c cs v k closes a =
    let w : conservative.Valid m = subst (λ (j : Kind). ValidBy j m) k v in
    let e = by_rules conservative_lawful m c w in
    subst (λ (r : Result). Tight (after call r.model cs)) (sym e)
    (stays_tight (rules_of Conservative m c).model cs (conservative_lawful.valid m c w)
    (closes w (subst (λ (r : Result). accepts r.reply.refusal ≡ true) e a)))

-- an early end or a withdrawal that is not refused
pub no_gaps_from : (m : Model) (h : Departure) (t : ℕ) (cs : List Call) → Valid m → m.settings.kind ≡ Conservative
    → accepts (call m (depart h t)).reply.refusal ≡ true → Tight (after call (call m (depart h t)).model cs)
no_gaps_from m h t cs v k a = closed_from m (depart h t) cs v k (depart_tight m h t) a

-- an order that is amended in place (document 02, No. 13): "All waiting stacks, this one too, then move as after a withdrawal"
pub no_gaps_amended : (m : Model) (a : Amendment) (cs : List Call) → Valid m → m.settings.kind ≡ Conservative
    → accepts (call m (amend a)).reply.refusal ≡ true → Tight (after call (call m (amend a)).model cs)
no_gaps_amended m a cs v k x = closed_from m (amend a) cs v k (amend_tight m a) x
