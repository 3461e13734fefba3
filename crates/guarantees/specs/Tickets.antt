-- Over every list of calls of either kind, tickets are given upward by one from the first, so never twice, and a refused submission uses
-- none.
-- Assumes nothing.
use Rattle.std.specs.Prelude.{◌≡◌, refl, Bool, true, false, cond, List, [], ◌∷◌, ◌++◌, map, ℕ, suc}
use Rattle.std.proofs.Common.{subst}
use Rattle.lists.specs.Tests.{case}
use Rattle.lists.specs.Lists.{keep}
use Rattle.scheduler.specs.declared.Submission.{Submission}
use Rattle.scheduler.specs.declared.Kind.{Kind}
use Rattle.scheduler.specs.declared.Kind.TheVariants.{Conservative, Easy}
use Rattle.scheduler.specs.declared.Select.{Select}
use Rattle.scheduler.specs.declared.Select.TheVariants as select
use Rattle.scheduler.specs.Table.{ends, ended_of}
use Rattle.scheduler.specs.Model.{Model, ending}
use Rattle.scheduler.specs.Answers.{Result, accepts}
use Rattle.scheduler.specs.Refusals.{depart_refusal, tick_refusal}
use Rattle.scheduler.specs.Amending.{in_place_refusal}
use Rattle.jobs.specs.Order.{asc_keep}
use Rattle.jobs.specs.Soundness.{Sound}
use Rattle.jobs.specs.Judgement.{judged_by}
use Rattle.history.specs.Calls.{Call, submit, depart, tick, amend, unchanged, events}
use Rattle.history.specs.News.{Newcomer, news_of}
use Rattle.history.specs.Tickets.{given_ticket, next_after, tickets_given, Upward}
use Rattle.conservative_laws.specs.Sentences as conservative
use Rattle.conservative_laws.specs.Sentences.{Rising, tickets_rise}
use Rattle.easy_rules.specs.Easy as rules
use Rattle.easy_laws.specs.Sentences as easy
use Rattle.guarantees.specs.Rules.{rules_of, call}
use Rattle.guarantees.specs.Premise.{ValidBy, Valid, call_valid}

next_by : (k : Kind) (m : Model) (c : Call) → ValidBy k m → (rules_of k m c).model.next ≡ next_after (news_of c (rules_of k m c).reply).came m.next
next_by Conservative m c v = conservative.next_is m c
next_by Easy m c v = easy.call_next m c v

ticket_by : (k : Kind) (m : Model) (o : Submission) → accepts (rules_of k m (submit o)).reply.refusal ≡ true → (rules_of k m (submit o)).reply.ticket ≡ m.next
ticket_by Conservative m o a = (conservative.submit_taken m o a).ticket_is
ticket_by Easy m o a = easy.submit_ticket m o a

no_newcomers : (taken : Bool) → ◌≡◌ {A = List Newcomer} (cond taken [] []) []
no_newcomers true = refl
no_newcomers false = refl

-- one call more: its own ticket, and those of the calls after it
module _ (m : Model) (ts : List ℕ) where
  abbrev Given : Call → Type 0
  Given c = Upward (next_after (news_of c (call m c).reply).came m.next) ts → Upward m.next (map given_ticket (news_of c (call m c).reply).came ++ ts)

  none_more : (c : Call) → (news_of c (call m c).reply).came ≡ [] → Given c
  none_more c n u = rw n (rw n at u)

  one_more : (c : Call) → Given c
  one_more (submit o) =
      case (accepts (call m (submit o)).reply.refusal) (λ a. rw a (λ u. (ticket_by m.settings.kind m o a, u))) (λ a. rw a (λ u. u))
  one_more (depart h t) = none_more (depart h t) (no_newcomers (accepts (call m (depart h t)).reply.refusal))
  one_more tick = none_more tick (no_newcomers (accepts (call m tick).reply.refusal))
  one_more (amend a) = none_more (amend a) (no_newcomers (accepts (call m (amend a)).reply.refusal))
  one_more (unchanged w) = none_more (unchanged w) (no_newcomers (accepts (call m (unchanged w)).reply.refusal))

pub tickets_upward : (m : Model) (cs : List Call) → Valid m → Upward m.next (tickets_given (events call m cs))
tickets_upward m [] v = tt
tickets_upward m (c ∷ cs) v =
    let r = call m c in
    one_more m (tickets_given (events call r.model cs)) c
    (subst (λ (t : ℕ). Upward t (tickets_given (events call r.model cs))) (next_by m.settings.kind m c v)
    (tickets_upward r.model cs (call_valid m c v)))

abbrev Ascends : Result → Type 0
Ascends r = Rising 1 r.reply.ended

ended_ascend : (m : Model) (s : Select) → Sound m → Rising 1 (ended_of s m.jobs)
ended_ascend m s h = tickets_rise 1 (keep (ends s) m.jobs) (asc_keep (ends s) 1 m.jobs h.asc)

-- "the tickets ended, ascending"
ended_by : (k : Kind) (m : Model) (c : Call) → ValidBy k m → Rising 1 (rules_of k m c).reply.ended
unfolding
    rules.call
    rules.advanced
    rules.finished
ended_by Conservative m c v = (conservative.answers_rise m c v).0
ended_by Easy m (submit o) v = judged_by Ascends m (rules.submit_refusal m o) _ (λ a. tt) (λ a. tt)
ended_by Easy m (depart h t) v = judged_by Ascends m (depart_refusal m h t) (rules.advanced m m.clock (select.Departing h t))
    (λ a. ended_ascend m (select.Departing h t) v.ready.sound) (λ a. tt)
ended_by Easy m tick v = judged_by Ascends m (tick_refusal m) (rules.advanced m (suc m.clock) (ending m))
    (λ a. ended_ascend m (ending m) v.ready.sound) (λ a. tt)
ended_by Easy m (amend a) v = judged_by Ascends m (in_place_refusal m a) _ (λ x. tt) (λ x. tt)
ended_by Easy m (unchanged w) v = tt

pub ended_rise : (m : Model) (c : Call) → Valid m → Rising 1 (call m c).reply.ended
ended_rise m c v = ended_by m.settings.kind m c v
