-- For both kinds: a withdrawn job does not start by that call, and no later answer names its ticket. It neither starts nor ends, is not withdrawn
-- again, and hears no forecast, and its ticket is not given a second time.
-- Assumes nothing.
use Rattle.std.specs.Prelude.{◌≡◌, refl, true, false, List, ℕ}
use Rattle.std.proofs.Common.{sym, ap, subst, ◌∙◌, eq-eqb}
use Rattle.lists.specs.Lists.{elem}
use Rattle.scheduler.specs.declared.Kind.{Kind}
use Rattle.scheduler.specs.declared.Kind.TheVariants.{Conservative, Easy}
use Rattle.scheduler.specs.Model.{Model}
use Rattle.scheduler.specs.Answers.{Reply, accepts}
use Rattle.history.specs.Calls.{Call, cancel, events}
use Rattle.history.specs.News.{news_of}
use Rattle.history_proof.specs.Obligations.{Lawful, Ticketed}
use Rattle.history_proof.specs.Gone as gone
use Rattle.history_proof.specs.Gone.{Silent}
use Rattle.conservative_laws.specs.Obligations.{conservative_lawful}
use Rattle.conservative_laws.specs.Sentences.{conservative_ticketed}
use Rattle.easy_laws.specs.Obligations.{easy_lawful}
use Rattle.easy_laws.specs.Withdrawal.{easy_ticketed}
use Rattle.guarantees.specs.Rules.{rules_of, call}
use Rattle.guarantees.specs.Statement.{by_rules, same_events}
use Rattle.guarantees.specs.Premise.{ValidBy, Valid}

-- an accepted withdrawal says so
withdraws_it : (r : Reply) (t : ℕ) → accepts r.refusal ≡ true → elem t (news_of (cancel t) r).withdrew ≡ true
withdraws_it r t a = rw (a, eq-eqb t t refl)

pub record InNoLater (m : Model) (t : ℕ) (cs : List Call) : Type 0 where
  pub unstarted : elem t (call m (cancel t)).reply.started ≡ false
  pub silent : Silent t (events call (call m (cancel t)).model cs)

module _ {k : Kind} {Fit : Model → Type 0} {OnCourse : Model → ℕ → ℕ → Type 0} (L : Lawful k (rules_of k) Fit OnCourse) (T : Ticketed (rules_of k) Fit OnCourse) where
  in_no_later : (m : Model) (t : ℕ) (cs : List Call) → Fit m → accepts (call m (cancel t)).reply.refusal ≡ true → InNoLater m t cs
  in_no_later m t cs v a =
      let r = by_rules L m (cancel t) v in
      let q = gone.withdrawn_silent L T m (cancel t) t cs v (withdraws_it (rules_of k m (cancel t)).reply t (subst (λ x. accepts x.reply.refusal ≡ true) r a)) in
      record {
        unstarted = ap (λ x. elem t x.reply.started) r ∙ q.0;
        silent =
            subst (λ x. Silent t (events call x.model cs)) (sym r)
            (subst (Silent t) (sym (same_events L (rules_of k m (cancel t)).model cs (L.valid m (cancel t) v))) q.1);
      }

-- Document 02, No. 1: a withdrawn stack is in no later answer, whatever follows.
pub withdrawn_in_no_later : (m : Model) (t : ℕ) (cs : List Call) → Valid m → accepts (call m (cancel t)).reply.refusal ≡ true → InNoLater m t cs
withdrawn_in_no_later m t cs v a = by m.settings.kind v
  where
    by : (k : Kind) → ValidBy k m → InNoLater m t cs
    by Conservative v = in_no_later conservative_lawful conservative_ticketed m t cs v a
    by Easy v = in_no_later easy_lawful easy_ticketed m t cs v a
