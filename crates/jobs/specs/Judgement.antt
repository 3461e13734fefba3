-- A call and the tests that judge it: what it is where no test refuses it, and where one does.
-- Assumes nothing.
use Rattle.std.specs.Prelude.{◌≡◌, refl, true, false}
use Rattle.std.proofs.Common.{sym, ◌∙◌}
use Rattle.lists.specs.Tests.{case, true_false}
use Rattle.scheduler.specs.declared.Refusal.{Refusal}
use Rattle.scheduler.specs.declared.Refusal.TheVariants as refusal
use Rattle.scheduler.specs.Model.{Model}
use Rattle.scheduler.specs.Answers.{Result, accepts, refuse}
use Rattle.scheduler.specs.Refusals.{judged}

pub accepts_none : (r : Refusal) → accepts r ≡ true → r ≡ refusal.None
accepts_none refusal.None e = refl
accepts_none refusal.NodesOutOfRange e = true_false false e refl
accepts_none refusal.MinutesOutOfRange e = true_false false e refl
accepts_none refusal.OpeningOutOfRange e = true_false false e refl
accepts_none refusal.NoTicketLeft e = true_false false e refl
accepts_none refusal.PastHorizon e = true_false false e refl
accepts_none refusal.NotRunning e = true_false false e refl
accepts_none refusal.Malformed e = true_false false e refl
accepts_none refusal.TooShort e = true_false false e refl
accepts_none refusal.NotWaiting e = true_false false e refl
accepts_none refusal.CleanupOutOfRange e = true_false false e refl
accepts_none refusal.QuotasOutOfRange e = true_false false e refl
accepts_none refusal.UnknownTenant e = true_false false e refl
accepts_none refusal.QuotaFull e = true_false false e refl
accepts_none refusal.LongestOutOfRange e = true_false false e refl
accepts_none refusal.ArrivalFalls e = true_false false e refl
accepts_none refusal.NoRunLength e = true_false false e refl
accepts_none refusal.LeastAboveMost e = true_false false e refl
accepts_none refusal.BeforeLeast e = true_false false e refl
accepts_none refusal.WantedMinutePast e = true_false false e refl
accepts_none refusal.TextMalformed e = true_false false e refl
accepts_none refusal.TextRejected e = true_false false e refl

-- what holds of an outcome where no test refuses it, and of the refusal where one does, holds of the call
pub judged_by : (P : Result → Type 0) (m : Model) (r : Refusal) (o : Result) → (accepts r ≡ true → P o) → (accepts r ≡ false → P (refuse m r))
    → P (judged m r o)
judged_by P m r o f g = case (accepts r) (λ e. rw e (f e)) (λ e. rw e (g e))

-- a call that is not refused is its outcome
pub judged_accepted : (m : Model) (r : Refusal) (o : Result) → accepts (judged m r o).reply.refusal ≡ true → (accepts r ≡ true) × (judged m r o ≡ o)
judged_accepted m r o e = case (accepts r) (λ a. (a, rw a)) (λ a. true_false (accepts r) (rw a at e) a)

-- a call gives the refusal of its tests, and a refused one is that and nothing else
module _ (m : Model) (r : Refusal) (o : Result) (n : o.reply.refusal ≡ refusal.None) where
  pub judged_refusal : (judged m r o).reply.refusal ≡ r
  judged_refusal = judged_by (λ (x : Result). x.reply.refusal ≡ r) m r o (λ e. n ∙ sym (accepts_none r e)) (λ e. refl)

  pub judged_refused : accepts (judged m r o).reply.refusal ≡ false → judged m r o ≡ refuse m (judged m r o).reply.refusal
  judged_refused =
      judged_by (λ (x : Result). accepts x.reply.refusal ≡ false → x ≡ refuse m x.reply.refusal) m r o
      (λ e a. true_false true refl (rw n at a)) (λ e a. refl)
