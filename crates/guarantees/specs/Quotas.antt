-- Document 02, No. 4: "past the checks before 15, only its share and its live stacks' number decide a lack of places". Take two schedulers, of
-- either kind and whatever else they hold, that agree on a tenant's quota and on how many live jobs it has. Both refuse its submission by 15, or
-- neither does.
-- Assumes nothing.
use Rattle.std.specs.Prelude.{◌≡◌, Bool, true, false, not, ◌||◌, [], ◌∷◌, eqb, leb, ltb}
use Rattle.std.proofs.Common.{sym, ap, ◌∙◌}
use Rattle.lists.specs.Tests.{case}
use Rattle.scheduler.specs.declared.Kind.{Kind}
use Rattle.scheduler.specs.declared.Kind.TheVariants.{Conservative, Easy}
use Rattle.scheduler.specs.declared.Submission.{Submission}
use Rattle.scheduler.specs.declared.Refusal.{Refusal}
use Rattle.scheduler.specs.declared.Refusal.TheVariants as refusal
use Rattle.scheduler.specs.Tenants.{known}
use Rattle.scheduler.specs.Settings.{quota, longest}
use Rattle.scheduler.specs.Table.{live_of}
use Rattle.scheduler.specs.Model.{Model}
use Rattle.scheduler.specs.Answers.{code, verdict}
use Rattle.history.specs.Calls.{submit}
use Rattle.conservative_laws.specs.Sentences as conservative
use Rattle.easy_laws.specs.Sentences as easy
use Rattle.guarantees.specs.Rules.{rules_of, call}
use Rattle.guarantees.specs.Premise.{ValidBy, Valid}

-- the checks before 15: 14, 1, 2, 19
pub record PassesBefore (m : Model) (o : Submission) : Type 0 where
  pub tenant : known o.tenant ≡ true
  pub nodes : (ltb o.nodes 1 || ltb m.settings.nodes o.nodes) ≡ false
  pub estimate : (ltb o.estimate 1 || ltb (longest m.settings) o.estimate) ≡ false
  pub least : ltb o.estimate o.least ≡ false

abbrev pub refused_by15 : Model → Submission → Bool
refused_by15 m o = eqb (code (call m (submit o)).reply.refusal) 15

-- the first test that holds decides: of these only the fifth says 15
decides : (unknown x y above full z past : Bool) → unknown ≡ false → x ≡ false → y ≡ false → above ≡ false
    → eqb (code (verdict
    ((unknown, refusal.UnknownTenant)
    ∷ (x, refusal.NodesOutOfRange)
    ∷ (y, refusal.MinutesOutOfRange)
    ∷ (above, refusal.LeastAboveMost)
    ∷ (full, refusal.QuotaFull)
    ∷ (z, refusal.NoTicketLeft)
    ∷ (past, refusal.PastHorizon)
    ∷ []))) 15 ≡ full
unfolding verdict
decides unknown x y above full z past a b c d =
    rw (a, b, c, d) (case full (λ f. rw f) (λ f. rw f (case z (λ q. rw q) (λ q. rw q (case past (λ p. rw p) (λ p. rw p))))))

-- what decides it, of one scheduler
full_by : (k : Kind) (m : Model) (o : Submission) → ValidBy k m → PassesBefore m o
    → eqb (code (rules_of k m (submit o)).reply.refusal) 15 ≡ leb (quota m.settings o.tenant) (live_of o.tenant m.jobs)
full_by Conservative m o v p =
    ap (λ (r : Refusal). eqb (code r) 15) (conservative.submit_refusal_lem m o v)
    ∙ decides (not (known o.tenant)) _ _ _ _ _ _ (ap not p.tenant) p.nodes p.estimate p.least
full_by Easy m o v p =
    ap (λ (r : Refusal). eqb (code r) 15) (easy.submit_refusal_lem m o)
    ∙ decides (not (known o.tenant)) _ _ _ _ _ _ (ap not p.tenant) p.nodes p.estimate p.least

pub full_is : (m : Model) (o : Submission) → Valid m → PassesBefore m o
    → refused_by15 m o ≡ leb (quota m.settings o.tenant) (live_of o.tenant m.jobs)
full_is m o v p = full_by m.settings.kind m o v p

pub only_its_places_decide : (m n : Model) (o : Submission) → Valid m → Valid n → PassesBefore m o → PassesBefore n o
    → quota m.settings o.tenant ≡ quota n.settings o.tenant → live_of o.tenant m.jobs ≡ live_of o.tenant n.jobs
    → refused_by15 m o ≡ refused_by15 n o
only_its_places_decide m n o v w p q e l = full_is m o v p ∙ (λ i. leb (e i) (l i)) ∙ sym (full_is n o w q)
