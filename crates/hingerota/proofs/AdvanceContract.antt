-- What minutes that pass at once give by value, the call on the lent desk leaves (`HostLeavesAdvanced`).
-- Assumes nothing.
use Rattle.std.specs.Prelude.{◌≡◌, refl, false, ℕ, eqb}
use Rattle.std.proofs.Common.{sym, ap, subst, ◌∙◌}
use Rattle.scheduler.specs.declared.Settings.{Settings}
use Rattle.scheduler.specs.Model.{store, view}
use Rattle.advancing.specs.Advances.{advances, advance_settings, advances_premise, refused_advances}
use Rattle.hingerota.specs.declared.Desk.{Desk}
use Rattle.hingerota.specs.declared.AdvanceOutcome.{AdvanceOutcome}
use Rattle.hingerota.specs.Mirror.{mirror, read}
use Rattle.hingerota.specs.DeskPremise.{Handed}
use Rattle.hingerota.proofs.DeskPremise.{mirror_handed}
use Rattle.hingerota.specs.AdvanceContract.{advances_on, HostLeavesAdvanced}

advanced_handed : (d : Desk) (n : ℕ) → Handed d → Handed (advances_on d n).desk
unfolding store view read
advanced_handed d n h =
    mirror_handed (advances (read d) n).scheduler (ap (λ (S : Settings). S.longest) (advance_settings (view (read d)) n h.premise.holds))
    (advances_premise (read d) n h.premise)

refused_advanced : (d : Desk) (n : ℕ) → Handed d → eqb (advances_on d n).answer.answer.refusal 0 ≡ false → (advances_on d n).desk ≡ d
refused_advanced d n h q = ap mirror (refused_advances (read d) n h.premise q) ∙ sym h.mirrored

pub advanced_given : (d : Desk) (n : ℕ) (o : AdvanceOutcome) → Handed d → o ≡ advances_on d n → HostLeavesAdvanced d n o.answer o.desk
advanced_given d n o h e = subst (λ (x : AdvanceOutcome). HostLeavesAdvanced d n x.answer x.desk) (sym e) (record {
  answers = refl;
  leaves = refl;
  handed = advanced_handed d n h;
  refused = refused_advanced d n h;
})
