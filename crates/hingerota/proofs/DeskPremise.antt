-- Every opening, every reading of lines and every call, refused ones too, hands back what a host program has to keep (`Handed`). Document 01: "a desk
-- came from an opening or from a call here".
-- Assumes nothing.
use Rattle.std.specs.Prelude.{◌≡◌, List, [], ◌∷◌, ℕ}
use Rattle.std.proofs.Common.{sym, ap, subst}
use Rattle.scheduler.specs.declared.Opening.{Opening}
use Rattle.scheduler.specs.declared.Scheduler.{Scheduler}
use Rattle.scheduler.specs.declared.Settings.{Settings}
use Rattle.scheduler.specs.Limits.{longest_estimate}
use Rattle.scheduler.specs.Model.{store, view}
use Rattle.scheduler.specs.Opening.{opened}
use Rattle.scheduler.specs.Answers.{outcome}
use Rattle.history.specs.Calls.{Call}
use Rattle.guarantees.specs.Rules.{call}
use Rattle.guarantees.specs.Premise.{Premise, opened_premise, call_premise}
use Rattle.guarantees.specs.Cleanup.{settings_stay}
use Rattle.checkpoint_laws.specs.Restored.{restored_lined}
use Rattle.restoring.specs.Restoring.{restoring}
use Rattle.amend_laws.specs.Sentences.{amended_settings, amended_premise}
use Rattle.calls.specs.RestoreCall.{restored_premise}
use Rattle.calls.specs.AmendCall.{amends}
use Rattle.hingerota.specs.declared.Desk.{Desk}
use Rattle.hingerota.specs.declared.Amendment.{Amendment}
use Rattle.hingerota.specs.Mirror.{mirror, read}
use Rattle.hingerota.proofs.ReadBack.{read_mirror}
use Rattle.hingerota.specs.DeskPremise.{Handed, opens, restores, gives, amendment_of, amends_on, opening_longest}

pub mirror_handed : (s : Scheduler) → s.settings.longest ≡ longest_estimate → Premise s → Handed (mirror s)
mirror_handed s l h = record { mirrored = ap mirror (sym (read_mirror s l)); premise = subst Premise (sym (read_mirror s l)) h }

-- an opening with this longest estimate hands it back, refused or not, and calls keep the settings
pub opened_handed : (o : Opening) → o.settings.longest ≡ longest_estimate → Handed (opens o).desk
unfolding opened store
opened_handed o e = mirror_handed (opened o).scheduler (opening_longest o e) (opened_premise o)

-- and so does every reading, a refused one too
pub restored_handed : (t : List ℕ) → Handed (restores t).desk
unfolding store
restored_handed t = mirror_handed (restoring t).scheduler (restored_lined t).longest (restored_premise t)

pub call_handed : (d : Desk) (c : Call) → Handed d → Handed (gives d c).desk
unfolding store view read
call_handed d c h =
    mirror_handed (outcome (call (view (read d)) c)).scheduler
    (ap (λ (S : Settings). S.longest) (settings_stay (view (read d)) (c ∷ []) h.premise.holds)) (call_premise (read d) c h.premise)

pub amended_handed : (d : Desk) (b : Amendment) → Handed d → Handed (amends_on d b).desk
unfolding store view read
amended_handed d b h =
    mirror_handed (amends (read d) (amendment_of b)).scheduler
    (ap (λ (S : Settings). S.longest) (amended_settings (view (read d)) (amendment_of b) h.premise.holds))
    (amended_premise (read d) (amendment_of b) h.premise)
