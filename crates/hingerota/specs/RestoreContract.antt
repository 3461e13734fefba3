-- A host's desk that is written out and read back. Document 02, No. 11: "Every desk that calls have made outside No. 6 is accepted from its own lines
-- and comes back the same."
-- Assumes nothing.
use Rattle.std.specs.Prelude.{◌≡◌, refl, true, List, ℕ, eqb, length, take}
use Rattle.std.proofs.Common.{sym, ap, ◌∙◌}
use Rattle.scheduler.specs.Model.{view}
use Rattle.scheduler.specs.declared.Scheduler.{Scheduler}
use Rattle.checkpoint_rules.specs.Texts.{desk_text, Restored}
use Rattle.restoring.specs.Restoring.{handed_back}
use Rattle.guarantees.specs.Restored.{valid_comes_back}
use Rattle.calls.specs.ListCall.{shown}
use Rattle.calls.specs.RestoreCall as calls-restore
use Rattle.hingerota.specs.declared.Desk.{Desk}
use Rattle.hingerota.specs.declared.Shown.{Shown}
use Rattle.hingerota.specs.Mirror.{mirror, read, mirror_opened}
use Rattle.hingerota.specs.DeskPremise.{Handed, restores}
use Rattle.hingerota.specs.TextContract.{HostShowsText, host_shown}

-- what `hingerota_checkpoint` wrote, `hingerota_restore` gives back
pub comes_back : (d : Desk) (lent : List ℕ) (a : Shown) (after : List ℕ) → Handed d → HostShowsText d lent a after → eqb a.refusal 0 ≡ true
    → restores (take a.count after) ≡ record { refusal = 0; desk = d }
unfolding read
comes_back d lent a after h w q =
    let b = shown desk_text (view (read d)) (length lent) in
    ap (λ (s : Shown). restores (take s.count after)) w.answers
    ∙ ap mirror_opened (calls-restore.comes_back (read d) lent b after h.premise refl (host_shown desk_text d lent a after w)
    (ap (λ (s : Shown). eqb s.refusal 0) (sym w.answers) ∙ q))
    ∙ ap (λ (x : Desk). record { refusal = 0; desk = x }) (sym h.mirrored)

-- and a desk that passes `hingerota_check` (`checked_handed` in `Checks.antt`) is the one that a reading of its own lines hands back: so a list of calls
-- may start from it as from that reading
pub handed_read : (d : Desk) → Handed d → restores (desk_text (view (read d))) ≡ record { refusal = 0; desk = d }
unfolding read view
handed_read d h =
    ap (λ (r : Restored). mirror_opened (handed_back r)) (valid_comes_back (view (read d)) h.premise.holds refl)
    ∙ ap (λ (s : Scheduler). record { refusal = 0; desk = mirror s }) (sym h.premise.stored)
    ∙ ap (λ (x : Desk). record { refusal = 0; desk = x }) (sym h.mirrored)
