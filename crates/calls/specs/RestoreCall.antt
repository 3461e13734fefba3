-- What a reading of lines hands back. Document 02, No. 11: "A desk read back is tested, where document 01 asked only that calls had made it."
-- Assumes nothing.
use Rattle.std.specs.Prelude.{◌≡◌, refl, true, List, ℕ, length, take, drop}
use Rattle.std.proofs.Common.{sym, ap, subst, ◌∙◌, take_at}
use Rattle.scheduler.specs.declared.Opened.{Opened}
use Rattle.scheduler.specs.declared.Refusal.TheVariants as refusal
use Rattle.scheduler.specs.declared.Scheduler.{Scheduler}
use Rattle.scheduler.specs.Limits.{longest_estimate}
use Rattle.scheduler.specs.Model.{view}
use Rattle.scheduler.specs.Answers.{accepts}
use Rattle.jobs.specs.Premise.{store_holds}
use Rattle.checkpoint_rules.specs.Texts.{desk_text, restored}
use Rattle.checkpoint_laws.specs.Restored.{restored_valid, restored_lined}
use Rattle.guarantees.specs.Premise.{Valid, Premise}
use Rattle.guarantees.specs.Restored.{valid_comes_back}
use Rattle.restoring.specs.Restoring.{handed_back, restoring}
use Rattle.calls.specs.declared.Shown.{Shown}
use Rattle.calls.specs.ListCall.{written}
use Rattle.calls.specs.TextCall.{ShowsText}

-- every reading, a refused one too, hands back a scheduler that meets the premise of calls
pub restored_premise : (t : List ℕ) → Premise (restoring t).scheduler
restored_premise t = store_holds Valid (restored t).model (restored_lined t).live (restored_valid t)

-- as a caller has it, from the contract
pub restored_held : (t : List ℕ) (r : Opened) → r ≡ restoring t → Premise r.scheduler
restored_held t r e = subst (λ (x : Opened). Premise x.scheduler) (sym e) (restored_premise t)

-- "Every desk that calls have made outside No. 6 is accepted from its own lines and comes back the same": what a call for the lines wrote
pub comes_back : (d : Scheduler) (lent : List ℕ) (a : Shown) (after : List ℕ) → Premise d → d.settings.longest ≡ longest_estimate → ShowsText d lent a after
    → accepts a.refusal ≡ true → restoring (take a.count after) ≡ record { refusal = refusal.None; scheduler = d }
unfolding written view
comes_back d lent a after h e w q =
    let t = desk_text (view d) in
    let given : written desk_text (view d) (length lent) ≡ t = rw (ap (λ (s : Shown). accepts s.refusal) (sym w.answers) ∙ q) in
    let count : a.count ≡ length t = ap (λ (s : Shown). s.count) w.answers ∙ ap length given in
    let front : take a.count after ≡ t = rw (count, w.writes, given) (take_at t (drop (length t) lent) (length t) refl) in
    ap restoring front ∙ ap handed_back (valid_comes_back (view d) h.holds e)
    ∙ ap (λ (s : Scheduler). record { refusal = refusal.None; scheduler = s }) (sym h.stored)
