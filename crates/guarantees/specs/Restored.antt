-- Document 02, No. 11, of calls: "Every desk that calls have made outside No. 6 is accepted from its own lines and comes back the same." And of the
-- rule on gaps: "On a desk read back, the rule on gaps holds from its first early end or withdrawal."
-- Assumes nothing.
use Rattle.std.specs.Prelude.{◌≡◌, refl, true, List, ℕ}
use Rattle.std.proofs.Common.{ap, subst, ◌∙◌}
use Rattle.scheduler.specs.declared.Departure.{Departure}
use Rattle.scheduler.specs.declared.Kind.TheVariants.{Conservative}
use Rattle.scheduler.specs.declared.Settings.{Settings}
use Rattle.scheduler.specs.declared.Refusal.TheVariants as refusal
use Rattle.scheduler.specs.Limits.{longest_estimate}
use Rattle.scheduler.specs.Model.{Model}
use Rattle.scheduler.specs.Answers.{accepts}
use Rattle.jobs.specs.Soundness.{all_live}
use Rattle.history.specs.Calls.{Call, depart, after}
use Rattle.conservative_laws.specs.Tightness.{Tight}
use Rattle.checkpoint_rules.specs.Texts.{desk_text, restored}
use Rattle.checkpoint_laws.specs.Soundly.{Lined}
use Rattle.checkpoint_laws.specs.RoundTrip.{comes_back}
use Rattle.checkpoint_laws.specs.Restored.{valid_accepted, restored_lined}
use Rattle.guarantees.specs.Rules.{call}
use Rattle.guarantees.specs.Statement.{Start, start_of}
use Rattle.guarantees.specs.Premise.{Valid, valid_sound, after_valid}
use Rattle.guarantees.specs.Proof.{start_valid}
use Rattle.guarantees.specs.Cleanup.{settings_stay}
use Rattle.guarantees.specs.NoGaps.{no_gaps_from}

-- a valid model with the longest estimate that there is comes back from its own lines
pub valid_comes_back : (m : Model) → Valid m → m.settings.longest ≡ longest_estimate → restored (desk_text m) ≡ record { refusal = refusal.None; model = m }
valid_comes_back m v e = comes_back m (record { live = all_live m (valid_sound m v); longest = e }) (valid_accepted m v)

-- From every start, an opening or a reading, refused ones too, and after every list of calls; outside No. 6 the longest estimate is 10,080.
pub made_comes_back : (s : Start) (cs : List Call) → (start_of s).settings.longest ≡ longest_estimate
    → let m = after call (start_of s) cs in restored (desk_text m) ≡ record { refusal = refusal.None; model = m }
made_comes_back s cs e =
    valid_comes_back (after call (start_of s) cs) (after_valid (start_of s) cs (start_valid s))
    (ap (λ (S : Settings). S.longest) (settings_stay (start_of s) cs (start_valid s)) ∙ e)

-- From every start on: once an early end or a withdrawal was not refused, no waiting job could begin earlier with all others where they are,
-- whatever calls came before and follow.
pub no_gaps_once : (s : Start) (before : List Call) (h : Departure) (t : ℕ) (cs : List Call) → (start_of s).settings.kind ≡ Conservative
    → let m = after call (start_of s) before in accepts (call m (depart h t)).reply.refusal ≡ true → Tight (after call (call m (depart h t)).model cs)
no_gaps_once s before h t cs k a =
    no_gaps_from (after call (start_of s) before) h t cs (after_valid (start_of s) before (start_valid s))
    (ap (λ (S : Settings). S.kind) (settings_stay (start_of s) before (start_valid s)) ∙ k) a
