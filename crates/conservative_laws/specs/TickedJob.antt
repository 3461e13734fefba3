-- One job at a minute: it starts if it waits and is planned for then, and stays as it is otherwise.
-- Assumes nothing.
use Rattle.std.specs.Prelude.{◌≡◌, refl, true, false, ℕ, eqb}
use Rattle.std.proofs.Common.{ap, eqb-true, eq-eqb}
use Rattle.lists.specs.Tests.{both}
use Rattle.scheduler.specs.declared.State.TheVariants.{Running}
use Rattle.scheduler.specs.declared.Job.{Job}
use Rattle.scheduler.specs.Jobs.{is_waiting, job_at}
use Rattle.conservative_rules.specs.Conservative.{placed, turned}
use Rattle.conservative_laws.specs.Sentences.{starts_at}

-- one that starts is placed now
pub turned_due : (now : ℕ) (j : Job) → starts_at now j ≡ true → turned now j ≡ placed now now j
turned_due now j e =
    let q : j.start ≡ now = eqb-true j.start now (both (is_waiting j) (eqb j.start now) e).1 in
    rw (e, eq-eqb now now refl) (ap (λ (s : ℕ). job_at Running s j) q)

-- any other stays as it is
pub turned_other : (now : ℕ) (j : Job) → starts_at now j ≡ false → turned now j ≡ j
turned_other now j e = rw e
