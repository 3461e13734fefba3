-- Whose a job is. Document 02, No. 4: "Two houses, A and B, will use one desk."
-- Assumes nothing.
use Rattle.std.specs.Prelude.{Bool, true, false, cond, ℕ, eqb}
use Rattle.scheduler.specs.declared.Tenant.{Tenant}
use Rattle.scheduler.specs.declared.Tenant.TheVariants.{Nobody, A, B}

-- 14: "a house other than A or B"
abbrev pub known : Tenant → Bool
known Nobody = false
known A = true
known B = true

abbrev pub number : Tenant → ℕ
number Nobody = 0
number A = 1
number B = 2

abbrev pub same_tenant : Tenant → Tenant → Bool
same_tenant s t = eqb (number s) (number t)

-- "in every text a capital letter": A is 65, B is 66
abbrev pub tenant_of : ℕ → Tenant
tenant_of n = cond (eqb n 65) A (cond (eqb n 66) B Nobody)

abbrev pub letter_of : Tenant → ℕ
letter_of Nobody = 0
letter_of A = 65
letter_of B = 66
