-- What `==` says of two tenants.
-- Assumes nothing.
use mathlib.Core.Path.{◌≡◌, refl}
use denote.Enum.Bare.{sameb}
use Rattle.scheduler.specs.declared.Tenant.{Tenant}
use Rattle.scheduler.specs.declared.Tenant.TheVariants.{Nobody, A, B}
use Rattle.scheduler.specs.contracts.Tenant as K
use Rattle.scheduler.specs.Tenants.{same_tenant}

pub tenants_same : (s t : Tenant) → sameb K.the_type s t ≡ same_tenant s t
tenants_same Nobody Nobody = refl
tenants_same Nobody A = refl
tenants_same Nobody B = refl
tenants_same A Nobody = refl
tenants_same A A = refl
tenants_same A B = refl
tenants_same B Nobody = refl
tenants_same B A = refl
tenants_same B B = refl
