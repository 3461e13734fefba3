-- Whether numbers that a host holds in a desk's place are a desk that it may pass to calls. Document 02, No. 11: "A desk read back is tested, where
-- document 01 asked only that calls had made it"; 23, "one of these conditions is broken".
-- Assumes nothing.
use Rattle.std.specs.Prelude.{Bool, true, not, cond, ◌&&◌, List, [], ◌∷◌, ℕ, leb, eqb, length}
use Rattle.lists.specs.Every.{every}
use Rattle.scheduler.specs.declared.Refusal.TheVariants as refusal
use Rattle.scheduler.specs.Limits.{slots}
use Rattle.scheduler.specs.Tenants.{tenant_of, letter_of}
use Rattle.scheduler.specs.Model.{view}
use Rattle.scheduler.specs.Answers.{code}
use Rattle.checkpoint_rules.specs.Acceptance.{accepted}
use Rattle.hingerota.specs.declared.Desk.{Desk}
use Rattle.hingerota.specs.declared.Record.{Record}
use Rattle.hingerota.specs.Mirror.{read}

-- document 01: "holds its 64 records as one value, in ticket order, unused ones all zero"
abbrev pub is_zero : ℕ → Bool
is_zero n = eqb n 0

abbrev pub numbers_of : Record → List ℕ
numbers_of r =
    r.ticket
    ∷ r.nodes
    ∷ r.estimate
    ∷ r.state
    ∷ r.tenant
    ∷ r.least
    ∷ r.start
    ∷ r.promise
    ∷ r.end
    ∷ r.submitted
    ∷ r.rank
    ∷ r.forecast
    ∷ []

unfoldable pub all_zero : Record → Bool
all_zero r = every is_zero (numbers_of r)

-- of a live record: the number of a state, and the letter of a tenant or nobody's
unfoldable pub is_job : Record → Bool
is_job r = leb r.state 3 && eqb (letter_of (tenant_of r.tenant)) r.tenant

-- a record after others, which are all live or not: the live ones stand first
unfoldable pub follows : (live : Bool) → Record → Bool
follows live r = cond (eqb r.state 0) (all_zero r) (live && is_job r)

unfoldable pub in_order : (live : Bool) → List Record → Bool
in_order live [] = true
in_order live (r ∷ rs) = follows live r && in_order (not (eqb r.state 0)) rs

-- the numbers of a desk: of either kind, with 64 records
unfoldable pub is_desk : Desk → Bool
is_desk d = leb d.kind 1 && eqb (length d.jobs) slots && in_order true d.jobs

-- 0 if calls may be made on it, or 23
unfoldable pub check_number : Desk → ℕ
check_number d = cond (is_desk d && accepted (view (read d))) 0 (code refusal.TextRejected)
