-- Document 02, No. 9, computed from the definitions: which estimates are taken and promised in time, and what the question is refused for.
-- Assumes nothing.
use Rattle.std.specs.Prelude.{◌≡◌, refl, [], ◌∷◌, ℕ, replicate}
use Rattle.lists.specs.Greatest.{greatest}
use Rattle.spans.specs.Spans as spans
use Rattle.scheduler.specs.declared.Inquiry.{Inquiry}
use Rattle.scheduler.specs.declared.Refusal.{Refusal}
use Rattle.scheduler.specs.declared.Refusal.TheVariants as refusal
use Rattle.scheduler.specs.declared.Tenant.{Tenant}
use Rattle.scheduler.specs.declared.Tenant.TheVariants.{Nobody, A}
use Rattle.scheduler.specs.Model.{Model}
use Rattle.scheduler.specs.Answers.{verdict}
use Rattle.scheduler.specs.Settings as times
use Rattle.scheduler.specs.Refusals as refusals
use Rattle.scheduler.specs.Opening.{opening_refusal, opening}
use Rattle.history.specs.Calls.{submit, order, tick, after}
use Rattle.conservative_rules.specs.Conservative.{planned, submit_refusal, submitted, advanced, ticked, call}
use Rattle.conservative_rules.specs.Computed.{limited, machine}
use Rattle.conservative_rules.specs.LongestEstimate.{in_time, longest_for, inquiry_refusal}

-- two nodes, with this cleanup; one runs until 10, and both are promised from then on, or once its cleanup is over
abbrev two : (cleanup minute : ℕ) → Model
two k minute = opening (record { settings = machine k; minute = minute; ticket = 1 })

abbrev busy : ℕ → Model
busy k = after call (two k 0) (submit (order 1 10) ∷ submit (order 2 10) ∷ [])

-- the same three minutes later
abbrev later : Model
later = after call (busy 0) (replicate 3 tick)

abbrev by : Tenant → (nodes minute : ℕ) → Inquiry
by t n w = record { nodes = n; tenant = t; minute = w }

-- the largest of the estimates up to 40
abbrev up_to40 : Model → (nodes minute : ℕ) → ℕ
up_to40 m n w = greatest (in_time m (by A n w)) 40

-- the largest of all, where the longest estimate is 12
abbrev up_to12 : ℕ → ℕ
up_to12 minute = longest_for (opening (record { settings = limited 12 0; minute = minute; ticket = 1 })) (by A 1 minute)

pub examples : (up_to40 (busy 0) 1 0 ≡ 10)
    -- an estimate, not a held time: 7 minutes are free, and an estimate of 6 holds 10
    × (up_to40 later 1 3 ≡ 5)
    -- 17 minutes are free, and 7 of them are for the cleanup
    × (up_to40 (busy 7) 1 0 ≡ 10)
    -- by minute 19 no longer one starts, and none of two nodes; from 20 on every estimate is in time
    × (up_to40 (busy 0) 1 19 ≡ 10)
    × (up_to40 (busy 0) 2 19 ≡ 0)
    × (up_to40 (busy 0) 1 20 ≡ 40)
    × (up_to40 (busy 0) 2 20 ≡ 40)
    -- one that submission refuses by 6 does not count
    × (up_to40 (two 0 999990) 1 999990 ≡ 10)
    × (up_to40 (two 0 999990) 1 1000001 ≡ 10)
    × (up_to40 (two 5 999988) 1 999988 ≡ 5)
    -- "An estimate, not a held time": 12 is held for 15 minutes
    × (up_to12 0 ≡ 12)
    × (up_to12 999985 ≡ 12)
    × (up_to12 999986 ≡ 10)
    -- 21 comes ahead of 14, 14 of 1, and 6 is that of an estimate of 1
    × (inquiry_refusal later (by Nobody 3 2) ≡ refusal.WantedMinutePast)
    × (inquiry_refusal later (by Nobody 3 3) ≡ refusal.UnknownTenant)
    × (inquiry_refusal later (by A 3 3) ≡ refusal.NodesOutOfRange)
    × (inquiry_refusal later (by A 2 3) ≡ refusal.None)
    × (inquiry_refusal (two 0 999995) (by A 1 999995) ≡ refusal.None)
    × (inquiry_refusal (two 0 999996) (by A 1 999996) ≡ refusal.PastHorizon)
unfolding greatest verdict opening_refusal opening planned submit_refusal submitted advanced ticked call in_time longest_for inquiry_refusal times.longest times.cleanup times.run_time times.hold_time times.end_of times.until refusals.tick_refusal spans.takes spans.last_end spans.fits spans.earliest spans.changes spans.points spans.profile
examples = (refl, refl, refl, refl, refl, refl, refl, refl, refl, refl, refl, refl, refl, refl, refl, refl, refl, refl, refl)
