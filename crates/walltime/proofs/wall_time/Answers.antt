-- `walltime::wall_time` meets its contract: the band that reaches the estimate first gives the wall time.
-- Assumes nothing.
use Rattle.std.specs.Prelude.{◌≡◌, ℕ, ◌≤◌}
use Rattle.std.proofs.Common.{sym, ◌∙◌, arith}
use Rattle.walltime.specs.WallTime.{round_up, longest, wall_time}
use Rattle.walltime.specs.Laws.{by_band}
use Rattle.walltime.proofs.Bands.{each, none}
use Rattle.walltime.proofs.wall_time.Goals as goal

-- the rounding of the band that reaches it is the wall time
is-wall-time : {r : ℕ} (e : ℕ) → (e ≤ 120 → r ≡ round_up e 5) → (120 ≤ e → e ≤ 480 → r ≡ round_up e 10) → (480 ≤ e → e ≤ 10080 → r ≡ round_up e 30)
    → (10080 ≤ e → r ≡ longest) → r ≡ wall_time e
is-wall-time {r} e = by_band (λ w. r ≡ w) e

pub returns-in-Some : goal.returns-in-Some
returns-in-Some c =
    let e = c.args.estimate in
    each e _ _ _ c.in-Some.band (sym c.band_reaching.ensures ∙ c.in-Some.is)
    (λ q l. c.next_multiple_of.ensures.value ∙ rw (sym q) (is-wall-time e (λ a. omega arith) (λ a b. omega arith) (λ a b. omega arith) (λ a. omega arith)))
    (λ q k l. c.next_multiple_of.ensures.value ∙ rw (sym q) (is-wall-time e (λ a. omega arith) (λ a b. omega arith) (λ a b. omega arith) (λ a. omega arith)))
    (λ q k l. c.next_multiple_of.ensures.value ∙ rw (sym q) (is-wall-time e (λ a. omega arith) (λ a b. omega arith) (λ a b. omega arith) (λ a. omega arith)))

pub returns-in-None : goal.returns-in-None
returns-in-None c =
    let e = c.args.estimate in
    let p = none e _ _ _ (sym c.band_reaching.ensures ∙ c.in-None.is) in
    is-wall-time e (λ a. omega arith) (λ a b. omega arith) (λ a b. omega arith) (λ a. omega arith)
