-- `walltime::longest_within` meets its contract: the band that reaches the minutes first rounds them down.
-- Assumes nothing.
use Rattle.std.specs.Prelude.{◌≡◌, ℕ, ◌*◌, ◌/◌, ◌≤◌}
use Rattle.std.proofs.Common.{sym, ◌∙◌, arith}
use Rattle.walltime.specs.WallTime.{longest}
use Rattle.walltime.specs.Laws.{by_band, LongestWithin, within_fives, within_tens, within_thirties, within_all}
use Rattle.walltime.proofs.Bands.{each, none}
use Rattle.walltime.proofs.longest_within.Goals as goal

-- the minutes rounded down by the band that reaches them are the longest estimate
is-longest : {r : ℕ} (x : ℕ) → (x ≤ 120 → r ≡ x / 5 * 5) → (120 ≤ x → x ≤ 480 → r ≡ x / 10 * 10) → (480 ≤ x → x ≤ 10080 → r ≡ x / 30 * 30)
    → (10080 ≤ x → r ≡ longest) → LongestWithin x r
is-longest {r} x f g h k =
    by_band (λ w. LongestWithin x r) x (λ a. rw (f a) (within_fives x a)) (λ a b. rw (g a b) (within_tens x a b))
    (λ a b. rw (h a b) (within_thirties x a b)) (λ a. rw (k a) (within_all x a))

pub returns-in-Some : goal.returns-in-Some
returns-in-Some c =
    let x = c.args.minutes in
    each x _ _ _ c.in-Some.band (sym c.band_reaching.ensures ∙ c.in-Some.is)
    (λ q l. rw (sym q) (is-longest x (λ a. omega arith) (λ a b. omega arith) (λ a b. omega arith) (λ a. omega arith)))
    (λ q k l. rw (sym q) (is-longest x (λ a. omega arith) (λ a b. omega arith) (λ a b. omega arith) (λ a. omega arith)))
    (λ q k l. rw (sym q) (is-longest x (λ a. omega arith) (λ a b. omega arith) (λ a b. omega arith) (λ a. omega arith)))

pub returns-in-None : goal.returns-in-None
returns-in-None c =
    let x = c.args.minutes in
    let p = none x _ _ _ (sym c.band_reaching.ensures ∙ c.in-None.is) in
    is-longest x (λ a. omega arith) (λ a b. omega arith) (λ a b. omega arith) (λ a. omega arith)
