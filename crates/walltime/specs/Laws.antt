-- What callers use of the wall time.
-- Assumes nothing.
use Rattle.std.specs.Prelude.{◌≡◌, refl, Bool, true, false, cond, ℕ, ◌+◌, ◌-◌, ◌*◌, ◌/◌, ◌≤◌, leb}
use Rattle.std.proofs.Common.{arith, leb-true, leb-false}
use Rattle.walltime.specs.WallTime.{wall_time, round_up, longest}

-- by which band: what is shown of each band's rounding holds of the wall time
pub by_band : (P : ℕ → Type 0) (e : ℕ) → (e ≤ 120 → P (round_up e 5)) → (120 ≤ e → e ≤ 480 → P (round_up e 10))
    → (480 ≤ e → e ≤ 10080 → P (round_up e 30)) → (10080 ≤ e → P longest) → P (wall_time e)
by_band P e f g h k = go (leb e 120) refl (leb e 480) refl (leb e 10080) refl
  where
    go : (a : Bool) → leb e 120 ≡ a → (b : Bool) → leb e 480 ≡ b → (c : Bool) → leb e 10080 ≡ c
        → P (cond a (round_up e 5) (cond b (round_up e 10) (cond c (round_up e 30) longest)))
    go true p b q c r = f (leb-true e 120 p)
    go false p true q c r = g (omega (arith, leb-false e 120 p)) (leb-true e 480 q)
    go false p false q true r = h (omega (arith, leb-false e 480 q)) (leb-true e 10080 r)
    go false p false q false r = k (omega (arith, leb-false e 10080 r))

pub wall_time_le : (e : ℕ) → wall_time e ≤ longest
wall_time_le e = by_band (λ w. w ≤ longest) e (λ a. omega arith) (λ a b. omega arith) (λ a b. omega arith) (λ a. omega arith)

pub le_wall_time : (e : ℕ) → e ≤ longest → e ≤ wall_time e
le_wall_time e l = by_band (λ w. e ≤ w) e (λ a. omega arith) (λ a b. omega arith) (λ a b. omega arith) (λ a. omega arith)

pub wall_time_pos : (e : ℕ) → 1 ≤ e → 1 ≤ wall_time e
wall_time_pos e l = by_band (λ w. 1 ≤ w) e (λ a. omega arith) (λ a b. omega arith) (λ a b. omega arith) (λ a. omega arith)

pub wall_time_longest : wall_time longest ≡ longest
wall_time_longest = refl

-- larger estimates never get smaller wall times
pub wall_time_mono : (d e : ℕ) → d ≤ e → wall_time d ≤ wall_time e
wall_time_mono d e l =
    by_band (λ w. wall_time d ≤ w) e
    (λ a. by_band (λ v. v ≤ round_up e 5) d (λ b. omega arith) (λ b c. omega arith) (λ b c. omega arith) (λ b. omega arith))
    (λ a b. by_band (λ v. v ≤ round_up e 10) d (λ c. omega arith) (λ c k. omega arith) (λ c k. omega arith) (λ c. omega arith))
    (λ a b. by_band (λ v. v ≤ round_up e 30) d (λ c. omega arith) (λ c k. omega arith) (λ c k. omega arith) (λ c. omega arith))
    (λ a. wall_time_le d)

-- e is the largest estimate whose wall time is within this many minutes; an estimate of 0 has none
pub record LongestWithin (minutes e : ℕ) : Type 0 where
  pub to : e ≤ longest
  pub within : wall_time e ≤ minutes
  pub most : (d : ℕ) → d ≤ longest → wall_time d ≤ minutes → d ≤ e

-- rounded down by the first band that reaches the minutes
module _ (x : ℕ) where
  abbrev fives : ℕ
  fives = x / 5 * 5

  abbrev tens : ℕ
  tens = x / 10 * 10

  abbrev thirties : ℕ
  thirties = x / 30 * 30

  pub within_fives : x ≤ 120 → LongestWithin x fives
  within_fives h = record {
    to = omega arith;
    within = by_band (λ w. w ≤ x) fives (λ a. let e : (fives + 5 - 1) / 5 ≤ x / 5 = omega arith in omega (arith, e))
        (λ a b. let e : (fives + 10 - 1) / 10 ≤ 12 = omega arith in omega (arith, e)) (λ a b. omega arith) (λ a. omega arith);
    most = λ d l. by_band (λ w. w ≤ x → d ≤ fives) d (λ a b. omega arith) (λ a b c. omega arith) (λ a b c. omega arith) (λ a b. omega arith);
  }

  pub within_tens : 120 ≤ x → x ≤ 480 → LongestWithin x tens
  within_tens g h = record {
    to = omega arith;
    within = by_band (λ w. w ≤ x) tens (λ a. omega arith) (λ a b. let e : (tens + 10 - 1) / 10 ≤ x / 10 = omega arith in omega (arith, e))
        (λ a b. let e : (tens + 30 - 1) / 30 ≤ 16 = omega arith in omega (arith, e)) (λ a. omega arith);
    most = λ d l. by_band (λ w. w ≤ x → d ≤ tens) d (λ a b. omega arith) (λ a b c. omega arith) (λ a b c. omega arith) (λ a b. omega arith);
  }

  pub within_thirties : 480 ≤ x → x ≤ longest → LongestWithin x thirties
  within_thirties g h = record {
    to = omega arith;
    within = by_band (λ w. w ≤ x) thirties (λ a. omega arith) (λ a b. omega arith) (λ a b. let e : (thirties + 30 - 1) / 30 ≤ x / 30 = omega arith in omega (arith, e)) (λ a. omega arith);
    most = λ d l. by_band (λ w. w ≤ x → d ≤ thirties) d (λ a b. omega arith) (λ a b c. omega arith) (λ a b c. omega arith) (λ a b. omega arith);
  }

  pub within_all : longest ≤ x → LongestWithin x longest
  within_all h = record { to = omega arith; within = h; most = λ d l b. l }
