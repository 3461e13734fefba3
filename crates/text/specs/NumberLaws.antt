-- Laws of numbers in decimal: how long they are, that what is written is read back, and that two numbers never have the same digits.
-- Assumes nothing.
use Rattle.std.specs.Prelude.{◌≡◌, refl, true, false, not, ◌&&◌, List, [], ◌∷◌, ◌++◌, ℕ, zero, suc, ◌+◌, ◌-◌, ◌*◌, ◌/◌, ◌%◌, ◌≤◌, ◌<◌, leb, ltb, length, get_or, drop, Some, None}
use Rattle.std.proofs.Common.{sym, ap, ◌∙◌, ⊎_elim, add-one, arith, drop_of_length-le, length-append, drop-cons}
use Rattle.std.proofs.Math.ListN.{get_or-append}
use borrow.Author.Tests.{lt-ltb, le-ltb, le-leb, lt-leb, ne_eqb, ltb-true, ltb-false, leb-true}
use Rattle.lists.specs.Tests.{case, both, le_or, and_right_false}
use Rattle.lists.specs.Lists.{All, all_append}
use Rattle.text.specs.Numbers.{is_digit, digits_from, leading_zero, good_form, number_of, decimal_by, decimal_of}

not_is {ℓ} : {A : Type ℓ} (v : ℕ) → None ≡ Some v → A
not_is v e = absurd (let z : ◌≡◌ {A = ℕ} 0 1 = cc in omega arith)

-- 10 to the i
pub ten : ℕ → ℕ
ten zero = 1
ten (suc i) = 10 * ten i

pub ten_zero : ten 0 ≡ 1
unfolding ten
ten_zero = refl

pub ten_more : (i : ℕ) → ten (i + 1) ≡ 10 * ten i
unfolding ten
ten_more i = rw add-one

ten_mono : (n i : ℕ) → i ≤ n → ten i ≤ ten n
unfolding ten
ten_mono zero zero h = omega arith
ten_mono (suc n) zero h = omega (arith, ten_mono n zero (omega arith))
ten_mono zero (suc i) h = absurd (omega arith)
ten_mono (suc n) (suc i) h = omega (arith, ten_mono n i (omega arith))

pub ten_low : (i : ℕ) → i ≤ 7 → ten i ≤ 10000000
unfolding ten
ten_low i h = ten_mono 7 i h

-- digits read from a place on
module _ (s : List ℕ) (i v : ℕ) where
  abbrev byte : ℕ
  byte = get_or s i 0

  pub digits_more : i < length s → 48 ≤ byte → byte ≤ 57 → digits_from v (drop i s) ≡ digits_from (v * 10 + (byte - 48)) (drop (i + 1) s)
  unfolding digits_from
  digits_more h l u = rw (drop-cons s i 0 h, le-leb 48 byte l, le-leb byte 57 u, add-one)

  pub digits_low : i < length s → byte < 48 → digits_from v (drop i s) ≡ None
  unfolding digits_from
  digits_low h l = rw (drop-cons s i 0 h, lt-leb 48 byte l)

  pub digits_high : i < length s → 48 ≤ byte → 57 < byte → digits_from v (drop i s) ≡ None
  unfolding digits_from
  digits_high h l u = rw (drop-cons s i 0 h, le-leb 48 byte l, lt-leb byte 57 u)

  pub digits_end : length s ≤ i → digits_from v (drop i s) ≡ Some v
  unfolding digits_from
  digits_end h = rw (drop_of_length-le s h)

-- v in decimal: the last digit, after v / 10 in decimal
decimal_enough : (n m v : ℕ) → v < n → v < m → decimal_by n v ≡ decimal_by m v
unfolding decimal_by
decimal_enough zero m v h k = absurd (omega arith)
decimal_enough (suc n) zero v h k = absurd (omega arith)
decimal_enough (suc n) (suc m) v h k =
    case (ltb v 10)
    (λ e. rw e)
    (λ e. rw e (let big = ltb-false v 10 e in rw (decimal_enough n m (v / 10) (omega arith) (omega arith))))

pub decimal_one : (v : ℕ) → v < 10 → decimal_of v ≡ (48 + v) ∷ []
unfolding decimal_of decimal_by
decimal_one v h = rw (lt-ltb v 10 h)

pub decimal_more : (v : ℕ) → 10 ≤ v → decimal_of v ≡ decimal_of (v / 10) ++ ((48 + v % 10) ∷ [])
unfolding decimal_of decimal_by
decimal_more v h =
    rw (le-ltb v 10 h)
    (ap (λ (l : List ℕ). l ++ ((48 + v % 10) ∷ [])) (decimal_enough v (suc (v / 10)) (v / 10) (omega arith) (omega arith)))

pub decimal_length : (v : ℕ) → 10 ≤ v → length (decimal_of v) ≡ length (decimal_of (v / 10)) + 1
decimal_length v h = ap length (decimal_more v h) ∙ length-append (decimal_of (v / 10)) ((48 + v % 10) ∷ [])

-- what holds of one digit, and of v where it does of v / 10, holds of every number
module _ (P : ℕ → Type 0) (one : (v : ℕ) → v < 10 → P v) (more : (v : ℕ) → 10 ≤ v → P (v / 10) → P v) where
  tenths_below : (n v : ℕ) → v < n → P v
  tenths_below zero v h = absurd (omega arith)
  tenths_below (suc n) v h =
      case (ltb v 10)
      (λ e. one v (ltb-true v 10 e))
      (λ e. let big = ltb-false v 10 e in more v big (tenths_below n (v / 10) (omega arith)))

  by_tenths : (v : ℕ) → P v
  by_tenths v = tenths_below (suc v) v (omega arith)

-- how long it is
pub decimal_some : (v : ℕ) → 1 ≤ length (decimal_of v)
decimal_some =
    by_tenths
    (λ (v : ℕ). 1 ≤ length (decimal_of v))
    (λ v h. rw (decimal_one v h) (omega arith))
    (λ v h s. omega (arith, decimal_length v h))

decimal_most : (k v : ℕ) → v < ten (suc k) → length (decimal_of v) ≤ suc k
unfolding ten
decimal_most zero v h = rw (decimal_one v (omega arith)) (omega arith)
decimal_most (suc k) v h =
    ⊎_elim
    (λ big. omega (arith, decimal_length v big, decimal_most k (v / 10) (omega arith)))
    (λ low. rw (decimal_one v low) (omega arith))
    (le_or 10 v)

pub decimal_four : (v : ℕ) → v ≤ 9999 → length (decimal_of v) ≤ 4
unfolding ten
decimal_four v h = decimal_most 3 v (omega arith)

pub decimal_five : (v : ℕ) → v ≤ 99999 → length (decimal_of v) ≤ 5
unfolding ten
decimal_five v h = decimal_most 4 v (omega arith)

pub decimal_six : (v : ℕ) → v ≤ 999999 → length (decimal_of v) ≤ 6
unfolding ten
decimal_six v h = decimal_most 5 v (omega arith)

pub decimal_seven : (v : ℕ) → v ≤ 9999999 → length (decimal_of v) ≤ 7
unfolding ten
decimal_seven v h = decimal_most 6 v (omega arith)

pub decimal_ten : (v : ℕ) → v < 4294967296 → length (decimal_of v) ≤ 10
unfolding ten
decimal_ten v h = decimal_most 9 v (omega arith)

-- all of it are digits
pub decimal_digits : (v : ℕ) → All (λ (b : ℕ). (48 ≤ b) × (b ≤ 57)) (decimal_of v)
decimal_digits =
    by_tenths
    (λ (v : ℕ). All Digit (decimal_of v))
    (λ v h. rw (decimal_one v h) ((omega arith, omega arith), tt))
    (λ v h a. rw (decimal_more v h) (all_append Digit (decimal_of (v / 10)) ((48 + v % 10) ∷ []) a ((omega arith, omega arith), tt)))
  where
    Digit : ℕ → Type 0
    Digit b = (48 ≤ b) × (b ≤ 57)

-- a number that is read has at most seven digits
digits_below : (s : List ℕ) (u v k : ℕ) → k + length s ≤ 7 → u < ten k → digits_from u s ≡ Some v → v ≤ 9999999
unfolding digits_from
digits_below [] u v k l h e = let q : u ≡ v = cc in omega (arith, ten_low k (omega arith))
digits_below (b ∷ bs) u v k l h e =
    case (is_digit b)
    (λ t. digits_below bs (u * 10 + (b - 48)) v (k + 1) (omega arith) (omega (arith, ten_more k, leb-true b 57 (both (leb 48 b) (leb b 57) t).1)) (rw t at e))
    (λ t. not_is v (rw t at e))

pub number_most : (s : List ℕ) (v : ℕ) → number_of s ≡ Some v → v ≤ 9999999
unfolding number_of
number_most s v e =
    case (good_form s)
    (λ t. digits_below s 0 v 0 (short t) (omega (arith, ten_zero)) (rw t at e))
    (λ t. not_is v (rw t at e))
  where
    short : good_form s ≡ true → 0 + length s ≤ 7
    short t =
        let sized = (both (leb 1 (length s) && leb (length s) 7) (not (leading_zero s)) t).0 in
        omega (arith, leb-true (length s) 7 (both (leb 1 (length s)) (leb (length s) 7) sized).1)

-- what is written is read back
digits_last : (s : List ℕ) (u w d : ℕ) → d < 10 → digits_from u s ≡ Some w → digits_from u (s ++ ((48 + d) ∷ [])) ≡ Some (w * 10 + d)
unfolding digits_from
digits_last [] u w d h e =
    let q : u ≡ w = cc in
    rw (le-leb 48 (48 + d) (omega arith), le-leb (48 + d) 57 (omega arith)) (ap Some (omega arith))
digits_last (b ∷ bs) u w d h e =
    case (is_digit b)
    (λ t. rw t (digits_last bs (u * 10 + (b - 48)) w d h (rw t at e)))
    (λ t. not_is w (rw t at e))

digits_decimal : (v : ℕ) → digits_from 0 (decimal_of v) ≡ Some v
unfolding digits_from
digits_decimal =
    by_tenths
    (λ (v : ℕ). digits_from 0 (decimal_of v) ≡ Some v)
    (λ v h. rw (decimal_one v h) (digits_last [] 0 0 v h refl ∙ ap Some (omega arith)))
    (λ v h e. rw (decimal_more v h) (digits_last (decimal_of (v / 10)) 0 (v / 10) (v % 10) (omega arith) e ∙ ap Some (omega arith)))

-- two numbers in decimal are the same text only if they are the same
pub decimal_tells : (v w : ℕ) → decimal_of v ≡ decimal_of w → v ≡ w
decimal_tells v w e = let q : Some v ≡ Some w = sym (digits_decimal v) ∙ ap (digits_from 0) e ∙ digits_decimal w in cc

decimal_first : (v : ℕ) → 1 ≤ v → 48 < get_or (decimal_of v) 0 0
decimal_first =
    by_tenths
    (λ (v : ℕ). 1 ≤ v → 48 < get_or (decimal_of v) 0 0)
    (λ v h p. rw (decimal_one v h) (omega arith))
    (λ v h f p. rw (decimal_more v h, get_or-append (decimal_of (v / 10)) _ 0 0 (decimal_some (v / 10))) (f (omega arith)))

no_leading_zero : (v : ℕ) → leading_zero (decimal_of v) ≡ false
no_leading_zero v =
    ⊎_elim
    (λ big. and_right_false (ltb 1 (length (decimal_of v))) (ne_eqb (get_or (decimal_of v) 0 0) 48 (λ e. omega (arith, decimal_first v (omega arith)))))
    (λ low. rw (decimal_one v low))
    (le_or 10 v)

pub number_decimal : (v : ℕ) → v ≤ 9999999 → number_of (decimal_of v) ≡ Some v
unfolding number_of
number_decimal v h =
    rw (le-leb 1 _ (decimal_some v), le-leb _ 7 (decimal_seven v h), no_leading_zero v) (digits_decimal v)
