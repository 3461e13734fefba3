-- Numbers in decimal.
-- Assumes nothing.
use Rattle.std.specs.Prelude.{Bool, true, false, not, cond, ◌&&◌, List, [], ◌∷◌, ◌++◌, ℕ, zero, suc, ◌+◌, ◌-◌, ◌*◌, ◌/◌, ◌%◌, leb, ltb, eqb, length, get_or, drop, Option, Some, None}
use Rattle.lists.specs.Pads.{pad}
use Rattle.text.specs.declared.Numbers.{Numbers}
use Rattle.text.specs.Fields.{fields_of}

abbrev pub is_digit : ℕ → Bool
is_digit b = leb 48 b && leb b 57

-- the value of digits that stand after a value v
unfoldable pub digits_from : ℕ → List ℕ → Option ℕ
digits_from v [] = Some v
digits_from v (b ∷ bs) = cond (is_digit b) (digits_from (v * 10 + (b - 48)) bs) None

abbrev pub leading_zero : List ℕ → Bool
leading_zero s = ltb 1 (length s) && eqb (get_or s 0 0) 48

abbrev pub good_form : List ℕ → Bool
good_form s = leb 1 (length s) && leb (length s) 7 && not (leading_zero s)

-- document 01: "Numbers have 1 to 7 digits, no leading zero but 0 itself."
unfoldable pub number_of : List ℕ → Option ℕ
number_of s = cond (good_form s) (digits_from 0 s) None

-- the numbers in fields up to the first that is none, n at most
abbrev pub before : Option ℕ → List ℕ → List ℕ
before (Some v) vs = v ∷ vs
before None vs = []

unfoldable pub leading : ℕ → List (List ℕ) → List ℕ
leading zero fs = []
leading (suc n) [] = []
leading (suc n) (f ∷ fs) = before (number_of f) (leading n fs)

-- the numbers in a line's fields from the field k on, as they are answered: eight at most, and the places past the last are 0
abbrev pub numbers : List ℕ → Numbers
numbers vs = record { count = length vs; values = pad 8 0 vs }

unfoldable pub numbers_from : List ℕ → ℕ → Numbers
numbers_from s k = numbers (leading 8 (drop k (fields_of s)))

-- a choice that computes only what it chooses
abbrev pub choose : {A : Type 0} → Bool → A → (Unit {0} → A) → A
choose true a f = a
choose false a f = f tt

-- v in decimal, in at most n digits
unfoldable pub decimal_by : ℕ → ℕ → List ℕ
decimal_by zero v = []
decimal_by (suc n) v = choose (ltb v 10) ((48 + v) ∷ []) (λ u. decimal_by n (v / 10) ++ ((48 + v % 10) ∷ []))

-- v in decimal, as a writer gives it
unfoldable pub decimal_of : ℕ → List ℕ
decimal_of v = decimal_by (suc v) v
