-- What the four fields of a line say.
-- Assumes nothing.
use Rattle.std.specs.Prelude.{◌≡◌, refl, List, [], ◌∷◌, ℕ, suc, length, drop}
use Rattle.std.proofs.Common.{sym, ap, arith, ne_eqb}
use Rattle.std.proofs.Math.Option.{Option, some}
use Rattle.text.specs.Prefixes.{upto}
use Rattle.text.specs.Fields.{fields_of}
use Rattle.text.specs.Numbers.{number_of}
use Rattle.text.specs.LineFields.{fields_at}
use Rattle.script_reading.specs.LineReading.{UpTo, reading, ended, with_nothing, up_to_as}
use Rattle.season_rules.specs.declared.Arrival.{Arrival}
use Rattle.season_rules.specs.Reading.{arrival_in}
use Rattle.season_reading.specs.declared.Row.{Row}
use Rattle.season_reading.specs.Meaning.{listed_of, meaning, means}

-- a row of the line at a place: what the line says, if it ends there
pub record Lists (list : List ℕ) (at : ℕ) (r : Row) : Type 0 where
  pub up_to : UpTo list at (arrival_in (upto 10 (drop at list))) (meaning r.listed) r.end
  -- an arrival, or a line that lacks the form
  pub some_line : listed_of (meaning r.listed) ≡ r.listed

-- ## The numbers, one after the other

abbrev pub actual_with : (minute nodes estimate actual : ℕ) → List (List ℕ) → Option Arrival
actual_with m n e a = ended (some (record { minute = m; nodes = n; estimate = e; actual = a }))

abbrev pub estimate_with : (minute nodes estimate : ℕ) → List (List ℕ) → Option Arrival
estimate_with m n e = reading number_of (actual_with m n e)

abbrev pub nodes_with : (minute nodes : ℕ) → List (List ℕ) → Option Arrival
nodes_with m n = reading number_of (estimate_with m n)

abbrev pub minute_with : (minute : ℕ) → List (List ℕ) → Option Arrival
minute_with m = reading number_of (nodes_with m)

pub says_arrival : (s : List ℕ) (fs : List (List ℕ)) → fields_of s ≡ fs → arrival_in s ≡ reading number_of minute_with fs
unfolding arrival_in number_of
says_arrival s [] e = rw e
says_arrival s (a ∷ []) e = rw e (sym (with_nothing (number_of a) _ (λ m. refl)))
says_arrival s (a ∷ b ∷ []) e = rw e (sym (with_nothing (number_of a) _ (λ m. with_nothing (number_of b) _ (λ n. refl))))
says_arrival s (a ∷ b ∷ c ∷ []) e =
    rw e (sym (with_nothing (number_of a) _ (λ m. with_nothing (number_of b) _ (λ n. with_nothing (number_of c) _ (λ e. refl)))))
says_arrival s (a ∷ b ∷ c ∷ d ∷ []) e = rw e
says_arrival s (a ∷ b ∷ c ∷ d ∷ f ∷ fs) e =
    rw (e, ne_eqb (suc (suc (suc (suc (suc (length fs)))))) 4 (λ q. omega arith))
    (sym (with_nothing (number_of a) _ (λ m. with_nothing (number_of b) _ (λ n. with_nothing (number_of c) _ (λ e. with_nothing (number_of d) _ (λ t.
    rw (ne_eqb (suc (length fs)) 0 (λ q. omega arith))))))))

pub lists_row : (list : List ℕ) (at : ℕ) (o : Option Arrival) (end : ℕ) → UpTo list at (reading number_of minute_with (fields_at list at)) o end
    → Lists list at (record { listed = listed_of o; end = end })
lists_row list at o end u = record {
  up_to = rw (means o) (up_to_as list (says_arrival (upto 10 (drop at list)) (fields_at list at) refl) u);
  some_line = ap listed_of (means o);
}
