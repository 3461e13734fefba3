-- What a line of a season's list says. Document 02, No. 6: "a list of stacks, one a line: arrival minute, nodes, estimate, true run length, at
-- most 4,096 lines [...]; further lines are refused by 9"; "A first line has the settings: `promise` or `loose`, rack nodes, clearing, longest
-- estimate". "The day sheet's rules on size, numbers and line ends hold, with 262,144 bytes for 65,536."
-- Assumes nothing.
use Rattle.std.specs.Prelude.{cond, List, ℕ, eqb, ltb, length}
use Rattle.std.proofs.Math.Option.{Option, none, some}
use Rattle.text.specs.Fields.{fields_of, field_of}
use Rattle.scheduler.specs.declared.Kind.{Kind}
use Rattle.scheduler.specs.declared.Opening.{Opening}
use Rattle.desk_lines.specs.Lines.{Line}
use Rattle.desk_lines.specs.DeskLine.{number_at, with_number, kind_of, with_kind, closed_only}
use Rattle.season_rules.specs.declared.Arrival.{Arrival}

abbrev pub longest_list : ℕ
longest_list = 262144

abbrev pub most_lines : ℕ
most_lines = 4096

-- "from minute 0 and ticket 1 [...], all as house A with 63 places"
abbrev pub opening_with : Kind → (nodes cleanup longest : ℕ) → Opening
opening_with k n c e =
    record { settings = record { kind = k; nodes = n; cleanup = c; quota_a = 63; quota_b = 1; longest = e }; minute = 0; ticket = 1 }

-- four fields: the kind and three numbers
unfoldable pub opening_in : List ℕ → Option Opening
opening_in s =
    cond
    (eqb (length (fields_of s)) 4)
    (with_kind (kind_of (field_of s 0)) (λ k. with_number (number_at s 1) (λ n. with_number (number_at s 2) (λ c. with_number (number_at s 3) (λ e.
    some (opening_with k n c e))))))
    none

-- four numbers
unfoldable pub arrival_in : List ℕ → Option Arrival
arrival_in s =
    cond
    (eqb (length (fields_of s)) 4)
    (with_number (number_at s 0) (λ m. with_number (number_at s 1) (λ n. with_number (number_at s 2) (λ e. with_number (number_at s 3) (λ a.
    some (record { minute = m; nodes = n; estimate = e; actual = a }))))))
    none

abbrev pub opening_of : Line → Option Opening
opening_of l = closed_only l.closed (opening_in l.bytes)

-- a line of the list, with this many lines of it above
abbrev pub arrival_of : (above : ℕ) → Line → Option Arrival
arrival_of above l = cond (ltb above most_lines) (closed_only l.closed (arrival_in l.bytes)) none
