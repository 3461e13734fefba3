-- What a line says. Document 01: "First line: `desk`, `promise` or `loose`, nodes, minute, ticket. Later: `in` nodes estimate; `end`
-- ticket; `wait` minutes"; "fields parted by one tab"; document 02, No. 1: `drop` ticket; No. 4: "the `desk` line always has the
-- clearing, then the places of A and of B, and an `in` line ends with its house"; No. 7: "Intake gives a least and a most, on the sheet in
-- that order", or "one number". Every other line "lacks the form".
-- Assumes nothing.
use Rattle.std.specs.Prelude.{cond, List, [], ◌∷◌, ℕ}
use Rattle.std.proofs.Math.Option.{Option, none, some}
use Rattle.std.specs.declared.option.Option as rust
use Rattle.scheduler.specs.Tenants.{tenant_of}
use Rattle.history.specs.Calls.{Command, ask, wait, submit, order_between, complete, cancel}
use Rattle.desk_lines.specs.Lines.{Line}
use Rattle.desk_lines.specs.DeskLine.{number_at, letter_at, has_form, with_number, closed_only}

abbrev pub in_word : List ℕ
in_word = 105 ∷ 110 ∷ []

abbrev pub end_word : List ℕ
end_word = 101 ∷ 110 ∷ 100 ∷ []

abbrev pub wait_word : List ℕ
wait_word = 119 ∷ 97 ∷ 105 ∷ 116 ∷ []

abbrev pub drop_word : List ℕ
drop_word = 100 ∷ 114 ∷ 111 ∷ 112 ∷ []

-- a job of the house with this letter
abbrev pub submit_for : rust.Option ℕ → (nodes least most : ℕ) → Option Command
submit_for h n l e = with_number h (λ t. some (ask (submit (order_between (tenant_of t) n l e))))

unfoldable pub command_in : List ℕ → Option Command
command_in s =
    cond
    (has_form s 4 in_word)
    (with_number (number_at s 1) (λ n. with_number (number_at s 2) (λ e. submit_for (letter_at s 3) n 0 e)))
    (cond
    (has_form s 5 in_word)
    (with_number (number_at s 1) (λ n. with_number (number_at s 2) (λ l. with_number (number_at s 3) (λ e. submit_for (letter_at s 4) n l e))))
    (cond
    (has_form s 2 end_word)
    (with_number (number_at s 1) (λ t. some (ask (complete t))))
    (cond
    (has_form s 2 wait_word)
    (with_number (number_at s 1) (λ n. some (wait n)))
    (cond (has_form s 2 drop_word) (with_number (number_at s 1) (λ t. some (ask (cancel t)))) none))))

abbrev pub command_of : Line → Option Command
command_of l = closed_only l.closed (command_in l.bytes)
