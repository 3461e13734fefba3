-- The fields of a line as numbers and letters, and the `desk` line. Document 01: "First line: `desk`, `promise` or `loose`, nodes, minute, ticket";
-- "fields parted by one tab"; document 02, No. 4: "the `desk` line always has the clearing, then the places of A and of B"; No. 11: in a desk's
-- text, "the `desk` line with clock and next ticket".
-- Assumes nothing.
use Rattle.std.specs.Prelude.{Bool, true, false, cond, ◌&&◌, List, [], ◌∷◌, ℕ, eqb, length, Some, None}
use Rattle.std.proofs.Math.Option.{Option, none, some}
use Rattle.std.specs.declared.option.Option as rust
use Rattle.text.specs.Fields.{fields_of, field_of}
use Rattle.text.specs.Numbers.{number_of}
use Rattle.text.specs.Letters.{capital_of}
use Rattle.text.specs.Words.{is_word}
use Rattle.scheduler.specs.Limits.{longest_estimate}
use Rattle.scheduler.specs.declared.Kind.{Kind}
use Rattle.scheduler.specs.declared.Kind.TheVariants.{Conservative, Easy}
use Rattle.scheduler.specs.declared.Opening.{Opening}
use Rattle.desk_lines.specs.Lines.{Line}

abbrev pub desk_word : List ℕ
desk_word = 100 ∷ 101 ∷ 115 ∷ 107 ∷ []

abbrev pub promise_word : List ℕ
promise_word = 112 ∷ 114 ∷ 111 ∷ 109 ∷ 105 ∷ 115 ∷ 101 ∷ []

abbrev pub loose_word : List ℕ
loose_word = 108 ∷ 111 ∷ 111 ∷ 115 ∷ 101 ∷ []

-- the field k as a number
abbrev pub number_at : List ℕ → ℕ → rust.Option ℕ
number_at s k = number_of (field_of s k)

-- and as a capital letter
abbrev pub letter_at : List ℕ → ℕ → rust.Option ℕ
letter_at s k = capital_of (field_of s k)

-- n fields, the first of them the word w
unfoldable pub has_form : List ℕ → ℕ → List ℕ → Bool
has_form s n w = eqb (length (fields_of s)) n && is_word w (field_of s 0)

-- numbers, all of them read
abbrev pub with_number : {A : Type 0} → rust.Option ℕ → (ℕ → Option A) → Option A
with_number (Some v) f = f v
with_number None f = none

unfoldable pub kind_of : List ℕ → Option Kind
kind_of s = cond (is_word promise_word s) (some Conservative) (cond (is_word loose_word s) (some Easy) none)

abbrev pub with_kind : {A : Type 0} → Option Kind → (Kind → Option A) → Option A
with_kind (some k) f = f k
with_kind none f = none

-- document 02, No. 6: "longest estimate (elsewhere 10,080)"
unfoldable pub opening_in : List ℕ → Option Opening
opening_in s =
    cond
    (has_form s 8 desk_word)
    (with_kind (kind_of (field_of s 1)) (λ k. with_number (number_at s 2) (λ n. with_number (number_at s 3) (λ m. with_number (number_at s 4) (λ t.
    with_number (number_at s 5) (λ c. with_number (number_at s 6) (λ a. with_number (number_at s 7) (λ b.
    some (record {
      settings = record { kind = k; nodes = n; cleanup = c; quota_a = a; quota_b = b; longest = longest_estimate };
      minute = m;
      ticket = t;
    })))))))))
    none

-- "An unclosed last line is refused by 9."
abbrev pub closed_only : {A : Type 0} → Bool → Option A → Option A
closed_only true a = a
closed_only false a = none

abbrev pub opening_of : Line → Option Opening
opening_of l = closed_only l.closed (opening_in l.bytes)

-- a tab and a field
abbrev pub and_field : List ℕ → List ℕ
and_field f = 9 ∷ f
