-- What an answer prints. Document 01: "`took` ticket promise (`-` on the Loose Desk); `over` ticket minute; `start` ticket minute;
-- `head` ticket forecast. Within a call or step, in that order"; a refusal "prints `no` and its number".
-- Assumes nothing.
use Rattle.std.specs.Prelude.{cond, List, [], ◌∷◌, ◌++◌, ℕ, eqb}
use Rattle.text.specs.Numbers.{decimal_of}
use Rattle.desk_lines.specs.DeskLine.{and_field}
use Rattle.scheduler.specs.declared.Kind.{Kind}
use Rattle.scheduler.specs.declared.Kind.TheVariants.{Conservative, Easy}
use Rattle.scheduler.specs.Answers.{Reply, accepts, code, head_ticket, head_minute}

abbrev pub no_word : List ℕ
no_word = 110 ∷ 111 ∷ []

abbrev pub took_word : List ℕ
took_word = 116 ∷ 111 ∷ 111 ∷ 107 ∷ []

abbrev pub over_word : List ℕ
over_word = 111 ∷ 118 ∷ 101 ∷ 114 ∷ []

abbrev pub start_word : List ℕ
start_word = 115 ∷ 116 ∷ 97 ∷ 114 ∷ 116 ∷ []

abbrev pub head_word : List ℕ
head_word = 104 ∷ 101 ∷ 97 ∷ 100 ∷ []

-- a line of a word and two fields
unfoldable pub row : List ℕ → List ℕ → List ℕ → List ℕ
row w a b = w ++ (and_field a ++ (and_field b ++ (10 ∷ [])))

unfoldable pub no_row : ℕ → List ℕ
no_row n = no_word ++ (and_field (decimal_of n) ++ (10 ∷ []))

-- one line for each ticket, with the minute
unfoldable pub rows_of : List ℕ → ℕ → List ℕ → List ℕ
rows_of w now [] = []
rows_of w now (t ∷ ts) = row w (decimal_of t) (decimal_of now) ++ rows_of w now ts

-- the promise as it is printed
abbrev pub promise_field : Kind → ℕ → List ℕ
promise_field Conservative p = decimal_of p
promise_field Easy p = 45 ∷ []

-- a ticket given, or head now: none is 0
abbrev pub row_if : ℕ → List ℕ → List ℕ
row_if t r = cond (eqb t 0) [] r

-- the lines of an answer with the clock after it
unfoldable pub taken : Kind → ℕ → Reply → List ℕ
taken k now r =
    row_if r.ticket (row took_word (decimal_of r.ticket) (promise_field k r.promise))
    ++ (rows_of over_word now r.ended
    ++ (rows_of start_word now r.started
    ++ row_if (head_ticket r.head) (row head_word (decimal_of (head_ticket r.head)) (decimal_of (head_minute r.head)))))

unfoldable pub text_of : Kind → ℕ → Reply → List ℕ
text_of k now r = cond (accepts r.refusal) (taken k now r) (no_row (code r.refusal))
