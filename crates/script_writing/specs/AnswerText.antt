-- The lines of an answer as the code gives it: those of the reply that it stands for.
-- Assumes nothing.
use Rattle.std.specs.Prelude.{◌≡◌, refl, Bool, true, false, cond, List, [], ◌∷◌, ◌++◌, ℕ, ◌-◌, length, take, replicate}
use Rattle.std.proofs.Common.{take_at}
use Rattle.lists.specs.Tests.{true_false}
use Rattle.lists.specs.Pads.{pad}
use Rattle.text.specs.Numbers.{decimal_of}
use Rattle.scheduler.specs.declared.Kind.{Kind}
use Rattle.scheduler.specs.declared.Kind.TheVariants.{Conservative, Easy}
use Rattle.scheduler.specs.declared.Tickets.{Tickets}
use Rattle.scheduler.specs.declared.Answer.{Answer}
use Rattle.scheduler.specs.Limits.{slots}
use Rattle.scheduler.specs.Table.{tickets}
use Rattle.scheduler.specs.Answers.{Reply, accepts, code, answer}
use Rattle.script_rules.specs.Writing.{took_word, over_word, start_word, head_word, row, no_row, rows_of, promise_field, row_if, taken, text_of}

-- the bytes of the longest answer: a ticket given, 64 jobs ended, 64 started, and a head, with numbers of 10 digits
abbrev pub page_bytes : ℕ
page_bytes = 3574

-- the tickets that a list names
abbrev pub named : Tickets → List ℕ
named t = take t.count t.list

-- whether a promise is printed
abbrev pub promises : Kind → Bool
promises Conservative = true
promises Easy = false

pub promised : (k : Kind) (p : ℕ) → promises k ≡ true → promise_field k p ≡ decimal_of p
promised Conservative p e = refl
promised Easy p e = true_false false e refl

pub unpromised : (k : Kind) (p : ℕ) → promises k ≡ false → promise_field k p ≡ 45 ∷ []
unpromised Conservative p e = true_false true refl e
unpromised Easy p e = refl

-- the line of a ticket given
unfoldable pub took_text : Kind → ℕ → ℕ → List ℕ
took_text k t p = row_if t (row took_word (decimal_of t) (promise_field k p))

-- the line of a new head
unfoldable pub head_text : ℕ → ℕ → List ℕ
head_text t m = row_if t (row head_word (decimal_of t) (decimal_of m))

unfoldable pub taken_text : Kind → ℕ → Answer → List ℕ
taken_text k minute a =
    took_text k a.ticket a.promise
    ++ (rows_of over_word minute (named a.ended)
    ++ (rows_of start_word minute (named a.started)
    ++ head_text a.head a.forecast))

unfoldable pub answer_text : Kind → ℕ → Answer → List ℕ
answer_text k minute a = cond (accepts a.refusal) (taken_text k minute a) (no_row (code a.refusal))

pub named_tickets : (ts : List ℕ) → named (tickets ts) ≡ ts
unfolding tickets pad
named_tickets ts = take_at ts (replicate (slots - length ts) 0) (length ts) refl

pub answer_text_lem : (k : Kind) (minute : ℕ) (r : Reply) → answer_text k minute (answer r) ≡ text_of k minute r
unfolding answer_text taken_text took_text head_text text_of taken
answer_text_lem k minute r = rw (named_tickets r.ended, named_tickets r.started)
