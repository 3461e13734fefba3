-- The sentences by lists of numbers, as they are written: of each job in order its ticket, its nodes, the minute from which these are taken, and that
-- from which they are free again.
-- Assumes nothing.
use Rattle.std.specs.Prelude.{cond, ◌&&◌, ◌≡◌, List, [], ◌∷◌, ◌++◌, leb, ltb, length, get_or}
use Rattle.std.proofs.Math.Path.{refl}
use Rattle.std.proofs.Common.{append_assoc}
use Rattle.std.proofs.Math.Logic.{⊎_elim}
use Prim.Native.Nat.{ℕ, zero, suc, ◌+◌, ◌≤◌, ◌<◌}
use Rattle.std.proofs.Math.Numerals.{add-one}
use native.Mathlib.Omega.{arith}
use Rattle.std.proofs.Math.ListN.{length-append}
use Rattle.lists.specs.Tests.{le_or}
use Rattle.text.specs.Numbers.{decimal_of}
use Rattle.text.specs.Quoted.{bytes}
use Rattle.scheduler.specs.declared.Job.{Job}
use Rattle.scheduler.specs.Jobs.{is_waiting}
use Rattle.why_rules.specs.Why.{minute_before}

-- a word and a number, twice
abbrev pub pair_text : (first : List ℕ) (v : ℕ) (second : List ℕ) (w : ℕ) → List ℕ
pair_text first v second w = first ++ (decimal_of v ++ (second ++ decimal_of w))

pub pair_length : (first : List ℕ) (v : ℕ) (second : List ℕ) (w : ℕ)
    → length (pair_text first v second w) ≡ length first + (length (decimal_of v) + (length second + length (decimal_of w)))
pair_length first v second w = simp length-append

-- with what stands after them
pub pair_then : (first : List ℕ) (v : ℕ) (second : List ℕ) (w : ℕ) (rest : List ℕ)
    → pair_text first v second w ++ rest ≡ first ++ (decimal_of v ++ (second ++ (decimal_of w ++ rest)))
pair_then first v second w rest = simp append_assoc

-- a holder, if its nodes are taken in this minute
abbrev pub row_text : (minute ticket nodes from until : ℕ) → List ℕ
row_text t ticket nodes from until = cond (leb from t && ltb t until) (pair_text (bytes ", ") ticket (bytes " with ") nodes) []

module _ (t : ℕ) (tickets held froms untils : List ℕ) where
  abbrev pub row_at : ℕ → List ℕ
  row_at i = row_text t (get_or tickets i 0) (get_or held i 0) (get_or froms i 0) (get_or untils i 0)

  -- the holders among the first n jobs
  unfoldable pub rows_text : ℕ → List ℕ
  rows_text zero = []
  rows_text (suc i) = rows_text i ++ row_at i

  -- one more, and no more than all
  pub rows_none : rows_text 0 ≡ []
  unfolding rows_text
  rows_none = refl

  pub rows_more : (i : ℕ) → rows_text (i + 1) ≡ rows_text i ++ row_at i
  unfolding rows_text
  rows_more i = rw add-one

  pub rows_room : (i n : ℕ) → i < n → length (rows_text i) + length (row_at i) ≤ length (rows_text n)
  unfolding rows_text
  rows_room i zero l = absurd (omega arith)
  rows_room i (suc n) l =
      ⊎_elim
      (λ (h : n ≤ i). let e : i ≡ n = omega arith in rw e (omega (arith, length-append (rows_text n) (row_at n))))
      (λ (h : i < n). omega (arith, length-append (rows_text n) (row_at n), rows_room i n h))
      (le_or n i)

-- the sentence of a job with this ticket, of this minute
unfoldable pub listed_text : (ticket minute : ℕ) (tickets held froms untils : List ℕ) (count : ℕ) → List ℕ
listed_text ticket t tickets held froms untils count =
    pair_text (bytes "stack ") ticket (bytes " waits, minute ") t ++ (rows_text t tickets held froms untils count ++ (10 ∷ []))

pub listed_length : (ticket minute : ℕ) (tickets held froms untils : List ℕ) (count : ℕ)
    → length (listed_text ticket minute tickets held froms untils count)
    ≡ length (pair_text (bytes "stack ") ticket (bytes " waits, minute ") minute) + (length (rows_text minute tickets held froms untils count) + 1)
unfolding listed_text
listed_length ticket t tickets held froms untils count =
    let pair = pair_text (bytes "stack ") ticket (bytes " waits, minute ") t in
    let rows = rows_text t tickets held froms untils count in
    omega (arith, length-append pair (rows ++ (10 ∷ [])), length-append rows (10 ∷ []))

-- the sentence of a slot
abbrev pub slot_text : (tickets held froms untils : List ℕ) (count : ℕ) → Job → List ℕ
slot_text tickets held froms untils count j = cond (is_waiting j) (listed_text j.ticket (minute_before j) tickets held froms untils count) []
