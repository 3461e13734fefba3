-- The lines of a script, from a place on.
-- Assumes nothing.
use Rattle.std.specs.Prelude.{◌≡◌, cond, List, [], ◌∷◌, eqb, ltb, take}
use Rattle.std.proofs.Math.Path.{sym, ap}
use Rattle.std.proofs.Common.{◌∙◌, drop_of_length-le}
use Rattle.std.proofs.Math.Bool.{true, false}
use Prim.Native.Nat.{ℕ, suc, ◌+◌, ◌-◌, ◌≤◌, ◌<◌}
use native.Mathlib.Omega.{arith}
use Rattle.std.proofs.Math.ListN.{length, drop, length-drop}
use Rattle.std.proofs.Math.Seq.{drop-drop}
use borrow.Author.Tests.{ltb-true, ltb-false}
use Rattle.lists.specs.Tests.{case}
use Rattle.text.specs.Prefixes.{upto, upto_take, upto_le}
use Rattle.text.specs.Lines.{line_at}
use Rattle.desk_lines.specs.Lines.{Line, in_line, lines_of}

-- the line at a place, and where the next one begins
abbrev pub line_of : List ℕ → ℕ → Line
line_of s at = record { bytes = take ((line_at s at).end - at) (drop at s); closed = (line_at s at).closed }

abbrev pub past : List ℕ → ℕ → ℕ
past s at = cond (line_at s at).closed ((line_at s at).end + 1) (line_at s at).end

-- the first line, closed
pub lines_closed : (t : List ℕ) → length (upto 10 t) < length t
    → lines_of t ≡ record { bytes = upto 10 t; closed = true } ∷ lines_of (drop (suc (length (upto 10 t))) t)
unfolding
    upto
    lines_of
lines_closed [] h = absurd (omega arith)
lines_closed (b ∷ bs) h =
    case (eqb b 10)
    (λ e. rw e)
    (λ e. rw (e, lines_closed bs (omega (arith, rw e at h))))

-- or unclosed: then it is the last
pub lines_unclosed : (t : List ℕ) → 0 < length t → length t ≤ length (upto 10 t) → lines_of t ≡ record { bytes = upto 10 t; closed = false } ∷ []
unfolding
    upto
    lines_of
lines_unclosed [] h q = absurd (omega arith)
lines_unclosed (b ∷ []) h q = case (eqb b 10) (λ e. absurd (omega (arith, rw e at q))) (λ e. rw e)
lines_unclosed (b ∷ c ∷ bs) h q =
    case (eqb b 10)
    (λ e. absurd (omega (arith, rw e at q)))
    (λ e. rw (e, lines_unclosed (c ∷ bs) (omega arith) (omega (arith, rw e at q))))

-- no more lines than bytes
pub lines_few : (t : List ℕ) → length (lines_of t) ≤ length t
unfolding lines_of
lines_few [] = omega arith
lines_few (b ∷ bs) = case (eqb b 10) (λ e. rw e (omega (arith, lines_few bs))) (λ e. rw e (omega (arith, one (lines_of bs), lines_few bs)))
  where
    one : (ls : List Line) → length (in_line b ls) ≤ suc (length ls)
    one [] = omega arith
    one (l ∷ ls) = omega arith

pub lines_done : (s : List ℕ) (at : ℕ) → length s ≤ at → lines_of (drop at s) ≡ []
unfolding lines_of
lines_done s at h = rw (drop_of_length-le s h)

-- where the next line begins is further on, and in the text
pub record Past (s : List ℕ) (at : ℕ) : Type 0 where
  pub further : at < past s at
  pub within : past s at ≤ length s

module _ (s : List ℕ) (at : ℕ) where
  line_end_lem : (line_at s at).end - at ≡ length (upto 10 (drop at s))
  unfolding line_at
  line_end_lem = omega arith

  line_bytes_lem : (line_of s at).bytes ≡ upto 10 (drop at s)
  line_bytes_lem = ap (λ n. take n (drop at s)) line_end_lem ∙ upto_take 10 (drop at s)

  module _ (h : at < length s) where
    -- the lines from a place on are the one there and those from the next on
    pub lines_from : lines_of (drop at s) ≡ line_of s at ∷ lines_of (drop (past s at) s)
    unfolding line_at
    lines_from =
        let t = drop at s in
        let n = length (upto 10 t) in
        let size : length t ≡ length s - at = length-drop at s in
        case (ltb (at + n) (length s))
        (λ e.
        let k = ltb-true (at + n) (length s) e in
        let place : at + suc n ≡ at + n + 1 = omega arith in
        let rest : drop (suc n) t ≡ drop (at + n + 1) s = drop-drop (suc n) at s ∙ ap (λ (i : ℕ). drop i s) place in
        rw e (lines_closed t (omega (arith, size, k)) ∙ (λ i. record { bytes = sym line_bytes_lem i; closed = true } ∷ lines_of (rest i))))
        (λ e.
        let k = ltb-false (at + n) (length s) e in
        rw e (lines_unclosed t (omega (arith, size)) (omega (arith, size, k))
        ∙ (λ i. record { bytes = sym line_bytes_lem i; closed = false } ∷ sym (lines_done s (at + n) k) i)))

    pub past_line : Past s at
    unfolding line_at
    past_line =
        let t = drop at s in
        let n = length (upto 10 t) in
        let size : length t ≡ length s - at = length-drop at s in
        case (ltb (at + n) (length s))
        (λ e. record { further = rw e (omega arith); within = rw e (omega (arith, ltb-true (at + n) (length s) e)) })
        (λ e. record { further = rw e (omega (arith, ltb-false (at + n) (length s) e)); within = rw e (omega (arith, size, upto_le 10 t)) })
