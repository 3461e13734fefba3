-- What holds of a line, for a loop that goes from one to the next.
-- Assumes nothing.
use Rattle.std.specs.Prelude.{◌≡◌, true, false, List, ℕ, ◌+◌, ◌-◌, ◌≤◌, ◌<◌, ltb, length, get_or, take, drop}
use Rattle.std.proofs.Common.{sym, subst, ◌∙◌, arith, length-drop, get_or-drop, ltb-true, ltb-false}
use Rattle.lists.specs.Tests.{case}
use Rattle.text.specs.declared.Begins.{Begins}
use Rattle.text.specs.declared.Begins.TheVariants as begins
use Rattle.text.specs.declared.Line.{Line}
use Rattle.text.specs.Prefixes.{upto, upto_take, upto_at, upto_none, upto_inside}
use Rattle.text.specs.Lines.{line_end, line_at, begins_of}

pub record Ends (text : List ℕ) (from : ℕ) (l : Line) : Type 0 where
  pub after : from ≤ l.end
  pub within : l.end ≤ length text
  -- a closed line ends at a byte 10
  pub closed_in : l.closed ≡ true → l.end < length text
  pub closed_at : l.closed ≡ true → get_or text l.end 0 ≡ 10
  -- an unclosed one where the text does
  pub unclosed : l.closed ≡ false → l.end ≡ length text
  -- its bytes, none of which is a byte 10
  pub bytes : take (l.end - from) (drop from text) ≡ upto 10 (drop from text)
  pub none : (i : ℕ) → from ≤ i → i < l.end → get_or text i 0 ≡ 10 → ⊥

pub line_ends : (text : List ℕ) (from : ℕ) (l : Line) → l ≡ line_at text from → from ≤ length text → Ends text from l
unfolding line_at
line_ends text from l e h =
    let s = drop from text in
    let n = length (upto 10 s) in
    let size : length s ≡ length text - from = length-drop from text in
    let low = upto_inside 10 text from h in
    let back : from + n - from ≡ n = omega arith in
    rw e
    record {
      after = omega arith;
      within = low;
      closed_in = λ t. ltb-true (line_end text from) (length text) t;
      closed_at = λ t. sym (get_or-drop from text n 0) ∙ upto_at 10 s (omega (arith, ltb-true (line_end text from) (length text) t));
      unclosed = λ t. omega (arith, ltb-false (line_end text from) (length text) t);
      bytes = rw back (upto_take 10 s);
      none =
          λ i a b q.
          let place : from + (i - from) ≡ i = omega arith in
          upto_none 10 s (i - from) (omega arith) (rw place at (get_or-drop from text (i - from) 0) ∙ q);
    }

-- a first line that is read ends inside the text
abbrev pub Inside : List ℕ → Begins → Type 0
Inside text begins.Nothing = Unit {0}
Inside text begins.Malformed = Unit {0}
Inside text (begins.Line e) = e < length text

pub begins_inside : (longest : ℕ) (text : List ℕ) → Inside text (begins_of longest text)
unfolding
    begins_of
    line_at
begins_inside longest text =
    case (ltb longest (length text))
    (λ q. rw q tt)
    (λ q. rw q (case (ltb (length text) 1)
    (λ r. rw r tt)
    (λ r. rw r (case (ltb (line_end text 0) (length text)) (λ c. rw c (ltb-true (line_end text 0) (length text) c)) (λ c. rw c tt)))))

pub begins_at : (longest : ℕ) (text : List ℕ) {b : Begins} {e : ℕ} → b ≡ begins_of longest text → b ≡ begins.Line e → e < length text
begins_at longest text g h = subst (Inside text) (sym g ∙ h) (begins_inside longest text)
