-- Laws of the fields of a line: how many there are, and where the search for one goes on and ends.
-- Assumes nothing.
use Rattle.std.specs.Prelude.{◌≡◌, refl, cond, List, [], ◌∷◌, ℕ, zero, suc, ◌+◌, ◌-◌, ◌≤◌, ◌<◌, eqb, length, get_or, drop}
use Rattle.std.specs.List.{count_by}
use Rattle.std.proofs.lemmas.List.Recursion.{is_count_by}
use Rattle.std.proofs.Common.{ap, ◌∙◌, add-one, arith, drop_of_length-le, length-drop, drop-cons, drop-drop}
use borrow.Author.Tests.{eq-eqb, ne_eqb}
use Rattle.lists.specs.Tests.{case}
use Rattle.text.specs.Prefixes.{upto, upto_le}
use Rattle.text.specs.Fields.{in_first, fields_of, or_empty, fields_from}

length_in_first : (b : ℕ) (fs : List (List ℕ)) → 1 ≤ length fs → length (in_first b fs) ≡ length fs
length_in_first b [] h = absurd (omega arith)
length_in_first b (f ∷ fs) h = refl

-- a line has at least one field
pub fields_some : (s : List ℕ) → 1 ≤ length (fields_of s)
unfolding fields_of
fields_some [] = omega arith
fields_some (b ∷ bs) =
    let more = fields_some bs in
    case (eqb b 9) (λ e. rw e (omega arith)) (λ e. rw e (omega (arith, length_in_first b (fields_of bs) more)))

module _ (s : List ℕ) (i : ℕ) where
  pub count_tab : i < length s → get_or s i 0 ≡ 9 → length (fields_of (drop i s)) ≡ suc (length (fields_of (drop (i + 1) s)))
  unfolding fields_of
  count_tab h e = rw (drop-cons s i 0 h, eq-eqb (get_or s i 0) 9 e, add-one)

  pub count_other : i < length s → (get_or s i 0 ≡ 9 → ⊥) → length (fields_of (drop i s)) ≡ length (fields_of (drop (i + 1) s))
  unfolding fields_of
  count_other h e =
      rw (drop-cons s i 0 h, ne_eqb (get_or s i 0) 9 e, add-one)
      (length_in_first (get_or s i 0) (fields_of (drop (suc i) s)) (fields_some (drop (suc i) s)))

  pub count_end : length s ≤ i → length (fields_of (drop i s)) ≡ 1
  unfolding fields_of
  count_end h = rw (drop_of_length-le s h)

-- the first field is what stands before the first tab
first_in : (b : ℕ) (fs : List (List ℕ)) → get_or (in_first b fs) 0 [] ≡ b ∷ get_or fs 0 []
first_in b [] = refl
first_in b (f ∷ fs) = refl

pub fields_first : (s : List ℕ) → get_or (fields_of s) 0 [] ≡ upto 9 s
unfolding upto fields_of
fields_first [] = refl
fields_first (b ∷ bs) =
    case (eqb b 9) (λ e. rw e) (λ e. rw e (first_in b (fields_of bs) ∙ ap (λ (l : List ℕ). b ∷ l) (fields_first bs)))

-- and the others those of what follows it
pub fields_tab : (s : List ℕ) → length (upto 9 s) < length s → fields_of s ≡ upto 9 s ∷ fields_of (drop (suc (length (upto 9 s))) s)
unfolding upto fields_of
fields_tab [] h = absurd (omega arith)
fields_tab (b ∷ bs) h =
    case (eqb b 9) (λ e. rw e) (λ e. rw e (ap (in_first b) (fields_tab bs (omega (arith, rw e at h)))))

pub fields_one : (s : List ℕ) → length (upto 9 s) ≡ length s → fields_of s ≡ s ∷ []
unfolding upto fields_of
fields_one [] h = refl
fields_one (b ∷ bs) h =
    case (eqb b 9) (λ e. absurd (omega (arith, rw e at h))) (λ e. rw e (ap (in_first b) (fields_one bs (omega (arith, rw e at h)))))

drop_none : (k : ℕ) → drop {A = List ℕ} k [] ≡ []
drop_none zero = refl
drop_none (suc k) = refl

-- the field k is the first of those from it on
pub from_first : (fs : List (List ℕ)) (k : ℕ) → get_or (or_empty (drop k fs)) 0 [] ≡ get_or fs k []
from_first [] k = rw (drop_none k)
from_first (f ∷ fs) zero = refl
from_first (f ∷ fs) (suc k) = from_first fs k

pub from_start : (s : List ℕ) → or_empty (fields_of s) ≡ fields_of s
from_start s = some (fields_of s) (fields_some s) where
  some : (fs : List (List ℕ)) → 1 ≤ length fs → or_empty fs ≡ fs
  some [] h = absurd (omega arith)
  some (f ∷ fs) h = refl

-- the fields from the field k on, where n fields end before a
module _ (s : List ℕ) (a k n : ℕ) (low : n < k) where
  one_more : k - n ≡ suc (k - (n + 1))
  one_more = omega arith

  pub past_tab : a + length (upto 9 (drop a s)) < length s
      → fields_from (drop (a + length (upto 9 (drop a s)) + 1) s) (k - (n + 1)) ≡ fields_from (drop a s) (k - n)
  past_tab h =
      let L = length (upto 9 (drop a s)) in
      let e : a + L + 1 ≡ a + suc L = omega arith in
      let inside : L < length (drop a s) = omega (arith, length-drop a s) in
      rw (one_more, fields_tab (drop a s) inside, e, drop-drop)

  pub past_last : length s ≤ a + length (upto 9 (drop a s)) → fields_from (drop a s) (k - n) ≡ [] ∷ []
  past_last h =
      let all : length (upto 9 (drop a s)) ≡ length (drop a s) = omega (arith, length-drop a s, upto_le 9 (drop a s)) in
      rw (one_more, fields_one (drop a s) all) (ap or_empty (drop_none (k - (n + 1))))

-- there is one more than tabs
pub fields_count : (s : List ℕ) → length (fields_of s) ≡ count_by (λ b. eqb b 9) s + 1
unfolding fields_of
fields_count s = omega (arith, fields_some s, is_count_by (λ s. length (fields_of s) - 1) (λ b. eqb b 9) refl more s) where
  more : (b : ℕ) (bs : List ℕ) → length (fields_of (b ∷ bs)) - 1 ≡ cond (eqb b 9) (1 + (length (fields_of bs) - 1)) (length (fields_of bs) - 1)
  more b bs =
      case (eqb b 9)
      (λ e. rw e (omega (arith, fields_some bs)))
      (λ e. rw e (omega (arith, length_in_first b (fields_of bs) (fields_some bs))))
