-- Laws of the numbers in a line's fields: what the next field adds.
-- Assumes nothing.
use Rattle.std.specs.Prelude.{◌≡◌, refl, List, [], ◌∷◌, ℕ, zero, suc, ◌<◌, get_or, drop, Some, None}
use Rattle.std.proofs.Common.{sym, ap, ◌∙◌}
use Rattle.std.proofs.Math.ListN.{length}
use Rattle.text.specs.Fields.{fields_of, field_of, or_empty}
use Rattle.text.specs.FieldLaws.{fields_first, fields_tab, fields_one}
use Rattle.text.specs.Numbers.{number_of, leading}

pub leading_none : (n : ℕ) → leading n [] ≡ []
unfolding leading
leading_none zero = refl
leading_none (suc n) = refl

-- the empty part past the last field is no number
pub leading_empty : (n : ℕ) (fs : List (List ℕ)) → leading n (or_empty fs) ≡ leading n fs
unfolding leading number_of
leading_empty zero fs = refl
leading_empty (suc n) [] = refl
leading_empty (suc n) (f ∷ fs) = refl

leading_stop : (n : ℕ) (fs : List (List ℕ)) → number_of (get_or fs 0 []) ≡ None → leading (suc n) fs ≡ []
unfolding leading
leading_stop n [] e = refl
leading_stop n (f ∷ fs) e = rw e

module _ (n : ℕ) (s : List ℕ) where
  pub next_not : number_of (field_of s 0) ≡ None → leading (suc n) (fields_of s) ≡ []
  next_not = leading_stop n (fields_of s)

  module _ {v : ℕ} (is : number_of (field_of s 0) ≡ Some v) where
    pub next_last : length (field_of s 0) ≡ length s → leading (suc n) (fields_of s) ≡ v ∷ []
    unfolding leading
    next_last all =
        let one = fields_one s (sym (ap length (fields_first s)) ∙ all) in
        rw (one, rw one at is, leading_none n)

    pub next_more : length (field_of s 0) < length s → leading (suc n) (fields_of s) ≡ v ∷ leading n (fields_of (drop (suc (length (field_of s 0))) s))
    unfolding leading
    next_more h =
        let first = fields_first s in
        let t = fields_tab s (rw first at h) in
        rw (first, t, rw first at is)
