-- `text::field_numbers` meets its contract: the numbers kept, and then those in the fields from `start` on, are all.
-- Assumes nothing.
use Rattle.std.specs.Prelude.{Some, None}
use mathlib.Core.Path.{◌≡◌, refl, ap, sym, subst, ◌∙◌}
use mathlib.Core.List.{List, [], ◌∷◌, ◌++◌, append-nil, append_assoc}
use Prim.Native.Nat.{ℕ, suc, ◌+◌, ◌-◌, ◌≤◌, ◌<◌}
use native.Mathlib.Omega.{arith}
use lib.ListN.{length, drop, set, length-append, length-drop}
use lib.Seq.{drop-drop, take_all}
use Rattle.lists.specs.Pads.{pad, pad_push}
use Rattle.text.specs.declared.Numbers.{Numbers}
use Rattle.text.specs.Fields.{fields_of, field_of}
use Rattle.text.specs.Prefixes.{upto_le}
use Rattle.text.specs.FieldLaws.{fields_first}
use Rattle.text.specs.Numbers.{number_of, numbers_from, leading}
use Rattle.text.specs.LeadingLaws.{leading_empty, next_not, next_last, next_more}
use Rattle.text.proofs.field_numbers.Invariants.{Inv}
use Rattle.text.proofs.field_numbers.Goals.{After-field-part, In-Some}
use Rattle.text.proofs.field_numbers.Goals as goal

-- once the kept ones are all
ended : (line : List ℕ) (k : ℕ) (kept : List ℕ) {values : List ℕ} {count : ℕ}
    → length kept ≡ count → values ≡ pad 8 0 kept → kept ≡ leading 8 (drop k (fields_of line))
    → ◌≡◌ {A = Numbers} (record { count = count; values = values }) (numbers_from line k)
unfolding numbers_from
ended line k kept size are all = λ i. record { count = (sym size ∙ ap length all) i; values = (are ∙ ap (pad 8 0) all) i }

module _ {line : List ℕ} {k : ℕ} {values : List ℕ} {count start : ℕ} (v : Inv line k values count start) where
  -- no field is left to read
  done : leading (8 - count) (fields_of (drop start line)) ≡ [] → ◌≡◌ {A = Numbers} (record { count = count; values = values }) (numbers_from line k)
  done e = ended line k v.kept v.size v.values-are (sym (append-nil v.kept) ∙ ap (λ (l : List ℕ). v.kept ++ l) (sym e) ∙ v.all)

  module _ (low : count < 8) where
    one_more : 8 - count ≡ suc (8 - (count + 1))
    one_more = omega arith

    not-next : number_of (field_of (drop start line) 0) ≡ None → ◌≡◌ {A = Numbers} (record { count = count; values = values }) (numbers_from line k)
    not-next e = done (rw one_more (next_not (8 - (count + 1)) (drop start line) e))

    module _ (n : ℕ) where
      more-size : length (v.kept ++ (n ∷ [])) ≡ count + 1
      more-size = omega (arith, length-append v.kept (n ∷ []), v.size)

      more-values : set values count n ≡ pad 8 0 (v.kept ++ (n ∷ []))
      more-values = ap (λ (l : List ℕ). set l count n) v.values-are ∙ pad_push 8 0 v.kept n count v.size low

      -- with the number n, and then those of the fields fs
      more-all : (rest : List ℕ) → leading (8 - count) (fields_of (drop start line)) ≡ n ∷ rest
          → (v.kept ++ (n ∷ [])) ++ rest ≡ leading 8 (drop k (fields_of line))
      more-all rest e = append_assoc v.kept (n ∷ []) rest ∙ ap (λ (l : List ℕ). v.kept ++ l) (sym e) ∙ v.all

      module _ (is : number_of (field_of (drop start line) 0) ≡ Some n) where
        last : start + length (field_of (drop start line) 0) ≡ length line → ◌≡◌ {A = Numbers} (record { count = count + 1; values = set values count n }) (numbers_from line k)
        last end =
            let e : length (field_of (drop start line) 0) ≡ length (drop start line) = omega (arith, length-drop start line) in
            ended line k (v.kept ++ (n ∷ [])) more-size more-values
            (sym (append-nil _) ∙ more-all [] (rw one_more (next_last (8 - (count + 1)) (drop start line) is e)))

        more : start + length (field_of (drop start line) 0) < length line → Inv line k (set values count n) (count + 1) (start + length (field_of (drop start line) 0) + 1)
        more end =
            let L = length (field_of (drop start line) 0) in
            let e : start + L + 1 ≡ start + suc L = omega arith in
            let h : L < length (drop start line) = omega (arith, length-drop start line) in
            record {
              kept = v.kept ++ (n ∷ []);
              size = more-size;
              few = omega arith;
              inside = omega arith;
              values-are = more-values;
              all = rw (e, ← drop-drop) (more-all _ (rw one_more (next_more (8 - (count + 1)) (drop start line) is h)));
            }

field_le : (s : List ℕ) → length (field_of s 0) ≤ length s
field_le s = omega (arith, ap length (fields_first s), upto_le 9 s)

abbrev line : After-field-part → List ℕ
line c = c.args.line.now

abbrev start : After-field-part → ℕ
start c = c.loop-count.start

-- the part read is the first field from `start` on,
part_is : (c : After-field-part) → c.field-part.result.now ≡ field_of (drop (start c) (line c)) 0
part_is c =
    let s = drop (start c) (line c) in
    let h : length s ≤ length (line c) - start c = omega (arith, length-drop (start c) (line c)) in
    c.field-part.ensures ∙ ap (λ (l : List ℕ). field_of l 0) (take_all (length (line c) - start c) s h)

-- and ends within the line
part-ends : (c : After-field-part) → start c + length c.field-part.result.now ≤ length (line c)
part-ends c =
    let inside = c.loop-count.invariant.inside in
    omega (arith, ap length (part_is c), field_le (drop (start c) (line c)), length-drop (start c) (line c))

is-next : (c : In-Some) → c.field-part.result.now ≡ field_of (drop c.loop-count.start c.args.line.now) 0
    → number_of (field_of (drop c.loop-count.start c.args.line.now) 0) ≡ Some c.in-Some.v
is-next c e = ap number_of (sym e) ∙ sym c.number.ensures ∙ c.in-Some.is

pub loop-count-init : goal.loop-count-init
unfolding pad
loop-count-init c =
    let e = c.field_start-start.ensures in
    let fs = drop c.args.k (fields_of c.args.line.now) in
    record { kept = []; size = refl; few = omega arith; inside = e.0; values-are = refl; all = ap (leading 8) e.1 ∙ leading_empty 8 fs }

pub returns-in_default : goal.returns-in_default
returns-in_default c =
    not-next c.loop-count.invariant (omega arith)
    (ap number_of (sym (part_is (goal.at.returns-in_default c).After-field-part)) ∙ sym c.number.ensures ∙ c.in_default.is)

pub returns-then-end-line : goal.returns-then-end-line
returns-then-end-line c =
    last c.loop-count.invariant (omega arith) _ (is-next (goal.at.returns-then-end-line c).In-Some (part_is (goal.at.returns-then-end-line c).After-field-part)) (omega (arith, ap length (part_is (goal.at.returns-then-end-line c).After-field-part)))

pub loop-count-preserved : goal.loop-count-preserved
loop-count-preserved c =
    let end = part-ends (goal.at.loop-count-preserved c).After-field-part in
    rw (part_is (goal.at.loop-count-preserved c).After-field-part) (more c.loop-count.invariant (omega arith) _ (is-next (goal.at.loop-count-preserved c).In-Some (part_is (goal.at.loop-count-preserved c).After-field-part)) (omega (arith, ap length (part_is (goal.at.loop-count-preserved c).After-field-part))))

pub returns : goal.returns
unfolding leading
returns c =
    let l = c.loop-count in
    let e : l.count ≡ 8 = omega arith in
    subst (λ (n : ℕ). ◌≡◌ {A = Numbers} (record { count = n; values = l.values }) (numbers_from c.args.line.now c.args.k)) e (done l.invariant (rw e))
