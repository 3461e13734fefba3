-- The search finds the smallest minute, and it finds it by the free nodes alone.
-- Assumes nothing.
use Prim.Native.Nat.{ℕ, zero, suc, ◌+◌, ◌-◌, ◌≤◌, ◌<◌}
use Rattle.std.proofs.Common.{arith, inl, inr}
use Rattle.std.specs.Prelude.{◌≡◌, Bool, List, ◌⊎◌, leb}
use Rattle.std.proofs.Math.Path.{refl, ap}
use Rattle.std.proofs.Math.Bool.{true}
use borrow.Author.Tests.{leb-true, le-leb}
use Rattle.lists.specs.Tests.{le_or, both}
use Rattle.lists.specs.Least.{least, least_from, least_holds_lem, least_min}
use Rattle.spans.specs.declared.Span.{Span}
use Rattle.spans.specs.Spans.{used, free, last_end, fits, earliest, Fits, Earliest}
use Rattle.spans.proofs.UsedNodes.{used_last}

-- the test says what it is for
module _ (f : ℕ → ℕ) (n : ℕ) where
  fits_true : (h s : ℕ) → fits f n h s ≡ true → Fits f n h s
  unfolding fits
  fits_true zero s e t a b = absurd (omega arith)
  fits_true (suc h) s e t a b = go (both (leb n (f s)) (fits f n h (suc s)) e) (le_or t s) (fits_true h (suc s))
    where
      go : (leb n (f s) ≡ true) × (fits f n h (suc s) ≡ true) → (t ≤ s) ⊎ (s < t) → (fits f n h (suc s) ≡ true → Fits f n h (suc s)) → n ≤ f t
      go p (inl c) r = let q : f t ≡ f s = ap f (omega arith) in omega (arith, leb-true n (f s) p.0)
      go p (inr c) r = r p.1 t c (omega arith)

  true_fits : (h s : ℕ) → Fits f n h s → fits f n h s ≡ true
  unfolding fits
  true_fits zero s p = refl
  true_fits (suc h) s p =
      let a : n ≤ f s = p s (omega arith) (omega arith) in
      rw (le-leb n (f s) a) (true_fits h (suc s) (λ t b c. p t (omega arith) (omega arith)))

-- there is always a smallest minute, since from the last end on all nodes are free
pub earliest_is : (N : ℕ) (xs : List Span) (now n h : ℕ) → n ≤ N → Earliest (free N xs) now n h (earliest N xs now n h)
unfolding earliest
earliest_is N xs now n h a = record {
  later = least_from p k now;
  fit = fits_true f n h (least p k now) (least_holds_lem p k now (true_fits f n h (now + k) (λ t b c. omega (arith, used_last t xs (omega arith)))));
  smallest = λ r b c. least_min p k now r (true_fits f n h r c) b;
}
  where
    f : ℕ → ℕ
    f = free N xs

    p : ℕ → Bool
    p = fits f n h

    k : ℕ
    k = last_end xs - now

-- two functions that agree from now on have one smallest minute
pub earliest_unique : (f g : ℕ → ℕ) (now n h s r : ℕ) → ((t : ℕ) → now ≤ t → f t ≡ g t) → Earliest f now n h s → Earliest g now n h r → s ≡ r
earliest_unique f g now n h s r e p q =
    omega (
      arith,
      p.smallest r q.later (λ t a b. omega (arith, q.fit t a b, e t (omega (arith, q.later)))),
      q.smallest s p.later (λ t a b. omega (arith, p.fit t a b, e t (omega (arith, p.later)))),
    )

-- spans count by what they take, so those that take the same from now on may stand for each other
pub earliest_same : (N : ℕ) (xs ys : List Span) (now n h : ℕ) → n ≤ N → ((t : ℕ) → now ≤ t → used t xs ≡ used t ys)
    → earliest N xs now n h ≡ earliest N ys now n h
earliest_same N xs ys now n h a e =
    earliest_unique (free N xs) (free N ys) now n h _ _ (λ t b. omega (arith, e t b)) (earliest_is N xs now n h a) (earliest_is N ys now n h a)

-- Document 02, No. 9: "Longer estimates never get earlier starts": nodes that are free for a longer hold are free for a shorter one
pub earliest_mono : (N : ℕ) (xs : List Span) (now n h k : ℕ) → n ≤ N → h ≤ k → earliest N xs now n h ≤ earliest N xs now n k
earliest_mono N xs now n h k a l =
    let p = earliest_is N xs now n k a in
    (earliest_is N xs now n h a).smallest (earliest N xs now n k) p.later (λ t b c. p.fit t b (omega arith))

-- there is room for h minutes by minute w: they begin by then, and end by the minute L
abbrev pub Room : (f : ℕ → ℕ) → (now n L w h : ℕ) → Type 0
Room f now n L w h = (r : ℕ) × (now ≤ r) × (r ≤ w) × (r + h ≤ L) × Fits f n h r

-- which is so just where the earliest start is by then and they end in time
pub room_start : (N : ℕ) (xs : List Span) (now n L w h : ℕ) → n ≤ N → Room (free N xs) now n L w h
    → (earliest N xs now n h ≤ w) × (earliest N xs now n h + h ≤ L)
room_start N xs now n L w h a (r, b, c, d, e) = let p = (earliest_is N xs now n h a).smallest r b e in (omega arith, omega arith)

pub start_room : (N : ℕ) (xs : List Span) (now n L w h : ℕ) → n ≤ N → earliest N xs now n h ≤ w → earliest N xs now n h + h ≤ L → Room (free N xs) now n L w h
start_room N xs now n L w h a b c = let p = earliest_is N xs now n h a in (earliest N xs now n h, p.later, b, c, p.fit)

-- and for fewer minutes
pub room_less : {f : ℕ → ℕ} {now n L w : ℕ} (h k : ℕ) → h ≤ k → Room f now n L w k → Room f now n L w h
room_less h k l (r, b, c, d, e) = (r, b, c, omega arith, λ t x y. e t x (omega arith))
