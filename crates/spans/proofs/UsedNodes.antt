-- What spans take: in its own minutes a span takes its nodes, in all others nothing. The order of the spans does not matter. `used` is a sum, so
-- the laws of sums (sum-append, sum-kept, ..) are its laws too.
-- Assumes nothing.
use Rattle.std.specs.Prelude.{ℕ, ◌+◌, ◌-◌, ◌≤◌, ◌<◌, ◌≡◌, ◌&&◌, ◌⊎◌, leb}
use Rattle.std.proofs.Common.{arith, sym, ◌∙◌, inl, inr}
use Rattle.std.proofs.Math.Path.{refl}
use mathlib.Core.List.{List, [], ◌∷◌, ◌++◌}
use Rattle.std.proofs.Math.Dec.{ltb}
use borrow.Author.Tests.{lt-ltb, le-ltb, le-leb, lt-leb}
use Rattle.lists.specs.Tests.{on_le, le_or, and_right_false}
use Rattle.lists.specs.Lists.{All, sum_append}
use Rattle.spans.specs.declared.Span.{Span}
use Rattle.spans.specs.Spans.{takes, used, free, last_end}

module _ (t : ℕ) (x : Span) where
  pub takes_in : x.from ≤ t → t < x.until → takes t x ≡ x.nodes
  unfolding takes
  takes_in a b = rw (le-leb x.from t a, lt-ltb t x.until b)

  pub takes_before : t < x.from → takes t x ≡ 0
  unfolding takes
  takes_before a = rw (lt-leb x.from t a)

  -- a span that is over by now takes nothing from now on
  pub takes_after : x.until ≤ t → takes t x ≡ 0
  unfolding takes
  takes_after a = rw (and_right_false (leb x.from t) (le-ltb t x.until a))

  -- so a span of no nodes takes nothing
  pub takes_le : takes t x ≤ x.nodes
  unfolding takes
  takes_le = on_le (leb x.from t && ltb t x.until) x.nodes

  pub takes_never : x.until ≤ x.from → takes t x ≡ 0
  takes_never h = go (le_or x.until t)
    where
      go : (x.until ≤ t) ⊎ (t < x.until) → takes t x ≡ 0
      go (inl a) = takes_after a
      go (inr a) = takes_before (omega arith)

-- one that is over earlier takes no more
pub takes_less : (t : ℕ) (x y : Span) → x.from ≡ y.from → x.until ≤ y.until → x.nodes ≡ y.nodes → takes t x ≤ takes t y
takes_less t x y a b c = go (le_or x.from t) (le_or x.until t)
  where
    go : (x.from ≤ t) ⊎ (t < x.from) → (x.until ≤ t) ⊎ (t < x.until) → takes t x ≤ takes t y
    go (inr p) q = omega (arith, takes_before t x p)
    go (inl p) (inl q) = omega (arith, takes_after t x q)
    go (inl p) (inr q) = omega (arith, takes_in t x p q, takes_in t y (omega arith) (omega arith))

-- where it neither begins nor ends, it takes what it took
pub takes_still : (t r : ℕ) (x : Span) → t ≤ r → (t < x.from → r < x.from) → (t < x.until → r < x.until) → takes r x ≡ takes t x
takes_still t r x l a b = go (le_or x.from t) (le_or x.until t)
  where
    go : (x.from ≤ t) ⊎ (t < x.from) → (x.until ≤ t) ⊎ (t < x.until) → takes r x ≡ takes t x
    go (inr p) q = takes_before r x (a p) ∙ sym (takes_before t x p)
    go (inl p) (inl q) = takes_after r x (omega arith) ∙ sym (takes_after t x q)
    go (inl p) (inr q) = takes_in r x (omega arith) (b q) ∙ sym (takes_in t x p q)

pub last_le : (L : ℕ) (xs : List Span) → All (λ (x : Span). x.until ≤ L) xs → last_end xs ≤ L
unfolding last_end
last_le L [] a = omega arith
last_le L (x ∷ xs) a = omega (arith, last_le L xs a.1)

module _ (t : ℕ) where
  pub used_last : (xs : List Span) → last_end xs ≤ t → used t xs ≡ 0
  unfolding last_end
  used_last [] h = refl
  used_last (x ∷ xs) h = omega (arith, takes_after t x (omega arith), used_last xs (omega arith))

  pub used_swap : (xs ys : List Span) → used t (xs ++ ys) ≡ used t (ys ++ xs)
  used_swap xs ys = omega (arith, sum_append (takes t) xs ys, sum_append (takes t) ys xs)

  -- a span among others
  pub used_among : (xs : List Span) (x : Span) (ys : List Span) → used t (xs ++ x ∷ ys) ≡ takes t x + used t (xs ++ ys)
  used_among xs x ys = omega (arith, sum_append (takes t) xs (x ∷ ys), sum_append (takes t) xs ys)

  -- one span more, anywhere in the list
  pub free_less : (N : ℕ) (x : Span) (xs ys : List Span) → used t ys ≡ takes t x + used t xs → free N ys t ≡ free N xs t - takes t x
  free_less N x xs ys e = omega arith

  -- one span less; the spans took no more than there is, otherwise what is free again would not be all that it took
  pub free_more : (N : ℕ) (x : Span) (xs ys : List Span) → used t xs ≡ takes t x + used t ys → used t xs ≤ N → free N ys t ≡ free N xs t + takes t x
  free_more N x xs ys e h = omega arith
