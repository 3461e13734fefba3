-- Tests: what a Bool decides, and what its parts say.
-- Assumes nothing.
use Rattle.std.specs.Prelude.{ℕ, ◌+◌, ◌-◌, ◌≤◌, ◌<◌, ◌≡◌, refl, Bool, true, false, ◌&&◌, ◌||◌, ◌⊎◌, leb, ltb, eqb}
use Rattle.std.proofs.Common.{arith, sym, inl, inr, leb-true, leb-false, le-leb, ltb-true, ltb-false, lt-ltb, le-ltb, eqb-true, eq-eqb, ne_eqb}
use Rattle.std.proofs.lemmas.Bool.{lt-leb, eqb-false}

-- a test decided, with the equation
pub case {ℓ} : {A : Type ℓ} (b : Bool) → (b ≡ true → A) → (b ≡ false → A) → A
case true f g = f refl
case false f g = g refl

pub true_false {ℓ} : {A : Type ℓ} (b : Bool) → b ≡ true → b ≡ false → A
true_false true p q = absurd (let z : ◌≡◌ {A = ℕ} 0 1 = cc in omega arith)
true_false false p q = absurd (let z : ◌≡◌ {A = ℕ} 0 1 = cc in omega arith)

-- which of two comes first
pub le_or : (a b : ℕ) → (a ≤ b) ⊎ (b < a)
le_or a b = case (leb a b) (λ e. inl (leb-true a b e)) (λ e. inr (leb-false a b e))

-- n if the test passes, and otherwise 0
abbrev pub on : Bool → ℕ → ℕ
on true n = n
on false n = 0

pub on_le : (b : Bool) (n : ℕ) → on b n ≤ n
on_le true n = omega arith
on_le false n = omega arith

pub both : (a b : Bool) → (a && b) ≡ true → (a ≡ true) × (b ≡ true)
both true b e = (refl, e)
both false b e = true_false false e refl

pub either : (a b : Bool) → (a || b) ≡ true → (a ≡ true) ⊎ (b ≡ true)
either true b e = inl refl
either false b e = inr e

pub neither : (a b : Bool) → (a || b) ≡ false → (a ≡ false) × (b ≡ false)
neither true b e = true_false true refl e
neither false b e = (refl, e)

pub and_right_false : (a : Bool) {b : Bool} → b ≡ false → (a && b) ≡ false
and_right_false true e = e
and_right_false false e = refl

-- a sum tested by a difference
pub eqb_sub : (m w s : ℕ) → w ≤ m → eqb (m - w) s ≡ eqb (s + w) m
eqb_sub m w s h =
    case (eqb (s + w) m)
    (λ e. rw e (eq-eqb (m - w) s (omega (arith, eqb-true (s + w) m e))))
    (λ e. rw e (ne_eqb (m - w) s (λ q. eqb-false (s + w) m e (omega arith))))

pub leb_sub : (m w s : ℕ) → w ≤ m → leb s (m - w) ≡ leb (s + w) m
leb_sub m w s h =
    case (leb (s + w) m)
    (λ e. rw e (le-leb s (m - w) (omega (arith, leb-true (s + w) m e))))
    (λ e. rw e (lt-leb s (m - w) (omega (arith, leb-false (s + w) m e))))

pub ltb_sub : (m w s : ℕ) → w ≤ m → ltb (m - w) s ≡ ltb m (w + s)
ltb_sub m w s h =
    case (ltb m (w + s))
    (λ e. rw e (lt-ltb (m - w) s (omega (arith, ltb-true m (w + s) e))))
    (λ e. rw e (le-ltb (m - w) s (omega (arith, ltb-false m (w + s) e))))

-- two tests of one and two of another, each one's together
pub across : (a b c d : Bool) → (a && b && (c && d)) ≡ (a && c && (b && d))
across true true c d = refl
across true false c d = sym (and_right_false c refl)
across false b c d = refl
