-- Tests that every element of a list passes, and tests that are asked of some elements only.
-- Assumes nothing.
use Rattle.std.specs.Prelude.{◌≡◌, refl, Bool, true, false, ◌&&◌, List, [], ◌∷◌, map, ◌⊎◌}
use Rattle.std.proofs.Common.{subst, sym, inl, inr}
use Rattle.lists.specs.Tests.{case, true_false, both, across}
use Rattle.lists.specs.Lists.{keep, any, In, here, there, in_cons}

-- do all pass it
abbrev pub every {ℓ} : {A : Type ℓ} → (A → Bool) → List A → Bool
every p [] = true
every p (x ∷ xs) = p x && every p xs

-- a test that is asked only where w holds
abbrev pub when : Bool → Bool → Bool
when true b = b
when false b = true

pub and_both : {a b : Bool} → a ≡ true → b ≡ true → (a && b) ≡ true
and_both p q = rw (p, q)

pub when_then : (w : Bool) {b : Bool} → when w b ≡ true → w ≡ true → b ≡ true
when_then true e q = e
when_then false e q = true_false false q refl

pub then_when : (w : Bool) {b : Bool} → (w ≡ true → b ≡ true) → when w b ≡ true
then_when true f = f refl
then_when false f = refl

module _ {A : Type 0} where
  pub every_in : (p : A → Bool) {a : A} {xs : List A} → every p xs ≡ true → In a xs → p a ≡ true
  every_in p e (here {x = x} {xs = xs} q) = subst (λ (y : A). p y ≡ true) (sym q) (both (p x) (every p xs) e).0
  every_in p e (there {x = x} {xs = xs} i) = every_in p (both (p x) (every p xs) e).1 i

  pub every_of : (p : A → Bool) (xs : List A) → ((a : A) → In a xs → p a ≡ true) → every p xs ≡ true
  every_of p [] f = refl
  every_of p (x ∷ xs) f = and_both (f x (here refl)) (every_of p xs (λ a i. f a (there i)))

  -- one that passes where some do
  pub any_some : (p : A → Bool) (xs : List A) → any p xs ≡ true → (a : A) × In a xs × (p a ≡ true)
  any_some p [] e = true_false false e refl
  any_some p (x ∷ xs) e =
      case (p x) (λ q. (x, here refl, q)) (λ q. let r = any_some p xs (rw q at e) in (r.0, there r.1, r.2))

  -- of two tests at once
  pub every_and : (p q : A → Bool) (xs : List A) → every (λ (x : A). p x && q x) xs ≡ (every p xs && every q xs)
  every_and p q [] = refl
  every_and p q (x ∷ xs) = rw (every_and p q xs) (across (p x) (q x) (every p xs) (every q xs))

  -- of those that another test keeps
  pub every_keep : (p q : A → Bool) (xs : List A) → every p (keep q xs) ≡ every (λ (x : A). when (q x) (p x)) xs
  every_keep p q [] = refl
  every_keep p q (x ∷ xs) = case (q x) (λ e. rw (e, every_keep p q xs)) (λ e. rw (e, every_keep p q xs))

  -- by another test that says the same of each
  pub every_cong : (p q : A → Bool) (xs : List A) → ((a : A) → In a xs → p a ≡ q a) → every p xs ≡ every q xs
  every_cong p q [] f = refl
  every_cong p q (x ∷ xs) f = rw (f x (here refl), every_cong p q xs (λ a i. f a (there i)))

  pub every_map : {B : Type 0} (p : B → Bool) (f : A → B) (xs : List A) → every p (map f xs) ≡ every (λ (a : A). p (f a)) xs
  every_map p f [] = refl
  every_map p f (x ∷ xs) = rw (every_map p f xs)
