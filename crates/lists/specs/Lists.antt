-- Lists: what is kept, summed, found and held by each element, and the laws of these.
-- Assumes nothing.
use Rattle.std.specs.Prelude.{ℕ, zero, suc, ◌+◌, ◌*◌, ◌≤◌, ◌<◌, ◌≡◌, refl, Bool, true, false, not, ◌&&◌, ◌||◌, cond, List, [], ◌∷◌, ◌++◌, map, ◌⊎◌, eqb, length, get_or}
use Rattle.std.proofs.Common.{arith, sym, ap, subst, ◌∙◌, inl, inr, ⊎_elim}
use Rattle.std.proofs.Math.Option.{Option, none, some}
use Rattle.lists.specs.Tests.{case, on, neither}

-- the elements that pass a test, in order
abbrev pub keep {ℓ} : {A : Type ℓ} → (A → Bool) → List A → List A
keep p [] = []
keep p (x ∷ xs) = cond (p x) (x ∷ keep p xs) (keep p xs)

-- the first element that passes it
abbrev pub first {ℓ} : {A : Type ℓ} → (A → Bool) → List A → Option A
first p [] = none
first p (x ∷ xs) = cond (p x) (some x) (first p xs)

-- does one pass it
abbrev pub any {ℓ} : {A : Type ℓ} → (A → Bool) → List A → Bool
any p [] = false
any p (x ∷ xs) = p x || any p xs

-- is the number in the list
abbrev pub elem : ℕ → List ℕ → Bool
elem n xs = any (eqb n) xs

-- the sum of f over the list
abbrev pub sum {ℓ} : {A : Type ℓ} → (A → ℕ) → List A → ℕ
sum f [] = 0
sum f (x ∷ xs) = f x + sum f xs

-- P holds of each element
abbrev pub All {ℓ} : {A : Type ℓ} → (A → Type 0) → List A → Type 0
All P [] = Unit {0}
All P (x ∷ xs) = P x × All P xs

-- a is in the list
pub data In {A : Type 0} (a : A) : List A → Type 0 where
  here : {x : A} {xs : List A} → a ≡ x → In a (x ∷ xs)
  there : {x : A} {xs : List A} → In a xs → In a (x ∷ xs)

pub in_nil {ℓ} : {A : Type 0} {B : Type ℓ} {a : A} → In a [] → B
in_nil i = elim i [ ]

pub in_cons : {A : Type 0} {a x : A} {xs : List A} → In a (x ∷ xs) → (a ≡ x) ⊎ In a xs
in_cons (here e) = inl e
in_cons (there i) = inr i

module _ {A : Type 0} where
  pub all_in : (P : A → Type 0) {a : A} {xs : List A} → All P xs → In a xs → P a
  all_in P ps (here e) = subst P (sym e) ps.0
  all_in P ps (there i) = all_in P ps.1 i

  pub all_of : (P : A → Type 0) (xs : List A) → ((a : A) → In a xs → P a) → All P xs
  all_of P [] f = tt
  all_of P (x ∷ xs) f = (f x (here refl), all_of P xs (λ a i. f a (there i)))

  pub all_append : (P : A → Type 0) (xs ys : List A) → All P xs → All P ys → All P (xs ++ ys)
  all_append P [] ys a b = b
  all_append P (x ∷ xs) ys a b = (a.0, all_append P xs ys a.1 b)

  pub all_keep : (P : A → Type 0) (p : A → Bool) (xs : List A) → All P xs → All P (keep p xs)
  all_keep P p [] a = tt
  all_keep P p (x ∷ xs) a = case (p x) (λ e. rw e (a.0, all_keep P p xs a.1)) (λ e. rw e (all_keep P p xs a.1))

  pub in_getD : (l : List A) (i : ℕ) (z : A) → i < length l → In (get_or l i z) l
  in_getD [] i z h = absurd (omega arith)
  in_getD (x ∷ xs) zero z h = here refl
  in_getD (x ∷ xs) (suc i) z h = there (in_getD xs i z (omega arith))

  pub all_at : (P : A → Type 0) (xs : List A) (i : ℕ) (z : A) → All P xs → i < length xs → P (get_or xs i z)
  all_at P xs i z a h = all_in P a (in_getD xs i z h)

  pub in_map : {B : Type 0} (f : A → B) {a : A} {xs : List A} → In a xs → In (f a) (map f xs)
  in_map f (here e) = here (ap f e)
  in_map f (there i) = there (in_map f i)

  pub map_in : {B : Type 0} (f : A → B) (xs : List A) {b : B} → In b (map f xs) → (a : A) × In a xs × (b ≡ f a)
  map_in f [] i = in_nil i
  map_in f (x ∷ xs) {b} i = go (in_cons i) (λ k. map_in f xs k)
    where
      go : (b ≡ f x) ⊎ In b (map f xs) → (In b (map f xs) → (a : A) × In a xs × (b ≡ f a)) → (a : A) × In a (x ∷ xs) × (b ≡ f a)
      go (inl e) k = (x, here refl, e)
      go (inr l) k = let r = k l in (r.0, there r.1, r.2)

  pub in_left : {a : A} {xs : List A} (ys : List A) → In a xs → In a (xs ++ ys)
  in_left ys (here e) = here e
  in_left ys (there i) = there (in_left ys i)

  pub in_right : (xs : List A) {ys : List A} {a : A} → In a ys → In a (xs ++ ys)
  in_right [] i = i
  in_right (x ∷ xs) i = there (in_right xs i)

  pub in_append : (xs : List A) {ys : List A} {a : A} → In a (xs ++ ys) → In a xs ⊎ In a ys
  in_append [] i = inr i
  in_append (x ∷ xs) {ys} {a} i = go (in_cons i) (λ k. in_append xs k)
    where
      go : (a ≡ x) ⊎ In a (xs ++ ys) → (In a (xs ++ ys) → In a xs ⊎ In a ys) → In a (x ∷ xs) ⊎ In a ys
      go (inl e) f = inl (here e)
      go (inr k) f = ⊎_elim (λ l. inl (there l)) (λ r. inr r) (f k)

  pub keep_in : (p : A → Bool) (xs : List A) {a : A} → In a (keep p xs) → In a xs × (p a ≡ true)
  keep_in p [] i = in_nil i
  keep_in p (x ∷ xs) {a} i = case (p x) (λ e. kept e (in_cons (rw e at i)) (λ k. keep_in p xs k)) (λ e. passed (keep_in p xs (rw e at i)))
    where
      passed : In a xs × (p a ≡ true) → In a (x ∷ xs) × (p a ≡ true)
      passed r = (there r.0, r.1)

      kept : p x ≡ true → (a ≡ x) ⊎ In a (keep p xs) → (In a (keep p xs) → In a xs × (p a ≡ true)) → In a (x ∷ xs) × (p a ≡ true)
      kept e (inl q) f = (here q, ap p q ∙ e)
      kept e (inr k) f = passed (f k)

  pub in_keep : (p : A → Bool) {a : A} {xs : List A} → In a xs → p a ≡ true → In a (keep p xs)
  in_keep p (here q) e = rw (ap p (sym q) ∙ e) (here q)
  in_keep p (there {x = x} i) e = case (p x) (λ q. rw q (there (in_keep p i e))) (λ q. rw q (in_keep p i e))

  pub first_in : (p : A → Bool) (xs : List A) {a : A} → first p xs ≡ some a → In a xs × (p a ≡ true)
  first_in p [] {a} e = absurd (let z : ◌≡◌ {A = ℕ} 0 1 = cc in omega arith)
  first_in p (x ∷ xs) {a} e = case (p x) (λ q. found q (rw q at e)) (λ q. passed (first_in p xs (rw q at e)))
    where
      found : p x ≡ true → some x ≡ some a → In a (x ∷ xs) × (p a ≡ true)
      found q s = let z : x ≡ a = cc in (here (sym z), ap p (sym z) ∙ q)

      passed : In a xs × (p a ≡ true) → In a (x ∷ xs) × (p a ≡ true)
      passed r = (there r.0, r.1)

  pub keep_append : (p : A → Bool) (xs ys : List A) → keep p (xs ++ ys) ≡ keep p xs ++ keep p ys
  keep_append p [] ys = refl
  keep_append p (x ∷ xs) ys = case (p x) (λ e. rw (e, keep_append p xs ys)) (λ e. rw (e, keep_append p xs ys))

  pub keep_cong : (p q : A → Bool) (xs : List A) → ((a : A) → In a xs → p a ≡ q a) → keep p xs ≡ keep q xs
  keep_cong p q [] f = refl
  keep_cong p q (x ∷ xs) f = rw (f x (here refl), keep_cong p q xs (λ a i. f a (there i)))

  pub keep_all : (p : A → Bool) (xs : List A) → ((a : A) → In a xs → p a ≡ true) → keep p xs ≡ xs
  keep_all p [] f = refl
  keep_all p (x ∷ xs) f = rw (f x (here refl), keep_all p xs (λ a i. f a (there i)))

  -- where none passes a test, each fails it
  pub any_none : (p : A → Bool) {a : A} {xs : List A} → any p xs ≡ false → In a xs → p a ≡ false
  any_none p e (here {x = x} {xs = xs} z) = ap p z ∙ (neither (p x) (any p xs) e).0
  any_none p e (there {x = x} {xs = xs} i) = any_none p (neither (p x) (any p xs) e).1 i

  -- and the other way round
  pub none_any : (p : A → Bool) (xs : List A) → ((a : A) → In a xs → p a ≡ false) → any p xs ≡ false
  none_any p [] f = refl
  none_any p (x ∷ xs) f = rw (f x (here refl)) (none_any p xs (λ a i. f a (there i)))

  pub any_in : (p : A → Bool) {a : A} {xs : List A} → In a xs → p a ≡ true → any p xs ≡ true
  any_in p (here z) e = rw (sym (ap p z) ∙ e)
  any_in p (there {x = x} i) e = case (p x) (λ y. rw y) (λ y. rw y (any_in p i e))

  pub keep_none : (p : A → Bool) (xs : List A) → ((a : A) → In a xs → p a ≡ false) → keep p xs ≡ []
  keep_none p [] f = refl
  keep_none p (x ∷ xs) f = rw (f x (here refl), keep_none p xs (λ a i. f a (there i)))

  pub keep_keep : (p q : A → Bool) (xs : List A) → keep p (keep q xs) ≡ keep (λ (x : A). q x && p x) xs
  keep_keep p q [] = refl
  keep_keep p q (x ∷ xs) = case (q x) (λ e. rw e (case (p x) (λ k. rw (k, keep_keep p q xs)) (λ k. rw (k, keep_keep p q xs)))) (λ e. rw (e, keep_keep p q xs))

  pub keep_map : {B : Type 0} (p : B → Bool) (f : A → B) (xs : List A) → keep p (map f xs) ≡ map f (keep (λ (a : A). p (f a)) xs)
  keep_map p f [] = refl
  keep_map p f (x ∷ xs) = case (p (f x)) (λ e. rw (e, keep_map p f xs)) (λ e. rw (e, keep_map p f xs))

  pub map_cong : {B : Type 0} (f g : A → B) (xs : List A) → ((a : A) → In a xs → f a ≡ g a) → map f xs ≡ map g xs
  map_cong f g [] h = refl
  map_cong f g (x ∷ xs) h = rw (h x (here refl), map_cong f g xs (λ a i. h a (there i)))

  pub map_same : (f : A → A) (xs : List A) → ((a : A) → In a xs → f a ≡ a) → map f xs ≡ xs
  map_same f [] g = refl
  map_same f (x ∷ xs) g = rw (g x (here refl), map_same f xs (λ a i. g a (there i)))

  pub sum_append : (f : A → ℕ) (xs ys : List A) → sum f (xs ++ ys) ≡ sum f xs + sum f ys
  sum_append f [] ys = omega arith
  sum_append f (x ∷ xs) ys = omega (arith, sum_append f xs ys)

  pub sum_map : {B : Type 0} (f : B → ℕ) (g : A → B) (xs : List A) → sum f (map g xs) ≡ sum (λ (a : A). f (g a)) xs
  sum_map f g [] = refl
  sum_map f g (x ∷ xs) = ap (λ (n : ℕ). f (g x) + n) (sum_map f g xs)

  -- what is not kept is what passes the test
  pub sum_keep : (f : A → ℕ) (p : A → Bool) (xs : List A) → sum f (keep (λ (a : A). not (p a)) xs) + sum (λ (a : A). on (p a) (f a)) xs ≡ sum f xs
  sum_keep f p [] = omega arith
  sum_keep f p (x ∷ xs) = case (p x) (λ e. rw e (omega (arith, sum_keep f p xs))) (λ e. rw e (omega (arith, sum_keep f p xs)))

  pub sum_picked : (f : A → ℕ) (p : A → Bool) (xs : List A) → sum f (keep p xs) ≡ sum (λ (a : A). on (p a) (f a)) xs
  sum_picked f p [] = refl
  sum_picked f p (x ∷ xs) = case (p x) (λ e. rw e (omega (arith, sum_picked f p xs))) (λ e. rw e (omega (arith, sum_picked f p xs)))

  -- how many of those kept pass a test
  pub count_kept : (p q : A → Bool) (xs : List A) → sum (λ (x : A). on (q x) 1) (keep p xs) ≡ sum (λ (x : A). on (p x && q x) 1) xs
  count_kept p q [] = refl
  count_kept p q (x ∷ xs) = case (p x) (λ e. rw (e, count_kept p q xs)) (λ e. rw e (omega (arith, count_kept p q xs)))

  -- numbers that are each at most n
  pub sum_to : (f : A → ℕ) (n : ℕ) (xs : List A) → ((a : A) → In a xs → f a ≤ n) → sum f xs ≤ length xs * n
  sum_to f n [] g = omega arith
  sum_to f n (x ∷ xs) g = omega (arith, g x (here refl), sum_to f n xs (λ a i. g a (there i)))

  -- what weighs nothing may be dropped
  pub sum_kept : (f : A → ℕ) (p : A → Bool) (xs : List A) → ((a : A) → p a ≡ false → f a ≡ 0) → sum f (keep p xs) ≡ sum f xs
  sum_kept f p [] h = refl
  sum_kept f p (x ∷ xs) h = case (p x) (λ e. rw e (omega (arith, sum_kept f p xs h))) (λ e. rw e (omega (arith, h x e, sum_kept f p xs h)))

  pub sum_le : (f g : A → ℕ) (xs : List A) → ((a : A) → In a xs → f a ≤ g a) → sum f xs ≤ sum g xs
  sum_le f g [] h = omega arith
  sum_le f g (x ∷ xs) h = omega (arith, h x (here refl), sum_le f g xs (λ a i. h a (there i)))

  pub sum_cong : (f g : A → ℕ) (xs : List A) → ((a : A) → In a xs → f a ≡ g a) → sum f xs ≡ sum g xs
  sum_cong f g [] h = refl
  sum_cong f g (x ∷ xs) h = omega (arith, h x (here refl), sum_cong f g xs (λ a i. h a (there i)))

  pub sum_zero : (f : A → ℕ) (xs : List A) → ((a : A) → In a xs → f a ≡ 0) → sum f xs ≡ 0
  sum_zero f [] h = refl
  sum_zero f (x ∷ xs) h = omega (arith, h x (here refl), sum_zero f xs (λ a i. h a (there i)))

  pub sum_in : (f : A → ℕ) {a : A} {xs : List A} → In a xs → f a ≤ sum f xs
  sum_in f {a = a} (here {x = x} e) = let q : f a ≡ f x = ap f e in omega arith
  sum_in f (there i) = omega (arith, sum_in f i)

  pub length_keep : (p : A → Bool) (xs : List A) → length (keep p xs) ≡ sum (λ (a : A). on (p a) 1) xs
  length_keep p [] = refl
  length_keep p (x ∷ xs) = case (p x) (λ e. rw e (omega (arith, length_keep p xs))) (λ e. rw e (omega (arith, length_keep p xs)))

  pub length_keep_le : (p : A → Bool) (xs : List A) → length (keep p xs) ≤ length xs
  length_keep_le p [] = omega arith
  length_keep_le p (x ∷ xs) = case (p x) (λ e. rw e (omega (arith, length_keep_le p xs))) (λ e. rw e (omega (arith, length_keep_le p xs)))
