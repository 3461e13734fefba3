-- What a search gives as an `Option`: a place, or none.
-- Assumes nothing.
use Rattle.std.specs.Prelude.{ℕ, ◌+◌, ◌≤◌, ◌<◌, ◌≡◌, refl, Bool, true, false, List, [], ◌∷◌, length, map}
use Rattle.std.specs.Prelude as std
use Rattle.std.proofs.Common.{arith, sym, ap, ◌∙◌}
use Rattle.std.proofs.Math.Option.{Option, none, some}
use Rattle.lists.specs.Chains.{option_of}
use Rattle.lists.specs.Lists.{first}
use Rattle.lists.specs.FirstLaws.{first_nowhere}
use Rattle.lists.specs.Loops.{position_from, position, position_says}
use Rattle.std.proofs.lemmas.List.Quantifiers.{position-Some}
use Rattle.lists.specs.Tests.{case, true_false}
use Rattle.scheduler.specs.declared.Job.{Job}
use Rattle.scheduler.specs.Jobs.{unused}
use Rattle.job_columns.specs.Searches.{place_of}
use Rattle.easy_engine.specs.Survey.{job_in}
use Rattle.easy_engine.specs.Choices.{no_job_in}

-- the nodes of a job found, if one is
abbrev pub Asked : Option Job → std.Option ℕ → Type 0
Asked f std.None = f ≡ none
Asked f (std.Some n) = (j : Job) × (f ≡ some j) × (n ≡ j.nodes)

-- the place is that of the job chosen, if any is
abbrev pub Chosen : List Job → ℕ → Option Job → std.Option ℕ → Type 0
Chosen ws waiting c std.None = c ≡ none
Chosen ws waiting c (std.Some i) = (i < waiting) × (job_in ws i ≡ c)

-- a search of what a function makes of each
pub position_map : {A B : Type 0} (p : B → Bool) (f : A → B) (k : ℕ) (xs : List A) → position_from p k (map f xs) ≡ position_from (λ (a : A). p (f a)) k xs
position_map p f k [] = refl
position_map p f k (x ∷ xs) = case (p (f x)) (λ e. rw e) (λ e. rw (e, position_map p f (k + 1) xs))

module _ (p : Job → Bool) (ws : List Job) {waiting : ℕ} (n : length ws ≡ waiting) (r : std.Option ℕ) (e : option_of r ≡ position p ws) where
  -- where it finds none, the place is the count
  pub nowhere : r ≡ std.None → waiting ≡ place_of (position p ws) waiting
  nowhere z = ap (λ (o : Option ℕ). place_of o waiting) (sym (ap option_of z) ∙ e)

  -- where it finds one, that is the place
  pub found : (i : ℕ) → r ≡ std.Some i → i ≡ place_of (position p ws) waiting
  found i z = ap (λ (o : Option ℕ). place_of o waiting) (sym (ap option_of z) ∙ e)

  pub within : (i : ℕ) → r ≡ std.Some i → i < waiting
  within i z =
      let h = position_says unused p ws 0 i (sym (sym (ap option_of z) ∙ e)) in
      omega (arith, h.at_is, h.inside)

-- a place by the count is a place by the search
pub chosen_by : (p : Job → Bool) (ws : List Job) {waiting : ℕ} (n : length ws ≡ waiting) (r : std.Option ℕ) → option_of r ≡ position p ws
    → (c : Option Job) → ((i : ℕ) → i ≡ place_of (position p ws) waiting → job_in ws i ≡ c) → Chosen ws waiting c r
chosen_by p ws {waiting} n std.None e c f = sym (f waiting (nowhere p ws n std.None e refl)) ∙ no_job_in ws waiting (omega arith)
chosen_by p ws {waiting} n (std.Some i) e c f = (within p ws n (std.Some i) e i refl, f i (found p ws n (std.Some i) e i refl))

-- where the count is the place, nobody is chosen
pub none_chosen : (ws : List Job) {waiting : ℕ} → length ws ≡ waiting → (c : Option Job) → job_in ws waiting ≡ c → c ≡ none
none_chosen ws {waiting} n c e = sym e ∙ no_job_in ws waiting (omega arith)

pub none_is : (ws : List Job) {waiting : ℕ} → length ws ≡ waiting → (c : Option Job) → c ≡ none → job_in ws waiting ≡ c
none_is ws {waiting} n c e = no_job_in ws waiting (omega arith) ∙ sym e

-- a place found is one of the list's
pub below : (p : ℕ → Bool) (xs : List ℕ) {n : ℕ} → length xs ≤ n → (r : std.Option ℕ) → r ≡ std.position p xs → std.IfSome r (λ (i : ℕ). i < n)
below p xs l std.None e = tt
below p xs l (std.Some i) e = omega (arith, (position-Some p xs i 0 (sym e)).0)

pub none_of : (r : std.Option ℕ) → std.is_some r ≡ false → r ≡ std.None
none_of std.None e = refl
none_of (std.Some i) e = true_false true refl e

-- and where it finds none, nobody passes
pub nobody : (p : Job → Bool) (ws : List Job) (r : std.Option ℕ) → option_of r ≡ position p ws → std.is_some r ≡ false → first p ws ≡ none
nobody p ws r e n = first_nowhere p ws 0 (sym e ∙ ap option_of (none_of r n))
