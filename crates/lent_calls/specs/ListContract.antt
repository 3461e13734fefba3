-- What a question leaves in the list lent to it, where its elements are handed over in an array (`Shows` in `calls/specs/ListCall.antt`).
-- Assumes nothing.
use Rattle.std.specs.Prelude.{◌≡◌, refl, List, [], ◌∷◌, ◌++◌, ℕ, ◌-◌, ◌≤◌, ltb, length, get_or, take, drop, replicate}
use Rattle.std.proofs.Common.{ap, sym, subst, arith, ◌∙◌}
use Rattle.std.proofs.Math.Seq.{take-append_seam}
use Rattle.lists.specs.Pads.{pad}
use Rattle.lists.specs.Tests.{case}
use Rattle.scheduler.specs.declared.Scheduler.{Scheduler}
use Rattle.scheduler.specs.Model.{Model, view}
use Rattle.scheduler.specs.Answers.{verdict}
use Rattle.calls.specs.declared.Listing.{Listing}
use Rattle.calls.specs.ListCall.{over, list_refusal, written, shown, Shows, listing, item_at, refused_over, written_fit}
use Rattle.lent_lemmas.specs.Lists.{tabulate}

module _ {A : Type 0} where
  -- what stands in the first places of an array
  pub tabulate_front : (z : A) (xs ys : List A) → tabulate (length xs) (λ i. get_or (xs ++ ys) i z) ≡ xs
  tabulate_front z [] ys = refl
  tabulate_front z (x ∷ xs) ys = ap (λ (l : List A). x ∷ l) (tabulate_front z xs ys)

module _ {A : Type 0} (items : Model → List A) (d : Scheduler) (lent : List A) where
  -- where the first places of an array have the elements
  pub shows_by : (f : ℕ → A) → let n = length (written items (view d) (length lent)) in tabulate n f ≡ written items (view d) (length lent)
      → Shows items d lent (shown items (view d) (length lent)) (tabulate n f ++ drop n lent)
  shows_by f e =
      let p = ap (λ (l : List A). l ++ drop (length (written items (view d) (length lent))) lent) e in
      record { answers = refl; writes = p; refused = λ a. p ∙ refused_over items d lent a }

module _ {A : Type 0} (n : ℕ) (blank : A) (items : Model → List A) (d : Scheduler) where
  abbrev pub listed : ℕ → Listing A n
  listed room = listing n blank (list_refusal items (view d) room) (written items (view d) room)

  written_few : (room : ℕ) → length (items (view d)) ≤ n → length (written items (view d) room) ≤ n
  unfolding written verdict
  written_few room l = case (ltb room (length (items (view d)))) (λ e. rw e (omega arith)) (λ e. rw e l)

  -- where what the call by value gives is written to the list
  pub listed_given : (lent : List A) (p : Listing A n) → p ≡ listed (length lent) → Shows items d lent p.answer (over (take p.count p.items) lent)
  unfolding listing pad
  listed_given lent p e =
      let xs = written items (view d) (length lent) in
      let t : take (length xs) (xs ++ replicate (n - length xs) blank) ≡ xs = take-append_seam xs (replicate (n - length xs) blank) in
      subst (λ (q : Listing A n). Shows items d lent q.answer (over (take q.count q.items) lent)) (sym e)
      (record {
        answers = refl;
        writes = ap (λ (ys : List A). over ys lent) t;
        refused = λ a. ap (λ (ys : List A). over ys lent) t ∙ refused_over items d lent a;
      })

  -- written to the list, it stands there place by place
  pub listed_over : (room : ℕ) (lent : List A) (p : Listing A n) → p ≡ listed room
      → tabulate p.count (item_at p blank) ++ drop p.count lent ≡ over (take p.count p.items) lent
  unfolding listing pad
  listed_over room lent p e =
      let xs = written items (view d) room in
      let ys = replicate (n - length xs) blank in
      let t : take (length xs) (xs ++ ys) ≡ xs = take-append_seam xs ys in
      subst (λ (q : Listing A n). tabulate q.count (item_at q blank) ++ drop q.count lent ≡ over (take q.count q.items) lent) (sym e)
      (ap (λ (l : List A). l ++ drop (length xs) lent) (tabulate_front blank xs ys) ∙ ap (λ (l : List A). over l lent) (sym t))

  -- it fits the list, and the array if all elements do
  pub listed_fits : (room : ℕ) (p : Listing A n) → length (items (view d)) ≤ n → p ≡ listed room → (p.count ≤ n) × (p.count ≤ room)
  unfolding listing
  listed_fits room p l e =
      let c = ap (λ (q : Listing A n). q.count) e in
      (omega (arith, c, written_few room l), omega (arith, c, written_fit items (view d) room))
