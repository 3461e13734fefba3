-- What a question answers a host, and leaves in the list lent to it. Document 01: "Places past the last point .. keep what they held"; "A
-- refusal gives .. any lent list unchanged".
-- Assumes nothing.
use Rattle.std.specs.Prelude.{◌≡◌, refl, false, List, [], ◌∷◌, ◌++◌, map, ℕ, eqb, length, get_or, drop}
use Rattle.std.proofs.Common.{ap, ◌∙◌}
use Rattle.scheduler.specs.Model.{Model, view}
use Rattle.scheduler.specs.Answers.{code}
use Rattle.calls.specs.declared.Shown as calls-shown
use Rattle.calls.specs.declared.Listing as calls-listing
use Rattle.calls.specs.ListCall.{written, shown}
use Rattle.lent_lemmas.specs.Lists.{tabulate}
use Rattle.hingerota.specs.declared.Desk.{Desk}
use Rattle.hingerota.specs.declared.Shown.{Shown}
use Rattle.hingerota.specs.declared.Listing.{Listing}
use Rattle.hingerota.specs.Mirror.{read}

abbrev pub mirror_shown : calls-shown.Shown → Shown
mirror_shown a = record { refusal = code a.refusal; count = a.count }

abbrev pub mirror_listing : {A : Type 0} {n : ℕ} → calls-listing.Listing A n → Listing A n
mirror_listing p = record { count = p.count; answer = mirror_shown p.answer; items = p.items }

-- elements in numbers, written over the front of a list
abbrev pub over : {A B : Type 0} → (A → B) → List A → List B → List B
over mirror xs lent = map mirror xs ++ drop (length xs) lent

-- what stands in the first places of an array
pub tabulate_front : {A B : Type 0} (mirror : A → B) (z : A) (xs ys : List A) → tabulate (length xs) (λ i. mirror (get_or (xs ++ ys) i z)) ≡ map mirror xs
tabulate_front mirror z [] ys = refl
tabulate_front {B = B} mirror z (x ∷ xs) ys = ap (λ (l : List B). mirror x ∷ l) (tabulate_front mirror z xs ys)

module _ {A B : Type 0} (items : Model → List A) (mirror : A → B) (d : Desk) (lent : List B) where
  -- what is written into a list with so much room: all, or none where the call is refused
  abbrev written_for : List A
  written_for = written items (view (read d)) (length lent)

  abbrev answer_for : Shown
  answer_for = mirror_shown (shown items (view (read d)) (length lent))

  -- the answer a, and the list after the call where `lent` was lent: the elements at its front, and as it was where the call is refused
  pub record HostShows (a : Shown) (after : List B) : Type 0 where
    pub answers : a ≡ answer_for
    pub writes : after ≡ over mirror written_for lent
    pub refused : eqb a.refusal 0 ≡ false → after ≡ lent

  refused_over : eqb answer_for.refusal 0 ≡ false → over mirror written_for lent ≡ lent
  unfolding written
  refused_over e = rw e

  -- where the first places of an array have the elements
  pub shows_by : (f : ℕ → B) → tabulate (length written_for) f ≡ map mirror written_for → HostShows answer_for (tabulate (length written_for) f ++ drop (length written_for) lent)
  shows_by f e =
      let p = ap (λ (l : List B). l ++ drop (length written_for) lent) e in
      record { answers = refl; writes = p; refused = λ a. p ∙ refused_over a }
