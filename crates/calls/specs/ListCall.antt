-- A question whose answer fills a list or a page that the caller lends: which elements it gives, by the kind of the scheduler. Document 01, 10:
-- "the lent list, page or text is shorter than what goes into it"; "Places past the last point (or past the end of what is written in a lent text)
-- keep what they held"; "A refusal gives .. any lent list unchanged".
-- Assumes nothing.
use Rattle.std.specs.Prelude.{◌≡◌, false, cond, List, [], ◌∷◌, ◌++◌, ℕ, ◌≤◌, ◌<◌, ltb, get_or, drop}
use Rattle.std.proofs.Common.{sym, arith, ltb-false}
use borrow.Author.Tests.{lt-ltb, le-ltb}
use Rattle.std.proofs.Math.ListN.{length, get_or-eq_default}
use Rattle.lists.specs.Pads.{pad}
use Rattle.lists.specs.Tests.{case}
use Rattle.scheduler.specs.declared.Kind.{Kind}
use Rattle.scheduler.specs.declared.Kind.TheVariants.{Conservative, Easy}
use Rattle.scheduler.specs.declared.Refusal.{Refusal}
use Rattle.scheduler.specs.declared.Refusal.TheVariants as refusal
use Rattle.scheduler.specs.declared.Scheduler.{Scheduler}
use Rattle.scheduler.specs.Model.{Model, view}
use Rattle.scheduler.specs.Answers.{accepts, verdict}
use Rattle.calls.specs.declared.Shown.{Shown}
use Rattle.calls.specs.declared.Listing.{Listing}

module _ {A : Type 0} where
  -- elements written over the front of a list
  abbrev pub over : List A → List A → List A
  over xs lent = xs ++ drop (length xs) lent

  -- past the n places of an array `get_or` gives z
  pub past_last : (z : A) (xs : List A) (n : ℕ) {i : ℕ} → length xs ≡ n → n ≤ i → z ≡ get_or xs i z
  past_last z xs n e l = sym (get_or-eq_default xs z (omega arith))

module _ {A : Type 0} (items : Model → List A) where
  -- the refusal for a list with this much room: it is the whole answer in a history of calls (`unchanged`)
  abbrev pub list_refusal : Model → ℕ → Refusal
  list_refusal m room = verdict ((ltb room (length (items m)), refusal.TooShort) ∷ [])

  -- the elements that are written: all, or none where the call is refused
  unfoldable pub written : Model → ℕ → List A
  written m room = cond (accepts (list_refusal m room)) (items m) []

  -- the refusal and how many are written
  abbrev pub shown : Model → ℕ → Shown
  shown m room = record { refusal = list_refusal m room; count = length (written m room) }

  -- the answer a, and the list after the call where `lent` was lent: the elements at its front, and as it was where the call is refused
  pub record Shows (d : Scheduler) (lent : List A) (a : Shown) (after : List A) : Type 0 where
    pub answers : a ≡ shown (view d) (length lent)
    pub writes : after ≡ over (written (view d) (length lent)) lent
    pub refused : accepts a.refusal ≡ false → after ≡ lent

  -- ## Laws

  pub refused_over : (d : Scheduler) (lent : List A) → accepts (shown (view d) (length lent)).refusal ≡ false
      → over (written (view d) (length lent)) lent ≡ lent
  unfolding written
  refused_over d lent e = rw e

  -- what is written fits the list
  pub written_fit : (m : Model) (room : ℕ) → length (written m room) ≤ room
  unfolding written verdict
  written_fit m room = let n = length (items m) in case (ltb room n) (λ e. rw e (omega arith)) (λ e. rw e (ltb-false room n e))

-- ## By value, in an array of n places

module _ {A : Type 0} (n : ℕ) (blank : A) where
  -- a refusal and the elements that are written
  unfoldable pub listing : Refusal → List A → Listing A n
  listing r xs = record { count = length xs; answer = record { refusal = r; count = length xs }; items = pad n blank xs }

  -- all the elements that an array has, or a refusal
  unfoldable pub listed_in : List A → ℕ → ℕ → Listing A n
  listed_in items count room =
      cond (ltb room count) (listing refusal.TooShort [])
      (record { count = count; answer = record { refusal = refusal.None; count = count }; items = items })

  pub none_listed : (items : List A) (count room : ℕ) → room < count → listing refusal.TooShort [] ≡ listed_in items count room
  unfolding listed_in
  none_listed items count room h = rw (lt-ltb room count h)

  pub all_listed : (items : List A) (count room : ℕ) → count ≤ room
      → ◌≡◌ {A = Listing A n} (record { count = count; answer = record { refusal = refusal.None; count = count }; items = items }) (listed_in items count room)
  unfolding listed_in
  all_listed items count room h = rw (le-ltb room count h)

-- in a place, and blank past the last one
abbrev pub item_at : {A : Type 0} {n : ℕ} → Listing A n → A → ℕ → A
item_at p blank i = get_or p.items i blank

-- ## Elements that a conservative scheduler has, and EASY does not. Document 01: "The Loose Desk has no profile."

module _ {A : Type 0} (items : Model → List A) where
  abbrev pub items_by : Kind → Model → List A
  items_by Conservative m = items m
  items_by Easy m = []

  abbrev pub of_conservative : Model → List A
  of_conservative m = items_by m.settings.kind m

  pub items_of : (d : Scheduler) (k : Kind) → d.settings.kind ≡ k → of_conservative (view d) ≡ items_by k (view d)
  unfolding view
  items_of d k e = rw e

  pub none_of_easy : (d : Scheduler) → d.settings.kind ≡ Easy → of_conservative (view d) ≡ []
  none_of_easy d e = items_of d Easy e
