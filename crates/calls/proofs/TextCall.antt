-- What bytes written from the first on leave in a page, and what a call for a text shows then.
-- Assumes nothing.
use Rattle.std.specs.Prelude.{◌≡◌, List, ℕ, ◌+◌, ◌≤◌, ◌<◌, length, take, drop}
use Rattle.std.proofs.Math.Path.{refl}
use Rattle.std.proofs.Common.{ap, ◌∙◌, arith, take_at}
use Rattle.std.proofs.Math.Bool.{true}
use Rattle.std.proofs.lemmas.List.Edits.{sets, sets-eq}
use borrow.Author.Tests.{lt-ltb, le-ltb}
use Rattle.lists.specs.Tests.{true_false}
use Rattle.text.specs.WrittenBytes.{Wrote}
use Rattle.scheduler.specs.declared.Refusal.TheVariants as refusal
use Rattle.scheduler.specs.declared.Scheduler.{Scheduler}
use Rattle.scheduler.specs.Model.{Model, view}
use Rattle.scheduler.specs.Answers.{verdict}
use Rattle.calls.specs.ListCall.{over, written, Shows}
use Rattle.calls.specs.TextCall.{ShowsBytes}

-- bytes written from the first on
front : (bytes page : List ℕ) → length bytes ≤ length page → sets page 0 bytes ≡ over bytes page
front bytes page l = let z : 0 + length bytes ≡ length bytes = omega arith in rw z at (sets-eq bytes page 0 (omega arith))

module _ {most : ℕ} {page bytes after : List ℕ} {end : ℕ} (l : most ≤ length page) (w : Wrote most page 0 bytes after end) where
  -- what stands there once they are written
  pub front_is : take end after ≡ bytes
  front_is = ap (take end) (w.left ∙ front bytes page (omega (arith, w.few))) ∙ take_at bytes (drop (length bytes) page) end (omega (arith, w.place))

  pub front_size : end ≡ length (take end after)
  front_size = omega (arith, w.place, ap length front_is)

-- of every text
module _ (text : Model → List ℕ) (d : Scheduler) (lent : List ℕ) where
  abbrev size : ℕ
  size = length (text (view d))

  pub text_refused : length lent < size → Shows text d lent (record { refusal = refusal.TooShort; count = 0 }) lent
  unfolding written verdict
  text_refused l = let e = lt-ltb (length lent) size l in record { answers = rw e; writes = rw e; refused = λ a. refl }

  pub text_shown_lem : {most : ℕ} {after : List ℕ} {end : ℕ} → size ≤ length lent → Wrote most lent 0 (text (view d)) after end
      → Shows text d lent (record { refusal = refusal.None; count = end }) after
  unfolding written verdict
  text_shown_lem {end = end} l w =
      let e = le-ltb (length lent) size l in
      let p : end ≡ size = omega (arith, w.place) in
      record {
        answers = rw (e, p);
        writes = rw e (w.left ∙ front (text (view d)) lent l);
        refused = λ a. true_false true refl a;
      }

-- the same of bytes that a text is
pub bytes_refused : (bytes lent : List ℕ) → length lent < length bytes → ShowsBytes bytes lent (record { refusal = refusal.TooShort; count = 0 }) lent
bytes_refused bytes lent l text d e = text_refused text d lent (omega (arith, ap length e))

pub bytes_shown : (bytes lent after : List ℕ) (end : ℕ) → length bytes ≤ length lent → (end ≡ 0 + length bytes) × (after ≡ sets lent 0 bytes)
    → ShowsBytes bytes lent (record { refusal = refusal.None; count = end }) after
bytes_shown bytes lent after end l c text d e =
    text_shown_lem text d lent {most = length bytes} (omega (arith, ap length e))
    (record { place = omega (arith, c.0, ap length e); left = c.1 ∙ ap (sets lent 0) e; few = omega (arith, ap length e) })
