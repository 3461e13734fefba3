-- What a writer leaves: bytes at a place of the page, no more than a number of them, and the place after them.
-- Assumes nothing.
use Rattle.std.specs.Prelude.{◌≡◌, refl, List, [], ◌++◌, ℕ, ◌+◌, ◌≤◌, length}
use Rattle.std.proofs.Common.{sym, ap, arith, length-append}
use Rattle.std.proofs.lemmas.List.Edits.{sets}
use Rattle.std.proofs.Math.Seq.{length-sets}
use Rattle.text.specs.WriterLaws.{sets_append}

pub record Wrote (most : ℕ) (page : List ℕ) (at : ℕ) (bytes after : List ℕ) (end : ℕ) : Type 0 where
  pub place : end ≡ at + length bytes
  pub left : after ≡ sets page at bytes
  pub few : length bytes ≤ most

-- what the writers of `text` say
pub wrote : (most : ℕ) (page : List ℕ) (at : ℕ) (bytes after : List ℕ) (end : ℕ)
    → length bytes ≤ most → (end ≡ at + length bytes) × (after ≡ sets page at bytes) → Wrote most page at bytes after end
wrote most page at bytes after end h e = record { place = e.0; left = e.1; few = h }

pub wrote_none : (most : ℕ) (page : List ℕ) (at : ℕ) → Wrote most page at [] page at
wrote_none most page at = record { place = omega arith; left = refl; few = omega arith }

module _ {most : ℕ} {page p : List ℕ} {at a : ℕ} {xs : List ℕ} (w : Wrote most page at xs p a) where
  pub same_size : length p ≡ length page
  same_size = omega (arith, ap length w.left, length-sets page at xs)

  -- room is left for what follows
  pub room_after : (more : ℕ) → at + (most + more) ≤ length page → a + more ≤ length p
  room_after more h = omega (arith, w.place, w.few, same_size)

  pub with_room : (more : ℕ) → most ≤ more → Wrote more page at xs p a
  with_room more h = record { place = w.place; left = w.left; few = omega (arith, w.few) }

  -- what is written next to it is written with it
  pub and_then : {more : ℕ} {ys q : List ℕ} {b : ℕ} → Wrote more p a ys q b → Wrote (most + more) page at (xs ++ ys) q b
  and_then {more} {ys} {q} {b} v =
      record {
        place = omega (arith, w.place, v.place, length-append xs ys);
        left = rw (v.left, w.left, w.place) (sym (sets_append page at xs ys));
        few = omega (arith, w.few, v.few, length-append xs ys);
      }
