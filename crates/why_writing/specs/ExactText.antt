-- What a writer leaves that asks for room for exactly what it writes; and what stands before a part of a text.
-- Assumes nothing.
use Rattle.std.specs.Prelude.{◌≡◌, length, get_or, take}
use mathlib.Core.List.{List, [], ◌∷◌, ◌++◌, flat_map}
use Prim.Native.Nat.{ℕ, zero, suc, ◌+◌, ◌≤◌, ◌<◌}
use Rattle.std.proofs.Common.{arith}
use Rattle.std.proofs.Math.ListN.{length-append}
use Rattle.std.proofs.lemmas.List.Edits.{sets}
use Rattle.text.specs.WrittenBytes.{Wrote, wrote, wrote_none, room_after, and_then, with_room}

-- the page has room for these bytes at a place
pub record Room (page : List ℕ) (at : ℕ) (bytes : List ℕ) : Type 0 where
  pub fits : at + length bytes ≤ length page

-- they stand there, and the place after them is given back
abbrev pub Writes : (page : List ℕ) (at : ℕ) (bytes after : List ℕ) (end : ℕ) → Type 0
Writes page at bytes after end = Wrote (length bytes) page at bytes after end

pub writes_none : (page : List ℕ) (at : ℕ) → Writes page at [] page at
writes_none page at = wrote_none 0 page at

-- as the writers of `text` say it
pub writes : (bytes : List ℕ) {page : List ℕ} {at : ℕ} {after : List ℕ} {end : ℕ} → (end ≡ at + length bytes) × (after ≡ sets page at bytes)
    → Writes page at bytes after end
writes bytes {page} {at} {after} {end} e = wrote (length bytes) page at bytes after end (omega arith) e

pub writes_then : {page p q : List ℕ} {at a b : ℕ} {xs ys : List ℕ} → Writes page at xs p a → Writes p a ys q b → Writes page at (xs ++ ys) q b
writes_then {xs = xs} {ys = ys} v w = with_room (and_then v w) (length (xs ++ ys)) (omega (arith, length-append xs ys))

-- a part of a text that has room, where what stands before it is written
pub room_at : {page p : List ℕ} {at a : ℕ} {whole before part : List ℕ} → Writes page at before p a → Room page at whole
    → length before + length part ≤ length whole → Room p a part
room_at {part = part} w r h = record { fits = room_after w (length part) (omega (arith, r.fits)) }

-- texts one after another: those up to a place, and the one there, are no longer than all
module _ {A : Type 0} (f : A → List ℕ) where
  pub flat_room : (xs : List A) (i : ℕ) (z : A) → i < length xs → length (flat_map f (take i xs)) + length (f (get_or xs i z)) ≤ length (flat_map f xs)
  unfolding flat_map
  flat_room [] i z l = absurd (omega arith)
  flat_room (x ∷ xs) zero z l = omega (arith, length-append (f x) (flat_map f xs))
  flat_room (x ∷ xs) (suc i) z l =
      omega (arith, length-append (f x) (flat_map f (take i xs)), length-append (f x) (flat_map f xs), flat_room xs i z (omega arith))
