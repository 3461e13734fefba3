-- Anything that is played piece by piece: what one turn prints, and the state of play after it.
-- Assumes nothing.
use Rattle.std.specs.Prelude.{◌≡◌, refl, List, [], ◌++◌, ℕ, zero, suc, ◌-◌, ◌≤◌}
use Rattle.std.proofs.Common.{sym, ap, subst, ◌∙◌, arith}
use Rattle.text.specs.WrittenBytes.{Wrote, wrote_none}

pub record Piece (P : Type 0) : Type 0 where
  pub text : List ℕ
  pub play : P

abbrev pub piece : {P : Type 0} → List ℕ → P → Piece P
piece t p = record { text = t; play = p }

-- For each state of play: the next piece, all that is still to be printed, and an upper bound on what is still to be played. Play goes on while
-- that bound is above 0. A piece is the next part of what is to be printed, and leaves less to play.
pub record Player (P : Type 0) : Type 1 where
  pub next : P → Piece P
  pub left : P → List ℕ
  pub weight : P → ℕ
  pub Ready : P → Type 0
  pub next_left : (p : P) → Ready p → left p ≡ (next p).text ++ left (next p).play
  pub next_ready : (p : P) → Ready p → Ready (next p).play
  pub next_less : (p : P) → Ready p → weight (next p).play ≤ weight p - 1
  pub over_left : (p : P) → weight p ≡ 0 → left p ≡ []

module _ {P : Type 0} (L : Player P) where
  -- q stands for p: it has as much left to print, and no more to play
  pub record Skips (p q : P) : Type 0 where
    pub left_is : L.left q ≡ L.left p
    pub ready : L.Ready q
    pub no_more : L.weight q ≤ L.weight p

  -- the first n pieces, one after the other
  abbrev pub pieces : ℕ → P → List ℕ
  pieces zero p = []
  pieces (suc n) p = (L.next p).text ++ pieces n (L.next p).play

  -- played to the end, they are what there was to print
  pub pieces_left : (n : ℕ) (p : P) → L.Ready p → L.weight p ≤ n → pieces n p ≡ L.left p
  pieces_left zero p r h = sym (L.over_left p (omega arith))
  pieces_left (suc n) p r h =
      let x = L.next p in
      ap (λ (t : List ℕ). x.text ++ t) (pieces_left n x.play (L.next_ready p r) (omega (arith, L.next_less p r))) ∙ sym (L.next_left p r)

-- ## A turn

-- The lines of the piece x, at most this many bytes, stand in the page from a place on, and x leads to p.
pub record Turned {P : Type 0} (most : ℕ) (x : Piece P) (page : List ℕ) (at : ℕ) (after : List ℕ) (end : ℕ) (p : P) : Type 0 where
  pub play_is : p ≡ x.play
  pub lines : Wrote most page at x.text after end

module _ {P : Type 0} {most : ℕ} {page after : List ℕ} {at end : ℕ} where
  -- a turn of a piece is one of any that equals it
  pub turned_as : {x y : Piece P} {p : P} → x ≡ y → Turned most x page at after end p → Turned most y page at after end p
  turned_as {x} {y} {p} e t = subst (λ (z : Piece P). Turned most z page at after end p) e t

  pub turned : {t : List ℕ} (p : P) → Wrote most page at t after end → Turned most (piece t p) page at after end p
  turned p w = record { play_is = refl; lines = w }

pub turned_none : {P : Type 0} (most : ℕ) (page : List ℕ) (at : ℕ) (p : P) → Turned most (piece [] p) page at page at p
turned_none most page at p = turned p (wrote_none most page at)
