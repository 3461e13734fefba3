-- A page filled from its start: what stands in it, followed by what is left to print, is what was left before.
-- Assumes nothing.
use Rattle.std.specs.Prelude.{◌≡◌, refl, List, [], ◌++◌, ℕ, ◌+◌, ◌-◌, ◌≤◌, ◌<◌, length, take, drop}
use Rattle.std.proofs.Common.{sym, ap, subst, ◌∙◌, append_assoc, arith, length-append, take_at, length-take-le}
use Rattle.std.proofs.lemmas.List.Edits.{sets-eq}
use Rattle.text.specs.WrittenBytes.{Wrote, same_size}
use Rattle.paging.specs.Players.{Player, Skips, Turned}

-- Played on from p to q: the first `end` bytes of the page are the next part of what p has still to print.
pub record Filled {P : Type 0} (L : Player P) (p : P) (page : List ℕ) (end : ℕ) (q : P) : Type 0 where
  pub inside : end ≤ length page
  pub prints : take end page ++ L.left q ≡ L.left p
  pub ready : L.Ready q
  pub less : 0 < L.weight p → L.weight q < L.weight p

-- A page of `size` bytes, room for the longest piece, with some pieces up to p: `first` is where filling began.
pub record Filling {P : Type 0} (L : Player P) (most : ℕ) (first : P) (size : ℕ) (page : List ℕ) (at : ℕ) (p : P) : Type 0 where
  pub roomy : most ≤ size
  pub whole : length page ≡ size
  pub inside : at ≤ length page
  pub prints : take at page ++ L.left p ≡ L.left first
  pub ready : L.Ready p
  pub no_more : L.weight p ≤ L.weight first
  pub moved : 0 < at → L.weight p < L.weight first

-- the bytes up to the end of what was written are those before it and what was written
wrote_take : {most : ℕ} {page bytes after : List ℕ} {at end : ℕ} → Wrote most page at bytes after end → at + most ≤ length page
    → take end after ≡ take at page ++ bytes
wrote_take {most} {page} {bytes} {after} {at} {end} w h =
    let low : at ≤ length page = omega arith in
    (λ i. take (w.place i) (w.left i))
    ∙ ap (take (at + length bytes)) (sets-eq bytes page at (omega arith))
    ∙ take_at (take at page ++ bytes) (drop (at + length bytes) page) (at + length bytes)
    (length-append (take at page) bytes ∙ ap (λ (n : ℕ). n + length bytes) (length-take-le at page low))

module _ {P : Type 0} {L : Player P} {most : ℕ} where
  pub filling_none : {p : P} (page : List ℕ) → most ≤ length page → L.Ready p → Filling L most p (length page) page 0 p
  filling_none page m r = record {
    roomy = m;
    whole = refl;
    inside = omega arith;
    prints = refl;
    ready = r;
    no_more = omega arith;
    moved = λ h. absurd (omega arith);
  }

  module _ {first p : P} {size at : ℕ} {page : List ℕ} (f : Filling L most first size page at p) where
    pub filling_skip : {q : P} → Skips L p q → Filling L most first size page at q
    filling_skip o = record {
      roomy = f.roomy;
      whole = f.whole;
      inside = f.inside;
      prints = ap (λ (z : List ℕ). take at page ++ z) o.left_is ∙ f.prints;
      ready = o.ready;
      no_more = omega arith;
      moved = λ h. omega (arith, f.moved h);
    }

    -- one turn more
    module _ {q : P} {end : ℕ} {after : List ℕ} (g : 0 < L.weight p) (t : Turned most (L.next p) page at after end q) where
      pub filling_less : L.weight q < L.weight p
      filling_less =
          let less : L.weight q ≤ L.weight p - 1 = subst (λ (x : P). L.weight x ≤ L.weight p - 1) (sym t.play_is) (L.next_less p f.ready) in
          omega arith

      module _ (room : at + most ≤ length page) where
        turn_prints : take end after ++ L.left q ≡ take at page ++ L.left p
        turn_prints =
            (λ i. wrote_take t.lines room i ++ L.left (t.play_is i))
            ∙ append_assoc (take at page) (L.next p).text (L.left (L.next p).play)
            ∙ ap (λ (z : List ℕ). take at page ++ z) (sym (L.next_left p f.ready))

        pub filling_more : Filling L most first size after end q
        filling_more = record {
          roomy = f.roomy;
          whole = same_size t.lines ∙ f.whole;
          inside = omega (arith, same_size t.lines);
          prints = turn_prints ∙ f.prints;
          ready = subst L.Ready (sym t.play_is) (L.next_ready p f.ready);
          no_more = omega (arith, filling_less);
          moved = λ h. omega (arith, filling_less);
        }

    filled_by : (0 < L.weight first → L.weight p < L.weight first) → Filled L first page at p
    filled_by h = record { inside = f.inside; prints = f.prints; ready = f.ready; less = h }

    -- the page lacks room for the longest piece: not at its start
    pub filled_full : length page - at < most → Filled L first page at p
    filled_full k = filled_by (λ g. f.moved (omega arith))

    pub filled_over : L.weight p ≡ 0 → Filled L first page at p
    filled_over e = filled_by (λ g. omega arith)

  -- one turn alone
  pub filled_once : {p q : P} {page after : List ℕ} {end : ℕ}
      → L.Ready p → 0 < L.weight p → most ≤ length page → Turned most (L.next p) page 0 after end q → Filled L p after end q
  filled_once {page = page} r g m t =
      let f = filling_none page m r in
      filled_by (filling_more f g t (omega arith)) (λ h. filling_less f g t)

-- ## All the pages

-- What is written if page after page is filled from p on and written up to its end, until all is played.
pub data Pages {P : Type 0} (L : Player P) : P → List ℕ → Type 0 where
  done : {p : P} → L.weight p ≡ 0 → Pages L p []
  next : {p q : P} {page out : List ℕ} {end : ℕ} → Filled L p page end q → Pages L q out → Pages L p (take end page ++ out)

-- it is what p had still to print
pub pages_left : {P : Type 0} {L : Player P} {p : P} {out : List ℕ} → Pages L p out → out ≡ L.left p
pages_left {L = L} (done {p} e) = sym (L.over_left p e)
pages_left (next {page = page} {end = end} f rest) = ap (λ (z : List ℕ). take end page ++ z) (pages_left rest) ∙ f.prints
