-- The entry of a job in the book keeps its place, and its fate is made of what the calls and answers say of its ticket.
-- Assumes nothing.
use Rattle.std.specs.Prelude.{◌≡◌, not, ◌&&◌, ℕ, zero, suc, ◌+◌, ◌<◌}
use Rattle.std.proofs.Math.Path.{refl, ap}
use Rattle.std.proofs.Common.{◌∙◌, arith}
use mathlib.Core.List.{List, [], ◌∷◌, ◌++◌, map}
use Rattle.std.proofs.Math.Option.{Option}
use Rattle.std.proofs.Math.ListN.{length, get_or, length-map, length-append, get_or-append}
use Rattle.lists.specs.Tests.{case}
use Rattle.scheduler.specs.Answers.{Forecast}
use Rattle.history.specs.Calls.{Event}
use Rattle.history.specs.News.{News, news, clock_after}
use Rattle.history.specs.Book.{Fate, Entry, Book, entry, fate_after, fate_from, is_waiting, marked, head_of, is, heard, enter, enter_all}

-- the entry in a place after f has been done to each
at_map : (f : Entry → Entry) (xs : List Entry) (i : ℕ) (z : Entry) → i < length xs → get_or (map f xs) i z ≡ f (get_or xs i z)
at_map f [] i z l = absurd (omega arith)
at_map f (x ∷ xs) zero z l = refl
at_map f (x ∷ xs) (suc i) z l = at_map f xs i z (omega arith)

-- hearing a forecast changes neither ticket nor fate
heard_same : (h : Option ℕ) (f : Option Forecast) (x : Entry) → ((heard h f x).ticket ≡ x.ticket) × ((heard h f x).fate ≡ x.fate)
heard_same h f x = case (is_waiting x && is h x.ticket && not x.headed) (λ e. rw e (refl, refl)) (λ e. rw e (refl, refl))

module _ (u k : ℕ) where
  -- after one event
  entry_after : (b : Book) (e : News) (i : ℕ) (z : Entry) → i < length b.entries
      → let x = get_or b.entries i z in
      let y = get_or (enter u k b e).entries i z in
      (i < length (enter u k b e).entries) × (y.ticket ≡ x.ticket) × (y.fate ≡ fate_after k (clock_after e b.clock) e x.ticket x.fate)
  unfolding enter
  entry_after b e i z l =
      let c = clock_after e b.clock in
      let xs = b.entries ++ map (entry u b) e.came in
      let ys = map (marked k c e) xs in
      let hear = heard (head_of ys) e.head in
      let lx : i < length xs = omega (arith, length-append b.entries (map (entry u b) e.came)) in
      let ly : i < length ys = omega (arith, length-map xs (marked k c e)) in
      let p : get_or (map hear ys) i z ≡ hear (marked k c e (get_or b.entries i z)) =
      at_map hear ys i z ly
      ∙ ap hear (at_map (marked k c e) xs i z lx ∙ ap (marked k c e) (get_or-append b.entries (map (entry u b) e.came) z i l)) in
      let s = heard_same (head_of ys) e.head (marked k c e (get_or b.entries i z)) in
      (omega (arith, length-map ys hear), ap (λ (x : Entry). x.ticket) p ∙ s.0, ap (λ (x : Entry). x.fate) p ∙ s.1)

  -- after all of them
  pub entry_fate : (b : Book) (es : List Event) (i : ℕ) (z : Entry) → i < length b.entries
      → let x = get_or b.entries i z in
      (get_or (enter_all u k b es).entries i z).fate ≡ fate_from k b.clock x.ticket x.fate es
  unfolding enter
  entry_fate b [] i z l = refl
  entry_fate b (e ∷ es) i z l =
      let a = entry_after b (news e) i z l in
      let b' = enter u k b (news e) in
      entry_fate b' es i z a.0
      ∙ ap (λ (t : ℕ). fate_from k b'.clock t (get_or b'.entries i z).fate es) a.1
      ∙ ap (λ (f : Fate). fate_from k b'.clock (get_or b.entries i z).ticket f es) a.2
