-- What the answers of the readers mean, in the words of the definitions of a line.
-- Assumes nothing.
use Rattle.std.specs.Prelude.{◌≡◌, refl, Bool, true, false, cond, List, ℕ, ◌+◌, ◌-◌, ◌≤◌, ◌<◌, ltb, length, get_or, take, drop}
use Rattle.std.proofs.Common.{ap, sym, ◌∙◌, ⊎_elim, arith, lt-ltb, le-ltb}
use Rattle.std.proofs.Math.Option.{Option, none, some}
use Rattle.lists.specs.Tests.{case, le_or}
use Rattle.text.specs.declared.Line as text
use Rattle.text.specs.Lines.{line_at}
use Rattle.scheduler.specs.declared.Kind.{Kind}
use Rattle.scheduler.specs.declared.Opening.{Opening}
use Rattle.desk_lines.specs.DeskLine.{closed_only}
use Rattle.desk_lines.specs.LineLaws.{line_of, past}
use Rattle.season_rules.specs.declared.Arrival.{Arrival}
use Rattle.season_rules.specs.Reading.{most_lines, opening_with, arrival_in, arrival_of}
use Rattle.season_reading.specs.declared.Listed.{Listed}
use Rattle.season_reading.specs.declared.Listed.TheVariants as listed
use Rattle.season_reading.specs.declared.Ahead.{Ahead}

-- what the numbers of the first line say
abbrev pub opening_of : Kind → List ℕ → Option Opening
opening_of k vs = some (opening_with k (get_or vs 0 0) (get_or vs 1 0) (get_or vs 2 0))

-- what is listed in a line
abbrev pub listed_of : Option Arrival → Listed
listed_of (some a) = listed.Is a
listed_of none = listed.Malformed

abbrev pub meaning : Listed → Option Arrival
meaning (listed.Is a) = some a
meaning listed.Malformed = none
meaning listed.None = none

pub means : (o : Option Arrival) → meaning (listed_of o) ≡ o
means (some a) = refl
means none = refl

-- what stands at a place of a list, with this many lines above it: nothing at its end or past it, and otherwise a line
pub record Reads (list : List ℕ) (at above : ℕ) (r : Ahead) : Type 0 where
  pub at_end : length list ≤ at → (r.listed ≡ listed.None) × (r.next ≡ at)
  pub in_list : at < length list → (r.listed ≡ listed_of (arrival_of above (line_of list at))) × (r.next ≡ past list at)

module _ (list : List ℕ) (at above : ℕ) where
  pub reads_end : length list ≤ at → Reads list at above (record { listed = listed.None; next = at })
  reads_end h = record { at_end = λ i. (refl, refl); in_list = λ i. absurd (omega arith) }

  abbrev listed_in : text.Line → Listed
  listed_in l = listed_of (arrival_of above (record { bytes = take (l.end - at) (drop at list); closed = l.closed }))

  module _ (l : text.Line) where
    abbrev bytes : List ℕ
    bytes = take (l.end - at) (drop at list)

    pub lists_unclosed : l.closed ≡ false → listed.Malformed ≡ listed_in l
    lists_unclosed e = rw e (case (ltb above most_lines) (λ t. rw t) (λ t. rw t))

    pub lists_past : most_lines ≤ above → listed.Malformed ≡ listed_in l
    lists_past h = rw (le-ltb above most_lines h)

    pub lists_nothing : arrival_in bytes ≡ none → listed.Malformed ≡ listed_in l
    lists_nothing e = rw e (case (ltb above most_lines) (λ t. rw t (none_closed l.closed)) (λ t. rw t)) where
      none_closed : (b : Bool) → listed.Malformed ≡ listed_of (closed_only b none)
      none_closed true = refl
      none_closed false = refl

    pub lists_line : l.closed ≡ true → above < most_lines → (x : Listed) → arrival_in bytes ≡ meaning x → listed_of (meaning x) ≡ x → x ≡ listed_in l
    lists_line c h x e q = rw (lt-ltb above most_lines h, c, e) (sym q)

  pub reads_line : at < length list → (l : text.Line) → l ≡ line_at list at → (x : Listed) → x ≡ listed_in l
      → (next : ℕ) → next ≡ cond l.closed (l.end + 1) l.end → Reads list at above (record { listed = x; next = next })
  reads_line h l e x f next n = record {
    at_end = λ i. absurd (omega arith);
    in_list = λ i. (f ∙ ap listed_in e, n ∙ ap (λ (k : text.Line). cond k.closed (k.end + 1) k.end) e);
  }

-- ## What each answer says

line_some : (o : Option Arrival) → listed_of o ≡ listed.None → ⊥
line_some (some a) e = let z : ◌≡◌ {A = ℕ} 0 1 = cc in omega arith
line_some none e = let z : ◌≡◌ {A = ℕ} 0 1 = cc in omega arith

pub record ReadLine (list : List ℕ) (at above : ℕ) (says : Option Arrival) (next : ℕ) : Type 0 where
  pub inside : at < length list
  pub line_says : arrival_of above (line_of list at) ≡ says
  pub next_is : next ≡ past list at

module _ {list : List ℕ} {at above : ℕ} {r : Ahead} (h : Reads list at above r) where
  pub read_none : r.listed ≡ listed.None → (length list ≤ at) × (r.next ≡ at)
  read_none e =
      ⊎_elim
      (λ l. (l, (h.at_end l).1))
      (λ l. absurd (line_some (arrival_of above (line_of list at)) (sym (h.in_list l).0 ∙ e)))
      (le_or (length list) at)

  pub read_line : (o : Option Arrival) → r.listed ≡ listed_of o → ReadLine list at above o r.next
  read_line o e =
      ⊎_elim
      (λ l. absurd (line_some o (sym e ∙ (h.at_end l).0)))
      (λ l. record {
        inside = l;
        line_says = sym (means (arrival_of above (line_of list at))) ∙ ap meaning (sym (h.in_list l).0 ∙ e) ∙ means o;
        next_is = (h.in_list l).1;
      })
      (le_or (length list) at)
