-- The tickets that a list of calls gives. Document 01: "Tickets are numbered upward by one from the first .. and never used again. A
-- refused intake uses none."
-- Assumes nothing.
use Rattle.std.specs.Prelude.{◌≡◌, List, [], ◌∷◌, ◌++◌, map, ℕ, suc}
use Rattle.history.specs.Calls.{Event}
use Rattle.history.specs.News.{Newcomer, news}

abbrev pub given_ticket : Newcomer → ℕ
given_ticket o = o.ticket

-- the next ticket rises by one with each submission not refused, and with nothing else
abbrev pub next_after : List Newcomer → ℕ → ℕ
next_after [] t = t
next_after (o ∷ os) t = next_after os (suc t)

-- the tickets of the submissions not refused
abbrev pub tickets_given : List Event → List ℕ
tickets_given [] = []
tickets_given (e ∷ es) = map given_ticket (news e).came ++ tickets_given es

-- upward by one from t
abbrev pub Upward : ℕ → List ℕ → Type 0
Upward t [] = Unit {0}
Upward t (u ∷ us) = (u ≡ t) × Upward (suc t) us
