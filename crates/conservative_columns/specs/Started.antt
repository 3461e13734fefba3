-- Who waited before and runs now, by two columns of states: the tickets are listed one after another.
-- Assumes nothing.
use Rattle.std.specs.Prelude.{ℕ, ◌+◌, ◌≤◌, ◌<◌, ◌≡◌, true, false, List, [], ◌∷◌, ◌++◌, length, get_or, set, take}
use Rattle.std.proofs.Common.{arith, add-one, sym, ap, ◌∙◌, length-append, length-set, take-suc-set, take_all, eq-eqb, ne_eqb}
use Rattle.lists.specs.Tests.{and_right_false}
use Rattle.scheduler.specs.declared.Job.{Job}
use Rattle.scheduler.specs.Limits.{slots}
use Rattle.scheduler.specs.Jobs.{unused, is_waiting, is_running}
use Rattle.scheduler.specs.Table.{ticket_of}
use Rattle.job_columns.specs.Columns.{Column, Whole, column_at}
use Rattle.job_columns.specs.JobColumns.{state_of}
use Rattle.job_columns.specs.Encoding.{number_waiting, number_running}
use Rattle.column_parts.specs.ColumnParts.{Listing}
use Rattle.column_parts.specs.LeavingColumns.{list_none}
use Rattle.conservative_rules.specs.Conservative.{begun}
use Rattle.conservative.specs.Advance.{began, begun_yes, begun_no}

-- a ticket more
pub listing_more : {ts list : List ℕ} {n : ℕ} (t : ℕ) → n < slots → Listing ts list n → Listing (ts ++ (t ∷ [])) (set list n t) (n + 1)
listing_more {ts} {list} {n} t l k = record {
  whole = length-set list n t ∙ k.whole;
  count_is = omega (arith, k.count_is, length-append ts (t ∷ []));
  first_are = rw (add-one, take-suc-set list n t (omega (arith, k.whole))) (ap (λ (xs : List ℕ). xs ++ (t ∷ [])) k.first_are);
}

-- the jobs before and after
pub record Compared (js ks : List Job) (tickets was states : List ℕ) (live : ℕ) : Type 0 where
  pub tickets_are : Column ticket_of js tickets
  pub was_are : Column state_of js was
  pub states_are : Column state_of ks states
  pub before_is : length js ≡ live
  pub after_is : length ks ≡ live

module _ {js ks : List Job} {tickets was states : List ℕ} {live : ℕ} (c : Compared js ks tickets was states live) where
  -- those in the first places
  abbrev pub Noted : ℕ → List ℕ → ℕ → Type 0
  Noted i list n = Listing (begun (take i js) (take i ks)) list n

  pub noted_none : (list : List ℕ) → Whole list → Noted 0 list 0
  noted_none list w = list_none list w

  module _ {i : ℕ} (l : i < live) where
    abbrev j : Job
    j = get_or js i unused

    abbrev k : Job
    k = get_or ks i unused

    was_there : get_or was i 0 ≡ state_of j
    was_there = column_at state_of js was c.was_are unused i (omega (arith, c.before_is))

    state_there : get_or states i 0 ≡ state_of k
    state_there = column_at state_of ks states c.states_are unused i (omega (arith, c.after_is))

    ticket_there : get_or tickets i 0 ≡ j.ticket
    ticket_there = column_at ticket_of js tickets c.tickets_are unused i (omega (arith, c.before_is))

    pub noted_yes : {list : List ℕ} {n : ℕ} → n < slots → get_or states i 0 ≡ 2 → get_or was i 0 ≡ 1 → Noted i list n
        → Noted (i + 1) (set list n (get_or tickets i 0)) (n + 1)
    noted_yes {list} {n} f r w v =
        let waits : is_waiting j ≡ true = sym (number_waiting j.state) ∙ eq-eqb (state_of j) 1 (sym was_there ∙ w) in
        let runs : is_running k ≡ true = sym (number_running k.state) ∙ eq-eqb (state_of k) 2 (sym state_there ∙ r) in
        let one : began j k ≡ true = rw (waits, runs) in
        rw (ticket_there, begun_yes i js ks (omega (arith, c.before_is)) (omega (arith, c.after_is)) one) (listing_more j.ticket f v)

    noted_no : {list : List ℕ} {n : ℕ} → began j k ≡ false → Noted i list n → Noted (i + 1) list n
    noted_no e v = rw (begun_no i js ks (omega (arith, c.before_is)) (omega (arith, c.after_is)) e) v

    pub noted_waits : {list : List ℕ} {n : ℕ} → (get_or states i 0 ≡ 2 → ⊥) → Noted i list n → Noted (i + 1) list n
    noted_waits f =
        noted_no (and_right_false (is_waiting j) (sym (number_running k.state) ∙ ne_eqb (state_of k) 2 (λ e. f (state_there ∙ e))))

    pub noted_ran : {list : List ℕ} {n : ℕ} → (get_or was i 0 ≡ 1 → ⊥) → Noted i list n → Noted (i + 1) list n
    noted_ran f =
        let rests : is_waiting j ≡ false = sym (number_waiting j.state) ∙ ne_eqb (state_of j) 1 (λ e. f (was_there ∙ e)) in
        noted_no (rw rests)

  pub noted_all : {i : ℕ} {list : List ℕ} {n : ℕ} → live ≤ i → Noted i list n → Listing (begun js ks) list n
  noted_all {i} l v = rw (take_all i js (omega (arith, c.before_is)), take_all i ks (omega (arith, c.after_is))) at v
