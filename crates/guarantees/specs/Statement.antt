-- The guarantees of both kinds of scheduler (document 01: "demand 3", "a single claim about the whole list"): the statement, and its proof from
-- what a kind owes of each call.
-- Assumes nothing.
use Rattle.std.specs.Prelude.{◌≡◌, refl, List, [], ◌∷◌, ◌++◌, ℕ, ◌+◌, take}
use Rattle.std.proofs.Common.{ap, subst, ◌∙◌}
use Rattle.walltime.specs.WallTime.{wall_time}
use Rattle.scheduler.specs.declared.Kind.{Kind}
use Rattle.scheduler.specs.declared.Opening.{Opening}
use Rattle.scheduler.specs.declared.Settings.{Settings}
use Rattle.scheduler.specs.Settings.{longest, cleanup, run_time, unit}
use Rattle.scheduler.specs.Times.{longest_is, cleanup_is, hold_is}
use Rattle.scheduler.specs.Model.{Model}
use Rattle.scheduler.specs.Answers.{Result}
use Rattle.scheduler.specs.Opening.{opening}
use Rattle.checkpoint_rules.specs.Texts.{restored}
use Rattle.migration_rules.specs.Migration.{changed}
use Rattle.jobs.specs.Soundness.{opening_sound}
use Rattle.history.specs.Calls.{Call, Command, Event, after, events, all_calls}
use Rattle.history.specs.Book.{Book, enter_all}
use Rattle.history.specs.Beginning.{beginning}
use Rattle.history.specs.Guarantee.{Guarantee}
use Rattle.history_proof.specs.Obligations.{Lawful, Seeded}
use Rattle.history_proof.specs.Beginnings.{beginning_agrees}
use Rattle.history_proof.specs.Proof.{Agrees, InStep, follows, guaranteed, settings_after}
use Rattle.guarantees.specs.Rules.{rules_of, call}

-- what calls and their answers say: from a model and a book on; and from a model alone, whose jobs count as it has them
abbrev pub book_from : Model → Book → List Event → Book
book_from m b es = enter_all (unit m.settings) (cleanup m.settings) b es

abbrev pub book_of : Model → List Event → Book
book_of m es = book_from m (beginning m) es

-- "Its bound is the clock at intake + r × 10,080": with cleanup, "r × (10,080 + clearing)"; and by document 02, No. 6, "the bound and last-minute
-- rule of the Loose Desk read its held time", that of the longest estimate. This holds of every opening, since more than 30 minutes of cleanup and
-- a longest estimate above 10,080 are refused
pub unit_is : (o : Opening) → unit (opening o).settings ≡ wall_time (opening o).settings.longest + (opening o).settings.cleanup
unfolding unit run_time
unit_is o =
    let S = (opening o).settings in
    let s = opening_sound o in
    hold_is S (longest S)
    ∙ ap (λ (e : ℕ). wall_time e + cleanup S) (longest_is S s.longest_to)
    ∙ ap (λ (k : ℕ). wall_time S.longest + k) (cleanup_is S s.cleanup_to)

-- and where it is 10,080, as "elsewhere"
pub unit_elsewhere : (o : Opening) → (opening o).settings.longest ≡ 10080 → unit (opening o).settings ≡ 10080 + (opening o).settings.cleanup
unit_elsewhere o e = unit_is o ∙ ap (λ (l : ℕ). wall_time l + (opening o).settings.cleanup) e

-- "The limit on estimates reads the setting"
pub longest_is_set : (o : Opening) → longest (opening o).settings ≡ (opening o).settings.longest
longest_is_set o = longest_is (opening o).settings (opening_sound o).longest_to

-- nodes stay taken for the minutes of cleanup after the end of a run
pub cleanup_is_set : (o : Opening) → cleanup (opening o).settings ≡ (opening o).settings.cleanup
cleanup_is_set o = cleanup_is (opening o).settings (opening_sound o).cleanup_to

-- "It starts from the desk that an opening hands back, a refused opening too, or from another that a later request names": document 02, No. 11,
-- "A list of demand 3 may also start from a desk read back", of a refused reading too; No. 12, "A list of demand 3 ends with the change. Another
-- starts from the new desk": of a list with another start, after these calls
pub data Start : Type 0 where
  opens : Opening → Start
  reads : (text : List ℕ) → Start
  changes : Start → (before : List Call) → Start

abbrev pub start_of : Start → Model
start_of (opens o) = opening o
start_of (reads t) = (restored t).model
start_of (changes s cs) = changed (after call (start_of s) cs)

-- For every start and every list of calls: with the words by the calls and their answers, promises are kept, bounds and forecasts are kept, every
-- head hears one, and running jobs never hold more nodes than the machine has. ("After every call": every front of a list is a list.) A list may
-- start from lines: a job that waits in them keeps the promise, the bound and the forecast that they give it (`beginning`).
abbrev pub Demand3 : Type 0
Demand3 =
    (s : Start) (cs : List Call)
    → Guarantee (start_of s).settings.kind (start_of s).settings (book_of (start_of s) (events call (start_of s) cs))

-- the same with waits, "as its steps or as one refused call", after each single step
abbrev pub Demand3WithWaits : Type 0
Demand3WithWaits =
    (s : Start) (qs : List Command) (i : ℕ)
    → Guarantee (start_of s).settings.kind (start_of s).settings (book_of (start_of s) (events call (start_of s) (take i (all_calls call (start_of s) qs))))

-- two lists of calls, one after the other
pub after_append : (m : Model) (cs ds : List Call) → after call m (cs ++ ds) ≡ after call (after call m cs) ds
after_append m [] ds = refl
after_append m (c ∷ cs) ds = after_append (call m c).model cs ds

pub events_append : (m : Model) (cs ds : List Call) → events call m (cs ++ ds) ≡ events call m cs ++ events call (after call m cs) ds
events_append m [] ds = refl
events_append m (c ∷ cs) ds = ap (λ (es : List Event). record { call = c; reply = (call m c).reply } ∷ es) (events_append (call m c).model cs ds)

module _ {k : Kind} {Valid : Model → Type 0} {OnCourse : Model → ℕ → ℕ → Type 0} (L : Lawful k (rules_of k) Valid OnCourse) where
  -- a valid model of the kind goes by the kind's rules
  pub by_rules : (m : Model) (c : Call) → Valid m → call m c ≡ rules_of k m c
  by_rules m c v = ap (λ (j : Kind). rules_of j m c) (L.kind_is m v)

  pub same_events : (m : Model) (cs : List Call) → Valid m → events call m cs ≡ events (rules_of k) m cs
  same_events m [] v = refl
  same_events m (c ∷ cs) v = rw (by_rules m c v)
      (ap (λ (es : List Event). record { call = c; reply = (rules_of k m c).reply } ∷ es) (same_events (rules_of k m c).model cs (L.valid m c v)))

  pub same_after : (m : Model) (cs : List Call) → Valid m → after call m cs ≡ after (rules_of k) m cs
  same_after m [] v = refl
  same_after m (c ∷ cs) v = ap (λ (r : Result). after call r.model cs) (by_rules m c v) ∙ same_after (rules_of k m c).model cs (L.valid m c v)

  -- model and book stay in step through every list of calls
  pub in_step_after : (u p : ℕ) (m : Model) (b : Book) (cs : List Call) → InStep L u p m b → InStep L u p (after call m cs) (enter_all u p b (events call m cs))
  in_step_after u p m b cs f = rw (same_after m cs f.valid, same_events m cs f.valid) (follows L u p m b cs f)

  -- and are so where a list begins
  pub in_step_first : Seeded k Valid OnCourse → (m : Model) → Valid m → InStep L (unit m.settings) (cleanup m.settings) m (beginning m)
  in_step_first G m v = record { valid = v; agrees = beginning_agrees L G m v; unit_is = refl; cleanup_is = refl }

  -- from any book that agrees with a valid model
  pub from_seed : (m : Model) (b : Book) (cs : List Call) → Valid m → Agrees k OnCourse m b → Guarantee k m.settings (book_from m b (events call m cs))
  from_seed m b cs v a =
      let g = guaranteed L (unit m.settings) (cleanup m.settings) m b cs (record { valid = v; agrees = a; unit_is = refl; cleanup_is = refl }) in
      rw (same_events m cs v) (subst (λ (S : Settings). Guarantee k S (book_from m b (events (rules_of k) m cs))) (settings_after L m cs v) g)

  -- from any valid model, with the book that it begins with
  pub from_valid : Seeded k Valid OnCourse → (m : Model) (cs : List Call) → Valid m → Guarantee k m.settings (book_of m (events call m cs))
  from_valid G m cs v = from_seed m (beginning m) cs v (beginning_agrees L G m v)
