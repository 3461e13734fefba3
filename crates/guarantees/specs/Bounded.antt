-- Every job that waits by the book has a bound. It has it from the beginning, where the record of a waiting job has one, or from its intake.
-- Assumes nothing.
use Rattle.std.specs.Prelude.{ℕ, ◌+◌, ◌*◌, ◌≡◌, refl, false, ◌⊎◌}
use Rattle.std.proofs.Math.Path.{sym, ap}
use Rattle.std.proofs.Common.{◌∙◌, inl, inr}
use Rattle.std.proofs.Math.Bool.{true}
use mathlib.Core.List.{List, [], ◌∷◌, ◌++◌, map}
use Rattle.std.proofs.Math.Option.{Option, some}
use Rattle.lists.specs.Tests.{true_false}
use Rattle.lists.specs.Lists.{keep, In, map_in, in_append}
use Rattle.scheduler.specs.declared.Job.{Job}
use Rattle.scheduler.specs.declared.State.{State}
use Rattle.scheduler.specs.declared.State.TheVariants.{Unused, Waiting, Running, Cleanup}
use Rattle.scheduler.specs.States.{live?, waiting?}
use Rattle.scheduler.specs.Jobs as jobs
use Rattle.scheduler.specs.Jobs.{is_live_of}
use Rattle.scheduler.specs.Settings.{cleanup, unit, bound_of}
use Rattle.scheduler.specs.Table.{tickets_of}
use Rattle.scheduler.specs.Answers.{Forecast}
use Rattle.scheduler.specs.Model.{Model}
use Rattle.history.specs.Calls.{Event}
use Rattle.history.specs.News.{News, news, clock_after}
use Rattle.history.specs.Book.{Entry, Book, waits, is_waiting, rank, entry, marked, head_of, lowest, heard, enter, enter_all}
use Rattle.history.specs.Beginning.{fate_by, if_waiting, entry_of, entries_of, beginning}
use Rattle.history_proof.specs.Seen.{Heard, same, first_time, heard_by_lem}
use Rattle.history_proof.specs.Proof.{waited}
use Rattle.guarantees.specs.Statement.{book_of}

abbrev pub Bounded : List Entry → Type 0
Bounded xs = (x : Entry) → In x xs → is_waiting x ≡ true → (d : ℕ) × (x.bound ≡ some d)

-- ## At the beginning

one_bounded : (s : State) (b n d : ℕ) → live? s ≡ true → waits (fate_by s b n) ≡ true → (e : ℕ) × (if_waiting (waiting? s) d ≡ some e)
one_bounded Unused b n d l w = true_false false l refl
one_bounded Waiting b n d l w = (d, refl)
one_bounded Running b n d l w = true_false false w refl
one_bounded Cleanup b n d l w = true_false false w refl

beginning_bounded : (m : Model) → ((j : Job) → In j m.jobs → is_live_of j ≡ true) → Bounded (entries_of m)
beginning_bounded m l x i w =
    let top = lowest (tickets_of (keep jobs.is_waiting m.jobs)) in
    let r = map_in (entry_of m.settings top) m.jobs i in
    let j = r.0 in
    let o = one_bounded j.state j.start j.end (bound_of m.settings j) (l j r.1) (sym (ap is_waiting r.2) ∙ w) in
    (o.0, ap (λ (y : Entry). y.bound) r.2 ∙ o.1)

-- ## After an event

module _ (u k : ℕ) where
  heard_same : (h : Option ℕ) (f : Option Forecast) (y : Entry) → Heard h f y → ((heard h f y).bound ≡ y.bound) × (is_waiting (heard h f y) ≡ is_waiting y)
  heard_same h f y (same e t) = (ap (λ (x : Entry). x.bound) e, ap is_waiting e)
  heard_same h f y (first_time e w i n) = (ap (λ (x : Entry). x.bound) e, ap is_waiting e)

  enter_bounded : (b : Book) (e : News) → Bounded b.entries → Bounded (enter u k b e).entries
  unfolding enter
  enter_bounded b e d x i w =
      let c = clock_after e b.clock in
      let xs = b.entries ++ map (entry u b) e.came in
      let h = head_of (map (marked k c e) xs) in
      let r = map_in (heard h e.head) (map (marked k c e) xs) i in
      let s = map_in (marked k c e) xs r.1 in
      let a = heard_same h e.head r.0 (heard_by_lem h e.head r.0) in
      let q : is_waiting r.0 ≡ true = sym a.1 ∙ sym (ap is_waiting r.2) ∙ w in
      let p : is_waiting s.0 ≡ true = waited k c e s.0.ticket s.0.fate (sym (ap is_waiting s.2) ∙ q) in
      let o = before s.0 (in_append b.entries s.1) p in
      (o.0, ap (λ (y : Entry). y.bound) r.2 ∙ a.0 ∙ ap (λ (y : Entry). y.bound) s.2 ∙ o.1)
    where
      before : (y : Entry) → In y b.entries ⊎ In y (map (entry u b) e.came) → is_waiting y ≡ true → (n : ℕ) × (y.bound ≡ some n)
      before y (inl i) p = d y i p
      before y (inr i) p =
          let t = map_in (entry u b) e.came i in
          (b.clock + rank b.entries * u, ap (λ (z : Entry). z.bound) t.2)

  all_bounded : (b : Book) (es : List Event) → Bounded b.entries → Bounded (enter_all u k b es).entries
  all_bounded b [] d = d
  all_bounded b (e ∷ es) d = all_bounded (enter u k b (news e)) es (enter_bounded b (news e) d)

pub bounded : (m : Model) (es : List Event) → ((j : Job) → In j m.jobs → is_live_of j ≡ true) → Bounded (book_of m es).entries
bounded m es l = all_bounded (unit m.settings) (cleanup m.settings) (beginning m) es (beginning_bounded m l)
