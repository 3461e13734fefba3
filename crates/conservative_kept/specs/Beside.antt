-- The points of a model and their index, kept in lists beside it.
-- Assumes nothing.
use Rattle.std.specs.Prelude.{ℕ, ◌≤◌, ◌≡◌, List, length}
use Rattle.std.proofs.Common.{arith, sym}
use Rattle.std.proofs.lemmas.List.{length-map}
use Rattle.spans.specs.declared.Span.{Span}
use Rattle.spans.specs.Spans.{last_end}
use Rattle.scheduler.specs.Limits.{slots}
use Rattle.scheduler.specs.Settings.{horizon}
use Rattle.scheduler.specs.Model.{Model, store, view}
use Rattle.jobs.specs.Soundness.{Sound}
use Rattle.conservative_table.specs.ListChanges.{rows}
use Rattle.conservative_table.specs.ProfileLists.{IsProfile, exact_few, exact_same}
use Rattle.spans.specs.Index.{blocks, index}
use Rattle.conservative_index.specs.BuiltIndex.{Built, built_none, Indexed, held, indexed_index}
use Rattle.conservative_rules.specs.Conservative.{span, spans, points}
use Rattle.conservative_laws.specs.Validity.{Valid}
use Rattle.conservative_plan.specs.PlannedSlots.{Tabulated, used_slots, last_slots}

-- the lists are the points of the model and their index
pub record Beside (m : Model) (n : ℕ) (ms fs lo hi : List ℕ) : Type 0 where
  pub profile : IsProfile m.settings.nodes (spans m.settings m.jobs) m.clock n ms fs
  pub indexed : Indexed fs n lo hi

-- an index of the points of so many spans can be built
pub index_builds : {N now n : ℕ} {xs : List Span} {ms fs lo hi : List ℕ} → IsProfile N xs now n ms fs → length xs ≤ slots → length lo ≡ 9 → length hi ≡ 9
    → Built fs n lo hi 0 × (length fs ≡ rows) × (n ≤ rows) × (0 ≤ 9)
index_builds p l a b = (
  built_none a b,
  p.free_long,
  omega (arith, exact_few p, l),
  omega arith,
)

module _ {m : Model} (s : Sound m) {n : ℕ} {ms fs : List ℕ} (p : IsProfile m.settings.nodes (spans m.settings m.jobs) m.clock n ms fs) where
  pub few_spans : length (spans m.settings m.jobs) ≤ slots
  few_spans = omega (arith, s.few, length-map m.jobs (span m.settings))

  pub fits_rows : n ≤ rows
  fits_rows = omega (arith, exact_few p, few_spans)

  -- an index of them can be built
  pub builds : {lo hi : List ℕ} → length lo ≡ 9 → length hi ≡ 9 → Built fs n lo hi 0 × (length fs ≡ rows) × (n ≤ rows) × (0 ≤ 9)
  builds a b = index_builds p few_spans a b

-- no hold passes the last minute
pub ends_within : {m : Model} → Sound m → last_end (spans m.settings m.jobs) ≤ horizon m.settings
ends_within {m} s = last_slots m.settings (horizon m.settings) m.jobs (λ j i. (s.each j i).ends)

-- "the index always agrees with the profile after any call": what the lists hold is the index of the model's points
pub beside_index : {m : Model} {n : ℕ} {ms fs lo hi : List ℕ} → Valid m → Beside m n ms fs lo hi → held lo hi (blocks n) ≡ index (points m)
beside_index v b = indexed_index b.profile (fits_rows v.sound b.profile) b.indexed

-- the profile of the slots of a stored model is that of the model
pub stored_profile : (m : Model) {n : ℕ} {ms fs : List ℕ} → Tabulated (store m) n ms fs
    → IsProfile m.settings.nodes (spans m.settings m.jobs) m.clock n ms fs
unfolding store view
stored_profile m t = exact_same (spans m.settings m.jobs) t (λ r l. used_slots m.settings r m.jobs)

pub profile_stored : (m : Model) {n : ℕ} {ms fs : List ℕ} → IsProfile m.settings.nodes (spans m.settings m.jobs) m.clock n ms fs
    → Tabulated (store m) n ms fs
unfolding store view
profile_stored m p = exact_same (spans m.settings (store m).jobs) p (λ r l. sym (used_slots m.settings r m.jobs))
