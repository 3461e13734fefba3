-- The lines of a page, slot by slot: those after the live jobs' are of spaces.
-- Assumes nothing.
use Rattle.std.specs.Prelude.{◌≡◌, refl, cond, get_or, take, replicate}
use Rattle.std.proofs.Math.Path.{sym, ap}
use Rattle.std.proofs.Common.{subst, ◌∙◌, arith, length-append, take_all}
use mathlib.Core.List.{List, [], ◌∷◌, ◌++◌, map, flat_map, map-append, append_assoc, append-nil}
use Prim.Native.Nat.{ℕ, zero, suc, ◌+◌, ◌-◌, ◌≤◌, ◌<◌}
use Rattle.std.proofs.Math.ListN.{length, length-map, get_or-append, replicate-append-replicate}
use Rattle.lists.specs.Lists.{All, all_at, map_cong}
use Rattle.lists.specs.Pads.{pad}
use Rattle.lists.specs.Flat.{flat_append, flat_map_lem, flat_more, getD_image}
use Rattle.scheduler.specs.declared.Job.{Job}
use Rattle.scheduler.specs.declared.Scheduler.{Scheduler}
use Rattle.scheduler.specs.declared.Settings.{Settings}
use Rattle.scheduler.specs.Limits.{slots}
use Rattle.scheduler.specs.Jobs.{unused, is_live_of}
use Rattle.scheduler.specs.Model.{store, view}
use Rattle.jobs.specs.Soundness.{Sound}
use Rattle.jobs.specs.Premise.{Holds, holds_as}
use Rattle.jobs.specs.Slots.{slots_are, slots_all}
use Rattle.guarantees.specs.Premise.{Valid, Premise, valid_sound}
use Rattle.status_page_rules.specs.StatusPage.{page_lines, Column, heading, job_columns_of, line, rows, status_page_of}
use Rattle.status_page_laws.specs.Columns.{Fitting}
use Rattle.status_page_laws.specs.Pages.{all_fit}

-- the line of a slot: an unused one has no columns
abbrev pub slot_columns : Settings → Job → List Column
slot_columns S j = cond (is_live_of j) (job_columns_of S j) []

abbrev pub slot_line : Settings → Job → List ℕ
slot_line S j = line (slot_columns S j)

-- the lines of some of them
unfoldable pub slot_lines : Settings → List Job → List ℕ
slot_lines S js = flat_map (slot_line S) js

pub slots_none : (S : Settings) (js : List Job) → slot_lines S (take 0 js) ≡ []
unfolding slot_lines flat_map
slots_none S js = refl

unused_rows : (S : Settings) (k : ℕ) → map (slot_columns S) (replicate k unused) ≡ replicate k []
unused_rows S zero = refl
unused_rows S (suc k) = ap (λ (l : List (List Column)). [] ∷ l) (unused_rows S k)

module _ (d : Scheduler) (h : Premise d) where
  abbrev sound : Holds Sound d
  sound = holds_as Valid Sound d valid_sound h

  abbrev S : Settings
  S = d.settings

  abbrev L : List Job
  L = (view d).jobs

  abbrev first : List Column
  first = heading S.nodes d.clock d.next

  jobs_rows : map (slot_columns S) d.jobs ≡ map (job_columns_of S) L ++ replicate (slots - length L) []
  unfolding store pad
  jobs_rows =
      ap (map (slot_columns S)) (slots_are d sound)
      ∙ map-append (slot_columns S) L (replicate (slots - length L) unused)
      ∙ ap (λ (l : List (List Column)). l ++ map (slot_columns S) (replicate (slots - length L) unused))
      (map_cong (slot_columns S) (job_columns_of S) L (λ j i. rw (sound.holds.each j i).is_live))
      ∙ ap (λ (l : List (List Column)). map (job_columns_of S) L ++ l) (unused_rows S (slots - length L))

  -- the heading, the slots one after another, and the last line
  slot_rows : first ∷ (map (slot_columns S) d.jobs ++ ([] ∷ [])) ≡ rows (view d)
  unfolding rows pad view
  slot_rows =
      let xs = map (job_columns_of S) L in
      let e : slots - length L + 1 ≡ page_lines - suc (length xs) = omega (arith, length-map L (job_columns_of S), sound.holds.few) in
      rw (jobs_rows, append_assoc, replicate-append-replicate {A = List Column} (slots - length L) 1 [], e)

  pub slot_lines_lem : line first ++ (slot_lines S d.jobs ++ line []) ≡ status_page_of (view d)
  unfolding slot_lines status_page_of flat_map
  slot_lines_lem =
      let xs = map (slot_columns S) d.jobs in
      ap (λ (l : List ℕ). line first ++ l) (rw (sym (flat_map_lem line (slot_columns S) d.jobs), sym (append-nil (line []))) (sym (flat_append line xs ([] ∷ []))))
      ∙ ap (flat_map line) slot_rows

  slots_fit : All Fitting (first ∷ (map (slot_columns S) d.jobs ++ ([] ∷ [])))
  slots_fit = subst (All Fitting) (sym slot_rows) (all_fit (view d) h.holds)

  pub first_fits : Fitting first
  first_fits = slots_fit.0

  pub slot_fits : (i : ℕ) → i < slots → Fitting (slot_columns S (get_or d.jobs i unused))
  slot_fits i l =
      let n : i < length d.jobs = omega (arith, slots_all d sound) in
      let xs = map (slot_columns S) d.jobs in
      let k : i < length xs = omega (arith, length-map d.jobs (slot_columns S)) in
      rw (get_or-append xs ([] ∷ []) [] i k, getD_image (slot_columns S) d.jobs i unused [] n)
      at (all_at Fitting (xs ++ ([] ∷ [])) i [] slots_fit.1 (omega (arith, length-append xs ([] ∷ []))))

  pub slots_more : (i : ℕ) → i < slots → slot_lines S (take (i + 1) d.jobs) ≡ slot_lines S (take i d.jobs) ++ slot_line S (get_or d.jobs i unused)
  unfolding slot_lines
  slots_more i l = flat_more (slot_line S) d.jobs i unused (omega (arith, slots_all d sound))

  pub slots_done : (i : ℕ) → slots ≤ i → slot_lines S (take i d.jobs) ≡ slot_lines S d.jobs
  slots_done i l = ap (slot_lines S) (take_all i d.jobs (omega (arith, slots_all d sound)))
