-- What every status page is, of a valid model. Document 02, No. 8: "Every page has exactly 66 × 72 characters and 66 line ends."
-- Assumes nothing.
use Rattle.std.specs.Prelude.{◌≡◌, ℕ, suc, ◌+◌, ◌*◌, ◌/◌, ◌%◌, ◌≤◌, ◌<◌, get_or, take, drop, replicate}
use Rattle.std.proofs.Common.{sym, subst, ◌∙◌, arith}
use Rattle.std.proofs.Math.Path.{ap}
use Rattle.std.proofs.Math.Bool.{not}
use mathlib.Core.List.{List, [], ◌∷◌, ◌++◌, map, flat_map}
use Rattle.std.proofs.Math.ListN.{length, length-map, get_or-append}
use Rattle.lists.specs.Lists.{keep, All, In, all_of, all_in, all_at, map_in}
use Rattle.lists.specs.Pads.{pad, length_pad, all_pad, pad_past}
use Rattle.lists.specs.Flat.{keep_flat, flat_length, flat_part, flat_getD, getD_image}
use Rattle.text.specs.RightSet.{space}
use Rattle.scheduler.specs.declared.Job.{Job}
use Rattle.scheduler.specs.Jobs.{unused}
use Rattle.scheduler.specs.Model.{Model}
use Rattle.jobs.specs.Soundness.{Sound}
use Rattle.guarantees.specs.Premise.{Valid, valid_sound}
use Rattle.status_page_rules.specs.StatusPage.{page_lines, page_columns, Column, heading, job_columns_of, line, rows, status_page_of}
use Rattle.status_page_laws.specs.Columns.{Plain, Fitting, heading_fitting, job_fitting, none_fitting}
use Rattle.status_page_laws.specs.Lines.{is_end, characters_length, line_length, line_end_lem, line_plain, ends_kept, characters_kept}

-- a line with its end
abbrev pub line_bytes : ℕ
line_bytes = 73

abbrev pub page_bytes : ℕ
page_bytes = 4818

-- the k-th line of a page, from 0 on, with its end
abbrev pub line_of : ℕ → List ℕ → List ℕ
line_of k bytes = take line_bytes (drop (line_bytes * k) bytes)

module _ (m : Model) (v : Valid m) where
  abbrev s : Sound m
  s = valid_sound m v

  abbrev written : List (List Column)
  written = heading m.settings.nodes m.clock m.next ∷ map (job_columns_of m.settings) m.jobs

  -- the heading and the lines of the jobs, 64 at most, are never more than the page has
  pub lines_fit : length written ≤ page_lines
  lines_fit = omega (arith, length-map m.jobs (job_columns_of m.settings), s.few)

  pub line_count : length (rows m) ≡ page_lines
  unfolding rows
  line_count = length_pad page_lines [] written lines_fit

  -- no text is wider than its columns, and no line has more than 72
  pub all_fit : All Fitting (rows m)
  unfolding rows
  all_fit =
      all_pad page_lines [] Fitting written none_fitting
      (heading_fitting m s, all_of Fitting (map (job_columns_of m.settings) m.jobs) (λ cs i. of_job cs (map_in (job_columns_of m.settings) m.jobs i)))
    where
      of_job : (cs : List Column) → (j : Job) × In j m.jobs × (cs ≡ job_columns_of m.settings j) → Fitting cs
      of_job cs (j, i, e) = rw e (job_fitting m v j i)

  -- what holds of every line that fits
  each_line : (P : List Column → Type 0) → ((cs : List Column) → Fitting cs → P cs) → All P (rows m)
  each_line P f = all_of P (rows m) (λ cs i. f cs (all_in Fitting all_fit i))

  as_long : All (λ (cs : List Column). length (line cs) ≡ line_bytes) (rows m)
  as_long = each_line (λ (cs : List Column). length (line cs) ≡ line_bytes) line_length

  pub page_size : length (status_page_of m) ≡ page_bytes
  unfolding status_page_of
  page_size = flat_length line line_bytes (rows m) as_long ∙ ap (λ (n : ℕ). line_bytes * n) line_count

  -- "66 line ends"
  pub end_count : length (keep is_end (status_page_of m)) ≡ page_lines
  unfolding status_page_of
  end_count =
      ap length (keep_flat line is_end (rows m))
      ∙ flat_length (λ (cs : List Column). keep is_end (line cs)) 1 (rows m)
      (each_line (λ (cs : List Column). length (keep is_end (line cs)) ≡ 1) (λ cs f. ap length (ends_kept cs f)))
      ∙ ap (λ (n : ℕ). 1 * n) line_count

  -- "exactly 66 × 72 characters"
  pub character_count : length (keep (λ (b : ℕ). not (is_end b)) (status_page_of m)) ≡ page_lines * page_columns
  unfolding status_page_of
  character_count =
      ap length (keep_flat line (λ (b : ℕ). not (is_end b)) (rows m))
      ∙ flat_length (λ (cs : List Column). keep (λ (b : ℕ). not (is_end b)) (line cs)) page_columns (rows m)
      (each_line (λ (cs : List Column). length (keep (λ (b : ℕ). not (is_end b)) (line cs)) ≡ page_columns)
      (λ cs f. ap length (characters_kept cs f) ∙ characters_length cs f))
      ∙ ap (λ (n : ℕ). page_columns * n) line_count

  -- the byte in a place of a line
  byte_in : (k i : ℕ) → k < page_lines → i < line_bytes → get_or (status_page_of m) (line_bytes * k + i) 0 ≡ get_or (line (get_or (rows m) k [])) i 0
  unfolding status_page_of
  byte_in k i h l = flat_getD line line_bytes (rows m) k i [] 0 as_long (omega (arith, line_count)) l

  fitting_at : (k : ℕ) → k < page_lines → Fitting (get_or (rows m) k [])
  fitting_at k h = all_at Fitting (rows m) k [] all_fit (omega (arith, line_count))

  -- the line ends stand where lines end, each after 72 characters, and every other byte is a character
  pub end_places : (i : ℕ) → i < page_bytes → i % line_bytes ≡ page_columns → get_or (status_page_of m) i 0 ≡ 10
  end_places i h e =
      let k = i / line_bytes in
      let p : i ≡ line_bytes * k + page_columns = omega arith in
      rw (p, byte_in k page_columns (omega arith) (omega arith)) (line_end_lem (get_or (rows m) k []) (fitting_at k (omega arith)))

  pub character_places : (i : ℕ) → i < page_bytes → i % line_bytes < page_columns → Plain (get_or (status_page_of m) i 0)
  character_places i h e =
      let k = i / line_bytes in
      let r = i % line_bytes in
      let p : i ≡ line_bytes * k + r = omega arith in
      subst Plain (sym (ap (λ (n : ℕ). get_or (status_page_of m) n 0) p ∙ byte_in k r (omega arith) (omega arith)))
      (line_plain (get_or (rows m) k []) (fitting_at k (omega arith)) r e)

  -- ## Each line is the definition's

  pub line_at : (k : ℕ) → k < page_lines → line_of k (status_page_of m) ≡ line (get_or (rows m) k [])
  unfolding status_page_of
  line_at k h = flat_part line line_bytes (rows m) k [] as_long (omega (arith, line_count))

  -- the first line is the heading
  pub heading_line : line_of 0 (status_page_of m) ≡ line (heading m.settings.nodes m.clock m.next)
  unfolding rows pad
  heading_line = line_at 0 (omega arith)

  -- then each live job has its line, in ticket order
  pub job_line_lem : (i : ℕ) → i < length m.jobs → line_of (suc i) (status_page_of m) ≡ line (job_columns_of m.settings (get_or m.jobs i unused))
  unfolding rows pad
  job_line_lem i h =
      let l : i < length (map (job_columns_of m.settings) m.jobs) = omega (arith, length-map m.jobs (job_columns_of m.settings)) in
      line_at (suc i) (omega (arith, s.few))
      ∙ ap line (get_or-append (map (job_columns_of m.settings) m.jobs) _ [] i l ∙ getD_image (job_columns_of m.settings) m.jobs i unused [] h)

  -- and the lines after them are spaces
  pub blank_line : (k : ℕ) → length m.jobs < k → k < page_lines → line_of k (status_page_of m) ≡ replicate page_columns space ++ (10 ∷ [])
  unfolding rows line pad flat_map
  blank_line k l h =
      line_at k h ∙ ap line (pad_past page_lines [] written k (omega (arith, length-map m.jobs (job_columns_of m.settings))))
