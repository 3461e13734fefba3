-- The line of a job in the parts in which it is written.
-- Assumes nothing.
use Rattle.std.specs.Prelude.{◌≡◌, replicate}
use Rattle.std.proofs.Common.{sym}
use mathlib.Core.List.{List, [], ◌∷◌, ◌++◌, flat_map, append_assoc}
use Rattle.lists.specs.Lists.{All}
use Rattle.text.specs.RightSet.{space}
use Rattle.scheduler.specs.declared.Job.{Job}
use Rattle.scheduler.specs.declared.Settings.{Settings}
use Rattle.scheduler.specs.Tenants.{letter_of}
use Rattle.scheduler.specs.Jobs.{is_waiting}
use Rattle.scheduler.specs.Settings.{run_time}
use Rattle.status_page_rules.specs.StatusPage.{Column, column, number, state_word, promised, start_text, job_columns_of, set_right, line}
use Rattle.status_page_laws.specs.Columns.{Fits, Fitting}
use Rattle.status_page_laws.specs.Lines.{line_written}

abbrev pub order_columns : Job → List Column
order_columns j = number 7 j.ticket ∷ column 2 (letter_of j.tenant ∷ []) ∷ number 5 j.nodes ∷ []

abbrev pub minute_columns : Settings → Job → List Column
minute_columns S j =
    column 8 (start_text S.kind (is_waiting j) j.start) ∷ column 8 (promised S.kind j.promise) ∷ number 6 (run_time S j.estimate) ∷ []

module _ (S : Settings) (j : Job) where
  pub order_fits : Fitting (job_columns_of S j) → All Fits (order_columns j)
  unfolding job_columns_of
  order_fits f = let e = f.each in (e.0, (e.1.0, (e.1.1.0, tt)))

  pub minutes_fit_lem : Fitting (job_columns_of S j) → All Fits (minute_columns S j)
  unfolding job_columns_of
  minutes_fit_lem f = let e = f.each.1.1.1 in (e.0, (e.1.0, (e.1.1.0, tt)))

  -- the parts are the line
  pub job_line_written : Fitting (job_columns_of S j)
      → flat_map set_right (order_columns j) ++ (flat_map set_right (minute_columns S j) ++ (set_right (column 10 (state_word j.state)) ++ (replicate 26 space ++ (10 ∷ []))))
      ≡ line (job_columns_of S j)
  unfolding job_columns_of flat_map
  job_line_written f = simp append_assoc (sym (line_written (job_columns_of S j) f))
