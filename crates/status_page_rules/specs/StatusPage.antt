-- The status page of a scheduler. Document 02, No. 8: "Staff read the queue on a page of 66 lines by 72 columns."
-- Assumes nothing.
use Rattle.std.specs.Prelude.{Bool, cond, ℕ}
use mathlib.Core.List.{List, [], ◌∷◌, ◌++◌, map, flat_map}
use Rattle.lists.specs.Pads.{pad}
use Rattle.text.specs.Numbers.{decimal_of}
use Rattle.text.specs.RightSet.{space, right_set}
use Rattle.scheduler.specs.declared.Kind.{Kind}
use Rattle.scheduler.specs.declared.Kind.TheVariants.{Conservative, Easy}
use Rattle.scheduler.specs.declared.State.{State}
use Rattle.scheduler.specs.declared.State.TheVariants.{Unused, Waiting, Running, Cleanup}
use Rattle.scheduler.specs.declared.Job.{Job}
use Rattle.scheduler.specs.declared.Settings.{Settings}
use Rattle.scheduler.specs.Tenants.{letter_of}
use Rattle.scheduler.specs.Jobs.{is_waiting}
use Rattle.scheduler.specs.Settings.{run_time}
use Rattle.scheduler.specs.Model.{Model}

abbrev pub page_lines : ℕ
page_lines = 66

abbrev pub page_columns : ℕ
page_columns = 72

-- some columns of a line, and the text that stands in them
pub record Column : Type 0 where
  pub width : ℕ
  pub text : List ℕ

abbrev pub column : ℕ → List ℕ → Column
column w t = record { width = w; text = t }

abbrev pub number : ℕ → ℕ → Column
number w v = column w (decimal_of v)

-- "One heading line with rack nodes, clock and next ticket in 8 columns each"
unfoldable pub heading : (nodes clock next : ℕ) → List Column
heading nodes clock next = number 8 nodes ∷ number 8 clock ∷ number 8 next ∷ []

-- "state (waiting, running, clearing)"
abbrev pub state_word : State → List ℕ
state_word Unused = []
state_word Waiting = 119 ∷ 97 ∷ 105 ∷ 116 ∷ 105 ∷ 110 ∷ 103 ∷ []
state_word Running = 114 ∷ 117 ∷ 110 ∷ 110 ∷ 105 ∷ 110 ∷ 103 ∷ []
state_word Cleanup = 99 ∷ 108 ∷ 101 ∷ 97 ∷ 114 ∷ 105 ∷ 110 ∷ 103 ∷ []

-- a minute that a kind promises. "On the Loose Desk the promise, and a waiting stack's start, is a single hyphen."
abbrev pub promised : Kind → ℕ → List ℕ
promised Conservative t = decimal_of t
promised Easy t = 45 ∷ []

abbrev pub start_text : Kind → (waits : Bool) → ℕ → List ℕ
start_text k w t = cond w (promised k t) (decimal_of t)

-- "ticket 7 columns, house 2, nodes 5, start 8, promise 8, held time 6, state (waiting, running, clearing) 10"
unfoldable pub job_columns_of : Settings → Job → List Column
job_columns_of S j =
    number 7 j.ticket
    ∷ column 2 (letter_of j.tenant ∷ [])
    ∷ number 5 j.nodes
    ∷ column 8 (start_text S.kind (is_waiting j) j.start)
    ∷ column 8 (promised S.kind j.promise)
    ∷ number 6 (run_time S j.estimate)
    ∷ column 10 (state_word j.state)
    ∷ []

-- "all right-set, rest spaces"
abbrev pub set_right : Column → List ℕ
set_right c = right_set c.width c.text

-- a line of these columns, and its end
unfoldable pub line : List Column → List ℕ
line cs = pad page_columns space (flat_map set_right cs) ++ (10 ∷ [])

-- the heading, "then a line for each live stack in ticket order"; the lines after them have no columns
unfoldable pub rows : Model → List (List Column)
rows m = pad page_lines [] (heading m.settings.nodes m.clock m.next ∷ map (job_columns_of m.settings) m.jobs)

unfoldable pub status_page_of : Model → List ℕ
status_page_of m = flat_map line (rows m)
