-- Why a job waits. Document 02, No. 14: "For each waiting stack on the Promise Desk, in ticket order, print a sentence into a lent text: its
-- ticket, the minute just before its start, and the tickets that hold nodes in that minute by running, clearing or plan, ascending, with their
-- counts."
-- Assumes nothing.
use Rattle.std.specs.Prelude.{Bool, ◌&&◌, ℕ, ◌-◌, leb, ltb}
use mathlib.Core.List.{List, [], ◌∷◌, ◌++◌, map, flat_map}
use Rattle.lists.specs.Lists.{keep}
use Rattle.text.specs.Numbers.{decimal_of}
use Rattle.text.specs.Quoted.{bytes}
use Rattle.scheduler.specs.declared.Kind.{Kind}
use Rattle.scheduler.specs.declared.Kind.TheVariants.{Conservative, Easy}
use Rattle.scheduler.specs.declared.Job.{Job}
use Rattle.scheduler.specs.declared.Settings.{Settings}
use Rattle.scheduler.specs.Jobs.{is_waiting}
use Rattle.scheduler.specs.Settings.{until}
use Rattle.scheduler.specs.Model.{Model}

-- ## What is found

-- a ticket that holds nodes, and how many
pub record Holder : Type 0 where
  pub ticket : ℕ
  pub nodes : ℕ

-- of a waiting job: its ticket, a minute, and who holds nodes in that minute
pub record Finding : Type 0 where
  pub ticket : ℕ
  pub minute : ℕ
  pub holders : List Holder

-- "the minute just before its start": a waiting job is planned for a minute after now
abbrev pub minute_before : Job → ℕ
minute_before j = j.start - 1

-- "hold nodes in that minute by running, clearing or plan": from the start on, or the planned start, until the nodes are free again
abbrev pub holds_in : Settings → (minute : ℕ) → Job → Bool
holds_in S t j = leb j.start t && ltb t (until S j)

abbrev pub holder : Job → Holder
holder j = record { ticket = j.ticket; nodes = j.nodes }

-- in the order of the model, which is that of the tickets
abbrev pub holders_in : Model → (minute : ℕ) → List Holder
holders_in m t = map holder (keep (holds_in m.settings t) m.jobs)

-- the job itself is not left out by a test: in the minute before its start it holds nothing
unfoldable pub finding_of : Model → Job → Finding
finding_of m j = record { ticket = j.ticket; minute = minute_before j; holders = holders_in m (minute_before j) }

-- "For each waiting stack .. in ticket order"
abbrev pub findings : Model → List Finding
findings m = map (finding_of m) (keep is_waiting m.jobs)

-- ## The sentences

-- "each holder adds one such `, 2 with 8`"
unfoldable pub holder_text : Holder → List ℕ
holder_text h = bytes ", " ++ (decimal_of h.ticket ++ (bytes " with " ++ decimal_of h.nodes))

abbrev pub holders_text : List Holder → List ℕ
holders_text hs = flat_map holder_text hs

-- "Its form is `stack 3 waits, minute 29, 2 with 8`, with spaces and then byte 10"
unfoldable pub sentence : Finding → List ℕ
sentence f = bytes "stack " ++ (decimal_of f.ticket ++ (bytes " waits, minute " ++ (decimal_of f.minute ++ (holders_text f.holders ++ (10 ∷ [])))))

abbrev pub sentences : List Finding → List ℕ
sentences fs = flat_map sentence fs

-- "on the Promise Desk": EASY plans no starts, and nothing is written
abbrev pub why_by : Kind → Model → List ℕ
why_by Conservative m = sentences (findings m)
why_by Easy m = []

unfoldable pub why_text : Model → List ℕ
why_text m = why_by m.settings.kind m
