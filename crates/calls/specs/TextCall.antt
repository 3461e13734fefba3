-- What a call for a text of the scheduler answers, and leaves in the bytes lent to it: the status page (document 02, No. 8: "Staff read the queue on a
-- page"), the lines that it is written out in (No. 11: "A desk must be written out and read back"), and why its jobs wait (No. 14: "print a
-- sentence into a lent text").
-- Assumes nothing.
use Rattle.std.specs.Prelude.{◌≡◌, List, ℕ, ◌≤◌, length}
use Rattle.std.proofs.Common.{arith}
use borrow.Author.Tests.{le-ltb}
use Rattle.scheduler.specs.declared.Refusal.TheVariants as refusal
use Rattle.scheduler.specs.declared.Scheduler.{Scheduler}
use Rattle.scheduler.specs.Model.{Model, view}
use Rattle.scheduler.specs.Answers.{verdict}
use Rattle.guarantees.specs.Premise.{Valid}
use Rattle.status_page_rules.specs.StatusPage.{status_page_of}
use Rattle.checkpoint_rules.specs.Texts.{desk_text}
use Rattle.checkpoint_writing.specs.TextSize.{text_bytes, text_fits}
use Rattle.why_rules.specs.Why.{why_text}
use Rattle.why_laws.specs.Sizes.{why_bytes, why_fits}
use Rattle.calls.specs.declared.Shown.{Shown}
use Rattle.calls.specs.ListCall.{list_refusal, Shows}

abbrev pub ShowsPage : Scheduler → (lent : List ℕ) → Shown → (after : List ℕ) → Type 0
ShowsPage d lent a after = Shows status_page_of d lent a after

abbrev pub ShowsText : Scheduler → (lent : List ℕ) → Shown → (after : List ℕ) → Type 0
ShowsText d lent a after = Shows desk_text d lent a after

abbrev pub ShowsWhy : Scheduler → (lent : List ℕ) → Shown → (after : List ℕ) → Type 0
ShowsWhy d lent a after = Shows why_text d lent a after

-- of whatever text these bytes are
abbrev pub ShowsBytes : (bytes lent : List ℕ) → Shown → (after : List ℕ) → Type 0
ShowsBytes bytes lent a after = (text : Model → List ℕ) (d : Scheduler) → bytes ≡ text (view d) → Shows text d lent a after

-- ## The texts of every valid model fit into these numbers of bytes, so that a call that lends as many is not refused

pub enough_for : (text : Model → List ℕ) (m : Model) (room : ℕ) → length (text m) ≤ room → list_refusal text m room ≡ refusal.None
unfolding verdict
enough_for text m room l = rw (le-ltb room (length (text m)) l)

pub bytes_enough : (m : Model) (room : ℕ) → Valid m → text_bytes ≤ room → list_refusal desk_text m room ≡ refusal.None
bytes_enough m room v l = enough_for desk_text m room (omega (arith, text_fits m v))

pub why_enough : (m : Model) (room : ℕ) → Valid m → why_bytes ≤ room → list_refusal why_text m room ≡ refusal.None
why_enough m room v l = enough_for why_text m room (omega (arith, why_fits m v))
