-- The columns of a conservative model: those of both kinds, for how long each job holds its nodes, what it was promised, and the points of the
-- model with their index.
-- Assumes nothing.
use Rattle.std.specs.Prelude.{ℕ, ◌-◌, ◌≤◌, ◌≡◌, List, length, take}
use Rattle.std.proofs.Common.{arith}
use Rattle.lists.specs.Tests.{case}
use Rattle.lists.specs.Pads.{pad}
use Rattle.scheduler.specs.declared.Job.{Job}
use Rattle.scheduler.specs.declared.Select.{Select}
use Rattle.scheduler.specs.declared.Refusal.{Refusal}
use Rattle.scheduler.specs.declared.Settings.{Settings}
use Rattle.scheduler.specs.Limits.{slots}
use Rattle.scheduler.specs.Jobs.{cleaning}
use Rattle.scheduler.specs.Table.{ends, remaining}
use Rattle.scheduler.specs.Model.{Model}
use Rattle.scheduler.specs.Answers.{Result, refuse}
use Rattle.job_columns.specs.Removal.{removes}
use Rattle.job_columns.specs.Columns.{Column, Whole}
use Rattle.job_columns.specs.JobColumns.{hold_of, promise_of, JobColumns}
use Rattle.column_parts.specs.Counted.{Told}
use Rattle.column_parts.specs.ColumnParts.{Gone}
use Rattle.column_parts.specs.GoneColumns.{gone_column}
use Rattle.column_parts.specs.ToldReply.{TellsReply, TellsModel, refused_told, refused_tells}
use Rattle.conservative_laws.specs.Validity.{Valid}
use Rattle.conservative_kept.specs.Beside.{Beside}

-- these columns are of this model
pub record ConservativeColumns (m : Model) (tickets nodes states dues starts tenants estimates leasts holds promises ms fs lo hi : List ℕ) (live n : ℕ) :
    Type 0 where
  pub core : JobColumns m.settings m.jobs tickets nodes states dues starts tenants estimates leasts live
  pub holds_are : Column (hold_of m.settings) m.jobs holds
  pub promises_are : Column promise_of m.jobs promises
  pub beside : Beside m n ms fs lo hi

-- The one premise of a call: the columns are of a valid model with these settings, this clock and this next ticket.
pub record KeptColumns (S : Settings) (clock next : ℕ) (tickets nodes states dues starts tenants estimates leasts holds promises ms fs lo hi : List ℕ)
    (live n : ℕ) : Type 0 where
  pub model : Model
  pub valid : Valid model
  pub settings_is : S ≡ model.settings
  pub clock_is : clock ≡ model.clock
  pub next_is : next ≡ model.next
  pub columns : ConservativeColumns model tickets nodes states dues starts tenants estimates leasts holds promises ms fs lo hi live n

-- what a call answers, and the columns after it
pub record Answered (a : Result) (r : Told) (ended started tickets nodes states dues starts tenants estimates leasts holds promises ms fs lo hi : List ℕ) :
    Type 0 where
  pub reply : TellsReply a.reply r ended started
  pub numbers : TellsModel a.model r
  pub columns : ConservativeColumns a.model tickets nodes states dues starts tenants estimates leasts holds promises ms fs lo hi r.live r.count

-- the places listed are taken out of a list: so many were live, and so many are left
abbrev pub Shifted : (gone : List ℕ) (live left : ℕ) → List ℕ → List ℕ → Type 0
Shifted gone live left list after =
    (xs : List ℕ) → list ≡ pad slots 0 xs → length xs ≡ live → after ≡ pad slots 0 (removes (take (live - left) gone) xs)

-- a column that the end of a run leaves as it is
pub shifted_column : {S : Settings} {s : Select} {js : List Job} {gone : List ℕ} {live left : ℕ} → Gone S s js gone live left → length js ≡ live → (now : ℕ)
    (f : Job → ℕ) → ((j : Job) → f (cleaning now j) ≡ f j) → (list after : List ℕ) → Column f js list → Shifted gone live left list after
    → Column f (remaining S now s js) after
shifted_column {s = s} g l now f same list after c e =
    gone_column g now f list c (λ j i. case (ends s j) (λ y. rw y (same j)) (λ y. rw y)) after l e

module _ {S : Settings} {clock next : ℕ} {tickets nodes states dues starts tenants estimates leasts holds promises ms fs lo hi : List ℕ} {live n : ℕ}
    (k : KeptColumns S clock next tickets nodes states dues starts tenants estimates leasts holds promises ms fs lo hi live n) where
  pub few_live : live ≤ slots
  few_live = omega (arith, k.columns.core.live_is, k.valid.sound.few)

  -- a refused call gives its reason, and leaves all columns as they were
  pub refused_answer_lem : (a : Result) (why : Refusal) (ended started : List ℕ) → Whole ended → Whole started → a ≡ refuse k.model why
      → Answered a (refused_told why clock next live n 0 0) ended started tickets nodes states dues starts tenants estimates leasts holds promises ms fs lo hi
  refused_answer_lem a why ended started e s q = rw q (record {
    reply = refused_tells why clock next live n 0 0 ended started e s;
    numbers = record { clock_is = k.clock_is; next_is = k.next_is };
    columns = k.columns;
  })
