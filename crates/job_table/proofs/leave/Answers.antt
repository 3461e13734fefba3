-- `job_table::leave` meets its contract, by where the job was found.
-- Assumes nothing.
use native.Mathlib.Omega.{arith}
use Prim.Native.Nat.{ℕ, ◌<◌}
use mathlib.Core.Path.{◌≡◌, refl, sym, ◌∙◌}
use mathlib.Core.Bool.{false}
use mathlib.Core.Option.{some}
use lib.ListN.{get_or}
use Rattle.std.specs.Prelude as std
use Rattle.lists.specs.Loops.{position}
use Rattle.lists.specs.Chains.{position_some, position_none}
use Rattle.scheduler.specs.declared.Scheduler.{Scheduler}
use Rattle.scheduler.specs.declared.Departure.{Departure}
use Rattle.scheduler.specs.declared.Refusal.{Refusal}
use Rattle.scheduler.specs.declared.Refusal.TheVariants as refusal
use Rattle.scheduler.specs.Jobs.{unused, departs_as, too_early}
use Rattle.scheduler.specs.Model.{view}
use Rattle.scheduler.proofs.Lengths.{whole}
use Rattle.job_table.specs.Parts.{part, bare_part, departing}
use Rattle.job_table.specs.Leaving.{leaves_none, leaves_early, leaves_one, cleans_one, moved_up, inside}
use Rattle.job_table.proofs.leave.Goals.{After-is_some-found, in-None, in-Some, in-Some-2, in-Some-slot+then-cleans, in-Some-slot+else-cleans, in_default}
use Rattle.job_table.proofs.leave.Goals as goal

-- what the search gives: the slot of a job that can leave now, or the refusal
abbrev Told : Scheduler → Departure → (ticket : ℕ) → Refusal → std.Option ℕ → Type 0
Told d h t r std.None = bare_part r d ≡ part (departing (view d) h t)
Told d h t r (std.Some i) = (position (departs_as h t) d.jobs ≡ some i) × (too_early d.clock h (get_or d.jobs i unused) ≡ false) × (r ≡ refusal.None)

told : (c : After-is_some-found) → let a = c.args in Told a.d a.how a.ticket c.match-slot_of.refusal.0 c.match-slot_of.refusal.1
told c =
    let a = c.args in
    let p = departs_as a.how a.ticket in
    elim c.match-slot_of.branch [
      | in-None w ↦ rw (w.refusal-is, w.not_there.ensures) (leaves_none a.d a.how a.ticket c.requires (position_none p a.d.jobs (sym c.slot_of.ensures ∙ w.in-None.is)))
      | in-Some w ↦ rw w.refusal-is
          (leaves_early a.d a.how a.ticket c.requires w.in-Some.i (position_some p a.d.jobs w.in-Some.i (sym c.slot_of.ensures ∙ w.in-Some.is)) (sym w.is_early.ensures ∙ w.if-is_early.true))
      | in-Some-2 w ↦ rw w.refusal-is (position_some p a.d.jobs w.in-Some.i (sym c.slot_of.ensures ∙ w.in-Some.is), sym w.is_early.ensures ∙ w.if-is_early.false, refl)
    ]

pub returns : goal.returns
returns c =
    let a = c.args in
    let d = a.d in
    let k = told (goal.at.returns c).After-is_some-found in
    elim c.match-slot.branch [
      | in_default w ↦ rw (c.one_if.ensures, c.ends_if.ensures, c.withdrawn_if.ensures, c.is_some-found.ensures, w.in_default.is, w.e-is) (rw w.in_default.is at k)
      | in-Some-slot+then-cleans w ↦ let i = w.in-Some-slot.i in
          let f = rw w.in-Some-slot.is at k in
          rw (c.one_if.ensures, c.ends_if.ensures, c.withdrawn_if.ensures, c.is_some-found.ensures, w.in-Some-slot.is, w.e-is, w.cleaning.ensures)
          (cleans_one d a.how a.ticket c.requires i f.0 _ f.2 f.1 (sym w.cleans.ensures ∙ w.if-cleans.true))
      | in-Some-slot+else-cleans w ↦ let i = w.in-Some-slot.i in
          let f = rw w.in-Some-slot.is at k in
          let low : i < 64 = omega (arith, inside d a.how a.ticket c.requires i f.0, c.requires.holds.few) in
          rw (c.one_if.ensures, c.ends_if.ensures, c.withdrawn_if.ensures, c.is_some-found.ensures, w.in-Some-slot.is, w.e-is, w.copy_within.ensures.after, w.unused.ensures, moved_up d i (whole d c.well_formed.0) low)
          (leaves_one d a.how a.ticket c.requires i f.0 _ f.2 f.1 (sym w.cleans.ensures ∙ w.if-cleans.false))
    ]
