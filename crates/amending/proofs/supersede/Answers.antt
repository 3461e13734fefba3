use mathlib.Core.Path.{sym, ◌∙◌}
use Rattle.lists.specs.Chains.{position_some, position_none}
use Rattle.scheduler.specs.Amending.{names}
use Rattle.amending.specs.Named.{supersedes_none, fits, supersedes_one, supersedes_not}
use Rattle.amending.proofs.supersede.Goals.{in-Some+then-is_none, in-Some+else-is_none, in_default}
use Rattle.amending.proofs.supersede.Goals as goal

pub superseded-requires : goal.superseded-requires
superseded-requires c =
    let d = c.args.d in
    let a = c.args.a in
    let i = c.in-Some.slot in
    let e = position_some (names a) d.jobs i (sym c.slot_of.ensures ∙ c.in-Some.is) in
    fits d a c.requires i e _ c.in_place_refusal-refusal.ensures (sym c.is_none.ensures ∙ c.if-is_none.true)

pub returns : goal.returns
returns c =
    let d = c.args.d in
    let a = c.args.a in
    let at = c.slot_of.ensures in
    elim c.match-slot_of.branch [
      | in_default w ↦ rw (c.bare.ensures, w.e-is, w.refusal-is) (supersedes_none d a c.requires (position_none (names a) d.jobs (sym at ∙ w.in_default.is)))
      | in-Some+then-is_none w ↦ let e = position_some (names a) d.jobs w.in-Some.slot (sym at ∙ w.in-Some.is) in
          rw (c.bare.ensures, w.e-is, w.refusal-is, w.superseded.ensures)
          (supersedes_one d a c.requires _ e _ w.in_place_refusal-refusal.ensures (sym w.is_none.ensures ∙ w.if-is_none.true))
      | in-Some+else-is_none w ↦ let e = position_some (names a) d.jobs w.in-Some.slot (sym at ∙ w.in-Some.is) in
          rw (c.bare.ensures, w.e-is, w.refusal-is)
          (supersedes_not d a c.requires _ e _ w.in_place_refusal-refusal.ensures (sym w.is_none.ensures ∙ w.if-is_none.false))
    ]
