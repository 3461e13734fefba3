-- What a call by value gives, the call on the lent desk leaves (`HostLeavesOf`).
-- Assumes nothing.
use Rattle.std.specs.Prelude.{◌≡◌, refl, false, eqb}
use Rattle.std.proofs.Common.{sym, ap, subst, ◌∙◌}
use Rattle.history.specs.Calls.{Call}
use Rattle.lent_calls.specs.CallContract.{refused_gives, refused_amends}
use Rattle.hingerota.specs.declared.Desk.{Desk}
use Rattle.hingerota.specs.declared.Amendment.{Amendment}
use Rattle.hingerota.specs.declared.Outcome.{Outcome}
use Rattle.hingerota.specs.Mirror.{mirror, read}
use Rattle.hingerota.specs.DeskPremise.{Handed, gives, amendment_of, amends_on}
use Rattle.hingerota.proofs.DeskPremise.{call_handed, amended_handed}
use Rattle.hingerota.specs.CallContract.{HostLeavesOf, HostLeaves, HostLeavesAmended}

refused_keeps : (d : Desk) (c : Call) → Handed d → eqb (gives d c).answer.refusal 0 ≡ false → (gives d c).desk ≡ d
refused_keeps d c h q = ap mirror (refused_gives (read d) c h.premise q) ∙ sym h.mirrored

refused_amended : (d : Desk) (b : Amendment) → Handed d → eqb (amends_on d b).answer.refusal 0 ≡ false → (amends_on d b).desk ≡ d
refused_amended d b h q = ap mirror (refused_amends (read d) (amendment_of b) h.premise q) ∙ sym h.mirrored

-- what a call by value gives, the call on the lent desk leaves
leaves_of : (d : Desk) (x o : Outcome) → Handed x.desk → (eqb x.answer.refusal 0 ≡ false → x.desk ≡ d) → o ≡ x
    → HostLeavesOf d x o.answer o.desk
leaves_of d x o h r e = subst (λ (y : Outcome). HostLeavesOf d x y.answer y.desk) (sym e) (record {
  answers = refl;
  leaves = refl;
  handed = h;
  refused = r;
})

pub leaves_given : (d : Desk) (c : Call) (o : Outcome) → Handed d → o ≡ gives d c → HostLeaves d c o.answer o.desk
leaves_given d c o h e = leaves_of d (gives d c) o (call_handed d c h) (refused_keeps d c h) e

pub amended_given : (d : Desk) (b : Amendment) (o : Outcome) → Handed d → o ≡ amends_on d b → HostLeavesAmended d b o.answer o.desk
amended_given d b o h e = leaves_of d (amends_on d b) o (amended_handed d b h) (refused_amended d b h) e
