-- What a call on a host's desk answers, and leaves there. Document 01: "A rack lends its desk to each call and finds it changed there
-- afterwards"; "A refusal gives its number, no tickets, and the desk and any lent list unchanged".
-- Assumes nothing.
use Rattle.std.specs.Prelude.{◌≡◌, false, eqb}
use Rattle.history.specs.Calls.{Call}
use Rattle.hingerota.specs.declared.Desk.{Desk}
use Rattle.hingerota.specs.declared.Amendment.{Amendment}
use Rattle.hingerota.specs.declared.Answer.{Answer}
use Rattle.hingerota.specs.declared.Outcome.{Outcome}
use Rattle.hingerota.specs.DeskPremise.{Handed, gives, amends_on}

-- for a call that by value gives the outcome o: the answer a, and the desk e where d was lent, are those of o; and e is d if the call is refused
pub record HostLeavesOf (d : Desk) (o : Outcome) (a : Answer) (e : Desk) : Type 0 where
  pub answers : a ≡ o.answer
  pub leaves : e ≡ o.desk
  pub handed : Handed e
  pub refused : eqb a.refusal 0 ≡ false → e ≡ d

abbrev pub HostLeaves : Desk → Call → Answer → Desk → Type 0
HostLeaves d c a e = HostLeavesOf d (gives d c) a e

-- a corrected order (document 02, No. 13)
abbrev pub HostLeavesAmended : Desk → Amendment → Answer → Desk → Type 0
HostLeavesAmended d b a e = HostLeavesOf d (amends_on d b) a e
