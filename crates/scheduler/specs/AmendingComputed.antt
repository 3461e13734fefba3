-- Document 02, No. 13, computed from the definitions: the order of refusals of a corrected order, what grows and what does not, and what the
-- record that is superseded keeps. (Whole answers of both kinds: crates/amend_rules/specs/Computed.antt.)
-- Assumes nothing.
use Rattle.std.specs.Prelude.{◌≡◌, refl, Bool, true, false, [], ◌∷◌, ℕ}
use Rattle.std.proofs.Math.Option.{none, some}
use Rattle.scheduler.specs.declared.Kind.TheVariants.{Easy}
use Rattle.scheduler.specs.declared.State.{State}
use Rattle.scheduler.specs.declared.State.TheVariants.{Waiting, Running}
use Rattle.scheduler.specs.declared.Job.{Job}
use Rattle.scheduler.specs.declared.Settings.{Settings}
use Rattle.scheduler.specs.declared.Amendment.{Amendment}
use Rattle.scheduler.specs.declared.Tenant.TheVariants.{B}
use Rattle.scheduler.specs.declared.Refusal.{Refusal}
use Rattle.scheduler.specs.declared.Refusal.TheVariants as refusal
use Rattle.scheduler.specs.Settings.{longest, run_time}
use Rattle.scheduler.specs.Model.{Model}
use Rattle.scheduler.specs.Answers.{verdict}
use Rattle.scheduler.specs.Amending.{named, amend_refusal, grows, superseded, in_place_of, kept_promise, in_place_refusal, order_for}

-- 10 nodes, with 7 minutes of cleanup, and estimates up to 200
abbrev ten : Settings
ten = record { kind = Easy; nodes = 10; cleanup = 7; quota_a = 2; quota_b = 62; longest = 200 }

-- a record of B's, with a number of its own in each field that one of either kind may have: 4 nodes, for 3 to 21 minutes
abbrev record_of : (ticket : ℕ) → State → Job
record_of t s = record {
  ticket = t;
  nodes = 4;
  estimate = 21;
  state = s;
  tenant = B;
  least = 3;
  rank = 5;
  start = 40;
  promise = 41;
  end = 0;
  submitted = 6;
  forecast = 42;
}

-- the first runs, the others wait
abbrev desk : Model
desk = record { settings = ten; clock = 9; next = 9; jobs = record_of 1 Running ∷ record_of 2 Waiting ∷ record_of 3 Waiting ∷ [] }

abbrev to : (ticket nodes least most : ℕ) → Amendment
to t n l e = record { ticket = t; nodes = n; estimate = e; least = l }

-- ## "Checks: 11 for the named ticket, then 1, 2 and 19"

abbrev refuses : (ticket nodes least most : ℕ) → Refusal
refuses t n l e = amend_refusal desk (to t n l e)

-- one that runs, and a ticket that nobody has; each limit just passed and just met
pub amendment_order : (refuses 1 11 1 0 ≡ refusal.NotWaiting)
    × (refuses 9 1 0 1 ≡ refusal.NotWaiting)
    × (refuses 2 0 1 0 ≡ refusal.NodesOutOfRange)
    × (refuses 2 11 1 0 ≡ refusal.NodesOutOfRange)
    × (refuses 2 10 1 0 ≡ refusal.MinutesOutOfRange)
    × (refuses 2 10 202 201 ≡ refusal.MinutesOutOfRange)
    × (refuses 2 10 201 200 ≡ refusal.LeastAboveMost)
    × (refuses 2 10 200 200 ≡ refusal.None)
    × (refuses 2 1 0 1 ≡ refusal.None)
unfolding amend_refusal verdict longest
amendment_order = (refl, refl, refl, refl, refl, refl, refl, refl, refl)

-- ## "If neither nodes nor held time grow"

abbrev grown : (nodes least most : ℕ) → Bool
grown n l e = grows ten (to 2 n l e) (record_of 2 Waiting)

-- the same again; an estimate that grows within its held time, which is 25, and a least that does; fewer nodes and minutes
pub not_grown : (grown 4 3 21 ≡ false) × (grown 4 3 25 ≡ false) × (grown 4 21 21 ≡ false) × (grown 3 0 1 ≡ false)
unfolding run_time
not_grown = (refl, refl, refl, refl)

-- by the held time alone; by the nodes alone; either, where the other gets smaller
pub are_grown : (grown 4 3 26 ≡ true) × (grown 5 3 21 ≡ true) × (grown 1 3 26 ≡ true) × (grown 5 0 1 ≡ true)
unfolding run_time
are_grown = (refl, refl, refl, refl)

-- ## "it supersedes that record in place and keeps its promise, or on the Loose Desk its intake minute, r and forecast"

abbrev smaller : Job
smaller = record {
  ticket = 2;
  nodes = 3;
  estimate = 20;
  state = Waiting;
  tenant = B;
  least = 11;
  rank = 5;
  start = 40;
  promise = 41;
  end = 0;
  submitted = 6;
  forecast = 42;
}

pub keeps_the_rest : superseded (to 2 3 11 20) (record_of 2 Waiting) ≡ smaller
keeps_the_rest = refl

-- that record and no other; none where the ticket runs
pub only_the_named : ((in_place_of desk (to 2 3 11 20)).jobs ≡ record_of 1 Running ∷ smaller ∷ record_of 3 Waiting ∷ [])
    × ((in_place_of desk (to 1 3 11 20)).jobs ≡ desk.jobs)
    × (named desk (to 3 3 11 20) ≡ some (record_of 3 Waiting))
    × (kept_promise (named desk (to 3 3 11 20)) ≡ 41)
    × (named desk (to 1 3 11 20) ≡ none)
only_the_named = (refl, refl, refl, refl, refl)

-- what grows is not taken in place; what does not is refused as above
pub in_place_order : (in_place_refusal desk (to 2 4 3 26) ≡ refusal.NotWaiting)
    × (in_place_refusal desk (to 2 4 3 25) ≡ refusal.None)
    × (in_place_refusal desk (to 1 11 1 0) ≡ refusal.NotWaiting)
    × (in_place_refusal desk (to 2 4 26 25) ≡ refusal.LeastAboveMost)
unfolding in_place_refusal amend_refusal verdict longest run_time
in_place_order = (refl, refl, refl, refl)

-- what is taken in anew: "The house is kept"
pub taken_anew : order_for (to 2 5 11 30) (record_of 2 Waiting) ≡ record { nodes = 5; estimate = 30; tenant = B; least = 11 }
taken_anew = refl
