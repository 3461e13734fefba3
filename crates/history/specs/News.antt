-- What a call and its answer say, in one place. The book, the tickets given and what a kind owes go by this, and not by the call.
-- Assumes nothing.
use Rattle.std.specs.Prelude.{◌≡◌, refl, Bool, true, false, ◌&&◌, cond, List, [], ◌∷◌, ℕ, suc}
use Rattle.std.proofs.Math.Option.{Option, none}
use Rattle.lists.specs.Tests.{case, true_false}
use Rattle.lists.specs.Lists.{elem, In, in_nil}
use Rattle.scheduler.specs.declared.Amendment.{Amendment}
use Rattle.scheduler.specs.declared.Departure.TheVariants.{Complete, Cancel}
use Rattle.scheduler.specs.declared.Refusal.{Refusal}
use Rattle.scheduler.specs.declared.Tenant.{Tenant}
use Rattle.scheduler.specs.Answers.{Reply, Forecast, accepts, refusing}
use Rattle.history.specs.Calls.{Call, submit, depart, tick, amend, unchanged, Event}

-- "Its ticket and promise are what that intake answered, its nodes those last asked for it in a call not refused."
pub record Newcomer : Type 0 where
  pub ticket : ℕ
  pub nodes : ℕ
  pub promise : ℕ
  pub tenant : Tenant
  pub least : ℕ

-- of an amendment: for whom, and what is asked for it from then on
abbrev pub amended_ticket : Amendment → ℕ
amended_ticket a = a.ticket

abbrev pub amended_nodes : Amendment → ℕ
amended_nodes a = a.nodes

abbrev pub amended_least : Amendment → ℕ
amended_least a = a.least

pub record News : Type 0 where
  -- a minute has passed
  pub passed : Bool
  -- who came, which orders were amended in place (document 02, No. 13), who was withdrawn, whose run ended, who started, and which head hears
  -- a forecast
  pub came : List Newcomer
  pub amended : List Amendment
  pub withdrew : List ℕ
  pub ended : List ℕ
  pub started : List ℕ
  pub head : Option Forecast

-- what is said by a call not refused: that a minute passes, who comes, who is withdrawn, and which order is amended
abbrev passes : Call → Bool
passes (submit o) = false
passes (depart h t) = false
passes tick = true
passes (amend a) = false
passes (unchanged w) = false

abbrev comes : Call → Reply → List Newcomer
comes (submit o) r = record { ticket = r.ticket; nodes = o.nodes; promise = r.promise; tenant = o.tenant; least = o.least } ∷ []
comes (depart h t) r = []
comes tick r = []
comes (amend a) r = []
comes (unchanged w) r = []

abbrev withdraws : Call → List ℕ
withdraws (submit o) = []
withdraws (depart Complete t) = []
withdraws (depart Cancel t) = t ∷ []
withdraws tick = []
withdraws (amend a) = []
withdraws (unchanged w) = []

abbrev amends : Call → List Amendment
amends (submit o) = []
amends (depart h t) = []
amends tick = []
amends (amend a) = a ∷ []
amends (unchanged w) = []

-- "A stack is taken in by an intake not refused."
abbrev pub news_of : Call → Reply → News
news_of c r =
    let taken = accepts r.refusal in
    record {
      passed = taken && passes c;
      came = cond taken (comes c r) [];
      amended = cond taken (amends c) [];
      withdrew = cond taken (withdraws c) [];
      ended = r.ended;
      started = r.started;
      head = r.head;
    }

abbrev pub news : Event → News
news e = news_of e.call e.reply

-- "The clock is the opened desk's minute, plus one for each step not refused."
abbrev pub clock_after : News → ℕ → ℕ
clock_after e c = cond e.passed (suc c) c

-- ## Calls that say nothing

abbrev pub nothing : News
nothing = record { passed = false; came = []; amended = []; withdrew = []; ended = []; started = []; head = none }

pub refused_news : (c : Call) (r : Refusal) → accepts r ≡ false → news_of c (refusing r) ≡ nothing
refused_news c r e = rw e

pub unchanged_news : (w r : Refusal) → news_of (unchanged w) (refusing r) ≡ nothing
unchanged_news w r = case (accepts r) (λ e. rw e) (λ e. rw e)

-- ## Who comes is not withdrawn, and a withdrawal passes no minute

pub came_stays : (c : Call) (r : Reply) (t : ℕ) (o : Newcomer) → In o (news_of c r).came → elem t (news_of c r).withdrew ≡ false
came_stays c r t o i = case (accepts r.refusal) (λ e. rw e (by c (rw e at i))) (λ e. rw e)
  where
    by : (c : Call) → In o (comes c r) → elem t (withdraws c) ≡ false
    by (submit w) i = refl
    by (depart h k) i = in_nil i
    by tick i = in_nil i
    by (amend a) i = in_nil i
    by (unchanged w) i = in_nil i

pub withdraws_now : (c : Call) (r : Reply) (t : ℕ) → elem t (news_of c r).withdrew ≡ true → (news_of c r).passed ≡ false
withdraws_now c r t q = case (accepts r.refusal) (λ e. rw e (by c (rw e at q))) (λ e. rw e)
  where
    by : (c : Call) → elem t (withdraws c) ≡ true → passes c ≡ false
    by (submit w) q = refl
    by (depart h k) q = refl
    by tick q = true_false false q refl
    by (amend a) q = refl
    by (unchanged w) q = refl
