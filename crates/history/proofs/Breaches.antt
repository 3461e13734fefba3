-- The guarantees can fail. For each claim there are histories that break it, with their words computed, and they break it as little as can be: a
-- job that waits in the minute that it was promised, or starts in the next; one node too many. And what the words say of several jobs, one by one.
-- Assumes nothing.
use Rattle.std.specs.Prelude.{◌≡◌, refl, true, List, [], ◌∷◌, map, ℕ, zero, suc, ◌+◌, ◌<◌, replicate}
use Rattle.std.proofs.Common.{sym, ap, subst, ◌∙◌, arith}
use Rattle.std.proofs.Math.Option.{Option, none, some}
use Rattle.lists.specs.Lists.{sum, In, here, there, in_nil}
use Rattle.scheduler.specs.declared.Kind.TheVariants.{Conservative, Easy}
use Rattle.scheduler.specs.declared.Refusal.{Refusal}
use Rattle.scheduler.specs.declared.Refusal.TheVariants as refusal
use Rattle.scheduler.specs.declared.Job.{Job}
use Rattle.scheduler.specs.declared.Settings.{Settings}
use Rattle.scheduler.specs.declared.State.{State}
use Rattle.scheduler.specs.declared.State.TheVariants.{Waiting, Running, Cleanup}
use Rattle.scheduler.specs.declared.Tenant.{Tenant}
use Rattle.scheduler.specs.declared.Tenant.TheVariants.{A, B}
use Rattle.scheduler.specs.Answers.{Forecast}
use Rattle.scheduler.specs.Model.{Model}
use Rattle.scheduler.specs.Settings as times
use Rattle.history.specs.Calls.{submit, order_of, cancel, tick, amend, Event}
use Rattle.history.specs.News.{news}
use Rattle.history.specs.Book.{Fate, waiting, running, cleaning, ended, withdrawn, Entry, Book, start, head_of, enter, enter_all}
use Rattle.history.specs.Beginning.{beginning}
use Rattle.history.specs.Guarantee.{StartedBy, Kept, held_nodes, live_jobs, Guarantee}

-- a submission accepted under a ticket, with a promise, the tickets that start and a forecast
abbrev taken_for : Tenant → ℕ → ℕ → ℕ → List ℕ → Option Forecast → Event
taken_for h t n p ss f = record {
  call = submit (order_of h n 5);
  reply = record { refusal = refusal.None; ticket = t; promise = p; reads = 0; ended = []; started = ss; head = f };
}

abbrev taken : ℕ → ℕ → ℕ → List ℕ → Option Forecast → Event
taken = taken_for A

-- a machine of 10 nodes, with 63 places for A and one for B
abbrev ten : Settings
ten = record { kind = Easy; nodes = 10; cleanup = 0; quota_a = 63; quota_b = 1; longest = 10080 }

-- a tick, with the tickets that end and those that start
abbrev turned : List ℕ → List ℕ → Event
turned es ss = record { call = tick; reply = record { refusal = refusal.None; ticket = 0; promise = 0; reads = 0; ended = es; started = ss; head = none } }

abbrev ticked : List ℕ → Event
ticked ss = turned [] ss

-- a withdrawal, with the tickets that start
abbrev dropped : ℕ → List ℕ → Event
dropped t ss = record { call = cancel t; reply = record { refusal = refusal.None; ticket = 0; promise = 0; reads = 0; ended = []; started = ss; head = none } }

abbrev idle : Event
idle = ticked []

-- a book from minute 0, with the bound's unit
abbrev book : List Event → Book
book es = enter_all 10080 0 (record { clock = 0; entries = []; strays = [] }) es

never : (x : Entry) (b : ℕ) → x.fate ≡ waiting → StartedBy x b → ⊥
never x b e s = let q = s.started in absurd (let z : ◌≡◌ {A = ℕ} 0 1 = cc in omega arith)

too_late : (x : Entry) (b : ℕ) → start x.fate ≡ some (suc b) → StartedBy x b → ⊥
too_late x b e s = let q = s.started in let m : s.minute ≡ suc b = cc in absurd (omega (arith, m, s.by))

pub promise_broken : Guarantee Conservative ten (book (taken 1 4 2 [] none ∷ idle ∷ idle ∷ [])) → ⊥
unfolding enter
promise_broken g = never _ 2 refl ((g.promises refl _ (here refl)).starts refl (omega arith))

pub promise_late : Guarantee Conservative ten (book (taken 1 4 1 [] none ∷ idle ∷ ticked (1 ∷ []) ∷ [])) → ⊥
unfolding enter
promise_late g = too_late _ 1 refl ((g.promises refl _ (here refl)).starts refl (omega arith))

-- the same once its run has ended: its start is not forgotten
pub promise_late_ended : Guarantee Conservative ten (book (taken 1 4 1 [] none ∷ idle ∷ ticked (1 ∷ []) ∷ turned (1 ∷ []) [] ∷ [])) → ⊥
unfolding enter
promise_late_ended g = too_late _ 1 refl ((g.promises refl _ (here refl)).starts refl (omega arith))

-- one that waits on, minute after minute
late : Entry
late = record { ticket = 1; nodes = 4; promise = 0; tenant = A; least = 0; bound = some 10080; fate = waiting; headed = true; forecast = none }

abbrev waiting_at : ℕ → Book
waiting_at c = record { clock = c; entries = late ∷ []; strays = [] }

waits_on : (k c : ℕ) → enter_all 10080 0 (waiting_at c) (replicate k idle) ≡ waiting_at (c + k)
unfolding enter late
waits_on zero c = ap waiting_at (omega arith)
waits_on (suc k) c = waits_on k (suc c) ∙ ap waiting_at (omega arith)

-- until it is at its bound
abbrev at_bound : Book
at_bound = book (taken 1 4 0 [] none ∷ replicate 10080 idle)

at_bound_is : at_bound ≡ waiting_at 10080
unfolding enter late
at_bound_is = waits_on 10080 0

pub bound_broken : Guarantee Easy ten at_bound → ⊥
unfolding late
bound_broken g =
    let h : Guarantee Easy ten (waiting_at 10080) = subst (Guarantee Easy ten) at_bound_is g in
    never late 10080 refl ((h.bounds refl late 10080 (here refl) refl).starts refl (omega arith))

pub bound_late : Guarantee Easy ten (enter 10080 0 at_bound (news (ticked (1 ∷ [])))) → ⊥
unfolding enter late
bound_late g =
    let h : Guarantee Easy ten (enter 10080 0 (waiting_at 10080) (news (ticked (1 ∷ [])))) =
    subst (λ (b : Book). Guarantee Easy ten (enter 10080 0 b (news (ticked (1 ∷ []))))) at_bound_is g in
    too_late _ 10080 refl ((h.bounds refl _ 10080 (here refl) refl).starts refl (omega arith))

abbrev soon : Option Forecast
soon = some (record { ticket = 1; minute = 1 })

pub forecast_broken : Guarantee Easy ten (book (taken 1 4 0 [] soon ∷ idle ∷ [])) → ⊥
unfolding enter
forecast_broken g = never _ 1 refl ((g.forecasts refl _ 1 (here refl) refl).starts refl (omega arith))

pub forecast_late : Guarantee Easy ten (book (taken 1 4 0 [] soon ∷ idle ∷ ticked (1 ∷ []) ∷ [])) → ⊥
unfolding enter
forecast_late g = too_late _ 1 refl ((g.forecasts refl _ 1 (here refl) refl).starts refl (omega arith))

pub head_unheard : Guarantee Easy ten (book (taken 1 4 0 [] none ∷ [])) → ⊥
unfolding enter
head_unheard g = let f = g.heads refl _ (here refl) refl refl in absurd (let z : ◌≡◌ {A = ℕ} 0 1 = cc f.1 in omega arith)

pub nodes_exceeded : Guarantee Easy ten (book (taken 1 6 0 (1 ∷ []) none ∷ taken 2 5 0 (2 ∷ []) none ∷ [])) → ⊥
unfolding enter
nodes_exceeded g = let w = g.within in absurd (omega arith)

-- ## Withdrawals

-- withdrawn in the minute that it was promised, and not before
pub promise_withdrawn : Guarantee Conservative ten (book (taken 1 4 2 [] none ∷ idle ∷ idle ∷ dropped 1 [] ∷ [])) → ⊥
unfolding enter
promise_withdrawn g = let l : 2 < 2 = (g.promises refl _ (here refl)).before 2 refl in omega arith

pub bound_withdrawn : Guarantee Easy ten (enter 10080 0 at_bound (news (dropped 1 []))) → ⊥
unfolding enter late
bound_withdrawn g =
    let h : Guarantee Easy ten (enter 10080 0 (waiting_at 10080) (news (dropped 1 []))) =
    subst (λ (b : Book). Guarantee Easy ten (enter 10080 0 b (news (dropped 1 [])))) at_bound_is g in
    let l : 10080 < 10080 = (h.bounds refl _ 10080 (here refl) refl).before 10080 refl in
    omega arith

pub forecast_withdrawn : Guarantee Easy ten (book (taken 1 4 0 [] soon ∷ idle ∷ dropped 1 [] ∷ [])) → ⊥
unfolding enter
forecast_withdrawn g = let l : 1 < 1 = (g.forecasts refl _ 1 (here refl) refl).before 1 refl in omega arith

some_none : (w : ℕ) → some w ≡ none → ⊥
some_none w e = let z : ◌≡◌ {A = ℕ} 0 1 = cc in omega arith

-- a minute before, nothing was due and broken
pub withdrawn_in_time : (x : Entry) → In x (book (taken 1 4 2 [] none ∷ idle ∷ dropped 1 [] ∷ idle ∷ [])).entries → Kept 2 x 2
unfolding enter
withdrawn_in_time x (here q) =
    subst (λ (y : Entry). Kept 2 y 2) (sym q)
    (record { starts = λ n l. absurd (some_none 1 n); before = λ w e. let z : 1 ≡ w = cc in omega arith })
withdrawn_in_time x (there i) = in_nil i

strayed : (ts : List ℕ) (t : ℕ) → ◌≡◌ {A = List ℕ} (t ∷ ts) [] → ⊥
strayed ts t q = let z : ◌≡◌ {A = ℕ} 0 1 = cc in omega arith

-- one that was withdrawn starts after all; one is withdrawn that has started; both at once
pub withdrawn_starts : Guarantee Easy ten (book (taken 1 4 0 [] none ∷ dropped 1 [] ∷ ticked (1 ∷ []) ∷ [])) → ⊥
unfolding enter
withdrawn_starts g = strayed [] 1 g.starts

pub started_withdrawn : Guarantee Easy ten (book (taken 1 4 0 (1 ∷ []) none ∷ dropped 1 [] ∷ [])) → ⊥
unfolding enter
started_withdrawn g = strayed [] 1 g.starts

pub withdrawn_and_started : Guarantee Easy ten (book (taken 1 4 0 [] none ∷ dropped 1 (1 ∷ []) ∷ [])) → ⊥
unfolding enter
withdrawn_and_started g = strayed [] 1 g.starts

-- ## Nodes that are not free yet

-- a book by which nodes stay taken for five minutes after the end; a job of 6 nodes has ended in minute 1, and in minute 5 one of 5 starts
abbrev cleared : List Event → Book
cleared es = enter_all 10080 5 (record { clock = 0; entries = []; strays = [] }) (taken 1 6 0 (1 ∷ []) none ∷ turned (1 ∷ []) [] ∷ idle ∷ idle ∷ idle ∷ es)

pub nodes_still_taken : Guarantee Easy ten (cleared (idle ∷ taken 2 5 0 (2 ∷ []) none ∷ [])) → ⊥
unfolding enter
nodes_still_taken g = let w = g.within in absurd (omega arith)

-- a minute later they are free
pub nodes_free_again : sum held_nodes (cleared (idle ∷ idle ∷ taken 2 5 0 (2 ∷ []) none ∷ [])).entries ≡ 5
unfolding enter
nodes_free_again = refl

-- ## Places

-- B has one place: a second job of its comes while the first waits, or while its nodes are not free yet
pub places_exceeded : Guarantee Easy ten (book (taken_for B 1 1 0 [] none ∷ taken_for B 2 1 0 [] none ∷ [])) → ⊥
unfolding enter
places_exceeded g = let w = g.shares B in absurd (omega arith)

abbrev cleared_B : List Event → Book
cleared_B es = enter_all 10080 5 (record { clock = 0; entries = []; strays = [] }) (taken_for B 1 6 0 (1 ∷ []) none ∷ turned (1 ∷ []) [] ∷ idle ∷ idle ∷ idle ∷ es)

pub place_still_taken : Guarantee Easy ten (cleared_B (idle ∷ taken_for B 2 1 0 [] none ∷ [])) → ⊥
unfolding enter
place_still_taken g = let w = g.shares B in absurd (omega arith)

-- a minute later it is free, and a job of A's takes none of B's
pub place_free_again : live_jobs B (cleared_B (idle ∷ idle ∷ taken_for B 2 1 0 [] none ∷ taken 3 1 0 [] none ∷ [])).entries ≡ 1
unfolding enter
place_free_again = refl

-- ## Several jobs

abbrev fate_of : Entry → Fate
fate_of x = x.fate

abbrev bound_of : Entry → Option ℕ
bound_of x = x.bound

abbrev forecast_of : Entry → Option ℕ
forecast_of x = x.forecast

-- the first has ended, the second runs, the third waits, the fourth was withdrawn; then these events
abbrev several : List Event → Book
several es =
    book
    (taken 1 6 0 (1 ∷ []) none
    ∷ taken 2 3 0 (2 ∷ []) none
    ∷ taken 3 8 0 [] none
    ∷ taken 4 2 0 [] none
    ∷ dropped 4 []
    ∷ turned (1 ∷ []) []
    ∷ es)

-- "It has started once a call, its intake or a later one, gives its ticket among those started"; "It runs from then until a call gives its
-- ticket among those ended": the start, the end or the withdrawal of one job is that of no other
pub fates_of_several : map fate_of (several []).entries ≡ ended 0 ∷ running 0 ∷ waiting ∷ withdrawn 0 ∷ []
unfolding enter
fates_of_several = refl

pub nodes_of_several : sum held_nodes (several []).entries ≡ 3
unfolding enter
nodes_of_several = refl

-- "r is one more than the number of stacks waiting just before its intake": it is 1, 1, 1 and 2, and of two more jobs in minute 1 it is 2 and
-- 3. "Its bound is the clock at intake + r × 10,080."
pub bounds_of_several :
    map bound_of (several (taken 5 1 0 [] none ∷ taken 6 1 0 [] none ∷ [])).entries
    ≡ some 10080 ∷ some 10080 ∷ some 10080 ∷ some 20160 ∷ some 20161 ∷ some 30241 ∷ []
unfolding enter
bounds_of_several = refl

-- "The head is the waiting stack with the lowest ticket", and not the one that came first or last
pub head_of_several : head_of (several (taken 5 1 0 [] none ∷ [])).entries ≡ some 3
unfolding enter
head_of_several = refl

pub head_by_ticket : head_of (book (taken 8 1 0 [] none ∷ taken 7 1 0 [] none ∷ taken 9 1 0 [] none ∷ [])).entries ≡ some 7
unfolding enter
head_by_ticket = refl

-- a tick, with the tickets that start, after which a head is given a minute
abbrev tells : List ℕ → (ticket minute : ℕ) → Event
tells ss t m = record {
  call = tick;
  reply =
      record { refusal = refusal.None; ticket = 0; promise = 0; reads = 0; ended = []; started = ss; head = some (record { ticket = t; minute = m }) };
}

-- "Its forecast is the minute given by the call after which it is head for the first time": the first is given 1, and 9 counts no more; the second
-- is given 5 when the first starts; the third gets none, since the minute is another ticket's
pub forecasts_of_three : map forecast_of (book
    (taken 1 4 0 [] soon
    ∷ taken 2 4 0 [] none
    ∷ taken 3 4 0 [] none
    ∷ tells [] 1 9
    ∷ tells (1 ∷ []) 2 5
    ∷ tells (2 ∷ []) 4 6
    ∷ [])).entries ≡ some 1 ∷ some 5 ∷ none ∷ []
unfolding enter
forecasts_of_three = refl

-- ## Corrected orders

-- an order amended in place, or refused, with the tickets that start
abbrev amended : Refusal → (ticket nodes least : ℕ) → List ℕ → Event
amended r t n l ss = record {
  call = amend (record { ticket = t; nodes = n; estimate = 5; least = l });
  reply = record { refusal = r; ticket = t; promise = 9; reads = 0; ended = []; started = ss; head = none };
}

-- 6 nodes run, and a job of 4 waits; then these events
abbrev six_and_four : List Event → Book
six_and_four es = book (taken 1 6 0 (1 ∷ []) none ∷ taken 2 4 2 [] (some (record { ticket = 2; minute = 1 })) ∷ es)

-- "its nodes those last asked for it": 5 are asked for it, and it starts
pub nodes_asked_anew : Guarantee Conservative ten (six_and_four (amended refusal.None 2 5 0 (2 ∷ []) ∷ [])) → ⊥
unfolding enter
nodes_asked_anew g = let w = g.within in absurd (omega arith)

-- "last asked for it in a call not refused": the last that was taken asks 2
pub nodes_last_asked :
    sum held_nodes (six_and_four
    (amended refusal.None 2 3 0 []
    ∷ amended refusal.None 2 2 0 []
    ∷ amended refusal.NotWaiting 2 9 0 []
    ∷ ticked (2 ∷ [])
    ∷ [])).entries ≡ 8
unfolding enter
nodes_last_asked = refl

abbrev asked_for : Entry → ℕ × ℕ
asked_for x = (x.nodes, x.least)

-- of the job that is named, and of no other
pub asked_of_both : map asked_for (six_and_four (amended refusal.None 2 3 1 [] ∷ [])).entries ≡ (6, 0) ∷ (3, 1) ∷ []
unfolding enter
asked_of_both = refl

-- the promise, the bound and the forecast that it had stay, in whatever minute it is amended, and bind
pub bounds_amended : map bound_of (six_and_four (idle ∷ amended refusal.None 2 3 0 [] ∷ [])).entries ≡ some 10080 ∷ some 10080 ∷ []
unfolding enter
bounds_amended = refl

pub promise_amended : Guarantee Conservative ten (six_and_four (amended refusal.None 2 3 0 [] ∷ idle ∷ idle ∷ [])) → ⊥
unfolding enter
promise_amended g = never _ 2 refl ((g.promises refl _ (there (here refl))).starts refl (omega arith))

pub forecast_amended : Guarantee Easy ten (six_and_four (amended refusal.None 2 3 0 [] ∷ idle ∷ [])) → ⊥
unfolding enter
forecast_amended g = never _ 1 refl ((g.forecasts refl _ 1 (there (here refl)) refl).starts refl (omega arith))

-- one is amended that runs
pub running_amended : Guarantee Conservative ten (six_and_four (amended refusal.None 1 6 0 [] ∷ [])) → ⊥
unfolding enter
running_amended g = strayed [] 1 g.starts

-- ## Jobs that are there when a list begins

abbrev promise_of : Entry → ℕ
promise_of x = x.promise

-- a record with a promise, or with what a record of EASY keeps
abbrev kept : Tenant → State → (ticket start promise end submitted rank forecast : ℕ) → Job
kept h z t s p e i r f = record {
  ticket = t;
  nodes = 1;
  estimate = 60;
  state = z;
  tenant = h;
  least = 0;
  rank = r;
  start = s;
  promise = p;
  end = e;
  submitted = i;
  forecast = f;
}

-- in minute 40 one job runs, one is in cleanup, two wait; then these events
abbrev begun : List Event → Book
begun es =
    let m : Model = record {
      settings = ten;
      clock = 40;
      next = 5;
      jobs =
          kept A Running 1 3 4 0 2 1 1
          ∷ kept B Cleanup 2 9 10 30 5 1 8
          ∷ kept A Waiting 3 0 60 0 7 2 50
          ∷ kept A Waiting 4 0 70 0 8 3 0
          ∷ [];
    } in
    enter_all 10080 12 (beginning m) es

-- document 02, No. 11: "whose stacks count as the lines give them. The promise, bound and forecast that the lines give a waiting stack are kept
-- after": no bound and no forecast is claimed of the first two, which have started
pub fates_begun : map fate_of (begun []).entries ≡ running 3 ∷ cleaning 9 30 ∷ waiting ∷ waiting ∷ []
fates_begun = refl

pub promises_begun : map promise_of (begun []).entries ≡ 4 ∷ 10 ∷ 60 ∷ 70 ∷ []
promises_begun = refl

pub bounds_begun : map bound_of (begun []).entries ≡ none ∷ none ∷ some 20167 ∷ some 30248 ∷ []
unfolding times.longest times.cleanup times.run_time times.hold_time times.unit
bounds_begun = refl

-- a forecast of 0 is none
pub forecasts_begun : map forecast_of (begun []).entries ≡ none ∷ none ∷ some 50 ∷ none ∷ []
forecasts_begun = refl

-- the head has its forecast, and 55 counts no more; the last is given 65 when the head starts
pub forecasts_told : map forecast_of (begun (tells [] 3 55 ∷ tells (3 ∷ []) 4 65 ∷ [])).entries ≡ none ∷ none ∷ some 50 ∷ some 65 ∷ []
unfolding enter
forecasts_told = refl

-- the clock goes on from 40, and who waits counts in r, which is 3 of one that comes in minute 41
pub bounds_told : map bound_of (begun (idle ∷ taken 5 1 0 [] none ∷ [])).entries ≡ none ∷ none ∷ some 20167 ∷ some 30248 ∷ some 30281 ∷ []
unfolding enter times.longest times.cleanup times.run_time times.hold_time times.unit
bounds_told = refl

-- the second, which is B's, gives its node and its place back in minute 42
pub nodes_told : (sum held_nodes (begun (idle ∷ [])).entries ≡ 2) × (sum held_nodes (begun (idle ∷ idle ∷ [])).entries ≡ 1)
unfolding enter
nodes_told = (refl, refl)

pub places_told : (live_jobs B (begun (idle ∷ [])).entries ≡ 1) × (live_jobs B (begun (idle ∷ idle ∷ [])).entries ≡ 0)
unfolding enter
places_told = (refl, refl)
