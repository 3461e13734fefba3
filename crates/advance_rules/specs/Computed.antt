-- Minutes that pass at once, computed from the definitions, of both kinds: up to what is due, all of them, and refused.
-- Assumes nothing.
use Rattle.std.specs.Prelude.{◌≡◌, refl, List, [], ◌∷◌, ℕ}
use Rattle.std.proofs.Math.Option.{Option, none, some}
use Rattle.spans.specs.Spans as spans
use Rattle.scheduler.specs.declared.Kind.{Kind}
use Rattle.scheduler.specs.declared.Kind.TheVariants.{Conservative, Easy}
use Rattle.scheduler.specs.declared.Refusal.TheVariants as refusal
use Rattle.scheduler.specs.Model.{Model}
use Rattle.scheduler.specs.Answers.{Forecast, verdict, refuse}
use Rattle.scheduler.specs.Settings as times
use Rattle.scheduler.specs.Refusals as refusals
use Rattle.scheduler.specs.Opening.{opening_refusal, opening}
use Rattle.history.specs.Calls.{Call, Rules, submit, tick, unchanged, order, after}
use Rattle.conservative_rules.specs.Conservative as conservative
use Rattle.easy_rules.specs.Easy as easy
use Rattle.advance_rules.specs.Advance.{advances_to, advanced_by, advanced, advance_calls}

-- 10 nodes, which stay taken for 2 minutes after a run
abbrev ten : Kind → (minute : ℕ) → Model
ten k m = opening (record {
  settings = record { kind = k; nodes = 10; cleanup = 2; quota_a = 63; quota_b = 1; longest = 10080 };
  minute = m;
  ticket = 1;
})

-- one runs for 5 minutes, and two wait
abbrev three : List Call
three = submit (order 6 5) ∷ submit (order 8 5) ∷ submit (order 4 10) ∷ []

-- how many minutes have passed, and of the last: the clock, the tickets ended and started, and a new head with its forecast
abbrev gives : Rules → Model → (n : ℕ) → ℕ × ℕ × List ℕ × List ℕ × Option (ℕ × ℕ)
gives R m n = let o = advanced R m n in (advanced_by m n, o.model.clock, o.reply.ended, o.reply.started, heard o.reply.head)
  where
    heard : Option Forecast → Option (ℕ × ℕ)
    heard none = none
    heard (some f) = some (f.ticket, f.minute)

-- the calls that this counts as
abbrev counts : Model → (n : ℕ) → List Call
counts m n = advance_calls (advanced_by m n) (refusals.wait_refusal m n)

-- ## The Promise Desk

abbrev promise : Model
promise = after conservative.call (ten Conservative 0) three

abbrev later : ℕ → Model
later n = (advanced conservative.call promise n).model

-- the first run is over in minute 5 and its nodes are free in 7, in which the next one starts: a minute before nothing is due, and no more minutes pass
-- than up to it, asked for just as many or for more
pub promise_passes : (gives conservative.call promise 4 ≡ (4, 4, [], [], none))
    × (gives conservative.call promise 5 ≡ (5, 5, 1 ∷ [], [], none))
    × (gives conservative.call promise 10080 ≡ (5, 5, 1 ∷ [], [], none))
    × (gives conservative.call (later 5) 1 ≡ (1, 6, [], [], none))
    × (gives conservative.call (later 5) 9 ≡ (2, 7, [], 2 ∷ [], none))
    × (counts promise 9 ≡ tick ∷ tick ∷ tick ∷ tick ∷ tick ∷ [])
unfolding opening_refusal opening verdict times.longest times.cleanup times.run_time times.hold_time times.end_of times.until refusals.tick_refusal refusals.wait_refusal spans.takes spans.last_end spans.fits spans.earliest conservative.planned conservative.submit_refusal conservative.submitted conservative.advanced conservative.ticked conservative.call advances_to advanced_by advanced
promise_passes = (refl, refl, refl, refl, refl, refl)

-- ## The Loose Desk

abbrev loose : Model
loose = after easy.call (ten Easy 0) three

-- in the minute in which nodes are released the head starts, though nobody is over in it
pub loose_passes : (gives easy.call loose 4 ≡ (4, 4, [], [], none))
    × (gives easy.call loose 9 ≡ (5, 5, 1 ∷ [], [], none))
    × (gives easy.call (advanced easy.call loose 9).model 9 ≡ (2, 7, [], 2 ∷ [], some (3, 14)))
unfolding opening_refusal opening verdict times.longest times.cleanup times.run_time times.hold_time times.end_of times.unit times.until refusals.tick_refusal refusals.wait_refusal easy.shadow easy.extra easy.qualifies easy.pick easy.settle easy.forecast easy.finished easy.submit_refusal easy.advanced easy.call advances_to advanced_by advanced
loose_passes = (refl, refl, refl)

-- ## Refused, as a wait of so many minutes: then no minute passes, and nothing changes

abbrev last_minutes : Model
last_minutes = ten Conservative 999997

pub refuses : (advanced conservative.call promise 0 ≡ refuse promise refusal.MinutesOutOfRange)
    × (advanced conservative.call promise 10081 ≡ refuse promise refusal.MinutesOutOfRange)
    × (advanced conservative.call last_minutes 4 ≡ refuse last_minutes refusal.PastHorizon)
    × (advanced_by last_minutes 4 ≡ 0)
    × (counts last_minutes 4 ≡ unchanged refusal.PastHorizon ∷ [])
    × (gives conservative.call last_minutes 3 ≡ (3, 1000000, [], [], none))
unfolding opening_refusal opening verdict times.longest times.cleanup times.run_time times.hold_time times.end_of times.until refusals.tick_refusal refusals.wait_refusal spans.takes spans.last_end spans.fits spans.earliest conservative.planned conservative.submit_refusal conservative.submitted conservative.advanced conservative.ticked conservative.call advances_to advanced_by advanced
refuses = (refl, refl, refl, refl, refl, refl)
