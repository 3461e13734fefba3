-- Which models are accepted when they are read back. Document 02, No. 11: "A desk read back is tested, where document 01 asked only that calls had
-- made it. Reading accepts if .." One definition for each of its sentences, in their order.
-- Assumes nothing.
use Rattle.std.specs.Prelude.{Bool, true, false, not, ◌&&◌, ◌||◌, List, [], ◌∷◌, ℕ, suc, ◌+◌, ◌*◌, leb, ltb, eqb}
use Rattle.std.proofs.Math.Option.{Option, none, some}
use Rattle.lists.specs.Tests.{on}
use Rattle.lists.specs.Lists.{keep, sum}
use Rattle.lists.specs.Every.{every, when}
use Rattle.spans.specs.EveryMinute.{fits_every}
use Rattle.scheduler.specs.declared.Kind.{Kind}
use Rattle.scheduler.specs.declared.Kind.TheVariants.{Conservative, Easy}
use Rattle.scheduler.specs.declared.Job.{Job}
use Rattle.scheduler.specs.declared.Settings.{Settings}
use Rattle.scheduler.specs.declared.Tenant.TheVariants.{A, B}
use Rattle.scheduler.specs.Limits.{max_nodes, longest_cleanup, last_ticket, misdivided}
use Rattle.scheduler.specs.Tenants.{known}
use Rattle.scheduler.specs.Jobs.{is_waiting, is_running, is_cleaning, is_holding}
use Rattle.scheduler.specs.Settings.{horizon, slots, quota, longest, hold_time, unit, end_of, until, bound_of}
use Rattle.scheduler.specs.Table.{live_of}
use Rattle.scheduler.specs.Model.{Model}
use Rattle.conservative_rules.specs.Conservative.{spans}
use Rattle.easy_rules.specs.Easy.{queue, head, shadow, choice, on_choice}

abbrev pub in_range : (low high x : ℕ) → Bool
in_range low high x = leb low x && leb x high

-- "tickets ascend and lie below the next"; and from 1 on, as all numbers are in range
abbrev pub ascending : (low : ℕ) → List Job → Bool
ascending low [] = true
ascending low (j ∷ js) = leb low j.ticket && ascending (suc j.ticket) js

abbrev pub tickets_hold : Model → Bool
tickets_hold m = ascending 1 m.jobs && every (λ (j : Job). ltb j.ticket m.next) m.jobs

-- "all numbers, houses and shares are in range": of the `desk` line, whose next ticket may be 1,000,000
unfoldable pub desk_in_range : Settings → (clock next : ℕ) → Bool
desk_in_range S clock next =
    in_range 1 max_nodes S.nodes
    && leb clock (horizon S)
    && in_range 1 (suc last_ticket) next
    && leb S.cleanup longest_cleanup
    && not (misdivided S.quota_a S.quota_b)

-- and of a record: minutes are those of the clock
unfoldable pub job_in_range : Settings → Job → Bool
job_in_range S j =
    in_range 1 S.nodes j.nodes
    && in_range 1 (longest S) j.estimate
    && leb j.start (horizon S)
    && leb j.promise (horizon S)
    && leb j.end (horizon S)
    && known j.tenant
    && leb j.submitted (horizon S)
    && leb j.forecast (horizon S)

-- "no house has more live than its places"
abbrev pub shares_hold : Model → Bool
shares_hold m = leb (live_of A m.jobs) (quota m.settings A) && leb (live_of B m.jobs) (quota m.settings B)

-- "least not above most"
abbrev pub least_holds : Job → Bool
least_holds j = leb j.least j.estimate

-- "values a record lacks 0": the end of one that is not in cleanup; intake minute, r and forecast on the Promise Desk; the promise, and a waiting
-- one's start, on the Loose Desk
abbrev pub lacking : Kind → Job → Bool
lacking Conservative j = eqb j.submitted 0 && eqb j.rank 0 && eqb j.forecast 0
lacking Easy j = eqb j.promise 0 && when (is_waiting j) (eqb j.start 0)

unfoldable pub lacks_zero : Kind → Job → Bool
lacks_zero k j = when (not (is_cleaning j)) (eqb j.end 0) && lacking k j

-- "running stacks started by now and end after it"
abbrev pub runs_now : Settings → ℕ → Job → Bool
runs_now S now j = when (is_running j) (leb j.start now && ltb now (end_of S j))

-- "clearing ones started, then ended, by now and still hold nodes"
abbrev pub cleans_now : Settings → ℕ → Job → Bool
cleans_now S now j = when (is_cleaning j) (leb j.start j.end && leb j.end now && ltb now (until S j))

-- "every minute fits the rack; every hold ends by the last minute": of the holds that are planned or under way. A waiting job of EASY has none.
abbrev pub plan_of : Kind → List Job → List Job
plan_of Conservative js = js
plan_of Easy js = keep is_holding js

unfoldable pub minutes_fit : Model → Bool
minutes_fit m = fits_every m.settings.nodes (spans m.settings (plan_of m.settings.kind m.jobs)) m.clock

abbrev pub holds_end : Model → Bool
holds_end m = every (λ (j : Job). leb (until m.settings j) (horizon m.settings)) (plan_of m.settings.kind m.jobs)

-- "Promise Desk starts lie by their promises, waiting ones after now"
abbrev pub promises_hold : ℕ → Job → Bool
promises_hold now j = leb j.start j.promise && when (is_waiting j) (ltb now j.start)

-- "a Loose Desk is settled": no job can start
abbrev pub is_settled : Model → Bool
is_settled m = on_choice (choice m) true (λ j. false)

-- "with its head's forecast not before the present shadow"
abbrev pub head_heard : Model → Bool
head_heard m = on_choice (head m) true (λ h. leb (shadow m h.nodes) h.forecast)

-- "no other waiting one having any"
abbrev pub behind : List Job → List Job
behind [] = []
behind (h ∷ later) = later

abbrev pub others_unheard : Model → Bool
others_unheard m = every (λ (j : Job). eqb j.forecast 0) (behind (queue m.jobs))

-- "Loose records now keep intake minute, not after now, r at intake, 1 to 64"
abbrev pub ranked : Settings → (now : ℕ) → Job → Bool
ranked S now j = leb j.submitted now && in_range 1 (slots S) j.rank

-- "Each waiting one's last-minute rule must hold"
abbrev pub last_minute_holds : Settings → Job → Bool
last_minute_holds S j = leb (bound_of S j + hold_time S j.estimate) (horizon S)

-- "shadow plus (10,080 + clearing) × the number waiting before it must not pass its bound"
abbrev pub waiting_before : ℕ → List Job → ℕ
waiting_before u js = sum (λ (j : Job). on (is_waiting j && ltb j.ticket u) 1) js

abbrev pub bound_holds : Model → Job → Job → Bool
bound_holds m h j = leb (shadow m h.nodes + waiting_before j.ticket m.jobs * unit m.settings) (bound_of m.settings j)

abbrev pub bounds_hold : Model → Bool
bounds_hold m = on_choice (head m) true (λ h. every (bound_holds m h) (queue m.jobs))

-- what is asked of each kind alone
unfoldable pub accepted_by : Kind → Model → Bool
accepted_by Conservative m = every (promises_hold m.clock) m.jobs
accepted_by Easy m =
    is_settled m
    && head_heard m
    && others_unheard m
    && every (ranked m.settings m.clock) m.jobs
    && every (last_minute_holds m.settings) (queue m.jobs)
    && bounds_hold m

-- and of every record
unfoldable pub record_holds : Settings → (now : ℕ) → Job → Bool
record_holds S now j =
    job_in_range S j
    && least_holds j
    && lacks_zero S.kind j
    && runs_now S now j
    && cleans_now S now j

-- 23: "one of these conditions is broken"
unfoldable pub accepted : Model → Bool
accepted m =
    tickets_hold m
    && desk_in_range m.settings m.clock m.next
    && shares_hold m
    && every (record_holds m.settings m.clock) m.jobs
    && minutes_fit m
    && holds_end m
    && accepted_by m.settings.kind m
