-- The tests of the `desk` line, of the slots and of the shares together are what `records_accepted` asks.
-- Assumes nothing.
use Rattle.std.specs.Prelude.{◌≡◌, refl, Bool, true, false, ◌&&◌, leb, ltb}
use Rattle.std.proofs.Common.{sym, ap, ◌∙◌}
use Rattle.std.proofs.Math.Bool.{and-true, and-false}
use Rattle.lists.specs.Every.{every, when, every_and, every_keep}
use Rattle.scheduler.specs.declared.Kind.{Kind}
use Rattle.scheduler.specs.declared.Kind.TheVariants.{Conservative, Easy}
use Rattle.scheduler.specs.declared.Settings.{Settings}
use Rattle.scheduler.specs.declared.Job.{Job}
use Rattle.scheduler.specs.declared.Tenant.TheVariants.{A, B}
use Rattle.scheduler.specs.Jobs.{is_waiting, is_holding}
use Rattle.scheduler.specs.Settings.{horizon, until, quota}
use Rattle.scheduler.specs.Table.{live_of}
use Rattle.scheduler.specs.Model.{Model}
use Rattle.checkpoint_rules.specs.Acceptance.{ascending, desk_in_range, record_holds, plan_of, holds_end, ranked, last_minute_holds}
use Rattle.checkpoint_laws.specs.Stages.{own_records, records_accepted}
use Rattle.record_acceptance.specs.Records.{ends_in_time, own_holds, passes}

-- the same tests in another order: of tickets a and t, of the desk line d, of shares x and y, of records r, e and o
another_order : (a t d x y r e o : Bool) → (a && t && d && (x && y) && r && e && o) ≡ (d && (a && (t && r && e && o)) && x && y)
another_order false t false x y r e o = refl
another_order false t true x y r e o = refl
another_order true false false x y r e o = refl
another_order true false true x y r e o = refl
another_order true true false x y r e o = refl
another_order true true true false y r e o = sym (ap (λ (b : Bool). b && y) (and-false (r && e && o)))
another_order true true true true false r e o = sym (and-false (r && e && o && true))
another_order true true true true true r e o = sym (and-true (r && e && o && true) ∙ and-true (r && e && o))

module _ (m : Model) where
  abbrev S : Settings
  S = m.settings

  abbrev in_time : Job → Bool
  in_time j = leb (until S j) (horizon S)

  -- of the test of a record the part on its hold
  holds_end_lem : (k : Kind) → every (ends_in_time k S) m.jobs ≡ every in_time (plan_of k m.jobs)
  holds_end_lem Conservative = refl
  holds_end_lem Easy = sym (every_keep in_time is_holding m.jobs)

  -- and the part that its kind asks
  own_records_lem : (k : Kind) → every (own_holds k S m.clock) m.jobs ≡ own_records k m
  own_records_lem Conservative = refl
  own_records_lem Easy =
      every_and (ranked S m.clock) (λ (j : Job). when (is_waiting j) (last_minute_holds S j)) m.jobs
      ∙ ap (λ (b : Bool). every (ranked S m.clock) m.jobs && b) (sym (every_keep (last_minute_holds S) is_waiting m.jobs))

  abbrev below : Job → Bool
  below j = ltb j.ticket m.next

  abbrev holds : Job → Bool
  holds = record_holds S m.clock

  -- all parts of it
  all_parts : every (passes S m.clock m.next) m.jobs ≡ (every below m.jobs && every holds m.jobs && holds_end m && own_records S.kind m)
  unfolding passes
  all_parts =
      let e = ends_in_time S.kind S in
      let o = own_holds S.kind S m.clock in
      every_and (λ (j : Job). below j && holds j && e j) o m.jobs
      ∙ rw (every_and (λ (j : Job). below j && holds j) e m.jobs, every_and below holds m.jobs, holds_end_lem S.kind, own_records_lem S.kind)

  pub together : records_accepted m
      ≡ (desk_in_range S m.clock m.next
      && (ascending 1 m.jobs && every (passes S m.clock m.next) m.jobs)
      && leb (live_of A m.jobs) (quota S A)
      && leb (live_of B m.jobs) (quota S B))
  unfolding records_accepted
  together =
      rw all_parts
      (another_order (ascending 1 m.jobs) (every below m.jobs) (desk_in_range S m.clock m.next) (leb (live_of A m.jobs) (quota S A))
      (leb (live_of B m.jobs) (quota S B)) (every holds m.jobs) (holds_end m) (own_records S.kind m))
