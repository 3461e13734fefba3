-- The tests of reading in the order in which code makes them: first what is asked of the `desk` line, the tickets, the shares and each record by
-- itself; then, with numbers known to be in range, what is asked of the plan and of EASY's queue.
-- Assumes nothing.
use Rattle.std.specs.Prelude.{◌≡◌, refl, Bool, true, false, ◌&&◌}
use Rattle.std.proofs.Common.{ap, subst, sym, ◌∙◌}
use Rattle.lists.specs.Every.{every}
use Rattle.scheduler.specs.declared.Kind.{Kind}
use Rattle.scheduler.specs.declared.Kind.TheVariants.{Conservative, Easy}
use Rattle.scheduler.specs.Model.{Model}
use Rattle.easy_rules.specs.Easy.{queue}
use Rattle.checkpoint_rules.specs.Acceptance.{tickets_hold, desk_in_range, shares_hold, record_holds, minutes_fit, holds_end, promises_hold, is_settled}
use Rattle.checkpoint_rules.specs.Acceptance.{head_heard, others_unheard, ranked, last_minute_holds, bounds_hold, accepted_by, accepted}

-- what a kind asks of each record by itself
abbrev pub own_records : Kind → Model → Bool
own_records Conservative m = every (promises_hold m.clock) m.jobs
own_records Easy m = every (ranked m.settings m.clock) m.jobs && every (last_minute_holds m.settings) (queue m.jobs)

unfoldable pub records_accepted : Model → Bool
records_accepted m =
    tickets_hold m
    && desk_in_range m.settings m.clock m.next
    && shares_hold m
    && every (record_holds m.settings m.clock) m.jobs
    && holds_end m
    && own_records m.settings.kind m

-- what a kind asks of all of them together, besides that every minute fits
abbrev pub own_plan : Kind → Model → Bool
own_plan Conservative m = true
own_plan Easy m = is_settled m && head_heard m && others_unheard m && bounds_hold m

unfoldable pub plan_accepted : Model → Bool
plan_accepted m = minutes_fit m && own_plan m.settings.kind m

and-true : (a : Bool) → (a && true) ≡ a
and-true true = refl
and-true false = refl

and-false : (a : Bool) → (a && false) ≡ false
and-false true = refl
and-false false = refl

-- the tests that both kinds share, and those of one: x of records, y of the plan
apart : (a b c d f g x y z : Bool) → z ≡ (x && y) → (a && b && c && d && f && g && z) ≡ ((a && b && c && d && g && x) && (f && y))
apart false b c d f g x y z e = refl
apart true false c d f g x y z e = refl
apart true true false d f g x y z e = refl
apart true true true false f g x y z e = refl
apart true true true true true true x y z e = e
apart true true true true true false x y z e = refl
apart true true true true false g x y z e = sym (and-false (g && x))

of_easy : (s h o r l b : Bool) → (s && h && o && r && l && b) ≡ ((r && l) && (s && h && o && b))
of_easy true true true r l b = refl
of_easy true true false r l b = sym (and-false (r && l))
of_easy true false o r l b = sym (and-false (r && l))
of_easy false h o r l b = sym (and-false (r && l))

pub accepted_stages : (m : Model) → accepted m ≡ (records_accepted m && plan_accepted m)
unfolding accepted records_accepted plan_accepted accepted_by
accepted_stages m =
    apart (tickets_hold m) (desk_in_range m.settings m.clock m.next) (shares_hold m) (every (record_holds m.settings m.clock) m.jobs) (minutes_fit m) (holds_end m)
    (own_records m.settings.kind m) (own_plan m.settings.kind m) (accepted_by m.settings.kind m) (by m.settings.kind)
  where
    by : (k : Kind) → accepted_by k m ≡ (own_records k m && own_plan k m)
    by Conservative = sym (and-true (every (promises_hold m.clock) m.jobs))
    by Easy =
        of_easy (is_settled m) (head_heard m) (others_unheard m) (every (ranked m.settings m.clock) m.jobs) (every (last_minute_holds m.settings) (queue m.jobs))
        (bounds_hold m)
