-- What is asked of one record by itself, whatever the kind and by its kind, in the order in which code tests it.
-- Assumes nothing.
use Rattle.std.specs.Prelude.{Bool, true, ◌&&◌, ℕ, leb, ltb}
use Rattle.lists.specs.Every.{when}
use Rattle.scheduler.specs.declared.Kind.{Kind}
use Rattle.scheduler.specs.declared.Kind.TheVariants.{Conservative, Easy}
use Rattle.scheduler.specs.declared.Settings.{Settings}
use Rattle.scheduler.specs.declared.Job.{Job}
use Rattle.scheduler.specs.Jobs.{is_waiting, is_holding}
use Rattle.scheduler.specs.Settings.{horizon, until}
use Rattle.checkpoint_rules.specs.Acceptance.{promises_hold, ranked, last_minute_holds, record_holds}

-- whether a hold is planned or under way: `plan_of` has these
abbrev pub planned : Kind → Job → Bool
planned Conservative j = true
planned Easy j = is_holding j

-- its hold, where there is one, ends by the last minute: `holds_end` of one record
abbrev pub ends_in_time : Kind → Settings → Job → Bool
ends_in_time k S j = when (planned k j) (leb (until S j) (horizon S))

-- what EASY asks of a record by itself
abbrev pub bounded_holds : Settings → (now : ℕ) → Job → Bool
bounded_holds S now j = ranked S now j && when (is_waiting j) (last_minute_holds S j)

-- what its kind asks: `own_records` of one record
abbrev pub own_holds : Kind → Settings → (now : ℕ) → Job → Bool
own_holds Conservative S now j = promises_hold now j
own_holds Easy S now j = bounded_holds S now j

-- all that is asked of a record, with its ticket below the next
unfoldable pub passes : Settings → (now next : ℕ) → Job → Bool
passes S now next j = ltb j.ticket next && record_holds S now j && ends_in_time S.kind S j && own_holds S.kind S now j
