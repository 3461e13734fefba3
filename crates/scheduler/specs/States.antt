-- The states of a job, and what each says of it.
-- Assumes nothing.
use Rattle.std.specs.Prelude.{Bool, true, false}
use Rattle.scheduler.specs.declared.State.{State}
use Rattle.scheduler.specs.declared.State.TheVariants.{Unused, Waiting, Running, Cleanup}

-- document 02, No. 3: "A clearing stack still counts as live"
abbrev pub live? : State → Bool
live? Unused = false
live? Waiting = true
live? Running = true
live? Cleanup = true

abbrev pub waiting? : State → Bool
waiting? Unused = false
waiting? Waiting = true
waiting? Running = false
waiting? Cleanup = false

abbrev pub running? : State → Bool
running? Unused = false
running? Waiting = false
running? Running = true
running? Cleanup = false

-- its run has ended, and its nodes are not free yet
abbrev pub cleaning? : State → Bool
cleaning? Unused = false
cleaning? Waiting = false
cleaning? Running = false
cleaning? Cleanup = true

-- whether its nodes are taken now
abbrev pub holding? : State → Bool
holding? Unused = false
holding? Waiting = false
holding? Running = true
holding? Cleanup = true
