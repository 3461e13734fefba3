-- The limits, each number named once. Document 01: "The limits belong to the desk and are named once, with it."
-- Assumes nothing.
use Rattle.std.specs.Prelude.{Bool, not, ◌||◌, ℕ, ◌+◌, eqb, ltb}
use Rattle.walltime.specs.WallTime as wall
use Rattle.scheduler.specs.declared.Limits.{Limits}

-- "Nodes of a rack: 1 to 1,024."
abbrev pub max_nodes : ℕ
max_nodes = 1024

-- "Minutes of the clock: 0 to 1,000,000, the last minute."
abbrev pub horizon : ℕ
horizon = 1000000

-- "At most 64 stacks are live, running and waiting together."; document 02, No. 4: "the 64 places are divided between them"
abbrev pub slots : ℕ
slots = 64

-- "Estimate of a stack: 1 to 10,080 minutes.", whatever the settings
abbrev pub longest_estimate : ℕ
longest_estimate = wall.longest

-- 2: "`wait` outside 1 to 10,080"
abbrev pub longest_wait : ℕ
longest_wait = 10080

-- document 02, No. 3: "nodes stay taken for clearing minutes, 0 to 30"
abbrev pub longest_cleanup : ℕ
longest_cleanup = 30

-- no job holds its nodes for longer, whatever the settings: the longest run and the longest cleanup
abbrev pub longest_hold : ℕ
longest_hold = 10110

-- "Tickets are numbered upward by one from the first, up to 999,999."
abbrev pub last_ticket : ℕ
last_ticket = 999999

-- the constants of the code are these numbers (Scheduler::limits)
abbrev pub limits : Limits
limits = record {
  nodes = max_nodes;
  horizon = horizon;
  live = slots;
  longest_estimate = longest_estimate;
  longest_wait = longest_wait;
  longest_cleanup = longest_cleanup;
  longest_hold = longest_hold;
  last_ticket = last_ticket;
}

-- 13: "the places do not sum to 64 or one is 0"
abbrev pub misdivided : ℕ → ℕ → Bool
misdivided a b = not (eqb (a + b) slots) || eqb a 0 || eqb b 0

-- x is outside low to high
abbrev pub outside : ℕ → ℕ → ℕ → Bool
outside low high x = ltb x low || ltb high x
