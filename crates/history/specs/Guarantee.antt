-- The guarantees (document 01: "demand 3"), of a book.
-- Assumes nothing.
use Rattle.std.specs.Prelude.{◌≡◌, Bool, true, ◌&&◌, ◌||◌, List, [], ℕ, ◌≤◌, ◌<◌}
use Rattle.std.proofs.Math.Option.{none, some}
use Rattle.lists.specs.Tests.{on}
use Rattle.lists.specs.Lists.{sum, In}
use Rattle.scheduler.specs.declared.Kind.{Kind}
use Rattle.scheduler.specs.declared.Kind.TheVariants.{Conservative, Easy}
use Rattle.scheduler.specs.declared.Settings.{Settings}
use Rattle.scheduler.specs.declared.Tenant.{Tenant}
use Rattle.scheduler.specs.Tenants.{same_tenant}
use Rattle.scheduler.specs.Settings.{quota}
use Rattle.history.specs.Book.{Entry, Book, waits, holds, start, withdrawal, is_waiting, head_of}

-- it has started, no later than b
pub record StartedBy (x : Entry) (b : ℕ) : Type 0 where
  pub minute : ℕ
  pub started : start x.fate ≡ some minute
  pub by : minute ≤ b

-- Once the clock has reached d, a job that is not withdrawn has started by d. A job that is withdrawn was withdrawn before d, when it was not yet
-- due.
pub record Kept (clock : ℕ) (x : Entry) (d : ℕ) : Type 0 where
  pub starts : withdrawal x.fate ≡ none → d ≤ clock → StartedBy x d
  pub before : (w : ℕ) → withdrawal x.fate ≡ some w → w < d

-- the nodes that a job holds
abbrev pub held_nodes : Entry → ℕ
held_nodes x = on (holds x.fate) x.nodes

-- document 02, No. 4: whether it is live and its house's, by the calls and their answers: it waits, runs, or has ended for fewer minutes than the
-- cleanup
abbrev pub counts : Tenant → Entry → Bool
counts t x = (waits x.fate || holds x.fate) && same_tenant x.tenant t

abbrev pub live_jobs : Tenant → List Entry → ℕ
live_jobs t xs = sum (λ (x : Entry). on (counts t x) 1) xs

pub record Guarantee (kind : Kind) (S : Settings) (b : Book) : Type 0 where
  -- on the Promise Desk, once the clock has reached its promise, a job has started, no later than promised
  pub promises : kind ≡ Conservative → (x : Entry) → In x b.entries → Kept b.clock x x.promise
  -- on the Loose Desk, once the clock has reached its bound, it has started within it
  pub bounds : kind ≡ Easy → (x : Entry) (d : ℕ) → In x b.entries → x.bound ≡ some d → Kept b.clock x d
  -- and once the clock has reached its forecast, it has started no later
  pub forecasts : kind ≡ Easy → (x : Entry) (f : ℕ) → In x b.entries → x.forecast ≡ some f → Kept b.clock x f
  -- and every head hears a forecast
  pub heads : kind ≡ Easy → (x : Entry) → In x b.entries → is_waiting x ≡ true → head_of b.entries ≡ some x.ticket → (f : ℕ) × (x.forecast ≡ some f)
  -- on both, only jobs that wait start or are withdrawn: none that was withdrawn starts, and none that has started is withdrawn
  pub starts : b.strays ≡ []
  -- on both, running jobs together hold at most the machine's nodes
  pub within : sum held_nodes b.entries ≤ S.nodes
  -- on both, no tenant has more live jobs than its quota
  pub shares : (t : Tenant) → live_jobs t b.entries ≤ quota S t
