-- What a call for the index gives, by the kind of the scheduler. Document 02, No. 5: "for each block of 16 points, the fewest and the most
-- free nodes".
-- Assumes nothing.
use Rattle.std.specs.Prelude.{◌≡◌, List, [], ℕ, ◌≤◌, ◌<◌, ltb, length}
use Rattle.std.proofs.Common.{arith}
use borrow.Author.Tests.{le-ltb}
use Rattle.lists.specs.Tests.{case}
use Rattle.spans.specs.declared.Block.{Block}
use Rattle.spans.specs.Index.{index}
use Rattle.scheduler.specs.declared.Kind.TheVariants.{Conservative, Easy}
use Rattle.scheduler.specs.declared.Refusal.{Refusal}
use Rattle.scheduler.specs.declared.Refusal.TheVariants as refusal
use Rattle.scheduler.specs.declared.Scheduler.{Scheduler}
use Rattle.scheduler.specs.Model.{Model, view}
use Rattle.scheduler.specs.Answers.{verdict}
use Rattle.conservative_index.specs.declared.Blocks.{Blocks}
use Rattle.conservative_index.specs.StoredIndex.{block_places, no_block, stored_blocks}
use Rattle.conservative_rules.specs.Conservative.{points}
use Rattle.calls.specs.declared.Listing.{Listing}
use Rattle.calls.specs.ListCall.{list_refusal, written, listing, listed_in, none_listed, all_listed, item_at, of_conservative, items_of}

-- the index of a conservative scheduler's profile
abbrev pub indexed : Model → List Block
indexed m = index (points m)

-- of a scheduler of either kind
abbrev pub blocks_of : Model → List Block
blocks_of m = of_conservative indexed m

-- a refusal and the blocks that are written
abbrev pub indexing : Refusal → List Block → Listing Block block_places
indexing r bs = listing block_places no_block r bs

abbrev pub index_outcome : Model → ℕ → Listing Block block_places
index_outcome m room = indexing (list_refusal blocks_of m room) (written blocks_of m room)

-- in a place, and all zero past the last one
abbrev pub block_at : Listing Block block_places → ℕ → Block
block_at p i = item_at p no_block i

-- ## What the code computes

-- all the blocks of an index, or a refusal
abbrev pub index_in : Blocks → ℕ → Listing Block block_places
index_in p room = listed_in block_places no_block p.list p.count room

pub no_blocks_room : (p : Blocks) (room : ℕ) → room < p.count → indexing refusal.TooShort [] ≡ index_in p room
no_blocks_room p room h = none_listed block_places no_block p.list p.count room h

pub all_blocks : (p : Blocks) (room : ℕ) → p.count ≤ room
    → ◌≡◌ {A = Listing Block block_places} (record { count = p.count; answer = record { refusal = refusal.None; count = p.count }; items = p.list }) (index_in p room)
all_blocks p room h = all_listed block_places no_block p.list p.count room h

module _ (d : Scheduler) (room : ℕ) where
  pub index_conservative : d.settings.kind ≡ Conservative → index_in (stored_blocks (indexed (view d))) room ≡ index_outcome (view d) room
  unfolding listed_in listing stored_blocks written verdict
  index_conservative e = rw (items_of indexed d Conservative e) (case (ltb room (length (indexed (view d)))) (λ q. rw q) (λ q. rw q))

  pub index_easy : d.settings.kind ≡ Easy → indexing refusal.None [] ≡ index_outcome (view d) room
  unfolding written verdict
  index_easy e = rw (items_of indexed d Easy e, le-ltb room 0 (omega arith))
