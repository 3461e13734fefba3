-- What a call for the index answers a host, and leaves in the list lent to it. Document 02, No. 5: "for each block of 16 points, the fewest and
-- the most free nodes".
-- Assumes nothing.
use Rattle.std.specs.Prelude.{◌≡◌, refl, List, ◌++◌, ℕ, ◌≤◌, ◌-◌, length, get_or, drop, replicate}
use Rattle.std.proofs.Common.{sym, ap, subst, ◌∙◌}
use Rattle.lists.specs.Pads.{pad}
use Rattle.spans.specs.declared.Block as spans-block
use Rattle.scheduler.specs.declared.Scheduler.{Scheduler}
use Rattle.scheduler.specs.Model.{view}
use Rattle.conservative_index.specs.StoredIndex.{block_places, no_block}
use Rattle.calls.specs.declared.Listing as calls-listing
use Rattle.calls.specs.ListCall.{written, listing}
use Rattle.calls.specs.IndexCall.{blocks_of, index_outcome}
use Rattle.lent_lemmas.specs.Lists.{tabulate}
use Rattle.lent_calls.specs.IndexContract.{blocks_fits, blocks_few}
use Rattle.hingerota.specs.declared.Desk.{Desk}
use Rattle.hingerota.specs.declared.Block.{Block}
use Rattle.hingerota.specs.declared.Shown.{Shown}
use Rattle.hingerota.specs.declared.Listing.{Listing}
use Rattle.hingerota.specs.Mirror.{read}
use Rattle.hingerota.specs.DeskPremise.{Handed}
use Rattle.hingerota.specs.ListContract.{mirror_listing, HostShows, tabulate_front, shows_by}

abbrev pub mirror_block : spans-block.Block → Block
mirror_block p = record { fewest = p.fewest; most = p.most }

-- what is read of it is the block
pub block_back : (p : spans-block.Block) → ◌≡◌ {A = spans-block.Block} (record { fewest = (mirror_block p).fewest; most = (mirror_block p).most }) p
block_back p = refl

abbrev pub HostShowsBlocks : Desk → (lent : List Block) → Shown → (after : List Block) → Type 0
HostShowsBlocks d lent a after = HostShows blocks_of mirror_block d lent a after

-- ## By value

abbrev pub mirror_index_outcome : calls-listing.Listing spans-block.Block block_places → Listing spans-block.Block block_places
mirror_index_outcome p = mirror_listing p

abbrev pub blocks_in : Desk → ℕ → Listing spans-block.Block block_places
blocks_in d room = mirror_index_outcome (index_outcome (view (read d)) room)

abbrev pub block_at : Listing spans-block.Block block_places → ℕ → Block
block_at p i = mirror_block (get_or p.items i no_block)

pub blocks_given : (d : Desk) (room : ℕ) (s : Scheduler) (p : calls-listing.Listing spans-block.Block block_places) (r : Listing spans-block.Block block_places) → s ≡ read d → p ≡ index_outcome (view s) room
    → r ≡ mirror_index_outcome p → r ≡ blocks_in d room
blocks_given d room s p r e f g = g ∙ ap mirror_index_outcome (f ∙ ap (λ (x : Scheduler). index_outcome (view x) room) e)

-- ## Written into the list

pub blocks_written : (d : Desk) (lent : List Block) (p : Listing spans-block.Block block_places) → p ≡ blocks_in d (length lent)
    → HostShowsBlocks d lent p.answer (tabulate p.count (block_at p) ++ drop p.count lent)
unfolding listing pad
blocks_written d lent p e =
    let xs = written blocks_of (view (read d)) (length lent) in
    subst (λ (q : Listing spans-block.Block block_places). HostShowsBlocks d lent q.answer (tabulate q.count (block_at q) ++ drop q.count lent)) (sym e)
    (shows_by blocks_of mirror_block d lent (block_at (blocks_in d (length lent))) (tabulate_front mirror_block no_block xs (replicate (block_places - length xs) no_block)))

pub host_blocks_fits : (d : Desk) (room : ℕ) (p : Listing spans-block.Block block_places) → p ≡ blocks_in d room → p.count ≤ room
host_blocks_fits d room p e = subst (λ (q : Listing spans-block.Block block_places). q.count ≤ room) (sym e) (blocks_fits (read d) room (index_outcome (view (read d)) room) refl)

pub host_blocks_few : (d : Desk) (room : ℕ) (p : Listing spans-block.Block block_places) → Handed d → p ≡ blocks_in d room → p.count ≤ block_places
host_blocks_few d room p h e =
    subst (λ (q : Listing spans-block.Block block_places). q.count ≤ block_places) (sym e) (blocks_few (read d) room (index_outcome (view (read d)) room) h.premise refl).0
