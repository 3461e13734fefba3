-- What a call for the index leaves in the list lent to it. Document 02, No. 5: "for each block of 16 points, the fewest and the most free
-- nodes".
-- Assumes nothing.
use Rattle.std.specs.Prelude.{◌≡◌, List, [], ◌∷◌, ◌++◌, ℕ, ◌-◌, ◌≤◌, zero, suc, length, take, drop, replicate}
use Rattle.std.proofs.Common.{sym, ap, subst, arith, length-append, ◌∙◌}
use Rattle.std.proofs.Math.Path.{refl}
use Rattle.lists.specs.Pads.{pad}
use Rattle.spans.specs.declared.Block.{Block}
use Rattle.spans.specs.Index as spans-index
use Rattle.scheduler.specs.declared.Kind.{Kind}
use Rattle.scheduler.specs.declared.Kind.TheVariants.{Conservative, Easy}
use Rattle.scheduler.specs.declared.Scheduler.{Scheduler}
use Rattle.scheduler.specs.Model.{Model, view}
use Rattle.conservative_rules.specs.Conservative.{points}
use Rattle.conservative_laws.specs.Sentences.{few_points}
use Rattle.guarantees.specs.Premise.{ValidBy, Premise}
use Rattle.conservative_index.specs.StoredIndex.{block_places, no_block}
use Rattle.calls.specs.declared.Shown.{Shown}
use Rattle.calls.specs.declared.Listing.{Listing}
use Rattle.calls.specs.ListCall.{over, written, Shows, listing, items_by, written_fit}
use Rattle.calls.specs.IndexCall.{indexed, blocks_of, index_outcome, block_at}
use Rattle.lent_lemmas.specs.Lists.{tabulate}
use Rattle.lent_calls.specs.ListContract.{tabulate_front, shows_by, listed_over, listed_fits}

abbrev pub ShowsBlocks : Scheduler → (lent : List Block) → Shown → (after : List Block) → Type 0
ShowsBlocks d lent a after = Shows blocks_of d lent a after

-- what the call by value gives, written into the list
pub blocks_given : (d : Scheduler) (lent : List Block) (p : Listing Block block_places) → p ≡ index_outcome (view d) (length lent)
    → ShowsBlocks d lent p.answer (tabulate p.count (block_at p) ++ drop p.count lent)
unfolding listing pad
blocks_given d lent p e =
    let xs = written blocks_of (view d) (length lent) in
    subst (λ (q : Listing Block block_places). ShowsBlocks d lent q.answer (tabulate q.count (block_at q) ++ drop q.count lent)) (sym e)
    (shows_by blocks_of d lent (block_at (index_outcome (view d) (length lent))) (tabulate_front no_block xs (replicate (block_places - length xs) no_block)))

pub blocks_fits : (d : Scheduler) (room : ℕ) (p : Listing Block block_places) → p ≡ index_outcome (view d) room → p.count ≤ room
unfolding listing
blocks_fits d room p e = omega (arith, ap (λ (q : Listing Block block_places). q.count) e, written_fit blocks_of (view d) room)

blocks_long : (g : ℕ → ℕ) (n b : ℕ) → length (spans-index.blocks_of g n b) ≡ b
unfolding spans-index.blocks_of
blocks_long g n zero = refl
blocks_long g n (suc b) =
    let x : Block = record { fewest = spans-index.block_fewest g n b; most = spans-index.block_most g n b } in
    length-append (spans-index.blocks_of g n b) (x ∷ []) ∙ omega (arith, blocks_long g n b)

few_by : (k : Kind) (m : Model) → ValidBy k m → length (items_by indexed k m) ≤ block_places
few_by Conservative m v =
    let n = length (points m) in
    omega (arith, few_points m v, blocks_long (spans-index.free_at (points m)) n (spans-index.blocks n))
few_by Easy m v = omega arith

-- what `write_to` asks and gives
pub blocks_few : (d : Scheduler) (room : ℕ) (p : Listing Block block_places) → Premise d → p ≡ index_outcome (view d) room → (p.count ≤ block_places) × (p.count ≤ room)
blocks_few d room p h e = ((listed_fits block_places no_block blocks_of d room p (few_by (view d).settings.kind (view d) h.holds) e).0, blocks_fits d room p e)

pub blocks_shown : (d : Scheduler) (lent : List Block) (p : Listing Block block_places) → p ≡ index_outcome (view d) (length lent)
    → ShowsBlocks d lent p.answer (over (take p.count p.items) lent)
blocks_shown d lent p e =
    subst (ShowsBlocks d lent p.answer) (listed_over block_places no_block blocks_of d (length lent) lent p e) (blocks_given d lent p e)
