-- A list of blocks in the array that holds it, and the index in two lists, copied block after block.
-- Assumes nothing.
use Prim.Native.Nat.{ℕ, zero, suc, ◌+◌, ◌<◌}
use Rattle.std.proofs.Common.{arith, add-one, ◌∙◌}
use Rattle.std.specs.Prelude.{◌≡◌, length}
use Rattle.std.proofs.Math.Path.{refl, sym, ap}
use mathlib.Core.List.{List, [], ◌∷◌}
use Rattle.std.proofs.Math.ListN.{get_or, set, length-append}
use Rattle.lists.specs.Pads.{pad, pad_push}
use Rattle.spans.specs.declared.Block.{Block}
use Rattle.conservative_index.specs.declared.Blocks.{Blocks}
use Rattle.conservative_index.specs.BuiltIndex.{held}

-- 129 points have 9 blocks
abbrev pub block_places : ℕ
block_places = 9

-- a place past the count
abbrev pub no_block : Block
no_block = record { fewest = 0; most = 0 }

unfoldable pub stored_blocks : List Block → Blocks
stored_blocks bs = record { count = length bs; list = pad block_places no_block bs }

module _ (lo hi : List ℕ) where
  length_held : (b : ℕ) → length (held lo hi b) ≡ b
  unfolding held
  length_held zero = refl
  length_held (suc b) = length-append (held lo hi b) (record { fewest = get_or lo b 0; most = get_or hi b 0 } ∷ []) ∙ omega (arith, length_held b)

  pub blocks_none : pad block_places no_block [] ≡ pad block_places no_block (held lo hi 0)
  unfolding held
  blocks_none = refl

  pub blocks_more : (bs : List Block) (i : ℕ) → bs ≡ pad block_places no_block (held lo hi i) → i < block_places
      → set bs i (record { fewest = get_or lo i 0; most = get_or hi i 0 }) ≡ pad block_places no_block (held lo hi (i + 1))
  unfolding held
  blocks_more bs i e l =
      let x : Block = record { fewest = get_or lo i 0; most = get_or hi i 0 } in
      ap (λ (cs : List Block). set cs i x) e
      ∙ pad_push block_places no_block (held lo hi i) x i (length_held i) l
      ∙ ap (λ (k : ℕ). pad block_places no_block (held lo hi k)) (sym (add-one i))

  pub blocks_all : (bs : List Block) (n : ℕ) → bs ≡ pad block_places no_block (held lo hi n) → record { count = n; list = bs } ≡ stored_blocks (held lo hi n)
  unfolding stored_blocks
  blocks_all bs n e = λ j. record { count = sym (length_held n) j; list = e j }
