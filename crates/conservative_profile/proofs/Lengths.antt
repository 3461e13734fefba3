-- A profile that a function is handed has 129 places.
-- Assumes nothing.
use mathlib.Core.Path.{◌≡◌, sym, ◌∙◌}
use mathlib.Core.List.{List, map}
use Prim.Native.Nat.{ℕ}
use lib.ListN.{length, length-map}
use denote.Laws.{Is}
use denote.Struct.Declared.{row}
use denote.Struct.Laws as S
use borrow.Author.Rules.{rules}
use Rattle.conservative_profile.specs.declared.Profile.{Profile}
use Rattle.conservative_profile.specs.contracts.Profile as K
use Rattle.conservative_profile.proofs.Profile.TheLaws as K'

length_mapped : (X Y : Type 0) (f : X → Y) (l : List X) (n : ℕ) → length (map f l) ≡ n → length l ≡ n
length_mapped X Y f l n p = sym (length-map l f) ∙ p

pub whole : (p : Profile) → Is (row K.the_type) p (S.vals K.the_type K'.the_laws p) → length p.points ≡ 129
whole p h = search (rules, length_mapped)
