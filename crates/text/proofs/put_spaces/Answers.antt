-- `text::put_spaces` meets its contract: a part is filled.
-- Assumes nothing.
use mathlib.Core.Path.{◌≡◌, ap, ◌∙◌}
use Prim.Native.Nat.{ℕ, ◌+◌, ◌-◌}
use native.Mathlib.Omega.{arith}
use lib.ListN.{length, replicate, length-replicate, drop, length-drop}
use lib.Seq.{length-take-le}
use Rattle.std.specs.Prelude.{take}
use Rattle.text.specs.RightSet.{space}
use Rattle.text.specs.WriterLaws.{put_sets}
use Rattle.text.proofs.put_spaces.Goals as goal

pub returns : goal.returns
returns c =
    let a = c.args in
    let size = length-replicate a.count space in
    let part : length (take (a.at + a.count - a.at) (drop a.at a.out.now)) ≡ a.count =
    omega (arith, length-take-le (a.at + a.count - a.at) (drop a.at a.out.now) (omega (arith, length-drop a.at a.out.now))) in
    let filled : c.fill.new.self ≡ replicate a.count space =
    c.fill.ensures.after (λ y h. h) ∙ ap (λ (n : ℕ). replicate n space) part in
    record {
      place = omega arith;
      left = put_sets a.at _ a.out.now _ _ filled (omega arith) (omega (arith, c.requires));
      few = omega arith;
    }
