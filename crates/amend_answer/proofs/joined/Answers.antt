-- `amend_answer::joined` meets its contract: the tickets of the second stand after those of the first.
-- Assumes nothing.
use Rattle.std.specs.Prelude.{◌≡◌, List, ℕ, ◌+◌, ◌≤◌, length}
use Rattle.std.proofs.Common.{arith, ap, sym, ◌∙◌, length-take-le}
use Rattle.std.proofs.Math.Path.{refl}
use Rattle.std.proofs.Math.Seq.{sets, take_all}
use Rattle.std.proofs.lemmas.List.Edits.{sets-eq}
use Rattle.std.proofs.lemmas.Slice.{put_mid-paste}
use borrow.Rule.Slice.PartMut.{put_mid}
use Rattle.amend_answer.specs.BothAnswers.{counts, whole, room, joined_is}
use Rattle.amend_answer.proofs.joined.Goals as goal

write_sets : (a k : ℕ) (xs ys : List ℕ) → length ys ≡ k → a + k ≤ length xs → put_mid a k xs ys ≡ sets xs a ys
write_sets a k xs ys e h =
    rw (sets-eq ys xs a (omega arith), e) (rw (take_all k ys (omega arith)) at (put_mid-paste a k xs ys ys k refl refl (sym e)))

pub overflow_add-count : goal.overflow_add-count
overflow_add-count c = omega (arith, counts c.requires)

pub offset_bounds-list-first : goal.offset_bounds-list-first
offset_bounds-list-first c = omega (arith, counts c.requires)

pub slice_bounds-list-end : goal.slice_bounds-list-end
slice_bounds-list-end c = omega (arith, counts c.requires)

pub returns : goal.returns
returns c =
    let a = c.args in
    let w = c.copy_from_slice.ensures.after in
    let l : length c.copy_from_slice.new.self ≡ a.second.count = ap length w ∙ length-take-le a.second.count a.second.list (room c.requires).1 in
    λ q. joined_is q _ a.second.count refl
    (write_sets a.first.count _ a.first.list _ (omega (arith, l)) (omega (arith, counts c.requires, whole c.requires)) ∙ ap (sets a.first.list a.first.count) w)
