-- `checkpoint_writing::put_text` meets its contract: the lines of the slots passed are written.
-- Assumes nothing.
use mathlib.Core.Path.{◌≡◌, sym}
use mathlib.Core.List.{◌++◌}
use Prim.Native.Nat.{ℕ, ◌+◌, ◌≤◌, ◌<◌}
use native.Mathlib.Omega.{arith}
use lib.ListN.{length, get_or, take}
use Rattle.text.specs.WrittenBytes.{wrote_none, same_size, room_after, and_then, with_room}
use Rattle.scheduler.specs.declared.Scheduler.{Scheduler}
use Rattle.scheduler.specs.Jobs.{unused}
use Rattle.scheduler.specs.Model.{view}
use Rattle.checkpoint_rules.specs.Texts.{desk_text}
use Rattle.jobs.specs.Slots.{slots_all}
use Rattle.jobs.specs.Premise.{holds_as}
use Rattle.jobs.specs.Soundness.{Sound}
use Rattle.guarantees.specs.Premise.{Valid, Premise, valid_sound}
use Rattle.checkpoint_writing.specs.TextParts.{desk_line_of, slot_text, slot_texts, texts_none, texts_more, texts_done, whole_text}
use Rattle.checkpoint_writing.proofs.put_text.Goals as goal

all_slots : {d : Scheduler} → Premise d → length d.jobs ≡ 64
all_slots {d} h = slots_all d (holds_as Valid Sound d valid_sound h)

more : {d : Scheduler} → Premise d → (i : ℕ) → i < 64 → slot_texts (take (i + 1) d.jobs) ≡ slot_texts (take i d.jobs) ++ slot_text (get_or d.jobs i unused)
more {d} h i l = texts_more d.jobs i (omega (arith, all_slots h))

done : {d : Scheduler} → Premise d → (i : ℕ) → 64 ≤ i → slot_texts (take i d.jobs) ≡ slot_texts d.jobs
done {d} h i l = texts_done d.jobs i (omega (arith, all_slots h))

text_of : {d : Scheduler} → Premise d → desk_line_of d.settings d.clock d.next ++ slot_texts d.jobs ≡ desk_text (view d)
text_of {d} h = whole_text d

pub loop-j-init : goal.loop-j-init
loop-j-init c = record { low = omega arith; written = rw (texts_none _) (wrote_none _ _ _) }

pub put_slot-at-requires : goal.put_slot-at-requires
put_slot-at-requires c =
    room_after (and_then c.put_desk-at.ensures c.loop-j.invariant.written) 114 (omega (arith, c.requires.1))

pub loop-j-preserved : goal.loop-j-preserved
loop-j-preserved c =
    record {
      low = omega arith;
      written =
          rw (more c.requires.0 c.loop-j.j-index (omega arith))
          (with_room (and_then c.loop-j.invariant.written c.put_slot-at.ensures) _ (omega arith));
    }

pub shape_of-page : goal.shape_of-page
shape_of-page c =
    same_size (and_then c.put_desk-at.ensures c.loop-j.invariant.written)

pub returns : goal.returns
returns c =
    let all = done c.requires.0 c.loop-j.j-index (omega arith) in
    rw (sym (text_of c.requires.0)) (with_room (and_then c.put_desk-at.ensures (rw all at c.loop-j.invariant.written)) _ (omega (arith, c.loop-j.invariant.low)))
