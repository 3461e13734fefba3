-- `why_writing::put_sentences` meets its contract: the sentences of the slots passed are written.
-- Assumes nothing.
use mathlib.Core.List.{flat_map}
use lib.ListN.{take}
use Rattle.scheduler.specs.Model.{view}
use Rattle.why_writing.specs.ExactText.{Writes}
use Rattle.why_writing.specs.ListedText.{slot_text}
use Rattle.why_writing.proofs.put_sentences.Given as goal

abbrev pub invariant-loop-j : goal.invariant-loop-j
invariant-loop-j l =
    Writes l.initial.page 0 (flat_map (slot_text l.tickets l.plan.held l.plan.froms l.plan.untils l.plan.count) (take l.j-index (view l.fn.d).jobs)) l.page l.at
