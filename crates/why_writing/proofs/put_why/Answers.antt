-- `why_writing::put_why` meets its contract: the sentences of a conservative scheduler, and nothing on EASY.
-- Assumes nothing.
use mathlib.Core.Path.{sym}
use Rattle.text.specs.WrittenBytes.{wrote_none, with_room}
use Rattle.scheduler.specs.declared.Kind.TheVariants.{Conservative, Easy}
use Rattle.scheduler.specs.Model.{view}
use Rattle.guarantees.specs.Premise.{premise_of}
use Rattle.why_laws.specs.Sizes.{why_bytes, sentences_size}
use Rattle.why_writing.specs.ListedPlan.{text_by_lem}
use Rattle.why_writing.proofs.put_why.Goals as goal

pub put_sentences-requires : goal.put_sentences-requires
put_sentences-requires c =
    (premise_of c.args.d Conservative c.in-Conservative.is c.requires.0, c.requires.1)

pub returns-in-Conservative : goal.returns-in-Conservative
returns-in-Conservative c =
    let d = c.args.d in
    let v = premise_of d Conservative c.in-Conservative.is c.requires.0 in
    rw (text_by_lem d Conservative c.in-Conservative.is) at (with_room c.put_sentences.ensures why_bytes (sentences_size (view d) v.holds))

pub returns-in-Easy : goal.returns-in-Easy
returns-in-Easy c =
    rw (sym (text_by_lem c.args.d Easy c.in-Easy.is)) (wrote_none _ _ _)
