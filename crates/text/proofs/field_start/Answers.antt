-- `text::field_start` meets its contract: the fields wanted are those that are k - n fields further on from `start`.
-- Assumes nothing.
use mathlib.Core.Path.{◌≡◌, sym, ◌∙◌}
use Prim.Native.Nat.{◌+◌, ◌-◌, ◌≤◌, ◌<◌}
use native.Mathlib.Omega.{arith}
use lib.ListN.{length, drop, drop_of_length-le}
use Rattle.text.specs.Prefixes.{upto, upto_inside}
use Rattle.text.specs.Fields.{fields_of}
use Rattle.text.specs.FieldLaws.{from_start, past_tab, past_last}
use Rattle.text.proofs.field_start.Goals as goal

pub returns-then-t-line : goal.returns-then-t-line
unfolding fields_of
returns-then-t-line c =
    let l = c.loop in
    let a = c.args in
    let line = a.line.now in
    let e : length line ≤ l.start + length (upto 9 (drop l.start line)) = omega arith in
    let end : length line ≤ c.find_byte-t.result = omega arith in
    (omega arith, rw (drop_of_length-le line end) (sym (past_last line l.start a.k l.counter (omega arith) e) ∙ l.invariant.2))

pub overflow_add-start : goal.overflow_add-start
overflow_add-start c =
    omega (arith, upto_inside 9 c.args.line.now c.loop.start (omega arith))

pub loop-preserved : goal.loop-preserved
loop-preserved c =
    let l = c.loop in
    let a = c.args in
    let line = a.line.now in
    let r = c.find_byte-t in
    let e : r.result ≡ l.start + length (upto 9 (drop l.start line)) = r.ensures in
    let le = upto_inside 9 line l.start (omega arith) in
    let ne : (r.result ≡ length line) → ⊥ = c.if-t-line.false in
    let lt : l.start + length (upto 9 (drop l.start line)) < length line = omega arith in
    (omega arith, omega arith, rw e (past_tab line l.start a.k l.counter (omega arith) lt) ∙ l.invariant.2)

pub returns : goal.returns
returns c =
    let l = c.loop in
    let a = c.args in
    let e : a.k - l.counter ≡ 0 = omega arith in
    (omega arith, sym (from_start (drop l.start a.line.now)) ∙ rw e at l.invariant.2)
