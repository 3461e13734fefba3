-- `hingerota::in_order` meets its contract: the records passed stand in order, and the others decide.
-- Assumes nothing.
use mathlib.Core.Path.{◌≡◌, refl, sym, ◌∙◌}
use mathlib.Core.Bool.{Bool, true, false, not}
use mathlib.Core.List.{List}
use Prim.Native.Nat.{ℕ, ◌+◌, ◌≤◌, ◌<◌}
use native.Mathlib.Numerals.{add-one}
use native.Mathlib.Omega.{arith}
use lib.Dec.{eqb}
use lib.ListN.{length, get_or, drop, drop_of_length-le}
use lib.Seq.{drop-cons}
use Rattle.hingerota.specs.declared.Record.{Record}
use Rattle.hingerota.specs.Mirror.{no_record}
use Rattle.hingerota.specs.Checks.{follows, in_order}
use Rattle.hingerota.proofs.Lengths.{whole}
use Rattle.hingerota.proofs.in_order.Goals as goal

module _ (rs : List Record) (live : Bool) (i : ℕ) (l : i < length rs) where
  abbrev r : Record
  r = get_or rs i no_record

  one_more : follows live r ≡ true → in_order live (drop i rs) ≡ in_order (not (eqb r.state 0)) (drop (i + 1) rs)
  unfolding in_order
  one_more e = rw (add-one, drop-cons rs i no_record l, e)

  not_so : follows live r ≡ false → in_order live (drop i rs) ≡ false
  unfolding in_order
  not_so e = rw (drop-cons rs i no_record l, e)

all_so : (rs : List Record) (live : Bool) (i : ℕ) → length rs ≤ i → in_order live (drop i rs) ≡ true
unfolding in_order
all_so rs live i l = rw (drop_of_length-le rs l)

pub loop-r-init : goal.loop-r-init
loop-r-init c = (omega arith, refl)

pub loop-r-preserved : goal.loop-r-preserved
loop-r-preserved c =
    let n = whole c.args.d c.well_formed.0 in
    (omega arith, c.loop-r.invariant.1 ∙ one_more c.args.d.jobs c.loop-r.live c.loop-r.r-index (omega arith) (sym c.follows.ensures ∙ c.if-not-follows.false))

pub returns-then-not-follows : goal.returns-then-not-follows
returns-then-not-follows c =
    let n = whole c.args.d c.well_formed.0 in
    sym (c.loop-r.invariant.1 ∙ not_so c.args.d.jobs c.loop-r.live c.loop-r.r-index (omega arith) (sym c.follows.ensures ∙ c.if-not-follows.true))

pub returns : goal.returns
returns c =
    let n = whole c.args.d c.well_formed.0 in
    sym (c.loop-r.invariant.1 ∙ all_so c.args.d.jobs c.loop-r.live c.loop-r.r-index (omega arith))
