-- `script_runner::play` meets its contract: a script is played to its end: each page that is filled leaves less to play.
-- Assumes nothing.
use mathlib.Core.Path.{refl, sym, subst, ◌∙◌}
use native.Mathlib.Omega.{arith}
use lib.Seq.{length-take-le}
use borrow.Author.Tests.{ltb-true}
use Rattle.script_play.specs.Progress.{InPlay, weight, goes_on, begin_ready}
use Rattle.script_runner.proofs.play.Goals as goal

pub loop-p-init : goal.loop-p-init
loop-p-init g c =
    (subst (InPlay c.args.script.now) (sym c.begin-p.ensures) (begin_ready c.args.script.now), refl)

pub shape_of-page-then-not-goes_on : goal.shape_of-page-then-not-goes_on
shape_of-page-then-not-goes_on g c = c.loop-p.invariant.1

pub fill-t-requires : goal.fill-t-requires
fill-t-requires g c = (
  c.loop-p.invariant.0,
  omega (arith, c.loop-p.invariant.1, c.requires),
)

pub slice_bounds-write_all-end : goal.slice_bounds-write_all-end
slice_bounds-write_all-end g c = c.fill-t.ensures.inside

pub slice_bounds-write_all-end-in-loop-p : goal.slice_bounds-write_all-end-in-loop-p
slice_bounds-write_all-end-in-loop-p g c = sym (length-take-le _ _ c.fill-t.ensures.inside)

pub shape_of-page-in_err-write_all : goal.shape_of-page-in_err-write_all
shape_of-page-in_err-write_all g c = c.fill-t.auto.page
    ∙ c.loop-p.invariant.1

pub loop-p-smaller : goal.loop-p-smaller
loop-p-smaller g c =
    let p = c.loop-p.p in
    let s = c.args.script.now in
    c.fill-t.ensures.less (ltb-true 0 (weight s p) (sym (goes_on p.stage s p)
    ∙ sym c.goes_on.ensures ∙ c.if-not-goes_on.false))

pub loop-p-preserved : goal.loop-p-preserved
loop-p-preserved g c = (
  c.fill-t.ensures.ready,
  c.fill-t.auto.page
      ∙ c.loop-p.invariant.1,
)
