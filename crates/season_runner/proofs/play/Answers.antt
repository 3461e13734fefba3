-- `season_runner::play` meets its contract: a season is played to its end: each page that is filled leaves less to play.
-- Assumes nothing.
use mathlib.Core.Path.{◌≡◌, refl, sym, subst, ◌∙◌}
use mathlib.Core.List.{List}
use Prim.Native.Nat.{ℕ}
use native.Mathlib.Omega.{arith}
use lib.ListN.{length, replicate, length-replicate}
use lib.Seq.{length-take-le}
use borrow.Author.Tests.{ltb-true}
use Rattle.season_play.specs.declared.Standing.{Standing}
use Rattle.season_play.specs.Places.{place, InPlay}
use Rattle.season_play.specs.SeasonPlayer.{weight, goes_on, begin_ready}
use Rattle.season_runner.proofs.play.Goals as goal

abbrev zeros : List ℕ
zeros = replicate 4096 0

zeros-length : length zeros ≡ 4096
zeros-length = simp length-replicate

pub loop-arrivals-init : goal.loop-arrivals-init
loop-arrivals-init g c =
    let l = c.args.list.now in
    (subst (λ (p : Standing). InPlay l (place p zeros zeros)) (sym c.begin-p.ensures) (begin_ready l zeros zeros zeros-length zeros-length), refl)

pub shape_of-page-then-not-goes_on : goal.shape_of-page-then-not-goes_on
shape_of-page-then-not-goes_on g c = c.loop-arrivals.invariant.1

pub fill-t-requires : goal.fill-t-requires
fill-t-requires g c =
    (c.loop-arrivals.invariant.0, omega (arith, c.loop-arrivals.invariant.1, c.requires))

pub slice_bounds-write_all-end : goal.slice_bounds-write_all-end
slice_bounds-write_all-end g c = c.fill-t.ensures.inside

pub slice_bounds-write_all-end-in-loop-arrivals : goal.slice_bounds-write_all-end-in-loop-arrivals
slice_bounds-write_all-end-in-loop-arrivals g c = sym (length-take-le _ _ c.fill-t.ensures.inside)

pub shape_of-page-in_err-write_all : goal.shape_of-page-in_err-write_all
shape_of-page-in_err-write_all g c = c.fill-t.auto.page
    ∙ c.loop-arrivals.invariant.1

pub loop-arrivals-smaller : goal.loop-arrivals-smaller
loop-arrivals-smaller g c =
    let a = c.loop-arrivals in
    let l = c.args.list.now in
    let p = place a.p a.arrivals a.actuals in
    c.fill-t.ensures.less (ltb-true 0 (weight l p) (sym (goes_on l a.p.stage p) ∙ sym c.goes_on.ensures ∙ c.if-not-goes_on.false))

pub loop-arrivals-preserved : goal.loop-arrivals-preserved
loop-arrivals-preserved g c =
    (c.fill-t.ensures.ready, c.fill-t.auto.page ∙ c.loop-arrivals.invariant.1)
