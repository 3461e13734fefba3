use mathlib.Core.Path.{◌≡◌, refl, sym, ap, ◌∙◌}
use mathlib.Core.Bool.{true, false}
use mathlib.Core.List.{List}
use Prim.Native.Nat.{ℕ, ◌+◌, ◌<◌}
use native.Mathlib.Omega.{arith}
use lib.ListN.{length, get_or, take, set, length-append}
use lib.Seq.{take_all}
use Rattle.lists.specs.Pads.{pad, pad_push}
use Rattle.scheduler.specs.declared.Job.{Job}
use Rattle.scheduler.specs.declared.Scheduler.{Scheduler}
use Rattle.scheduler.specs.Jobs.{unused}
use Rattle.scheduler.specs.Table.{tickets}
use Rattle.scheduler.proofs.Lengths.{whole}
use Rattle.conservative_rules.specs.Conservative.{begun}
use Rattle.conservative.specs.Advance.{began, begun_yes, begun_no}
use borrow.Author.Rules.{rules}
use Rattle.conservative.proofs.newly_running.Invariants.{Inv}
use Rattle.conservative.proofs.newly_running.Goals.{else-began, then-began}
use Rattle.conservative.proofs.newly_running.Goals as goal

module _ {before after : Scheduler} {list : List ℕ} {n i : ℕ} (v : Inv before after list n i) (len₁ : length before.jobs ≡ 64)
    (len₂ : length after.jobs ≡ 64) (h : i < 64) where
  abbrev j : Job
  j = get_or before.jobs i unused

  yes-step : began j (get_or after.jobs i unused) ≡ true → Inv before after (set list n j.ticket) (n + 1) (i + 1)
  yes-step t =
      let e = begun_yes i before.jobs after.jobs (omega arith) (omega arith) t in
      record {
        low = omega arith;
        few = omega (arith, v.few);
        count_is = rw (e, length-append) (ap (λ (m : ℕ). m + 1) v.count_is);
        list_is =
            rw e
            (ap (λ (l : List ℕ). set l n j.ticket) v.list_is
            ∙ pad_push 64 0 (begun (take i before.jobs) (take i after.jobs)) j.ticket n (sym v.count_is) (omega (arith, v.few)));
      }

  no_step : began j (get_or after.jobs i unused) ≡ false → Inv before after list n (i + 1)
  no_step t =
      let e = begun_no i before.jobs after.jobs (omega arith) (omega arith) t in
      record { low = omega arith; few = omega (arith, v.few); count_is = rw e v.count_is; list_is = rw e v.list_is }

pub loop-i-init : goal.loop-i-init
unfolding pad
loop-i-init c = record { low = search rules; few = search rules; count_is = refl; list_is = refl }

pub loop-i-preserved : goal.loop-i-preserved
loop-i-preserved c =
    let l = c.loop-i in
    let len₁ = whole c.args.before c.well_formed.0 in
    let len₂ = whole c.args.after c.well_formed.1.0 in
    let h : l.i < 64 = omega arith in
    let e = c.began.ensures in
    elim c.if-began.branch [
      | then-began w ↦ rw (w.list-is, w.n-is) (yes-step l.invariant len₁ len₂ h (sym e ∙ w.if-began.true))
      | else-began w ↦ rw (w.list-is, w.n-is) (no_step l.invariant len₁ len₂ h (sym e ∙ w.if-began.false))
    ]

pub returns : goal.returns
unfolding tickets
returns c =
    let l = c.loop-i in
    let v = l.invariant in
    let len₁ = whole c.args.before c.well_formed.0 in
    let len₂ = whole c.args.after c.well_formed.1.0 in
    let all₁ = take_all l.i c.args.before.jobs (omega arith) in
    let all₂ = take_all l.i c.args.after.jobs (omega arith) in
    λ j. record { count = (rw (all₁, all₂) at v.count_is) j; list = (rw (all₁, all₂) at v.list_is) j }
