-- `easy::finish` meets its contract. The first loop surveys the slots, the second writes the starts, the third the
-- forecast of a new head.
-- Assumes nothing.
use Prim.Native.Nat.{ℕ, ◌≤◌, ◌<◌}
use native.Mathlib.Omega.{arith}
use mathlib.Core.Path.{◌≡◌, refl, sym, ap, ◌∙◌}
use mathlib.Core.List.{List, [], map, ◌++◌}
use lib.ListN.{length, take, drop, replicate, length-set}
use borrow.Author.Tests.{eq-eqb, ne_eqb}
use Rattle.std.proofs.lemmas.List.{set-get_or}
use Rattle.lists.specs.Lists.{in_nil}
use Rattle.scheduler.specs.Limits.{slots}
use Rattle.scheduler.specs.States.{live?, waiting?, cleaning?, holding?}
use Rattle.scheduler.specs.Table.{ticket_of, with_jobs}
use Rattle.scheduler.specs.Model.{view, store}
use Rattle.jobs.specs.Slots.{slots_all, past_live}
use Rattle.easy_rules.specs.Easy.{settled, forecast, noting}
use Rattle.easy_engine.specs.Survey.{Passed, Unsettled, Answers, head_before}
use Rattle.easy_engine.specs.Announcement.{first_is}
use Rattle.easy_engine.specs.SurveyLoop.{blank, waits_next, runs_next, cleans_next, room_for, passed_all}
use Rattle.easy_engine.specs.WrittenStarts.{begins_first, begins_next, begins_done, at_low, applied}
use Rattle.easy.specs.HeldModel.{sound_of}
use Rattle.easy.specs.Noting.{told, Notes, kept_in_of, slot_there, note_next, skip_next, notes_done, kept_is}
use Rattle.easy.specs.Calling.{announced_ticket, reply_is}
use Rattle.scheduler.specs.declared.Job.{Job}
use Rattle.scheduler.specs.declared.Scheduler.{Scheduler}
use Rattle.jobs.specs.Premise.{Holds}
use Rattle.easy_laws.specs.Validity.{Ready}
use Rattle.easy.proofs.finish.Goals.{After-settle_all-settled, Left-loop-i, else-loop-i-test, then-loop-i-test+in-Unused, in-Waiting, in-Running, in-Cleanup, then-j-head, else-j-head, then-head-ne0+else-loop-j-test, else-head-ne0}
use Rattle.easy.proofs.finish.Goals as goal

-- what the first loop leaves
abbrev unsettled : {running waiting spare : ℕ} {held ends terms asked estimates waiters places : List ℕ} (d : Scheduler) → Holds Ready d
    → (i : ℕ) → i ≤ 64 → length (view d).jobs ≤ i → Passed d (take i d.jobs) running waiting spare held ends terms asked estimates waiters places
    → Unsettled held ends terms running asked estimates waiters waiting (replicate slots 0) d.clock spare d.settings
unsettled {places = places} d r i l o v = record {
  scheduler = d;
  ready = r;
  places = places;
  passed = passed_all d (sound_of d r) i l o v;
  room = refl;
  clock_is = refl;
  settings_is = refl;
}

-- the first loop passes each live job
over : (c : Left-loop-i) → length (view c.args.p.scheduler).jobs ≤ c.loop-i.i
over c =
    let d = c.args.p.scheduler in
    let h = sound_of d c.requires in
    elim c.loop-i-test.branch [
      | else-loop-i-test w ↦ omega (arith, w.loop-i-test.false, slots_all d h, h.holds.few)
      | then-loop-i-test+in-Unused w ↦ past_live d h c.loop-i.i (ap live? w.in-Unused.is)
    ]

-- what settling answers
answers : (c : After-settle_all-settled)
    → Answers c.args.p.scheduler c.loop-i.places c.head_before-before.result c.settle_all-settled.new.order c.settle_all-settled.result
answers c =
    let d = c.args.p.scheduler in
    let h = sound_of d c.requires in
    let o : length (view d).jobs ≤ c.loop-i.i = elim c.loop-i-test.branch [
      | else-loop-i-test w ↦ omega (arith, w.loop-i-test.false, slots_all d h, h.holds.few)
      | then-loop-i-test+in-Unused w ↦ past_live d h c.loop-i.i (ap live? w.in-Unused.is)
    ] in
    c.settle_all-settled.ensures (unsettled d c.requires c.loop-i.i c.loop-i.auto.i-end o c.loop-i.invariant.2)

-- what the third loop has passed, as a scheduler
abbrev jobs_of : Scheduler → List Job
jobs_of e = e.jobs

notes : {t m : ℕ} (d : Scheduler) (js : List Job) (i : ℕ) → i ≤ 64 → js ≡ map (noting (told t m)) (take i d.jobs) ++ drop i d.jobs → Notes t m d (with_jobs d js) i
notes d js i l e = record { low = l; scheduler_is = ap (with_jobs d) e }

pub loop-i-init : goal.loop-i-init
loop-i-init c = (
  omega arith,
  omega arith,
  record {
    running_is = refl;
    held_is = blank;
    starts_are = blank;
    terms_are = blank;
    spare_is = omega arith;
    waiting_is = refl;
    asked_is = blank;
    estimates_are = blank;
    tickets_are = blank;
    slots_are =
        record { at = []; places_is = blank; low = λ k u. in_nil u; jobs_at = refl };
  },
)

pub overflow_sub-spare : goal.overflow_sub-spare
overflow_sub-spare c =
    let l = c.loop-i in
    let d = c.args.p.scheduler in
    let h = sound_of d c.requires in
    let g = c.in-Running.is in
    room_for l.i l.invariant.2 (omega arith) (slots_all d h) h (ap holding? g) (ap waiting? g)

pub overflow_sub-spare-in-Cleanup : goal.overflow_sub-spare-in-Cleanup
overflow_sub-spare-in-Cleanup c =
    let l = c.loop-i in
    let d = c.args.p.scheduler in
    let h = sound_of d c.requires in
    let g = c.in-Cleanup.is in
    room_for l.i l.invariant.2 (omega arith) (slots_all d h) h (ap holding? g) (ap waiting? g)

pub loop-i-preserved : goal.loop-i-preserved
loop-i-preserved c =
    let l = c.loop-i in
    let d = c.args.p.scheduler in
    let h = sound_of d c.requires in
    let len = slots_all d h in
    let k : l.i < 64 = omega arith in
    elim c.match-j.branch [
      | in-Waiting w ↦ rw (w.held-is, w.ends-is, w.terms-is, w.asked-is, w.estimates-is, w.waiters-is, w.places-is, w.running-is, w.waiting-is, w.spare-is)
          (omega arith, omega arith, waits_next l.i l.invariant.2 k len (ap waiting? w.in-Waiting.is))
      | in-Running w ↦
          let g = w.in-Running.is in
          rw (w.held-is, w.ends-is, w.terms-is, w.asked-is, w.estimates-is, w.waiters-is, w.places-is, w.running-is, w.waiting-is, w.spare-is)
          (omega arith, omega arith, runs_next l.i l.invariant.2 k len h (ap holding? g) (ap waiting? g) (ap cleaning? g))
      | in-Cleanup w ↦
          let g = w.in-Cleanup.is in
          rw (w.held-is, w.ends-is, w.terms-is, w.asked-is, w.estimates-is, w.waiters-is, w.places-is, w.running-is, w.waiting-is, w.spare-is)
          (omega arith, omega arith, cleans_next l.i l.invariant.2 k len h (ap holding? g) (ap waiting? g) (ap cleaning? g))
    ]

pub settle_all-settled-requires : goal.settle_all-settled-requires
settle_all-settled-requires c =
    unsettled c.args.p.scheduler c.requires c.loop-i.i c.loop-i.auto.i-end (over (goal.at.settle_all-settled-requires c).Left-loop-i) c.loop-i.invariant.2

-- ## The starts
pub loop-k-init : goal.loop-k-init
loop-k-init c = (begins_first c.requires.stored blank, slots_all c.args.p.scheduler (sound_of c.args.p.scheduler c.requires))

pub offset_bounds-order-k : goal.offset_bounds-order-k
offset_bounds-order-k c =
    omega (arith, (answers (goal.at.offset_bounds-order-k c).After-settle_all-settled).applies.count_low)

pub bounds-order-k : goal.bounds-order-k
bounds-order-k c =
    omega (arith, (answers (goal.at.bounds-order-k c).After-settle_all-settled).applies.count_low)

pub offset_bounds-list-k : goal.offset_bounds-list-k
offset_bounds-list-k c =
    omega (arith, (answers (goal.at.offset_bounds-list-k c).After-settle_all-settled).applies.count_low)

pub bounds-list-k : goal.bounds-list-k
bounds-list-k c =
    omega (arith, (answers (goal.at.bounds-list-k c).After-settle_all-settled).applies.count_low)

pub bounds-places-place : goal.bounds-places-place
bounds-places-place c =
    let l = c.loop-k in omega (arith, at_low (answers (goal.at.bounds-places-place c).After-settle_all-settled).applies l.e l.list l.k l.invariant.0 (omega arith))

pub bounds-e-at : goal.bounds-e-at
bounds-e-at c =
    let l = c.loop-k in omega (arith, at_low (answers (goal.at.bounds-e-at c).After-settle_all-settled).applies l.e l.list l.k l.invariant.0 (omega arith))

pub bounds-e-at-in-loop-k : goal.bounds-e-at-in-loop-k
bounds-e-at-in-loop-k c =
    let l = c.loop-k in omega (arith, at_low (answers (goal.at.bounds-e-at-in-loop-k c).After-settle_all-settled).applies l.e l.list l.k l.invariant.0 (omega arith))

pub loop-k-preserved : goal.loop-k-preserved
loop-k-preserved c =
    let l = c.loop-k in
    rw c.«at».ensures (
      begins_next (answers (goal.at.loop-k-preserved c).After-settle_all-settled).applies l.e l.list l.k l.invariant.0 (omega arith),
      length-set l.e.jobs _ _ ∙ l.invariant.1,
    )

-- ## The forecast
pub loop-j-init : goal.loop-j-init
loop-j-init c = refl

pub loop-j-preserved : goal.loop-j-preserved
loop-j-preserved c =
    let l = c.loop-j in
    let h : l.j-index < 64 = omega arith in
    let v = notes c.loop-k.e l.j-items l.j-index c.loop-j.auto.j-index-end l.invariant in
    let there = slot_there v c.loop-k.invariant.1 h in
    elim c.if-j-head.branch [
      | then-j-head w ↦ rw (w.j-items-is, w.foretold.ensures, there) (ap jobs_of (note_next v c.loop-k.invariant.1 h (rw there at w.if-j-head.true)).scheduler_is)
      | else-j-head w ↦ rw (w.j-items-is, set-get_or) (ap jobs_of (skip_next v c.loop-k.invariant.1 h (λ z. w.if-j-head.false (ap ticket_of there ∙ z))).scheduler_is)
    ]

pub returns : goal.returns
returns c =
    let a = answers (goal.at.returns c).After-settle_all-settled in
    let u = unsettled c.args.p.scheduler c.requires c.loop-i.i c.loop-i.auto.i-end (over (goal.at.returns c).Left-loop-i) c.loop-i.invariant.2 in
    let l = c.loop-k in
    let d = c.args.p.scheduler in
    let k = begins_done a.applies l.e l.list l.k l.invariant.0 (omega arith) in
    let x = c.settle_all-settled.result in
    let kept : c.if-head-ne0.e ≡ kept_in_of x.head x.forecast l.e =
    elim c.if-head-ne0.branch [
      | then-head-ne0+else-loop-j-test w ↦
          let i = w.loop-j.j-index in
          rw (w.e-is, ne_eqb x.head 0 w.if-head-ne0.true)
          (notes_done (notes l.e w.loop-j.j-items i w.loop-j.auto.j-index-end w.loop-j.invariant) l.invariant.1 w.loop-j-test.false)
      | else-head-ne0 w ↦ rw (w.e-is, eq-eqb x.head 0 w.if-head-ne0.false)
    ] in
    λ m ts q z.
    let h = a.head_is_lem m (c.head_before-before.ensures ∙ ap (head_before c.args.p.ticket c.args.p.withdrawn) (first_is d _ u.passed.tickets_are) ∙ z) in
    reply_is m c.args.p ts _ _ x c.if-head-ne0.e (sym a.applies.count_is) k.1
    (kept ∙ ap (kept_in_of x.head x.forecast) (k.0 ∙ ap store (applied (view d) c.requires.holds.sound))
    ∙ kept_is (forecast m (settled (view d)).model) (settled (view d)).model (record { ticket = x.head; minute = x.forecast }) h
    (announced_ticket m (view d) c.requires.holds))
    h q
