-- `easy::admit` meets its contract. The search for the first unused slot closes in on the number of live jobs; those counted are the
-- tenant's of the slots passed.
-- Assumes nothing.
use Prim.Native.Nat.{ℕ, ◌+◌, ◌≤◌, ◌<◌}
use native.Mathlib.Omega.{arith}
use native.Mathlib.Numerals.{add-one}
use mathlib.Core.Path.{◌≡◌, sym, ap, ◌∙◌}
use mathlib.Core.Bool.{true}
use mathlib.Core.List.{List}
use lib.ListN.{length, get_or, take}
use Rattle.lists.specs.Lists.{keep, length_keep_le}
use Rattle.scheduler.specs.Limits.{slots}
use Rattle.scheduler.specs.Jobs.{unused, is_waiting}
use Rattle.scheduler.specs.declared.Job.{Job}
use Rattle.scheduler.specs.Table.{live_of}
use Rattle.scheduler.specs.Settings.{quota}
use Rattle.scheduler.specs.Times.{longest_le}
use Rattle.scheduler.specs.Model.{view}
use Rattle.scheduler.specs.Answers.{accepts}
use Rattle.easy_rules.specs.Easy.{rank, submit_refusal}
use Rattle.jobs.specs.Soundness.{Fit}
use Rattle.std.proofs.Common.{length-take}
use Rattle.std.specs.List.Sorted.{IsPartitionedBy}
use Rattle.std.proofs.lemmas.List.{get_or_default}
use Rattle.std.proofs.lemmas.List.Sorted.{IsPartitionPoint-from_clause}
use borrow.Author.Rules.{rules}
use mathlib.Core.Logic.{⊎_elim}
use Rattle.lists.specs.Tests.{case, le_or}
use Rattle.scheduler.specs.Jobs.{is_live_of}
use Rattle.jobs.specs.Soundness.{Sound}
use Rattle.jobs.specs.Slots.{slots_all, first_live, live_low, past_live}
use Rattle.job_table.specs.Submitting.{Tells, counted, uncounted}
use Rattle.easy.specs.HeldModel.{valid_sound}
use Rattle.easy.specs.Admission.{judged_early, judged_latest, fits, room, admitted, turned_away}
use Rattle.scheduler.specs.declared.Scheduler.{Scheduler}
use Rattle.jobs.specs.Premise.{Holds}
use Rattle.easy_laws.specs.Validity.{Valid}
use Rattle.easy.proofs.admit.Goals.{After-waiting, After-submit_refusal-why, After-partition_point-low, Then-is_none, then-quota-low, else-quota-low, then-e-gt-EARLY, else-e-gt-EARLY, then-is_none, else-is_none}
use Rattle.easy.proofs.admit.Goals as goal

-- the live jobs stand first, so that the search ends at their number
live_first : (d : Scheduler) → Holds Sound d → IsPartitionedBy is_live_of d.jobs
live_first d h i j z l k a =
    let at = λ (n : ℕ) (b : n < length d.jobs). ap is_live_of (get_or_default d.jobs n z unused b) in
    case (is_live_of (get_or d.jobs i z)) (λ e. e)
    (λ e. absurd (omega (arith, past_live d h i (sym (at i (omega arith)) ∙ e), live_low d h j (sym (at j k) ∙ a))))

slot : (c : After-partition_point-low) → c.partition_point-low.result ≡ length (view c.args.d).jobs
slot c =
    let d = c.args.d in
    let h = valid_sound d c.requires in
    let n = length (view d).jobs in
    let r = c.partition_point-low.result in
    let p = IsPartitionPoint-from_clause is_live_of d.jobs r c.partition_point-low.ensures.partitioned (live_first d h) (λ a b f k. search rules) in
    ⊎_elim
    (λ l. ⊎_elim (λ g. omega arith)
    (λ g. absurd (omega (arith, past_live d h r (p.1 r unused (omega arith) (omega (arith, slots_all d h, h.holds.few))))))
    (le_or n r))
    (λ g. absurd (omega (arith, live_low d h n (p.0 n unused (omega arith) g))))
    (le_or r n)

-- The judgement. What is counted tells whether the tenant's places are all taken.
judged : (c : After-submit_refusal-why) → c.partition_point-low.result ≡ length (view c.args.d).jobs
    → c.submit_refusal-why.result ≡ submit_refusal (view c.args.d) c.args.s
judged c at =
    let d = c.args.d in
    let h = valid_sound d c.requires in
    let t = c.args.s.tenant in
    let low = c.partition_point-low.result in
    let told : Tells (quota d.settings t) (live_of t (view d).jobs) c.if-quota-low.live =
    elim c.if-quota-low.branch [
      | then-quota-low w ↦ rw (w.live-is, w.of_tenant-live.ensures) (counted d h t (quota d.settings t) low at)
      | else-quota-low w ↦ rw w.live-is (uncounted d h t (quota d.settings t) low at (omega (arith, c.quota.ensures, w.if-quota-low.false)))
    ] in
    c.submit_refusal-why.ensures
    ∙ elim c.if-e-gt-EARLY.branch [
      | then-e-gt-EARLY w ↦ rw w.latest-is (judged_latest d c.args.s c.requires _ _ told w.latest_end-latest.ensures)
      | else-e-gt-EARLY w ↦ rw w.latest-is (judged_early d c.args.s c.requires _ told w.if-e-gt-EARLY.false)
    ]

-- the job fits
passes : (c : Then-is_none) → accepts c.submit_refusal-why.result ≡ true
passes c = sym c.is_none.ensures ∙ c.if-is_none.true

taken : (c : Then-is_none) → c.submit_refusal-why.result ≡ submit_refusal (view c.args.d) c.args.s → Fit (view c.args.d) c.args.s
taken c j = fits c.args.d c.args.s c.requires c.submit_refusal-why.result j (passes c)

within : (c : Then-is_none) → c.partition_point-low.result ≡ length (view c.args.d).jobs → c.submit_refusal-why.result ≡ submit_refusal (view c.args.d) c.args.s → c.partition_point-low.result < slots
within c at j =
    let r = room c.args.d c.args.s c.requires c.submit_refusal-why.result j (passes c) in
    omega arith

-- those counted, and one more
ranked : (d : Scheduler) → Holds Valid d → (k r : ℕ) → k ≡ length (view d).jobs → r ≡ length (keep is_waiting (take k d.jobs)) + 1
    → r ≡ rank (view d)
ranked d v k r at e =
    e
    ∙ ap (λ (n : ℕ). length (keep is_waiting (take n d.jobs)) + 1) at
    ∙ ap (λ (js : List Job). length (keep is_waiting js) + 1) (first_live d (valid_sound d v))
    ∙ add-one (length (keep is_waiting (view d).jobs))

-- no more wait than there are slots
few : (c : After-waiting) → c.waiting.result ≤ slots
few c =
    let d = c.args.d in
    let low = c.partition_point-low.result in
    omega (arith, c.waiting.ensures, length_keep_le is_waiting (take low d.jobs), length-take low d.jobs, slots_all d (valid_sound d c.requires))

pub latest_end-latest-requires : goal.latest_end-latest-requires
latest_end-latest-requires c = valid_sound c.args.d c.requires

pub fresh-job-requires : goal.fresh-job-requires
fresh-job-requires c =
    let at = slot (goal.at.fresh-job-requires c).After-partition_point-low in
    let j = judged (goal.at.fresh-job-requires c).After-submit_refusal-why at in
    let f = taken (goal.at.fresh-job-requires c).Then-is_none j in
    (omega (arith, f.nodes_to, c.requires.holds.ready.sound.nodes_to), omega (arith, f.estimate_to, longest_le (view c.args.d).settings), f.least_to)

pub offset_bounds-e-low : goal.offset_bounds-e-low
offset_bounds-e-low c =
    let at = slot (goal.at.offset_bounds-e-low c).After-partition_point-low in
    let j = judged (goal.at.offset_bounds-e-low c).After-submit_refusal-why at in
    omega (arith, within (goal.at.offset_bounds-e-low c).Then-is_none at j)

pub bounds-e-low : goal.bounds-e-low
bounds-e-low c =
    let at = slot (goal.at.bounds-e-low c).After-partition_point-low in
    let j = judged (goal.at.bounds-e-low c).After-submit_refusal-why at in
    omega (arith, within (goal.at.bounds-e-low c).Then-is_none at j)

pub overflow_add-e : goal.overflow_add-e
unfolding view
overflow_add-e c =
    let at = slot (goal.at.overflow_add-e c).After-partition_point-low in
    let j = judged (goal.at.overflow_add-e c).After-submit_refusal-why at in
    omega (arith, (taken (goal.at.overflow_add-e c).Then-is_none j).ticket_left)

pub overflow_cast-rank : goal.overflow_cast-rank
overflow_cast-rank c = omega (arith, few (goal.at.overflow_cast-rank c).After-waiting)

pub overflow_add-rank : goal.overflow_add-rank
overflow_add-rank c = omega (arith, few (goal.at.overflow_add-rank c).After-waiting)

pub returns : goal.returns
unfolding view
returns c =
    let d = c.args.d in
    let why = c.submit_refusal-why.result in
    let at = slot (goal.at.returns c).After-partition_point-low in
    let j = judged (goal.at.returns c).After-submit_refusal-why at in
    elim c.if-is_none.branch [
      | then-is_none w ↦
          let counts = ranked d c.requires c.partition_point-low.result (w.waiting.result + 1) at (ap (λ (n : ℕ). n + 1) w.waiting.ensures) in
          rw (w.e-is, w.ticket-is, w.entered.ensures, w.fresh-job.ensures, counts, c.none.ensures)
          (admitted d c.args.s c.requires why j (sym c.is_none.ensures ∙ w.if-is_none.true) _ at)
      | else-is_none w ↦
          rw (w.e-is, w.ticket-is, c.none.ensures) (turned_away d c.args.s c.requires why j (sym c.is_none.ensures ∙ w.if-is_none.false))
    ]
