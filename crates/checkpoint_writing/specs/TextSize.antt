-- How many bytes the lines of a scheduler have at most. A caller who lends this many is never refused by 10 (document 01: "the lent list, page or
-- text is shorter than what goes into it"). The number allows 10 digits for each number; the numbers of a valid model have at most 7.
-- Assumes nothing.
use Rattle.std.specs.Prelude.{◌≡◌, refl, ℕ, ◌*◌, ◌≤◌, ltb, length}
use Rattle.std.proofs.Common.{sym, ltb-true}
use mathlib.Core.List.{List, [], ◌∷◌, flat_map}
use native.Mathlib.Omega.{arith}
use Rattle.std.proofs.Math.ListN.{length-append}
use Rattle.lists.specs.Tests.{both}
use Rattle.lists.specs.Lists.{In, here, there}
use Rattle.lists.specs.Every.{every, every_in}
use Rattle.text.specs.NumberLaws.{decimal_seven}
use Rattle.scheduler.specs.declared.Kind.{Kind}
use Rattle.scheduler.specs.declared.Kind.TheVariants.{Conservative, Easy}
use Rattle.scheduler.specs.declared.State.{State}
use Rattle.scheduler.specs.declared.State.TheVariants.{Unused, Waiting, Running, Cleanup}
use Rattle.scheduler.specs.declared.Job.{Job}
use Rattle.scheduler.specs.Times.{longest_le}
use Rattle.scheduler.specs.Model.{Model}
use Rattle.guarantees.specs.Premise.{Valid, valid_sound}
use Rattle.checkpoint_rules.specs.Acceptance.{ascending}
use Rattle.checkpoint_rules.specs.Texts.{kind_word, state_word, desk_line, job_line, desk_text}
use Rattle.checkpoint_laws.specs.Accepted.{Parts, parts_of, lacks_three}
use Rattle.checkpoint_laws.specs.AcceptedEasy.{ranks_of}
use Rattle.checkpoint_laws.specs.Restored.{valid_accepted}
use Rattle.checkpoint_writing.specs.TextParts.{desk_line_of, desk_line_lem, order_text, times_text, kept_text, job_text_lem}

-- at most this many bytes
abbrev pub text_bytes : ℕ
text_bytes = 7375

kind_size : (k : Kind) → length (kind_word k) ≤ 7
kind_size Conservative = omega arith
kind_size Easy = omega arith

state_size : (s : State) → length (state_word s) ≤ 1
state_size Unused = omega arith
state_size Waiting = omega arith
state_size Running = omega arith
state_size Cleanup = omega arith

jobs_size : (js : List Job) → ((j : Job) → In j js → length (job_line j) ≤ 114) → length (flat_map job_line js) ≤ 114 * length js
unfolding flat_map
jobs_size [] f = omega arith
jobs_size (j ∷ js) f =
    omega (arith, length-append (job_line j) (flat_map job_line js), f j (here refl), jobs_size js (λ k i. f k (there i)))

module _ (m : Model) (v : Valid m) where
  abbrev p : Parts m
  p = parts_of m (valid_accepted m v)

  desk_size : length (desk_line m) ≤ 79
  unfolding desk_line_of
  desk_size =
      let S = m.settings in
      let r = p.desk in
      rw (desk_line_lem m) (simp length-append (omega (
        arith,
        kind_size S.kind,
        decimal_seven S.nodes (omega (arith, r.nodes_to)),
        decimal_seven m.clock (omega (arith, r.clock_to)),
        decimal_seven m.next (omega (arith, r.next_to)),
        decimal_seven S.cleanup (omega (arith, r.cleanup_to)),
        decimal_seven S.quota_a (omega (arith, r.quotas)),
        decimal_seven S.quota_b (omega (arith, r.quotas)),
      )))

  ticket_low : (j : Job) → In j m.jobs → j.ticket ≤ m.next
  ticket_low j i =
      let t = both (ascending 1 m.jobs) (every (λ (j : Job). ltb j.ticket m.next) m.jobs) p.tickets in
      omega (arith, ltb-true j.ticket m.next (every_in (λ (j : Job). ltb j.ticket m.next) t.1 i))

  rank_low : (j : Job) → In j m.jobs → j.rank ≤ 64
  rank_low j i = by m.settings.kind refl
    where
      by : (k : Kind) → m.settings.kind ≡ k → j.rank ≤ 64
      by Conservative e = omega (arith, lacks_three m e j (p.records j i).lacks)
      by Easy e = omega (arith, ranks_of m e p.by j i)

  job_size : (j : Job) → In j m.jobs → length (job_line j) ≤ 114
  unfolding order_text times_text kept_text
  job_size j i =
      let f = p.records j i in
      let r = f.range in
      let l = longest_le m.settings in
      rw (sym (job_text_lem j)) (simp length-append (omega (
        arith,
        decimal_seven j.ticket (omega (arith, ticket_low j i, p.desk.next_to)),
        decimal_seven j.nodes (omega (arith, r.nodes_to, p.desk.nodes_to)),
        decimal_seven j.estimate (omega (arith, r.estimate_to, l)),
        state_size j.state,
        decimal_seven j.start (omega (arith, r.start_to)),
        decimal_seven j.promise (omega (arith, r.promise_to)),
        decimal_seven j.end (omega (arith, r.end_to)),
        decimal_seven j.least (omega (arith, f.least_to, r.estimate_to, l)),
        decimal_seven j.submitted (omega (arith, r.submitted_to)),
        decimal_seven j.rank (omega (arith, rank_low j i)),
        decimal_seven j.forecast (omega (arith, r.forecast_to)),
      )))

  -- the lines of every valid model
  pub text_fits : length (desk_text m) ≤ text_bytes
  unfolding desk_text
  text_fits =
      omega (arith, length-append (desk_line m) (flat_map job_line m.jobs), desk_size, jobs_size m.jobs job_size, (valid_sound m v).few)
