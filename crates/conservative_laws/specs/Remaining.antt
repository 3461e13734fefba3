-- What those that remain take: a tick frees nothing that was held past its minute.
-- Assumes nothing.
use Rattle.std.specs.Prelude.{ℕ, ◌+◌, ◌≤◌, ◌≡◌, Bool, true, false, not, ◌&&◌, List, map, eqb}
use Rattle.std.proofs.Common.{arith, sym, ap, ◌∙◌, eqb-true}
use Rattle.lists.specs.Tests.{on, case, both}
use Rattle.lists.specs.Lists.{sum, sum_map, sum_cong, sum_picked}
use Rattle.spans.specs.Spans.{used}
use Rattle.spans.proofs.UsedNodes.{takes_after}
use Rattle.scheduler.specs.declared.Job.{Job}
use Rattle.scheduler.specs.declared.Select.{Select}
use Rattle.scheduler.specs.declared.Select.TheVariants as select
use Rattle.scheduler.specs.declared.Settings.{Settings}
use Rattle.scheduler.specs.Settings.{cleanup, end_of, until}
use Rattle.scheduler.specs.Times.{until_end, until_cleaned}
use Rattle.scheduler.specs.Jobs.{is_running, is_cleaning, ends_at, released_at}
use Rattle.scheduler.specs.Table.{leaves, staying, ceased, remaining}
use Rattle.jobs.specs.Soundness.{running_clean}
use Rattle.conservative_rules.specs.Conservative.{span, spans, turned}
use Rattle.conservative_laws.specs.Validity.{taken, used_jobs, turns_used}

-- what is left of a job takes
abbrev pub left : Settings → ℕ → Select → ℕ → Job → ℕ
left S c s t j = on (not (leaves S s j)) (taken S t (ceased c s j))

pub used_left : (S : Settings) (c : ℕ) (s : Select) (t : ℕ) (js : List Job) → used t (spans S (remaining S c s js)) ≡ sum (left S c s t) js
used_left S c s t js =
    used_jobs S t (remaining S c s js)
    ∙ sum_map (taken S t) (ceased c s) (staying S s js)
    ∙ sum_picked (λ (j : Job). taken S t (ceased c s j)) (λ (j : Job). not (leaves S s j)) js

-- ## A tick

module _ (S : Settings) (c t : ℕ) (l : c ≤ t) where
  over : (j : Job) → until S j ≡ c → taken S t j ≡ 0
  over j e = takes_after t (span S j) (omega arith)

  -- who leaves takes nothing any more, and who is in cleanup keeps its span
  left_same : (j : Job) → left S c (select.EndingAt S c) t j ≡ taken S t j
  left_same j = case (ends_at S c j) ending (λ e. case (released_at S c j) (released e) (λ r. rw (e, r)))
    where
      released : ends_at S c j ≡ false → released_at S c j ≡ true → left S c (select.EndingAt S c) t j ≡ taken S t j
      released e r = rw (e, r) (sym (over j (eqb-true (until S j) c (both (is_cleaning j) (eqb (until S j) c) r).1)))

      ending : ends_at S c j ≡ true → left S c (select.EndingAt S c) t j ≡ taken S t j
      ending e =
          let b = both (is_running j) (eqb (end_of S j) c) e in
          let clean = running_clean j.state b.0 in
          let no : released_at S c j ≡ false = ap (λ (x : Bool). x && eqb (until S j) c) clean in
          let u : until S j ≡ c + cleanup S = until_end S j clean ∙ ap (λ (n : ℕ). n + cleanup S) (eqb-true (end_of S j) c b.1) in
          case (eqb (cleanup S) 0)
          (λ q. rw (e, no, q) (sym (over j (omega (arith, u, eqb-true (cleanup S) 0 q)))))
          (λ q. rw (e, no, q) (rw (until_cleaned S c j, u)))

  -- and who starts keeps its span too
  pub ticked_used : (js : List Job) → used t (spans S (map (turned c) (remaining S c (select.EndingAt S c) js))) ≡ used t (spans S js)
  ticked_used js =
      turns_used S c t (remaining S c (select.EndingAt S c) js)
      ∙ used_left S c (select.EndingAt S c) t js
      ∙ sum_cong (left S c (select.EndingAt S c) t) (taken S t) js (λ j i. left_same j)
      ∙ sym (used_jobs S t js)
