-- Those that wait where runs end and jobs leave: they leave by a withdrawal alone.
-- Assumes nothing.
use Rattle.std.specs.Prelude.{ℕ, ◌≡◌, true, false, not, ◌&&◌, List, map}
use Rattle.std.proofs.Common.{sym, ap, ◌∙◌}
use Rattle.lists.specs.Tests.{case, true_false}
use Rattle.lists.specs.Lists.{keep, In, keep_in, keep_cong, keep_keep, keep_map, map_same}
use Rattle.scheduler.specs.declared.Job.{Job}
use Rattle.scheduler.specs.declared.Settings.{Settings}
use Rattle.scheduler.specs.declared.Select.{Select}
use Rattle.scheduler.specs.Jobs.{is_waiting, is_running, is_cleaning}
use Rattle.scheduler.specs.Table.{ends, withdraws, releases, leaves, staying, ceased, remaining}
use Rattle.jobs.specs.Soundness.{waiting_clean, ends_runs, releases_cleaned, ceased_waits, waits_on, remained_waits, waits_remains}
use Rattle.easy_rules.specs.Easy.{queue}
use Rattle.easy_laws.specs.Settling.{not_running}

-- no run of it ends, and it holds nothing to release
waits_leaves : (S : Settings) (p : Select) (j : Job) → is_waiting j ≡ true → leaves S p j ≡ withdraws p j
waits_leaves S p j w = rw (on, held) (case (withdraws p j) (λ e. rw e) (λ e. rw e))
  where
    on : ends p j ≡ false
    on = case (ends p j) (λ e. true_false (is_running j) (ends_runs p j e) (not_running j w)) (λ e. e)

    held : releases p j ≡ false
    held = case (releases p j) (λ e. true_false (is_cleaning j) (releases_cleaned p j e) (waiting_clean j.state w)) (λ e. e)

-- a job that waits after it waited before it
waits_still : (c : ℕ) (p : Select) (j : Job) → is_waiting (ceased c p j) ≡ is_waiting j
waits_still c p j =
    case (is_waiting (ceased c p j))
    (λ w. ap is_waiting (ceased_waits c p j w))
    (λ n. case (is_waiting j) (λ w. ap is_waiting (waits_on c p j w)) (λ w. n ∙ sym w))

module _ (S : Settings) (c : ℕ) (p : Select) (js : List Job) where
  -- who waits and is not withdrawn remains
  pub waiting_remains : {j : Job} → In j js → is_waiting j ≡ true → withdraws p j ≡ false → In j (remaining S c p js)
  waiting_remains {j} i w n = waits_remains S c p js i w (waits_leaves S p j w ∙ n)

  -- and who remains and waits was there, and was not withdrawn
  pub remaining_waited : {j : Job} → In j (remaining S c p js) → is_waiting j ≡ true → In j js × (withdraws p j ≡ false)
  remaining_waited {j} i w = let r = remained_waits S c p js i w in (r.0, sym (waits_leaves S p j w) ∙ r.1)

  -- the queue lacks those that are withdrawn, and no others
  pub queue_remaining : queue (remaining S c p js) ≡ keep (λ (j : Job). not (withdraws p j)) (queue js)
  queue_remaining =
      keep_map is_waiting (ceased c p) (staying S p js)
      ∙ ap (map (ceased c p)) (keep_cong (λ (j : Job). is_waiting (ceased c p j)) is_waiting (staying S p js) (λ j i. waits_still c p j))
      ∙ map_same (ceased c p) (queue (staying S p js)) (λ j i. waits_on c p j (keep_in is_waiting (staying S p js) i).1)
      ∙ keep_keep is_waiting (λ (j : Job). not (leaves S p j)) js
      ∙ keep_cong (λ (j : Job). not (leaves S p j) && is_waiting j) (λ (j : Job). is_waiting j && not (withdraws p j)) js
      (λ j i. case (is_waiting j)
      (λ w. rw (waits_leaves S p j w, w) (case (withdraws p j) (λ e. rw e) (λ e. rw e)))
      (λ w. rw w (case (leaves S p j) (λ e. rw e) (λ e. rw e))))
      ∙ sym (keep_keep (λ (j : Job). not (withdraws p j)) is_waiting js)
