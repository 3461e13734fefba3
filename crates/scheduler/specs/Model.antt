-- The model of a scheduler: its settings, clock, next ticket and the list of its live jobs. `store` writes it into the 64 slots,
-- `view` reads it off them. Document 01: "holds its 64 records as one value, in ticket order, unused ones all zero".
-- Assumes nothing.
use Rattle.std.specs.Prelude.{◌≡◌, refl, true, List, [], ◌∷◌, ◌++◌, ℕ, suc, ◌≤◌, length}
use Rattle.std.proofs.Common.{◌∙◌}
use Rattle.lists.specs.Lists.{keep, All, all_in, keep_all}
use Rattle.lists.specs.Pads.{pad, keep_pad, length_pad}
use Rattle.scheduler.specs.declared.Job.{Job}
use Rattle.scheduler.specs.declared.Scheduler.{Scheduler}
use Rattle.scheduler.specs.declared.Select.{Select}
use Rattle.scheduler.specs.declared.Select.TheVariants as select
use Rattle.scheduler.specs.Limits.{slots}
use Rattle.scheduler.specs.declared.Settings.{Settings}
use Rattle.scheduler.specs.Jobs.{unused, is_live_of}
use Rattle.scheduler.specs.Table.{remaining}

pub record Model : Type 0 where
  pub settings : Settings
  pub clock : ℕ
  pub next : ℕ
  pub jobs : List Job

-- no job yet
abbrev pub empty : Settings → ℕ → ℕ → Model
empty S c t = record { settings = S; clock = c; next = t; jobs = [] }

-- with other jobs
abbrev pub with_model_jobs : Model → List Job → Model
with_model_jobs m js = record { settings = m.settings; clock = m.clock; next = m.next; jobs = js }

-- a job taken in stands last, and the next ticket is one more
abbrev pub joined : Model → Job → Model
joined m j = record { settings = m.settings; clock = m.clock; next = suc m.next; jobs = m.jobs ++ (j ∷ []) }

-- at a minute step: "stacks whose end is now"
abbrev pub ending : Model → Select
ending m = select.EndingAt m.settings (suc m.clock)

-- those that a test picks end, leave or are released: who remains; and the clock is set
abbrev pub without : Model → ℕ → Select → Model
without m clock s = record { settings = m.settings; clock = clock; next = m.next; jobs = remaining m.settings clock s m.jobs }

unfoldable pub store : Model → Scheduler
store m = record { settings = m.settings; clock = m.clock; next = m.next; jobs = pad slots unused m.jobs }

unfoldable pub view : Scheduler → Model
view d = record { settings = d.settings; clock = d.clock; next = d.next; jobs = keep is_live_of d.jobs }

abbrev pub Live : Job → Type 0
Live j = is_live_of j ≡ true

pub view_store : (m : Model) → All Live m.jobs → view (store m) ≡ m
unfolding store view
view_store m live = λ i. record {
  settings = m.settings;
  clock = m.clock;
  next = m.next;
  jobs = (keep_pad slots unused is_live_of m.jobs refl ∙ keep_all is_live_of m.jobs (λ j k. all_in Live live k)) i;
}

pub store_length : (m : Model) → length m.jobs ≤ slots → length (store m).jobs ≡ slots
unfolding store
store_length m l = length_pad slots unused m.jobs l
