-- What an operation on the slots of a stored model means for the model.
-- Assumes nothing.
use Rattle.std.specs.Prelude.{◌≡◌, Bool, true, false, cond, ℕ, ◌<◌, length, set}
use Rattle.std.proofs.Math.Path.{refl, ap}
use Rattle.lists.specs.Tests.{true_false, on}
use Rattle.lists.specs.Pads.{sum_pad, pad_set}
use Rattle.scheduler.specs.declared.Settings.{Settings}
use Rattle.scheduler.specs.declared.Job.{Job}
use Rattle.scheduler.specs.declared.Tenant.{Tenant}
use Rattle.scheduler.specs.declared.Tenant.TheVariants.{Nobody, A, B}
use Rattle.scheduler.specs.Tenants.{known}
use Rattle.scheduler.specs.declared.Departure.TheVariants.{Complete, Cancel}
use Rattle.scheduler.specs.declared.Select.{Select}
use Rattle.scheduler.specs.declared.Select.TheVariants as select
use Rattle.scheduler.specs.Limits.{slots}
use Rattle.scheduler.specs.Jobs.{unused, held, picks, cleaning}
use Rattle.scheduler.specs.Table.{with_jobs, nodes_held, of_tenant, live_of, ends, leaves, ceased}
use Rattle.scheduler.specs.Model.{Model, store, with_model_jobs}

-- no test picks an unused slot
pub picks_unused : (s : Select) → picks s unused ≡ false
picks_unused select.Live = refl
picks_unused select.Waiting = refl
picks_unused (select.Departing Complete t) = refl
picks_unused (select.Departing Cancel t) = refl
picks_unused (select.EndingAt S t) = refl

-- nor ends its run, nor lets it leave
pub ends_unused : (s : Select) → ends s unused ≡ false
ends_unused select.Live = refl
ends_unused select.Waiting = refl
ends_unused (select.Departing Complete t) = refl
ends_unused (select.Departing Cancel t) = refl
ends_unused (select.EndingAt S t) = refl

pub leaves_unused : (S : Settings) (s : Select) → leaves S s unused ≡ false
leaves_unused S select.Live = refl
leaves_unused S select.Waiting = refl
leaves_unused S (select.Departing Complete t) = refl
leaves_unused S (select.Departing Cancel t) = refl
leaves_unused S (select.EndingAt R t) = refl

pub ceased_unused : (now : ℕ) (s : Select) → ceased now s unused ≡ unused
ceased_unused now s = ap (λ (b : Bool). cond b (cleaning now unused) unused) (ends_unused s)

-- an unused slot is nobody's
pub live_of_stored : (t : Tenant) (m : Model) → known t ≡ true → live_of t (store m).jobs ≡ live_of t m.jobs
unfolding store
live_of_stored t m k = sum_pad slots unused (λ (j : Job). on (of_tenant t j) 1) m.jobs (none t k)
  where
    none : (t : Tenant) → known t ≡ true → on (of_tenant t unused) 1 ≡ 0
    none Nobody k = true_false false k refl
    none A k = refl
    none B k = refl

module _ (m : Model) where
  pub nodes_held_stored : nodes_held (store m).jobs ≡ nodes_held m.jobs
  unfolding store
  nodes_held_stored = sum_pad slots unused held m.jobs refl

  pub put_stored : (i : ℕ) (j : Job) → i < length m.jobs → with_jobs (store m) (set (store m).jobs i j) ≡ store (with_model_jobs m (set m.jobs i j))
  unfolding store
  put_stored i j h = ap (with_jobs (store m)) (pad_set slots unused m.jobs i j h)
