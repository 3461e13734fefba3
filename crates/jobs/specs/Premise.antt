-- The one premise of a call: "a desk came from an opening or from a call here". The scheduler holds a model, and the model is valid.
-- Assumes nothing.
use Rattle.std.specs.Prelude.{◌≡◌}
use Rattle.std.proofs.Common.{sym, ap, subst}
use Rattle.lists.specs.Lists.{All}
use Rattle.scheduler.specs.declared.Scheduler.{Scheduler}
use Rattle.scheduler.specs.declared.Refusal.{Refusal}
use Rattle.scheduler.specs.Answers.{outcome, refuse, refused_answer, refused_outcome}
use Rattle.scheduler.specs.Model.{Model, store, view, Live, view_store}

-- d holds a model of which P holds
pub record Holds (P : Model → Type 0) (d : Scheduler) : Type 0 where
  pub stored : d ≡ store (view d)
  pub holds : P (view d)

-- what is stored is held
pub store_holds : (P : Model → Type 0) (m : Model) → All Live m.jobs → P m → Holds P (store m)
store_holds P m live p =
    let e = view_store m live in
    record { stored = ap store (sym e); holds = subst P (sym e) p }

-- a stronger fact holds a weaker one
pub holds_as : (P Q : Model → Type 0) (d : Scheduler) → ((m : Model) → P m → Q m) → Holds P d → Holds Q d
holds_as P Q d f h = record { stored = h.stored; holds = f (view d) h.holds }

-- a refused call leaves the scheduler as it was
pub refused_held : (P : Model → Type 0) (d : Scheduler) (r : Refusal) → Holds P d → refused_outcome d r ≡ outcome (refuse (view d) r)
refused_held P d r h = λ i. record { answer = refused_answer r; scheduler = h.stored i }
