-- The guarantees hold, of both kinds: the theorem.
-- Assumes nothing.
use Rattle.std.specs.Prelude.{◌≡◌, refl, Bool, true, false, cond, List, [], take}
use Rattle.std.proofs.Common.{sym, subst, ◌∙◌}
use Rattle.scheduler.specs.declared.Kind.{Kind}
use Rattle.scheduler.specs.declared.Kind.TheVariants.{Conservative, Easy}
use Rattle.scheduler.specs.declared.Opening.{Opening}
use Rattle.scheduler.specs.Settings.{refused_settings}
use Rattle.scheduler.specs.Model.{Model, empty}
use Rattle.scheduler.specs.Answers.{accepts}
use Rattle.scheduler.specs.Opening.{opening_refusal, opening}
use Rattle.history.specs.Calls.{Call, after, events, all_calls}
use Rattle.history.specs.Guarantee.{Guarantee}
use Rattle.conservative_laws.specs.Validity as conservative
use Rattle.conservative_laws.specs.Obligations.{conservative_lawful, conservative_seeded}
use Rattle.easy_laws.specs.Validity as easy
use Rattle.easy_laws.specs.Obligations.{easy_lawful, easy_seeded}
use Rattle.checkpoint_laws.specs.Restored.{ValidAs, restored_valid}
use Rattle.migration_rules.specs.Migration.{migrated, changed_by, changed}
use Rattle.migration_laws.specs.Migrated.{migrated_valid}
use Rattle.guarantees.specs.Rules.{call}
use Rattle.guarantees.specs.Premise.{Valid, valid_as, after_valid}
use Rattle.guarantees.specs.Statement.{book_of, Start, opens, reads, changes, start_of, Demand3, Demand3WithWaits, from_valid}

-- an opening takes in no job
pub opening_empty : (o : Opening) → (opening o).jobs ≡ []
unfolding opening
opening_empty o = by (accepts (opening_refusal o))
  where
    by : (b : Bool) → (cond b (empty o.settings o.minute o.ticket) (empty (refused_settings o.settings.kind) 0 1)).jobs ≡ []
    by true = refl
    by false = refl

-- an opening is of the kind that it asks for, a refused one too
pub opening_kind : (o : Opening) → (opening o).settings.kind ≡ o.settings.kind
unfolding opening
opening_kind o = by (accepts (opening_refusal o))
  where
    by : (b : Bool) → (cond b (empty o.settings o.minute o.ticket) (empty (refused_settings o.settings.kind) 0 1)).settings.kind ≡ o.settings.kind
    by true = refl
    by false = refl

-- the change keeps it: "so the change always goes through"
pub change_valid : (m : Model) → Valid m → Valid (changed m)
change_valid m v = by m.settings.kind v
  where
    by : (k : Kind) → ValidAs k m → Valid (changed_by k m)
    by Conservative v = valid_as Conservative m v
    by Easy v = valid_as Conservative (migrated m) (migrated_valid m v)

-- what a list starts from is valid, by its kind
pub start_valid : (s : Start) → ValidAs (start_of s).settings.kind (start_of s)
start_valid (opens o) = by o.settings.kind refl
  where
    by : (k : Kind) → o.settings.kind ≡ k → ValidAs (opening o).settings.kind (opening o)
    by Conservative e = subst (λ (k : Kind). ValidAs k (opening o)) (sym (opening_kind o ∙ e)) (conservative.opening_valid o e)
    by Easy e = subst (λ (k : Kind). ValidAs k (opening o)) (sym (opening_kind o ∙ e)) (easy.opening_valid o e)
start_valid (reads t) = restored_valid t
start_valid (changes s cs) = change_valid (after call (start_of s) cs) (after_valid (start_of s) cs (start_valid s))

-- from every valid model, so from every start
pub from_any : (m : Model) (cs : List Call) → ValidAs m.settings.kind m → Guarantee m.settings.kind m.settings (book_of m (events call m cs))
from_any m cs v = by m.settings.kind v
  where
    by : (k : Kind) → ValidAs k m → Guarantee k m.settings (book_of m (events call m cs))
    by Conservative v = from_valid conservative_lawful conservative_seeded m cs v
    by Easy v = from_valid easy_lawful easy_seeded m cs v

pub demand3 : Demand3
demand3 s cs = from_any (start_of s) cs (start_valid s)

pub demand3_with_waits : Demand3WithWaits
demand3_with_waits s qs i = demand3 s (take i (all_calls call (start_of s) qs))

-- of an opening, by the kind that it asks for
pub opened_keeps : (o : Opening) (cs : List Call) → Guarantee o.settings.kind (opening o).settings (book_of (opening o) (events call (opening o) cs))
opened_keeps o cs =
    subst (λ (k : Kind). Guarantee k (opening o).settings (book_of (opening o) (events call (opening o) cs))) (opening_kind o) (demand3 (opens o) cs)
