-- `job_columns::Columns::remove` meets its contract: each column loses the place.
-- Assumes nothing.
use Prim.Native.Nat.{ℕ}
use mathlib.Core.Path.{◌≡◌, refl, ◌∙◌}
use mathlib.Core.List.{map}
use lib.ListN.{length, length-map}
use Rattle.scheduler.specs.declared.Job.{Job}
use Rattle.scheduler.specs.Table.{ticket_of}
use Rattle.job_columns.specs.Columns.{nodes_of, estimate_of, column_removed}
use Rattle.job_columns.specs.JobColumns.{state_of, tenant_of, start_of, least_of, due_of}
use Rattle.job_columns.specs.ColumnChanges.{removed_live}
use Rattle.job_columns.proofs.Columns.remove.Goals as goal

pub returns : goal.returns
returns c =
    let a = c.args in
    record {
      one_less = refl;
      removed = λ S js k.
          let n : (f : Job → ℕ) → length (map f js) ≡ a.self.now.live = λ f. length-map js f ∙ k.live_is in
          record {
            live_is = removed_live k a.at c.requires.0;
            tickets_are = column_removed ticket_of js a.self.now.tickets k.tickets_are a.at _ (c.shift.ensures (map ticket_of js) k.tickets_are (n ticket_of));
            nodes_are = column_removed nodes_of js a.self.now.nodes k.nodes_are a.at _ (c.shift-2.ensures (map nodes_of js) k.nodes_are (n nodes_of));
            states_are = column_removed state_of js a.self.now.states k.states_are a.at _ (c.shift-3.ensures (map state_of js) k.states_are (n state_of));
            dues_are = column_removed (due_of S) js a.self.now.dues k.dues_are a.at _ (c.shift-4.ensures (map (due_of S) js) k.dues_are (n (due_of S)));
            starts_are = column_removed start_of js a.self.now.starts k.starts_are a.at _ (c.shift-5.ensures (map start_of js) k.starts_are (n start_of));
            tenants_are = column_removed tenant_of js a.self.now.tenants k.tenants_are a.at _ (c.shift-6.ensures (map tenant_of js) k.tenants_are (n tenant_of));
            estimates_are =
                column_removed estimate_of js a.self.now.estimates k.estimates_are a.at _
                (c.shift-7.ensures (map estimate_of js) k.estimates_are (n estimate_of));
            leasts_are = column_removed least_of js a.self.now.leasts k.leasts_are a.at _ (c.shift-8.ensures (map least_of js) k.leasts_are (n least_of));
          };
    }
