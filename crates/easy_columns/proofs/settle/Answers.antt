-- `easy_columns::settle` meets its contract: the engine settles by slot, the starts are written, and a new head keeps its forecast.
-- Assumes nothing.
use native.Mathlib.Omega.{arith}
use mathlib.Core.Path.{◌≡◌, refl, ap}
use Rattle.job_columns.specs.declared.Columns.{Columns}
use Rattle.easy_engine.specs.Shadows.{holding_few}
use Rattle.easy_columns.specs.Finishing.{survey, starting, forecasts_kept, tickets_kept, live_kept, heard, head_told, minute_told, settled_asc, settled_finished}
use Rattle.easy_columns.proofs.settle.Goals.{After-write_starts}
use Rattle.easy_columns.proofs.settle.Goals as goal

pub settle_slots-s-requires : goal.settle_slots-s-requires
settle_slots-s-requires c = survey c.requires

pub write_starts-requires : goal.write_starts-requires
write_starts-requires c =
    let u = c.requires in
    starting u (c.settle_slots-s.ensures (survey u)) _ c.cleanup.ensures

-- what the starts leave as it is
tickets : (c : After-write_starts) → c.write_starts.new.columns.tickets ≡ c.args.columns.now.tickets
tickets c = ap (λ (x : Columns). x.tickets) c.write_starts.ensures.retimed

live : (c : After-write_starts) → c.write_starts.new.columns.live ≡ c.args.columns.now.live
live c = ap (λ (x : Columns). x.live) c.write_starts.ensures.retimed

pub note_head-requires : goal.note_head-requires
note_head-requires c =
    let u = c.requires in
    omega (arith, live (goal.at.note_head-requires c).After-write_starts, u.columns.core.live_is, u.ready.sound.few)

pub overflow_add-occupancy : goal.overflow_add-occupancy
overflow_add-occupancy c =
    let u = c.requires in
    omega (arith, holding_few (c.settle_slots-s.ensures (survey u)).holding)

pub returns : goal.returns
returns c =
    let w = c.write_starts.ensures in
    let at = (goal.at.returns c).After-write_starts in
    record {
      retimed = w.retimed;
      reasked = refl;
      finishes = λ u b q.
          let a = c.settle_slots-s.ensures (survey u) in
          let v = w.begun (starting u a _ c.cleanup.ensures) in
          settled_finished u a v b q _
          ((rw (tickets at, live at) at c.note_head.ensures) _ _ (settled_asc u) (live_kept u a v) (tickets_kept u a v) (forecasts_kept u a v) (head_told u a b q)
          (minute_told u a b q) (heard u a v b)) _ _ _;
    }
