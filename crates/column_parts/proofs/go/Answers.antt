-- `column_parts::go` meets its contract: the job leaves its place.
-- Assumes nothing.
use mathlib.Core.Path.{sym, ap, ◌∙◌}
use Rattle.scheduler.specs.Settings.{cleanup}
use Rattle.scheduler.specs.declared.Settings.{Settings}
use Rattle.column_parts.specs.Departures.{cleans_by}
use Rattle.column_parts.specs.LeavingColumns.{leaves_going}
use Rattle.column_parts.proofs.go.Goals as goal

pub returns : goal.returns
returns c =
    let a = c.args in
    let q = c.take_out.ensures in
    λ S clock k l n.
    let m = k.model in
    let v = k.columns in
    rw (c.withdrawn.ensures, c.ends.ensures, q.listed, q.one_less)
    (leaves_going m k.sound a.ticket a.at l.found v.live_is a.ended.now a.gone.now c.requires.2 c.requires.3 a.how l.allowed
    (ap (λ (T : Settings). cleans_by a.how (cleanup T)) (sym k.settings_is) ∙ n) (rw q.one_less at (q.left m.settings m.jobs v)))
