-- `column_parts::stay` meets its contract: the job is in cleanup, in its place.
-- Assumes nothing.
use mathlib.Core.Path.{◌≡◌, sym, ap, ◌∙◌}
use Rattle.scheduler.specs.Settings.{cleanup}
use Rattle.job_columns.specs.declared.Columns.{Columns}
use Rattle.job_columns.specs.Held.{cleaned_on}
use Rattle.column_parts.specs.Departures.{cleans_by}
use Rattle.column_parts.specs.LeavingColumns.{leaves_staying}
use Rattle.column_parts.proofs.stay.Goals as goal

pub returns : goal.returns
returns c =
    let a = c.args in
    λ S h gone k l e y w.
    let m = k.model in
    let v = k.columns in
    let z : a.cleanup ≡ cleanup m.settings = e ∙ ap cleanup k.settings_is in
    let still = ap (λ (x : Columns). x.live) c.clean.ensures.restated in
    rw still (leaves_staying m k.sound a.ticket a.at l.found v.live_is a.ended.now gone c.requires.4 w h l.allowed (sym (ap (cleans_by h) z) ∙ y)
    (rw (k.clock_is, still) at (cleaned_on _ _ _ _ _ c.clean.ensures.cleaned c.clean.ensures.restated m.settings m.jobs v c.requires.0 z)))
