-- What a reading hands back, as a value of the code.
-- Assumes nothing.
use Rattle.std.specs.Prelude.{◌≡◌, Result, Ok, Err, cond, ℕ, ◌+◌, ◌-◌, ◌<◌, ltb, length, take, drop}
use Rattle.std.proofs.Math.Path.{sym, ap}
use Rattle.std.proofs.Common.{◌∙◌, ltb-true, ltb-false}
use Rattle.std.proofs.Math.Bool.{true, false}
use mathlib.Core.List.{List, [], ◌∷◌}
use Rattle.std.proofs.Math.Option.{Option, some}
use native.Mathlib.Omega.{arith}
use Rattle.lists.specs.Tests.{case}
use Rattle.lists.specs.Pads.{pad}
use Rattle.text.specs.declared.Line.{Line}
use Rattle.text.specs.Lines.{line_at}
use Rattle.text.specs.LineLaws.{line_ends}
use Rattle.scheduler.specs.declared.Job.{Job}
use Rattle.scheduler.specs.declared.Opened.{Opened}
use Rattle.scheduler.specs.declared.Opening.{Opening}
use Rattle.scheduler.specs.declared.Refusal.TheVariants as refusal
use Rattle.scheduler.specs.declared.Scheduler.{Scheduler}
use Rattle.scheduler.specs.declared.Settings.{Settings}
use Rattle.scheduler.specs.Jobs.{unused}
use Rattle.scheduler.specs.Table.{with_jobs}
use Rattle.scheduler.specs.Model.{Model, store, view, view_store, empty}
use Rattle.desk_lines.specs.Lines as desk
use Rattle.desk_lines.specs.Lines.{lines_of}
use Rattle.desk_lines.specs.LineLaws.{line_of, past, lines_from, lines_done}
use Rattle.desk_lines.specs.DeskLine.{opening_in}
use Rattle.checkpoint_rules.specs.Acceptance.{accepted}
use Rattle.checkpoint_rules.specs.Texts.{Restored, not_restored, restored_from, restored, model_with, model_of, both}
use Rattle.checkpoint_laws.specs.Restored.{only_some, jobs_live}
use Rattle.checkpoint_reading.specs.Records.{records_from}
use Rattle.checkpoint_reading.specs.RecordLoop.{Told, bad_rejected}
use Rattle.checkpoint_reading.specs.declared.Fault.{Fault}
use Rattle.checkpoint_reading.specs.declared.Fault.TheVariants as fault

abbrev pub handed_back : Restored → Opened
handed_back r = record { refusal = r.refusal; scheduler = store r.model }

-- what a text gives: why it is refused, and the scheduler, an empty one if it is
abbrev pub restoring : List ℕ → Opened
restoring t = handed_back (restored t)

-- what lines give that were read so
abbrev pub judged : Result Scheduler Fault → Opened
judged (Ok d) = cond (accepted (view d)) (record { refusal = refusal.None; scheduler = d }) (handed_back (not_restored refusal.TextRejected))
judged (Err fault.Unacceptable) = handed_back (not_restored refusal.TextRejected)
judged (Err fault.Malformed) = handed_back (not_restored refusal.TextMalformed)

abbrev pub Judged : Result Scheduler Fault → Opened → Type 0
Judged r o = o ≡ judged r

-- ## What was read, judged

-- an empty scheduler has no record in its slots
pub empty_slots : (d : Scheduler) (S : Settings) (clock next : ℕ) → d ≡ store (empty S clock next) → d ≡ with_jobs d (pad 64 unused [])
unfolding store
empty_slots d S clock next e = e ∙ ap (λ (x : Scheduler). with_jobs x (pad 64 unused [])) (sym e)

module _ (text : List ℕ) (from : ℕ) (o : Opening) where
  -- what the lines give, with the first line's opening
  abbrev given : Option Model
  given = both model_with (some o) (records_from text from)

  -- the slots hold the records: what is tested is what the lines give
  held : (js : List Job) (d e : Scheduler) → records_from text from ≡ some js → d ≡ store (empty o.settings o.minute o.ticket)
      → e ≡ with_jobs d (pad 64 unused js) → (e ≡ store (model_with o js)) × (view e ≡ model_with o js)
  unfolding store
  held js d e r p q =
      let s : e ≡ store (model_with o js) = q ∙ ap (λ (x : Scheduler). with_jobs x (pad 64 unused js)) p in
      (s, ap view s ∙ view_store (model_with o js) (only_some (jobs_live (lines_of (drop from text))) r))

  taken_or_not : (m : Model) (e : Scheduler) → e ≡ store m → view e ≡ m → judged (Ok e) ≡ handed_back (restored_from (some m))
  taken_or_not m e s v =
      case (accepted m)
      (λ a. rw (v, a) (ap (λ (x : Scheduler). record { refusal = refusal.None; scheduler = x }) s))
      (λ a. rw (v, a))

  pub judged_is : (r : Result Scheduler Fault) (d : Scheduler) → d ≡ store (empty o.settings o.minute o.ticket) → Told text from d r
      → judged r ≡ handed_back (restored_from given)
  judged_is (Ok e) d p (js, r, q, few) =
      let h = held js d e r p q in
      rw r (taken_or_not (model_with o js) e h.0 h.1)
  judged_is (Err fault.Unacceptable) d p (js, r, b) = rw (r, bad_rejected (model_with o js) b)
  judged_is (Err fault.Malformed) d p r = rw r

-- ## The first line

module _ (text : List ℕ) {l : Line} (e : l ≡ line_at text 0) where
  lines_here : 0 < length text → lines_of text ≡ line_of text 0 ∷ lines_of (drop (past text 0) text)
  lines_here h = lines_from text 0 h

  -- it is closed
  pub restored_first : l.closed ≡ true → {o : Option Opening} → o ≡ opening_in (take l.end text)
      → restored text ≡ restored_from (both model_with o (records_from text (l.end + 1)))
  unfolding restored
  restored_first c {o} q =
      let w : (line_at text 0).closed ≡ true = sym (ap (λ (x : Line). x.closed) e) ∙ c in
      let n : (line_at text 0).end ≡ l.end = sym (ap (λ (x : Line). x.end) e) in
      let k : l.end - 0 ≡ l.end = omega arith in
      let z = (line_ends text 0 l e (omega arith)).closed_in c in
      ap (λ (ls : List desk.Line). restored_from (model_of ls)) (lines_here (omega arith))
      ∙ rw (w, n, k) (ap (λ (x : Option Opening). restored_from (both model_with x (records_from text (l.end + 1)))) (sym q))

  -- it is not, or there is none
  pub restored_unclosed : l.closed ≡ false → restored text ≡ not_restored refusal.TextMalformed
  unfolding restored
  restored_unclosed c =
      let w : (line_at text 0).closed ≡ false = sym (ap (λ (x : Line). x.closed) e) ∙ c in
      case (ltb 0 (length text))
      (λ h. ap (λ (ls : List desk.Line). restored_from (model_of ls)) (lines_here (ltb-true 0 (length text) h)) ∙ rw w)
      (λ h. ap (λ (ls : List desk.Line). restored_from (model_of ls)) (lines_done text 0 (ltb-false 0 (length text) h)))
