-- The lines of the jobs whose run the scheduler ends in the next minute, as the code writes them: slot by slot.
-- Assumes nothing.
use Rattle.std.specs.Prelude.{◌≡◌, refl, Bool, true, false, List, [], ◌∷◌, ◌++◌, ℕ, ◌+◌, ◌-◌, ◌*◌, ◌<◌, min, length, get_or, take, drop}
use Rattle.std.proofs.Common.{sym, ap, subst, ◌∙◌, append_assoc, append-nil, arith, take-append-drop}
use Rattle.lists.specs.Lists.{keep, In, keep_append, keep_none}
use Rattle.lists.specs.Loops.{keep_take_yes, keep_take_no}
use Rattle.text.specs.WrittenBytes.{Wrote, with_room, and_then}
use Rattle.scheduler.specs.declared.Job.{Job}
use Rattle.scheduler.specs.declared.Scheduler.{Scheduler}
use Rattle.scheduler.specs.declared.Settings.{Settings}
use Rattle.scheduler.specs.Settings.{run_time}
use Rattle.scheduler.specs.Jobs.{unused, ends_at}
use Rattle.season_rules.specs.Season.{of_ticket, slowdown, row}

-- of one job, by what is noted under its ticket
abbrev pub job_row : Settings → (arrival actual : ℕ) → Job → List ℕ
job_row S arrival actual j = row j.ticket (j.start - arrival) (slowdown (j.start - arrival) (min actual (run_time S j.estimate)))

module _ (xs ys : List ℕ) (S : Settings) where
  abbrev pub rows_by : List Job → List ℕ
  rows_by [] = []
  rows_by (j ∷ js) = job_row S (of_ticket xs j.ticket) (of_ticket ys j.ticket) j ++ rows_by js

  rows_append : (js ks : List Job) → rows_by (js ++ ks) ≡ rows_by js ++ rows_by ks
  rows_append [] ks = refl
  rows_append (j ∷ js) ks = rw (rows_append js ks, append_assoc)

  -- ## As the code writes them: the rows of the first jobs of a list that pass a test

  module _ (p : Job → Bool) (js : List Job) (i : ℕ) (l : i < length js) where
    abbrev j : Job
    j = get_or js i unused

    rows_skip : p j ≡ false → rows_by (keep p (take (i + 1) js)) ≡ rows_by (keep p (take i js))
    rows_skip e = ap rows_by (keep_take_no unused p js i l e)

    rows_more : p j ≡ true → rows_by (keep p (take (i + 1) js)) ≡ rows_by (keep p (take i js)) ++ job_row S (of_ticket xs j.ticket) (of_ticket ys j.ticket) j
    rows_more e =
        ap rows_by (keep_take_yes unused p js i l e)
        ∙ rows_append (keep p (take i js)) (j ∷ [])
        ∙ ap (λ (t : List ℕ). rows_by (keep p (take i js)) ++ t) (append-nil _)

    -- with one slot more
    module _ {page before : List ℕ} {at place : ℕ} (w : Wrote (33 * i) page at (rows_by (keep p (take i js))) before place) where
      pub written_skip : p j ≡ false → Wrote (33 * (i + 1)) page at (rows_by (keep p (take (i + 1) js))) before place
      written_skip e =
          subst (λ (t : List ℕ). Wrote (33 * (i + 1)) page at t before place) (sym (rows_skip e)) (with_room w (33 * (i + 1)) (omega arith))

      pub written_more : {after : List ℕ} {end a b : ℕ} → p j ≡ true → a ≡ of_ticket xs j.ticket → b ≡ of_ticket ys j.ticket
          → Wrote 33 before place (job_row S a b j) after end → Wrote (33 * (i + 1)) page at (rows_by (keep p (take (i + 1) js))) after end
      written_more {after} {end} {a} {b} e f g v =
          let row : Wrote 33 before place (job_row S (of_ticket xs j.ticket) (of_ticket ys j.ticket) j) after end
          = subst (λ (x : ℕ). Wrote 33 before place (job_row S x (of_ticket ys j.ticket) j) after end) f
          (subst (λ (y : ℕ). Wrote 33 before place (job_row S a y j) after end) g v) in
          subst (λ (t : List ℕ). Wrote (33 * (i + 1)) page at t after end) (sym (rows_more e)) (with_room (and_then w row) (33 * (i + 1)) (omega arith))

abbrev pub due_rows : (arrivals actuals : List ℕ) → Scheduler → List ℕ
due_rows xs ys d = rows_by xs ys d.settings (keep (ends_at d.settings (d.clock + 1)) d.jobs)

-- ## Past a slot that is not live nothing is due

none_due : (S : Settings) (t : ℕ) (j : Job) → j ≡ unused → ends_at S t j ≡ false
none_due S t j e = ap (ends_at S t) e

pub due_front : (xs ys : List ℕ) (d : Scheduler) (i : ℕ) → ((j : Job) → In j (drop i d.jobs) → j ≡ unused)
    → rows_by xs ys d.settings (keep (ends_at d.settings (d.clock + 1)) (take i d.jobs)) ≡ due_rows xs ys d
due_front xs ys d i f =
    let p : Job → Bool = ends_at d.settings (d.clock + 1) in
    ap (rows_by xs ys d.settings)
    (sym (append-nil (keep p (take i d.jobs)))
    ∙ ap (λ (js : List Job). keep p (take i d.jobs) ++ js) (sym (keep_none p (drop i d.jobs) (λ j x. none_due d.settings (d.clock + 1) j (f j x))))
    ∙ sym (keep_append p (take i d.jobs) (drop i d.jobs))
    ∙ ap (keep p) (take-append-drop i d.jobs))
