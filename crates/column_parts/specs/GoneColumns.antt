-- A kind's own columns once jobs have left: those in the listed places are taken out of each.
-- Assumes nothing.
use Rattle.std.specs.Prelude.{ℕ, ◌-◌, ◌≤◌, ◌≡◌, List, map, length, take}
use Rattle.std.proofs.Common.{arith, sym, ap, subst, ◌∙◌}
use Rattle.std.proofs.lemmas.List.{length-map}
use Rattle.lists.specs.Lists.{In}
use Rattle.lists.specs.Pads.{pad}
use Rattle.scheduler.specs.declared.Settings.{Settings}
use Rattle.scheduler.specs.declared.Job.{Job}
use Rattle.scheduler.specs.declared.Select.{Select}
use Rattle.scheduler.specs.Limits.{slots}
use Rattle.scheduler.specs.Table.{staying, ceased, remaining}
use Rattle.job_columns.specs.Removal.{removes}
use Rattle.job_columns.specs.Columns.{Column, column_map, column_removes}
use Rattle.column_parts.specs.ColumnParts.{Gone}

module _ {S : Settings} {s : Select} {js : List Job} {gone : List ℕ} {live left : ℕ} (g : Gone S s js gone live left)
    (now : ℕ) (f : Job → ℕ) (list : List ℕ) (c : Column f js list) (same : (j : Job) → In j (staying S s js) → f (ceased now s j) ≡ f j) where
  -- the column, if it is as `job_columns::shift_all` leaves it
  pub gone_column : (after : List ℕ) → length js ≡ live
      → ((xs : List ℕ) → list ≡ pad slots 0 xs → length xs ≡ live → after ≡ pad slots 0 (removes (take (live - left) gone) xs))
      → Column f (remaining S now s js) after
  gone_column after n e =
      column_map f (staying S s js) after
      (subst (λ (xs : List Job). Column f xs after) g.stay (column_removes f js list c (take (live - left) gone) after (e (map f js) c (length-map js f ∙ n))))
      (ceased now s) same

  -- where nobody left it is the column still
  pub gone_nobody : live ≤ left → Column f (remaining S now s js) list
  gone_nobody l =
      let z : live - left ≡ 0 = omega arith in
      let all : js ≡ staying S s js = sym (ap (λ (n : ℕ). removes (take n gone) js) z) ∙ g.stay in
      column_map f (staying S s js) list (subst (λ (xs : List Job). Column f xs list) all c) (ceased now s) same
