-- The points of a profile in two lists, copied one after another.
-- Assumes nothing.
use Rattle.std.specs.Prelude.{ℕ, ◌+◌, ◌≤◌, ◌<◌, ◌≡◌, refl, List, [], length, set}
use Rattle.std.proofs.Common.{arith, add-one, sym, ap, ◌∙◌}
use Rattle.lists.specs.Pads.{pad, pad_push}
use Rattle.spans.specs.declared.Span.{Span}
use Rattle.spans.specs.declared.Point.{Point}
use Rattle.spans.specs.Spans.{profile}
use Rattle.scheduler.specs.Limits.{slots}
use Rattle.conservative_profile.specs.StoredProfile.{places, no_point, stored}
use Rattle.conservative_table.specs.Points.{point_at, points_of, length_points_of}
use Rattle.conservative_table.specs.ProfileLists.{IsProfile, exact_few}

-- the lists are the profile of at most 64 spans
pub record Copies (ms fs : List ℕ) (n : ℕ) : Type 0 where
  pub machine : ℕ
  pub spans : List Span
  pub now : ℕ
  pub profile : IsProfile machine spans now n ms fs
  pub few : length spans ≤ slots

pub copy_few : {ms fs : List ℕ} {n : ℕ} → Copies ms fs n → n ≤ places
copy_few q = omega (arith, exact_few q.profile, q.few)

pub copied_none : (ms fs : List ℕ) → pad places no_point [] ≡ pad places no_point (points_of ms fs 0)
unfolding points_of
copied_none ms fs = refl

pub copied_more : (ms fs : List ℕ) (ps : List Point) (i : ℕ) → ps ≡ pad places no_point (points_of ms fs i) → i < places
    → set ps i (point_at ms fs i) ≡ pad places no_point (points_of ms fs (i + 1))
unfolding points_of
copied_more ms fs ps i e l =
    ap (λ (qs : List Point). set qs i (point_at ms fs i)) e
    ∙ pad_push places no_point (points_of ms fs i) (point_at ms fs i) i (length_points_of ms fs i) l
    ∙ ap (λ (k : ℕ). pad places no_point (points_of ms fs k)) (sym (add-one i))

pub copied_all : {ms fs : List ℕ} {n : ℕ} (ps : List Point) → ps ≡ pad places no_point (points_of ms fs n) → (q : Copies ms fs n)
    → record { count = n; points = ps } ≡ stored (profile q.machine q.spans q.now)
unfolding stored
copied_all {ms} {fs} {n} ps e q = λ j. record {
  count = (sym (length_points_of ms fs n) ∙ ap length q.profile.points) j;
  points = (e ∙ ap (pad places no_point) q.profile.points) j;
}
