-- What a profile call answers a host, and leaves in the list lent to it. Document 01: "The caller lends the list of points, each a minute and
-- the free nodes from it on".
-- Assumes nothing.
use Rattle.std.specs.Prelude.{◌≡◌, refl, List, ◌++◌, ℕ, ◌≤◌, ◌-◌, length, get_or, drop, replicate}
use Rattle.std.proofs.Common.{sym, ap, subst, ◌∙◌}
use Rattle.lists.specs.Pads.{pad}
use Rattle.spans.specs.declared.Point as spans-point
use Rattle.scheduler.specs.declared.Scheduler.{Scheduler}
use Rattle.scheduler.specs.Model.{view}
use Rattle.conservative_profile.specs.StoredProfile.{places, no_point}
use Rattle.calls.specs.declared.Listing as calls-listing
use Rattle.calls.specs.ListCall.{written, listing}
use Rattle.calls.specs.ProfileCall.{points_of, profile_outcome}
use Rattle.lent_lemmas.specs.Lists.{tabulate}
use Rattle.lent_calls.specs.ProfileContract.{points_fits, points_few}
use Rattle.hingerota.specs.declared.Desk.{Desk}
use Rattle.hingerota.specs.declared.Point.{Point}
use Rattle.hingerota.specs.declared.Shown.{Shown}
use Rattle.hingerota.specs.declared.Listing.{Listing}
use Rattle.hingerota.specs.Mirror.{read}
use Rattle.hingerota.specs.DeskPremise.{Handed}
use Rattle.hingerota.specs.ListContract.{mirror_listing, HostShows, tabulate_front, shows_by}

abbrev pub mirror_point : spans-point.Point → Point
mirror_point p = record { minute = p.minute; free = p.free }

-- what is read of it is the point
pub point_back : (p : spans-point.Point) → ◌≡◌ {A = spans-point.Point} (record { minute = (mirror_point p).minute; free = (mirror_point p).free }) p
point_back p = refl

abbrev pub HostShowsPoints : Desk → (lent : List Point) → Shown → (after : List Point) → Type 0
HostShowsPoints d lent a after = HostShows points_of mirror_point d lent a after

-- ## By value

abbrev pub mirror_profile_outcome : calls-listing.Listing spans-point.Point places → Listing spans-point.Point places
mirror_profile_outcome p = mirror_listing p

abbrev pub points_in : Desk → ℕ → Listing spans-point.Point places
points_in d room = mirror_profile_outcome (profile_outcome (view (read d)) room)

abbrev pub point_at : Listing spans-point.Point places → ℕ → Point
point_at p i = mirror_point (get_or p.items i no_point)

pub points_given : (d : Desk) (room : ℕ) (s : Scheduler) (p : calls-listing.Listing spans-point.Point places) (r : Listing spans-point.Point places) → s ≡ read d → p ≡ profile_outcome (view s) room
    → r ≡ mirror_profile_outcome p → r ≡ points_in d room
points_given d room s p r e f g = g ∙ ap mirror_profile_outcome (f ∙ ap (λ (x : Scheduler). profile_outcome (view x) room) e)

-- ## Written into the list

pub points_written : (d : Desk) (lent : List Point) (p : Listing spans-point.Point places) → p ≡ points_in d (length lent)
    → HostShowsPoints d lent p.answer (tabulate p.count (point_at p) ++ drop p.count lent)
unfolding listing pad
points_written d lent p e =
    let xs = written points_of (view (read d)) (length lent) in
    subst (λ (q : Listing spans-point.Point places). HostShowsPoints d lent q.answer (tabulate q.count (point_at q) ++ drop q.count lent)) (sym e)
    (shows_by points_of mirror_point d lent (point_at (points_in d (length lent))) (tabulate_front mirror_point no_point xs (replicate (places - length xs) no_point)))

pub host_points_fits : (d : Desk) (room : ℕ) (p : Listing spans-point.Point places) → p ≡ points_in d room → p.count ≤ room
host_points_fits d room p e = subst (λ (q : Listing spans-point.Point places). q.count ≤ room) (sym e) (points_fits (read d) room (profile_outcome (view (read d)) room) refl)

pub host_points_few : (d : Desk) (room : ℕ) (p : Listing spans-point.Point places) → Handed d → p ≡ points_in d room → p.count ≤ places
host_points_few d room p h e =
    subst (λ (q : Listing spans-point.Point places). q.count ≤ places) (sym e) (points_few (read d) room (profile_outcome (view (read d)) room) h.premise refl).0
