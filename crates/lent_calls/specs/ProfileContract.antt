-- What a profile call leaves in the list lent to it. Document 01: "The caller lends the list of points, each a minute and the free nodes from
-- it on".
-- Assumes nothing.
use Rattle.std.specs.Prelude.{◌≡◌, List, ◌++◌, ℕ, ◌-◌, ◌≤◌, length, take, drop, replicate}
use Rattle.std.proofs.Common.{sym, ap, subst, arith}
use Rattle.lists.specs.Pads.{pad}
use Rattle.spans.specs.declared.Point.{Point}
use Rattle.scheduler.specs.declared.Kind.{Kind}
use Rattle.scheduler.specs.declared.Kind.TheVariants.{Conservative, Easy}
use Rattle.scheduler.specs.declared.Scheduler.{Scheduler}
use Rattle.scheduler.specs.Model.{Model, view}
use Rattle.conservative_rules.specs.Conservative.{points}
use Rattle.conservative_laws.specs.Sentences.{few_points}
use Rattle.guarantees.specs.Premise.{ValidBy, Premise}
use Rattle.conservative_profile.specs.StoredProfile.{places, no_point}
use Rattle.calls.specs.declared.Shown.{Shown}
use Rattle.calls.specs.declared.Listing.{Listing}
use Rattle.calls.specs.ListCall.{over, written, Shows, listing, items_by, written_fit}
use Rattle.calls.specs.ProfileCall.{points_of, profile_outcome, point_at}
use Rattle.lent_lemmas.specs.Lists.{tabulate}
use Rattle.lent_calls.specs.ListContract.{tabulate_front, shows_by, listed_over, listed_fits}

abbrev pub ShowsPoints : Scheduler → (lent : List Point) → Shown → (after : List Point) → Type 0
ShowsPoints d lent a after = Shows points_of d lent a after

-- what the call by value gives, written into the list
pub points_given : (d : Scheduler) (lent : List Point) (p : Listing Point places) → p ≡ profile_outcome (view d) (length lent)
    → ShowsPoints d lent p.answer (tabulate p.count (point_at p) ++ drop p.count lent)
unfolding listing pad
points_given d lent p e =
    let xs = written points_of (view d) (length lent) in
    subst (λ (q : Listing Point places). ShowsPoints d lent q.answer (tabulate q.count (point_at q) ++ drop q.count lent)) (sym e)
    (shows_by points_of d lent (point_at (profile_outcome (view d) (length lent))) (tabulate_front no_point xs (replicate (places - length xs) no_point)))

pub points_fits : (d : Scheduler) (room : ℕ) (p : Listing Point places) → p ≡ profile_outcome (view d) room → p.count ≤ room
unfolding listing
points_fits d room p e = omega (arith, ap (λ (q : Listing Point places). q.count) e, written_fit points_of (view d) room)

few_by : (k : Kind) (m : Model) → ValidBy k m → length (items_by points k m) ≤ places
few_by Conservative m v = few_points m v
few_by Easy m v = omega arith

-- what `write_to` asks and gives
pub points_few : (d : Scheduler) (room : ℕ) (p : Listing Point places) → Premise d → p ≡ profile_outcome (view d) room → (p.count ≤ places) × (p.count ≤ room)
points_few d room p h e = ((listed_fits places no_point points_of d room p (few_by (view d).settings.kind (view d) h.holds) e).0, points_fits d room p e)

pub points_shown : (d : Scheduler) (lent : List Point) (p : Listing Point places) → p ≡ profile_outcome (view d) (length lent)
    → ShowsPoints d lent p.answer (over (take p.count p.items) lent)
points_shown d lent p e =
    subst (ShowsPoints d lent p.answer) (listed_over places no_point points_of d (length lent) lent p e) (points_given d lent p e)
