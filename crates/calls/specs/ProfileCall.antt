-- What a profile call gives, by the kind of the scheduler. Document 01: "The first is now; then every later minute whose free nodes differ
-- from those of the minute before".
-- Assumes nothing.
use Rattle.std.specs.Prelude.{◌≡◌, List, [], ℕ, ◌≤◌, ◌<◌, ltb, length}
use Rattle.std.proofs.Common.{arith}
use borrow.Author.Tests.{le-ltb}
use Rattle.lists.specs.Tests.{case}
use Rattle.spans.specs.declared.Point.{Point}
use Rattle.scheduler.specs.declared.Kind.TheVariants.{Conservative, Easy}
use Rattle.scheduler.specs.declared.Refusal.{Refusal}
use Rattle.scheduler.specs.declared.Refusal.TheVariants as refusal
use Rattle.scheduler.specs.declared.Scheduler.{Scheduler}
use Rattle.scheduler.specs.Model.{Model, view}
use Rattle.scheduler.specs.Answers.{verdict}
use Rattle.conservative_profile.specs.declared.Profile.{Profile}
use Rattle.conservative_profile.specs.StoredProfile.{places, no_point, stored}
use Rattle.conservative_rules.specs.Conservative.{points}
use Rattle.calls.specs.declared.Listing.{Listing}
use Rattle.calls.specs.ListCall.{list_refusal, written, listing, listed_in, none_listed, all_listed, item_at, of_conservative, items_of}

-- of a scheduler of either kind
abbrev pub points_of : Model → List Point
points_of m = of_conservative points m

-- a refusal and the points that are written
abbrev pub showing : Refusal → List Point → Listing Point places
showing r ps = listing places no_point r ps

abbrev pub profile_outcome : Model → ℕ → Listing Point places
profile_outcome m room = showing (list_refusal points_of m room) (written points_of m room)

-- in a place, and all zero past the last one
abbrev pub point_at : Listing Point places → ℕ → Point
point_at p i = item_at p no_point i

-- ## What the code computes

-- all the points of a profile, or a refusal
abbrev pub show_in : Profile → ℕ → Listing Point places
show_in p room = listed_in places no_point p.points p.count room

pub no_room : (p : Profile) (room : ℕ) → room < p.count → showing refusal.TooShort [] ≡ show_in p room
no_room p room h = none_listed places no_point p.points p.count room h

pub all_shown : (p : Profile) (room : ℕ) → p.count ≤ room
    → ◌≡◌ {A = Listing Point places} (record { count = p.count; answer = record { refusal = refusal.None; count = p.count }; items = p.points }) (show_in p room)
all_shown p room h = all_listed places no_point p.points p.count room h

module _ (d : Scheduler) (room : ℕ) where
  pub show_conservative : d.settings.kind ≡ Conservative → show_in (stored (points (view d))) room ≡ profile_outcome (view d) room
  unfolding listed_in listing stored written verdict
  show_conservative e = rw (items_of points d Conservative e) (case (ltb room (length (points (view d)))) (λ q. rw q) (λ q. rw q))

  pub show_easy : d.settings.kind ≡ Easy → showing refusal.None [] ≡ profile_outcome (view d) room
  unfolding written verdict
  show_easy e = rw (items_of points d Easy e, le-ltb room 0 (omega arith))
