-- A list of points in the array that holds it.
-- Assumes nothing.
use Rattle.std.specs.Prelude.{ℕ, List, length}
use Rattle.lists.specs.Pads.{pad}
use Rattle.spans.specs.declared.Point.{Point}
use Rattle.conservative_profile.specs.declared.Profile.{Profile}

-- one point for now, and two for each job
abbrev pub places : ℕ
places = 129

-- a place past the count
abbrev pub no_point : Point
no_point = record { minute = 0; free = 0 }

unfoldable pub stored : List Point → Profile
stored ps = record { count = length ps; points = pad places no_point ps }
