-- `column_calls::begin` meets its contract: the jobs are spread, and the kind's own columns are made.
-- Assumes nothing.
use Rattle.scheduler.specs.Model.{view}
use Rattle.column_calls.specs.BegunColumns.{premise_spreads, spread_few, begun_conservative, easy_begins, begun_easy}
use Rattle.column_calls.proofs.begin.Goals as goal

pub spread-requires : goal.spread-requires
spread-requires c =
    (premise_spreads c.args.d c.requires.0, c.requires.1.fields_none)

pub begin-requires : goal.begin-requires
begin-requires c =
    (spread_few c.args.d c.requires.0 c.spread.ensures, c.requires.1.holds_none)

pub begin-profile-requires : goal.begin-profile-requires
begin-profile-requires c =
    let u = c.requires.1 in
    (c.requires.0, u.minutes_long, u.free_long, u.low_long, u.high_long)

pub begin-requires-in-Easy : goal.begin-requires-in-Easy
begin-requires-in-Easy c =
    let u = c.requires.1 in
    easy_begins c.args.d c.requires.0 c.spread.ensures u.asked_none u.held_none u.ends_none u.holders_none

pub returns-in-Conservative : goal.returns-in-Conservative
returns-in-Conservative c =
    let k = c.spread.ensures in
    begun_conservative c.args.d c.requires.0 k c.in-Conservative.is
    (c.begin.ensures (view c.args.d).jobs k.core.estimates_are k.core.live_is) c.begin-profile.ensures

pub returns-in-Easy : goal.returns-in-Easy
returns-in-Easy c =
    let k = c.spread.ensures in
    let u = c.requires.1 in
    begun_easy c.args.d c.requires.0 k c.in-Easy.is u.asked_none u.held_none u.ends_none u.holders_none
    (c.begin-in-Easy.ensures (easy_begins c.args.d c.requires.0 k u.asked_none u.held_none u.ends_none u.holders_none))
