-- `season_reading::arrival_refusal` meets its contract: the tests are made one after the other.
-- Assumes nothing.
use borrow.Author.Tests.{lt-ltb, le-ltb, eq-eqb, ne_eqb}
use Rattle.scheduler.specs.Answers.{verdict}
use Rattle.season_rules.specs.Season.{arrival_refusal}
use Rattle.season_reading.proofs.arrival_refusal.Goals as goal

pub returns-then-a-highest : goal.returns-then-a-highest
unfolding arrival_refusal verdict
returns-then-a-highest c = rw (lt-ltb _ _ c.if-a-highest.true)

pub returns-then-a-eq0 : goal.returns-then-a-eq0
unfolding arrival_refusal verdict
returns-then-a-eq0 c = rw (le-ltb _ _ c.if-a-highest.false, eq-eqb _ _ c.if-a-eq0.true)

pub returns-then-a-gt-HORIZON : goal.returns-then-a-gt-HORIZON
unfolding arrival_refusal verdict
returns-then-a-gt-HORIZON c =
    rw (le-ltb _ _ c.if-a-highest.false, ne_eqb _ _ c.if-a-eq0.false, lt-ltb _ _ c.if-a-gt-HORIZON.true)

pub returns : goal.returns
unfolding arrival_refusal verdict
returns c =
    rw (le-ltb _ _ c.if-a-highest.false, ne_eqb _ _ c.if-a-eq0.false, le-ltb _ _ c.if-a-gt-HORIZON.false)
