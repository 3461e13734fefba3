-- `calls::status_page` meets its contract: the page, or a refusal where there is no room for it.
-- Assumes nothing.
use native.Mathlib.Omega.{arith}
use Rattle.scheduler.specs.Model.{view}
use Rattle.status_page_rules.specs.StatusPage.{status_page_of}
use Rattle.status_page_laws.specs.Pages.{page_size}
use Rattle.calls.proofs.TextCall.{text_refused, text_shown_lem}
use Rattle.calls.proofs.status_page.Goals as goal

pub returns-then-page-lt-PAGE : goal.returns-then-page-lt-PAGE
returns-then-page-lt-PAGE c = text_refused status_page_of _ _ (omega (arith, c.if-page-lt-PAGE.true, page_size (view c.args.d) c.requires.holds))

pub returns : goal.returns
returns c =
    text_shown_lem status_page_of _ _ (omega (arith, c.if-page-lt-PAGE.false, page_size (view c.args.d) c.requires.holds)) c.put_page-count.ensures
