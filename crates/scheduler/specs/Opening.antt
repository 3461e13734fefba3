-- Opening. Document 01: "A desk is opened with nodes, first minute and first ticket"; "A refused opening hands back an empty desk
-- of its kind with 1 node, minute 0 and ticket 1"; order 1, 3, and by document 02, 12 and 13, with 16 ahead of all others.
-- Assumes nothing.
use Rattle.std.specs.Prelude.{◌||◌, cond, [], ◌∷◌, ltb}
use Rattle.scheduler.specs.declared.Refusal.{Refusal}
use Rattle.scheduler.specs.declared.Refusal.TheVariants as refusal
use Rattle.scheduler.specs.declared.Opening.{Opening}
use Rattle.scheduler.specs.declared.Opened.{Opened}
use Rattle.scheduler.specs.Limits.{max_nodes, horizon, last_ticket, longest_estimate, longest_cleanup, outside, misdivided}
use Rattle.scheduler.specs.Settings.{refused_settings}
use Rattle.scheduler.specs.Model.{Model, empty, store}
use Rattle.scheduler.specs.Answers.{verdict, accepts}

-- 16: "a longest estimate outside 1 to 10,080"; 1: "rack nodes outside 1 to 1,024"; 3: "first minute above 1,000,000, or first ticket outside
-- 1 to 999,999"; 12: "clearing above 30, after 3 at opening"; 13: "the places do not sum to 64 or one is 0, last at opening"
unfoldable pub opening_refusal : Opening → Refusal
opening_refusal o =
    verdict
    ((outside 1 longest_estimate o.settings.longest, refusal.LongestOutOfRange)
    ∷ (outside 1 max_nodes o.settings.nodes, refusal.NodesOutOfRange)
    ∷ (ltb horizon o.minute || outside 1 last_ticket o.ticket, refusal.OpeningOutOfRange)
    ∷ (ltb longest_cleanup o.settings.cleanup, refusal.CleanupOutOfRange)
    ∷ (misdivided o.settings.quota_a o.settings.quota_b, refusal.QuotasOutOfRange)
    ∷ [])

unfoldable pub opening : Opening → Model
opening o = cond (accepts (opening_refusal o)) (empty o.settings o.minute o.ticket) (empty (refused_settings o.settings.kind) 0 1)

unfoldable pub opened : Opening → Opened
opened o = record { refusal = opening_refusal o; scheduler = store (opening o) }
