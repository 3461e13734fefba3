-- Whether every minute from now on has nodes enough. Document 02, No. 11: "every minute fits the rack". More nodes are taken in a minute than in
-- the one before only if a span begins in it, so that the beginnings are all that need to be tried.
-- Assumes nothing.
use Rattle.std.specs.Prelude.{max, Bool, List, ℕ, leb}
use Rattle.lists.specs.Every.{every}
use Rattle.spans.specs.declared.Span.{Span}
use Rattle.spans.specs.Spans.{used}

-- the spans take no more than N nodes in the minute in which each begins, or now if that is past
abbrev pub fits_every : ℕ → List Span → ℕ → Bool
fits_every N xs now = every (λ (x : Span). leb (used (max now x.from) xs) N) xs
