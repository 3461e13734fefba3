-- The lines of a text.
-- Assumes nothing.
use Rattle.std.specs.Prelude.{ℕ, ◌+◌, cond, List, ltb, length, drop}
use Rattle.text.specs.declared.Line.{Line}
use Rattle.text.specs.declared.Begins.{Begins}
use Rattle.text.specs.declared.Begins.TheVariants as begins
use Rattle.text.specs.Prefixes.{upto}

-- where the line that begins at a place ends: at the next byte 10, or at the text's end; past that, at the place itself
abbrev pub line_end : List ℕ → ℕ → ℕ
line_end text from = from + length (upto 10 (drop from text))

-- the line that begins at a place
-- document 01: "Text lines, each closed by byte 10", "An unclosed last line is refused by 9."
unfoldable pub line_at : List ℕ → ℕ → Line
line_at text from = record { end = line_end text from; closed = ltb (line_end text from) (length text) }

-- how a text begins that may have so many bytes
-- document 01: "a longer one prints only `no 9`, an empty one nothing"
unfoldable pub begins_of : (longest : ℕ) → List ℕ → Begins
begins_of longest text =
    cond
    (ltb longest (length text))
    begins.Malformed
    (cond (ltb (length text) 1) begins.Nothing (cond (line_at text 0).closed (begins.Line (line_at text 0).end) begins.Malformed))
