-- What a scan of a file finds: a line, the first one that is not empty, and the lines up to the next record.
use Rattle.std.specs.Prelude.{Bool, ◌&&◌, not, List, [], ◌∷◌, ◌++◌, ◌≡◌, ℕ, ◌+◌, ◌-◌, ◌≤◌, ◌<◌, Option, Some, None, eqb, ltb, length, take, drop, get_or}
use Rattle.rules.specs.Fasta.{Line, line, is_text, lines_from, up_to_header, entries, texts, check_lines, ReaderRule, cursor_after}
use Rattle.rules.specs.Lists.{keep}
use Rattle.rules.specs.Told.{Verdict, fine, refused, Told, Handing}
use Rattle.rules.specs.declared.FileOffset.{FileOffset}

-- a file's bytes from one offset up to another
abbrev pub file_part : List ℕ → ℕ → ℕ → List ℕ
file_part file start end = take (end - start) (drop start file)

-- A LINE of this text begins at `at`, and what follows it begins at `next`
pub record LineAt (file : List ℕ) (at : ℕ) (text : List ℕ) (next : ℕ) : Type 0 where
  pub part : text ≡ take (length text) (drop at file)
  pub ended : at + length text ≤ next
  pub onward : at < next
  pub within : next ≤ length file
  pub lines : lines_from file at ≡ keep is_text (line at text ∷ []) ++ lines_from file next

-- THE FIRST LINE from `at` on that is not empty is that line
pub record FirstLine (file : List ℕ) (at start : ℕ) (text : List ℕ) (next : ℕ) : Type 0 where
  pub lines : lines_from file at ≡ lines_from file start
  pub line : LineAt file start text next
  pub some : 0 < length text

-- THE HEADER of the next record from `at` on is that line
pub record HeaderAt (file : List ℕ) (at start : ℕ) (text : List ℕ) (next : ℕ) : Type 0 where
  pub first : FirstLine file at start text next
  pub mark : get_or text 0 0 ≡ 62

-- whether a line begins at an offset that is no header
abbrev pub is_in_body : List ℕ → ℕ → Bool
is_in_body file at = ltb at (length file) && not (eqb (get_or file at 0) 62)

-- the lines of a record from an offset on, the one behind its header
abbrev pub body : List ℕ → ℕ → List Line
body file from = up_to_header (lines_from file from)

-- what is told of the first byte that is no letter: it is refused where it stands
abbrev pub told_bad : Option FileOffset → Verdict
told_bad None = fine
told_bad (Some o) = refused 4 o.0

-- A RECORD'S LINES from `from` on: they have `size` bytes, `bad` is the first that is no letter, and the next record begins at `next`,
-- which is the file's end where there is none
pub record BodyAt (file : List ℕ) (from size : ℕ) (bad : Option FileOffset) (next : ℕ) : Type 0 where
  pub within : next ≤ length file
  pub short : from + size ≤ next
  pub sized : size ≡ length (texts (body file from))
  pub checked : check_lines (body file from) ≡ told_bad bad
  pub rest : entries (lines_from file from) ≡ entries (lines_from file next)
  pub cursor : cursor_after file (entries (lines_from file from)) ≡ next

-- WHAT A CALL LEAVES: what it told, where the reader stands, and what the buffer of letters and the lengths table hold
abbrev pub leaves : Told Handing → ℕ → List ℕ → List ℕ → ReaderRule
leaves t at letters lengths = record { told = t; at = at; letters = letters; lengths = lengths }
