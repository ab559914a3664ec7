-- What is said of the printing program's input, in the paper's words. Text.antt reads it by tests; here stand the sentences that
-- they test, about the bytes and lines themselves: how an input falls into lines, what a number and a template's text are, which
-- line is told with 18, and what an input is that has no such line; and at the end that the tests say them, which
-- proofs/TextRefused.antt proves. Bytes are written by their numbers, as there.
use mathlib.Core.List.{List, ◌∷◌, ◌++◌, [], Memᴰ, map}
use Rattle.std.specs.Prelude.{◌≡◌, ◌↔◌, ℕ, suc, ◌^◌, ◌≤◌, ◌<◌, length, drop, get_or, replicate}
use Rattle.rules.specs.Calls.{begin_rule}
use Rattle.rules.specs.Letters.{value}
use Rattle.rules.specs.Limits.{text_bytes, text_gap_digits, text_quorum_digits}
use Rattle.rules.specs.Lists.{each, joined}
use Rattle.rules.specs.Refusals.{first}
use Rattle.rules.specs.Template.{none}
use Rattle.rules.specs.Text.{lines, unended, nth_line, decimal, template_text, parsed, malformed, parse_number, parse_components, template_of, text_checks, parse_template, print_refused, print_told, print_rule}
use Rattle.rules.specs.Told.{fine, refused}
use Rattle.rules.specs.declared.Component.{Component}
use Rattle.rules.specs.declared.Profile.TheVariants.{Exact}

-- LINES. A text that does not hold byte b
abbrev pub Without : ℕ → List ℕ → Type 0
Without b text = Memᴰ b text → ⊥

-- none of some texts does
abbrev pub WithoutAll : ℕ → List (List ℕ) → Type 0
WithoutAll b texts = (text : List ℕ) → Memᴰ text texts → Without b text

-- a line with its end
abbrev pub with_end : List ℕ → List ℕ
with_end l = l ++ (10 ∷ [])

-- an input is its lines, each with a byte 10 after it, and what follows the last of them; none of these holds a 10
pub record Lined (input : List ℕ) (ls : List (List ℕ)) (rest : List ℕ) : Type 0 where
  pub whole : input ≡ each with_end ls ++ rest
  pub no_end_within : WithoutAll 10 ls
  pub no_end_after : Without 10 rest

-- NUMBERS have 1 to `most` digits, with no leading zero but 0 itself
pub record NumberText (most : ℕ) (text : List ℕ) : Type 0 where
  pub some : 1 ≤ length text
  pub few : length text ≤ most
  pub all_digits : (b : ℕ) → Memᴰ b text → (48 ≤ b) × (b ≤ 57)
  pub no_leading_zero : get_or text 0 0 ≡ 48 → length text ≡ 1

-- TEMPLATE TEXT is runs of at least one N with [l,u] between. What stands after the [ of a component: its range and its run, as in
-- 0,1]NN
abbrev pub component_text : Component → List ℕ
component_text c = decimal c.low ++ 44 ∷ decimal c.high ++ 93 ∷ replicate c.length 78

-- components that can be written so: there is a first, which has no range before it; each has an N; and a number of a range has
-- 1 to 3 digits
pub record Writable (cs : List Component) : Type 0 where
  pub some : 1 ≤ length cs
  pub runs : (c : Component) → Memᴰ c cs → 1 ≤ c.length
  pub no_range : ((get_or cs 0 none).low ≡ 0) × ((get_or cs 0 none).high ≡ 0)
  pub ranges : (c : Component) → Memᴰ c (drop 1 cs) → (c.low < 10 ^ text_gap_digits) × (c.high < 10 ^ text_gap_digits)

-- no component of these has an allowance: text does not tell one, and so none is read from it
abbrev pub Unmixed : List Component → Type 0
Unmixed cs = (c : Component) → Memᴰ c cs → c.allowance ≡ 0

-- a line that is a template's text
abbrev pub TemplateText : List ℕ → Type 0
TemplateText text = (cs : List Component) × (text ≡ template_text cs) × Writable cs

-- REFUSAL 18. A line of an input is bad, by its number from 1; number 0 is for the input as a whole
pub data BadLine (input : List ℕ) (p : ℕ) : Type 0 where
  -- the input is over 60,000 bytes
  too_long : p ≡ 0 → text_bytes < length input → BadLine input p
  -- the first or the second line is missing
  missing : 1 ≤ p → p ≤ 2 → length (lines input) < p → BadLine input p
  -- the first is there, and is no template's text
  no_template : p ≡ 1 → 1 ≤ length (lines input) → (TemplateText (nth_line input 1) → ⊥) → BadLine input p
  -- the second is there, and is no number of 1 to 5 digits
  no_quorum : p ≡ 2 → 2 ≤ length (lines input) → (NumberText text_quorum_digits (nth_line input 2) → ⊥) → BadLine input p
  -- the last line has no end: it stands after the lines that have one
  no_end : p ≡ suc (length (lines input)) → 1 ≤ length (unended input) → BadLine input p

-- the lowest if several: a line is bad, and none of a lower number
pub record LowestBad (input : List ℕ) (p : ℕ) : Type 0 where
  pub bad : BadLine input p
  pub before : (q : ℕ) → q < p → BadLine input q → ⊥

-- AN INPUT THAT IS READ: the template's text, the quorum, then one sequence a line, each line ended by byte 10
pub record Reads (input : List ℕ) (cs : List Component) (quorum : ℕ) (ss : List (List ℕ)) : Type 0 where
  pub short : length input ≤ text_bytes
  pub whole : input ≡ each with_end (template_text cs ∷ decimal quorum ∷ ss)
  pub writable : Writable cs
  pub few_digits : quorum < 10 ^ text_quorum_digits
  pub no_end_within : WithoutAll 10 ss

-- WHAT THE PAPER SAYS OF THE INPUT: what is read of it, what is refused, and what is printed
pub record TextRefused : Type 0 where
  -- an input is its lines, each ended by byte 10, and what follows the last of them, with no byte 10 in any; and it is so in one
  -- way only
  pub in_lines : (input : List ℕ) (ls : List (List ℕ)) (rest : List ℕ) → Lined input ls rest ↔ ((ls ≡ lines input) × (rest ≡ unended input))
  -- a number has 1 to so many digits, with no leading zero but 0 itself; any other text is malformed
  pub no_number : (most : ℕ) (text : List ℕ) → (parse_number most text ≡ malformed) ↔ (NumberText most text → ⊥)
  -- a text of so many digits is read as the number below that power of ten of which it is the decimal text
  pub number : (most : ℕ) (text : List ℕ) (n : ℕ) → 1 ≤ most → most ≤ 20 → (parse_number most text ≡ parsed n) ↔ ((text ≡ decimal n) × (n < 10 ^ most))
  -- template text is runs of N with [l,u] between: a run, and for each later component a [ and its text, l,u] and its run
  pub runs : (c : Component) (cs : List Component) → template_text (c ∷ cs) ≡ replicate c.length 78 ++ each (λ p. 91 ∷ p) (map component_text cs)
  -- a line is read as the components that it is the text of, if they have at least one N each, numbers of 1 to 3 digits, and no
  -- allowance, which text does not tell
  pub components : (text : List ℕ) (cs : List Component) → (parse_components text ≡ parsed cs) ↔ ((text ≡ template_text cs) × Writable cs × Unmixed cs)
  -- so the template that is read asks for an exact search
  pub exact : (input : List ℕ) → (parse_template input).profile ≡ Exact
  -- and a line that is the text of none is malformed
  pub no_components : (text : List ℕ) → (parse_components text ≡ malformed) ↔ (TemplateText text → ⊥)
  -- an input is refused with 18 and the number of its lowest bad line: too long (0), the first or second malformed or missing,
  -- or the last without its end
  pub lowest_line : (input : List ℕ) (n p : ℕ) → (first (text_checks input) ≡ refused n p) ↔ ((n ≡ 18) × LowestBad input p)
  -- it passes exactly if no line is bad
  pub no_line : (input : List ℕ) → (first (text_checks input) ≡ fine) ↔ ((p : ℕ) → BadLine input p → ⊥)
  -- and that is exactly if it is the text of a template, a quorum and sequences
  pub passes : (input : List ℕ) → (first (text_checks input) ≡ fine) ↔ ((cs : List Component) × (quorum : ℕ) × (ss : List (List ℕ)) × Reads input cs quorum ss)
  -- 18 comes before all others
  pub before_all : (input : List ℕ) (p : ℕ) → LowestBad input p → print_rule input ≡ print_refused 18 p
  -- and else what is printed is what a search with that template and quorum over these sequences tells
  pub searched : (input : List ℕ) (cs : List Component) (quorum : ℕ) (ss : List (List ℕ)) → Reads input cs quorum ss
      → print_rule input ≡ print_told (map (map value) ss) (begin_rule (joined ss) (map length ss) (template_of cs) quorum)
