-- The printing program: how its input is read, and all that it prints. Bytes are written by their numbers: 10 ends a line,
-- 32 is a space, 44 a comma, 48 to 57 the digits, 78 an N, 91 and 93 the brackets.
use Rattle.std.specs.Prelude.{Bool, true, false, ◌&&◌, ◌||◌, not, List, [], ◌∷◌, ◌++◌, map, ℕ, zero, suc, ◌+◌, ◌-◌, ◌/◌, ◌%◌, eqb, leb, ltb, length, take, drop, get_or, replicate}
use Rattle.rules.specs.Calls.{begin_rule}
use Rattle.rules.specs.Letters.{letter}
use Rattle.rules.specs.Limits.{letter_bases, text_bytes, text_gap_digits, text_quorum_digits}
use Rattle.rules.specs.Lists.{if, all_pass, each, joined, has_some, sum}
use Rattle.rules.specs.Motif.{number, spell}
use Rattle.rules.specs.Refusals.{first}
use Rattle.rules.specs.Sequences.{sequences}
use Rattle.rules.specs.Support.{support, weight, parts}
use Rattle.rules.specs.Template.{component, none, components, size}
use Rattle.rules.specs.Told.{Verdict, fine, refused, Told, gives, refuses}
use Rattle.rules.specs.Walk.{Walk, walk_over, from, start, listed}
use Rattle.rules.specs.declared.Component.{Component}
use Rattle.rules.specs.declared.Profile.TheVariants.{Exact}
use Rattle.rules.specs.declared.Search.{Search}
use Rattle.rules.specs.declared.Template.{Template}

-- READING. What a text comes to, if it is well formed
pub data Parsed (A : Type 0) : Type 0 where
  parsed : A → Parsed A
  malformed : Parsed A

abbrev pub is_well_formed : {A : Type 0} → Parsed A → Bool
is_well_formed (parsed a) = true
is_well_formed malformed = false

-- the pieces of a text between the bytes b: of "a,b," at the comma they are "a", "b" and ""
abbrev pub onto : ℕ → List (List ℕ) → List (List ℕ)
onto x [] = (x ∷ []) ∷ []
onto x (piece ∷ rest) = (x ∷ piece) ∷ rest

unfoldable pub pieces : ℕ → List ℕ → List (List ℕ)
pieces b [] = [] ∷ []
pieces b (x ∷ xs) = let rest = pieces b xs in if (eqb x b) ([] ∷ rest) (onto x rest)

-- a number of 1 to `most` digits, with no leading zero but 0 itself: whether a text is one, and which
abbrev pub is_in_range : ℕ → ℕ → ℕ → Bool
is_in_range low high b = leb low b && leb b high

unfoldable pub is_number_text : ℕ → List ℕ → Bool
is_number_text most ds = leb 1 (length ds) && leb (length ds) most && all_pass (is_in_range 48 57) ds && (eqb (length ds) 1 || not (eqb (get_or ds 0 0) 48))

unfoldable pub digits : List ℕ → ℕ
digits ds = number 10 (map (λ b. b - 48) ds)

unfoldable pub parse_number : ℕ → List ℕ → Parsed ℕ
parse_number most ds = if (is_number_text most ds) (parsed (digits ds)) malformed

-- a run of at least one N
unfoldable pub is_run : List ℕ → Bool
is_run text = has_some text && all_pass (λ b. eqb b 78) text

-- a component of the template's text that has a gap range before it, from the text after its [
abbrev pub ranged : Parsed ℕ → Parsed ℕ → List ℕ → Parsed Component
ranged (parsed l) (parsed u) text = if (is_run text) (parsed (component (length text) l u)) malformed
ranged (parsed l) malformed text = malformed
ranged malformed u text = malformed

-- l and the rest, which at its ] falls into u and the run
abbrev pub parse_ranged : List ℕ → List (List ℕ) → Parsed Component
parse_ranged l [] = malformed
parse_ranged l (u ∷ []) = malformed
parse_ranged l (u ∷ text ∷ []) = ranged (parse_number text_gap_digits l) (parse_number text_gap_digits u) text
parse_ranged l (u ∷ text ∷ more ∷ rest) = malformed

abbrev pub parse_pair : List (List ℕ) → Parsed Component
parse_pair [] = malformed
parse_pair (l ∷ []) = malformed
parse_pair (l ∷ rest ∷ []) = parse_ranged l (pieces 93 rest)
parse_pair (l ∷ rest ∷ more ∷ others) = malformed

unfoldable pub parse_component : List ℕ → Parsed Component
parse_component piece = parse_pair (pieces 44 piece)

-- the first component has no range before it
unfoldable pub parse_first : List ℕ → Parsed Component
parse_first text = if (is_run text) (parsed (component (length text) 0 0)) malformed

abbrev pub cons : {A : Type 0} → Parsed A → Parsed (List A) → Parsed (List A)
cons (parsed x) (parsed xs) = parsed (x ∷ xs)
cons (parsed x) malformed = malformed
cons malformed xs = malformed

unfoldable pub parse_rest : List (List ℕ) → Parsed (List Component)
parse_rest [] = parsed []
parse_rest (piece ∷ rest) = cons (parse_component piece) (parse_rest rest)

abbrev pub parse_pieces : List (List ℕ) → Parsed (List Component)
parse_pieces [] = malformed
parse_pieces (piece ∷ rest) = cons (parse_first piece) (parse_rest rest)

unfoldable pub parse_components : List ℕ → Parsed (List Component)
parse_components line = parse_pieces (pieces 91 line)

-- a template of some components; refusal 5 is for those that have no slot
unfoldable pub template_of : List Component → Template
template_of cs =
    record {
      profile = Exact;
      count = length cs;
      c1 = get_or cs 0 none;
      c2 = get_or cs 1 none;
      c3 = get_or cs 2 none;
      c4 = get_or cs 3 none;
      c5 = get_or cs 4 none;
      c6 = get_or cs 5 none;
    }

-- the lines, each ended by byte 10, and what follows the last of them
unfoldable pub but_last : List (List ℕ) → List (List ℕ)
but_last [] = []
but_last (x ∷ []) = []
but_last (x ∷ y ∷ ys) = x ∷ but_last (y ∷ ys)

unfoldable pub last : List (List ℕ) → List ℕ
last [] = []
last (x ∷ []) = x
last (x ∷ y ∷ ys) = last (y ∷ ys)

unfoldable pub lines : List ℕ → List (List ℕ)
lines input = but_last (pieces 10 input)

unfoldable pub unended : List ℕ → List ℕ
unended input = last (pieces 10 input)

-- refusal 18 at a line, if a test says so
abbrev pub refuse_line : Bool → ℕ → Verdict
refuse_line b n = if b (refused 18 n) fine

-- the lines by number, from 1; one that is not there is empty, and so malformed
abbrev pub nth_line : List ℕ → ℕ → List ℕ
nth_line input n = get_or (lines input) (n - 1) []

-- too long; the first line; the second; a last line without its end
unfoldable pub text_checks : List ℕ → List Verdict
text_checks input =
    refuse_line (ltb text_bytes (length input)) 0
    ∷ refuse_line (not (is_well_formed (parse_components (nth_line input 1)))) 1
    ∷ refuse_line (not (is_well_formed (parse_number text_quorum_digits (nth_line input 2)))) 2
    ∷ refuse_line (has_some (unended input)) (suc (length (lines input)))
    ∷ []

abbrev pub or_else : {A : Type 0} → Parsed A → A → A
or_else (parsed a) b = a
or_else malformed b = b

unfoldable pub parse_template : List ℕ → Template
parse_template input = template_of (or_else (parse_components (nth_line input 1)) [])

unfoldable pub parse_quorum : List ℕ → ℕ
parse_quorum input = or_else (parse_number text_quorum_digits (nth_line input 2)) 0

-- one sequence a line
unfoldable pub parse_letters : List ℕ → List ℕ
parse_letters input = joined (drop 2 (lines input))

unfoldable pub parse_lengths : List ℕ → List ℕ
parse_lengths input = map length (drop 2 (lines input))

-- PRINTING. A number below ten to the power d in its digits
unfoldable pub digits_of : ℕ → ℕ → List ℕ
digits_of zero n = []
digits_of (suc d) n = let higher = digits_of d (n / 10) in if (ltb n 10) [] higher ++ ((48 + n % 10) ∷ [])

-- 2 to the power 64 has twenty
unfoldable pub decimal : ℕ → List ℕ
decimal n = digits_of 20 n

-- a text in the shape of some components, each after its range: [0,1]G
unfoldable pub shape_rest : List Component → List ℕ → List ℕ
shape_rest [] text = []
shape_rest (c ∷ cs) text = 91 ∷ decimal c.low ++ 44 ∷ decimal c.high ++ 93 ∷ take c.length text ++ shape_rest cs (drop c.length text)

-- and of a template's, of which the first has no range before it: A[0,1]G
unfoldable pub shape : List Component → List ℕ → List ℕ
shape [] text = []
shape (c ∷ cs) text = take c.length text ++ shape_rest cs (drop c.length text)

-- the template's own text has an N for every letter: N[0,1]N
unfoldable pub template_text : List Component → List ℕ
template_text cs = shape cs (replicate (sum (map (λ c. c.length) cs)) 78)

-- a motif in the template's shape. The program's searches are exact
unfoldable pub print_motif : Template → ℕ → List ℕ
print_motif t m = shape (components t) (map letter (spell letter_bases (size t) m))

-- a row: the motif, its support and its weighted support
unfoldable pub print_row : List (List ℕ) → Template → ℕ → List ℕ
print_row ss t m = print_motif t m ++ 32 ∷ decimal (support (parts t (size t) m) ss) ++ 32 ∷ decimal (weight (parts t (size t) m) ss) ++ 10 ∷ []

-- "end", the steps, the rows
unfoldable pub print_end : ℕ → ℕ → List ℕ
print_end steps rows = 101 ∷ 110 ∷ 100 ∷ 32 ∷ decimal steps ++ 32 ∷ decimal rows ++ 10 ∷ []

-- "refused", the number, the place
unfoldable pub print_refused : ℕ → ℕ → List ℕ
print_refused n p = 114 ∷ 101 ∷ 102 ∷ 117 ∷ 115 ∷ 101 ∷ 100 ∷ 32 ∷ decimal n ++ 32 ∷ decimal p ++ 10 ∷ []

-- the whole search, printed
unfoldable pub print_search : List (List ℕ) → Search → List ℕ
print_search ss s =
    let W : Walk = walk_over s.template s.quorum ss in
    let ms = listed W (from W (start W)) in
    each (print_row ss s.template) ms ++ print_end (length (from W (start W))) (length ms)

abbrev pub print_told : List (List ℕ) → Told Search → List ℕ
print_told ss (gives s) = print_search ss s
print_told ss (refuses n p) = print_refused n p

abbrev pub print_checked : Verdict → List (List ℕ) → Told Search → List ℕ
print_checked fine ss r = print_told ss r
print_checked (refused n p) ss r = print_refused n p

-- THE RULE of the program: all that it prints for an input
unfoldable pub print_rule : List ℕ → List ℕ
print_rule input =
    print_checked (first (text_checks input)) (sequences (parse_letters input) (parse_lengths input))
    (begin_rule (parse_letters input) (parse_lengths input) (parse_template input) (parse_quorum input))
