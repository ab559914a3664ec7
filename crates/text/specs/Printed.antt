-- What printing leaves in a buffer, and a row from its motif and its two numbers.
use Rattle.std.specs.Prelude.{List, [], ◌∷◌, ◌++◌, map, ◌≡◌, ℕ, ◌+◌, ◌*◌, ◌≤◌, length, take, drop}
use Rattle.std.proofs.lemmas.List.Edits.{sets}
use Rattle.rules.specs.Letters.{letter}
use Rattle.rules.specs.Limits.{letter_bases}
use Rattle.rules.specs.Lists.{put, sum}
use Rattle.rules.specs.Motif.{spell}
use Rattle.rules.specs.Template.{components}
use Rattle.rules.specs.Text.{decimal, shape_rest, print_motif}
use Rattle.rules.specs.declared.Component.{Component}
use Rattle.rules.specs.declared.Template.{Template}
use Rattle.text.specs.declared.print.Printer.{Printer}

-- room for the longest line that is printed
abbrev pub line_room : ℕ
line_room = 256

-- a buffer with a text written to it from a place on
unfoldable pub write : ℕ → List ℕ → List ℕ → List ℕ
write at text out = sets out at text

-- `text` was written from `at` on, and `next` is the place after it
pub record Wrote (at : ℕ) (text before after : List ℕ) (next : ℕ) : Type 0 where
  pub out : after ≡ write at text before
  pub end : next ≡ at + length text

-- a printer has room for a text, and has written it behind what it wrote before
abbrev pub HasRoom : List ℕ → Printer → Type 0
HasRoom text before = before.at + length text ≤ length before.out.now

abbrev pub HasLine : Printer → Type 0
HasLine before = before.at + line_room ≤ length before.out.now

pub record Prints (text : List ℕ) (before after : Printer) : Type 0 where
  pub wrote : Wrote before.at text before.out.now after.out.now after.at
  pub same : after.out.ghost_name ≡ before.out.ghost_name

-- a line stands at the front of a buffer, `next` bytes long, and what lies past it is as it was
pub record WroteLine (text before after : List ℕ) (next : ℕ) : Type 0 where
  pub out : after ≡ put text before
  pub end : next ≡ length text
  pub short : next ≤ line_room

-- two numbers with a byte before, between and after them: a gap range is `number_pair 91 low 44 high 93`, and a line ends in
-- `number_pair 32 a 32 b 10`
unfoldable pub number_pair : ℕ → ℕ → ℕ → ℕ → ℕ → List ℕ
number_pair before a between b after = before ∷ decimal a ++ between ∷ decimal b ++ after ∷ []

-- the first n of the last j letters of a motif
unfoldable pub motif_letters : ℕ → ℕ → ℕ → List ℕ
motif_letters n j m = map letter (take n (spell letter_bases j m))

-- a component after the first: its gap range, and its letters, the first of the last j of the motif
unfoldable pub ranged_word : Component → ℕ → ℕ → List ℕ
ranged_word c j m = number_pair 91 c.low 44 c.high 93 ++ motif_letters c.length j m

-- the letters of the components from index i on, and their part of a motif's shape
unfoldable pub size_from : Template → ℕ → ℕ
size_from t i = sum (map (λ c. c.length) (drop i (components t)))

unfoldable pub shape_from : Template → ℕ → ℕ → List ℕ
shape_from t i m = shape_rest (drop i (components t)) (map letter (spell letter_bases (size_from t i) m))

-- a row: the motif in the template's shape, its support and its weighted support
unfoldable pub row : Template → ℕ → ℕ → ℕ → List ℕ
row t m support weight = print_motif t m ++ 32 ∷ decimal support ++ 32 ∷ decimal weight ++ 10 ∷ []

-- a page: the lines of the rows of three tables, one after another
unfoldable pub printed_page : Template → List ℕ → List ℕ → List ℕ → List ℕ
printed_page t (m ∷ ms) (s ∷ ss) (w ∷ ws) = row t m s w ++ printed_page t ms ss ws
printed_page t [] ss ws = []
printed_page t (m ∷ ms) [] ws = []
printed_page t (m ∷ ms) (s ∷ ss) [] = []

-- a page of n rows stands at the front of a buffer, `next` bytes long, and what lies past it is as it was
pub record Page (n : ℕ) (text before after : List ℕ) (next : ℕ) : Type 0 where
  pub out : after ≡ put text before
  pub end : next ≡ length text
  pub short : next ≤ n * line_room
