-- THE PRINTOUT, page after page: each page is a function of what is left to print, and so is what is left after it. `text_left`
-- says what all of them come to.
use Rattle.std.specs.Prelude.{Bool, false, List, [], ◌++◌, ◌≡◌, ℕ, zero, suc, ◌+◌, ◌*◌, ◌^◌, ◌≤◌, ◌<◌, length}
use Rattle.rules.specs.Calls.{LegRule, on_refusal, leg_rule, moved, stretch}
use Rattle.rules.specs.Legs.{is_ended, Stretch}
use Rattle.rules.specs.declared.Stop.{Stop}
use Rattle.rules.specs.Lists.{each, put}
use Rattle.rules.specs.Refusals.{first, search_checks}
use Rattle.rules.specs.Sequences.{sequences}
use Rattle.rules.specs.Text.{print_row, print_end, print_refused}
use Rattle.rules.specs.Told.{Told, gives, refuses, fine}
use Rattle.rules.specs.Walk.{from, listed, walk_of}
use Rattle.rules.specs.declared.Place.{Place}
use Rattle.rules.specs.declared.Search.{Search}
use Rattle.text.specs.Printed.{line_room}
use Rattle.motifs.specs.declared.pages.Page.{Page}
use Rattle.motifs.specs.declared.pages.Pages.{Pages}
use Rattle.motifs.specs.declared.pages.Way.{Way}
use Rattle.motifs.specs.Left.{Left, refusal, rows, end, nothing, told_rest, rows_or_end}

-- the most rows of a page, the most steps of its leg, and the bytes of a full page
abbrev pub page_rows : ℕ
page_rows = 256

abbrev pub page_steps : ℕ
page_steps = 16384

abbrev pub page_bytes : ℕ
page_bytes = page_rows * line_room

-- a leg that ended the search
abbrev pub is_ended_told : Told Stop → Bool
is_ended_told (gives a) = is_ended a
is_ended_told (refuses n p) = false

module _ (letters lengths : List ℕ) where
  -- some motifs of a search, a line for each
  unfoldable pub print_rows : Search → List ℕ → List ℕ
  print_rows s ms = each (print_row (sequences letters lengths) s.template) ms

  -- the rows of a leg, a line for each; a refused leg has none
  unfoldable pub leg_page : Search → ℕ → ℕ → List ℕ
  leg_page s budget room = on_refusal (first (search_checks letters lengths s)) (λ n p. []) (print_rows s (stretch letters lengths s budget room).motifs)

  -- the stretch of the walk that the next page covers
  abbrev pub covered : Way → Stretch
  covered w = stretch letters lengths w.search page_steps page_rows

  -- THE NEXT PAGE of what is left
  unfoldable pub page_of : Left → List ℕ
  page_of (refusal n p) = print_refused n p
  page_of (rows w) = print_rows w.search (covered w).motifs
  page_of (end steps found) = print_end steps found
  page_of nothing = []

  -- and what is left after it
  unfoldable pub left_after : Left → Left
  left_after (refusal n p) = nothing
  left_after (rows w) = let l : Stretch = covered w in rows_or_end w (is_ended l.stop) l.steps (length l.motifs) (moved w.search l.at)
  left_after (end steps found) = nothing
  left_after nothing = nothing

  -- THE PAGES laid end to end, the first n; and what is left after n
  unfoldable pub pages : ℕ → Left → List ℕ
  pages zero s = []
  pages (suc n) s = page_of s ++ pages n (left_after s)

  unfoldable pub left_at : ℕ → Left → Left
  left_at zero s = s
  left_at (suc n) s = left_at n (left_after s)

  -- the candidates from where a search goes on
  abbrev pub to_try : Way → List Place
  to_try w = from (walk_of letters lengths w.search) w.search.place

  abbrev pub to_list : Way → List ℕ
  to_list w = listed (walk_of letters lengths w.search) (to_try w)

  -- THE WHOLE TEXT of what is left: of a search all its rows, and the end line with all its steps and rows
  unfoldable pub text_left : Left → List ℕ
  text_left (refusal n p) = print_refused n p
  text_left (rows w) = print_rows w.search (to_list w) ++ print_end (w.steps + length (to_try w)) (w.rows + length (to_list w))
  text_left (end steps found) = print_end steps found
  text_left nothing = []

  -- a search that can be gone on with: it passes its checks, and all its steps and rows can be counted
  pub record Goes (w : Way) : Type 0 where
    pub passes : first (search_checks letters lengths w.search) ≡ fine
    pub few : w.steps + length (to_try w) < 2 ^ 64
    pub fewer : w.rows ≤ w.steps

  abbrev pub Printable : Left → Type 0
  Printable (refusal n p) = Unit {0}
  Printable (rows w) = Goes w
  Printable (end steps found) = Unit {0}
  Printable nothing = Unit {0}

  -- the next page of s stands at the front of a buffer, and what lies past it is as it was
  pub record Next (s : Left) (before after : List ℕ) (p : Page) : Type 0 where
    pub out : after ≡ put (page_of s) before
    pub end : p.length ≡ length (page_of s)
    pub left : told_rest p.left ≡ left_after s
    pub short : p.length ≤ length after

-- a leg over the sequences and into the tables of some pages
abbrev pub leg_over : Pages → Search → ℕ → LegRule
leg_over p s budget = leg_rule p.set.letters.now p.set.lengths.now s budget p.motifs p.supports p.weights

-- the sequences are as they were, and the buffer has its bytes
abbrev pub Kept : Pages → Pages → Type 0
Kept before after = (after.set.letters.now ≡ before.set.letters.now) × (after.set.lengths.now ≡ before.set.lengths.now) × (length after.out ≡ page_bytes)
