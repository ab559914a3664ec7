-- Pages laid end to end: a page and what is left after it are what was left before, since a leg passes the candidates between
-- its two places; and every page leaves less.
use mathlib.Core.Path.{◌≡◌, refl, sym, ap, ◌∙◌}
use mathlib.Core.Bool.{Bool, true, false, false≢true}
use mathlib.Core.List.{List, [], ◌++◌, append_assoc, append-nil}
use Prim.Native.Nat.{ℕ, ◌+◌, ◌^◌, ◌<◌}
use native.Mathlib.Omega.{arith}
use lib.ListN.{length, length-append}
use borrow.Author.Tests.{eqb-true}
use Rattle.rules.specs.Calls.{moved, leg_rule, stretch}
use Rattle.rules.specs.Legs.{is_ended, Stretch, leg, Passed}
use Rattle.rules.specs.Refusals.{first, search_checks}
use Rattle.rules.specs.Lists.{each, keep}
use Rattle.rules.specs.Sequences.{sequences}
use Rattle.rules.specs.Text.{print_end, print_refused}
use Rattle.rules.specs.Told.{gives, fine, LegTold}
use Rattle.rules.specs.Walk.{Walk, from, listed, walk_of}
use Rattle.rules.specs.declared.Search.{Search}
use Rattle.rules.proofs.Lists.{each_append}
use Rattle.rules.proofs.Places.{sound_passing, moved_sound}
use Rattle.rules.proofs.Relayed.{leg_passing}
use Rattle.rules.proofs.Searches.{walk_pos}
use Rattle.rules.proofs.Sound.{search_sound, search_fine}
use Rattle.rules.proofs.Step.{at_end}
use Rattle.rules.proofs.Whole.{listed_append}
use Rattle.legs.specs.AcceptedLeg.{room_of}
use Rattle.motifs.specs.declared.pages.Way.{Way}
use Rattle.motifs.specs.Left.{Left, refusal, rows, end, nothing, has_more, further, rows_or_end}
use Rattle.motifs.specs.Pages.{page_rows, page_steps, is_ended_told, print_rows, leg_page, covered, page_of, left_after, to_try, to_list, text_left, Goes, Printable}
use Rattle.motifs.proofs.Leg.{accepted, rows_few, moves}

-- how much is left: a line, or the candidates and a line
abbrev pub amount : List ℕ → List ℕ → Left → ℕ
amount letters lengths (refusal n p) = 1
amount letters lengths (rows w) = 2 + length (to_try letters lengths w)
amount letters lengths (end steps found) = 1
amount letters lengths nothing = 0

-- an end line with no more steps and rows
none_more : (steps found : ℕ) → print_end (steps + 0) (found + 0) ≡ print_end steps found
none_more steps found = let a : steps + 0 ≡ steps = omega arith in let b : found + 0 ≡ found = omega arith in rw (a, b)

module _ (letters lengths : List ℕ) where
  -- where a leg leaves a search, the next accepts it
  next_fine : (s : Search) (budget room : ℕ) → first (search_checks letters lengths s) ≡ fine → first (search_checks letters lengths (moved s (stretch letters lengths s budget room).at)) ≡ fine
  unfolding stretch
  next_fine s budget room e =
      let o = search_sound letters lengths s e in
      let p = leg_passing letters lengths s o budget room s.place (sound_passing letters lengths s o) in
      search_fine letters lengths (moved s (leg (walk_of letters lengths s) budget room s.place).at) (moved_sound letters lengths s o _ p)

  module _ (w : Way) (g : Goes letters lengths w) where
    W : Walk
    W = walk_of letters lengths w.search

    l : Stretch
    l = covered letters lengths w

    -- the way after the next page
    v : Way
    v = further w l.steps (length l.motifs) (moved w.search l.at)

    passed : Passed W w.search.place l
    unfolding W l
    passed = accepted letters lengths w.search g.passes page_steps page_rows

    tried : length (from W w.search.place) ≡ l.steps + length (from W l.at)
    tried = rw (passed.split, length-append) (omega (arith, passed.counts))

    found : listed W (from W w.search.place) ≡ l.motifs ++ listed W (from W l.at)
    found = ap (listed W) passed.split ∙ listed_append W passed.taken (from W l.at) ∙ ap (λ ms. ms ++ listed W (from W l.at)) (sym passed.lists)

    -- it can be gone on with
    further_goes : Goes letters lengths v
    unfolding W l v
    further_goes =
        record {
          passes = next_fine w.search page_steps page_rows g.passes;
          few = omega (arith, g.few, tried);
          fewer = omega (arith, g.fewer, rows_few letters lengths w.search g.passes page_steps page_rows);
        }

    -- an ended search has no candidate left
    none_left : is_ended l.stop ≡ true → from W l.at ≡ []
    unfolding W
    none_left e = at_end (walk_of letters lengths w.search) (walk_pos w.search.template w.search.quorum (sequences letters lengths)) _ (eqb-true _ 0 (sym passed.says ∙ e))

    -- the page, and what is left
    rows_more : text_left letters lengths (rows w) ≡ print_rows letters lengths w.search l.motifs ++ text_left letters lengths (rows v)
    unfolding text_left W l v print_rows
    rows_more =
        let steps : w.steps + length (to_try letters lengths w) ≡ v.steps + length (to_try letters lengths v) = omega (arith, tried) in
        let rows : w.rows + length (to_list letters lengths w) ≡ v.rows + length (to_list letters lengths v) = rw (found, length-append) (omega arith) in
        rw (steps, rows, found, each_append _ l.motifs (to_list letters lengths v), append_assoc)

    -- the last page of rows, and the end line
    rows_last : is_ended l.stop ≡ true → text_left letters lengths (rows v) ≡ print_end v.steps v.rows
    unfolding text_left W v print_rows listed keep each
    rows_last e = rw (none_left e) (none_more v.steps v.rows)

    rows_of_page : (b : Bool) → is_ended l.stop ≡ b
        → text_left letters lengths (rows w) ≡ print_rows letters lengths w.search l.motifs ++ text_left letters lengths (rows_or_end w b l.steps (length l.motifs) (moved w.search l.at))
    unfolding text_left v
    rows_of_page true e = rows_more ∙ ap (λ (t : List ℕ). print_rows letters lengths w.search l.motifs ++ t) (rows_last e)
    rows_of_page false e = rows_more

    ready_rows : (b : Bool) → Printable letters lengths (rows_or_end w b l.steps (length l.motifs) (moved w.search l.at))
    unfolding v
    ready_rows true = tt
    ready_rows false = further_goes

    less_rows : (b : Bool) → is_ended l.stop ≡ b → amount letters lengths (rows_or_end w b l.steps (length l.motifs) (moved w.search l.at)) < 2 + length (to_try letters lengths w)
    unfolding W l
    less_rows true e = omega arith
    less_rows false e = omega (arith, tried, moves letters lengths w.search g.passes page_steps page_rows (omega arith) (omega arith) e)

    -- the rows of the leg are the page
    pub leg_page_is : leg_page letters lengths w.search page_steps page_rows ≡ page_of letters lengths (rows w)
    unfolding leg_page page_of
    leg_page_is = rw g.passes

    module _ (motifs supports weights : List ℕ) (r : room_of motifs supports weights ≡ page_rows) where
      told_is : (leg_rule letters lengths w.search page_steps motifs supports weights).told
          ≡ record { answer = gives l.stop; steps = l.steps; rows = length l.motifs; search = moved w.search l.at }
      unfolding leg_rule l
      told_is = rw (r, g.passes)

      -- its steps and rows, added to those so far, can be counted
      pub leg_counts : {t : LegTold} → t ≡ (leg_rule letters lengths w.search page_steps motifs supports weights).told → (w.steps + t.steps < 2 ^ 64) × (w.rows + t.rows < 2 ^ 64)
      unfolding W l
      leg_counts e =
          let few = rows_few letters lengths w.search g.passes page_steps page_rows in
          rw (e ∙ told_is) (omega (arith, tried, g.few), omega (arith, tried, g.few, g.fewer, few))

      -- and what it leaves is what is left
      pub leg_leaves : {t : LegTold} → t ≡ (leg_rule letters lengths w.search page_steps motifs supports weights).told
          → rows_or_end w (is_ended_told t.answer) t.steps t.rows t.search ≡ left_after letters lengths (rows w)
      unfolding left_after l
      leg_leaves e = rw (e ∙ told_is)

  -- A PAGE and what is left after it are what was left
  pub page_then : (s : Left) → Printable letters lengths s → text_left letters lengths s ≡ page_of letters lengths s ++ text_left letters lengths (left_after letters lengths s)
  unfolding text_left page_of left_after l
  page_then (refusal n p) g = sym (append-nil (print_refused n p))
  page_then (rows w) g = rows_of_page w g (is_ended (covered letters lengths w).stop) refl
  page_then (end steps found) g = sym (append-nil (print_end steps found))
  page_then nothing g = refl

  -- what is left after it can be gone on with
  pub ready_after : (s : Left) → Printable letters lengths s → Printable letters lengths (left_after letters lengths s)
  unfolding left_after l
  ready_after (refusal n p) g = tt
  ready_after (rows w) g = ready_rows w g (is_ended (covered letters lengths w).stop)
  ready_after (end steps _) g = tt
  ready_after nothing g = tt

  -- and is less
  pub less_after : (s : Left) → Printable letters lengths s → has_more s ≡ true → amount letters lengths (left_after letters lengths s) < amount letters lengths s
  unfolding left_after l
  less_after (refusal n p) g m = omega arith
  less_after (rows w) g m = less_rows w g (is_ended (covered letters lengths w).stop) refl
  less_after (end steps found) g m = omega arith
  less_after nothing g m = absurd (false≢true m)
