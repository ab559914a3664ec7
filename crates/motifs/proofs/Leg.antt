-- What a leg's rule says of its rows and steps, refused or not, and that its rows printed are its page.
use mathlib.Core.Path.{◌≡◌, refl, sym, ap, ◌∙◌}
use mathlib.Core.Bool.{false, false≢true}
use mathlib.Core.List.{List, [], ◌∷◌, ◌++◌, map}
use Prim.Native.Nat.{ℕ, ◌≤◌}
use native.Mathlib.Omega.{arith}
use lib.ListN.{length, take, length-map}
use Rattle.rules.specs.Calls.{LegRule, on_refusal, leg_rule, stretch, motif_parts, supports_of, weights_of}
use Rattle.rules.specs.Legs.{is_ended, Stretch, Passed}
use Rattle.rules.specs.declared.Stop.{Stop}
use Rattle.rules.specs.declared.Stop.TheVariants.{Ended, Spent, Full}
use Rattle.rules.specs.Lists.{each, put}
use Rattle.rules.specs.Refusals.{first, search_checks}
use Rattle.rules.specs.Sequences.{sequences}
use Rattle.rules.specs.Sound.{SoundTemplate}
use Rattle.rules.specs.Support.{support, weight}
use Rattle.rules.specs.Told.{Verdict, fine, refused}
use Rattle.rules.specs.Walk.{Walk, listed, motif, walk_of}
use Rattle.rules.specs.declared.Place.{Place}
use Rattle.rules.specs.declared.Search.{Search}
use Rattle.rules.specs.declared.Template.{Template}
use Rattle.rules.proofs.Legs.{leg_law, Why, leg_why}
use Rattle.rules.proofs.Places.{place_deep}
use Rattle.rules.proofs.Searches.{walk_pos}
use Rattle.rules.proofs.Lists.{each_same, keep_few}
use Rattle.rules.proofs.Tables.{put_front}
use Rattle.rules.proofs.Sound.{search_sound}
use Rattle.text.specs.Printed.{row, printed_page, Page}
use Rattle.text.proofs.Line.{print_row_is}
use Rattle.legs.specs.AcceptedLeg.{room_of}
use Rattle.motifs.specs.Pages.{page_rows, print_rows, leg_page}

-- what holds of a refused leg and of an accepted one holds of every leg
by_verdict : (P : LegRule → Type 0) (v : Verdict) (f : ℕ → ℕ → LegRule) (l : LegRule) → ((n p : ℕ) → v ≡ refused n p → P (f n p)) → (v ≡ fine → P l) → P (on_refusal v f l)
by_verdict P fine f l r a = a refl
by_verdict P (refused n p) f l r a = r n p refl

-- three tables of as many rows as a page may have
pub all_room : (motifs supports weights : List ℕ) → length motifs ≡ page_rows → length supports ≡ page_rows → length weights ≡ page_rows → room_of motifs supports weights ≡ page_rows
all_room motifs supports weights m s w = rw (m, s, w) refl

pub listed_few : (W : Walk) (ps : List Place) → length (listed W ps) ≤ length ps
unfolding listed
listed_few W ps = rw length-map (keep_few (motif W) ps)

-- rows whose numbers are worked out from their motifs
page_each : (t : Template) (f g : ℕ → ℕ) (ms : List ℕ) → printed_page t ms (map f ms) (map g ms) ≡ each (λ m. row t m (f m) (g m)) ms
unfolding printed_page each
page_each t f g [] = refl
page_each t f g (m ∷ ms) = ap (λ (l : List ℕ). row t m (f m) (g m) ++ l) (page_each t f g ms)

module _ (letters lengths : List ℕ) (s : Search) where
  -- the rows of some motifs, with their supports and weights, printed
  rows_printed : (ms : List ℕ) → printed_page s.template ms (supports_of letters lengths s ms) (weights_of letters lengths s ms) ≡ print_rows letters lengths s ms
  unfolding supports_of weights_of print_rows
  rows_printed ms =
      page_each s.template (λ m. support (motif_parts s m) (sequences letters lengths)) (λ m. weight (motif_parts s m) (sequences letters lengths)) ms
      ∙ each_same _ _ ms (λ m. sym (print_row_is (sequences letters lengths) s.template m))

  -- as a leg leaves them at the front of its tables
  fronts : (motifs supports weights ms : List ℕ) → let n = length ms in
      printed_page s.template (take n (put ms motifs)) (take n (put (supports_of letters lengths s ms) supports)) (take n (put (weights_of letters lengths s ms) weights)) ≡ print_rows letters lengths s ms
  unfolding supports_of weights_of
  fronts motifs supports weights ms =
      rw (
        put_front (length ms) ms motifs refl,
        put_front (length ms) (supports_of letters lengths s ms) supports (length-map ms _),
        put_front (length ms) (weights_of letters lengths s ms) weights (length-map ms _),
      )
      (rows_printed ms)

  -- what an accepted leg passes
  pub accepted : first (search_checks letters lengths s) ≡ fine → (budget room : ℕ) → Passed (walk_of letters lengths s) s.place (stretch letters lengths s budget room)
  unfolding stretch
  accepted e budget room =
      leg_law (walk_of letters lengths s) (walk_pos s.template s.quorum (sequences letters lengths)) budget room s.place (place_deep letters lengths s (search_sound letters lengths s e))

  why : (budget room : ℕ) → Why (walk_of letters lengths s) budget room (stretch letters lengths s budget room)
  unfolding stretch
  why budget room = leg_why (walk_of letters lengths s) budget room s.place

  -- its rows are no more than its steps
  pub rows_few : first (search_checks letters lengths s) ≡ fine → (budget room : ℕ) → let l = stretch letters lengths s budget room in length l.motifs ≤ l.steps
  rows_few e budget room = let p = accepted e budget room in omega (arith, p.counts, ap length p.lists, listed_few (walk_of letters lengths s) p.taken)

  -- one that has a budget and room, and does not end, takes a step
  pub moves : first (search_checks letters lengths s) ≡ fine → (budget room : ℕ) → 1 ≤ budget → 1 ≤ room
      → let l = stretch letters lengths s budget room in is_ended l.stop ≡ false → 1 ≤ l.steps
  moves e budget room b r = go l.stop refl
    where
      l : Stretch
      l = stretch letters lengths s budget room

      go : (a : Stop) → l.stop ≡ a → is_ended a ≡ false → 1 ≤ l.steps
      go Ended q n = absurd (false≢true (sym n))
      go Spent q n = omega (arith, (why budget room).if_spent q)
      go Full q n = omega (arith, ((why budget room).if_full q).0, rows_few e budget room)

  module _ (budget : ℕ) (motifs supports weights : List ℕ) where
    -- its rows have room
    pub rows_fit : (leg_rule letters lengths s budget motifs supports weights).told.rows ≤ room_of motifs supports weights
    unfolding leg_rule
    rows_fit = by_verdict (λ l. l.told.rows ≤ room_of motifs supports weights) (first (search_checks letters lengths s)) _ _ (λ n p e. omega arith) (λ e. (why budget _).listed_fit)

    -- a leg with rows was accepted
    pub rows_sound : 1 ≤ (leg_rule letters lengths s budget motifs supports weights).told.rows → SoundTemplate s.template
    unfolding leg_rule
    rows_sound = by_verdict (λ l. 1 ≤ l.told.rows → SoundTemplate s.template) (first (search_checks letters lengths s)) _ _ (λ n p e h. absurd (omega arith)) (λ e h. (search_sound letters lengths s e).template)

    -- its rows printed are its page
    pub page_is : let l = leg_rule letters lengths s budget motifs supports weights in let n = l.told.rows in
        printed_page s.template (take n l.motifs) (take n l.supports) (take n l.weights) ≡ leg_page letters lengths s budget (room_of motifs supports weights)
    unfolding leg_rule leg_page printed_page
    page_is =
        by_verdict (λ l. let n = l.told.rows in printed_page s.template (take n l.motifs) (take n l.supports) (take n l.weights) ≡ leg_page letters lengths s budget (room_of motifs supports weights))
        (first (search_checks letters lengths s)) _ _ (λ n p e. rw e) (λ e. rw e (fronts motifs supports weights (stretch letters lengths s budget (room_of motifs supports weights)).motifs))

    -- what is printed of its tables is its page
    pub page_left : {ms ss ws before after : List ℕ} {n r k : ℕ} → let l = leg_rule letters lengths s budget motifs supports weights in
        n ≡ l.told.rows → ms ≡ l.motifs → ss ≡ l.supports → ws ≡ l.weights → Page k (printed_page s.template (take n ms) (take n ss) (take n ws)) before after r
        → Page k (leg_page letters lengths s budget (room_of motifs supports weights)) before after r
    page_left a b c d p = rw (a, b, c, d, page_is) at p
