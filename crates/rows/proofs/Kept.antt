-- One letter more in the sequences of one word of marks. As far as the walk has come, each sequence that had a mark has its words and its new
-- mark or has lost it; the tallies of both marks differ by those that are lost. Further on no more marks can be left than there were.
use mathlib.Core.Bool.{Bool, true, false, not}
use mathlib.Core.List.{List, [], ◌∷◌}
use mathlib.Core.Path.{◌≡◌, refl, sym, ap, ◌∙◌}
use Prim.Native.Nat.{ℕ, ◌+◌, ◌-◌, ◌*◌, ◌/◌, ◌%◌, ◌^◌, ◌≤◌, ◌<◌}
use native.Mathlib.Omega.{arith}
use lib.Bits.{bit_and, bit_or}
use lib.Dec.{eqb}
use lib.ListN.{length, take, get_or, set}
use Rattle.rows.specs.Bits.{held}
use Rattle.rows.specs.Flags.{bit}
use Rattle.rows.specs.Set.{row_marks, words_of, first_word, bits_at, is_marked, Bounded, Firsts, tally, extended_at, is_extended_marked}
use Rattle.rows.specs.SetBits.{Taken}
use Rattle.rows.proofs.Lowest.{Walk, walk_begin, walk_take, taken_late}
use Rattle.rows.proofs.Sets.{kept_from, extended_is_at, bits_are_at, turn_lies}
use Rattle.rows.proofs.Single.{short_first, down_alone, one_kept}
use Rattle.rows.proofs.Tally.{tally_append, tally_less, tally_turn, tally_end, tally_most}
use Rattle.rows.proofs.MarksWalk.{Walked, Left, Next, walked_none, walked_end, walked_turn, left_none, left_end, left_turn, no_rest, next_taken, mark_none, mark_left}

-- what is done for the first `upto` marks of a word
pub record KeptTo (i : ℕ) (ns ls ws : List ℕ) (w : ℕ) (x y : List ℕ) (left lost upto : ℕ) : Type 0 where
  pub walked : Walked (is_marked ws) (extended_at i ns ls ws) ns (w * 64) (w * 64 + upto) x y
  pub lefts : Left (is_extended_marked i ns ls ws) (w * 64) (w * 64 + upto) left
  pub tallied : tally (is_extended_marked i ns ls ws) (w * 64) upto + lost ≡ tally (is_marked ws) (w * 64) upto

-- how far the walk over it has come
abbrev pub Going : ℕ → List ℕ → List ℕ → List ℕ → ℕ → List ℕ → List ℕ → ℕ → ℕ → ℕ → Type 0
Going i ns ls ws w x y rest left lost = Walk (KeptTo i ns ls ws w x y left lost) (get_or ws w 0) rest

one_of_two : (b : Bool) → bit b + bit (not b) ≡ 1
one_of_two true = omega arith
one_of_two false = omega arith

module _ (i : ℕ) (ns ls ws : List ℕ) (w : ℕ) (fits : get_or ws w 0 < 2 ^ 64) (x : List ℕ) where
  pub going_begin : Going i ns ls ws w x x (get_or ws w 0) 0 0
  unfolding tally
  going_begin = walk_begin _ _ fits (record { walked = walked_none _ _ _ _ _ _ (omega arith); lefts = left_none _ _ _ (omega arith); tallied = refl })

  module _ (y : List ℕ) (rest left lost : ℕ) (g : Going i ns ls ws w x y rest left lost) where
    -- no more are lost than there are sequences
    pub lost_few : lost ≤ 64
    lost_few = omega (arith, g.so_far.tallied, g.high, tally_most (is_marked ws) (w * 64) g.upto)

    -- wherever it stops, so many marks fewer can be left at most
    pub going_most : tally (is_extended_marked i ns ls ws) (w * 64) 64 + lost ≤ tally (is_marked ws) (w * 64) 64
    going_most =
        let n : 64 ≡ g.upto + (64 - g.upto) = omega (arith, g.high) in
        let a = ap (tally (is_extended_marked i ns ls ws) (w * 64)) n ∙ tally_append (is_extended_marked i ns ls ws) (w * 64) g.upto (64 - g.upto) in
        let b = ap (tally (is_marked ws) (w * 64)) n ∙ tally_append (is_marked ws) (w * 64) g.upto (64 - g.upto) in
        omega (arith, a, b, g.so_far.tallied, tally_less (is_marked ws) (is_extended_marked i ns ls ws) (λ k e. mark_none i ns ls ws k e) (w * 64 + g.upto) (64 - g.upto))

    -- THE END: nothing is left of the word
    module _ (none : rest ≡ 0) where
      off : (k : ℕ) → w * 64 + g.upto ≤ k → k < w * 64 + 64 → is_marked ws k ≡ false
      off = no_rest ws w g.rests none

      new_off : (k : ℕ) → w * 64 + g.upto ≤ k → k < w * 64 + 64 → is_extended_marked i ns ls ws k ≡ false
      new_off k l u = mark_none i ns ls ws k (off k l u)

      pub end_tallied : tally (is_extended_marked i ns ls ws) (w * 64) 64 + lost ≡ tally (is_marked ws) (w * 64) 64
      end_tallied =
          omega (arith, g.so_far.tallied, tally_end (is_extended_marked i ns ls ws) (w * 64) g.upto 64 g.high new_off, tally_end (is_marked ws) (w * 64) g.upto 64 g.high off)

      pub end_left : (b : ℕ) → b < 64 → eqb (get_or (held (left ∷ [])) b 0) 1 ≡ is_extended_marked i ns ls ws (w * 64 + b)
      end_left b h = left_end _ _ _ _ g.so_far.lefts (w * 64 + 64) new_off b h (omega arith)

      pub end_walked : (k : ℕ) → w * 64 ≤ k → k < w * 64 + 64 → is_marked ws k ≡ true → bits_at ns k y ≡ extended_at i ns ls ws k
      end_walked = walked_end _ _ _ _ _ _ _ g.so_far.walked (w * 64 + 64) off

    -- A TURN: the sequence with the lowest mark that is left
    module _ {place off : ℕ} (t : Taken rest place off) (firsts : List ℕ) (bounded : Bounded ns ws) (laid : Firsts ns firsts) (in-marks : w < row_marks) where
      pub going_next : Next ns firsts ws w (w * 64 + g.upto) (w * 64 + place)
      going_next = next_taken ws w g.rests t ns firsts bounded laid in-marks

      late : g.upto ≤ place
      late = taken_late g.rests t

      new_skips : (k : ℕ) → w * 64 + g.upto ≤ k → k < w * 64 + place → is_extended_marked i ns ls ws k ≡ false
      new_skips k l u = mark_none i ns ls ws k (going_next.skips k l u)

      module _ (out : List ℕ) (stays : take (first_word ns (w * 64 + place)) out ≡ take (first_word ns (w * 64 + place)) y)
          (here : bits_at ns (w * 64 + place) out ≡ extended_at i ns ls ws (w * 64 + place))
          {found : Bool} {v u : ℕ} (e : v ≡ bit found) (f : is_extended_marked i ns ls ws (w * 64 + place) ≡ found) (o : u ≡ bit (not found)) where
        pub going_turn : Going i ns ls ws w x out off (bit_or left ((v * 2 ^ place) % 2 ^ 64)) (lost + u)
        going_turn =
            let q : w * 64 + place + 1 ≡ w * 64 + (place + 1) = omega arith in
            let a = tally_turn (is_extended_marked i ns ls ws) (w * 64) g.upto place late new_skips in
            let b = tally_turn (is_marked ws) (w * 64) g.upto place late going_next.skips in
            let c : bit (is_marked ws (w * 64 + place)) ≡ 1 = ap bit going_next.marked in
            let d : bit (is_extended_marked i ns ls ws (w * 64 + place)) ≡ bit found = ap bit f in
            walk_take _ _ g t (record {
              walked = rw q at (walked_turn _ _ _ _ _ _ _ g.so_far.walked _ going_next.skips out (omega arith) going_next.inside stays here);
              lefts = rw q at (left_turn _ _ _ _ g.so_far.lefts _ new_skips going_next.later (omega arith) going_next.in_word e f place (omega arith));
              tallied = omega (arith, a, b, c, d, o, one_of_two found, g.so_far.tallied);
            })

-- IN A SHORT SET, where the lost are not counted
pub record Kept (i : ℕ) (ns ls ws : List ℕ) (w : ℕ) (x y : List ℕ) (rest left : ℕ) : Type 0 where
  pub lost : ℕ
  pub going : Going i ns ls ws w x y rest left lost

module _ (i : ℕ) (ns ls ws : List ℕ) (w : ℕ) (fits : get_or ws w 0 < 2 ^ 64) (x y : List ℕ) (rest left : ℕ) (g : Kept i ns ls ws w x y rest left) {place off : ℕ} (t : Taken rest place off)
    (firsts : List ℕ) (laid : Firsts ns firsts) (short : (k : ℕ) → k < length ns → words_of (get_or ns k 0) ≡ 1) (bounded : Bounded ns ws) (in-marks : w < row_marks)
    (room : first_word ns (length ns) ≤ length ws) where
  next_mark : Next ns firsts ws w (w * 64 + g.going.upto) (w * 64 + place)
  next_mark = going_next i ns ls ws w fits x y rest left g.lost g.going t firsts bounded laid in-marks

  -- the word of the sequence with the lowest mark that is left
  module _ {at : ℕ} (is : at ≡ row_marks + w * 64 + place) where
    begins : at ≡ first_word ns (w * 64 + place)
    begins = omega (arith, is, short_first ns short (w * 64 + place) (omega (arith, next_mark.inside)))

    ends : at + 1 ≡ first_word ns (w * 64 + place + 1)
    ends = omega (arith, is, short_first ns short (w * 64 + place + 1) (omega (arith, next_mark.inside)))

    pub word_in : at < length ws
    word_in = omega (arith, (turn_lies ns _ next_mark.inside begins ends).1, room)

    pub kept_turn : i < 64 → length ls ≡ length ws → length y ≡ length ws → get_or ls at 0 < 2 ^ 64 → get_or ws at 0 < 2 ^ 64
        → {v : ℕ} → v ≡ bit (not (eqb (bit_and (get_or ws at 0) (get_or ls at 0 / 2 ^ i)) 0))
        → Kept i ns ls ws w x (set y at (bit_and (get_or ws at 0) (get_or ls at 0 / 2 ^ i))) off (bit_or left ((v * 2 ^ place) % 2 ^ 64))
    kept_turn s l o fl fw e =
        let found = not (eqb (bit_and (get_or ws at 0) (get_or ls at 0 / 2 ^ i)) 0) in
        let k = one_kept at (at + 1) i ls ws y (omega arith) s (omega (arith, word_in)) (omega (arith, word_in)) (omega (arith, word_in)) fl fw (down_alone i (get_or ls at 0)) refl in
        let z = extended_is_at ns _ next_mark.inside begins ends i ls ws in record {
          lost = g.lost + bit (not found);
          going = going_turn i ns ls ws w fits x y rest left g.lost g.going t firsts bounded laid in-marks _ (kept_from _ _ begins k.0.0)
              (sym (bits_are_at ns _ next_mark.inside begins ends _) ∙ k.1.0 ∙ z) e (mark_left i ns ls ws _ next_mark.marked k.1.1 z) refl;
        }
