-- What a turn of each loop writes is the next word of its row, and the words of a whole row have the bits that its definition says.
use mathlib.Core.Bool.{Bool, false, not}
use mathlib.Core.List.{List, [], ◌∷◌, ◌++◌, map}
use mathlib.Core.Path.{◌≡◌, refl, sym, ap, ◌∙◌}
use Prim.Native.Nat.{ℕ, ◌+◌, ◌-◌, ◌*◌, ◌/◌, ◌%◌, ◌^◌, ◌≤◌, ◌<◌}
use native.Mathlib.Decide.{dec_lt}
use native.Mathlib.Nat.{zero-add, zero-mul, zero-div}
use native.Mathlib.Omega.{arith}
use lib.Bits.{bit_and, bit_or, and_le_l}
use lib.Dec.{eqb}
use lib.ListN.{length, take, drop, get_or, set, replicate, get_or-eq_default, length-set, length-append, length-replicate, length-take, length-drop}
use lib.Seq.{length-take-le}
use Rattle.rules.specs.Lists.{run, over}
use Rattle.rules.proofs.Over.{getd_map_run, length_map_run, map_agree, map_one, over_put, over_all, over_join}
use Rattle.rows.specs.Flags.{has_left}
use Rattle.rows.specs.Bits.{held}
use Rattle.rows.proofs.Gaps.{ago_in, ago_out}
use Rattle.rows.specs.Rows.{behind, extended}
use Rattle.rows.specs.Words.{shifted_down, shifted_up, extended_word, behind_word, either_word}
use Rattle.rows.proofs.Digits.{down_none}
use Rattle.rows.proofs.Bits.{extended_row, behind_row}
pub use Rattle.rows.proofs.Bits.{bit_small}
use Rattle.rows.proofs.Joined.{left_held, joined_more, joined_all}

pub nothing : (l : List ℕ) → length l ≡ 0 → l ≡ []
nothing [] e = refl
nothing (x ∷ l) e = absurd (omega arith)

-- ONE LETTER MORE
module _ (i : ℕ) (ls ws : List ℕ) where
  pub extended_is : (q : ℕ) {r : ℕ} → r ≡ shifted_down i (get_or ls q 0) (get_or ls (q + 1) 0) → bit_and (get_or ws q 0) r ≡ extended_word i ls ws q
  unfolding extended_word
  extended_is q e = rw e

  -- the first of its part, for which nothing is shifted
  pub extended_plain : i ≡ 0 → (q : ℕ) → bit_and (get_or ws q 0) (get_or ls q 0) ≡ extended_word i ls ws q
  extended_plain z q = extended_is q (rw z (sym (down_none (get_or ls q 0) (get_or ls (q + 1) 0))))

  -- no word comes after the last
  pub extended_last : (q : ℕ) {r : ℕ} → length ls ≤ q + 1 → r ≡ shifted_down i (get_or ls q 0) 0 → bit_and (get_or ws q 0) r ≡ extended_word i ls ws q
  extended_last q h e = extended_is q (e ∙ ap (shifted_down i (get_or ls q 0)) (sym (get_or-eq_default ls 0 h)))

  extended_fits : ((q : ℕ) → get_or ws q 0 < 2 ^ 64) → (q : ℕ) → get_or (map (extended_word i ls ws) (run 0 (length ws))) q 0 < 2 ^ 64
  unfolding extended_word
  extended_fits fits q =
      elim (dec_lt q (length ws)) [
        | yes l ↦ rw (getd_map_run (extended_word i ls ws) 0 0 (length ws) q l, zero-add q) (small (get_or ws q 0) (shifted_down i (get_or ls q 0) (get_or ls (q + 1) 0)) (fits q))
        | no n ↦ (let k : length (map (extended_word i ls ws) (run 0 (length ws))) ≤ q = rw length_map_run (omega arith) in
            rw (get_or-eq_default (map (extended_word i ls ws) (run 0 (length ws))) 0 k) (omega arith))
      ]
    where
      small : (a b : ℕ) → a < 2 ^ 64 → bit_and a b < 2 ^ 64
      small a b h = omega (arith, and_le_l a b)

  module _ (small : i < 64) (same : length ls ≡ length ws) (fitl : (q : ℕ) → get_or ls q 0 < 2 ^ 64) (fitw : (q : ℕ) → get_or ws q 0 < 2 ^ 64) {x : List ℕ} (e : x ≡ map (extended_word i ls ws) (run 0 (length ws))) where
    pub extended_bits : held x ≡ extended i (held ls) (held ws)
    extended_bits = ap held e ∙ extended_row i small ls fitl ws same

    pub extended_left : has_left (map (extended_word i ls ws) (run 0 (length ws))) ≡ has_left (held x)
    extended_left = sym (ap (λ (y : List ℕ). has_left (held y)) e ∙ left_held (map (extended_word i ls ws) (run 0 (length ws))) (extended_fits fitw))

  -- the whole: all words but the last, and the last
  module _ (small : i < 64) (same : length ls ≡ length ws) (fitl : (q : ℕ) → get_or ls q 0 < 2 ^ 64) (fitw : (q : ℕ) → get_or ws q 0 < 2 ^ 64) (l : List ℕ) (long : length l ≡ length ws) where
    pub kept_whole : (n a : ℕ) {x : List ℕ} {r : ℕ} {found : Bool} → n + 1 ≡ length ws
        → eqb a 0 ≡ not (has_left (map (extended_word i ls ws) (run 0 n)))
        → x ≡ over (extended_word i ls ws) n l
        → r ≡ shifted_down i (get_or ls n 0) 0
        → found ≡ not (eqb (bit_or a (bit_and (get_or ws n 0) r)) 0)
        → (held (set x n (bit_and (get_or ws n 0) r)) ≡ extended i (held ls) (held ws)) × (found ≡ has_left (held (set x n (bit_and (get_or ws n 0) r))))
    kept_whole n a {x} {r} {found} h e o z f =
        let w : bit_and (get_or ws n 0) r ≡ extended_word i ls ws n = extended_last n (omega arith) z in
        let all : set x n (bit_and (get_or ws n 0) r) ≡ map (extended_word i ls ws) (run 0 (length ws)) =
        over_all (extended_word i ls ws) (n + 1) l (over_put (extended_word i ls ws) n l o w (omega arith)) h (omega arith) in
        let g : eqb (bit_or a (bit_and (get_or ws n 0) r)) 0 ≡ not (has_left (map (extended_word i ls ws) (run 0 (n + 1)))) = joined_more (extended_word i ls ws) n a e w in
        let k : map (extended_word i ls ws) (run 0 (n + 1)) ≡ map (extended_word i ls ws) (run 0 (length ws)) = ap (λ (m : ℕ). map (extended_word i ls ws) (run 0 m)) h in
        (extended_bits small same fitl fitw all, f ∙ joined_all (bit_or a (bit_and (get_or ws n 0) r)) _ g ∙ ap has_left k ∙ extended_left small same fitl fitw all)

    -- all of them at once, where nothing is shifted
    pub kept_plain : (n a : ℕ) {x : List ℕ} {found : Bool} → i ≡ 0 → n ≡ length ws
        → eqb a 0 ≡ not (has_left (map (extended_word 0 ls ws) (run 0 n)))
        → x ≡ over (extended_word 0 ls ws) n l
        → found ≡ not (eqb a 0)
        → (held x ≡ extended i (held ls) (held ws)) × (found ≡ has_left (held x))
    kept_plain n a {x} {found} z h e o f =
        let all : x ≡ map (extended_word i ls ws) (run 0 (length ws)) =
        over_all (extended_word 0 ls ws) n l o h (omega arith) ∙ ap (λ (k : ℕ). map (extended_word k ls ws) (run 0 (length ws))) (sym z) in
        let g : eqb a 0 ≡ not (has_left (map (extended_word i ls ws) (run 0 (length ws)))) =
        e ∙ ap (λ (m : ℕ). not (has_left (map (extended_word 0 ls ws) (run 0 m)))) h ∙ ap (λ (k : ℕ). not (has_left (map (extended_word k ls ws) (run 0 (length ws))))) (sym z) in
        (extended_bits small same fitl fitw all, f ∙ joined_all a _ g ∙ extended_left small same fitl fitw all)

    none : length ws ≡ 0 → map (extended_word i ls ws) (run 0 (length ws)) ≡ []
    unfolding run
    none z = rw z

    pub kept_empty : length l ≡ 0 → (held l ≡ extended i (held ls) (held ws)) × (false ≡ has_left (held l))
    unfolding held has_left
    kept_empty h =
        let z : length ws ≡ 0 = omega arith in
        let all : l ≡ map (extended_word i ls ws) (run 0 (length ws)) = nothing l h ∙ sym (none z) in
        (extended_bits small same fitl fitw all, ap (λ (y : List ℕ). has_left (held y)) (sym (nothing l h)))

-- A ROW JOINED TO ANOTHER
pub either_is : (ws vs x : List ℕ) (q : ℕ) → get_or x q 0 ≡ get_or ws q 0 → bit_or (get_or x q 0) (get_or vs q 0) ≡ either_word ws vs q
unfolding either_word
either_is ws vs x q e = rw e

-- A SHIFT UP
up_none : (i : ℕ) → shifted_up i 0 0 ≡ 0
unfolding shifted_up
up_none i =
    let a : (0 * 2 ^ i) % 2 ^ 64 ≡ 0 = ap (λ (x : ℕ). x % 2 ^ 64) (zero-mul (2 ^ i)) in
    let b : 0 / 2 / 2 ^ (63 - i) ≡ 0 = zero-div (2 ^ (63 - i)) in
    rw (a, b)

module _ (e i : ℕ) (ws : List ℕ) where
  pub behind_is : (q : ℕ) {r : ℕ} → e < q → r ≡ shifted_up i (get_or ws (q - e - 1) 0) (get_or ws (q - e) 0) → r ≡ behind_word e i ws q
  unfolding behind_word
  behind_is q h z =
      let k : q - e - 1 ≡ q - (e + 1) = omega arith in
      z ∙ rw (k, ago_in ws q (e + 1) (omega arith), ago_in ws q e (omega arith))

  pub behind_first : {r : ℕ} → r ≡ shifted_up i 0 (get_or ws 0 0) → r ≡ behind_word e i ws e
  unfolding behind_word
  behind_first z = let k : e - e ≡ 0 = omega arith in z ∙ rw (ago_out ws e (e + 1) (omega arith), ago_in ws e e (omega arith), k)

  behind_none : (q : ℕ) → q < e → behind_word e i ws q ≡ 0
  unfolding behind_word
  behind_none q h = rw (ago_out ws q (e + 1) (omega arith), ago_out ws q e h) (up_none i)

  zeros : (n : ℕ) → n ≤ e → map (behind_word e i ws) (run 0 n) ≡ replicate n 0
  zeros n h = map_agree (behind_word e i ws) (λ _. 0) 0 n (λ q _ l. behind_none q (omega arith)) ∙ map_one (λ _. 0) 0 0 n (λ _ _. refl)

  -- the words before the first
  pub behind_early : (l : List ℕ) {x : List ℕ} → e ≤ length l → x ≡ replicate (length (take e l)) 0 → x ++ drop e l ≡ over (behind_word e i ws) e l
  unfolding over
  behind_early l h z = rw (z, length-take-le e l h, zeros e (omega arith))

  -- all of them
  pub behind_all : (l : List ℕ) {x : List ℕ} → length l ≡ length ws → length ws ≤ e → x ≡ replicate (length l) 0 → x ≡ map (behind_word e i ws) (run 0 (length ws))
  behind_all l same h z = z ∙ rw same (sym (zeros (length ws) h))

behind_bits : (d : ℕ) (ws : List ℕ) → ((q : ℕ) → get_or ws q 0 < 2 ^ 64) → {x : List ℕ} → x ≡ map (behind_word (d / 64) (d % 64) ws) (run 0 (length ws)) → held x ≡ behind d (held ws)
behind_bits d ws fits z =
    let k : d / 64 * 64 + d % 64 ≡ d = omega arith in
    ap held z ∙ behind_row (d / 64) (d % 64) (omega arith) ws fits ∙ ap (λ (n : ℕ). behind n (held ws)) k

-- the whole: none of the first words, then the first that has bits, then the others
module _ (d : ℕ) (ws l : List ℕ) (long : length l ≡ length ws) where
  pub shift_begun : {x : List ℕ} {r : ℕ} → d / 64 < length ws → x ≡ replicate (length (take (d / 64) l)) 0 → r ≡ shifted_up (d % 64) 0 (get_or ws 0 0)
      → set (x ++ drop (d / 64) l) (d / 64) r ≡ over (behind_word (d / 64) (d % 64) ws) (d / 64 + 1) l
  shift_begun h z e = over_put _ (d / 64) l (behind_early (d / 64) (d % 64) ws l (omega arith) z) (behind_first (d / 64) (d % 64) ws e) (omega arith)

  pub shift_length : {x : List ℕ} (r : ℕ) → d / 64 < length ws → x ≡ replicate (length (take (d / 64) l)) 0 → length (set (x ++ drop (d / 64) l) (d / 64) r) ≡ length l
  shift_length r h z = rw z (simp (length-set, length-append, length-replicate, length-take, length-drop) (omega arith))

  pub shift_whole : {x : List ℕ} {r : ℕ} {y : List ℕ} → ((q : ℕ) → get_or ws q 0 < 2 ^ 64) → d / 64 < length ws → x ≡ replicate (length (take (d / 64) l)) 0
      → r ≡ shifted_up (d % 64) 0 (get_or ws 0 0) → y ≡ over (behind_word (d / 64) (d % 64) ws) (length ws) (set (x ++ drop (d / 64) l) (d / 64) r)
      → held y ≡ behind d (held ws)
  shift_whole fits h z e f = behind_bits d ws fits (over_all _ _ l (over_join _ _ l (shift_begun h z e) (omega arith) f) refl (omega arith))

  pub shift_out : {x : List ℕ} → ((q : ℕ) → get_or ws q 0 < 2 ^ 64) → length l ≤ d / 64 → x ≡ replicate (length l) 0 → held x ≡ behind d (held ws)
  shift_out fits h z = behind_bits d ws fits (behind_all (d / 64) (d % 64) ws l long (omega arith) z)
