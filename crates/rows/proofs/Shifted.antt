-- A row shifted down: each word is made of two side by side, and past the last there is none. A letter's row is shifted for the letter's
-- place in its component; for the first place it is the row itself.
use mathlib.Core.Bool.{Bool, true}
use mathlib.Core.List.{List, [], map}
use mathlib.Core.Path.{◌≡◌, sym, ap, ◌∙◌}
use Prim.Native.Nat.{ℕ, ◌+◌, ◌^◌, ◌≤◌, ◌<◌}
use native.Mathlib.Omega.{arith}
use lib.ListN.{length, get_or, set, get_or-eq_default}
use lib.Seq.{ext_get_or}
use Rattle.rules.specs.Lists.{run, over}
use Rattle.rules.proofs.Over.{getd_map_run, length_map_run, over_put, over_all}
use Rattle.rows.specs.Bits.{held}
use Rattle.rows.specs.Rows.{ahead_at, ahead}
use Rattle.rows.specs.Set.{first_word, between, shifted_at, lettered_at, lettered_on, Filled}
use Rattle.rows.specs.Words.{shifted_down, ahead_word}
use Rattle.rows.proofs.Bits.{ahead_row}
use Rattle.rows.proofs.Sets.{bits_are_at}
use Rattle.rows.proofs.WordByWord.{nothing}

-- THE WORDS OF ONE SEQUENCE
module _ (i : ℕ) (ws : List ℕ) where
  pub ahead_is : (q : ℕ) {r : ℕ} → r ≡ shifted_down i (get_or ws q 0) (get_or ws (q + 1) 0) → r ≡ ahead_word i ws q
  unfolding ahead_word
  ahead_is q e = e

  -- no word comes after the last
  pub ahead_last : (q : ℕ) {r : ℕ} → length ws ≤ q + 1 → r ≡ shifted_down i (get_or ws q 0) 0 → r ≡ ahead_word i ws q
  ahead_last q h e = ahead_is q (e ∙ ap (shifted_down i (get_or ws q 0)) (sym (get_or-eq_default ws 0 h)))

  module _ (small : i < 64) (fits : (q : ℕ) → get_or ws q 0 < 2 ^ 64) (l : List ℕ) (long : length l ≡ length ws) where
    -- the whole: all words but the last, and the last
    pub ahead_whole : (n : ℕ) {x : List ℕ} {r : ℕ} → n + 1 ≡ length ws → x ≡ over (ahead_word i ws) n l → r ≡ shifted_down i (get_or ws n 0) 0
        → held (set x n r) ≡ ahead i (held ws)
    ahead_whole n {x} {r} h o z =
        let all : set x n r ≡ map (ahead_word i ws) (run 0 (length ws)) =
        over_all (ahead_word i ws) (n + 1) l (over_put (ahead_word i ws) n l o (ahead_last n (omega arith) z) (omega arith)) h (omega arith) in
        ap held all ∙ ahead_row i small ws fits

    none : length ws ≡ 0 → map (ahead_word i ws) (run 0 (length ws)) ≡ []
    unfolding run
    none z = rw z

    pub ahead_empty : length l ≡ 0 → held l ≡ ahead i (held ws)
    ahead_empty h = ap held (nothing l h ∙ sym (none (omega arith))) ∙ ahead_row i small ws fits

-- THOSE OF SEQUENCE k, by where they begin and end
pub shifted_is_at : (ns : List ℕ) (k : ℕ) → k < length ns → {from to : ℕ} → from ≡ first_word ns k → to ≡ first_word ns (k + 1)
    → (i : ℕ) (row : List ℕ) {b : List ℕ} → b ≡ ahead i (held (between from to row)) → b ≡ shifted_at i ns row k
unfolding shifted_at
shifted_is_at ns k h f t i row e = e ∙ ap (ahead i) (bits_are_at ns k h f t row)

-- A SHIFT BY NONE changes nothing
pub ahead_none : (ks : List ℕ) → ahead 0 ks ≡ ks
unfolding ahead ahead_at
ahead_none ks =
    ext_get_or 0 (map (ahead_at 0 ks) (run 0 (length ks))) ks (length_map_run (ahead_at 0 ks) 0 (length ks))
    (λ p h. let k : p < length ks = rw length_map_run at h in
    let e : 0 + p + 0 ≡ p = omega arith in
    getd_map_run (ahead_at 0 ks) 0 0 (length ks) p k ∙ ap (λ (x : ℕ). get_or ks x 0) e)

pub lettered_first : (f : ℕ → ℕ → Bool) (x : ℕ) (ns l : List ℕ) (k : ℕ) → lettered_on 0 f x ns l k ≡ lettered_at f x ns l k
unfolding lettered_on
lettered_first f x ns l k = ahead_none (lettered_at f x ns l k)

-- the row of a letter, shifted
pub lettered_shifted : (i : ℕ) (f : ℕ → ℕ → Bool) (x : ℕ) (ns l row out : List ℕ) → Filled (λ _. true) (lettered_at f x ns l) ns row (length ns)
    → Filled (λ _. true) (shifted_at i ns row) ns out (length ns) → Filled (λ _. true) (lettered_on i f x ns l) ns out (length ns)
unfolding shifted_at lettered_on
lettered_shifted i f x ns l row out q s = record { same = λ k h e. s.same k h e ∙ ap (ahead i) (q.same k h e) }
