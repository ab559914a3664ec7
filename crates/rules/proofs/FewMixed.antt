-- A whole mixed search takes fewer than 2 ^ 62 steps. The letters of a candidate are among fourteen, so of j letters there are at most
-- 14 ^ j: one with a letter more is one of fourteen for each. Those of 1 to 16 letters add up to less. With the bound of an exact search,
-- a 64-bit count of steps never runs over.
use mathlib.Core.Path.{◌≡◌, refl}
use mathlib.Core.Bool.{true}
use mathlib.Core.Logic.{⊎_elim}
use mathlib.Core.List.Memᴰ
use mathlib.Core.List.{List, [], ◌∷◌, ◌++◌, map, Memᴰ}
use Prim.Native.Nat.{ℕ, zero, suc, ◌+◌, ◌*◌, ◌/◌, ◌%◌, ◌^◌, ◌≤◌, ◌<◌}
use native.Mathlib.Nat.{pow-suc, pow-le-pow_right, div-add-mod', div-lt_iff_lt-mul}
use native.Mathlib.Omega.{arith}
use lib.Dec.{ltb}
use lib.ListN.{length, take, drop, length-append, length-drop, take-append-drop}
use borrow.Author.Tests.{ltb-true}
use Rattle.rules.specs.Limits.{letter_symbols, letter_digits}
use Rattle.rules.specs.Lists.{run, keep, each, all_pass, sum}
use Rattle.rules.specs.Motif.{spell}
use Rattle.rules.specs.Profile.{allowed, within, mixed}
use Rattle.rules.specs.Relay.{whole_steps}
use Rattle.rules.specs.Sequences.{sequences}
use Rattle.rules.specs.Sound.{SoundSet, SoundTemplate}
use Rattle.rules.specs.Support.{allowed_in}
use Rattle.rules.specs.Template.{components, size}
use Rattle.rules.specs.Walk.{walk_in, candidate, tries}
use Rattle.rules.specs.declared.Component.{Component}
use Rattle.rules.specs.declared.Profile as declared
use Rattle.rules.specs.declared.Profile.TheVariants.{Exact, Mixed}
use Rattle.rules.specs.declared.Template.{Template}
use Rattle.rules.proofs.All.{all_members}
use Rattle.rules.proofs.Exact.{exact_search}
use Rattle.rules.proofs.Few.{exact_steps_few}
use Rattle.rules.proofs.Lengths.{rising_within}
use Rattle.rules.proofs.Lists.{keep_few, length_run, keep_wider}
use Rattle.rules.proofs.Members.{each_in, keep_run_in, keep_run_out}
use Rattle.rules.proofs.Mixed.{mixed_search, mixed_most}
use Rattle.rules.proofs.OccurrenceOrder.{keep_run_rising}
use Rattle.rules.proofs.Profiles.{allowed_less, mixed_proper}
use Rattle.rules.proofs.Spelling.{spell_more, length_spell}
use Rattle.rules.proofs.Stands.{run_in}
use Rattle.rules.proofs.Tests.{both}

-- lists of n, one for each of some
each_most : (f : ℕ → List ℕ) (n : ℕ) → ((x : ℕ) → length (f x) ≤ n) → (xs : List ℕ) → length (each f xs) ≤ length xs * n
unfolding each
each_most f n h [] = omega arith
each_most f n h (x ∷ xs) = omega (arith, length-append (f x) (each f xs), h x, each_most f n h xs)

-- ---- the letters of a mixed motif, or of a prefix, are among the fourteen

module _ (a : Component → ℕ) where
  symbols : (cs : List Component) (w : List ℕ) → length w ≤ sum (map (λ c. c.length) cs) → allowed (within a) cs w ≡ true → (x : ℕ) → Memᴰ x w → x < letter_symbols
  unfolding allowed within sum
  symbols [] [] l e x m = absurd (Memᴰ.not-nil m)
  symbols [] (y ∷ w) l e x m = absurd (omega arith)
  symbols (c ∷ cs) [] l e x m = absurd (Memᴰ.not-nil m)
  symbols (c ∷ cs) (y ∷ w) l e x m =
      let n = c.length in
      let v : List ℕ = y ∷ w in
      let b = (both (within a c (take n v)) (allowed (within a) cs (drop n v))).0 e in
      let here = (all_members (λ x. ltb x letter_symbols) (take n v)).0 ((both (all_pass (λ x. ltb x letter_symbols) (take n v)) _).0 b.0).0 x in
      ⊎_elim (λ k. ltb-true x letter_symbols (here k)) (symbols cs (drop n v) (omega (arith, length-drop n v)) b.1 x)
      (Memᴰ.append_cases (take n v) (rw (take-append-drop n v) m))

  module _ (t : Template) where
    -- the numbers of j allowed letters
    level : ℕ → List ℕ
    level j = keep (allowed_in (mixed a) t j) (run 0 (letter_digits ^ j))

    -- one more letter is the last digit
    level_more : (j m : ℕ) → suc j ≤ size t → Memᴰ m (level (suc j)) → Memᴰ m (each (λ n. run (n * letter_digits) letter_symbols) (level j))
    unfolding level allowed_in mixed size
    level_more j m deep k =
        let r = keep_run_out _ 0 (letter_digits ^ suc j) m k in
        let w : List ℕ = spell letter_digits j (m / letter_digits) in
        let z : List ℕ = m % letter_digits ∷ [] in
        let e : allowed (within a) (components t) (w ++ z) ≡ true = rw (spell_more letter_digits j m) at r.2 in
        let last = symbols (components t) (w ++ z) (omega (arith, length-append w z, length_spell letter_digits j (m / letter_digits))) e (m % letter_digits) (Memᴰ.append_right w (Memᴰ.head refl)) in
        let pos : 1 ≤ letter_digits = omega arith in
        let shorter : m / letter_digits < letter_digits ^ j = (div-lt_iff_lt-mul {x = m} {y = letter_digits ^ j} pos).1 (omega (arith, r.1, pow-suc letter_digits j)) in
        each_in (λ n. run (n * letter_digits) letter_symbols) (level j)
        (keep_run_in _ 0 (letter_digits ^ j) (m / letter_digits) (omega arith) (omega arith) (allowed_less (mixed a) (mixed_proper a) (components t) w (m % letter_digits) e))
        (run_in (m / letter_digits * letter_digits) letter_symbols m (omega (arith, div-add-mod' m letter_digits)) (omega (arith, div-add-mod' m letter_digits)))

    level_few : (j : ℕ) → j ≤ size t → length (level j) ≤ letter_symbols ^ j
    unfolding level
    level_few zero h = omega (arith, keep_few (allowed_in (mixed a) t 0) (run 0 1), length_run 0 1)
    level_few (suc j) h =
        let rows : ℕ → List ℕ = λ n. run (n * letter_digits) letter_symbols in
        let most = rising_within (level (suc j)) (each rows (level j)) (keep_run_rising _ 0 (letter_digits ^ suc j)) (λ m. level_more j m h) in
        omega (arith, most, each_most rows letter_symbols (λ n. omega (arith, length_run (n * letter_digits) letter_symbols)) (level j), level_few j (omega arith), pow-suc letter_symbols j)

    -- so the candidates of 1 to k letters are fewer than 14 ^ (k + 1) / 13
    tries_few : (quorum : ℕ) (ss : List (List ℕ)) (k : ℕ) → k ≤ size t → 13 * tries (walk_in (mixed a) t quorum ss) k + 14 ≤ letter_symbols ^ suc k
    unfolding level tries candidate walk_in mixed
    tries_few quorum ss zero h = omega arith
    tries_few quorum ss (suc k) h =
        let W = walk_in (mixed a) t quorum ss in
        let within_level = keep_wider (candidate W (suc k)) (allowed_in (mixed a) t (suc k)) (λ m e. ((both (allowed_in (mixed a) t (suc k) m) _).0 e).0) (run 0 (letter_digits ^ suc k)) in
        omega (arith, tries_few quorum ss k (omega arith), within_level, level_few (suc k) h, pow-suc letter_symbols (suc k))

-- ---- the count

pub mixed_steps_few : (t : Template) → t.profile ≡ Mixed → SoundTemplate t → (quorum : ℕ) (ss : List (List ℕ)) → whole_steps t quorum ss < 2 ^ 62
unfolding whole_steps
mixed_steps_few t e sound quorum ss =
    let short : suc (size t) ≤ 17 = omega (arith, sound.short, mixed_most t e) in
    let most = pow-le-pow_right {n = letter_symbols} (omega arith) short in
    rw (mixed_search t e) (omega (arith, tries_few (λ c. c.allowance) t quorum ss (size t) (omega arith), most))

-- a whole search of either kind takes fewer than 2 ^ 63 steps
pub whole_steps_few : (t : Template) (quorum : ℕ) (letters lengths : List ℕ) → SoundTemplate t → SoundSet letters lengths → 1 ≤ quorum
    → whole_steps t quorum (sequences letters lengths) < 2 ^ 63
whole_steps_few t quorum letters lengths sound set some = go t.profile refl
  where
    go : (p : declared.Profile) → t.profile ≡ p → whole_steps t quorum (sequences letters lengths) < 2 ^ 63
    go Exact e = exact_steps_few t (exact_search t e) quorum letters lengths sound set some
    go Mixed e = omega (arith, mixed_steps_few t e sound quorum (sequences letters lengths))
