-- Laws that the checks lean on: checks two by two, a test of every byte, a sum from one index to the next, a power of a base
-- one letter at a time, and how far the search for a bad component is.
use Rattle.std.specs.Prelude.{Option, Some, None}
use Rattle.std.specs.List.{position_or_len, position_from, enumerate_from, list_any}
use Rattle.std.proofs.lemmas.Iterator.Adapters.{position_from-zero}
use Rattle.std.proofs.Math.Seq.{drop-append_seam, take-append_seam}
use mathlib.Core.Bool.{Bool, true, false, ◌&&◌, ◌||◌, not, cond, and_assoc}
use mathlib.Core.List.{List, [], ◌∷◌, ◌++◌, append-nil}
use mathlib.Core.Path.{◌≡◌, ◌∙◌, refl, sym, ap}
use Prim.Native.Nat.{ℕ, zero, suc, ◌+◌, ◌-◌, ◌/◌, ◌≤◌, ◌<◌, min}
use native.Mathlib.Nat.{zero-add, div-eq_of_lt, le-div_iff_mul-le}
use native.Mathlib.Numerals.{add-one}
use native.Mathlib.Omega.{arith}
use lib.Dec.{ltb, eqb}
use lib.ListN.{length, get_or, take, drop, length-append, length-drop, take-append-drop, drop_of_length-le}
use lib.Seq.{drop-cons, drop-drop, length-take-le, take_all}
use borrow.Author.Tests.{ltb-true, ltb-false, eq-eqb, ne_eqb}
use Rattle.rules.specs.Letters.{is_letter}
use Rattle.rules.specs.Limits.{template_components}
use Rattle.rules.specs.Lists.{if, keep, has_some, all_pass}
use Rattle.checks.specs.CheckOrders.{template_checks}
use Rattle.checks.specs.ScannedLetters.{LettersUpTo, told_first}
use Rattle.rules.specs.Refusals.{◌else◌, first, first_bad, bad_byte, set_checks, new_checks, check9}
use Rattle.rules.specs.Template.{slots, components}
use Rattle.rules.specs.Told.{fine, refused}
use Rattle.rules.specs.declared.Component.{Component}
use Rattle.rules.specs.declared.Template.{Template}
use Rattle.rules.proofs.Tables.{take_min}
use Rattle.rules.proofs.Tests.{both, and_true}
use Rattle.rules.proofs.Verdicts.{else_assoc, else_fine}

-- EVERY BYTE. A test of those passed and of the rest, one byte further on
pub all_on : (f : ℕ → Bool) (a : Bool) (i : ℕ) (l : List ℕ) → i < length l → a && all_pass f (drop i l) ≡ a && f (get_or l i 0) && all_pass f (drop (i + 1) l)
unfolding all_pass
all_on f a i l h = rw (drop-cons l i 0 h, add-one, and_assoc)

-- past the end there is no rest
pub all_end : (f : ℕ → Bool) (a : Bool) (i : ℕ) (l : List ℕ) → length l ≤ i → a && all_pass f (drop i l) ≡ a
unfolding all_pass
all_end f a i l h = rw (drop_of_length-le l {i = i} h, and_true)

-- behind letters, the first bad byte is the first of the rest
letters_first : (o : ℕ) (l m : List ℕ) → all_pass is_letter l ≡ true → first_bad 4 bad_byte o (l ++ m) ≡ first_bad 4 bad_byte (length l + o) m
unfolding all_pass first_bad
letters_first o [] m e = rw zero-add
letters_first o (b ∷ l) m e =
    let h = (both (is_letter b) (all_pass is_letter l)).0 e in
    let q : suc (length l) + o ≡ length l + suc o = omega arith in
    rw (ap not h.0, q) (letters_first (suc o) l m h.1)

-- so where all are letters none is bad
pub all_letters : (o : ℕ) (l : List ℕ) → all_pass is_letter l ≡ true → first_bad 4 bad_byte o l ≡ fine
unfolding first_bad
all_letters o l e = rw append-nil at (letters_first o l [] e)

-- and where the bytes from i up to j are letters, it is the first from j on
pub letters_past : (o i j : ℕ) (l : List ℕ) → i ≤ j → j ≤ length l → all_pass is_letter (take (j - i) (drop i l)) ≡ true → first_bad 4 bad_byte (i + o) (drop i l) ≡ first_bad 4 bad_byte (j + o) (drop j l)
letters_past o i j l h k e =
    let d : length (drop i l) ≡ length l - i = length-drop i l in
    let n : length (take (j - i) (drop i l)) + (i + o) ≡ j + o = omega (arith, length-take-le (j - i) (drop i l) (omega arith)) in
    let s : i + (j - i) ≡ j = omega arith in
    rw (n, take-append-drop, drop-drop, s) at (letters_first (i + o) (take (j - i) (drop i l)) (drop (j - i) (drop i l)) e)

-- so a block that is cut from the front of the rest is passed, where all of its bytes are letters
pub block_passed : (bytes block rest : List ℕ) (i : ℕ) → LettersUpTo bytes i → drop i bytes ≡ block ++ rest → length block ≡ 64 → all_pass is_letter block ≡ true
    → LettersUpTo bytes (i + 64) × (rest ≡ drop (i + 64) bytes)
block_passed bytes block rest i h cut n e =
    let k : length block + length rest ≡ length bytes - i = sym (length-append block rest) ∙ ap length (sym cut) ∙ length-drop i bytes in
    let left : rest ≡ drop (i + 64) bytes = sym (rw (← drop-drop 64 i bytes, cut, ← n) (drop-append_seam block rest)) in
    let w : i + 64 - i ≡ length block = omega (arith, n) in
    let front : take (i + 64 - i) (drop i bytes) ≡ block = rw (w, cut) (take-append_seam block rest) in (
      (omega arith, λ o. h.1 o ∙ letters_past o i (i + 64) bytes (omega arith) (omega arith) (rw front e)),
      left,
    )

-- what is left of a number once another is taken away says whether they are the same
pub same_left : (a s l : ℕ) → a + s ≡ l → eqb s l ≡ eqb a 0
same_left zero s l e = eq-eqb s l (omega arith)
same_left (suc a) s l e = ne_eqb s l (λ f. omega arith) ∙ sym (ne_eqb (suc a) 0 (λ f. omega arith))

-- POWERS. A number is below another exactly if nothing is left of it by a division by that
pub nothing_left : (b n : ℕ) → 1 ≤ b → eqb (n / b) 0 ≡ ltb n b
nothing_left b n some = go (ltb n b) refl
  where
    go : (less : Bool) → ltb n b ≡ less → eqb (n / b) 0 ≡ less
    go true e = eq-eqb (n / b) 0 (div-eq_of_lt (ltb-true n b e))
    go false e = ne_eqb (n / b) 0 (λ f. let q : 1 ≤ n / b = (le-div_iff_mul-le some).1 (omega (arith, ltb-false n b e)) in omega (arith, q, f))

-- A TEMPLATE'S COMPONENTS: as many slots as it counts, and no more than there are
pub held_slots : (t : Template) {cs : List Component} {h : ℕ} → cs ≡ slots t → h ≡ min t.count template_components → take h cs ≡ components t
unfolding components
held_slots t s e = rw (s, e, take_min t.count (slots t))

-- THE FIRST BAD ONE, counted from o, by a test that is the same at every place: what the library's `position` finds tells it
module _ {A : Type 0} (n : ℕ) (p : A → Bool) where
  abbrev pub anywhere : ℕ → A → Bool
  anywhere i x = p x

  placed_from : (o i : ℕ) (xs : List A) → first_bad n anywhere (i + o) xs ≡ told_first n o (position_from p i xs)
  unfolding first_bad
  placed_from o i [] = refl
  placed_from o i (x ∷ xs) = go (p x) (let k : suc (i + o) ≡ i + 1 + o = omega arith in rw k (placed_from o (i + 1) xs))
    where
      go : (b : Bool) → first_bad n anywhere (suc (i + o)) xs ≡ told_first n o (position_from p (i + 1) xs)
          → if b (refused n (i + o)) (first_bad n anywhere (suc (i + o)) xs) ≡ told_first n o (cond b (Some i) (position_from p (i + 1) xs))
      go true e = refl
      go false e = e

  pub placed : (o : ℕ) (xs : List A) (r : Option ℕ) → r ≡ cond (ltb (position_or_len p xs) (length xs)) (Some (position_or_len p xs)) None → told_first n o r ≡ first_bad n anywhere o xs
  placed o xs r e = let k = placed_from o 0 xs in ap (told_first n o) (e ∙ position_from-zero p xs) ∙ sym (rw zero-add at k)

-- and by a test of each with its place
module _ {A : Type 0} (n : ℕ) (bad : ℕ → A → Bool) where
  abbrev pub numbered : ℕ × A → Bool
  numbered p = bad (p.0 + 1) p.1

  numbered_from : (i : ℕ) (xs : List A) → first_bad n bad (i + 1) xs ≡ told_first n 1 (position_from numbered i (enumerate_from i xs))
  unfolding first_bad
  numbered_from i [] = refl
  numbered_from i (x ∷ xs) = go (bad (i + 1) x) (let k : suc (i + 1) ≡ i + 1 + 1 = omega arith in rw k (numbered_from (i + 1) xs))
    where
      go : (b : Bool) → first_bad n bad (suc (i + 1)) xs ≡ told_first n 1 (position_from numbered (i + 1) (enumerate_from (i + 1) xs))
          → if b (refused n (i + 1)) (first_bad n bad (suc (i + 1)) xs) ≡ told_first n 1 (cond b (Some i) (position_from numbered (i + 1) (enumerate_from (i + 1) xs)))
      go true e = refl
      go false e = e

-- of the components that a template holds
module _ (n : ℕ) (p : Component → Bool) (t : Template) {cs : List Component} {h : ℕ} (s : cs ≡ slots t) (e : h ≡ min t.count template_components) where
  pub first_placed : (r : Option ℕ) → r ≡ cond (ltb (position_or_len p (take h cs)) (length (take h cs))) (Some (position_or_len p (take h cs))) None → told_first n 1 r ≡ first_bad n (anywhere n p) 1 (components t)
  first_placed r f = rw (← held_slots t s e) (placed n p 1 (take h cs) r f)

module _ (n : ℕ) (bad : ℕ → Component → Bool) (t : Template) {cs : List Component} {h : ℕ} (s : cs ≡ slots t) (e : h ≡ min t.count template_components) where
  pub first_numbered : (r : Option ℕ) → r ≡ cond (ltb (position_or_len (numbered n bad) (enumerate_from 0 (take h cs))) (length (enumerate_from 0 (take h cs)))) (Some (position_or_len (numbered n bad) (enumerate_from 0 (take h cs)))) None
      → told_first n 1 r ≡ first_bad n bad 1 (components t)
  first_numbered r f = rw (← held_slots t s e) (ap (told_first n 1) (f ∙ position_from-zero (numbered n bad) (enumerate_from 0 (take h cs))) ∙ sym (numbered_from n bad 0 (take h cs)))

-- ANY BAD ONE
pub some_bad : {A : Type 0} (p : A → Bool) (xs : List A) → list_any p xs ≡ has_some (keep p xs)
unfolding has_some keep
some_bad p [] = refl
some_bad p (x ∷ xs) = go (p x) (some_bad p xs)
  where
    go : (b : Bool) → list_any p xs ≡ has_some (keep p xs) → b || list_any p xs ≡ has_some (if b (x ∷ keep p xs) (keep p xs))
    go true e = refl
    go false e = e

-- THE MARK, sought in what is left of some bytes: there the library's `position` finds the first that is no letter
pub marked : (bytes : List ℕ) (i : ℕ) (r : Option ℕ) → LettersUpTo bytes i → r ≡ cond (ltb (position_or_len (λ b. not (is_letter b)) (take (length bytes - i) (drop i bytes))) (length (take (length bytes - i) (drop i bytes)))) (Some (position_or_len (λ b. not (is_letter b)) (take (length bytes - i) (drop i bytes)))) None
    → (o : ℕ) → first_bad 4 bad_byte o bytes ≡ told_first 4 (i + o) r
marked bytes i r h f o =
    let whole : take (length bytes - i) (drop i bytes) ≡ drop i bytes = take_all (length bytes - i) (drop i bytes) (omega (arith, length-drop i bytes)) in
    h.1 o ∙ sym (placed 4 (λ b. not (is_letter b)) (i + o) (drop i bytes) r (rw whole at f))

-- THE ORDERS, as their parts one after another
-- of a new search: the sequences, the template, the quorum
pub new_in_turn : (letters lengths : List ℕ) (t : Template) (quorum : ℕ) → first (new_checks letters lengths t quorum) ≡ first (set_checks letters lengths) else (first (template_checks t) else check9 lengths quorum)
unfolding first new_checks
new_in_turn letters lengths t quorum = simp (else_assoc, else_fine)
