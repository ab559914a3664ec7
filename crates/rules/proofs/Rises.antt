-- How the last letter of a candidate goes up, by the kind of search. The later siblings of a candidate have its letters but for the
-- last, which is a higher one, so only the component that this letter is of can tell which of them are allowed. An exact search allows
-- all four letters. A mixed one allows those that stand for one base, and the others where the component has room for one more of them:
-- so once a letter is not allowed no higher one is, and the first later sibling is the next number or there is none.
use mathlib.Core.Path.{◌≡◌, refl, sym, ap, ◌∙◌, subst}
use mathlib.Core.Bool.{Bool, true, false, ◌&&◌, ◌||◌, false≢true}
use mathlib.Core.List.{List, [], ◌∷◌, ◌++◌, map, append-nil, Memᴰ}
use Prim.Native.Nat.{ℕ, zero, suc, ◌+◌, ◌-◌, ◌*◌, ◌/◌, ◌%◌, ◌^◌, ◌≤◌, ◌<◌}
use native.Mathlib.Decide.{dec_lt}
use native.Mathlib.Nat.{pow-suc, pow-le-pow_right, le_trans, add-zero, div-add-mod', div-lt_iff_lt-mul, mul-div_left, mul-mod_left, mul-le-mul_right}
use native.Mathlib.Numerals.{add-one}
use native.Mathlib.Omega.{arith}
use lib.Dec.{leb, ltb}
use lib.ListN.{length, take, drop, get_or, length-append, length-drop, drop_of_length-le}
use lib.Seq.{take_all, take-nil, drop-nil, take-append-le, drop-append-le, drop-drop}
use borrow.Author.Tests.{leb-true, leb-false, ltb-true, ltb-false, lt-ltb, le-ltb}
use Rattle.rules.specs.Limits.{letter_bases, letter_symbols, letter_digits}
use Rattle.rules.specs.Lists.{run, if, keep, all_pass, sum}
use Rattle.rules.specs.Motif.{spell}
use Rattle.rules.specs.Profile.{Profile, Proper, allowed, exactly, mixed, within, several, profile_by, profile_of, base_of}
use Rattle.rules.specs.Sound.{SoundTemplate}
use Rattle.rules.specs.Support.{allowed_in, valid}
use Rattle.rules.specs.Template.{none, components, size}
use Rattle.rules.specs.Walk.{Walk, place, ended_place, choose, children, later, walk_in, spelled}
use Rattle.rules.specs.declared.Component.{Component}
use Rattle.rules.specs.declared.Place.{Place}
use Rattle.rules.specs.declared.Profile as declared
use Rattle.rules.specs.declared.Profile.TheVariants.{Exact, Mixed}
use Rattle.rules.specs.declared.Template.{Template}
use Rattle.rules.proofs.EachKind.{kind_proper}
use Rattle.rules.proofs.Exact.{exact_search, exact_base, exact_allowed}
use Rattle.rules.proofs.Lists.{keep_append, keep_none}
use Rattle.rules.proofs.Members.{keep_run_out}
use Rattle.rules.proofs.Mixed.{mixed_search, mixed_base}
use Rattle.rules.proofs.Profiles.{allowed_nil, spelled_in, mixed_proper}
use Rattle.rules.proofs.Spelling.{spell_more, spell_drop, length_spell}
use Rattle.rules.proofs.Tests.{both, and_true, and_false, or_true}

-- ---- the component of a letter

-- the letters of the first k components
abbrev pub letters_to : List Component → ℕ → ℕ
letters_to cs k = sum (map (λ c. c.length) (take k cs))

-- after fewer letters than there are in all comes letter i of some component k
letter_at : (cs : List Component) (d : ℕ) → d < sum (map (λ c. c.length) cs)
    → (k : ℕ) × (i : ℕ) × (k < length cs) × (i < (get_or cs k none).length) × (d ≡ letters_to cs k + i)
unfolding sum
letter_at [] d h = absurd (omega arith)
letter_at (c ∷ cs) d h =
    elim (dec_lt d c.length) [
      | yes l ↦ (0, d, omega arith, l, omega arith)
      | no l ↦ (let r = letter_at cs (d - c.length) (omega arith) in (suc r.0, r.1, omega (arith, r.2), r.3, omega (arith, r.4)))
    ]

-- so what is allowed after some letters is what their last component allows
module _ (f : Component → List ℕ → Bool) (empty : (c : Component) → f c [] ≡ true) where
  allowed_cons : (c : Component) (cs : List Component) (w : List ℕ) → allowed f (c ∷ cs) w ≡ f c (take c.length w) && allowed f cs (drop c.length w)
  unfolding allowed
  allowed_cons c cs [] = rw (take-nil {A = ℕ} c.length, drop-nil {A = ℕ} c.length, empty c) (sym (allowed_nil f cs))
  allowed_cons c cs (x ∷ w) = refl

  allowed_more : (cs : List Component) (k i : ℕ) (w v : List ℕ) → k < length cs → i + length v ≤ (get_or cs k none).length → length w ≡ letters_to cs k + i → allowed f cs w ≡ true
      → allowed f cs (w ++ v) ≡ f (get_or cs k none) (drop (letters_to cs k) w ++ v)
  unfolding sum
  allowed_more [] k i w v l h e a = absurd (omega arith)
  allowed_more (c ∷ cs) zero i w v l h e a =
      let z : length (w ++ v) ≤ c.length = omega (arith, length-append w v) in
      rw (allowed_cons c cs (w ++ v), take_all c.length (w ++ v) z, drop_of_length-le (w ++ v) {i = c.length} z, allowed_nil f cs) (and_true _)
  allowed_more (c ∷ cs) (suc k) i w v l h e a =
      let s : c.length ≤ length w = omega arith in
      let b = (both (f c (take c.length w)) (allowed f cs (drop c.length w))).0 (sym (allowed_cons c cs w) ∙ a) in
      rw (allowed_cons c cs (w ++ v), take-append-le c.length w v s, drop-append-le c.length w v s, b.0, ← drop-drop (letters_to cs k) c.length w)
      (allowed_more cs k i (drop c.length w) v (omega arith) h (omega (arith, length-drop c.length w)) b.1)

-- ---- one letter more

module _ (P : Profile) (proper : Proper P) (t : Template) (k i : ℕ) (there : k < length (components t)) (inside : i < (get_or (components t) k none).length)
    (j : ℕ) (counted : j ≡ letters_to (components t) k + i) where
  after : (m : ℕ) (v : List ℕ) → i + length v ≤ (get_or (components t) k none).length → allowed_in P t j m ≡ true
      → allowed P.allows (components t) (spell P.base j m ++ v) ≡ P.allows (get_or (components t) k none) (spell P.base i m ++ v)
  unfolding allowed_in
  after m v l a =
      let e : drop (letters_to (components t) k) (spell P.base j m) ≡ spell P.base i m = rw counted (spell_drop P.base (letters_to (components t) k) i m) in
      allowed_more P.allows proper.none (components t) k i (spell P.base j m) v there l (length_spell P.base j m ∙ counted) a ∙ rw e

  -- of allowed letters those of component k are allowed there,
  here_allowed : (m : ℕ) → allowed_in P t j m ≡ true → P.allows (get_or (components t) k none) (spell P.base i m) ≡ true
  unfolding allowed_in
  here_allowed m a = sym (simp append-nil at (after m [] (omega arith) a)) ∙ a

  -- and one letter more is, if they are with it
  more_allowed : (m : ℕ) → allowed_in P t j (m / P.base) ≡ true → allowed_in P t (suc j) m ≡ P.allows (get_or (components t) k none) (spell P.base i (m / P.base) ++ (m % P.base ∷ []))
  unfolding allowed_in
  more_allowed m a = ap (allowed P.allows (components t)) (spell_more P.base j m) ∙ after (m / P.base) (m % P.base ∷ []) (omega arith) a

-- letters that a component of a mixed motif may have, and one more: where it stands for several bases, there must be room for it
abbrev fits : Bool → ℕ → Bool
fits room y = ltb y letter_symbols && (ltb y letter_bases || room)

fits_next : (room : Bool) (x : ℕ) → fits room x ≡ true → x < 13 → (x ≡ 3 → ⊥) → fits room (suc x) ≡ true
fits_next room x h l n =
    elim (dec_lt x 3) [
      | yes u ↦ rw (lt-ltb (suc x) letter_symbols (omega arith), lt-ltb (suc x) letter_bases (omega arith))
      | no u ↦ (let r : room ≡ true = rw (le-ltb x letter_bases (omega arith)) at ((both (ltb x letter_symbols) (ltb x letter_bases || room)).0 h).1 in
          rw (r, lt-ltb (suc x) letter_symbols (omega arith), or_true))
    ]

all_last : (f : ℕ → Bool) (w : List ℕ) (y : ℕ) → all_pass f w ≡ true → all_pass f (w ++ (y ∷ [])) ≡ f y
unfolding all_pass
all_last f [] y e = and_true (f y)
all_last f (x ∷ w) y e = let b = (both (f x) (all_pass f w)).0 e in rw b.0 (all_last f w y b.1)

room_more : (n a y : ℕ) → leb n a ≡ true → leb (n + length (keep (leb letter_bases) (y ∷ []))) a ≡ (ltb y letter_bases || ltb n a)
unfolding keep
room_more n a y h = go (leb letter_bases y) refl
  where
    go : (b : Bool) → leb letter_bases y ≡ b → leb (n + length (if b (y ∷ []) [])) a ≡ (ltb y letter_bases || ltb n a)
    go true e = rw (le-ltb y letter_bases (leb-true letter_bases y e), add-one)
    go false e = rw (lt-ltb y letter_bases (leb-false letter_bases y e), add-zero) h

within_more : (allowance : Component → ℕ) (c : Component) (w : List ℕ) (y : ℕ) → within allowance c w ≡ true → within allowance c (w ++ (y ∷ [])) ≡ fits (ltb (several w) (allowance c)) y
unfolding within several
within_more allowance c w y h =
    let b = (both (all_pass (λ x. ltb x letter_symbols) w) (leb (several w) (allowance c))).0 h in
    rw (all_last (λ x. ltb x letter_symbols) w y b.0, keep_append, length-append, room_more (several w) (allowance c) y b.1)

-- ---- numbers of allowed letters

-- A may follow letters that a component may have
then_a : (p : declared.Profile) (c : Component) (w : List ℕ) → (profile_by p).allows c w ≡ true → (profile_by p).allows c (w ++ (0 ∷ [])) ≡ true
unfolding profile_by exactly mixed
then_a Exact c w e = refl
then_a Mixed c w e = within_more (λ c. c.allowance) c w 0 e

module _ (t : Template) where
  base_pos : 1 ≤ base_of t
  base_pos = (kind_proper t.profile).pos

  -- the letters before the last are allowed too,
  pub shorter_valid : (j m : ℕ) → valid t (suc j) m ≡ true → valid t j (m / base_of t) ≡ true
  unfolding spelled walk_in allowed_in spell
  shorter_valid j m v =
      let b = (both (ltb m (base_of t ^ suc j)) (allowed_in (profile_of t) t (suc j) m)).0 v in
      (both _ _).1 (lt-ltb (m / base_of t) (base_of t ^ j) ((div-lt_iff_lt-mul {x = m} {y = base_of t ^ j} base_pos).1 (rw pow-suc at (ltb-true m _ b.0))), go j m b.1)
    where
      P : Profile
      P = profile_of t

      go : (j m : ℕ) → allowed_in P t (suc j) m ≡ true → allowed_in P t j (m / base_of t) ≡ true
      go zero m a = allowed_nil P.allows (components t)
      go (suc j) m a =
          sym (spelled_in P (kind_proper t.profile) t 0 [] j (m / base_of t))
          ∙ ((both (allowed_in P t (suc (suc j)) m) _).0 (spelled_in P (kind_proper t.profile) t 0 [] (suc j) m ∙ a)).1

  -- and A after them, where there is a letter to come
  pub child_valid : (j m : ℕ) → j < size t → valid t j m ≡ true → valid t (suc j) (m * base_of t) ≡ true
  unfolding size
  child_valid j m l v =
      let b = (both (ltb m (base_of t ^ j)) (allowed_in (profile_of t) t j m)).0 v in
      let r = letter_at (components t) j l in
      let q : m * base_of t / base_of t ≡ m = mul-div_left m base_pos in
      let P = profile_of t in
      let k = kind_proper t.profile in
      (both _ _).1 (
        lt-ltb (m * base_of t) (base_of t ^ suc j) (rw pow-suc (omega (arith, base_pos, mul-le-mul_right (base_of t) (ltb-true m (base_of t ^ j) b.0)))),
        more_allowed P k t r.0 r.1 r.2 r.3 j r.4 (m * base_of t) (rw q b.1) ∙ rw (q, mul-mod_left) (then_a t.profile _ _ (here_allowed P k t r.0 r.1 r.2 r.3 j r.4 m b.1)),
      )

  -- such a number fits 64 bits
  pub valid_fits : SoundTemplate t → (j m : ℕ) → j ≤ size t → valid t j m ≡ true → m < 2 ^ 64
  valid_fits o j m l v =
      let b = ltb-true m (base_of t ^ j) ((both _ _).0 v).0 in
      let k = kind_proper t.profile in
      let w : base_of t ^ j ≤ 256 ^ 8 = le_trans (pow-le-pow_right {n = base_of t} base_pos {i = j} {j = (profile_of t).most} (omega (arith, o.short))) k.wide in
      omega arith

-- ---- THE STEP

-- the first number of a run that is kept is its first, or none is
first_kept : (f : ℕ → Bool) (p : Place) (j a : ℕ) (b : Bool) (n : ℕ) → (b ≡ true → (1 ≤ n) × (f a ≡ true)) → (b ≡ false → (x : ℕ) → a ≤ x → x < a + n → f x ≡ false)
    → choose p j (keep f (run a n)) ≡ if b (place j a) p
unfolding keep run
first_kept f p j a true zero h g = absurd (omega (arith, (h refl).0))
first_kept f p j a true (suc n) h g = rw (h refl).1
first_kept f p j a false n h g = rw (keep_none f a n (g refl))

module _ (t : Template) (good : ℕ → ℕ → Bool) (depth : ℕ) where
  -- the walk of the template's kind of search, whatever is frequent
  abbrev W : Walk
  W = record { base = base_of t; may = allowed_in (profile_of t) t; good = good; depth = depth }

  -- DOWN: the first child of a prefix has A for its last letter
  pub first_child : (j m : ℕ) → j < size t → valid t j m ≡ true → (p : Place) → choose p (suc j) (children W j m) ≡ place (suc j) (m * base_of t)
  unfolding children
  first_child j m l v p =
      first_kept (allowed_in (profile_of t) t (suc j)) p (suc j) (m * base_of t) true (base_of t)
      (λ e. (base_pos t, ((both (ltb (m * base_of t) _) _).0 (child_valid t j m l v)).1)) (λ e. absurd (false≢true (sym e)))

  -- UP: a prefix that rises to the next number stays one of allowed letters
  pub risen_valid : (j m : ℕ) → ((p : Place) → choose p (suc j) (later W (suc j) m) ≡ place (suc j) (suc m)) → valid t (suc j) m ≡ true → valid t (suc j) (suc m) ≡ true
  unfolding later
  risen_valid j m e v =
      let r = keep_run_out (allowed_in (profile_of t) t (suc j)) (suc m) (base_of t - suc (m % base_of t)) (suc m) (go (later W (suc j) m) (e ended_place)) in
      let l = ltb-true (m / base_of t) (base_of t ^ j) ((both _ _).0 (shorter_valid t j m v)).0 in
      (both _ _).1 (lt-ltb (suc m) (base_of t ^ suc j) (rw pow-suc (omega (arith, r.1, div-add-mod' m (base_of t), mul-le-mul_right (base_of t) l))), r.2)
    where
      go : (ns : List ℕ) → choose ended_place (suc j) ns ≡ place (suc j) (suc m) → Memᴰ (suc m) ns
      go [] e = absurd (omega (arith, ap (λ (p : Place). p.letters) e))
      go (n ∷ ns) e = Memᴰ.head (sym (ap (λ (p : Place). p.number) e))

  rises_by : {b : ℕ} → base_of t ≡ b → (j m : ℕ) (p : Place) (r : Bool) → (r ≡ true → (1 ≤ b - suc (m % b)) × (allowed_in (profile_of t) t j (suc m) ≡ true))
      → (r ≡ false → (n : ℕ) → suc m ≤ n → n < suc m + (b - suc (m % b)) → allowed_in (profile_of t) t j n ≡ false) → choose p j (later W j m) ≡ if r (place j (suc m)) p
  unfolding later
  rises_by {b} e j m p r h g =
      ap (λ (b : ℕ). choose p j (keep (allowed_in (profile_of t) t j) (run (suc m) (b - suc (m % b))))) e
      ∙ first_kept (allowed_in (profile_of t) t j) p j (suc m) r (b - suc (m % b)) h g

  -- in an exact search by one unless its last letter is T
  pub exact_rises : t.profile ≡ Exact → (j m : ℕ) (p : Place) → choose p j (later W j m) ≡ if (ltb (m % letter_bases) 3) (place j (suc m)) p
  exact_rises e j m p =
      let x = exact_search t e in
      rises_by (exact_base t x) j m p (ltb (m % letter_bases) 3)
      (λ r. (omega (arith, ltb-true (m % letter_bases) 3 r), exact_allowed t x j (suc m))) (λ r n l h. absurd (omega (arith, ltb-false (m % letter_bases) 3 r)))

  -- in a mixed one by the last letter, which is letter i of component k
  module _ (is : t.profile ≡ Mixed) (j m : ℕ) (ok : valid t (suc j) m ≡ true) where
    module _ (k i : ℕ) (there : k < length (components t)) (inside : i < (get_or (components t) k none).length) (counted : j ≡ letters_to (components t) k + i) where
      abbrev room : Bool
      room = ltb (several (spell letter_digits i (m / letter_digits))) (get_or (components t) k none).allowance

      -- a sibling is allowed by its last letter
      sibling : (n : ℕ) → n / letter_digits ≡ m / letter_digits → allowed_in (profile_of t) t (suc j) n ≡ fits room (n % letter_digits)
      unfolding mixed
      sibling n e =
          let A : Component → ℕ = λ c. c.allowance in
          let P = mixed A in
          let s : allowed_in P t j (n / letter_digits) ≡ true = rw e (subst (λ P. allowed_in P t j (m / P.base) ≡ true) (mixed_search t is) ((both (ltb (m / base_of t) _) _).0 (shorter_valid t j m ok)).1) in
          let c = get_or (components t) k none in
          rw (mixed_search t is)
          (more_allowed P (mixed_proper A) t k i there inside j counted n s
          ∙ within_more A c (spell letter_digits i (n / letter_digits)) (n % letter_digits) (here_allowed P (mixed_proper A) t k i there inside j counted (n / letter_digits) s)
          ∙ rw e)

      -- past T only where there is room for a letter that stands for several bases
      pub rises_past_t : m % letter_digits ≡ 3 → (p : Place) → choose p (suc j) (later W (suc j) m) ≡ if room (place (suc j) (suc m)) p
      rises_past_t e p =
          rises_by (mixed_base t is) (suc j) m p room
          (λ r. (omega arith, sibling (suc m) (omega arith) ∙ (let z : suc m % letter_digits ≡ 4 = omega arith in rw z r)))
          (λ r n l h. sibling n (omega arith) ∙ rw (r, le-ltb (n % letter_digits) letter_bases (omega arith), and_false))

      rises_elsewhere : (m % letter_digits ≡ 3 → ⊥) → (p : Place) → choose p (suc j) (later W (suc j) m) ≡ if (ltb (m % letter_digits) 13) (place (suc j) (suc m)) p
      rises_elsewhere e p =
          let x = m % letter_digits in
          rises_by (mixed_base t is) (suc j) m p (ltb x 13)
          (λ r. let l = ltb-true x 13 r in let z : suc m % letter_digits ≡ suc x = omega arith in
          (omega arith, sibling (suc m) (omega arith) ∙ rw z (fits_next room x (sym (sibling m refl) ∙ ((both (ltb m _) _).0 ok).1) l e)))
          (λ r n l h. sibling n (omega arith) ∙ rw (le-ltb (n % letter_digits) letter_symbols (omega (arith, ltb-false x 13 r))))

    -- and from any other letter to the next, but not past V
    pub rises_not_t : j < size t → (m % letter_digits ≡ 3 → ⊥) → (p : Place) → choose p (suc j) (later W (suc j) m) ≡ if (ltb (m % letter_digits) 13) (place (suc j) (suc m)) p
    unfolding size
    rises_not_t l = let r = letter_at (components t) j l in rises_elsewhere r.0 r.1 r.2 r.3 r.4
