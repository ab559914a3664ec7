-- The counts before each component in turn. Where the row of the prefix that ends a component has a bit, those before it are the ways of
-- the prefix; with the gap opened they are those before the next one, where that row with the gap opened has a bit.
use mathlib.Core.Bool.{Bool, true, false}
use mathlib.Core.List.{List, [], ◌∷◌, ◌++◌, map}
use mathlib.Core.Path.{◌≡◌, refl, sym, ap, ◌∙◌}
use Prim.Native.Nat.{ℕ, zero, suc, ◌+◌, ◌-◌, ◌*◌, ◌/◌, ◌^◌, ◌≤◌, ◌<◌}
use native.Mathlib.Decide.{dec_lt}
use native.Mathlib.Nat.{le_trans, div-div-eq-div-mul}
use native.Mathlib.Omega.{arith}
use lib.ListN.{length, take, drop, get_or, replicate, length-replicate, get_or-replicate, get_or-eq_default}
use lib.Pow.{pow-add}
use borrow.Rule.Slice.PartMut.{mid_len}
use Rattle.rules.proofs.Apart.{last_is}
use Rattle.rules.proofs.Components.{components_length, components_some, components_sound}
use Rattle.rules.proofs.Over.{map_agree, map_one}
use Rattle.rules.proofs.Spelling.{length_spell}
use Rattle.rules.specs.Lists.{sign, run, sum}
use Rattle.rules.specs.Motif.{spell}
use Rattle.rules.specs.Profile.{profile_of, base_of}
use Rattle.rules.specs.Sound.{SoundSet, SoundTemplate}
use Rattle.rules.specs.Support.{parts, parts_in}
use Rattle.rules.specs.Template.{none, size, components, distance, after}
use Rattle.rules.specs.declared.Component.{Component}
use Rattle.rules.specs.declared.Template.{Template}
use Rattle.rows.specs.Flags.{count_most, reached, added, last_ways, has_left, masked_at, masked}
use Rattle.matching.specs.Path.{Path, prefix_starts, before_next}
use Rattle.rows.specs.NextLetter.{letters_before, before_letter}
use Rattle.rows.specs.Rows.{padded}
use Rattle.rows.specs.Set.{words_of, between, bits_at, is_marked, sequence, Row, Source}
use Rattle.matching.specs.Weights.{counts_at, kept_counts, HoldsCounts, counted_from, begun_counts, LeadsTo}
use Rattle.rows.proofs.ByFlags.{long}
use Rattle.rows.proofs.Link.{padded_in, padded_out}
use Rattle.rows.proofs.Dark.{none_set}
use Rattle.rows.proofs.Last.{length_added, length_before_letter}
use Rattle.rows.proofs.Masked.{component_ways, masked_sign}
use Rattle.rows.proofs.Most.{ways_bound}
use Rattle.rows.proofs.Signs.{sign_some, sign_at, before_sign}
use Rattle.matching.proofs.Shorter.{spell_split, left_shorter}
use Rattle.matching.proofs.Slots.{shortened}

-- ---- the letters of the components

pub letters_more : (cs : List Component) (k : ℕ) → k < length cs → letters_before cs (suc k) ≡ letters_before cs k + (get_or cs k none).length
unfolding letters_before
letters_more [] k h = absurd (omega arith)
letters_more (c ∷ cs) zero h = omega arith
letters_more (c ∷ cs) (suc k) h = omega (arith, letters_more cs k (omega arith))

letters_all : (cs : List Component) → letters_before cs (length cs) ≡ sum (map (λ c. c.length) cs)
unfolding letters_before sum
letters_all [] = refl
letters_all (c ∷ cs) = ap (λ (n : ℕ). c.length + n) (letters_all cs)

letters_most : (cs : List Component) (k : ℕ) → letters_before cs k ≤ sum (map (λ c. c.length) cs)
unfolding letters_before sum
letters_most cs zero = omega arith
letters_most [] (suc k) = omega arith
letters_most (c ∷ cs) (suc k) = omega (arith, letters_most cs k)

-- ---- lists

-- bits past the flags mask nothing
pub masked_padded : (n : ℕ) (ks vs : List ℕ) → masked (padded n ks) vs ≡ masked ks vs
unfolding masked masked_at
masked_padded n ks vs = map_agree (masked_at (padded n ks) vs) (masked_at ks vs) 0 (length vs) (λ o _ _. rw (at o))
  where
    at : (o : ℕ) → get_or (padded n ks) o 0 ≡ get_or ks o 0
    at o =
        elim (dec_lt o (length ks)) [
          | yes h ↦ padded_in n ks o h
          | no h ↦ (let g : length ks ≤ o = omega arith in padded_out n ks o g ∙ sym (get_or-eq_default ks 0 g))
        ]

-- a part of a list that begins with n times one value
drop_same : (v a n : ℕ) (rest : List ℕ) → a ≤ n → drop a (replicate n v ++ rest) ≡ replicate (n - a) v ++ rest
drop_same v zero n rest h = let z : n - 0 ≡ n = omega arith in rw z
drop_same v (suc a) zero rest h = absurd (omega arith)
drop_same v (suc a) (suc n) rest h = let z : suc n - suc a ≡ n - a = omega arith in rw z (drop_same v a n rest (omega arith))

take_same : (v a n : ℕ) (rest : List ℕ) → a ≤ n → take a (replicate n v ++ rest) ≡ replicate a v
take_same v zero n rest h = refl
take_same v (suc a) zero rest h = absurd (omega arith)
take_same v (suc a) (suc n) rest h = ap (λ (ks : List ℕ). v ∷ ks) (take_same v a n rest (omega arith))

-- a sequence's letters lie within those of all
pub sequence_in : (ns : List ℕ) (k : ℕ) → k < length ns → sum (take k ns) + get_or ns k 0 ≤ sum ns
unfolding sum
sequence_in [] k h = absurd (omega arith)
sequence_in (n ∷ ns) zero h = omega arith
sequence_in (n ∷ ns) (suc k) h = omega (arith, sequence_in ns k (omega arith))

counts_ones : (ns : List ℕ) (k n : ℕ) (rest : List ℕ) → k < length ns → sum ns ≤ n → counts_at ns k (replicate n 1 ++ rest) ≡ replicate (get_or ns k 0) 1
unfolding counts_at between
counts_ones ns k n rest h g =
    let a = sum (take k ns) in
    let i = sequence_in ns k h in
    let z : a + get_or ns k 0 - a ≡ get_or ns k 0 = omega arith in
    rw (z, drop_same 1 a n rest (omega arith)) (take_same 1 (get_or ns k 0) (n - a) rest (omega arith))

counts_long : (ns : List ℕ) (k : ℕ) (counts : List ℕ) → k < length ns → sum ns ≤ length counts → length (counts_at ns k counts) ≡ get_or ns k 0
unfolding counts_at between
counts_long ns k counts h g =
    let a = sum (take k ns) in
    let z : a + get_or ns k 0 - a ≡ get_or ns k 0 = omega arith in
    mid_len a (a + get_or ns k 0) counts (omega (arith, sequence_in ns k h)) ∙ z

-- ones masked by ones
masked_ones : (n : ℕ) → masked (replicate n 1) (replicate n 1) ≡ replicate n 1
unfolding masked masked_at
masked_ones n =
    ap (λ (m : ℕ). map (masked_at (replicate n 1) (replicate n 1)) (run 0 m)) (length-replicate n 1)
    ∙ map_agree (masked_at (replicate n 1) (replicate n 1)) (λ _. 1) 0 n (λ o _ h. let e : ◌≡◌ {A = ℕ} (get_or (replicate n 1) o 0) 1 = get_or-replicate n o 1 0 (omega arith) in rw e)
    ∙ map_one (λ _. 1) 1 0 n (λ _ _. refl)

-- ---- a shorter prefix

module _ (t : Template) (m : ℕ) where
  pub number_less : (a b : ℕ) → m / base_of t ^ a / base_of t ^ b ≡ m / base_of t ^ (a + b)
  number_less a b = div-div-eq-div-mul m (base_of t ^ a) (base_of t ^ b) ∙ ap (λ (x : ℕ). m / x) (sym (pow-add (base_of t) a b))

  -- its path
  pub prefix_path : (ns l : List ℕ) (slots : List (List ℕ)) (j i : ℕ) → Path t ns l slots j m → i ≤ j → Path t ns l slots i (m / base_of t ^ (j - i))
  prefix_path ns l slots j i p h =
      shortened t ns l slots j m i (m / base_of t ^ (j - i)) p h
      (λ q u. number_less (j - i) (i - q) ∙ ap (λ (x : ℕ). m / base_of t ^ x) (omega arith))

module _ (t : Template) (sound : SoundTemplate t) where
  abbrev of : ℕ → ℕ
  of c = (get_or (components t) c none).length

  there : (c : ℕ) → c < t.count → c < length (components t)
  there c h = omega (arith, components_length t sound.few)

  pub letters_next : (c : ℕ) → c < t.count → letters_before (components t) (suc c) ≡ letters_before (components t) c + of c
  letters_next c h = letters_more (components t) c (there c h)

  pub letters_size : (c : ℕ) → letters_before (components t) c ≤ size t
  unfolding size
  letters_size c = letters_most (components t) c

  -- those before the last component and its own are all
  pub letters_last : letters_before (components t) (suc (t.count - 1)) ≡ size t
  unfolding size
  letters_last =
      let e : suc (t.count - 1) ≡ length (components t) = omega (arith, components_length t sound.few, sound.some) in
      ap (letters_before (components t)) e ∙ letters_all (components t)

  -- and it has one
  pub last_some : letters_before (components t) (t.count - 1) < size t
  last_some =
      let h : t.count - 1 < t.count = omega (arith, sound.some) in
      omega (arith, letters_last, letters_next (t.count - 1) h, components_some sound (t.count - 1) (there (t.count - 1) h))

  -- the ways of a prefix that ends component c, from counts that are right where the component may start
  module _ (c p : ℕ) (h : c < t.count) (s : List ℕ) where
    prefix_ways : (vs : List ℕ)
        → masked (before_next reached t c 0 (letters_before (components t) c) (p / base_of t ^ of c) s) vs ≡ before_next added t c 0 (letters_before (components t) c) (p / base_of t ^ of c) s
        → masked (prefix_starts t (letters_before (components t) (suc c)) p s) vs ≡ last_ways (parts t (letters_before (components t) (suc c)) p) s
    unfolding parts_in
    prefix_ways vs before =
        let u = spell (base_of t) (letters_before (components t) c) (p / base_of t ^ of c) in
        let v = spell (base_of t) (of c) p in
        let n : length v ≡ of c = length_spell (base_of t) (of c) p in
        let some : 1 ≤ of c = components_some sound c (there c h) in
        let e : spell (base_of t) (letters_before (components t) (suc c)) p ≡ u ++ v = ap (λ (j : ℕ). spell (base_of t) j p) (letters_next c h) ∙ spell_split (base_of t) (letters_before (components t) c) (of c) p in
        rw e
        (component_ways (profile_of t).reading (components t) (components_some sound) u v s c (there c h) (length_spell (base_of t) (letters_before (components t) c) (p / base_of t ^ of c)) (omega arith) (omega arith) vs before)

    prefix_less : has_left (prefix_starts t (letters_before (components t) (suc c)) p s) ≡ true → has_left (prefix_starts t (letters_before (components t) c) (p / base_of t ^ of c) s) ≡ true
    prefix_less e = left_shorter t sound s (letters_before (components t) c) (of c) p (omega (arith, letters_next c h, letters_size (suc c))) (rw (letters_next c h) at e)

  -- where no flag stands before a letter there is no way
  flag_dark : (c p : ℕ) (s : List ℕ) (o : ℕ) → get_or (before_next reached t c 0 (letters_before (components t) c) p s) o 0 ≡ 0
      → get_or (before_next added t c 0 (letters_before (components t) c) p s) o 0 ≡ 0
  flag_dark c p s o e = go (get_or A o 0) refl
    where
      A : List ℕ
      A = before_next added t c 0 (letters_before (components t) c) p s

      flag : sign (get_or A o 0) ≡ 0
      flag = sym (ap (λ (ks : List ℕ). get_or ks o 0) (before_sign (profile_of t).reading (components t) c 0 (spell (base_of t) (letters_before (components t) c) p) s) ∙ sign_at A o) ∙ e

      go : (n : ℕ) → get_or A o 0 ≡ n → get_or A o 0 ≡ 0
      go zero z = z
      go (suc n) z = absurd (omega (arith, sign_some n, sym (ap sign z) ∙ flag))

  module _ (l ns : List ℕ) (set : SoundSet l ns) where
    -- BEFORE THE FIRST component there is one way everywhere
    first_ways : (p : ℕ) (s vs : List ℕ) → vs ≡ replicate (length s) 1 → masked (before_next reached t 0 0 (letters_before (components t) 0) p s) vs ≡ before_next added t 0 0 (letters_before (components t) 0) p s
    unfolding before_letter
    first_ways p s vs e = rw e (masked_ones (length s))

    -- whatever lies past the letters
    pub led_none : (p n : ℕ) (rest : List ℕ) → sum ns ≤ n → LeadsTo t ns l 0 p (replicate n 1 ++ rest)
    led_none p n rest h = record {
      same = λ k u _.
          first_ways p (sequence ns l k) (counts_at ns k (replicate n 1 ++ rest)) (counts_ones ns k n rest u h ∙ ap (λ (j : ℕ). replicate j 1) (sym (long ns l set.adds set.few k)));
    }

    module _ (c p : ℕ) (h : c < t.count) (row : List ℕ) (is : Row (prefix_starts t (letters_before (components t) (suc c)) p) ns l row) where
      row_left : (k : ℕ) → k < length ns → is_marked row k ≡ true → has_left (prefix_starts t (letters_before (components t) (suc c)) p (sequence ns l k)) ≡ true
      row_left k u e = sym (is.marks_are k (omega (arith, set.few))) ∙ e

      -- what a row keeps of counts
      ways_kept : (k : ℕ) → k < length ns → is_marked row k ≡ true → (vs : List ℕ)
          → masked (before_next reached t c 0 (letters_before (components t) c) (p / base_of t ^ of c) (sequence ns l k)) vs
          ≡ before_next added t c 0 (letters_before (components t) c) (p / base_of t ^ of c) (sequence ns l k)
          → masked (bits_at ns k row) vs ≡ last_ways (parts t (letters_before (components t) (suc c)) p) (sequence ns l k)
      ways_kept k u e vs before =
          let s = sequence ns l k in
          let fs = prefix_starts t (letters_before (components t) (suc c)) p s in
          ap (λ (ks : List ℕ). masked ks vs) (is.bits_are k u e) ∙ masked_padded (64 * words_of (get_or ns k 0)) fs vs ∙ prefix_ways c p h s vs before

      module _ (counts : List ℕ) where
        pub led_kept : LeadsTo t ns l c (p / base_of t ^ of c) counts → (k : ℕ) → k < length ns → is_marked row k ≡ true
            → kept_counts ns row counts k ≡ last_ways (parts t (letters_before (components t) (suc c)) p) (sequence ns l k)
        unfolding kept_counts
        led_kept led k u e = ways_kept k u e (counts_at ns k counts) (led.same k u (prefix_less c p h (sequence ns l k) (row_left k u e)))

        -- for the first component they are begun
        module _ (first : Bool) (begins : first ≡ true → c ≡ 0) (goes : first ≡ false → LeadsTo t ns l c (p / base_of t ^ of c) counts) (room : sum ns ≤ length counts) where
          begun_kept : (k : ℕ) → k < length ns → is_marked row k ≡ true → begun_counts first ns row counts k ≡ last_ways (parts t (letters_before (components t) (suc c)) p) (sequence ns l k)
          unfolding begun_counts kept_counts
          begun_kept k u e = go first refl
            where
              go : (b : Bool) → first ≡ b → masked (bits_at ns k row) (counted_from b (counts_at ns k counts)) ≡ last_ways (parts t (letters_before (components t) (suc c)) p) (sequence ns l k)
              go true f =
                  let z : c ≡ 0 = begins f in
                  let n : length (counts_at ns k counts) ≡ length (sequence ns l k) = counts_long ns k counts u room ∙ sym (long ns l set.adds set.few k) in
                  ways_kept k u e (counted_from true (counts_at ns k counts)) (rw z (first_ways (p / base_of t ^ of 0) (sequence ns l k) (counted_from true (counts_at ns k counts)) (ap (λ (j : ℕ). replicate j 1) n)))
              go false f = led_kept (goes f) k u e

          pub led_small : (k : ℕ) → k < length ns → is_marked row k ≡ true → (i : ℕ) → get_or (begun_counts first ns row counts k) i 0 ≤ count_most
          unfolding parts_in
          led_small k u e i =
              rw (begun_kept k u e)
              (le_trans (ways_bound (profile_of t).reading t sound (spell (base_of t) (letters_before (components t) (suc c)) p) (sequence ns l k) i) (omega arith))

          -- FROM COMPONENT TO COMPONENT
          module _ (g : suc c < t.count) (d n : ℕ) (near : d ≡ (after (get_or (components t) (suc c) none) (get_or (components t) c none)).near)
              (wide : n ≡ (after (get_or (components t) (suc c) none) (get_or (components t) c none)).count) where
            far : d + n - 1 ≡ distance (of c) (get_or (components t) (suc c) none).high
            far = rw (near, wide) (last_is (of c) _ _ (components_sound sound (suc c) (there (suc c) g)).ordered)

            led_added : (k : ℕ) → k < length ns → is_marked row k ≡ true
                → added d (d + n - 1) (begun_counts first ns row counts k) ≡ before_next added t (suc c) 0 (letters_before (components t) (suc c)) p (sequence ns l k)
            unfolding before_letter parts_in
            led_added k u e = ap (added d (d + n - 1)) (begun_kept k u e) ∙ rw (far, near)

            -- where the row with the gap opened has no bit there is no way
            pub led_dark : (opened : List ℕ) → Source (before_next reached t (suc c) 0 (letters_before (components t) (suc c)) p) ns l opened
                → (k : ℕ) → k < length ns → is_marked row k ≡ true → (i : ℕ) → get_or (bits_at ns k opened) i 0 ≡ 0
                → get_or (added d (d + n - 1) (begun_counts first ns row counts k)) i 0 ≡ 0
            led_dark opened source k u e i z = ap (λ (ks : List ℕ). get_or ks i 0) (led_added k u e) ∙ go (is_marked opened k) refl
              where
                s : List ℕ
                s = sequence ns l k

                go : (b : Bool) → is_marked opened k ≡ b → get_or (before_next added t (suc c) 0 (letters_before (components t) (suc c)) p s) i 0 ≡ 0
                go false f = flag_dark (suc c) p s i (none_set _ (source.none k (omega (arith, set.few)) f) i)
                go true f =
                    elim (dec_lt i (length s)) [
                      | yes v ↦ flag_dark (suc c) p s i (sym (source.begin k u f i v) ∙ z)
                      | no v ↦ get_or-eq_default (before_next added t (suc c) 0 (letters_before (components t) (suc c)) p s) 0 {n = i} (rw (length_before_letter added length_added) (omega arith))
                    ]

            pub led_more : (opened out : List ℕ) → HoldsCounts (is_marked row) (λ k. added d (d + n - 1) (begun_counts first ns row counts k)) ns opened out (length ns)
                → LeadsTo t ns l (suc c) p out
            unfolding kept_counts
            led_more opened out all = record {
              same = λ k u e.
                  let m : is_marked row k ≡ true = is.marks_are k (omega (arith, set.few)) ∙ e in
                  let s = sequence ns l k in
                  ap (λ (ks : List ℕ). masked ks (counts_at ns k out)) (before_sign (profile_of t).reading (components t) (suc c) 0 (spell (base_of t) (letters_before (components t) (suc c)) p) s)
                  ∙ masked_sign (bits_at ns k opened) (counts_at ns k out) _ (all.same k u m ∙ led_added k u m);
            }
