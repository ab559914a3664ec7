-- A motif in a template's shape, component by component: its letters are dealt out in order, and no line outgrows its room.
use mathlib.Core.Path.{◌≡◌, refl, sym, ap, ◌∙◌}
use mathlib.Core.List.{List, [], ◌∷◌, ◌++◌, map, append_assoc}
use Prim.Native.Nat.{ℕ, zero, suc, ◌+◌, ◌-◌, ◌*◌, ◌≤◌, ◌<◌}
use native.Mathlib.Numerals.{add-one}
use native.Mathlib.Omega.{arith}
use lib.ListN.{length, drop, get_or, length-append}
use Rattle.rules.specs.Letters.{letter}
use Rattle.rules.specs.Lists.{sum}
use Rattle.rules.specs.Motif.{spell}
use Rattle.rules.specs.Sound.{SoundTemplate, SoundComponent}
use Rattle.rules.specs.Template.{slots, none, components, size}
use Rattle.rules.specs.Text.{decimal, shape, shape_rest, print_motif}
use Rattle.rules.specs.declared.Component.{Component}
use Rattle.rules.specs.declared.Template.{Template}
use Rattle.rules.proofs.Components.{components_more, components_none}
use Rattle.rules.proofs.Spelling.{spell_drop}
use Rattle.rules.proofs.Tables.{map_take, map_drop}
use Rattle.text.specs.declared.print.Printer.{Printer}
use Rattle.text.specs.Printed.{Prints, HasRoom, number_pair, motif_letters, ranged_word, size_from, shape_from}
use Rattle.text.proofs.Decimal.{decimal_short}
use Rattle.text.proofs.Printed.{length_pair, moved}
use Rattle.text.proofs.MotifLetters.{length_letters}

ranged_is : (c : Component) (w rest : List ℕ)
    → 91 ∷ decimal c.low ++ 44 ∷ decimal c.high ++ 93 ∷ w ++ rest ≡ (number_pair 91 c.low 44 c.high 93 ++ w) ++ rest
unfolding number_pair
ranged_is c w rest = sym (ap (λ (l : List ℕ). l ++ rest) (append_assoc (91 ∷ decimal c.low ++ 44 ∷ decimal c.high) (93 ∷ []) w))

-- a gap range and its letters
pub length_ranged : (c : Component) (j m : ℕ) → c.length ≤ j → length (ranged_word c j m) ≡ length (number_pair 91 c.low 44 c.high 93) + c.length
unfolding ranged_word
length_ranged c j m h = rw (length-append, length_letters c.length j m h)

-- the first component takes its letters off the front
shape_first : (c : Component) {cs rest : List Component} (j m : ℕ) → cs ≡ c ∷ rest
    → shape cs (map letter (spell 4 (c.length + j) m)) ≡ motif_letters c.length (c.length + j) m ++ shape_rest rest (map letter (spell 4 j m))
unfolding shape motif_letters
shape_first c j m e = rw (e, map_take, map_drop, spell_drop 4 c.length j m)

module _ (t : Template) (S : SoundTemplate t) where
  from_more : (i : ℕ) {c : Component} → i < t.count → c ≡ get_or (slots t) i none → drop i (components t) ≡ c ∷ drop (i + 1) (components t)
  from_more i {c} h e = rw (add-one, components_more t S.few i h, ← e)

  sound : (i : ℕ) {c : Component} → i < t.count → c ≡ get_or (slots t) i none → SoundComponent c
  sound i h e = rw e (S.each i h)

  -- the letters from a component on are its own and those after it
  pub size_from_more : (i : ℕ) {c : Component} → i < t.count → c ≡ get_or (slots t) i none → size_from t i ≡ c.length + size_from t (i + 1)
  unfolding size_from sum
  size_from_more i h e = rw (from_more i h e)

  -- from the first on they are all
  pub size_from_none : size_from t 0 ≡ size t
  unfolding size_from size
  size_from_none = refl

  shape_from_more : (i m : ℕ) {c : Component} → i < t.count → c ≡ get_or (slots t) i none
      → shape_from t i m ≡ ranged_word c (size_from t i) m ++ shape_from t (i + 1) m
  unfolding shape_from shape_rest ranged_word motif_letters
  shape_from_more i m {c} h e = rw (from_more i h e, size_from_more i h e, map_take, map_drop, spell_drop 4 c.length (size_from t (i + 1)) m) (ranged_is c _ _)

  -- past the last component nothing is printed
  pub shape_from_end : (i m : ℕ) → t.count ≤ i → shape_from t i m ≡ []
  unfolding shape_from shape_rest
  shape_from_end i m h = rw (components_none t S.few i h)

  -- the first component's letters and the others'
  pub size_is : size t ≡ t.c1.length + size_from t 1
  size_is = sym size_from_none ∙ size_from_more 0 S.some refl

  -- a motif's shape is the first component's letters and the shape of the others
  pub shape_is : (m : ℕ) → print_motif t m ≡ motif_letters t.c1.length (size t) m ++ shape_from t 1 m
  unfolding print_motif shape_from
  shape_is m = rw size_is (shape_first t.c1 (size_from t 1) m (from_more 0 S.some refl))

  -- no more than nine bytes for each gap range
  ranged_short : (i j m : ℕ) {c : Component} → i < t.count → c ≡ get_or (slots t) i none → c.length ≤ j → length (ranged_word c j m) ≤ 9 + c.length
  ranged_short i j m {c} h e l =
      let s = sound i h e in
      omega (
        arith,
        length_ranged c j m l,
        length_pair 91 c.low 44 c.high 93,
        decimal_short 2 17 c.low refl (omega (arith, s.ordered, s.near)),
        decimal_short 2 17 c.high refl (omega (arith, s.near)),
      )

  shape_short : (n i m : ℕ) → i + n ≡ t.count → length (shape_from t i m) ≤ 9 * n + size_from t i
  shape_short zero i m e = rw (shape_from_end i m (omega arith)) (omega arith)
  shape_short (suc n) i m e =
      let h : i < t.count = omega arith in
      let k = size_from_more i h refl in
      rw (shape_from_more i m h refl, length-append)
      (omega (arith, k, ranged_short i (size_from t i) m h refl (omega (arith, k)), shape_short n (i + 1) m (omega arith)))

  -- a motif in its shape is at most 77 bytes long
  pub shape_room : (m : ℕ) → t.c1.length + length (shape_from t 1 m) ≤ 77
  shape_room m = omega (arith, size_is, shape_short (t.count - 1) 1 m (omega (arith, S.some)), S.few, S.deep)

  -- how long it is
  pub length_shape : (m : ℕ) → length (print_motif t m) ≡ t.c1.length + length (shape_from t 1 m)
  length_shape m = rw (shape_is m, length-append, length_letters t.c1.length (size t) m (omega (arith, size_is)))

  -- a turn of the loop over the components after the first: `done` is printed, and component i comes next
  module _ (i left m : ℕ) {c : Component} (h : i < t.count) (e : c ≡ get_or (slots t) i none) (l : left ≡ size_from t i) where
    -- there are letters enough for it
    pub next_fits : c.length ≤ left
    next_fits = omega (arith, l, size_from_more i h e)

    -- those left after it
    pub next_left : left - c.length ≡ size_from t (i + 1)
    next_left = omega (arith, l, size_from_more i h e)

    -- what is printed with it
    pub next_done : (done : List ℕ) → done ++ shape_from t i m ≡ shape_from t 1 m → (done ++ ranged_word c left m) ++ shape_from t (i + 1) m ≡ shape_from t 1 m
    next_done done d = append_assoc done (ranged_word c left m) (shape_from t (i + 1) m) ∙ rw (l, ← shape_from_more i m h e) d

    -- it has room
    pub next_room : (done : List ℕ) → done ++ shape_from t i m ≡ shape_from t 1 m → {a b : Printer} → Prints done a b → HasRoom (shape_from t 1 m) a → HasRoom (ranged_word c left m) b
    next_room done d w r =
        omega (
          arith,
          r,
          moved w,
          length-append (done ++ ranged_word c left m) (shape_from t (i + 1) m),
          length-append done (ranged_word c left m),
          ap length (next_done done d),
        )
