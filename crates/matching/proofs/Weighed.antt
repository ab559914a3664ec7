-- The weight of a motif from its row and the counts before its last component: in a sequence that has a mark the counts that the row
-- keeps add up to the occurrences, and in one that has none there is no occurrence.
use mathlib.Core.Bool.{Bool, true, false, false≢true}
use mathlib.Core.List.{List, [], ◌∷◌, map}
use mathlib.Core.Path.{◌≡◌, refl, sym, ap, ◌∙◌}
use Prim.Native.Nat.{ℕ, zero, suc, ◌+◌, ◌-◌, ◌*◌, ◌^◌, ◌≤◌, ◌<◌}
use native.Mathlib.Decide.{dec_lt}
use native.Mathlib.Nat.{le_trans, div-lt_iff_lt-mul, one-le-pow, pow-suc, pow-le-pow_right, mul-le-mul_left}
use native.Mathlib.Omega.{arith}
use lib.ListN.{length, get_or}
use lib.Pow.{pow-add}
use Rattle.rules.proofs.Bound.{list_bound, sequences_count}
use Rattle.rules.proofs.EachKind.{kind_proper, base_least}
use Rattle.rules.proofs.Occurs.{parts_worded, parts_some}
use Rattle.rules.proofs.Over.{map_agree, map_shift}
use Rattle.rules.proofs.Ways.{weight_count}
use Rattle.rules.specs.Lists.{if, run, each, has_some, sum}
use Rattle.rules.specs.Occurrence.{occurrences}
use Rattle.rules.specs.Profile.{profile_of, base_of}
use Rattle.rules.specs.Recovery.{whole_list}
use Rattle.rules.specs.Sequences.{sequences}
use Rattle.rules.specs.Sound.{SoundSet, SoundTemplate}
use Rattle.rules.specs.Support.{weight, parts}
use Rattle.rules.specs.Template.{none, size, components}
use Rattle.rules.specs.declared.Template.{Template}
use Rattle.rows.specs.Flags.{last_ways}
use Rattle.matching.specs.Path.{prefix_starts}
use Rattle.rows.specs.NextLetter.{letters_before}
use Rattle.rows.specs.Set.{words_of, bits_at, is_marked, sequence, Row}
use Rattle.matching.specs.Weights.{kept_counts, weight_at, weight_of, prefix_of, Leads}
use Rattle.rows.proofs.ByFlags.{long, row_bounded}
use Rattle.matching.proofs.Counted.{parts_tight}
use Rattle.matching.proofs.Led.{letters_next, letters_last, last_some, led_kept}
use Rattle.rows.proofs.Link.{padded_out}
use Rattle.matching.proofs.Steps.{prefix_long}
use Rattle.rows.proofs.CountsAddUp.{ways_occur, left_occurs}

-- a sum over numbered lists, past the last of which there is nothing
module _ (f : List ℕ → ℕ) (e : f [] ≡ 0) where
  abbrev at : List (List ℕ) → ℕ → ℕ
  at ss k = f (get_or ss k [])

  numbered : (ss : List (List ℕ)) (n : ℕ) → length ss ≤ n → sum (map (at ss) (run 0 n)) ≡ sum (map f ss)
  unfolding sum run
  numbered [] zero h = refl
  numbered [] (suc n) h = omega (arith, e, ap sum (map_shift (at []) 0 n), numbered [] n (omega arith))
  numbered (s ∷ ss) zero h = absurd (omega arith)
  numbered (s ∷ ss) (suc n) h = omega (arith, ap sum (map_shift (at (s ∷ ss)) 0 n), numbered ss n (omega arith))

none_long : {A : Type 0} (xs : List A) → has_some xs ≡ false → length xs ≡ 0
unfolding has_some
none_long [] e = refl
none_long (x ∷ xs) e = absurd (false≢true (sym e))

-- the number of a motif's prefix fits a word, and 1 more does: with a letter more it is still one of a motif
pub prefix_small : (t : Template) → SoundTemplate t → (m depth : ℕ) → depth ≡ size t → m < base_of t ^ depth → prefix_of t m + 1 < 2 ^ 64
prefix_small t sound m depth whole h =
    let a = letters_before (components t) (t.count - 1) in
    let b = size t - a in
    let e : depth ≡ a + b = omega (arith, last_some t sound) in
    let l : m < base_of t ^ a * base_of t ^ b = rw (← (pow-add (base_of t) a b), ← e) h in
    let small : prefix_of t m < base_of t ^ a = (div-lt_iff_lt-mul {x = m} {y = base_of t ^ a} (one-le-pow b (base_of t) (omega (arith, base_least t)))).1 l in
    let deep : base_of t ^ suc a ≤ base_of t ^ (profile_of t).most = pow-le-pow_right {n = base_of t} (omega (arith, base_least t)) {i = suc a} {j = (profile_of t).most} (omega (arith, last_some t sound, sound.short)) in
    let wide : base_of t ^ a * base_of t ≤ 2 ^ 64 = rw (← (pow-suc (base_of t) a)) (le_trans deep (kind_proper t.profile).wide) in
    room (base_of t ^ a) (base_of t) small (base_least t) wide
  where
    room : (p b : ℕ) → prefix_of t m < p → 4 ≤ b → p * b ≤ 2 ^ 64 → prefix_of t m + 1 < 2 ^ 64
    room p b small four wide = omega (arith, mul-le-mul_left p four)

module _ (t : Template) (sound : SoundTemplate t) (l ns : List ℕ) (set : SoundSet l ns) (m depth : ℕ) (whole : depth ≡ size t) (row : List ℕ)
    (is : Row (prefix_starts t depth m) ns l row) where
  -- no bit past a sequence's letters
  pub bits_past : (k : ℕ) → k < length ns → is_marked row k ≡ true → (p : ℕ) → get_or ns k 0 ≤ p → get_or (bits_at ns k row) p 0 ≡ 0
  bits_past k u e p h =
      let fs = prefix_starts t depth m (sequence ns l k) in
      let n : length fs ≡ get_or ns k 0 = prefix_long t depth m (sequence ns l k) ∙ long ns l set.adds set.few k in
      ap (λ (ks : List ℕ). get_or ks p 0) (is.bits_are k u e) ∙ padded_out (64 * words_of (get_or ns k 0)) fs p (omega arith)

  module _ (counts : List ℕ) (leads : Leads t ns l (prefix_of t m) counts) where
    some : 1 ≤ depth
    some = omega (arith, whole, last_some t sound)

    occurs : List ℕ → ℕ
    occurs s = length (occurrences (parts t depth m) s)

    occurs_none : occurs [] ≡ 0
    unfolding occurs occurrences each run
    occurs_none = refl

    -- the counts of a sequence that has a mark
    ways_kept : (k : ℕ) → k < length ns → is_marked row k ≡ true → kept_counts ns row counts k ≡ last_ways (parts t depth m) (sequence ns l k)
    ways_kept k u marked =
        let c = t.count - 1 in
        let h : c < t.count = omega (arith, sound.some) in
        let z : size t - letters_before (components t) c ≡ (get_or (components t) c none).length = omega (arith, letters_last t sound, letters_next t sound c h) in
        let e : letters_before (components t) (suc c) ≡ depth = letters_last t sound ∙ sym whole in
        rw e at (led_kept t sound l ns set c m h row (rw e is) counts (rw z at leads) k u marked)

    one : (k : ℕ) → k < 1024 → weight_at ns row counts k ≡ occurs (sequence ns l k)
    unfolding weight_at occurs
    one k h = go (is_marked row k) refl
      where
        s : List ℕ
        s = sequence ns l k

        go : (b : Bool) → is_marked row k ≡ b → if (is_marked row k) (sum (kept_counts ns row counts k)) 0 ≡ length (occurrences (parts t depth m) s)
        go true e =
            elim (dec_lt k (length ns)) [
              | yes u ↦ rw (e, ways_kept k u e) (ways_occur (parts t depth m) s (parts_worded t sound depth m) (parts_tight t depth m) (parts_some t sound depth m some))
              | no u ↦ absurd (false≢true (sym ((row_bounded ns l set.adds set.few (prefix_starts t depth m) (prefix_long t depth m) row is).none k (omega arith) h) ∙ e))
            ]
        go false e =
            rw e
            (sym (none_long (occurrences (parts t depth m) s)
            (sym (left_occurs (parts t depth m) s (parts_worded t sound depth m) (parts_tight t depth m) (parts_some t sound depth m some)) ∙ sym (is.marks_are k h) ∙ e)))

    -- THE LAW
    same : weight_of ns row counts ≡ weight (parts t depth m) (sequences l ns)
    unfolding weight_of occurs
    same =
        ap sum (map_agree (weight_at ns row counts) (λ k. occurs (sequence ns l k)) 0 1024 (λ k _ u. one k u))
        ∙ numbered occurs occurs_none (sequences l ns) 1024 (rw sequences_count set.few)
        ∙ sym (weight_count (parts t depth m) (sequences l ns))

    pub weighed : {r : ℕ} → r ≡ weight_of ns row counts → r ≡ weight (parts t depth m) (sequences l ns)
    weighed e = e ∙ same

    pub weighed_small : weight_of ns row counts < 2 ^ 64
    unfolding whole_list weight
    weighed_small = rw (same, whole) (le_trans (list_bound t sound l ns set m) (omega arith))
