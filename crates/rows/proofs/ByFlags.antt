-- Rows by their flags: a letter more and a gap do to the row of a set what they do to the flags of each sequence, and the marks of a row
-- are as many as the sequences in which a flag is left.
use mathlib.Core.Bool.{Bool, true, false, false≢true}
use mathlib.Core.List.{List, [], ◌∷◌, map}
use mathlib.Core.Path.{◌≡◌, refl, sym, ap, ◌∙◌}
use Prim.Native.Nat.{ℕ, zero, suc, ◌+◌, ◌-◌, ◌*◌, ◌≤◌, ◌<◌}
use native.Mathlib.Decide.{dec_lt}
use native.Mathlib.Omega.{arith}
use lib.ListN.{length, take, drop, get_or, get_or-map, get_or-eq_default, length-map}
use borrow.Rule.Slice.PartMut.{mid_len}
use Rattle.rules.proofs.Bound.{split_lengths, split_count}
use Rattle.rules.specs.Letters.{value}
use Rattle.rules.specs.Lists.{if, run, keep, sum}
use Rattle.rules.specs.Sequences.{split, sequences}
use Rattle.rows.specs.Flags.{bit, kept_flags, reached, has_left}
use Rattle.rows.specs.Rows.{both, ahead, extended, window, lettered, padded}
use Rattle.rows.specs.Set.{words_of, first_word, between, bits_at, is_marked, tally, extended_at, is_extended_marked, window_at, lettered_at, lettered_on, Filled, Marked, Bounded, sequence, Row, Source}
use Rattle.rows.proofs.Bits.{bit_small}
use Rattle.rows.proofs.Dark.{kept_dark, reached_dark}
use Rattle.rows.proofs.Held.{length_held}
use Rattle.rows.proofs.Link.{padded_in, length_padded, left_padded, extended_flags, window_flags}
use Rattle.rows.proofs.Offsets.{words_room}
use Rattle.rows.proofs.Sets.{first_most}
use Rattle.rows.proofs.Tally.{tally_sum}

module _ (ns l : List ℕ) (adds : sum ns ≡ length l) (few : length ns ≤ 1024) where
  pub long : (k : ℕ) → length (sequence ns l k) ≡ get_or ns k 0
  unfolding sequences
  long k = sym (get_or-map length (split ns (map value l)) k []) ∙ ap (λ (m : List ℕ). get_or m k 0) (split_lengths ns (map value l) (rw length-map (omega arith)))

  pub bits_long : (row : List ℕ) (k : ℕ) → first_word ns (length ns) ≤ length row → k < length ns → length (bits_at ns k row) ≡ 64 * words_of (get_or ns k 0)
  unfolding bits_at between
  bits_long row k h u =
      let a = first_word ns k in
      let w = words_of (get_or ns k 0) in
      let z : a + w - a ≡ w = omega arith in
      length_held (take (a + w - a) (drop a row))
      ∙ ap (λ (n : ℕ). 64 * n) (mid_len a (a + w) row (omega (arith, first_most ns k (length ns) u u)) ∙ z)

  opened_bits : (d c : ℕ) (row : List ℕ) (k : ℕ) {b K : List ℕ} → b ≡ window_at d c ns row k → bits_at ns k row ≡ K → b ≡ window d c K
  unfolding window_at
  opened_bits d c row k e f = e ∙ ap (window d c) f

  -- past the last sequence there is nothing
  pub past_end : (k : ℕ) → length ns ≤ k → sequence ns l k ≡ []
  unfolding sequences
  past_end k h = get_or-eq_default (split ns (map value l)) [] (rw split_count h)

  nothing_left : (ks : List ℕ) → length ks ≡ 0 → has_left ks ≡ false
  unfolding has_left
  nothing_left [] h = refl
  nothing_left (x ∷ ks) h = absurd (omega arith)

  module _ (F : List ℕ → List ℕ) (same : (s : List ℕ) → length (F s) ≡ length s) where
    pub left_past : (k : ℕ) → length ns ≤ k → has_left (F (sequence ns l k)) ≡ false
    left_past k h = nothing_left (F (sequence ns l k)) (same (sequence ns l k) ∙ ap length (past_end k h))

    module _ (row : List ℕ) (is : Row F ns l row) where
      -- no sequence past the last has a mark
      pub row_bounded : Bounded ns row
      row_bounded = record { none = λ k h u. is.marks_are k u ∙ left_past k h }

      -- a row may get a letter
      pub row_source : Source F ns l row
      row_source = record {
        none = λ k u e. sym (is.marks_are k u) ∙ e;
        past = λ k h u. is.marks_are k u ∙ left_past k h;
        begin = λ k u e p v. ap (λ (m : List ℕ). get_or m p 0) (is.bits_are k u e) ∙ padded_in (64 * words_of (get_or ns k 0)) (F (sequence ns l k)) p (rw same v);
      }

      -- and so may a row with a gap opened
      pub gap_source : (a b : ℕ) (out : List ℕ) → Marked (is_marked row) out 1024
          → Filled (is_marked row) (window_at a (b + 1 - a) ns row) ns out (length ns)
          → Source (λ s. reached a b (F s)) ns l out
      gap_source a b out m q = record {
        none = λ k u e. reached_dark (F (sequence ns l k)) (sym (is.marks_are k u) ∙ sym (m.same k u) ∙ e) a b;
        past = λ k h u. m.same k u ∙ is.marks_are k u ∙ left_past k h;
        begin = λ k u e p v. at k u (sym (m.same k (omega arith)) ∙ e) p v;
      }
        where
          at : (k : ℕ) → k < length ns → is_marked row k ≡ true → (p : ℕ) → p < length (sequence ns l k)
              → get_or (bits_at ns k out) p 0 ≡ get_or (reached a b (F (sequence ns l k))) p 0
          at k u e p v =
              let fs = F (sequence ns l k) in
              let K = padded (64 * words_of (get_or ns k 0)) fs in
              let n : length fs ≡ get_or ns k 0 = same (sequence ns l k) ∙ long k in
              let r : length fs ≤ 64 * words_of (get_or ns k 0) = rw n (words_room (get_or ns k 0)) in
              ap (λ (b : List ℕ). get_or b p 0) (opened_bits a (b + 1 - a) row k (q.same k u e) (is.bits_are k u e))
              ∙ window_flags K fs (padded_in (64 * words_of (get_or ns k 0)) fs) a b (rw (length_padded (64 * words_of (get_or ns k 0)) fs r) r) p (rw same v)

  -- flags that are the same
  pub row_same : (F G : List ℕ → List ℕ) (row : List ℕ) → Row F ns l row → ((s : List ℕ) → F s ≡ G s) → Row G ns l row
  row_same F G row is e = record {
    marks_are = λ k u. is.marks_are k u ∙ ap has_left (e (sequence ns l k));
    bits_are = λ k u t. is.bits_are k u t ∙ ap (padded (64 * words_of (get_or ns k 0))) (e (sequence ns l k));
  }

  pub source_same : (F G : List ℕ → List ℕ) (row : List ℕ) → Source F ns l row → ((s : List ℕ) → F s ≡ G s) → Source G ns l row
  source_same F G row q e = record {
    none = λ k u t. ap has_left (sym (e (sequence ns l k))) ∙ q.none k u t;
    past = q.past;
    begin = λ k u t p v. q.begin k u t p v ∙ ap (λ (x : List ℕ). get_or x p 0) (e (sequence ns l k));
  }

  -- ONE LETTER MORE: what `keep_all` leaves is the row of the flags with that letter. The row that it is tested by is the letter's own,
  -- for place i of its component, if it is shifted by so many bits
  module _ (F : List ℕ → List ℕ) (same : (s : List ℕ) → length (F s) ≡ length s) (row : List ℕ) (source : Source F ns l row) (wide : first_word ns (length ns) ≤ length row)
      (f : ℕ → ℕ → Bool) (x i : ℕ) (letter : List ℕ) (by : ℕ) (tests : (k : ℕ) → k < length ns → ahead by (bits_at ns k letter) ≡ lettered_on i f x ns (map value l) k) where
    small : (k : ℕ) (p : ℕ) → get_or (bits_at ns k row) p 0 ≤ 1
    unfolding bits_at
    small k p = bit_small (between (first_word ns k) (first_word ns k + words_of (get_or ns k 0)) row) p

    letter_is : (k m : ℕ) → k < length ns → m ≡ 64 * words_of (get_or ns k 0) → ahead by (bits_at ns k letter) ≡ ahead i (lettered f x (sequence ns l k) m)
    unfolding lettered_on lettered_at sequences
    letter_is k m u e = tests k u ∙ ap (λ (n : ℕ). ahead i (lettered f x (get_or (split ns (map value l)) k []) n)) (sym e)

    flags_at : (k : ℕ) → k < length ns → is_marked row k ≡ true → extended_at by ns letter row k ≡ padded (64 * words_of (get_or ns k 0)) (kept_flags f x i (sequence ns l k) (F (sequence ns l k)))
    unfolding extended_at extended
    flags_at k u e =
        let s = sequence ns l k in
        let K = bits_at ns k row in
        let n : length K ≡ 64 * words_of (get_or ns k 0) = bits_long row k wide u in
        let r : length s ≤ length K = rw (n, long k) (words_room (get_or ns k 0)) in
        ap (both K) (letter_is k (length K) u n) ∙ extended_flags s K (F s) (small k) r (source.begin k u e) f x i ∙ rw n

    G : List ℕ → List ℕ
    G s = kept_flags f x i s (F s)

    -- whether it is written or not
    pub mark_same : (k : ℕ) → k < 1024 → is_extended_marked by ns letter row k ≡ has_left (kept_flags f x i (sequence ns l k) (F (sequence ns l k)))
    unfolding is_extended_marked
    mark_same k u = go (is_marked row k) refl
      where
        go : (b : Bool) → is_marked row k ≡ b → if (is_marked row k) (has_left (extended_at by ns letter row k)) false ≡ has_left (kept_flags f x i (sequence ns l k) (F (sequence ns l k)))
        go true e =
            elim (dec_lt k (length ns)) [
              | yes h ↦ rw (e, flags_at k h e, left_padded)
              | no h ↦ absurd (false≢true (sym (source.past k (omega arith) u) ∙ e))
            ]
        go false e = rw e (sym (kept_dark (F (sequence ns l k)) (source.none k u e) f x i (sequence ns l k)))

    pub letter_row : (out : List ℕ) → Filled (is_marked row) (extended_at by ns letter row) ns out (length ns)
        → Marked (is_extended_marked by ns letter row) out 1024
        → Row (λ s. kept_flags f x i s (F s)) ns l out
    letter_row out q m = record {
      marks_are = λ k u. m.same k u ∙ mark_same k u;
      bits_are = λ k u t. go k u t (is_marked row k) refl;
    }
      where
        go : (k : ℕ) → k < length ns → is_marked out k ≡ true → (b : Bool) → is_marked row k ≡ b
            → bits_at ns k out ≡ padded (64 * words_of (get_or ns k 0)) (kept_flags f x i (sequence ns l k) (F (sequence ns l k)))
        go k u t true e = q.same k u e ∙ flags_at k u e
        go k u t false e =
            absurd (false≢true (sym (m.same k (omega arith) ∙ (unfold is_extended_marked in rw e)) ∙ t))

-- THE COUNT. A mark is a bit among the first sixteen words
map_run_suc : (f : ℕ → ℕ) (a n : ℕ) → map f (run (suc a) n) ≡ map (λ i. f (suc i)) (run a n)
unfolding run
map_run_suc f a zero = refl
map_run_suc f a (suc n) = ap (λ (xs : List ℕ). f (suc a) ∷ xs) (map_run_suc f (suc a) n)

abbrev mark_of : (List ℕ → List ℕ) → List (List ℕ) → ℕ → ℕ
mark_of F ss k = bit (has_left (F (get_or ss k [])))

marks_sum : (F : List ℕ → List ℕ) → has_left (F []) ≡ false → (ss : List (List ℕ)) (n : ℕ) → length ss ≤ n
    → sum (map (mark_of F ss) (run 0 n)) ≡ length (keep (λ b. b) (map (λ s. has_left (F s)) ss))
unfolding sum run keep
marks_sum F e [] zero h = refl
marks_sum F e [] (suc n) h =
    let z : bit (has_left (F [])) ≡ 0 = rw e in
    let i : sum (map (mark_of F []) (run 0 n)) ≡ 0 = marks_sum F e [] n (omega arith) in
    rw (map_run_suc (mark_of F []) 0 n) (omega arith)
marks_sum F e (s ∷ ss) zero h = absurd (omega arith)
marks_sum F e (s ∷ ss) (suc n) h = rw (map_run_suc (mark_of F (s ∷ ss)) 0 n, marks_sum F e ss n (omega arith)) (go (has_left (F s)))
  where
    go : (b : Bool) → bit b + length (keep (λ b. b) (map (λ s. has_left (F s)) ss)) ≡ length (keep (λ b. b) (b ∷ map (λ s. has_left (F s)) ss))
    go true = omega arith
    go false = omega arith

module _ (ns l : List ℕ) (adds : sum ns ≡ length l) (few : length ns ≤ 1024) (F : List ℕ → List ℕ) (same : (s : List ℕ) → length (F s) ≡ length s) where
  -- marks that say where a flag is left are as many as the sequences in which one is
  pub flags_tally : (h : ℕ → Bool) → ((k : ℕ) → k < 1024 → h k ≡ has_left (F (sequence ns l k))) → tally h 0 1024 ≡ length (keep (λ b. b) (map (λ s. has_left (F s)) (sequences l ns)))
  flags_tally h q =
      tally_sum h (mark_of F (sequences l ns)) 0 1024 (λ k a u. ap bit (q k (omega arith)))
      ∙ marks_sum F (nothing_left ns l adds few (F []) (same [])) (sequences l ns) 1024 (unfold sequences in rw split_count few)
