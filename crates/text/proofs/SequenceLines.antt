-- The sequence lines read one after the other: what is written, with the lines that follow, is all that the input says.
use mathlib.Core.Path.{◌≡◌, refl, ap, ◌∙◌}
use mathlib.Core.List.{List, [], ◌∷◌, ◌++◌, map, append_assoc, append-nil}
use Prim.Native.Nat.{ℕ, ◌+◌, ◌≤◌}
use native.Mathlib.Nat.{zero-add}
use native.Mathlib.Omega.{arith}
use lib.ListN.{length, drop, set}
use Rattle.rules.specs.Lists.{joined, put}
use Rattle.rules.specs.Text.{pieces, lines, parse_letters, parse_lengths}
use Rattle.text.specs.Printed.{Wrote}
use Rattle.text.proofs.Printed.{wrote_none, wrote_one, wrote_as, wrote_put, ◌then◌}
use Rattle.text.proofs.Lines.{line_first, line_none}

-- the lines of `rest` are still to be read; n letters and k lengths are written
pub record Taken (l letters lengths letters' lengths' : List ℕ) (n k : ℕ) (rest : List ℕ) : Type 0 where
  pub bytes : List ℕ
  pub counts : List ℕ
  pub wrote_bytes : Wrote 0 bytes letters letters' n
  pub wrote_counts : Wrote 0 counts lengths lengths' k
  pub all_bytes : bytes ++ joined (lines rest) ≡ parse_letters l
  pub all_counts : counts ++ map length (lines rest) ≡ parse_lengths l
  pub few_bytes : n + length rest ≤ length l
  pub few_counts : k + length rest ≤ length l

module _ (l letters lengths : List ℕ) where
  -- nothing is read yet
  pub taken_none : (rest : List ℕ) → lines rest ≡ drop 2 (lines l) → length rest ≤ length l → Taken l letters lengths letters lengths 0 0 rest
  unfolding parse_letters parse_lengths
  taken_none rest e h = record {
    bytes = [];
    counts = [];
    wrote_bytes = wrote_none 0 letters;
    wrote_counts = wrote_none 0 lengths;
    all_bytes = rw e;
    all_counts = rw e;
    few_bytes = omega (arith, h);
    few_counts = omega (arith, h);
  }

  module _ {letters' lengths' rest : List ℕ} {n k : ℕ} (t : Taken l letters lengths letters' lengths' n k rest) where
    -- one line more is read
    pub taken_more : (line others : List ℕ) → pieces 10 rest ≡ line ∷ pieces 10 others → length line + (length others + 1) ≡ length rest
        → {next : ℕ} {more : List ℕ} → Wrote n line letters' more next
        → Taken l letters lengths more (set lengths' k (length line)) next (k + 1) others
    unfolding joined
    taken_more line others e s w =
        let f = line_first rest line others e in
        record {
          bytes = t.bytes ++ line;
          counts = t.counts ++ (length line ∷ []);
          wrote_bytes = t.wrote_bytes then w;
          wrote_counts = t.wrote_counts then wrote_one k (length line) lengths' refl;
          all_bytes = append_assoc t.bytes line (joined (lines others)) ∙ rw f at t.all_bytes;
          all_counts = append_assoc t.counts (length line ∷ []) (map length (lines others)) ∙ rw f at t.all_counts;
          few_bytes = omega (arith, t.few_bytes, w.end, s);
          few_counts = omega (arith, t.few_counts, s);
        }

    -- no line is left
    pub taken_all : pieces 10 rest ≡ rest ∷ [] → length l ≤ length letters → length l ≤ length lengths
        → (k ≡ length (parse_lengths l)) × (n ≡ length (parse_letters l)) × (k ≤ length l) × (n ≤ length l) × (letters' ≡ put (parse_letters l) letters) × (lengths' ≡ put (parse_lengths l) lengths)
    unfolding joined
    taken_all e p q =
        let f = line_none rest e in
        let b : t.bytes ≡ parse_letters l = rw (f, append-nil) at t.all_bytes in
        let c : t.counts ≡ parse_lengths l = rw (f, append-nil) at t.all_counts in
        let i : n ≡ length (parse_letters l) = t.wrote_bytes.end ∙ zero-add _ ∙ ap length b in
        let j : k ≡ length (parse_lengths l) = t.wrote_counts.end ∙ zero-add _ ∙ ap length c in (
          j,
          i,
          omega (arith, t.few_counts),
          omega (arith, t.few_bytes),
          wrote_put (omega (arith, i, t.few_bytes)) (wrote_as t.wrote_bytes b),
          wrote_put (omega (arith, j, t.few_counts)) (wrote_as t.wrote_counts c),
        )
