-- What an input comes to, once its text is checked; and a new search over what was read of it.
use mathlib.Core.Path.{◌≡◌, sym, ap, ◌∙◌}
use mathlib.Core.List.{List}
use Prim.Native.Nat.{ℕ, ◌≤◌}
use native.Mathlib.Omega.{arith}
use lib.ListN.{length, take, length-append}
use Rattle.rules.specs.Calls.{begin_rule}
use Rattle.rules.specs.Lists.{put}
use Rattle.rules.specs.Refusals.{first}
use Rattle.rules.specs.Text.{text_checks, parse_template, parse_quorum, parse_letters, parse_lengths}
use Rattle.rules.specs.Told.{Told, fine, refused, refuses}
use Rattle.rules.specs.declared.Search.{Search}
use Rattle.rules.specs.declared.Template.{Template}
use Rattle.rules.proofs.Tables.{put_front}
use Rattle.motifs.specs.Input.{InputRule, input_told, input_rule}

module _ (input letters lengths : List ℕ) where
  -- a refused text
  pub declined : {n p : ℕ} → first (text_checks input) ≡ refused n p
      → input_rule input letters lengths ≡ record { told = refuses n p; count = 0; sequences = 0; letters = letters; lengths = lengths }
  unfolding input_rule input_told
  declined e = rw e

  -- a sound one
  pub sound : first (text_checks input) ≡ fine
      → input_rule input letters lengths
      ≡ record {
        told = begin_rule (parse_letters input) (parse_lengths input) (parse_template input) (parse_quorum input);
        count = length (parse_letters input);
        sequences = length (parse_lengths input);
        letters = put (parse_letters input) letters;
        lengths = put (parse_lengths input) lengths;
      }
  unfolding input_rule input_told
  sound e = rw e

-- a new search over the fronts of two tables is one over what was put there
pub begin_fronts : (xs ys letters lengths : List ℕ) {t u : Template} {q r n k : ℕ} {told : Told Search} {ls ns front rows : List ℕ}
    → n ≡ length xs → k ≡ length ys → ls ≡ put xs letters → ns ≡ put ys lengths → t ≡ u → q ≡ r
    → front ≡ take n ls → rows ≡ take k ns → told ≡ begin_rule front rows t q → told ≡ begin_rule xs ys u r
begin_fronts xs ys letters lengths a b c d e f g h i = rw (g, h, c, d, put_front _ xs letters (sym a), put_front _ ys lengths (sym b), e, f) at i

-- what was put to the front of a table is there
pub put_room : {A : Type 0} (xs table : List A) → length xs ≤ length (put xs table)
unfolding put
put_room xs table = simp length-append (omega arith)

-- what was read of an input stands at the fronts of the tables
pub record Fronts (input : List ℕ) (n k : ℕ) (letters lengths : List ℕ) : Type 0 where
  pub letters_are : take n letters ≡ parse_letters input
  pub lengths_are : take k lengths ≡ parse_lengths input

pub fronts_are : (input letters lengths : List ℕ) {n k : ℕ} {ls ns : List ℕ} → first (text_checks input) ≡ fine → let i = input_rule input letters lengths in
    (n ≡ i.count) × (k ≡ i.sequences) → ls ≡ i.letters → ns ≡ i.lengths → Fronts input n k ls ns
fronts_are input letters lengths {n} {k} {ls} {ns} f c a b =
    let r = sound input letters lengths f in
    let n-is : n ≡ length (parse_letters input) = c.0 ∙ ap (λ (i : InputRule). i.count) r in
    let k-is : k ≡ length (parse_lengths input) = c.1 ∙ ap (λ (i : InputRule). i.sequences) r in
    let ls-is : ls ≡ put (parse_letters input) letters = a ∙ ap (λ (i : InputRule). i.letters) r in
    let ns-is : ns ≡ put (parse_lengths input) lengths = b ∙ ap (λ (i : InputRule). i.lengths) r in
    record {
      letters_are = rw ls-is (put_front n (parse_letters input) letters (sym n-is));
      lengths_are = rw ns-is (put_front k (parse_lengths input) lengths (sym k-is));
    }
