-- A walk over the set digits of a word that takes the lowest one off in each turn: what is left has those from some place on, so the digits
-- from there up to its lowest are not set, and that one is.
use mathlib.Core.Path.{◌≡◌, refl, sym, ap, ◌∙◌}
use Prim.Native.Nat.{ℕ, ◌+◌, ◌-◌, ◌^◌, ◌≤◌, ◌<◌}
use native.Mathlib.Decide.{dec_lt}
use native.Mathlib.Omega.{arith}
use lib.Bits.{bit_and}
use lib.Count.{count_trailing_zeros}
use Rattle.rows.specs.SetBits.{Taken}
use Rattle.rows.proofs.Digits.{digit}
use Rattle.rows.proofs.Bits.{digit_none}
use Rattle.rows.proofs.Zeros.{zeros_below, zeros_at, zeros_least, cleared_to, cleared_past, cleared_less}

-- what is left of a word once its first e digits are gone
pub record Rest (word e rest : ℕ) : Type 0 where
  pub gone : (b : ℕ) → b < e → digit rest b ≡ 0
  pub stays : (b : ℕ) → e ≤ b → digit rest b ≡ digit word b
  pub fits : rest < 2 ^ 64

-- at first the whole word is
pub rest_all : (word : ℕ) → word < 2 ^ 64 → Rest word 0 word
rest_all word h = record { gone = λ b l. absurd (omega arith); stays = λ b l. refl; fits = h }

module _ {word e rest : ℕ} (r : Rest word e rest) where
  -- nothing is left: no digit is set any more
  pub none_left : rest ≡ 0 → (b : ℕ) → e ≤ b → digit word b ≡ 0
  none_left z b l = sym (r.stays b l) ∙ ap (λ (x : ℕ). digit x b) z ∙ digit_none b

  module _ (some : 0 < rest) where
    -- the lowest digit that is left stands past those that are gone
    pub lowest_late : e ≤ count_trailing_zeros 64 rest
    lowest_late =
        elim (dec_lt (count_trailing_zeros 64 rest) e) [
          | yes l ↦ absurd (omega (arith, r.gone (count_trailing_zeros 64 rest) l, zeros_at rest some r.fits))
          | no l ↦ omega arith
        ]

    pub lowest_in : count_trailing_zeros 64 rest < 64
    lowest_in = zeros_least rest some r.fits

    -- it is set, and none between
    pub lowest_set : digit word (count_trailing_zeros 64 rest) ≡ 1
    lowest_set = sym (r.stays (count_trailing_zeros 64 rest) lowest_late) ∙ zeros_at rest some r.fits

    pub lowest_first : (b : ℕ) → e ≤ b → b < count_trailing_zeros 64 rest → digit word b ≡ 0
    lowest_first b l u = sym (r.stays b l) ∙ zeros_below rest b u

    -- what is left without it, which is less
    pub lowest_off : Rest word (count_trailing_zeros 64 rest + 1) (bit_and rest (rest - 1))
    lowest_off = record {
      gone = λ b l. cleared_to rest some r.fits b (omega arith);
      stays = λ b l. cleared_past rest some r.fits b (omega arith) ∙ r.stays b (omega (arith, lowest_late));
      fits = omega (arith, cleared_less rest some r.fits, r.fits);
    }

-- THE LOWEST TAKEN OFF
module _ {word e rest : ℕ} (r : Rest word e rest) {place off : ℕ} (t : Taken rest place off) where
  pub taken_late : e ≤ place
  taken_late = rw t.lowest (lowest_late r t.some)

  pub taken_in : place < 64
  taken_in = rw t.lowest (lowest_in r t.some)

  pub taken_set : digit word place ≡ 1
  taken_set = rw t.lowest (lowest_set r t.some)

  pub taken_first : (b : ℕ) → e ≤ b → b < place → digit word b ≡ 0
  taken_first = rw t.lowest (lowest_first r t.some)

-- HOW FAR A WALK HAS COME: what is left of the word, and what is done for the digits that are gone
pub record Walk (done : ℕ → Type 0) (word rest : ℕ) : Type 0 where
  pub upto : ℕ
  pub high : upto ≤ 64
  pub rests : Rest word upto rest
  pub so_far : done upto

pub walk_begin : (done : ℕ → Type 0) (word : ℕ) → word < 2 ^ 64 → done 0 → Walk done word word
walk_begin done word h d = record { upto = 0; high = omega arith; rests = rest_all word h; so_far = d }

pub walk_turn : (done before : ℕ → Type 0) {word rest : ℕ} → Walk before word rest → 0 < rest → done (count_trailing_zeros 64 rest + 1) → Walk done word (bit_and rest (rest - 1))
walk_turn done before {word} {rest} g some d = record {
  upto = count_trailing_zeros 64 rest + 1;
  high = omega (arith, lowest_in g.rests some);
  rests = lowest_off g.rests some;
  so_far = d;
}

pub walk_take : (done before : ℕ → Type 0) {word rest place off : ℕ} → Walk before word rest → Taken rest place off → done (place + 1) → Walk done word off
walk_take done before g t d = record {
  upto = _;
  high = omega (arith, taken_in g.rests t);
  rests = rw (t.off, t.lowest) (lowest_off g.rests t.some);
  so_far = d;
}
