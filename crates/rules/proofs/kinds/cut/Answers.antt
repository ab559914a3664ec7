-- A shift by so many bits is a division by a power of 2, which is one of the base of those digits. A number of 64 bits has no digit past
-- them.
use Rattle.std.specs.Prelude.{Option, Some, None, SomeIff, unwrap_or, min}
use mathlib.Core.Path.{◌≡◌, sym}
use Prim.Native.Nat.{ℕ, zero, suc, ◌*◌, ◌/◌, ◌^◌, ◌≤◌, ◌<◌}
use native.Mathlib.Nat.{pow-zero, pow-suc, suc-mul, zero-mul, div-eq_of_lt}
use native.Mathlib.Omega.{arith}
use lib.Pow.{pow-add, pow_mono}
use Rattle.rules.proofs.kinds.cut.Goals as goal

digits : (n bits : ℕ) → 2 ^ (n * bits) ≡ (2 ^ bits) ^ n
digits zero bits = rw (zero-mul, pow-zero (2 ^ bits))
digits (suc n) bits = rw (suc-mul, pow-suc (2 ^ bits) n, pow-add, digits n bits)

none_left : (number n bits : ℕ) → number < 2 ^ 64 → 64 ≤ n * bits → 0 ≡ number / (2 ^ bits) ^ n
none_left number n bits h l = let p : 2 ^ 64 ≤ 2 ^ (n * bits) = pow_mono l in rw (← digits n bits) (sym (div-eq_of_lt (omega arith)))

-- what a shift by less than 64 gives, and 0 where there is none
shifted : (number n bits : ℕ) (r : Option ℕ) → number < 2 ^ 64 → 0 < bits → SomeIff r (min (n * bits) 4294967295 < 64) (number / 2 ^ min (n * bits) 4294967295) → unwrap_or r 0 ≡ number / (2 ^ bits) ^ n
shifted number n bits (Some x) h b s =
    let e : min (n * bits) 4294967295 ≡ n * bits = omega (arith, s.0) in
    rw (s.1, e, digits n bits)
shifted number n bits None h b s = none_left number n bits h (omega (arith, s))

pub returns : goal.returns
returns c = rw c.unwrap_or.ensures (shifted c.args.number c.args.n c.args.bits c.checked_shr.result (omega arith) c.requires.0 (rw c.saturating_mul.ensures at c.checked_shr.ensures))
