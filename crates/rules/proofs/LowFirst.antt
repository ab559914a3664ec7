-- Numbers as bytes, the lowest first: writing and then reading gives the number back, and reading and then writing the
-- bytes, because a byte is what is left of a number by 256. One law for every width.
use mathlib.Core.Path.{◌≡◌, refl}
use mathlib.Core.List.{List, [], ◌∷◌, ◌++◌}
use Prim.Native.Nat.{ℕ, zero, suc, ◌+◌, ◌*◌, ◌/◌, ◌%◌, ◌^◌, ◌≤◌, ◌<◌}
use native.Mathlib.Nat.{pow-suc}
use native.Mathlib.Omega.{arith}
use lib.ListN.{length, get_or, take, drop}
use lib.Seq.{get_or-drop}
use Rattle.rules.specs.Saved.{low_first, read_low, Bytes}

-- the first n of bytes are bytes
pub bytes_take : (n : ℕ) (bs : List ℕ) → Bytes bs → Bytes (take n bs)
bytes_take zero bs b i = omega arith
bytes_take (suc n) [] b i = b i
bytes_take (suc n) (x ∷ bs) b zero = b 0
bytes_take (suc n) (x ∷ bs) b (suc i) = bytes_take n bs (λ j. b (suc j)) i

-- and so are those past the first n
pub bytes_drop : (n : ℕ) (bs : List ℕ) → Bytes bs → Bytes (drop n bs)
bytes_drop n bs b i = rw (get_or-drop n bs i 0) (b (n + i))

-- a number that fits is read back, whatever follows it
pub read_written : (n x : ℕ) (rest : List ℕ) → x < 256 ^ n → read_low n (low_first n x ++ rest) ≡ x
unfolding low_first read_low
read_written zero x rest h = omega arith
read_written (suc n) x rest h = let k : x / 256 < 256 ^ n = omega (arith, pow-suc 256 n) in omega (arith, read_written n (x / 256) rest k)

-- n bytes are a number that fits
pub read_fits : (n : ℕ) (bs : List ℕ) → Bytes bs → read_low n bs < 256 ^ n
unfolding read_low
read_fits zero bs b = omega arith
read_fits (suc n) [] b = omega (arith, pow-suc 256 n, read_fits n [] b)
read_fits (suc n) (x ∷ bs) b = omega (arith, pow-suc 256 n, b 0, read_fits n bs (λ i. b (suc i)))

-- bytes that are read are written back
pub written_read : (n : ℕ) (bs : List ℕ) → n ≤ length bs → ((i : ℕ) → i < n → get_or bs i 0 < 256) → low_first n (read_low n bs) ≡ take n bs
unfolding low_first read_low
written_read zero bs h b = refl
written_read (suc n) [] h b = absurd (omega arith)
written_read (suc n) (x ∷ bs) h b =
    let c : x < 256 = b 0 (omega arith) in
    let p : (x + 256 * read_low n bs) % 256 ≡ x = omega arith in
    let q : (x + 256 * read_low n bs) / 256 ≡ read_low n bs = omega arith in
    rw (p, q, written_read n bs (omega arith) (λ i l. b (suc i) (omega arith)))
