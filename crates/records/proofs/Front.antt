-- A list of records is written to the front of a buffer record by record: what stands there is a front part of the list
-- and, past it, what was there before.
use mathlib.Core.Path.{◌≡◌, sym, ◌∙◌}
use mathlib.Core.List.{List, ◌++◌}
use Prim.Native.Nat.{ℕ, suc, ◌+◌, ◌*◌, ◌≤◌}
use native.Mathlib.Omega.{arith}
use lib.ListN.{length, take, drop}
use lib.Seq.{paste, length-take-le, take_at, take-take, take-add, take-length, drop-append-add, drop-drop, length_front}
use Rattle.rules.specs.Limits.{record_bytes}
use Rattle.rules.specs.Lists.{put}
use Rattle.rules.specs.Saved.{record_at}

-- the first n of a list, at the front of a buffer
abbrev pub front : List ℕ → List ℕ → ℕ → List ℕ
front bs d n = take n bs ++ drop n d

module _ (bs d : List ℕ) where
  -- the buffer keeps its length
  pub front_length : (n : ℕ) → n ≤ length bs → length bs ≤ length d → length (front bs d n) ≡ length d
  front_length n h l = length_front d (take n bs) n (length-take-le n bs h ∙ sym (length-take-le n d (omega arith)))

  drop_front : (n m : ℕ) → n ≤ length bs → drop (n + m) (front bs d n) ≡ drop (n + m) d
  drop_front n m h =
      let e : length (take n bs) ≡ n = length-take-le n bs h in
      (rw e at (drop-append-add (take n bs) (drop n d) m)) ∙ drop-drop m n d

  -- a record more
  pub front_record : (i : ℕ) {r out : List ℕ} → record_bytes * suc i ≤ length bs → r ≡ record_at bs i → out ≡ paste (front bs d (record_bytes * i)) (record_bytes * i) r record_bytes
      → out ≡ front bs d (record_bytes * suc i)
  unfolding record_at
  front_record i h e o =
      let n = record_bytes * i in
      let k : record_bytes * suc i ≡ n + record_bytes = omega arith in
      o ∙ rw (e, k, take-add n record_bytes bs, take_at (take n bs) (drop n d) n (length-take-le n bs (omega arith)), take-take record_bytes record_bytes (drop n bs) (omega arith), drop_front n record_bytes (omega arith))

  -- all of it
  pub front_whole : (n : ℕ) → n ≡ length bs → front bs d n ≡ put bs d
  unfolding put
  front_whole n e = rw (e, take-length bs)
