-- A part of a table that was lent and has come back.
use mathlib.Core.Path.{◌≡◌}
use mathlib.Core.List.{List, ◌++◌}
use Prim.Native.Nat.{ℕ, ◌-◌, ◌≤◌}
use lib.ListN.{take, drop}
use borrow.Rule.Slice.PartMut.{put_mid, Post-is}

-- the table has in the part's place what the part holds now
pub put_back : (a e : ℕ) (xs : List ℕ) {ys zs : List ℕ} → a ≤ e → ys ≡ zs → put_mid a (e - a) xs ys ≡ take a xs ++ (zs ++ drop e xs)
put_back a e xs h q = rw (q, Post-is a e xs h)
