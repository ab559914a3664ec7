-- What one read gave and what the next gave are, one after the other, what both gave. One that failed gave nothing.
use Rattle.std.proofs.Common.{◌≡◌, ℕ, ◌+◌, ◌≤◌, ◌<◌, List, ◌++◌, Option, None, Some, Result, Ok, Err, OnErr, length, take, ap, sym, ◌∙◌, append_assoc}
use Rattle.std.proofs.lemmas.List.{take-append-le}
use Rattle.std.proofs.Math.Seq.{take-append-add}
use Rattle.std.specs.Io.KnownBytes.{Consumes, Keeps, ReadConsumes}
use Rattle.stdin.specs.Came.{came_after}
use Rattle.stdin.specs.declared.Came.{Came}
use borrow.Rule.Slice.PartMut.{put_mid, post_of, take_put}
use lib.Seq.{length-take-le}

consumes_more : (a b c : Option (List ℕ)) (xs ys : List ℕ) → Consumes a b xs → Consumes b c ys → Consumes a c (xs ++ ys)
consumes_more None b c xs ys p q = p
consumes_more (Some l) None c xs ys p q = absurd p
consumes_more (Some l) (Some m) None xs ys p q = absurd q
consumes_more (Some l) (Some m) (Some r) xs ys p q = p ∙ ap (λ (t : List ℕ). xs ++ t) q ∙ sym (append_assoc xs ys r)

-- what came first stands before what came then
take_both : (n m k : ℕ) (xs ys : List ℕ) → n ≤ length xs → m ≤ length ys → take (n + m) (put_mid n k xs ys) ≡ take n xs ++ take m ys
take_both n m k xs ys h j =
    let e : length (take n xs) ≡ n = length-take-le n xs h in
    rw e at (take-append-add (take n xs) (ys ++ post_of n k xs) m) ∙ ap (λ (t : List ℕ). take n xs ++ t) (take-append-le m ys (post_of n k xs) j)

-- what a read leaves at the front of a buffer, behind the n bytes that came before
pub read_more : (n m k : ℕ) (xs ys : List ℕ) (a b c : Option (List ℕ)) → n ≤ length xs → m ≤ length ys → Consumes a b (take n xs) → Consumes b c (take m ys)
    → Consumes a c (take (n + m) (put_mid n k xs ys))
read_more n m k xs ys a b c h j p q = rw (take_both n m k xs ys h j) (consumes_more a b c (take n xs) (take m ys) p q)

-- what was consumed stays so where nothing is
consumes_kept : (a b c : Option (List ℕ)) (xs : List ℕ) → Consumes a b xs → Keeps b c → Consumes a c xs
consumes_kept None b c xs p q = p
consumes_kept (Some l) None c xs p q = absurd p
consumes_kept (Some l) (Some m) None xs p q = absurd q
consumes_kept (Some l) (Some m) (Some r) xs p q = p ∙ ap (λ (t : List ℕ). xs ++ t) (sym q)

-- only a read that failed is told as failed, and it kept what the input had
kept : {E : Type 0} (room n : ℕ) (ys : List ℕ) (b c : Option (List ℕ)) (got : Result ℕ E) {e : E}
    → came_after room n got ≡ Err e → ReadConsumes b c got ys → Keeps b c
kept room n ys b c (Ok k) told q = absurd (cc)
kept room n ys b c (Err e) told q = q

-- what a read that failed leaves at the front of a buffer that is not full: the n bytes that came before, and no more was consumed
pub read_failed : {E F : Type 0} (r : Result ℕ F) (room n k : ℕ) (xs ys : List ℕ) (a b c : Option (List ℕ)) (got : Result ℕ E)
    {told : Result Came E} {e : E} → told ≡ came_after room n got → told ≡ Err e → n < room → n ≤ length xs → Consumes a b (take n xs)
    → ReadConsumes b c got ys → OnErr r ((m : ℕ) × (m < room) × Consumes a c (take m (put_mid n k xs ys)))
read_failed (Ok x) room n k xs ys a b c got t u v h p q = tt
read_failed (Err f) room n k xs ys a b c got t u v h p q =
    (n, v, rw (take_put n k xs ys h) (consumes_kept a b c (take n xs) p (kept room n ys b c got (sym t ∙ u) q)))
