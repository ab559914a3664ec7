-- `keep`, `each`, `run` and `has_some`.
use mathlib.Core.Path.{◌≡◌, refl, sym, ap, ◌∙◌}
use mathlib.Core.Bool.{Bool, true, false, ◌&&◌, false≢true}
use mathlib.Core.List.{List, [], ◌∷◌, ◌++◌, map, append_assoc}
use Prim.Native.Nat.{ℕ, zero, suc, ◌+◌, ◌-◌, ◌*◌, ◌≤◌, ◌<◌}
use native.Mathlib.Nat.{zero-mul, add-zero, zero-add}
use native.Mathlib.Omega.{arith}
use lib.ListN.{length}
use Rattle.rules.specs.Lists.{run, if, keep, each, joined}

pub keep_append : {A : Type 0} (f : A → Bool) (xs ys : List A) → keep f (xs ++ ys) ≡ keep f xs ++ keep f ys
unfolding keep
keep_append f [] ys = refl
keep_append f (x ∷ xs) ys = go (f x) (keep_append f xs ys)
  where
    go : (b : Bool) → keep f (xs ++ ys) ≡ keep f xs ++ keep f ys → if b (x ∷ keep f (xs ++ ys)) (keep f (xs ++ ys)) ≡ if b (x ∷ keep f xs) (keep f xs) ++ keep f ys
    go true h = ap (λ l. x ∷ l) h
    go false h = h

-- no more are kept than there are
pub keep_few : {A : Type 0} (f : A → Bool) (xs : List A) → length (keep f xs) ≤ length xs
unfolding keep
keep_few f [] = omega arith
keep_few f (x ∷ xs) = go (f x) (keep_few f xs)
  where
    go : (b : Bool) → length (keep f xs) ≤ length xs → length (if b (x ∷ keep f xs) (keep f xs)) ≤ suc (length xs)
    go true h = omega arith
    go false h = omega arith

pub each_append : {A B : Type 0} (f : A → List B) (xs ys : List A) → each f (xs ++ ys) ≡ each f xs ++ each f ys
unfolding each
each_append f [] ys = refl
each_append f (x ∷ xs) ys = rw (each_append f xs ys) (sym (append_assoc (f x) (each f xs) (each f ys)))

pub keep_each : {A B : Type 0} (f : B → Bool) (g : A → List B) (xs : List A) → keep f (each g xs) ≡ each (λ x. keep f (g x)) xs
unfolding keep each
keep_each f g [] = refl
keep_each f g (x ∷ xs) = keep_append f (g x) (each g xs) ∙ ap (λ l. keep f (g x) ++ l) (keep_each f g xs)

pub each_each : {A B C : Type 0} (f : B → List C) (g : A → List B) (xs : List A) → each f (each g xs) ≡ each (λ x. each f (g x)) xs
unfolding each
each_each f g [] = refl
each_each f g (x ∷ xs) = each_append f (g x) (each g xs) ∙ ap (λ l. each f (g x) ++ l) (each_each f g xs)

pub each_same : {A B : Type 0} (f g : A → List B) (xs : List A) → ((x : A) → f x ≡ g x) → each f xs ≡ each g xs
unfolding each
each_same f g [] h = refl
each_same f g (x ∷ xs) h = rw (h x, each_same f g xs h)

-- each of what g makes
pub each_map : {A B C : Type 0} (f : B → List C) (g : A → B) (xs : List A) → each f (map g xs) ≡ each (λ x. f (g x)) xs
unfolding each
each_map f g [] = refl
each_map f g (x ∷ xs) = ap (λ l. f (g x) ++ l) (each_map f g xs)

-- lists laid end to end
pub each_joined : {A B : Type 0} (f : A → List B) (xs : List A) → each f xs ≡ joined (map f xs)
unfolding each joined
each_joined f [] = refl
each_joined f (x ∷ xs) = ap (λ l. f x ++ l) (each_joined f xs)

-- each of what is kept
pub each_keep : {A B : Type 0} (f : A → List B) (g : A → Bool) (xs : List A) → each f (keep g xs) ≡ each (λ x. if (g x) (f x) []) xs
unfolding each keep
each_keep f g [] = refl
each_keep f g (x ∷ xs) = go (g x) (each_keep f g xs)
  where
    go : (b : Bool) → each f (keep g xs) ≡ each (λ x. if (g x) (f x) []) xs → each f (if b (x ∷ keep g xs) (keep g xs)) ≡ if b (f x) [] ++ each (λ x. if (g x) (f x) []) xs
    go true h = ap (λ l. f x ++ l) h
    go false h = h

pub keep_keep : {A : Type 0} (f g : A → Bool) (xs : List A) → keep f (keep g xs) ≡ keep (λ x. g x && f x) xs
unfolding keep
keep_keep f g [] = refl
keep_keep f g (x ∷ xs) = go (g x) (keep_keep f g xs)
  where
    go : (b : Bool) → keep f (keep g xs) ≡ keep (λ x. g x && f x) xs → keep f (if b (x ∷ keep g xs) (keep g xs)) ≡ if (b && f x) (x ∷ keep (λ x. g x && f x) xs) (keep (λ x. g x && f x) xs)
    go true h = rw h
    go false h = h

pub keep_same : (f g : ℕ → Bool) (a n : ℕ) → ((x : ℕ) → a ≤ x → x < a + n → f x ≡ g x) → keep f (run a n) ≡ keep g (run a n)
unfolding keep run
keep_same f g a zero h = refl
keep_same f g a (suc n) h = rw (h a (omega arith) (omega arith), keep_same f g (suc a) n (λ x l k. h x (omega arith) (omega arith)))

pub keep_none : (f : ℕ → Bool) (a n : ℕ) → ((x : ℕ) → a ≤ x → x < a + n → f x ≡ false) → keep f (run a n) ≡ []
unfolding keep run
keep_none f a zero h = refl
keep_none f a (suc n) h = rw (h a (omega arith) (omega arith)) (keep_none f (suc a) n (λ x l k. h x (omega arith) (omega arith)))

pub each_none : {B : Type 0} (g : ℕ → List B) (f : ℕ → Bool) (a n : ℕ) → ((x : ℕ) → a ≤ x → x < a + n → g x ≡ []) → each g (keep f (run a n)) ≡ []
unfolding each keep run
each_none g f a zero h = refl
each_none g f a (suc n) h = go (f a) (each_none g f (suc a) n (λ x l k. h x (omega arith) (omega arith)))
  where
    go : (b : Bool) → each g (keep f (run (suc a) n)) ≡ [] → each g (if b (a ∷ keep f (run (suc a) n)) (keep f (run (suc a) n))) ≡ []
    go true e = rw (h a (omega arith) (omega arith)) e
    go false e = e

-- what follows the first that is kept
abbrev pub Tail : (ℕ → Bool) → ℕ → ℕ → List ℕ → Type 0
Tail f a e [] = Unit {0}
Tail f a e (y ∷ ys) = (a ≤ y) × (y < e) × (ys ≡ keep f (run (suc y) (e - suc y)))

pub tail_from : (f : ℕ → Bool) (a b e : ℕ) (xs : List ℕ) → a ≤ b → Tail f b e xs → Tail f a e xs
tail_from f a b e [] h t = tt
tail_from f a b e (y ∷ ys) h t = (omega arith, t.1, t.2)

pub keep_tail : (f : ℕ → Bool) (a n e : ℕ) → a + n ≡ e → Tail f a e (keep f (run a n))
unfolding keep run
keep_tail f a zero e q = tt
keep_tail f a (suc n) e q = go (f a) (keep_tail f (suc a) n e (omega arith))
  where
    go : (b : Bool) → Tail f (suc a) e (keep f (run (suc a) n)) → Tail f a e (if b (a ∷ keep f (run (suc a) n)) (keep f (run (suc a) n)))
    go true t = let k : n ≡ e - suc a = omega arith in (omega arith, omega arith, rw (← k))
    go false t = tail_from f a (suc a) e (keep f (run (suc a) n)) (omega arith) t

pub run_append : (a p q : ℕ) → run a p ++ run (a + p) q ≡ run a (p + q)
unfolding run
run_append a zero q = simp (add-zero, zero-add)
run_append a (suc p) q = let h : suc p + q ≡ suc (p + q) = omega arith in let k : a + suc p ≡ suc a + p = omega arith in rw (h, k) (ap (λ l. a ∷ l) (run_append (suc a) p q))

-- blocks of w end to end
pub run_blocks : (w a n : ℕ) → each (λ x. run (x * w) w) (run a n) ≡ run (a * w) (n * w)
unfolding run each
run_blocks w a zero = rw zero-mul
run_blocks w a (suc n) = let h : suc a * w ≡ a * w + w = omega arith in let k : suc n * w ≡ w + n * w = omega arith in rw (run_blocks w (suc a) n, h, k) (run_append (a * w) w (n * w))

pub length_run : (a n : ℕ) → length (run a n) ≡ n
unfolding run
length_run a zero = refl
length_run a (suc n) = ap suc (length_run (suc a) n)

-- no fewer pass a wider test
pub keep_wider : {A : Type 0} (f g : A → Bool) → ((x : A) → f x ≡ true → g x ≡ true) → (xs : List A) → length (keep f xs) ≤ length (keep g xs)
unfolding keep
keep_wider f g h [] = omega arith
keep_wider f g h (x ∷ xs) = go (f x) (g x) (h x) (keep_wider f g h xs)
  where
    go : (a b : Bool) → (a ≡ true → b ≡ true) → length (keep f xs) ≤ length (keep g xs) → length (if a (x ∷ keep f xs) (keep f xs)) ≤ length (if b (x ∷ keep g xs) (keep g xs))
    go true true k ih = omega arith
    go true false k ih = absurd (false≢true (k refl))
    go false true k ih = omega arith
    go false false k ih = ih
