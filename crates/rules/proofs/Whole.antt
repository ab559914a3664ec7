-- What the whole search lists, and how many candidates it tries.
use mathlib.Core.Path.{◌≡◌, refl, sym, ap, ◌∙◌}
use mathlib.Core.Bool.{Bool, true, false, ◌&&◌}
use mathlib.Core.List.{List, [], ◌∷◌, ◌++◌, map, append-nil, map-append}
use Prim.Native.Nat.{ℕ, zero, suc, ◌+◌, ◌*◌, ◌/◌, ◌^◌}
use native.Mathlib.Nat.{pow-zero, pow-suc}
use native.Mathlib.Omega.{arith}
use lib.ListN.{length, length-append}
use borrow.Author.Tests.{eq-eqb, ne_eqb}
use Rattle.rules.specs.Lists.{run, if, keep, each}
use Rattle.rules.specs.Walk.{Walk, Lawful, place, children, under, from, start, motif, listed, spelled, candidate, motifs, tries}
use Rattle.rules.specs.declared.Place.{Place}
use Rattle.rules.proofs.Lists.{keep_append, each_append, keep_each, keep_keep, each_each, each_same, each_keep, keep_same, keep_none, each_none, run_blocks}
use Rattle.rules.proofs.Tests.{and_true, and_false}
use Rattle.rules.proofs.Step.{block, whole}

each_sum : {A B : Type 0} (F G : ℕ → List A) (W : ℕ → List ℕ) (g : ℕ → Bool) (f : ℕ → List B) (xs : List ℕ) → ((x : ℕ) → length (F x) ≡ length (G x) + length (each f (keep g (W x))))
    → length (each F xs) ≡ length (each G xs) + length (each f (keep g (each W xs)))
unfolding each keep
each_sum F G W g f [] h = refl
each_sum F G W g f (x ∷ xs) h = rw (keep_append g (W x), each_append f (keep g (W x))) (simp length-append (omega (arith, h x, each_sum F G W g f xs h)))

each_single : {A B : Type 0} (f : A → B) (xs : List A) → length (each (λ x. f x ∷ []) xs) ≡ length xs
unfolding each
each_single f [] = refl
each_single f (x ∷ xs) = ap suc (each_single f xs)

each_one : {A : Type 0} (xs : List A) → each (λ x. x ∷ []) xs ≡ xs
unfolding each
each_one [] = refl
each_one (x ∷ xs) = ap (λ l. x ∷ l) (each_one xs)

module _ (W : Walk) where
  open W use {base, may, good, depth}

  pub listed_append : (ps qs : List Place) → listed W (ps ++ qs) ≡ listed W ps ++ listed W qs
  unfolding listed
  listed_append ps qs = rw keep_append (map-append (λ p. p.number) (keep (motif W) ps) (keep (motif W) qs))

  listed_each : (g : ℕ → List Place) (xs : List ℕ) → listed W (each g xs) ≡ each (λ x. listed W (g x)) xs
  unfolding each listed keep
  listed_each g [] = refl
  listed_each g (x ∷ xs) = listed_append (g x) (each g xs) ∙ ap (λ l. listed W (g x) ++ l) (listed_each g xs)

  pub listed_skip : (p : Place) (ps : List Place) → motif W p ≡ false → listed W (p ∷ ps) ≡ listed W ps
  unfolding listed keep
  listed_skip p ps e = rw e

  -- the extensions of (j, m) by d letters
  words : ℕ → ℕ → ℕ → List ℕ
  words zero j m = m ∷ []
  words (suc d) j m = each (words d (suc j)) (children W j m)

  words_snoc : (d j m k : ℕ) → d + j ≡ k → words (suc d) j m ≡ each (children W k) (words d j m)
  unfolding words each
  words_snoc zero j m k e = let h : j ≡ k = omega arith in rw (← h) (each_one (children W j m) ∙ sym (append-nil _))
  words_snoc (suc d) j m k e = each_same (words (suc d) (suc j)) (λ n. each (children W k) (words d (suc j) n)) (children W j m) (λ n. words_snoc d (suc j) n k (omega arith)) ∙ sym (each_each (children W k) (words d (suc j)) (children W j m))

  -- the numbers below base ^ suc k that pass f, block by block
  blocks : (f : ℕ → Bool) (k : ℕ) → keep f (run 0 (base ^ suc k)) ≡ each (λ m. keep f (run (m * base) base)) (run 0 (base ^ k))
  blocks f k = let h : 0 * base ≡ 0 = omega arith in rw (pow-suc, ← (rw h at (run_blocks base 0 (base ^ k)))) (keep_each f (λ m. run (m * base) base) (run 0 (base ^ k)))

  -- the children of what passes g
  pub level_keep : (g : ℕ → Bool) (k : ℕ) → each (children W k) (keep g (run 0 (base ^ k))) ≡ keep (λ n. may (suc k) n && g (n / base)) (run 0 (base ^ suc k))
  unfolding children
  level_keep g k = each_keep (children W k) g (run 0 (base ^ k)) ∙ each_same _ _ (run 0 (base ^ k)) (λ m. go m (g m) refl) ∙ sym (blocks (λ n. may (suc k) n && g (n / base)) k)
    where
      go : (m : ℕ) (b : Bool) → g m ≡ b → if b (children W k m) [] ≡ keep (λ n. may (suc k) n && g (n / base)) (run (m * base) base)
      go m true e = keep_same (may (suc k)) (λ n. may (suc k) n && g (n / base)) (m * base) base (λ n h l. rw (block base m n h l, e) (sym (and_true (may (suc k) n))))
      go m false e = sym (keep_none (λ n. may (suc k) n && g (n / base)) (m * base) base (λ n h l. rw (block base m n h l, e) (and_false (may (suc k) n))))

  words_spelled : (k : ℕ) → words k 0 0 ≡ keep (spelled W k) (run 0 (base ^ k))
  unfolding words keep spelled run
  words_spelled zero = rw pow-zero
  words_spelled (suc k) = words_snoc k 0 0 k (omega arith) ∙ ap (each (children W k)) (words_spelled k) ∙ level_keep (spelled W k) k

  module _ (L : Lawful W) where
    bad_child : (j m n : ℕ) → n / base ≡ m → good j m ≡ false → good (suc j) n ≡ false
    bad_child j m n q e = go (good (suc j) n) refl
      where
        go : (b : Bool) → good (suc j) n ≡ b → b ≡ false
        go true f = sym (rw q at (L.anti j n f)) ∙ e
        go false f = refl

    -- nothing good stands under a prefix that is not
    dead : (d j m k : ℕ) → d + j ≡ k → good j m ≡ false → keep (good k) (words d j m) ≡ []
    unfolding keep words children
    dead zero j m k e g = let h : j ≡ k = omega arith in rw (← h, g)
    dead (suc d) j m k e g = keep_each (good k) (words d (suc j)) (children W j m) ∙ each_none (λ n. keep (good k) (words d (suc j) n)) (may (suc j)) (m * base) base (λ n h l. dead d (suc j) n k (omega arith) (bad_child j m n (block base m n h l) g))

    listed_under : (d j m : ℕ) → d + j ≡ depth → listed W (under W d j m) ≡ keep (good depth) (words d j m)
    unfolding under words listed motif keep
    listed_under zero j m e = let h : j ≡ depth = omega arith in rw (eq-eqb j depth h, h) (go (good depth m))
      where
        go : (b : Bool) → map (λ p. p.number) (if b (place depth m ∷ []) []) ≡ if b (m ∷ []) []
        go true = refl
        go false = refl
    listed_under (suc d) j m e = rw (ne_eqb j depth (omega arith)) (go (good j m) refl (λ n. listed_under d (suc j) n (omega arith)))
      where
        go : (b : Bool) → good j m ≡ b → ((n : ℕ) → listed W (under W d (suc j) n) ≡ keep (good depth) (words d (suc j) n))
            → listed W (if b (each (under W d (suc j)) (children W j m)) []) ≡ keep (good depth) (each (words d (suc j)) (children W j m))
        go true g h = listed_each (under W d (suc j)) (children W j m) ∙ each_same _ _ (children W j m) h ∙ sym (keep_each (good depth) (words d (suc j)) (children W j m))
        go false g h = sym (dead (suc d) j m depth e g)

    level : (d j m k : ℕ) → d + j ≡ k → length (under W (suc d) j m) ≡ length (under W d j m) + length (each (children W k) (keep (good k) (words d j m)))
    unfolding under words keep each
    level zero j m k e = let h : j ≡ k = omega arith in rw (← h) (go (good j m))
      where
        go : (b : Bool) → suc (length (if b (each (under W 0 (suc j)) (children W j m)) [])) ≡ 1 + length (each (children W j) (if b (m ∷ []) []))
        go true = rw append-nil (omega (arith, each_single (place (suc j)) (children W j m)))
        go false = refl
    level (suc d) j m k e = go (good j m) refl (λ n. level d (suc j) n k (omega arith))
      where
        go : (b : Bool) → good j m ≡ b → ((n : ℕ) → length (under W (suc d) (suc j) n) ≡ length (under W d (suc j) n) + length (each (children W k) (keep (good k) (words d (suc j) n))))
            → suc (length (if b (each (under W (suc d) (suc j)) (children W j m)) [])) ≡ suc (length (if b (each (under W d (suc j)) (children W j m)) [])) + length (each (children W k) (keep (good k) (each (words d (suc j)) (children W j m))))
        go true g h = omega (arith, each_sum (under W (suc d) (suc j)) (under W d (suc j)) (words d (suc j)) (good k) (children W k) (children W j m) h)
        go false g h = omega (arith, ap (λ l. length (each (children W k) l)) (dead (suc d) j m k e g))

    tries_under : (k : ℕ) → length (under W k 0 0) ≡ suc (tries W k)
    unfolding tries candidate
    tries_under zero = unfold under in refl
    tries_under (suc k) = omega (arith, level k 0 0 k (omega arith), tries_under k, ap length (ap (each (children W k)) (ap (keep (good k)) (words_spelled k) ∙ keep_keep (good k) (spelled W k) (run 0 (base ^ k))) ∙ level_keep (λ m. spelled W k m && good k m) k))

    -- T2: the search lists exactly the good motifs
    pub lists : listed W (from W (start W)) ≡ motifs W
    unfolding motifs motif
    lists = sym (listed_skip (place 0 0) (from W (start W)) (rw (ne_eqb 0 depth (omega (arith, L.lettered))))) ∙ (rw (whole W L.pos L.lettered L.root) at (listed_under depth 0 0 (omega arith)))
        ∙ ap (keep (good depth)) (words_spelled depth) ∙ keep_keep (good depth) (spelled W depth) (run 0 (base ^ depth))

    -- T3: it tries each candidate once
    pub tried : length (from W (start W)) ≡ tries W depth
    tried = omega (arith, ap length (whole W L.pos L.lettered L.root), tries_under depth)
