-- A prefix one letter shorter comes to no less. Its last part loses a letter, and so stands wherever it did; or goes whole, and
-- then it could follow in at most as many places as its range has. So occurrences times the spans of the gaps to come are no
-- fewer, and a sequence in which a prefix occurs has its shorter one too.
use mathlib.Core.Path.{◌≡◌, refl, ap}
use mathlib.Core.Bool.{Bool, true, false, false≢true}
use mathlib.Core.List.{List, [], ◌∷◌, ◌++◌, map}
use Prim.Native.Nat.{ℕ, zero, suc, ◌+◌, ◌-◌, ◌*◌, ◌/◌, ◌%◌, ◌≤◌, ◌<◌}
use native.Mathlib.Omega.{arith}
use lib.Dec.{leb}
use lib.ListN.{length, take, drop, get_or, length-append, length-drop, drop_of_length-le}
use lib.Seq.{take_all, take-append-le, drop-append-le}
use borrow.Author.Tests.{leb-true, leb-false}
use Rattle.rules.specs.Lists.{run, if, has_some, sum}
use Rattle.rules.specs.Motif.{spell}
use Rattle.rules.specs.Occurrence.{spare, front_by, stands_by, found, reach, occurrences, ways}
use Rattle.rules.specs.Profile.{to_come}
use Rattle.rules.specs.Sound.{SoundComponent, SoundTemplate}
use Rattle.rules.specs.Support.{support, weight}
use Rattle.rules.specs.Template.{Part, Reading, none, distance, span, part_of, slots, components, size, deal}
use Rattle.rules.specs.declared.Component.{Component}
use Rattle.rules.specs.declared.Template.{Template}
use Rattle.rules.proofs.Apart.{count_is}
use Rattle.rules.proofs.Lists.{keep_wider}
use Rattle.rules.proofs.Spelling.{spell_more, length_spell}
use Rattle.rules.proofs.Ways.{occurrences_count, weight_count, support_sequences}

-- ---- sums

-- what is so of each is so of the sums
sum_times : {A : Type 0} (f g : A → ℕ) (k l : ℕ) → ((x : A) → f x * k ≤ g x * l) → (xs : List A) → sum (map f xs) * k ≤ sum (map g xs) * l
unfolding sum
sum_times f g k l h [] = omega arith
sum_times f g k l h (x ∷ xs) = omega (arith, h x, sum_times f g k l h xs)

-- and of a run, if each comes to at most l
sum_run : (f : ℕ → ℕ) (k l : ℕ) → ((x : ℕ) → f x * k ≤ l) → (a n : ℕ) → sum (map f (run a n)) * k ≤ n * l
unfolding sum run
sum_run f k l h a zero = omega arith
sum_run f k l h a (suc n) = omega (arith, h a, sum_run f k l h (suc a) n)

if_times : (b : Bool) (i k m n : ℕ) → i * k ≤ m * n → if b i 0 * k ≤ if b m 0 * n
if_times true i k m n h = h
if_times false i k m n h = omega arith

times : (a b n : ℕ) → a ≤ b → a * n ≤ b * n
times a b zero h = omega arith
times a b (suc n) h = omega (arith, times a b n h)

-- ---- one letter less in a sequence

-- all but the last of some letters stand where all do
front_less : (f : ℕ → ℕ → Bool) (k : ℕ) (w : List ℕ) (y : ℕ) (s : List ℕ) → front_by f k (w ++ (y ∷ [])) s ≡ true → front_by f k w s ≡ true
unfolding front_by
front_less f k [] y s e = refl
front_less f k (x ∷ w) y [] e = e
front_less f k (x ∷ w) y (z ∷ s) e = go (f x z) k e (λ k. front_less f k w y s)
  where
    go : (b : Bool) (k : ℕ) → if b (front_by f k (w ++ (y ∷ [])) s) (spare k false (λ k. front_by f k (w ++ (y ∷ [])) s)) ≡ true → ((k : ℕ) → front_by f k (w ++ (y ∷ [])) s ≡ true → front_by f k w s ≡ true)
        → if b (front_by f k w s) (spare k false (λ k. front_by f k w s)) ≡ true
    go true k e ih = ih k e
    go false zero e ih = e
    go false (suc k) e ih = ih _ e

pub stands_less : (f : ℕ → ℕ → Bool) (k : ℕ) (w : List ℕ) (y : ℕ) (s : List ℕ) (p : ℕ) → stands_by f k (w ++ (y ∷ [])) s p ≡ true → stands_by f k w s p ≡ true
unfolding stands_by
stands_less f k w y s zero e = e
stands_less f k w y s (suc o) e = front_less f k w y (drop o s) e

pub deal_nil : (R : Reading) (n : ℕ) (cs : List Component) → deal R n cs [] ≡ []
unfolding deal
deal_nil R n [] = refl
deal_nil R n (c ∷ cs) = refl

-- components that 6 and 8 pass
abbrev pub AllSound : List Component → Type 0
AllSound cs = (i : ℕ) → i < length cs → SoundComponent (get_or cs i none)

module _ (R : Reading) (s : List ℕ) where
  -- a part alone, from one start
  one_way : (c d : Part) (p : ℕ) → (found c s p ≡ true → found d s p ≡ true) → ways (c ∷ []) s p ≤ ways (d ∷ []) s p
  unfolding ways
  one_way c d p h = go (found c s p) (found d s p) h
    where
      go : (a b : Bool) → (a ≡ true → b ≡ true) → if a 1 0 ≤ if b 1 0
      go true true h = omega arith
      go true false h = absurd (false≢true (h refl))
      go false b h = omega arith

  at_most_one : (c : Part) (p : ℕ) → ways (c ∷ []) s p ≤ 1
  unfolding ways
  at_most_one c p = go (found c s p)
    where
      go : (b : Bool) → if b 1 0 ≤ 1
      go true = omega arith
      go false = omega arith

  -- one letter more than whole components is the first of the next
  deal_last : (n : ℕ) (c : Component) (cs : List Component) (y : ℕ) → 1 ≤ c.length → deal R n (c ∷ cs) (y ∷ []) ≡ part_of R n c (y ∷ []) ∷ []
  unfolding deal
  deal_last n c cs y h = rw (take_all c.length (y ∷ []) h, drop_of_length-le (y ∷ []) {i = c.length} h, deal_nil R c.length cs)

  to_come_last : (c : Component) (cs : List Component) (y : ℕ) → 1 ≤ c.length → to_come (c ∷ cs) (y ∷ []) ≡ to_come cs []
  unfolding to_come
  to_come_last c cs y h = rw (drop_of_length-le (y ∷ []) {i = c.length} h)

  to_come_next : (c : Component) (cs : List Component) → to_come (c ∷ cs) [] ≡ span c.low c.high * to_come cs []
  unfolding to_come
  to_come_next c cs = refl

  -- a part that goes whole
  last_gone : (a : Part) (n : ℕ) (c : Component) (cs : List Component) (y : ℕ) → 1 ≤ c.length → (p : ℕ)
      → ways (a ∷ deal R n (c ∷ cs) (y ∷ [])) s p * to_come (c ∷ cs) (y ∷ []) ≤ ways (a ∷ []) s p * to_come (c ∷ cs) []
  unfolding ways reach
  last_gone a n c cs y h p = rw (deal_last n c cs y h, to_come_last c cs y h, to_come_next c cs) (go (found a s p))
    where
      b : Part
      b = part_of R n c (y ∷ [])

      count : ℕ
      count = span (distance n c.low) (distance n c.high)

      later : List ℕ
      later = run (p + distance n c.low) count

      most : sum (map (ways (b ∷ []) s) later) * to_come cs [] ≤ count * to_come cs []
      most = sum_run (ways (part_of R n c (y ∷ []) ∷ []) s) (to_come cs []) (to_come cs []) (λ q. le q) (p + distance n c.low) count
        where
          le : (q : ℕ) → ways (part_of R n c (y ∷ []) ∷ []) s q * to_come cs [] ≤ to_come cs []
          le q = omega (arith, times _ 1 (to_come cs []) (at_most_one (part_of R n c (y ∷ [])) q))

      go : (x : Bool) → if x (sum (map (ways (b ∷ []) s) later)) 0 * to_come cs [] ≤ if x 1 0 * (span c.low c.high * to_come cs [])
      go true = omega (arith, most, ap (λ k. k * to_come cs []) (count_is n c.low c.high))
      go false = omega arith

  -- with a first part more
  with_first : (a : Part) (n : ℕ) (d : Component) (ds : List Component) (x : ℕ) (w : List ℕ) (y : ℕ)
      → ((p : ℕ) → ways (deal R n (d ∷ ds) (x ∷ w ++ (y ∷ []))) s p * to_come (d ∷ ds) (x ∷ w ++ (y ∷ [])) ≤ ways (deal R n (d ∷ ds) (x ∷ w)) s p * to_come (d ∷ ds) (x ∷ w))
      → (p : ℕ) → ways (a ∷ deal R n (d ∷ ds) (x ∷ w ++ (y ∷ []))) s p * to_come (d ∷ ds) (x ∷ w ++ (y ∷ [])) ≤ ways (a ∷ deal R n (d ∷ ds) (x ∷ w)) s p * to_come (d ∷ ds) (x ∷ w)
  unfolding deal ways
  with_first a n d ds x w y h p = if_times (found a s p) _ _ _ _ (sum_times _ _ _ _ h (reach (distance n d.low) (distance n d.high) p))

  -- a letter taken from what follows the first part
  less_after : (a : Part) (n : ℕ) (cs : List Component) (v : List ℕ) (y : ℕ) → AllSound cs
      → (1 ≤ length v → (p : ℕ) → ways (deal R n cs (v ++ (y ∷ []))) s p * to_come cs (v ++ (y ∷ [])) ≤ ways (deal R n cs v) s p * to_come cs v)
      → (p : ℕ) → ways (a ∷ deal R n cs (v ++ (y ∷ []))) s p * to_come cs (v ++ (y ∷ [])) ≤ ways (a ∷ deal R n cs v) s p * to_come cs v
  less_after a n [] v y l ih p = unfold deal to_come in omega arith
  less_after a n (d ∷ ds) [] y l ih p = rw (deal_nil R n (d ∷ ds)) (last_gone a n d ds y (l 0 (omega arith)).some p)
  less_after a n (d ∷ ds) (x ∷ w) y l ih p = with_first a n d ds x w y (ih (omega arith)) p

  -- with a letter less in all
  fewer_ways : (n : ℕ) (cs : List Component) (v : List ℕ) (y : ℕ) → AllSound cs → 1 ≤ length v → (p : ℕ)
      → ways (deal R n cs (v ++ (y ∷ []))) s p * to_come cs (v ++ (y ∷ [])) ≤ ways (deal R n cs v) s p * to_come cs v
  unfolding deal to_come
  fewer_ways n [] v y l h p = omega arith
  fewer_ways n (c ∷ cs) [] y l h p = absurd (omega arith)
  fewer_ways n (c ∷ cs) (x ∷ w) y l h p = go (leb c.length (suc (length w))) refl (fewer_ways c.length cs (drop c.length (x ∷ w)) y (λ i k. l (suc i) (omega arith)))
    where
      v : List ℕ
      v = x ∷ w

      go : (b : Bool) → leb c.length (suc (length w)) ≡ b
          → (1 ≤ length (drop c.length v) → (p : ℕ) → ways (deal R c.length cs (drop c.length v ++ (y ∷ []))) s p * to_come cs (drop c.length v ++ (y ∷ [])) ≤ ways (deal R c.length cs (drop c.length v)) s p * to_come cs (drop c.length v))
          → ways (part_of R n c (take c.length (v ++ (y ∷ []))) ∷ deal R c.length cs (drop c.length (v ++ (y ∷ [])))) s p * to_come cs (drop c.length (v ++ (y ∷ [])))
          ≤ ways (part_of R n c (take c.length v) ∷ deal R c.length cs (drop c.length v)) s p * to_come cs (drop c.length v)
      go true f ih = let k = leb-true c.length (suc (length w)) f in
          rw (take-append-le c.length v (y ∷ []) k, drop-append-le c.length v (y ∷ []) k) (less_after _ c.length cs (drop c.length v) y (λ i k. l (suc i) (omega arith)) ih p)
      go false f ih =
          let k = leb-false c.length (suc (length w)) f in
          let short : length v ≤ c.length = omega arith in
          let long : length (v ++ (y ∷ [])) ≤ c.length = omega (arith, length-append v (y ∷ [])) in
          rw (take_all c.length v short, drop_of_length-le v {i = c.length} short, take_all c.length (v ++ (y ∷ [])) long, drop_of_length-le (v ++ (y ∷ [])) {i = c.length} long, deal_nil R c.length cs)
          (times _ _ (to_come cs []) (one_way (part_of R n c (v ++ (y ∷ []))) (part_of R n c v) p (stands_less R.fits (R.slack c) v y s p)))

  fewer_occurrences : (n : ℕ) (cs : List Component) (v : List ℕ) (y : ℕ) → AllSound cs → 1 ≤ length v
      → length (occurrences (deal R n cs (v ++ (y ∷ []))) s) * to_come cs (v ++ (y ∷ [])) ≤ length (occurrences (deal R n cs v) s) * to_come cs v
  fewer_occurrences n cs v y l h = rw (occurrences_count, occurrences_count) (sum_times _ _ _ _ (fewer_ways n cs v y l h) (run 1 (length s)))

-- ---- in all sequences

-- a prefix one letter shorter comes to no less
pub weight_antitone : (R : Reading) (base n : ℕ) (cs : List Component) (j m : ℕ) → AllSound cs → 1 ≤ j → (ss : List (List ℕ))
    → weight (deal R n cs (spell base (suc j) m)) ss * to_come cs (spell base (suc j) m)
    ≤ weight (deal R n cs (spell base j (m / base))) ss * to_come cs (spell base j (m / base))
weight_antitone R base n cs j m l h ss =
    rw (weight_count, weight_count, spell_more base j m)
    (sum_times _ _ _ _ (λ s. fewer_occurrences R s n cs (spell base j (m / base)) (m % base) l (rw length_spell h)) ss)

-- the gaps to come can each be kept
to_come_some : (cs : List Component) (w : List ℕ) → AllSound cs → 1 ≤ to_come cs w
unfolding to_come
to_come_some [] w l = omega arith
to_come_some (c ∷ cs) [] l =
    let h = to_come_some cs [] (λ i k. l (suc i) (omega arith)) in
    let g : 1 ≤ c.high + 1 - c.low = omega (arith, (l 0 (omega arith)).ordered) in
    omega (arith, times 1 (c.high + 1 - c.low) (to_come cs []) g)
to_come_some (c ∷ cs) (x ∷ w) l = to_come_some cs (drop c.length (x ∷ w)) (λ i k. l (suc i) (omega arith))

pub some_length : {A : Type 0} (xs : List A) → has_some xs ≡ true → 1 ≤ length xs
unfolding has_some
some_length [] e = absurd (false≢true e)
some_length (x ∷ xs) e = omega arith

pub length_some : {A : Type 0} (xs : List A) → 1 ≤ length xs → has_some xs ≡ true
unfolding has_some
length_some [] h = absurd (omega arith)
length_some (x ∷ xs) h = refl

-- a product of at least 1 has no factor 0
left_some : (a b : ℕ) → 1 ≤ a * b → 1 ≤ a
left_some zero b h = absurd (omega arith)
left_some (suc a) b h = omega arith

product_some : (a b : ℕ) → 1 ≤ a → 1 ≤ b → 1 ≤ a * b
product_some a b h k = omega (arith, times 1 a b h)

module _ (R : Reading) (base n : ℕ) (cs : List Component) (j m : ℕ) (l : AllSound cs) (h : 1 ≤ j) where
  -- a prefix one letter shorter occurs wherever the longer one does
  pub prefix_occurs : (s : List ℕ) → has_some (occurrences (deal R n cs (spell base (suc j) m)) s) ≡ true → has_some (occurrences (deal R n cs (spell base j (m / base))) s) ≡ true
  prefix_occurs s e =
      let v : List ℕ = spell base j (m / base) in
      let w : List ℕ = v ++ (m % base ∷ []) in
      let long : 1 ≤ length (occurrences (deal R n cs w) s) = some_length _ (rw (spell_more base j m) at e) in
      let most = fewer_occurrences R s n cs v (m % base) l (rw length_spell h) in
      length_some _ (left_some _ (to_come cs v) (omega (arith, most, product_some _ _ long (to_come_some cs w l))))

  -- so its support is no smaller
  pub support_antitone : (ss : List (List ℕ)) → support (deal R n cs (spell base (suc j) m)) ss ≤ support (deal R n cs (spell base j (m / base))) ss
  support_antitone ss = rw (support_sequences, support_sequences) (keep_wider _ _ prefix_occurs ss)

-- a whole motif has no gap to come
pub none_to_come : (cs : List Component) (w : List ℕ) → AllSound cs → sum (map (λ c. c.length) cs) ≡ length w → to_come cs w ≡ 1
unfolding to_come sum
none_to_come [] w l e = refl
none_to_come (c ∷ cs) [] l e = absurd (omega (arith, (l 0 (omega arith)).some))
none_to_come (c ∷ cs) (x ∷ w) l e = none_to_come cs (drop c.length (x ∷ w)) (λ i h. l (suc i) (omega arith)) (omega (arith, length-drop c.length (x ∷ w)))

-- K is at least 1
pub size_some : (t : Template) → SoundTemplate t → 1 ≤ size t
unfolding size components sum
size_some t s = go t.count s.some
  where
    go : (n : ℕ) → 1 ≤ n → 1 ≤ sum (map (λ c. c.length) (take n (slots t)))
    go zero h = absurd (omega arith)
    go (suc n) h = omega (arith, (s.each 0 s.some).some)
