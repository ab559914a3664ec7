-- The path in its slots: the parent's slot serves the candidate, a slot written leaves those below it, and the way up keeps the path.
use mathlib.Core.Bool.{Bool, true, false}
use mathlib.Core.List.{List, [], ◌∷◌}
use mathlib.Core.Path.{◌≡◌, refl, sym, ap, ◌∙◌}
use Prim.Native.Nat.{ℕ, zero, suc, ◌+◌, ◌-◌, ◌*◌, ◌/◌, ◌%◌, ◌^◌, ◌≤◌, ◌<◌}
use native.Mathlib.Decide.{dec_lt}
use native.Mathlib.Nat.{pow-suc, div-div-eq-div-mul, div-one, mul_comm, div-add-mod', mod-lt, pow-zero, one-mul}
use native.Mathlib.Omega.{arith}
use lib.ListN.{length, take, drop, get_or}
use lib.Seq.{get_or-take, get_or-drop}
use Rattle.rules.specs.Lists.{if, run, keep, sum}
use Rattle.rules.specs.Profile.{base_of}
use Rattle.rules.specs.Template.{components}
use Rattle.rules.specs.Walk.{Walk, choose, later, up}
use Rattle.rules.specs.declared.Place.{Place}
use Rattle.rules.specs.declared.Template.{Template}
use Rattle.rules.proofs.EachKind.{base_least}
use Rattle.rules.proofs.Step.{block}
use Rattle.rules.specs.Sound.{SoundSet}
use Rattle.rules.specs.declared.Component.{Component}
use Rattle.rows.specs.Flags.{reached}
use Rattle.matching.specs.Path.{row_slot, before_next, Slot, Path}
use Rattle.rows.specs.NextLetter.{At, letters_before}
use Rattle.rows.specs.Set.{words_of, first_word, between, Source}

-- there are letters
pub some_base : (t : Template) → 1 ≤ base_of t
some_base t = omega (arith, base_least t)

-- 2,072 words are enough
many : (ns : List ℕ) → 64 * first_word ns (length ns) ≤ 64 * 16 + sum ns + 63 * length ns
unfolding first_word words_of sum
many [] = omega arith
many (n ∷ ns) = omega (arith, many ns)

pub enough : (l ns : List ℕ) → SoundSet l ns → first_word ns (length ns) ≤ 2072
enough l ns set = omega (arith, many ns, set.short, set.adds, set.few)

-- A SLOT WRITTEN leaves those below it
pub slot_kept : (n k : ℕ) (x y : List (List ℕ)) → k < n → take n y ≡ take n x → row_slot k y ≡ row_slot k x
slot_kept n k x y h left = sym (get_or-take n y k [] h) ∙ ap (λ (r : List (List ℕ)). get_or r k []) left ∙ get_or-take n x k [] h

module _ (t : Template) (ns l : List ℕ) (slots : List (List ℕ)) where
  -- what the last letter is added to stands in the slot below
  pub parent : (j m : ℕ) → Path t ns l slots j m → 1 ≤ j → Slot t ns l (row_slot (j - 1) slots) (j - 1) (m / base_of t)
  parent j m p h =
      let e : j - (j - 1) ≡ 1 = omega arith in
      let z : base_of t ^ (j - (j - 1)) ≡ base_of t = ap (λ (n : ℕ). base_of t ^ n) e ∙ pow-suc (base_of t) 0 ∙ ap (λ (n : ℕ). n * base_of t) (pow-zero (base_of t)) ∙ one-mul (base_of t) in
      record { held = λ k o a. rw z at (p.held_at (j - 1) k o (omega arith) a) }

  -- the path stays where its slots do
  pub stayed : (slots' : List (List ℕ)) (j m : ℕ) → Path t ns l slots j m → ((i : ℕ) → i < j → row_slot i slots' ≡ row_slot i slots) → Path t ns l slots' j m
  stayed slots' j m p same = record { held_at = λ i k o h a. rw (same i h) (p.held_at i k o h a) }

  above : (m x d : ℕ) → x < base_of t → (m * base_of t + x) / base_of t ^ suc d ≡ m / base_of t ^ d
  above m x d h =
      let e : (m * base_of t + x) / base_of t ≡ m = block (base_of t) m (m * base_of t + x) (omega arith) (omega arith) in
      rw (pow-suc (base_of t) d, mul_comm (base_of t ^ d) (base_of t)) (sym (div-div-eq-div-mul (m * base_of t + x) (base_of t) (base_of t ^ d)) ∙ ap (λ (y : ℕ). y / base_of t ^ d) e)

  -- a slot more: the path to a child
  pub pushed : (j m x : ℕ) → x < base_of t → Path t ns l slots j m → Slot t ns l (row_slot j slots) j m → Path t ns l slots (suc j) (m * base_of t + x)
  pushed j m x b p f = record { held_at = one }
    where
      one : (i k o : ℕ) → i < suc j → At (components t) i k o → Source (before_next reached t k o i ((m * base_of t + x) / base_of t ^ (suc j - i))) ns l (row_slot i slots)
      one i k o h a =
          let d : suc j - i ≡ suc (j - i) = omega arith in
          rw (d, above m x (j - i) b)
          (elim (dec_lt i j) [
            | yes u ↦ p.held_at i k o u a
            | no u ↦ (let e : i ≡ j = omega arith in
                let z : j - j ≡ 0 = omega arith in
                let y : m / base_of t ^ 0 ≡ m = rw pow-zero (div-one m) in
                rw (e, z, y) (f.held k o (rw e at a)))
          ])

  -- the first slot: the path to a candidate of one letter
  pub begun : Slot t ns l (row_slot 0 slots) 0 0 → (x : ℕ) → x < base_of t → Path t ns l slots 1 x
  begun s x h =
      let z : 0 * base_of t + x ≡ x = omega arith in
      rw z at (pushed 0 0 x h (record { held_at = λ i k o u a. absurd (omega arith) }) s)

  -- the way up, or to a sibling: a shorter path whose letters are the same
  pub shortened : (j m j' m' : ℕ) → Path t ns l slots j m → j' ≤ j
      → ((i : ℕ) → i < j' → m' / base_of t ^ (j' - i) ≡ m / base_of t ^ (j - i)) → Path t ns l slots j' m'
  shortened j m j' m' p h e = record { held_at = λ i k o u a. rw (e i u) (p.held_at i k o (omega arith) a) }

-- what stands in a part of a list
pub between_at : (a e : ℕ) (l : List ℕ) (q : ℕ) → q < e - a → get_or (between a e l) q 0 ≡ get_or l (a + q) 0
unfolding between
between_at a e l q h = get_or-take (e - a) (drop a l) q 0 h ∙ get_or-drop a l q 0

-- WHERE A LETTER STANDS is one place
pub at_one : (cs : List Component) (j k o k' o' : ℕ) → At cs j k o → At cs j k' o' → (k ≡ k') × (o ≡ o')
unfolding letters_before
at_one [] j k o k' o' a b = absurd (omega (arith, a.there))
at_one (c ∷ cs) j zero o zero o' a b = (refl, omega (arith, a.counted, b.counted))
at_one (c ∷ cs) j zero o (suc k') o' a b = absurd (omega (arith, a.inside, a.counted, b.counted))
at_one (c ∷ cs) j (suc k) o zero o' a b = absurd (omega (arith, b.inside, a.counted, b.counted))
at_one (c ∷ cs) j (suc k) o (suc k') o' a b =
    let r = at_one cs (j - c.length) k o k' o' (record { there = omega (arith, a.there); inside = a.inside; counted = omega (arith, a.counted) }) (record { there = omega (arith, b.there); inside = b.inside; counted = omega (arith, b.counted) }) in
    (ap suc r.0, r.1)

-- the same words in another place
pub slot_same : (t : Template) (ns l : List ℕ) (d p : ℕ) {x y : List ℕ} → x ≡ y → Slot t ns l x d p → Slot t ns l y d p
slot_same t ns l d p e s = rw e at s

-- what the one letter that comes next is added to
pub slot_at : (t : Template) (ns l slot : List ℕ) (j m k o : ℕ) → At (components t) j k o → Source (before_next reached t k o j m) ns l slot → Slot t ns l slot j m
slot_at t ns l slot j m k o at s = record { held = λ k' o' b. let u = at_one (components t) j k o k' o' at b in rw (← u.0, ← u.1) s }

-- THE WAY UP keeps the path: the place after a candidate whose children are not visited has the same letters above its last
module _ (t : Template) (ns l : List ℕ) (slots : List (List ℕ)) where
  sibling : (m n i j : ℕ) → n / base_of t ≡ m / base_of t → i < suc j → n / base_of t ^ (suc j - i) ≡ m / base_of t ^ (suc j - i)
  sibling m n i j e u =
      let d : suc j - i ≡ suc (j - i) = omega arith in
      rw (d, pow-suc (base_of t) (j - i), mul_comm (base_of t ^ (j - i)) (base_of t))
      (sym (div-div-eq-div-mul n (base_of t) (base_of t ^ (j - i))) ∙ ap (λ (y : ℕ). y / base_of t ^ (j - i)) e ∙ div-div-eq-div-mul m (base_of t) (base_of t ^ (j - i)))

  parent_path : (j m : ℕ) → Path t ns l slots (suc j) m → Path t ns l slots j (m / base_of t)
  parent_path j m p =
      shortened t ns l slots (suc j) m j (m / base_of t) p (omega arith)
      (λ i u. let d : suc j - i ≡ suc (j - i) = omega arith in
      div-div-eq-div-mul m (base_of t) (base_of t ^ (j - i)) ∙ rw (d, pow-suc (base_of t) (j - i), mul_comm (base_of t ^ (j - i)) (base_of t)))

  -- the first sibling that may stand there, whichever letters may
  choice : (f : ℕ → Bool) (j m n a : ℕ) → ((b : ℕ) → a ≤ b → b < a + n → b / base_of t ≡ m / base_of t)
      → (q : Place) → Path t ns l slots (suc j) m → Path t ns l slots q.letters q.number
      → let c = choose q (suc j) (keep f (run a n)) in Path t ns l slots c.letters c.number
  unfolding run keep
  choice f j m zero a h q p r = r
  choice f j m (suc n) a h q p r = go (f a) (choice f j m n (suc a) (λ b u v. h b (omega arith) (omega arith)) q p r)
    where
      go : (b : Bool) → (let c = choose q (suc j) (keep f (run (suc a) n)) in Path t ns l slots c.letters c.number)
          → let c = choose q (suc j) (if b (a ∷ keep f (run (suc a) n)) (keep f (run (suc a) n))) in Path t ns l slots c.letters c.number
      go true r = shortened t ns l slots (suc j) m (suc j) a p (omega arith) (λ i u. sibling m a i j (h a (omega arith) (omega arith)) u)
      go false r = r

  -- in every walk over as many letters, whichever of them may follow
  pub path_up_in : (W : Walk) → W.base ≡ base_of t → (j m : ℕ) → Path t ns l slots j m → let c = up W j m in Path t ns l slots c.letters c.number
  unfolding up later
  path_up_in W e zero m p = record { held_at = λ i k o h a. absurd (omega arith) }
  path_up_in W e (suc j) m p =
      rw e
      (choice (W.may (suc j)) j m (base_of t - suc (m % base_of t)) (suc m) near (up W j (m / base_of t)) p
      (path_up_in W e j (m / base_of t) (parent_path j m p)))
    where
      near : (b : ℕ) → suc m ≤ b → b < suc m + (base_of t - suc (m % base_of t)) → b / base_of t ≡ m / base_of t
      near b u v =
          let d = div-add-mod' m (base_of t) in
          let r = mod-lt m (some_base t) in
          block (base_of t) (m / base_of t) b (omega arith) (omega arith)
