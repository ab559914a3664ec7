-- A template's line, piece by piece: the components read so far, and what the pieces that follow come to, are the whole.
use mathlib.Core.Path.{◌≡◌, refl, sym, ap, ◌∙◌}
use mathlib.Core.List.{List, [], ◌∷◌, ◌++◌}
use mathlib.Core.Logic.{◌⊎◌, inl, inr}
use Prim.Native.Nat.{ℕ, zero, suc, ◌+◌, ◌≤◌, ◌<◌}
use native.Mathlib.Omega.{arith}
use lib.ListN.{length, get_or, set, length-append, length-set, get_or-append, get_or-eq_default}
use lib.Seq.{get_or-append_seam}
use Rattle.std.proofs.lemmas.Bool.{cases_order}
use Rattle.std.proofs.lemmas.List.{get_or-set_same, get_or-set_other}
use Rattle.rules.specs.Template.{none, with_slots}
use Rattle.rules.specs.Text.{Parsed, parsed, malformed, cons, parse_component, parse_first, parse_rest, parse_pieces, template_of}
use Rattle.rules.specs.declared.Component.{Component}
use Rattle.rules.specs.declared.Profile.TheVariants.{Exact}
use Rattle.text.specs.Parsed.{parsed_by}

-- some components, before what a text comes to
pub prefixed : List Component → Parsed (List Component) → Parsed (List Component)
prefixed [] p = p
prefixed (c ∷ cs) p = cons (parsed c) (prefixed cs p)

prefixed_more : (cs : List Component) (c : Component) (p : Parsed (List Component)) → prefixed cs (cons (parsed c) p) ≡ prefixed (cs ++ c ∷ []) p
unfolding prefixed
prefixed_more [] c p = refl
prefixed_more (d ∷ cs) c p = ap (cons (parsed d)) (prefixed_more cs c p)

prefixed_bad : (cs : List Component) → prefixed cs malformed ≡ malformed
unfolding prefixed
prefixed_bad [] = refl
prefixed_bad (c ∷ cs) = ap (cons (parsed c)) (prefixed_bad cs)

prefixed_all : (cs : List Component) → prefixed cs (parsed []) ≡ parsed cs
unfolding prefixed
prefixed_all [] = refl
prefixed_all (c ∷ cs) = ap (cons (parsed c)) (prefixed_all cs)

-- of the pieces of a line so many are read, and the first components stand in the slots; some pieces are left
pub record Read (ps : List (List ℕ)) (count : ℕ) (slots : List Component) (left : List (List ℕ)) : Type 0 where
  pub components : List Component
  pub long : length components ≡ count
  pub slots_long : length slots ≡ 6
  pub slot : (i : ℕ) → i < 6 → get_or slots i none ≡ get_or components i none
  pub all : parse_pieces ps ≡ prefixed components (parse_rest left)

-- the first piece decides where it is malformed
pub first_bad : (p : List ℕ) {ps rest : List (List ℕ)} → ps ≡ p ∷ rest → parse_first p ≡ malformed → malformed ≡ parse_pieces ps
first_bad p e q = rw (e, q)

-- and else it is the first component
pub read_first : (p : List ℕ) {ps rest : List (List ℕ)} (c : Component) → ps ≡ p ∷ rest → parse_first p ≡ parsed c → Read ps 1 (c ∷ none ∷ none ∷ none ∷ none ∷ none ∷ []) rest
unfolding prefixed
read_first p c e q = record { components = c ∷ []; long = refl; slots_long = refl; slot = go; all = rw (e, q) }
  where
    go : (i : ℕ) → i < 6 → get_or (c ∷ none ∷ none ∷ none ∷ none ∷ none ∷ []) i none ≡ get_or (c ∷ []) i none
    go zero h = refl
    go (suc zero) h = refl
    go (suc (suc zero)) h = refl
    go (suc (suc (suc zero))) h = refl
    go (suc (suc (suc (suc zero)))) h = refl
    go (suc (suc (suc (suc (suc zero))))) h = refl
    go (suc (suc (suc (suc (suc (suc i)))))) h = refl

module _ {ps left rest : List (List ℕ)} {count : ℕ} {slots : List Component} (r : Read ps count slots left) (p : List ℕ) (e : left ≡ p ∷ rest) where
  turn : parse_pieces ps ≡ prefixed r.components (cons (parse_component p) (parse_rest rest))
  unfolding parse_rest
  turn = r.all ∙ ap (λ (l : List (List ℕ)). prefixed r.components (parse_rest l)) e

  -- a piece that is malformed decides it
  pub read_bad : parse_component p ≡ malformed → malformed ≡ parse_pieces ps
  read_bad q = sym (turn ∙ rw q (prefixed_bad r.components))

  module _ (c : Component) (q : parse_component p ≡ parsed c) where
    -- another is one component more
    more : {now : List Component} → length now ≡ 6 → ((i : ℕ) → i < 6 → get_or now i none ≡ get_or (r.components ++ c ∷ []) i none) → Read ps (count + 1) now rest
    more {now} k s = record {
      components = r.components ++ c ∷ [];
      long = rw length-append (omega (arith, r.long));
      slots_long = k;
      slot = s;
      all = turn ∙ rw q (prefixed_more r.components c (parse_rest rest));
    }

    -- in its slot
    pub read_more : count < 6 → Read ps (count + 1) (set slots count c) rest
    read_more k = more (length-set slots count c ∙ r.slots_long) (λ i b. go i b (cases_order i count))
      where
        go : (i : ℕ) → i < 6 → (i ≡ count) ⊎ ((i < count) ⊎ (count < i)) → get_or (set slots count c) i none ≡ get_or (r.components ++ c ∷ []) i none
        go i b (inl h) = rw (h, get_or-set_same slots count c none (omega (arith, r.slots_long)), ← r.long) (sym (get_or-append_seam r.components c [] none))
        go i b (inr (inl h)) =
            get_or-set_other slots count i c none (λ w. omega (arith, w)) ∙ r.slot i b ∙ sym (get_or-append r.components (c ∷ []) none i (omega (arith, r.long)))
        go i b (inr (inr h)) =
            let l : length (r.components ++ c ∷ []) ≤ i = rw length-append (omega (arith, r.long)) in
            get_or-set_other slots count i c none (λ w. omega (arith, w)) ∙ r.slot i b ∙ get_or-eq_default r.components none {n = i} (omega (arith, r.long)) ∙ sym (get_or-eq_default (r.components ++ c ∷ []) none {n = i} l)

    -- or in none, where there are no more
    pub read_past : 6 ≤ count → Read ps (count + 1) slots rest
    read_past k = more r.slots_long (λ i b. r.slot i b ∙ sym (get_or-append r.components (c ∷ []) none i (omega (arith, r.long))))

-- where no piece is left, the template is the one of the slots
module _ {ps : List (List ℕ)} {count : ℕ} {slots : List Component} (r : Read ps count slots []) where
  all_read : parse_pieces ps ≡ parsed r.components
  unfolding parse_rest
  all_read = r.all ∙ prefixed_all r.components

  pub template_read : parsed (with_slots Exact count (get_or slots 0 none) (get_or slots 1 none) (get_or slots 2 none) (get_or slots 3 none) (get_or slots 4 none) (get_or slots 5 none))
      ≡ parsed_by template_of (parse_pieces ps)
  unfolding template_of
  template_read = rw (all_read, r.slot 0 (omega arith), r.slot 1 (omega arith), r.slot 2 (omega arith), r.slot 3 (omega arith), r.slot 4 (omega arith), r.slot 5 (omega arith), ← r.long)
