-- The text of one component of a template. Runs of N hold none of [ , and ], and neither does a number: so the text of a component
-- falls at its comma and its ] into the numbers and the run that it was made of, and a text that falls so is a component's.
use mathlib.Core.Path.{◌≡◌, refl, sym, ap}
use mathlib.Core.Logic.{◌↔◌}
use mathlib.Core.Bool.{Bool, true, false, false≢true}
use mathlib.Core.List.{List, [], ◌∷◌, ◌++◌, append-nil, append_assoc, Memᴰ}
use Prim.Native.Nat.{ℕ, suc, ◌^◌, ◌≤◌, ◌<◌}
use native.Mathlib.Omega.{arith}
use lib.ListN.{length, replicate, length-replicate}
use borrow.Author.Tests.{eqb-true}
use Rattle.rules.specs.Limits.{text_gap_digits}
use Rattle.rules.specs.Lists.{if, each, has_some}
use Rattle.rules.specs.Template.{component}
use Rattle.rules.specs.Text.{Parsed, parsed, malformed, pieces, is_run, ranged, parse_number, parse_ranged, parse_pair, parse_component, parse_first, decimal}
use Rattle.rules.specs.TextRefused.{Without, component_text}
use Rattle.rules.specs.declared.Component.{Component}
use Rattle.rules.proofs.All.{no_member, members, members_append, all_members, all_one, one_all}
use Rattle.rules.proofs.TextNumbers.{decimal_digits, parsed_is, no_value, number_parsed}
use Rattle.rules.proofs.TextPieces.{pieces_are}

-- ---- the text

-- what stands after the comma of a component
abbrev pub end_text : Component → List ℕ
end_text c = decimal c.high ++ 93 ∷ replicate c.length 78

-- its text is the lower limit, a comma and that
pub piece_is : (c : Component) → component_text c ≡ decimal c.low ++ 44 ∷ end_text c
piece_is c = append_assoc (decimal c.low) (44 ∷ decimal c.high) (93 ∷ replicate c.length 78)

-- ---- the bytes that it holds

-- a run holds N alone
pub run_bytes : (n b : ℕ) → Memᴰ b (replicate n 78) → b ≡ 78
run_bytes n b m = eqb-true b 78 ((all_members _ (replicate n 78)).0 (one_all 78 n) b m)

-- a comma lies below the digits, and what follows it holds neither a comma nor a [
pub end_bytes : (c : Component) (b : ℕ) → Memᴰ b (end_text c) → (48 ≤ b) × (b ≡ 91 → ⊥)
end_bytes c =
    members_append _ (decimal c.high) (93 ∷ replicate c.length 78)
    (λ b m. let d = decimal_digits c.high b m in (d.0, λ e. omega (arith, d.1, e)))
    (members _ (omega arith, λ e. omega (arith, e)) (λ b m. let e = run_bytes c.length b m in (omega (arith, e), λ f. omega (arith, e, f))))

-- the test of a run says that it is so many N, and at least one
run_says : (text : List ℕ) → (is_run text ≡ true) ↔ ((text ≡ replicate (length text) 78) × (1 ≤ length text))
unfolding is_run has_some
run_says [] = (λ e. absurd (false≢true e), λ h. absurd (omega (arith, h.1)))
run_says (x ∷ xs) = (
  λ e. (all_one 78 (x ∷ xs) e, omega arith),
  λ h. rw h.0 (one_all 78 (suc (length xs))),
)

-- ---- a component after the first

-- a component is what it is read as, if it has no allowance
unmixed_is : (c : Component) → c.allowance ≡ 0 → component c.length c.low c.high ≡ c
unmixed_is c e i = record { length = c.length; low = c.low; high = c.high; allowance = sym e i }

-- it has a letter and no allowance, and its limits have 1 to 3 digits
pub record Ranged (c : Component) : Type 0 where
  pub some : 1 ≤ c.length
  pub unmixed : c.allowance ≡ 0
  pub low : c.low < 10 ^ text_gap_digits
  pub high : c.high < 10 ^ text_gap_digits

-- a text falls into two pieces where the byte stands once
in_two : (b : ℕ) (text p q : List ℕ) → (pieces b text ≡ p ∷ q ∷ []) ↔ ((text ≡ p ++ b ∷ q) × Without b p × Without b q)
unfolding each
in_two b text p q =
    let r = pieces_are b text p (q ∷ []) in (
      λ e. let c = r.0 e in (rw append-nil at c.whole, c.none p (Memᴰ.head refl), c.none q (Memᴰ.tail (Memᴰ.head refl))),
      λ h. r.1 (record { whole = rw append-nil h.0; none = members (Without b) h.1 (members (Without b) h.2 (no_member (Without b))) }),
    )

module _ (c : Component) where
  -- the numbers and the run
  ranged_parsed : (l u text : List ℕ) → (ranged (parse_number text_gap_digits l) (parse_number text_gap_digits u) text ≡ parsed c)
      ↔ ((l ≡ decimal c.low) × (u ≡ decimal c.high) × (text ≡ replicate c.length 78) × Ranged c)
  ranged_parsed l u text = (λ e. out (parse_number text_gap_digits l) (parse_number text_gap_digits u) refl refl e, back)
    where
      Says : Component → Type 0
      Says c = (l ≡ decimal c.low) × (u ≡ decimal c.high) × (text ≡ replicate c.length 78) × Ranged c

      run : (low high : ℕ) → parse_number text_gap_digits l ≡ parsed low → parse_number text_gap_digits u ≡ parsed high
          → (z : Bool) → is_run text ≡ z → if z (parsed (component (length text) low high)) malformed ≡ parsed c → Says c
      run low high p q true z e =
          let a = (number_parsed text_gap_digits l low (omega arith) (omega arith)).0 p in
          let b = (number_parsed text_gap_digits u high (omega arith) (omega arith)).0 q in
          let n = (run_says text).0 z in
          rw (← parsed_is e) (a.0, b.0, n.0, record { some = n.1; unmixed = refl; low = a.1; high = b.1 })
      run low high p q false z e = no_value e

      out : (x y : Parsed ℕ) → parse_number text_gap_digits l ≡ x → parse_number text_gap_digits u ≡ y → ranged x y text ≡ parsed c → Says c
      out (parsed low) (parsed high) p q e = run low high p q (is_run text) refl e
      out (parsed low) malformed p q e = no_value e
      out malformed y p q e = no_value e

      back : Says c → ranged (parse_number text_gap_digits l) (parse_number text_gap_digits u) text ≡ parsed c
      back h =
          let n : length text ≡ c.length = rw h.2 (length-replicate c.length 78) in
          let r : is_run text ≡ true = (run_says text).1 (rw n h.2, rw n h.3.some) in
          rw ((number_parsed text_gap_digits l c.low (omega arith) (omega arith)).1 (h.0, h.3.low), (number_parsed text_gap_digits u c.high (omega arith) (omega arith)).1 (h.1, h.3.high), r, n) (ap parsed (unmixed_is c h.3.unmixed))

  -- at its comma and its ] the text falls into these three
  two_parts : pieces 44 (component_text c) ≡ decimal c.low ∷ end_text c ∷ []
  two_parts = (in_two 44 (component_text c) (decimal c.low) (end_text c)).1 (
    piece_is c,
    λ m. omega (arith, (decimal_digits c.low 44 m).0),
    λ m. omega (arith, (end_bytes c 44 m).0),
  )

  end_parts : pieces 93 (end_text c) ≡ decimal c.high ∷ replicate c.length 78 ∷ []
  end_parts = (in_two 93 (end_text c) (decimal c.high) (replicate c.length 78)).1 (
    refl,
    λ m. omega (arith, (decimal_digits c.high 93 m).1),
    λ m. omega (arith, run_bytes c.length 93 m),
  )

  -- a text is parsed as a component exactly if it is that component's
  pub component_parsed : (text : List ℕ) → (parse_component text ≡ parsed c) ↔ ((text ≡ component_text c) × Ranged c)
  unfolding parse_component
  component_parsed text = (λ e. at_comma (pieces 44 text) refl e, back)
    where
      at_end : (l rest : List ℕ) (qs : List (List ℕ)) → pieces 93 rest ≡ qs → parse_ranged l qs ≡ parsed c → (l ++ 44 ∷ rest ≡ component_text c) × Ranged c
      at_end l rest [] p e = no_value e
      at_end l rest (u ∷ []) p e = no_value e
      at_end l rest (u ∷ ns ∷ []) p e =
          let h = (ranged_parsed l u ns).0 e in
          (rw (((in_two 93 rest u ns).0 p).0, h.0, h.1, h.2) (sym (piece_is c)), h.3)
      at_end l rest (u ∷ ns ∷ more ∷ others) p e = no_value e

      at_comma : (ps : List (List ℕ)) → pieces 44 text ≡ ps → parse_pair ps ≡ parsed c → (text ≡ component_text c) × Ranged c
      at_comma [] p e = no_value e
      at_comma (l ∷ []) p e = no_value e
      at_comma (l ∷ rest ∷ []) p e = rw ((in_two 44 text l rest).0 p).0 (at_end l rest (pieces 93 rest) refl e)
      at_comma (l ∷ rest ∷ more ∷ others) p e = no_value e

      back : (text ≡ component_text c) × Ranged c → parse_pair (pieces 44 text) ≡ parsed c
      back h = rw (h.0, two_parts, end_parts) ((ranged_parsed _ _ _).1 (refl, refl, refl, h.1))

-- ---- the first component

-- the first has a run, no allowance and no range
pub record Plain (c : Component) : Type 0 where
  pub some : 1 ≤ c.length
  pub unmixed : c.allowance ≡ 0
  pub low : c.low ≡ 0
  pub high : c.high ≡ 0

plain_is : (c : Component) → Plain c → component c.length 0 0 ≡ c
plain_is c p i = record { length = c.length; low = sym p.low i; high = sym p.high i; allowance = sym p.unmixed i }

-- it is parsed as a component exactly if it is that run
pub first_parsed : (text : List ℕ) (c : Component) → (parse_first text ≡ parsed c) ↔ ((text ≡ replicate c.length 78) × Plain c)
unfolding parse_first
first_parsed text c = (λ e. out (is_run text) refl e, back)
  where
    out : (z : Bool) → is_run text ≡ z → if z (parsed (component (length text) 0 0)) malformed ≡ parsed c → (text ≡ replicate c.length 78) × Plain c
    out true z e = let n = (run_says text).0 z in rw (← parsed_is e) (n.0, record { some = n.1; unmixed = refl; low = refl; high = refl })
    out false z e = no_value e

    back : (text ≡ replicate c.length 78) × Plain c → if (is_run text) (parsed (component (length text) 0 0)) malformed ≡ parsed c
    back h =
        let n : length text ≡ c.length = rw h.0 (length-replicate c.length 78) in
        rw ((run_says text).1 (rw n h.0, rw n h.1.some), n) (ap parsed (plain_is c h.1))
