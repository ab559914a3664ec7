-- A template's text: the texts of its components, of which none holds a [, with a [ between. So it falls there into the texts that it
-- was made of, and a line that falls so is that text. It tells no allowance, and none is read from it.
use mathlib.Core.Path.{◌≡◌, refl, sym, ap, ◌∙◌}
use mathlib.Core.Logic.Iff
use mathlib.Core.Logic.{◌↔◌}
use mathlib.Core.Bool.{true}
use mathlib.Core.List.Memᴰ
use mathlib.Core.List.{List, [], ◌∷◌, ◌++◌, map, Memᴰ}
use Prim.Native.Nat.{ℕ, ◌+◌, ◌≤◌}
use native.Mathlib.Omega.{arith}
use lib.ListN.{length, take, drop, get_or, replicate, length-append, length-replicate, length-map, get_or-map, replicate-append-replicate}
use lib.Seq.{take_at, drop_at}
use Rattle.rules.specs.Calls.{begin_rule}
use Rattle.rules.specs.Lists.{each, sum}
use Rattle.rules.specs.Template.{allowing, none, trimmed}
use Rattle.rules.specs.Text.{Parsed, parsed, malformed, is_well_formed, pieces, parse_component, parse_first, cons, parse_rest, parse_pieces, parse_components, template_of, decimal, shape_rest, shape, template_text}
use Rattle.rules.specs.TextRefused.{Without, component_text, Writable, Unmixed, TemplateText}
use Rattle.rules.specs.declared.Component.{Component}
use Rattle.rules.proofs.All.{no_member, members, members_append}
use Rattle.rules.proofs.Members.{each_out}
use Rattle.rules.proofs.Tests.{fails}
use Rattle.rules.proofs.TextNumbers.{decimal_digits, parsed_is, no_value, malformed_fails, well_parsed}
use Rattle.rules.proofs.TextPieces.{pieces_are}
use Rattle.rules.proofs.Trimmed.{begin_trimmed}
use Rattle.rules.proofs.TextComponents.{piece_is, end_text, run_bytes, end_bytes, Ranged, component_parsed, Plain, first_parsed}

-- ---- the text, component by component

-- the first n of n + m times b, and the others
front : (b n m : ℕ) → take n (replicate (n + m) b) ≡ replicate n b
front b n m = rw (← replicate-append-replicate n m b) (take_at (replicate n b) (replicate m b) n (length-replicate n b))

others : (b n m : ℕ) → drop n (replicate (n + m) b) ≡ replicate m b
others b n m = rw (← replicate-append-replicate n m b) (drop_at (replicate n b) (replicate m b) n (length-replicate n b))

-- each component after the first is a [ and its text
rest_text : (cs : List Component) → shape_rest cs (replicate (sum (map (λ c. c.length) cs)) 78) ≡ each (λ p. 91 ∷ p) (map component_text cs)
unfolding shape_rest each sum
rest_text [] = refl
rest_text (c ∷ cs) = rw (front, others, rest_text cs)

-- and before them stands the first, a run
pub first_text : (c : Component) (cs : List Component) → template_text (c ∷ cs) ≡ replicate c.length 78 ++ each (λ p. 91 ∷ p) (map component_text cs)
unfolding template_text shape sum
first_text c cs = rw (front, others, rest_text cs)

-- ---- the bytes that it holds

-- nor does a component's text hold a [
piece_bytes : (c : Component) (b : ℕ) → Memᴰ b (component_text c) → (44 ≤ b) × (b ≡ 91 → ⊥)
piece_bytes c =
    rw (piece_is c) (members_append _ (decimal c.low) (44 ∷ end_text c)
    (λ b m. let d = decimal_digits c.low b m in (omega (arith, d.0), λ e. omega (arith, d.1, e)))
    (members _ (omega arith, λ e. omega (arith, e)) (λ b m. let d = end_bytes c b m in (omega (arith, d.0), d.1))))

pieces_bytes : (cs : List Component) (p : List ℕ) → Memᴰ p (map component_text cs) → (b : ℕ) → Memᴰ b p → (44 ≤ b) × (b ≡ 91 → ⊥)
pieces_bytes cs p m = let r = Memᴰ.of_map component_text cs m in rw (← r.2) (piece_bytes r.0)

-- all bytes of a template's text lie above a line's end
pub template_bytes : (cs : List Component) (b : ℕ) → Memᴰ b (template_text cs) → 44 ≤ b
unfolding template_text shape
template_bytes [] = no_member (λ b. 44 ≤ b)
template_bytes (c ∷ cs) =
    rw (first_text c cs) (members_append _ (replicate c.length 78) (each (λ p. 91 ∷ p) (map component_text cs))
    (λ b m. omega (arith, run_bytes c.length b m))
    (λ b m. let r = each_out (λ p. 91 ∷ p) (map component_text cs) m in members (λ b. 44 ≤ b) (omega arith) (λ b m. (pieces_bytes cs r.0 r.1 b m).0) b r.2))

-- ---- all of them

-- a list is parsed exactly if its first and its others are
cons_parsed : {A : Type 0} (x : Parsed A) (xs : Parsed (List A)) (y : A) (ys : List A) → (cons x xs ≡ parsed (y ∷ ys)) ↔ ((x ≡ parsed y) × (xs ≡ parsed ys))
cons_parsed (parsed x) (parsed xs) y ys = (λ e. (cc, cc), λ h. cc)
cons_parsed (parsed x) malformed y ys = (λ e. no_value e, λ h. no_value h.1)
cons_parsed malformed xs y ys = (λ e. no_value e, λ h. no_value h.0)

-- and so is not empty
cons_some : {A B : Type 0} (x : Parsed A) (xs : Parsed (List A)) → cons x xs ≡ parsed [] → B
cons_some (parsed x) (parsed xs) e = let z : ◌≡◌ {A = ℕ} 0 1 = cc in absurd (omega arith)
cons_some (parsed x) malformed e = no_value e
cons_some malformed xs e = no_value e

-- a list with a first is not empty
not_empty : {A B : Type 0} {x : A} {xs : List A} → x ∷ xs ≡ [] → B
not_empty e = let z : ◌≡◌ {A = ℕ} 0 1 = cc in absurd (omega arith)

-- the pieces are parsed as some components exactly if they are theirs
rest_parsed : (ps : List (List ℕ)) (cs : List Component) → (parse_rest ps ≡ parsed cs) ↔ ((ps ≡ map component_text cs) × ((c : Component) → Memᴰ c cs → Ranged c))
unfolding parse_rest
rest_parsed [] [] = (λ e. (refl, no_member Ranged), λ h. refl)
rest_parsed [] (c ∷ cs) = (λ e. not_empty (sym (parsed_is e)), λ h. not_empty (sym h.0))
rest_parsed (p ∷ ps) [] = (cons_some (parse_component p) (parse_rest ps), λ h. not_empty h.0)
rest_parsed (p ∷ ps) (c ∷ cs) =
    let r = cons_parsed (parse_component p) (parse_rest ps) c cs in
    let q = component_parsed c p in
    let qs = rest_parsed ps cs in (
      λ e. let h = q.0 (r.0 e).0 in let k = qs.0 (r.0 e).1 in (rw (h.0, k.0), members Ranged h.1 k.1),
      λ h. r.1 (q.1 (cc, h.1 c (Memᴰ.head refl)), qs.1 (cc, λ d m. h.1 d (Memᴰ.tail m))),
    )

-- a line is parsed as some components exactly if it is their text and tells all of them
pub template_parsed : (line : List ℕ) (cs : List Component) → (parse_components line ≡ parsed cs) ↔ ((line ≡ template_text cs) × Writable cs × Unmixed cs)
unfolding parse_components
template_parsed line cs = (λ e. out cs (pieces 91 line) refl e, back cs)
  where
    writable : (c : Component) (ds : List Component) → Plain c → ((d : Component) → Memᴰ d ds → Ranged d) → Writable (c ∷ ds)
    writable c ds p h = record {
      some = omega arith;
      runs = members (λ (d : Component). 1 ≤ d.length) p.some (λ d m. (h d m).some);
      no_range = (p.low, p.high);
      ranges = λ d m. ((h d m).low, (h d m).high);
    }

    out : (cs : List Component) (ps : List (List ℕ)) → pieces 91 line ≡ ps → parse_pieces ps ≡ parsed cs → (line ≡ template_text cs) × Writable cs × Unmixed cs
    out cs [] p e = no_value e
    out [] (q ∷ qs) p e = cons_some (parse_first q) (parse_rest qs) e
    out (c ∷ ds) (q ∷ qs) p e =
        let r = (cons_parsed (parse_first q) (parse_rest qs) c ds).0 e in
        let f = (first_parsed q c).0 r.0 in
        let k = (rest_parsed qs ds).0 r.1 in (
          ((pieces_are 91 line q qs).0 p).whole ∙ rw (f.0, k.0) (sym (first_text c ds)),
          writable c ds f.1 k.1,
          members (λ (d : Component). d.allowance ≡ 0) f.1.unmixed (λ d m. (k.1 d m).unmixed),
        )

    back : (cs : List Component) → (line ≡ template_text cs) × Writable cs × Unmixed cs → parse_pieces (pieces 91 line) ≡ parsed cs
    back [] h = absurd (omega (arith, h.1.some))
    back (c ∷ ds) h =
        let w = h.1 in
        let none = h.2 in
        let p = (pieces_are 91 line (replicate c.length 78) (map component_text ds)).1
        (record { whole = h.0 ∙ first_text c ds; none = members (Without 91) (λ m. omega (arith, run_bytes c.length 91 m)) (λ p m n. (pieces_bytes ds p m 91 n).1 refl) }) in
        rw p ((cons_parsed (parse_first (replicate c.length 78)) (parse_rest (map component_text ds)) c ds).1 (
          (first_parsed (replicate c.length 78) c).1 (refl, record { some = w.runs c (Memᴰ.head refl); unmixed = none c (Memᴰ.head refl); low = w.no_range.0; high = w.no_range.1 }),
          (rest_parsed (map component_text ds) ds).1 (refl, λ d m. record { some = w.runs d (Memᴰ.tail m); unmixed = none d (Memᴰ.tail m); low = (w.ranges d m).0; high = (w.ranges d m).1 }),
        ))

-- ---- components that have allowances

-- one without its own has the same text
abbrev pub unmixed : Component → Component
unmixed c = allowing 0 c

unmixed_text : (cs : List Component) → template_text (map unmixed cs) ≡ template_text cs
unmixed_text [] = refl
unmixed_text (c ∷ cs) = first_text (unmixed c) (map unmixed cs) ∙ ap (λ ps. replicate c.length 78 ++ each (λ p. 91 ∷ p) ps) (texts cs) ∙ sym (first_text c cs)
  where
    texts : (cs : List Component) → map component_text (map unmixed cs) ≡ map component_text cs
    texts [] = refl
    texts (c ∷ cs) = ap (λ ps. component_text c ∷ ps) (texts cs)

-- so a text is read as the components that it was made of, without their allowances
pub template_read : (cs : List Component) → Writable cs → parse_components (template_text cs) ≡ parsed (map unmixed cs)
template_read cs w = (template_parsed (template_text cs) (map unmixed cs)).1 (sym (unmixed_text cs), go cs w, λ d m. let r = Memᴰ.of_map unmixed cs m in rw (← r.2))
  where
    go : (cs : List Component) → Writable cs → Writable (map unmixed cs)
    go [] w = w
    go (c ∷ cs) w = record {
      some = omega arith;
      runs = λ d m. let r = Memᴰ.of_map unmixed (c ∷ cs) m in rw (← r.2) (w.runs r.0 r.1);
      no_range = w.no_range;
      ranges = λ d m. let r = Memᴰ.of_map unmixed cs m in rw (← r.2) (w.ranges r.0 r.1);
    }

-- and a search with either template begins alike, since it is exact
trimmed_unmixed : (cs : List Component) → trimmed (template_of (map unmixed cs)) ≡ trimmed (template_of cs)
unfolding trimmed template_of
trimmed_unmixed cs = rw (length-map cs unmixed, slot 0, slot 1, slot 2, slot 3, slot 4, slot 5)
  where
    slot : (i : ℕ) → get_or (map unmixed cs) i none ≡ unmixed (get_or cs i none)
    slot i = get_or-map unmixed cs i none

pub begin_unmixed : (letters lengths : List ℕ) (quorum : ℕ) (cs : List Component)
    → begin_rule letters lengths (template_of (map unmixed cs)) quorum ≡ begin_rule letters lengths (template_of cs) quorum
begin_unmixed letters lengths quorum cs =
    sym (begin_trimmed letters lengths (template_of (map unmixed cs)) quorum) ∙ ap (λ t. begin_rule letters lengths t quorum) (trimmed_unmixed cs)
    ∙ begin_trimmed letters lengths (template_of cs) quorum

module _ (line : List ℕ) where
  -- a line is well formed exactly if it is a template's text, and else malformed
  pub template_well : (is_well_formed (parse_components line) ≡ true) ↔ TemplateText line
  template_well = Iff.trans (well_parsed (parse_components line)) (
    λ h. let k = (template_parsed line h.0).0 h.1 in (h.0, k.0, k.1),
    λ h. (map unmixed h.0, rw h.1 (template_read h.0 h.2)),
  )

  pub template_malformed : (parse_components line ≡ malformed) ↔ (TemplateText line → ⊥)
  template_malformed = Iff.trans (malformed_fails (parse_components line)) (fails _ template_well)

-- an empty line is no template's text
pub template_some : TemplateText [] → ⊥
template_some h = none h.0 h.1 h.2
  where
    none : (cs : List Component) → [] ≡ template_text cs → Writable cs → ⊥
    none [] e w = omega (arith, w.some)
    none (c ∷ cs) e w = omega (arith, w.runs c (Memᴰ.head refl), ap length (e ∙ first_text c cs), length-append (replicate c.length 78) (each (λ p. 91 ∷ p) (map component_text cs)), length-replicate {A = ℕ} c.length 78)
