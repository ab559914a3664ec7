-- WHAT THE PROGRAM PRINTS (specs/Program.antt), proved: a page and the text of what is left after it are the text of what was left before
-- it, and after as many pages as there is to print nothing is left.
use mathlib.Core.Path.{◌≡◌, refl, sym, ap, ◌∙◌}
use mathlib.Core.List.{List, ◌++◌, append_assoc, append-nil}
use Prim.Native.Nat.{ℕ, zero, suc, ◌≤◌}
use native.Mathlib.Nat.{zero-add}
use native.Mathlib.Omega.{arith}
use lib.ListN.{length, take}
use Rattle.rules.specs.Calls.{begin_rule}
use Rattle.rules.specs.Refusals.{first}
use Rattle.rules.specs.Relay.{whole_steps}
use Rattle.rules.specs.Sequences.{sequences}
use Rattle.rules.specs.Text.{text_checks, parse_template, parse_quorum, parse_letters, parse_lengths, print_search, print_rule}
use Rattle.rules.specs.Told.{Verdict, fine, refused, Told, gives, refuses}
use Rattle.rules.specs.Walk.{Walk, from, start, walk_of}
use Rattle.rules.specs.declared.Search.{Search}
use Rattle.rules.proofs.Begins.{Beginning, begins}
use Rattle.rules.proofs.Candidates.{start_first}
use Rattle.rules.proofs.Searches.{walk_lawful}
use Rattle.rules.proofs.Sound.{search_fine}
use Rattle.rules.proofs.StepsSoFar.{from_first, begun_steps_few}
use Rattle.motifs.specs.Input.{InputRule, input_told, input_rule}
use Rattle.motifs.specs.Left.{Left, refusal, rows, end, nothing, unprinted, opening}
use Rattle.motifs.specs.Pages.{print_rows, page_of, left_after, pages, left_at, text_left, Goes, Printable}
use Rattle.motifs.specs.Program.{pages_of, left_of, Program}
use Rattle.motifs.proofs.PagesLaid.{amount, page_then, ready_after, less_after}
use Rattle.motifs.proofs.InputRead.{declined, sound, fronts_are}

module _ (letters lengths : List ℕ) where
  -- the first n pages, and the text of what is left after them
  pages_then : (n : ℕ) (s : Left) → Printable letters lengths s → text_left letters lengths s ≡ pages letters lengths n s ++ text_left letters lengths (left_at letters lengths n s)
  unfolding pages left_at
  pages_then zero s g = refl
  pages_then (suc n) s g =
      page_then letters lengths s g
      ∙ ap (λ (t : List ℕ). page_of letters lengths s ++ t) (pages_then n (left_after letters lengths s) (ready_after letters lengths s g))
      ∙ sym (append_assoc (page_of letters lengths s) _ _)

  -- after as many pages as there is to print nothing is left
  nothing_left : (n : ℕ) (s : Left) → Printable letters lengths s → amount letters lengths s ≤ n → left_at letters lengths n s ≡ nothing
  unfolding left_at left_after
  nothing_left zero (refusal k p) g h = absurd (omega arith)
  nothing_left zero (rows w) g h = absurd (omega arith)
  nothing_left zero (end k r) g h = absurd (omega arith)
  nothing_left zero nothing g h = refl
  nothing_left (suc n) (refusal k p) g h = nothing_left n nothing tt (omega arith)
  nothing_left (suc n) (rows w) g h = nothing_left n (left_after letters lengths (rows w)) (ready_after letters lengths (rows w) g) (omega (arith, less_after letters lengths (rows w) g refl))
  nothing_left (suc n) (end k r) g h = nothing_left n nothing tt (omega arith)
  nothing_left (suc n) nothing g h = nothing_left n nothing tt (omega arith)

-- what an input that was not refused gave
record Opened (input : List ℕ) (s : Search) : Type 0 where
  pub fine : first (text_checks input) ≡ fine
  pub begun : begin_rule (parse_letters input) (parse_lengths input) (parse_template input) (parse_quorum input) ≡ gives s

opened : (input : List ℕ) (s : Search) → input_told input ≡ gives s → Opened input s
unfolding input_told
opened input s = go (first (text_checks input)) refl
  where
    go : (v : Verdict) → first (text_checks input) ≡ v → input_told input ≡ gives s → Opened input s
    go fine e h = record { fine = e; begun = rw e at h }
    go (refused n p) e h = let k : refuses n p ≡ gives s = rw e at h in let z : ◌≡◌ {A = ℕ} 0 1 = cc in absurd (omega arith)

-- a search that was begun can be gone on with,
begun_goes : (input : List ℕ) (s : Search) → input_told input ≡ gives s → Goes (parse_letters input) (parse_lengths input) (unprinted s)
begun_goes input s e =
    let letters = parse_letters input in let lengths = parse_lengths input in let t = parse_template input in let quorum = parse_quorum input in
    let o = (opened input s e).begun in
    let b : Beginning letters lengths t quorum s = begins letters lengths t quorum s o in
    let all : length (from (walk_of letters lengths s) s.place) ≡ whole_steps t quorum (sequences letters lengths) = rw (b.walk, b.at) (from_first t quorum (sequences letters lengths) b.template) in
    record { passes = search_fine letters lengths s b.sound; few = omega (arith, all, begun_steps_few letters lengths t quorum s o); fewer = omega arith }

-- and all of it is left to print
begun_printed : (input : List ℕ) (s : Search) → input_told input ≡ gives s → text_left (parse_letters input) (parse_lengths input) (rows (unprinted s)) ≡ print_rule input
unfolding text_left print_rule print_search print_rows
begun_printed input s e =
    let o = opened input s e in
    let b = begins (parse_letters input) (parse_lengths input) (parse_template input) (parse_quorum input) s o.begun in
    let W : Walk = walk_of (parse_letters input) (parse_lengths input) s in
    let at : start W ≡ s.place = start_first W (walk_lawful s.template s.quorum (sequences (parse_letters input) (parse_lengths input)) b.sound.template) ∙ sym b.at in
    rw (o.fine, o.begun, at, zero-add, zero-add)

refused_printed : (input : List ℕ) (n p : ℕ) → input_told input ≡ refuses n p → text_left (parse_letters input) (parse_lengths input) (refusal n p) ≡ print_rule input
unfolding text_left print_rule input_told
refused_printed input n p = go (first (text_checks input)) refl
  where
    go : (v : Verdict) → first (text_checks input) ≡ v → input_told input ≡ refuses n p → text_left (parse_letters input) (parse_lengths input) (refusal n p) ≡ print_rule input
    go fine e h = let k : begin_rule (parse_letters input) (parse_lengths input) (parse_template input) (parse_quorum input) ≡ refuses n p = rw e at h in rw (e, k)
    go (refused m q) e h = let k : refuses m q ≡ refuses n p = rw e at h in rw e (cc)

module _ (input : List ℕ) where
  -- what an input comes to can be gone on with,
  pub opening_ready : Printable (parse_letters input) (parse_lengths input) (opening (input_told input))
  opening_ready = go (input_told input) refl
    where
      go : (t : Told Search) → input_told input ≡ t → Printable (parse_letters input) (parse_lengths input) (opening t)
      go (gives s) e = begun_goes input s e
      go (refuses n p) e = tt

  -- and is the whole printout
  opening_text : text_left (parse_letters input) (parse_lengths input) (opening (input_told input)) ≡ print_rule input
  opening_text = go (input_told input) refl
    where
      go : (t : Told Search) → input_told input ≡ t → text_left (parse_letters input) (parse_lengths input) (opening t) ≡ print_rule input
      go (gives s) e = begun_printed input s e
      go (refuses n p) e = refused_printed input n p e

  front_of : (n : ℕ) → print_rule input ≡ pages_of input n ++ text_left (parse_letters input) (parse_lengths input) (left_of input n)
  front_of n = sym opening_text ∙ pages_then (parse_letters input) (parse_lengths input) n (opening (input_told input)) opening_ready

  -- once nothing is left all is printed
  all_of : (n : ℕ) → left_of input n ≡ nothing → pages_of input n ≡ print_rule input
  unfolding text_left
  all_of n e = sym (front_of n ∙ ap (λ s. pages_of input n ++ text_left (parse_letters input) (parse_lengths input) s) e ∙ append-nil (pages_of input n))

pub program : Program
program =
    record {
      whole = λ input.
          let s = opening (input_told input) in
          let n = amount (parse_letters input) (parse_lengths input) s in
          let e : left_of input n ≡ nothing = nothing_left (parse_letters input) (parse_lengths input) n s (opening_ready input) (omega arith) in
          (n, e, all_of input n e);
      front = front_of;
    }

-- WHAT WAS READ: the fronts of the tables are there, and what is left at first can be gone on with over them
module _ (input letters lengths : List ℕ) {n k : ℕ} {ls ns : List ℕ} (c : (n ≡ (input_rule input letters lengths).count) × (k ≡ (input_rule input letters lengths).sequences)) (a : ls ≡ (input_rule input letters lengths).letters) (d : ns ≡ (input_rule input letters lengths).lengths) where
  pub read_ready : {front rows : List ℕ} {b : Told Search} {s : Left} → front ≡ take n ls → rows ≡ take k ns → b ≡ (input_rule input letters lengths).told → s ≡ opening b → Printable front rows s
  unfolding input_told
  read_ready {front} {rows} {b} {s} p q t o = rw (p, q) (go (first (text_checks input)) refl)
    where
      go : (v : Verdict) → first (text_checks input) ≡ v → Printable (take n ls) (take k ns) s
      go fine e =
          let f = fronts_are input letters lengths e c a d in
          let told : b ≡ input_told input = t ∙ ap (λ (i : InputRule). i.told) (sound input letters lengths e) ∙ rw e in
          rw (f.letters_are, f.lengths_are, o, told) (opening_ready input)
      go (refused m p) e = rw (o, t, declined input letters lengths e) tt
