-- One record more. Where the reader hands out a record, its line goes behind those before it and what is printed from there is what
-- was to be printed; where it hands out none, the lines so far are all; and where it refuses, that is the printout. The reader never
-- finds that there is no room: a file is longer than its records, so the lines so far and those to come are no longer than the file.
use Rattle.std.specs.Prelude.{Option, None, Some, Result, Ok, Err, IsErr, IsErrAnd, IfErr}
use mathlib.Core.Path.{◌≡◌, refl, sym, ap, subst, ◌∙◌}
use mathlib.Core.Bool.{false}
use mathlib.Core.List.{List, [], ◌∷◌, ◌++◌, map, append-nil, append_assoc}
use Prim.Native.Nat.{ℕ, suc, ◌+◌, ◌≤◌, ◌<◌}
use native.Mathlib.Numerals.{add-one}
use native.Mathlib.Omega.{arith}
use lib.Dec.{leb, ltb}
use lib.ListN.{length, take, drop, set, length-append}
use lib.Seq.{length-take-le, take_at, take-suc-set}
use borrow.Author.Tests.{le-ltb, lt-ltb, lt-leb}
use Rattle.rules.specs.Calls.{on_refusal}
use Rattle.rules.specs.Fasta.{Line, lines_from, Entry, letters_of, size_of, records_from, file_records, check19, check20, check4_file, next_checks, reader_checks, ReaderRule, cursor_after, stays, hands_out, reader_rule, lines_checks, lines_for, lines_rule}
use Rattle.rules.specs.Limits.{fasta_bytes, fasta_length}
use Rattle.rules.specs.Lists.{each, put, put_at}
use Rattle.rules.specs.Refusals.{◌else◌, first}
use Rattle.rules.specs.Text.{print_refused}
use Rattle.rules.specs.TextRefused.{with_end}
use Rattle.rules.specs.Told.{Verdict, fine, refused, Told, gives, refuses, Handing, entry, no_entry, file_refusal_number, file_refusal_place, told_handed}
use Rattle.rules.specs.declared.FastaRecord.{FastaRecord}
use Rattle.rules.specs.declared.FileRefusal.{FileRefusal}
use Rattle.rules.proofs.FastaFits.{records_fit}
use Rattle.rules.proofs.FastaLines.{left_next}
use Rattle.rules.proofs.Tables.{put_front, put_at_long}
use Rattle.text.specs.Printed as Printed
use Rattle.lines.specs.Printing.{rest_rule, Here}

-- ---- the buffer

-- a line behind others: text written behind the first n bytes, and a byte 10 behind it
line_behind : (n : ℕ) (text out : List ℕ) → n + length text < length out
    → take (suc (n + length text)) (set (put_at n text out) (n + length text) 10) ≡ take n out ++ with_end text
unfolding put_at put
line_behind n text out h =
    let rest = drop (length text) (drop n out) in
    let a : length (take n out ++ text) ≡ n + length text = omega (arith, length-append (take n out) text, length-take-le n out (omega arith)) in
    take-suc-set (put_at n text out) (n + length text) 10 (rw (put_at_long n text out (omega arith)) h)
    ∙ ap (λ l. take (n + length text) l ++ 10 ∷ []) (sym (append_assoc (take n out) text rest))
    ∙ ap (λ l. l ++ 10 ∷ []) (take_at (take n out ++ text) rest (n + length text) a)
    ∙ append_assoc (take n out) text (10 ∷ [])

-- ---- at first

-- the lines of some records are their letters and a byte 10 for each
lines_long : (es : List Entry) → length (lines_for es) ≡ length (each letters_of es) + length es
unfolding lines_for each
lines_long [] = refl
lines_long (e ∷ es) =
    omega (arith, length-append (with_end (letters_of e)) (lines_for es), length-append (letters_of e) (10 ∷ []), length-append (letters_of e) (each letters_of es), lines_long es)

-- before the first record nothing stands there, and all is to be printed
pub at_first : (file out : List ℕ) → length file ≤ fasta_bytes → Here file out 0 0
unfolding rest_rule lines_for lines_rule lines_checks file_records first ◌else◌
at_first file out h =
    record { short = omega (arith, lines_long (records_from file 0), records_fit file); whole = rw (le-ltb fasta_bytes (length file) h) }

-- a file that cannot be held
pub too_long : (file : List ℕ) → fasta_bytes < length file → print_refused 20 0 ≡ lines_rule file
unfolding lines_rule lines_checks first ◌else◌
too_long file h = rw (lt-ltb fasta_bytes (length file) h)

-- ---- the printout

-- a text stands at the front of a buffer, so many bytes of it
abbrev pub Stands : List ℕ → List ℕ → ℕ → Type 0
Stands text out n = (take n out ≡ text) × (n ≡ length text)

-- all lines
pub all_printed : {text : List ℕ} (out : List ℕ) {n : ℕ} → n ≤ length out → take n out ≡ text → Stands text out n
all_printed out {n} h e = (e, sym (length-take-le n out h) ∙ ap length e)

-- a refusal
pub refused_printed : {line text before out : List ℕ} {n : ℕ} → line ≡ text → Printed.WroteLine line before out n → Stands text out n
refused_printed {line} {before = before} {n = n} e l = (ap (take n) l.out ∙ put_front n line before (sym l.end) ∙ e, l.end ∙ ap length e)

-- ---- one turn

-- what a record of so many letters leaves: room for the byte 10 behind them, and once that is there, a line more and a record fewer
abbrev pub Record : List ℕ → ℕ → ℕ → ℕ → ℕ → List ℕ → Type 0
Record file at used size next letters = (used + size < length letters) × (length (records_from file next) < length (records_from file at)) × Here file (set letters (used + size) 10) (used + size + 1) next

-- what a call leaves, by what it tells: where the reader is then, and what the buffer holds
abbrev pub After : List ℕ → ℕ → ℕ → Told Handing → ℕ → List ℕ → Type 0
After file at used (refuses n p) next letters = print_refused n p ≡ lines_rule file
After file at used (gives no_entry) next letters = take used letters ≡ lines_rule file
After file at used (gives (entry start end size)) next letters = Record file at used size next letters

module _ (file : List ℕ) (at used : ℕ) (out row : List ℕ) (small : length file ≤ fasta_bytes) (room : fasta_bytes ≤ length out) (one : length row ≡ 1) (here : Here file out used at) where
  abbrev ls : List Line
  ls = lines_from file at

  -- the line of the next record and those after it are no longer than the file, behind the lines so far
  shorter : {e : Entry} {es : List Entry} → records_from file at ≡ e ∷ es → used + size_of e + 1 + length (lines_for es) ≤ length file
  unfolding lines_for each
  shorter {e} {es} q =
      let h : used + length (lines_for (e ∷ es)) ≤ length file = rw q at here.short in
      omega (arith, h, length-append (with_end (letters_of e)) (lines_for es), length-append (letters_of e) (10 ∷ []))

  -- so there is room for it
  never_full : {e : Entry} {es : List Entry} → records_from file at ≡ e ∷ es → check20 out used row 0 e ≡ fine
  unfolding check20
  never_full {e} {es} q =
      let h = shorter q in
      let a : ltb (length out) (used + size_of e) ≡ false = le-ltb (length out) (used + size_of e) (omega (arith, h)) in
      let b : leb (length row) 0 ≡ false = lt-leb (length row) 0 (omega (arith, one)) in
      let c : ltb fasta_length (size_of e) ≡ false = le-ltb fasta_length (size_of e) (omega (arith, h)) in
      rw (a, b, c)

  -- what comes of the call, and what is to be printed, by what the checks find
  abbrev outcome : Verdict → List Entry → ReaderRule
  outcome v es = on_refusal v (λ n p. stays file at out used row 0 (refuses n p)) (hands_out file at out used row 0 es)

  abbrev rule : Verdict → List Entry → ReaderRule
  rule v es = outcome (first (v ∷ next_checks out used row 0 es)) es

  abbrev printed : Verdict → List Entry → List ℕ → List ℕ
  printed v es before = on_refusal (first (v ∷ map check4_file es)) print_refused (before ++ lines_for es)

  -- behind a record that passes, what is printed is what was to be printed
  passed : {e : Entry} {es : List Entry} → check19 ls ≡ fine → records_from file at ≡ e ∷ es → check4_file e ≡ fine
      → rest_rule file (cursor_after file es) (take used out ++ with_end (letters_of e)) ≡ rest_rule file at (take used out)
  unfolding rest_rule lines_for first ◌else◌ each check19
  passed {e} {es} a q b =
      let l = left_next file at q in
      rw (a, q, b, l.records, l.no_text) (ap (λ t. on_refusal (first (map check4_file es)) print_refused t) (append_assoc (take used out) (with_end (letters_of e)) _))

  whole : {v : Verdict} {es : List Entry} → check19 ls ≡ v → records_from file at ≡ es → printed v es (take used out) ≡ lines_rule file
  unfolding rest_rule
  whole a q = rw (a, q) at here.whole

  abbrev AfterRule : ReaderRule → Type 0
  AfterRule r = After file at used r.told r.at r.letters

  after_rule : (v : Verdict) → check19 ls ≡ v → (es : List Entry) → records_from file at ≡ es → AfterRule (rule v es)
  unfolding lines_for first ◌else◌ each
  after_rule (refused n p) a es q = whole a q
  after_rule fine a [] q = sym (append-nil (take used out)) ∙ whole a q
  after_rule fine a (e ∷ es) q = rw (never_full q) (go (check4_file e) refl)
    where
      go : (w : Verdict) → check4_file e ≡ w → AfterRule (outcome (first (w ∷ [])) (e ∷ es))
      go (refused n p) b = rw b at (whole a q)
      go fine b =
          let h = shorter q in
          let l = left_next file at q in (
            omega (arith, h, put_at_long used (letters_of e) out (omega (arith, h))),
            rw (l.records, q) (omega arith),
            record {
              short = rw l.records h;
              whole = rw (add-one (used + size_of e), line_behind used (letters_of e) out (omega (arith, h))) (passed a q b ∙ here.whole);
            },
          )

  after_call : AfterRule (reader_rule file at out used row 0)
  unfolding reader_rule reader_checks
  after_call = after_rule (check19 ls) refl (records_from file at) refl

-- ---- the reader's calls, one after another

-- the reader is over the file, which can be held, and there is room for it; the lines so far stand
pub record Reading (file lent out : List ℕ) (used at : ℕ) : Type 0 where
  pub over : lent ≡ file
  pub small : length file ≤ fasta_bytes
  pub room : fasta_bytes ≤ length out
  pub here : Here file out used at

module _ {file lent out : List ℕ} {used at : ℕ} (d : Reading file lent out used at) (row : List ℕ) (one : length row ≡ 1) {told : Told Handing} {next : ℕ} {letters : List ℕ}
    (t : told ≡ (reader_rule lent at out used row 0).told) (n : next ≡ (reader_rule lent at out used row 0).at) (l : letters ≡ (reader_rule lent at out used row 0).letters) where
  -- by what the call told
  handed : After file at used told next letters
  handed = rw (t, n, l, d.over) (after_call file at used out row d.small d.room one d.here)

  pub handed_record : {o : Option FastaRecord} {r : FastaRecord} → told ≡ told_handed (Ok o) → o ≡ Some r → Record file at used r.letters next letters
  handed_record e i = rw (e, i) at handed

  pub handed_refusal : (r : FileRefusal) → told ≡ told_handed (Err r) → print_refused (file_refusal_number r) (file_refusal_place r) ≡ lines_rule file
  handed_refusal r e = rw e at handed

  pub handed_none : {o : Option FastaRecord} → told ≡ told_handed (Ok o) → o ≡ None → take used letters ≡ lines_rule file
  handed_none e i = rw (e, i) at handed

-- a refusal is handed on
pub refused_on : {A E : Type 0} (P : E → Type 0) (q : Result A E) (r : E) → IsErr q × IsErrAnd q (λ s. s ≡ r) → P r → IfErr q P
refused_on P (Ok a) r h p = absurd h.1
refused_on P (Err s) r h p = subst P (sym h.1) p

-- the lines so far are no longer than the buffer, before the call and after it
pub lines_fit : {file lent out : List ℕ} {used at : ℕ} (letters : List ℕ) → Reading file lent out used at → length letters ≡ length out → used ≤ length letters
lines_fit letters d e = omega (arith, d.here.short, d.small, d.room, e)
