-- WHAT A FASTA FILE IS MADE OF: files as they are written (specs/FastaWritten.antt) are read back, every file is written so, and lines
-- and names are parts of it. Of the texts of a file's lines those that begin with > begin the records, and no others do; so the texts
-- from one such to the next are a record's, and joining what it was cut into gives its letters.
use mathlib.Core.Path.{◌≡◌, refl, sym, ap, ◌∙◌}
use mathlib.Core.Logic.{◌↔◌, ◌⊎◌, inl, inr}
use mathlib.Core.Bool.{Bool, true, false}
use mathlib.Core.List.{List, [], ◌∷◌, ◌++◌, map, append-nil, append_assoc, Memᴰ}
use Prim.Native.Nat.{ℕ, zero, suc}
use native.Mathlib.Omega.{arith}
use lib.Dec.{eqb}
use lib.ListN.{length, get_or, replicate}
use borrow.Author.Tests.{eq-eqb, ne_eqb, eqb-true, eqb-false}
use Rattle.rules.specs.Fasta.{Line, line, lines_of, is_text, lines_from, is_header, up_to_header, entries, is_space_or_tab, up_to_blank, name_of, texts, letters_of, file_records, has_text_first}
use Rattle.rules.specs.FastaWritten.{WrittenRecord, record_texts, ProperRecord, InWrittenRecords, FastaWritten}
use Rattle.rules.specs.Lists.{if, each, joined, keep, has_some}
use Rattle.rules.specs.Text.{pieces}
use Rattle.rules.proofs.All.{no_member, members}
use Rattle.rules.proofs.EachCheck.{same}
use Rattle.rules.proofs.FastaBytes.{name_part, text_says}
use Rattle.rules.proofs.FastaLaid.{laid, laid_line}
use Rattle.rules.proofs.Tests.{either, denied, not_false}
use Rattle.rules.proofs.WrittenLines.{lines_placed, lines_are, file_written}

-- ---- records read back

abbrev texts_in : List Line → List (List ℕ)
texts_in ls = map (λ l. l.text) ls

-- a text that begins no record
abbrev Unmarked : List ℕ → Type 0
Unmarked text = get_or text 0 0 ≡ 62 → ⊥

-- lines that begin no record, before others: their texts are the front of the letters, and the records are the others'
parts_read : (parts rest : List (List ℕ)) (ls : List Line) → texts_in ls ≡ parts ++ rest → ((t : List ℕ) → Memᴰ t parts → Unmarked t)
    → (others : List Line) × (texts_in others ≡ rest) × (texts (up_to_header (keep is_text ls)) ≡ joined parts ++ texts (up_to_header (keep is_text others))) × (entries (keep is_text ls) ≡ entries (keep is_text others))
unfolding keep joined up_to_header entries texts each has_some is_header
parts_read [] rest ls e u = (ls, e, refl, refl)
parts_read (t ∷ parts) rest [] e u = let z : ◌≡◌ {A = ℕ} 0 1 = cc in absurd (omega arith)
parts_read (t ∷ parts) rest (l ∷ ls) e u =
    let h : l.text ≡ t = cc in
    let g : texts_in ls ≡ parts ++ rest = cc in
    let (others, a, b, c) = parts_read parts rest ls g (λ s m. u s (Memᴰ.tail m)) in
    let r = one l.text (rw h (u t (Memᴰ.head refl))) in
    (others, a, r.0 ∙ ap (λ (x : List ℕ). l.text ++ x) b ∙ sym (append_assoc l.text (joined parts) _) ∙ ap (λ (x : List ℕ). (x ++ joined parts) ++ texts (up_to_header (keep is_text others))) h, r.1 ∙ c)
  where
    one : (text : List ℕ) → Unmarked text → let ks = keep is_text ls in let k = line l.at text in
        (texts (up_to_header (if (has_some text) (k ∷ ks) ks)) ≡ text ++ texts (up_to_header ks)) × (entries (if (has_some text) (k ∷ ks) ks) ≡ entries ks)
    one [] n = (refl, refl)
    one (b ∷ bs) n = let q : eqb b 62 ≡ false = ne_eqb b 62 n in (rw q, rw q)

-- a name is what stands before the first blank
abbrev NoBlank : List ℕ → Type 0
NoBlank name = (b : ℕ) → Memᴰ b name → (b ≡ 32) ⊎ (b ≡ 9) → ⊥

abbrev BlankFirst : List ℕ → Type 0
BlankFirst rest = (rest ≡ []) ⊎ (get_or rest 0 0 ≡ 32) ⊎ (get_or rest 0 0 ≡ 9)

blank_says : (b : ℕ) → (is_space_or_tab b ≡ true) ↔ ((b ≡ 32) ⊎ (b ≡ 9))
blank_says b = either _ _ (same b 32) (same b 9)

name_back : (name rest : List ℕ) → NoBlank name → BlankFirst rest → up_to_blank (name ++ rest) ≡ name
unfolding up_to_blank
name_back [] [] n f = refl
name_back [] (b ∷ bs) n f = rw ((blank_says b).1 (go f))
  where
    go : BlankFirst (b ∷ bs) → (b ≡ 32) ⊎ (b ≡ 9)
    go (inl e) = let z : ◌≡◌ {A = ℕ} 0 1 = cc in absurd (omega arith)
    go (inr e) = e
name_back (x ∷ name) rest n f = rw ((denied _ (blank_says x)).1 (n x (Memᴰ.head refl))) (ap (λ l. x ∷ l) (name_back name rest (λ b m. n b (Memᴰ.tail m)) f))

-- what is read from the lines of some records: no text stands before them, and so none of their letters either
record Back (rs : List WrittenRecord) (ks : List Line) : Type 0 where
  names : map name_of (entries ks) ≡ map (λ r. r.name) rs
  letters : map letters_of (entries ks) ≡ map (λ r. joined r.parts) rs
  no_text : has_text_first ks ≡ false
  no_letters : up_to_header ks ≡ []

records_read : (rs : List WrittenRecord) (ls : List Line) → texts_in ls ≡ each record_texts rs → ((r : WrittenRecord) → Memᴰ r rs → ProperRecord r) → Back rs (keep is_text ls)
unfolding keep up_to_header entries texts letters_of name_of each has_some is_header
records_read [] [] e p = record { names = refl; letters = refl; no_text = refl; no_letters = refl }
records_read [] (l ∷ ls) e p = let z : ◌≡◌ {A = ℕ} 0 1 = cc in absurd (omega arith)
records_read (r ∷ rs) [] e p = let z : ◌≡◌ {A = ℕ} 0 1 = cc in absurd (omega arith)
records_read (r ∷ rs) (l ∷ ls) e p =
    let h : l.text ≡ 62 ∷ r.name ++ r.rest = cc in
    let g : texts_in ls ≡ r.parts ++ each record_texts rs = cc in
    let q = p r (Memᴰ.head refl) in
    let (others, a, b, c) = parts_read r.parts (each record_texts rs) ls g q.no_mark in
    let ih = records_read rs others a (λ x m. p x (Memᴰ.tail m)) in
    one l.text h q others (b ∙ rw ih.no_letters (append-nil (joined r.parts))) c ih
  where
    one : (text : List ℕ) → text ≡ 62 ∷ r.name ++ r.rest → ProperRecord r → (others : List Line) → texts (up_to_header (keep is_text ls)) ≡ joined r.parts
        → entries (keep is_text ls) ≡ entries (keep is_text others) → Back rs (keep is_text others) → Back (r ∷ rs) (if (has_some text) (line l.at text ∷ keep is_text ls) (keep is_text ls))
    one [] e q others b c ih = let z : ◌≡◌ {A = ℕ} 0 1 = cc in absurd (omega arith)
    one (x ∷ xs) e q others b c ih =
        let t : eqb x 62 ≡ true = eq-eqb x 62 (cc) in
        let y : xs ≡ r.name ++ r.rest = cc in
        record {
          names = rw (t, y, name_back r.name r.rest q.no_blank q.blank_rest, c) (ap (λ ns. r.name ∷ ns) ih.names);
          letters = rw (t, c, b) (ap (λ ns. joined r.parts ∷ ns) ih.letters);
          no_text = rw t;
          no_letters = rw t;
        }

-- empty lines in front are skipped
empties_skipped : (n : ℕ) (rest : List (List ℕ)) (ls : List Line) → texts_in ls ≡ replicate n [] ++ rest → (others : List Line) × (texts_in others ≡ rest) × (keep is_text ls ≡ keep is_text others)
unfolding keep has_some
empties_skipped zero rest ls e = (ls, e, refl)
empties_skipped (suc n) rest [] e = let z : ◌≡◌ {A = ℕ} 0 1 = cc in absurd (omega arith)
empties_skipped (suc n) rest (l ∷ ls) e =
    let h : l.text ≡ [] = cc in
    let g : texts_in ls ≡ replicate n [] ++ rest = cc in
    let (others, a, b) = empties_skipped n rest ls g in
    (others, a, one l.text h ∙ b)
  where
    one : (text : List ℕ) → text ≡ [] → if (has_some text) (line l.at text ∷ keep is_text ls) (keep is_text ls) ≡ keep is_text ls
    one [] h = refl
    one (x ∷ xs) h = let z : ◌≡◌ {A = ℕ} 0 1 = cc in absurd (omega arith)

records_are : (file : List ℕ) (rs : List WrittenRecord) → InWrittenRecords file rs
    → (map name_of (file_records file) ≡ map (λ r. r.name) rs) × (map letters_of (file_records file) ≡ map (λ r. joined r.parts) rs) × (has_text_first (lines_from file 0) ≡ false)
unfolding file_records lines_from
records_are file rs w =
    let (others, a, b) = empties_skipped w.empties (each record_texts rs) (lines_of 0 (pieces 10 file)) (lines_are file w.lines w.last w.laid ∙ w.texts) in
    let r = records_read rs others a w.proper in
    rw b (r.names, r.letters, r.no_text)

-- ---- every file with no text before its records

-- the text behind a > is a name, and a rest that a blank begins if there is any
name_cut : (text : List ℕ) → NoBlank (up_to_blank text) × (rest : List ℕ) × BlankFirst rest × (text ≡ up_to_blank text ++ rest)
unfolding up_to_blank
name_cut [] = (no_member _, [], inl refl, refl)
name_cut (b ∷ bs) = go (is_space_or_tab b) refl (name_cut bs)
  where
    go : (t : Bool) → is_space_or_tab b ≡ t → NoBlank (up_to_blank bs) × (rest : List ℕ) × BlankFirst rest × (bs ≡ up_to_blank bs ++ rest)
        → let name = if t [] (b ∷ up_to_blank bs) in NoBlank name × (rest : List ℕ) × BlankFirst rest × (b ∷ bs ≡ name ++ rest)
    go true e ih = (no_member _, b ∷ bs, inr ((blank_says b).0 e), refl)
    go false e (n, rest, f, w) = (members (λ c. (c ≡ 32) ⊎ (c ≡ 9) → ⊥) ((denied _ (blank_says b)).0 e) n, rest, f, ap (λ (l : List ℕ). b ∷ l) w)

-- texts are some that begin no record, and then records
cut_records : (ts : List (List ℕ)) → (parts : List (List ℕ)) × (rs : List WrittenRecord) × (ts ≡ parts ++ each record_texts rs)
    × ((t : List ℕ) → Memᴰ t parts → Unmarked t) × ((r : WrittenRecord) → Memᴰ r rs → ProperRecord r)
unfolding each
cut_records [] = ([], [], refl, no_member Unmarked, no_member ProperRecord)
cut_records (t ∷ ts) = go t (eqb (get_or t 0 0) 62) refl (cut_records ts)
  where
    go : (t : List ℕ) (b : Bool) → eqb (get_or t 0 0) 62 ≡ b
        → (parts : List (List ℕ)) × (rs : List WrittenRecord) × (ts ≡ parts ++ each record_texts rs) × ((t : List ℕ) → Memᴰ t parts → Unmarked t) × ((r : WrittenRecord) → Memᴰ r rs → ProperRecord r)
        → (parts : List (List ℕ)) × (rs : List WrittenRecord) × (t ∷ ts ≡ parts ++ each record_texts rs) × ((t : List ℕ) → Memᴰ t parts → Unmarked t) × ((r : WrittenRecord) → Memᴰ r rs → ProperRecord r)
    go t false e (parts, rs, w, u, p) = (t ∷ parts, rs, ap (λ (l : List (List ℕ)). t ∷ l) w, members Unmarked (eqb-false _ _ e) u, p)
    go [] true e ih = absurd (omega (arith, eqb-true 0 62 e))
    go (x ∷ text) true e (parts, rs, w, u, p) =
        let (n, rest, f, c) = name_cut text in
        let r : WrittenRecord = record { name = up_to_blank text; rest = rest; parts = parts } in
        let m : x ≡ 62 = eqb-true x 62 e in
        ([], r ∷ rs, rw (m, ← c, ← w), no_member Unmarked, members ProperRecord (record { no_blank = n; blank_rest = f; no_mark = u }) p)

-- those before the first record are empty, if no text stands there
only_empties : (parts rest : List (List ℕ)) (ls : List Line) → texts_in ls ≡ parts ++ rest → ((t : List ℕ) → Memᴰ t parts → Unmarked t) → has_text_first (keep is_text ls) ≡ false
    → parts ≡ replicate (length parts) []
unfolding keep has_some is_header
only_empties [] rest ls e u n = refl
only_empties (t ∷ parts) rest [] e u n = let z : ◌≡◌ {A = ℕ} 0 1 = cc in absurd (omega arith)
only_empties (t ∷ parts) rest (l ∷ ls) e u n =
    let h : l.text ≡ t = cc in
    let g : texts_in ls ≡ parts ++ rest = cc in
    let (a, b) = one l.text (rw h (u t (Memᴰ.head refl))) n in
    rw (← h, a) (ap (λ (l : List (List ℕ)). [] ∷ l) (only_empties parts rest ls g (λ s m. u s (Memᴰ.tail m)) b))
  where
    one : (text : List ℕ) → Unmarked text → has_text_first (if (has_some text) (line l.at text ∷ keep is_text ls) (keep is_text ls)) ≡ false → (text ≡ []) × (has_text_first (keep is_text ls) ≡ false)
    one [] u n = (refl, n)
    one (x ∷ xs) u n = absurd (u (eqb-true x 62 ((not_false _).0 n)))

file_in_records : (file : List ℕ) → has_text_first (lines_from file 0) ≡ false → (rs : List WrittenRecord) × InWrittenRecords file rs
unfolding lines_from
file_in_records file n =
    let (ws, last, w) = file_written file in
    let (parts, rs, e, u, p) = cut_records (map (λ w. w.text) ws ++ (last ∷ [])) in
    let a = only_empties parts (each record_texts rs) (lines_of 0 (pieces 10 file)) (lines_are file ws last w ∙ e) u n in
    (rs, record { lines = ws; last = last; empties = length parts; laid = w; texts = e ∙ ap (λ (l : List (List ℕ)). l ++ each record_texts rs) a; proper = p })

pub fasta_written : FastaWritten
fasta_written =
    record {
      lines_back = lines_placed;
      lines_of_each = file_written;
      records_back = λ file rs w. let r = records_are file rs w in (r.0, r.1, (denied _ (text_says file 0)).0 r.2);
      records_of_each = λ file h. file_in_records file ((denied _ (text_says file 0)).1 h);
      in_file = λ file at l m. (laid_line file at (lines_from file at) (laid file at) m).1;
      named = name_part;
    }
