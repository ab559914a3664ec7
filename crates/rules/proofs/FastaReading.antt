-- A file read to its end. A call that hands out a record leaves the cursor at the next one, where those after it are left, and puts
-- its letters and their number behind what the caller holds; so the calls until one finds no record hand out all of them, in order,
-- and what was put behind each other is the letters joined. And where nothing is to be refused each call hands out the next.
use mathlib.Core.Path.{◌≡◌, refl, sym, ap, ◌∙◌}
use mathlib.Core.Logic.{◌↔◌}
use mathlib.Core.Bool.{false}
use mathlib.Core.List.{List, [], ◌∷◌, map, map-map, Memᴰ}
use Prim.Native.Nat.{ℕ, suc, ◌+◌, ◌≤◌}
use native.Mathlib.Numerals.{add-one}
use native.Mathlib.Omega.{arith}
use lib.ListN.{length, take, length-append, length-map}
use Rattle.rules.specs.Calls.{begin_rule, on_refusal}
use Rattle.rules.specs.Fasta.{lines_from, Entry, letters_of, size_of, records_from, file_records, has_text_first, check19, next_checks, reader_checks, ReaderRule, handing, cursor_after, stays, hands_out, reader_rule, Held, at_first, call, held_after, HandsOut, no_call, one_more}
use Rattle.rules.specs.FastaRead.{ReadToEnd, ReadWhole, Readable}
use Rattle.rules.specs.Letters.{value}
use Rattle.rules.specs.Limits.{fasta_length}
use Rattle.rules.specs.Lists.{each, put_at, sum}
use Rattle.rules.specs.Refusals.{◌else◌, first, check1, new_checks}
use Rattle.rules.specs.Refused.{StaysOutside}
use Rattle.rules.specs.Sequences.{split, sequences}
use Rattle.rules.specs.Told.{Verdict, fine, refused, gives, refuses, Handing, entry, no_entry}
use Rattle.rules.specs.declared.Template.{Template}
use Rattle.rules.proofs.All.{no_member, members}
use Rattle.rules.proofs.FastaBytes.{text_says}
use Rattle.rules.proofs.FastaChecks.{Room, AllLetters, none_fine, next_fine}
use Rattle.rules.proofs.FastaLines.{Left, left_next}
use Rattle.rules.proofs.Lists.{each_joined}
use Rattle.rules.proofs.Members.{each_out}
use Rattle.rules.proofs.Stays.{put_stays, put_at_stays}
use Rattle.rules.proofs.Tables.{put_front, put_at_none, put_at_long, put_at_more}
use Rattle.rules.proofs.Tests.{denied}
use Rattle.rules.proofs.TextRefused.{split_joined}

-- ---- one call

-- a call that gives something was not refused
unrefused : (v : Verdict) (f : ℕ → ℕ → ReaderRule) (r : ReaderRule) (x : Handing) → ((n p : ℕ) → (f n p).told ≡ refuses n p) → (on_refusal v f r).told ≡ gives x → (v ≡ fine) × (on_refusal v f r ≡ r)
unrefused fine f r x h e = (refl, refl)
unrefused (refused n p) f r x h e = let k = h n p in let z : ◌≡◌ {A = ℕ} 0 1 = cc in absurd (omega arith)

module _ (file : List ℕ) where
  -- what a caller holds once a record has been handed out and others are left
  abbrev moved_on : Held → Entry → List Entry → Held
  moved_on h e es =
      record {
        at = cursor_after file es;
        used = h.used + size_of e;
        count = suc h.count;
        letters = put_at h.used (letters_of e) h.letters;
        lengths = put_at h.count (size_of e ∷ []) h.lengths;
      }

  -- a record that a caller has room for, and whose lines hold letters alone
  abbrev Fit : Held → Entry → Type 0
  Fit h e = Room h.letters h.used h.lengths h.count (size_of e) × AllLetters (letters_of e)

  module _ (h : Held) where
    abbrev checks : List Verdict
    checks = reader_checks file h.at h.letters h.used h.lengths h.count

    gave : {x : Handing} → (call file h).told ≡ gives x
        → (first checks ≡ fine) × (call file h ≡ hands_out file h.at h.letters h.used h.lengths h.count (records_from file h.at))
    unfolding reader_rule
    gave {x} e = unrefused _ _ _ x (λ n p. refl) e

    -- where no record is left, and no text stands there, it finds none
    call_none : Left file h.at [] → (call file h).told ≡ gives no_entry
    unfolding reader_rule reader_checks
    call_none l = rw (l.records, (none_fine (lines_from file h.at)).1 l.no_text)

    -- and where a record that fits is next, it hands that out
    call_next : (e : Entry) (es : List Entry) → Left file h.at (e ∷ es) → Fit h e
        → call file h
        ≡ record { told = gives (handing e); at = cursor_after file es; letters = put_at h.used (letters_of e) h.letters; lengths = put_at h.count (size_of e ∷ []) h.lengths }
    unfolding reader_rule reader_checks
    call_next e es l f = rw (l.records, (next_fine h.letters h.used h.lengths h.count (lines_from file h.at) e).1 (l.no_text, f.0, f.1))

    -- a call that finds none, or hands one out
    found_none : (call file h).told ≡ gives no_entry → Left file h.at []
    unfolding reader_checks
    found_none e = let g = gave e in go (records_from file h.at) refl g.0 (ap (λ r. r.told) (sym g.1) ∙ e)
      where
        go : (es : List Entry) → records_from file h.at ≡ es → first (check19 (lines_from file h.at) ∷ next_checks h.letters h.used h.lengths h.count es) ≡ fine
            → (hands_out file h.at h.letters h.used h.lengths h.count es).told ≡ gives no_entry → Left file h.at []
        go [] q f t = record { records = q; no_text = (none_fine (lines_from file h.at)).0 f }
        go (x ∷ es) q f t = let z : ◌≡◌ {A = ℕ} 0 1 = cc in absurd (omega arith)

    found_next : {start end size : ℕ} → (call file h).told ≡ gives (entry start end size)
        → (e : Entry) × (es : List Entry) × Left file h.at (e ∷ es) × Fit h e × (handing e ≡ entry start end size)
    unfolding reader_checks
    found_next {start} {end} {size} e = let g = gave e in go (records_from file h.at) refl g.0 (ap (λ r. r.told) (sym g.1) ∙ e)
      where
        go : (es : List Entry) → records_from file h.at ≡ es → first (check19 (lines_from file h.at) ∷ next_checks h.letters h.used h.lengths h.count es) ≡ fine
            → (hands_out file h.at h.letters h.used h.lengths h.count es).told ≡ gives (entry start end size)
            → (e : Entry) × (es : List Entry) × Left file h.at (e ∷ es) × Fit h e × (handing e ≡ entry start end size)
        go [] q f t = let z : ◌≡◌ {A = ℕ} 0 1 = cc in absurd (omega arith)
        go (x ∷ es) q f t =
            let k = (next_fine h.letters h.used h.lengths h.count (lines_from file h.at) x).0 f in
            (x, es, record { records = q; no_text = k.0 }, (k.1, k.2), (cc))

    -- what a caller then holds
    after_next : (e : Entry) (es : List Entry) → Left file h.at (e ∷ es) → Fit h e → held_after file h (size_of e) ≡ moved_on h e es
    after_next e es l f = rw (call_next e es l f)

    -- what such a call leaves: outside the record's letters and its row nothing changes
    pub handed_stays : {start end size : ℕ} → (call file h).told ≡ gives (entry start end size)
        → StaysOutside h.used (h.used + size) h.letters (call file h).letters × StaysOutside h.count (suc h.count) h.lengths (call file h).lengths
    handed_stays {start} {end} {size} q = go (found_next q)
      where
        go : ((e : Entry) × (es : List Entry) × Left file h.at (e ∷ es) × Fit h e × (handing e ≡ entry start end size))
            → StaysOutside h.used (h.used + size) h.letters (call file h).letters × StaysOutside h.count (suc h.count) h.lengths (call file h).lengths
        go (e, es, l, f, s) =
            let n : size ≡ size_of e = cc in
            let g : suc h.count ≡ h.count + 1 = sym (add-one h.count) in
            rw (call_next e es l f, n, g) (put_at_stays h.used (letters_of e) h.letters f.0.ends, put_at_stays h.count (size_of e ∷ []) h.lengths (omega (arith, f.0.row)))

    -- and one that finds none leaves all
    pub none_stays : (call file h).told ≡ gives no_entry → call file h ≡ stays file h.at h.letters h.used h.lengths h.count (gives no_entry)
    none_stays q = (gave q).1 ∙ rw (found_none q).records

  -- ---- calls one after another

  -- what calls over some records come to: they hand out these, and put their letters and the numbers of those behind what was held
  record Run (h : Held) (es : List Entry) (xs : List Handing) (k : Held) : Type 0 where
    handed : xs ≡ map handing es
    used : k.used ≡ h.used + length (each letters_of es)
    count : k.count ≡ h.count + length es
    buffer : k.letters ≡ put_at h.used (each letters_of es) h.letters
    table : k.lengths ≡ put_at h.count (map size_of es) h.lengths
    room : h.used + length (each letters_of es) ≤ length h.letters
    rows : h.count + length es ≤ length h.lengths
    short : (e : Entry) → Memᴰ e es → size_of e ≤ fasta_length
    spelt : (e : Entry) → Memᴰ e es → AllLetters (letters_of e)

  -- a call more in front
  run_more : (h k : Held) (e : Entry) (es : List Entry) (xs : List Handing) → Fit h e → Run (moved_on h e es) es xs k → Run h (e ∷ es) (handing e ∷ xs) k
  unfolding each
  run_more h k e es xs f r =
      let n = length-append (letters_of e) (each letters_of es) in
      let l = put_at_long h.used (letters_of e) h.letters f.0.ends in
      let m : h.count + length (size_of e ∷ []) ≤ length h.lengths = omega (arith, f.0.row) in
      let g : suc h.count ≡ h.count + 1 = sym (add-one h.count) in
      record {
        handed = ap (λ ys. handing e ∷ ys) r.handed;
        used = omega (arith, r.used, n);
        count = omega (arith, r.count);
        buffer = r.buffer ∙ put_at_more h.used (letters_of e) (each letters_of es) h.letters f.0.ends;
        table = r.table ∙ rw g (put_at_more h.count (size_of e ∷ []) (map size_of es) h.lengths m);
        room = omega (arith, r.room, n, l);
        rows = omega (arith, r.rows, put_at_long h.count (size_of e ∷ []) h.lengths m);
        short = members (λ x. size_of x ≤ fasta_length) f.0.short r.short;
        spelt = members (λ x. AllLetters (letters_of x)) f.1 r.spelt;
      }

  -- what is left behind a record runs from what is then held; the record is a call more in front
  run_behind : (h k : Held) (x : Entry) (es : List Entry) (xs : List Handing) {g : Held} → Left file h.at (x ∷ es) → Fit h x → g ≡ moved_on h x es
      → (g.used ≤ length g.letters → g.count ≤ length g.lengths → Run g (records_from file g.at) xs k) → Run h (records_from file h.at) (handing x ∷ xs) k
  run_behind h k x es xs l f a r =
      let m : h.count + length (size_of x ∷ []) ≤ length h.lengths = omega (arith, f.0.row) in
      let s = (rw a at r) (omega (arith, f.0.ends, put_at_long h.used (letters_of x) h.letters f.0.ends)) (omega (arith, put_at_long h.count (size_of x ∷ []) h.lengths m)) in
      rw l.records (run_more h k x es xs f (rw (left_next file h.at l.records).records at s))

  -- calls until one finds no record are over all that are left
  run_of : {h k : Held} {xs : List Handing} → HandsOut file h xs k → (call file k).told ≡ gives no_entry → h.used ≤ length h.letters → h.count ≤ length h.lengths
      → Run h (records_from file h.at) xs k
  unfolding each
  run_of (no_call {h}) e u c =
      let l = found_none h e in
      rw l.records
      (record {
        handed = refl;
        used = omega arith;
        count = omega arith;
        buffer = sym (put_at_none h.used h.letters);
        table = sym (put_at_none h.count h.lengths);
        room = omega arith;
        rows = omega arith;
        short = no_member _;
        spelt = no_member _;
      })
  run_of (one_more {h} {k} {start} {end} {size} {xs} q rest) e u c = go (found_next h q) (run_of rest e)
    where
      go : ((x : Entry) × (es : List Entry) × Left file h.at (x ∷ es) × Fit h x × (handing x ≡ entry start end size))
          → ((held_after file h size).used ≤ length (held_after file h size).letters → (held_after file h size).count ≤ length (held_after file h size).lengths
          → Run (held_after file h size) (records_from file (held_after file h size).at) xs k)
          → Run h (records_from file h.at) (entry start end size ∷ xs) k
      go (x, es, l, f, s) r =
          let n : size ≡ size_of x = cc in
          let a : held_after file h size ≡ moved_on h x es = ap (held_after file h) n ∙ after_next h x es l f in
          rw (← s) (run_behind h k x es xs l f a r)

  -- and where each record that is left fits, they are handed out one after another
  run_to : (es : List Entry) (h : Held) → Left file h.at es → h.used + length (each letters_of es) ≤ length h.letters → h.count + length es ≤ length h.lengths
      → ((e : Entry) → Memᴰ e es → size_of e ≤ fasta_length) → ((e : Entry) → Memᴰ e es → AllLetters (letters_of e))
      → (k : Held) × HandsOut file h (map handing es) k × ((call file k).told ≡ gives no_entry)
  unfolding each
  run_to [] h l u c s t = (h, no_call, call_none h l)
  run_to (e ∷ es) h l u c s t =
      let n = length-append (letters_of e) (each letters_of es) in
      let f : Fit h e = (record { ends = omega arith; row = omega arith; short = s e (Memᴰ.head refl) }, t e (Memᴰ.head refl)) in
      let m : h.count + length (size_of e ∷ []) ≤ length h.lengths = omega arith in
      let (k, r, z) = run_to es (moved_on h e es) (left_next file h.at l.records)
      (omega (arith, put_at_long h.used (letters_of e) h.letters f.0.ends))
      (omega (arith, put_at_long h.count (size_of e ∷ []) h.lengths m))
      (λ x i. s x (Memᴰ.tail i))
      (λ x i. t x (Memᴰ.tail i)) in
      let q : HandsOut file (held_after file h (size_of e)) (map handing es) k = rw (after_next h e es l f) r in
      (k, one_more (ap (λ r. r.told) (call_next h e es l f)) q, z)

-- ---- a file read to its end

-- letters joined and split by their numbers
split_each : (es : List Entry) → split (map size_of es) (map value (each letters_of es)) ≡ map (λ e. map value (letters_of e)) es
split_each es = rw (each_joined letters_of es, ← (map-map length letters_of es), ← (map-map (map value) letters_of es)) (split_joined (map letters_of es))

-- the numbers add up
sum_sizes : (es : List Entry) → sum (map size_of es) ≡ length (each letters_of es)
unfolding sum each
sum_sizes [] = refl
sum_sizes (e ∷ es) = omega (arith, sum_sizes es, length-append (letters_of e) (each letters_of es))

module _ (file letters lengths : List ℕ) where
  run_whole : {xs : List Handing} {k : Held} → ReadToEnd file letters lengths xs k → Run file (at_first letters lengths) (file_records file) xs k
  unfolding file_records
  run_whole r = run_of file r.calls r.no_more (omega arith) (omega arith)

  pub read_whole : (xs : List Handing) (k : Held) → ReadToEnd file letters lengths xs k → ReadWhole file letters lengths xs k
  unfolding put_at sequences
  read_whole xs k e =
      let r = run_whole e in
      let es = file_records file in
      let u : k.used ≡ length (each letters_of es) = omega (arith, r.used) in
      let c : k.count ≡ length (map size_of es) = omega (arith, r.count, length-map es size_of) in
      let a : take k.used k.letters ≡ each letters_of es = rw r.buffer (put_front k.used (each letters_of es) letters (sym u)) in
      let b : take k.count k.lengths ≡ map size_of es = rw r.table (put_front k.count (map size_of es) lengths (sym c)) in
      record {
        handed = r.handed;
        joined = a;
        sizes = b;
        adds = rw (b, u) (sum_sizes es);
        spelt = λ x m. let o = each_out letters_of es (rw a at m) in r.spelt o.0 o.1 x o.2;
        searched = rw (a, b) (split_each es);
        buffer_stays = rw r.buffer (put_stays k.used (each letters_of es) letters (omega (arith, r.room)) (omega (arith, u)));
        table_stays = rw r.table (put_stays k.count (map size_of es) lengths (omega (arith, r.rows, length-map es size_of)) (omega (arith, c)));
      }

  -- a file without a record gives none: no row is used, so a search over them is refused
  pub read_none : (xs : List Handing) (k : Held) → ReadToEnd file letters lengths xs k → file_records file ≡ [] → (t : Template) (quorum : ℕ)
      → begin_rule (take k.used k.letters) (take k.count k.lengths) t quorum ≡ refuses 1 0
  unfolding begin_rule new_checks check1 first ◌else◌
  read_none xs k e n t quorum = let b : take k.count k.lengths ≡ [] = (read_whole xs k e).sizes ∙ ap (map size_of) n in rw b

  -- exactly the readable files can be read so
  pub reads : Readable file letters lengths ↔ ((xs : List Handing) × (k : Held) × ReadToEnd file letters lengths xs k)
  unfolding file_records
  reads = (
    λ r. let (k, c, e) = run_to file (file_records file) (at_first letters lengths) (record { records = refl; no_text = (denied _ (text_says file 0)).1 r.no_text }) (omega (arith, r.room)) (omega (arith, r.rows)) r.short r.all_letters in
        (map handing (file_records file), k, record { calls = c; no_more = e }),
    λ h. let r = run_whole h.2 in
        record { no_text = (denied _ (text_says file 0)).0 (no_text h.2.calls h.2.no_more); room = omega (arith, r.room); rows = omega (arith, r.rows); short = r.short; all_letters = r.spelt },
  )
    where
      -- the first call was not refused
      no_text : {h k : Held} {xs : List Handing} → HandsOut file h xs k → (call file k).told ≡ gives no_entry → has_text_first (lines_from file h.at) ≡ false
      no_text (no_call {h}) e = (found_none file h e).no_text
      no_text (one_more {h} q rest) e = (found_next file h q).2.no_text
