-- The first of the user's three demands, of the rules of the public calls (Calls.antt, Fasta.antt), which the calls promise to keep.
-- proofs/Demands.antt proves it.
use Rattle.std.specs.Prelude.{◌≡◌, ◌↔◌, List, ℕ, suc, ◌+◌, ◌*◌}
use Rattle.rules.specs.Calls.{begin_rule, leg_rule, save_rule, restore_rule, recover_rule, join_rule}
use Rattle.rules.specs.EachRefusal.{EachRefusal}
use Rattle.rules.specs.Fasta.{reader_checks, stays, reader_rule, Held, call}
use Rattle.rules.specs.FastaRefused.{FastaRefused}
use Rattle.rules.specs.Refusals.{first, new_checks, restore_checks, search_checks, save_checks, recover_checks, join_checks}
use Rattle.rules.specs.Refused.{FirstOf, Stays, StaysOutside}
use Rattle.rules.specs.TextRefused.{TextRefused}
use Rattle.rules.specs.Told.{gives, refuses, Verdict, refused, entry, no_entry}
use Rattle.rules.specs.declared.Search.{Search}
use Rattle.rules.specs.declared.Template.{Template}
use Rattle.rules.specs.declared.Recovered.{Recovered}

-- DEMAND 1: a call refuses exactly what its checks refuse, with the number and place of the first that applies. A refused
-- leg has counts of 0, hands back the search that it was given and leaves its tables; a refused save, recovery or join leaves
-- its buffer; a refused FASTA reader leaves its buffer and table, and stands where it stood.
pub record Demand1 : Type 0 where
  -- of a call's checks, in their order, the first that applies is told, all before it being fine; so a call is refused only if one
  -- of its checks applies
  pub first_applies : (vs : List Verdict) (n p : ℕ) → (first vs ≡ refused n p) ↔ FirstOf vs n p
  -- and each of 1 to 17 and 21 to 24 applies exactly if its sentence, the paper's or a request's, holds, and tells the place that it names
  pub each : EachRefusal
  -- 18 is the printing program's: it comes before all others, exactly if a line of its input is bad, and tells the lowest that is
  pub text : TextRefused
  -- 19 and 20 are the FASTA reader's, and so is 4 by the offset in the file: each applies exactly if the request's sentence holds
  pub fasta : FastaRefused
  pub begin : (letters lengths : List ℕ) (t : Template) (quorum n p : ℕ)
      → (begin_rule letters lengths t quorum ≡ refuses n p) ↔ (first (new_checks letters lengths t quorum) ≡ refused n p)
  pub restore : (letters lengths bs : List ℕ) (n p : ℕ)
      → (restore_rule letters lengths bs ≡ refuses n p) ↔ (first (restore_checks letters lengths bs) ≡ refused n p)
  pub leg : (letters lengths : List ℕ) (s : Search) (budget : ℕ) (motifs supports weights : List ℕ) (n p : ℕ)
      → ((leg_rule letters lengths s budget motifs supports weights).told.answer ≡ refuses n p) ↔ (first (search_checks letters lengths s) ≡ refused n p)
  pub leg_leaves : (letters lengths : List ℕ) (s : Search) (budget : ℕ) (motifs supports weights : List ℕ) (n p : ℕ)
      → first (search_checks letters lengths s) ≡ refused n p
      → leg_rule letters lengths s budget motifs supports weights
      ≡ record { told = record { answer = refuses n p; steps = 0; rows = 0; search = s }; motifs = motifs; supports = supports; weights = weights }
  -- past its rows each of a leg's tables stays
  pub leg_stays : (letters lengths : List ℕ) (s : Search) (budget : ℕ) (motifs supports weights : List ℕ)
      → let l = leg_rule letters lengths s budget motifs supports weights in let n = l.told.rows in
      Stays n motifs l.motifs × Stays n supports l.supports × Stays n weights l.weights
  pub save : (letters lengths : List ℕ) (s : Search) (out : List ℕ) (n p : ℕ)
      → ((save_rule letters lengths s out).told ≡ refuses n p) ↔ (first (save_checks letters lengths s out) ≡ refused n p)
  pub save_leaves : (letters lengths : List ℕ) (s : Search) (out : List ℕ) (n p : ℕ)
      → first (save_checks letters lengths s out) ≡ refused n p → save_rule letters lengths s out ≡ record { told = refuses n p; out = out }
  -- past the last thing that a save, a recovery or a join writes, its buffer stays
  pub save_stays : (letters lengths : List ℕ) (s : Search) (out : List ℕ) (k : ℕ) → (save_rule letters lengths s out).told ≡ gives k
      → Stays k out (save_rule letters lengths s out).out
  pub recover : (letters lengths : List ℕ) (t : Template) (m f : ℕ) (out : List ℕ) (n p : ℕ)
      → ((recover_rule letters lengths t m f out).told ≡ refuses n p) ↔ (first (recover_checks letters lengths t m f) ≡ refused n p)
  pub recover_leaves : (letters lengths : List ℕ) (t : Template) (m f : ℕ) (out : List ℕ) (n p : ℕ)
      → first (recover_checks letters lengths t m f) ≡ refused n p → recover_rule letters lengths t m f out ≡ record { told = refuses n p; out = out }
  pub recover_stays : (letters lengths : List ℕ) (t : Template) (m f : ℕ) (out : List ℕ) (c : Recovered) → (recover_rule letters lengths t m f out).told ≡ gives c
      → Stays (c.rows * suc t.count) out (recover_rule letters lengths t m f out).out
  pub join : (xs ys : List ℕ) (head low high : ℕ) (out : List ℕ) (n p : ℕ)
      → ((join_rule xs ys head low high out).told ≡ refuses n p) ↔ (first (join_checks xs ys head low high out) ≡ refused n p)
  pub join_leaves : (xs ys : List ℕ) (head low high : ℕ) (out : List ℕ) (n p : ℕ)
      → first (join_checks xs ys head low high out) ≡ refused n p → join_rule xs ys head low high out ≡ record { told = refuses n p; out = out }
  pub join_stays : (xs ys : List ℕ) (head low high : ℕ) (out : List ℕ) (k : ℕ) → (join_rule xs ys head low high out).told ≡ gives k
      → Stays k out (join_rule xs ys head low high out).out
  pub reader : (file : List ℕ) (at : ℕ) (letters : List ℕ) (used : ℕ) (lengths : List ℕ) (count n p : ℕ)
      → ((reader_rule file at letters used lengths count).told ≡ refuses n p) ↔ (first (reader_checks file at letters used lengths count) ≡ refused n p)
  pub reader_leaves : (file : List ℕ) (at : ℕ) (letters : List ℕ) (used : ℕ) (lengths : List ℕ) (count n p : ℕ)
      → first (reader_checks file at letters used lengths count) ≡ refused n p → reader_rule file at letters used lengths count ≡ record { told = refuses n p; at = at; letters = letters; lengths = lengths }
  -- where the reader finds no record all stays too, and where it hands one out all but that record's letters and its row
  pub reader_none : (file : List ℕ) (h : Held) → (call file h).told ≡ gives no_entry → call file h ≡ stays file h.at h.letters h.used h.lengths h.count (gives no_entry)
  pub reader_stays : (file : List ℕ) (h : Held) {start end size : ℕ} → (call file h).told ≡ gives (entry start end size)
      → StaysOutside h.used (h.used + size) h.letters (call file h).letters × StaysOutside h.count (suc h.count) h.lengths (call file h).lengths
