-- The second of the user's three demands, of the rules of the public calls (Calls.antt, Fasta.antt), which the calls promise to keep.
-- proofs/Demands.antt proves it.
use Rattle.std.specs.Prelude.{◌≡◌, ◌↔◌, true, ℕ, suc, ◌+◌, ◌*◌, ◌≤◌, ◌<◌, ◌^◌, leb, length, take, get_or}
use mathlib.Core.List.{List, [], ◌∷◌, map, Memᴰ}
use Rattle.rules.specs.Calls.{begin_rule, leg_rule, recover_rule}
use Rattle.rules.specs.Fasta.{letters_of, file_records, Held}
use Rattle.rules.specs.FastaRead.{ReadToEnd, ReadWhole, Readable}
use Rattle.rules.specs.FastaRefused.{FastaProgram}
use Rattle.rules.specs.FastaWritten.{FastaWritten}
use Rattle.rules.specs.declared.Stop.TheVariants.{Ended}
use Rattle.rules.specs.Limits.{letter_bases, letter_digits}
use Rattle.rules.specs.Lists.{each, joined, keep, put, has_some, sum}
use Rattle.rules.specs.Motif.{spell}
use Rattle.rules.specs.Occurrence.{occurrences, nth, Follows, Occurs, Gap, OccursBy, OccursExactly}
use Rattle.rules.specs.Order.{InOrder, Rising, Once}
use Rattle.rules.specs.Profile.{exactly, bases, mixed, profile_of}
use Rattle.rules.specs.Recovery.{whole_list, page}
use Rattle.rules.specs.Refused.{letters_in, Allows, Spells, CandidateIn}
use Rattle.rules.specs.Relay.{frequent_motifs, their_weights, whole_steps, Complete, Recovers}
use Rattle.rules.specs.Sequences.{sequences}
use Rattle.rules.specs.Sound.{SoundSet, SoundTemplate}
use Rattle.rules.specs.Support.{support, weight, counted, valid, parts}
use Rattle.rules.specs.Template.{none, components, size, trimmed}
use Rattle.rules.specs.Told.{gives, refuses, Handing}
use Rattle.rules.specs.Walk.{walk_over, from, start, goods}
use Rattle.rules.specs.declared.Place.{Place}
use Rattle.rules.specs.declared.Profile.TheVariants.{Exact, Mixed}
use Rattle.rules.specs.declared.Search.{Search}
use Rattle.rules.specs.declared.Template.{Template}
use Rattle.rules.specs.declared.Recovered.{Recovered}

-- DEMAND 2: the list holds every motif that reaches the quorum, once, in letter order, with its support and weighted support, and nothing
-- else; and what is recovered of a motif is every occurrence, once, in order, and nothing else.
pub record Demand2 : Type 0 where
  -- the list holds exactly the motifs of which as much is counted as the quorum asks, each once, in letter order: their numbers are
  -- those of K letters that the kind of search allows
  pub motifs : (t : Template) → SoundTemplate t → (quorum : ℕ) (ss : List (List ℕ)) (m : ℕ)
      → Memᴰ m (frequent_motifs t quorum ss) ↔ ((valid t (size t) m ≡ true) × (quorum ≤ counted (profile_of t).basis (parts t (size t) m) ss))
  pub in_letter_order : (t : Template) (quorum : ℕ) (ss : List (List ℕ)) → Rising (frequent_motifs t quorum ss)
  -- the support is the number of sequences in which the motif occurs
  pub supports : (t : Template) (j m : ℕ) (ss : List (List ℕ)) → support (parts t j m) ss ≡ length (keep (λ s. has_some (occurrences (parts t j m) s)) ss)
  pub occurring : (t : Template) → SoundTemplate t → (j m : ℕ) → 1 ≤ j → (s : List ℕ)
      → (has_some (occurrences (parts t j m) s) ≡ true) ↔ ((ps : List ℕ) × Occurs (parts t j m) s ps)
  -- in which each next start minus the previous start minus the previous length lies in its range
  pub gaps : (t : Template) (j m i p q : ℕ) → suc i < length (parts t j m)
      → let c = get_or (components t) i none in let d = get_or (components t) (suc i) none in
      Follows (nth (parts t j m) (suc i)).near (nth (parts t j m) (suc i)).far p q ↔ Gap c.length d.low d.high p q
  -- the weighted support is the number of the motif's occurrences, added over all sequences
  pub weights : (t : Template) (j m : ℕ) (ss : List (List ℕ)) → weight (parts t j m) ss ≡ sum (map (λ s. length (occurrences (parts t j m) s)) ss)
  -- OF EITHER KIND of search: sequences are counted, so that the list holds exactly the numbers of K allowed letters whose support reaches
  -- the quorum, and a prefix is frequent if its support does
  pub list : (t : Template) → SoundTemplate t → (quorum : ℕ) (ss : List (List ℕ)) (m : ℕ)
      → Memᴰ m (frequent_motifs t quorum ss) ↔ (Spells t (size t) m × (quorum ≤ support (parts t (size t) m) ss))
  pub prefix : (t : Template) (quorum : ℕ) (ss : List (List ℕ)) (j m : ℕ) → 1 ≤ j → (walk_over t quorum ss).good j m ≡ leb quorum (support (parts t j m) ss)
  -- the steps are the candidates, each once: prefixes of 1 to K allowed letters whose prefix one letter shorter is frequent
  pub candidates : (t : Template) → SoundTemplate t → (quorum : ℕ) (ss : List (List ℕ)) (p : Place)
      → let W = walk_over t quorum ss in Memᴰ p (from W (start W)) ↔ CandidateIn t quorum ss p
  pub each_once : (t : Template) → SoundTemplate t → (quorum : ℕ) (ss : List (List ℕ)) → let W = walk_over t quorum ss in Once (from W (start W))
  pub count : (t : Template) → SoundTemplate t → (quorum : ℕ) (ss : List (List ℕ)) → let W = walk_over t quorum ss in length (from W (start W)) ≡ whole_steps t quorum ss
  -- OF AN EXACT SEARCH the paper's own words hold. The list holds exactly the motifs whose support reaches the quorum; each letter of an
  -- occurrence is the one that stands there; and the steps are 4 times the number of frequent prefixes of 0 to K - 1 letters
  pub exact : (t : Template) → t.profile ≡ Exact → profile_of t ≡ exactly
  pub exact_list : (t : Template) → profile_of t ≡ exactly → SoundTemplate t → (quorum : ℕ) (ss : List (List ℕ)) (m : ℕ)
      → Memᴰ m (frequent_motifs t quorum ss) ↔ ((m < letter_bases ^ size t) × (quorum ≤ support (parts t (size t) m) ss))
  pub exact_occurrence : (t : Template) → profile_of t ≡ exactly → (j m : ℕ) (s ps : List ℕ)
      → Occurs (parts t j m) s ps ↔ OccursExactly (components t) (spell letter_bases j m) s ps
  pub exact_count : (t : Template) → profile_of t ≡ exactly → (quorum : ℕ) (ss : List (List ℕ))
      → whole_steps t quorum ss ≡ letter_bases * goods (walk_over t quorum ss) (size t)
  -- OF A MIXED SEARCH request 5's. A motif's number lies below 16 to the power of K, its letters are among the fourteen, and of a
  -- component's no more than its allowance stand for several bases; each letter of an occurrence stands for the base there
  pub mixed : (t : Template) → t.profile ≡ Mixed → profile_of t ≡ mixed (λ c. c.allowance)
  pub mixed_list : (t : Template) → t.profile ≡ Mixed → SoundTemplate t → (quorum : ℕ) (ss : List (List ℕ)) (m : ℕ)
      → Memᴰ m (frequent_motifs t quorum ss)
      ↔ ((m < letter_digits ^ size t) × ((i : ℕ) → i < length (components t) → Allows Mixed (get_or (components t) i none) (letters_in t i (spell letter_digits (size t) m)))
      × (quorum ≤ support (parts t (size t) m) ss))
  pub mixed_occurrence : (t : Template) → t.profile ≡ Mixed → (j m : ℕ) (s ps : List ℕ)
      → Occurs (parts t j m) s ps ↔ OccursBy (λ x y. Memᴰ y (get_or bases x [])) (components t) (spell letter_digits j m) s ps
  -- a leg of a new search that answers ended has listed it whole
  pub one_leg : (letters lengths : List ℕ) (t : Template) (quorum : ℕ) (s : Search) (budget : ℕ) (motifs supports weights : List ℕ)
      → begin_rule letters lengths t quorum ≡ gives s
      → (leg_rule letters lengths s budget motifs supports weights).told.answer ≡ gives Ended
      → let l = leg_rule letters lengths s budget motifs supports weights in let n = l.told.rows in
      Complete t quorum (sequences letters lengths) l.told.steps (take n l.motifs) (take n l.supports) (take n l.weights)
  -- and it does answer ended, if it has budget and room for all of it
  pub one_leg_ends : (letters lengths : List ℕ) (t : Template) (quorum : ℕ) (s : Search) (budget : ℕ) (motifs supports weights : List ℕ)
      → begin_rule letters lengths t quorum ≡ gives s
      → whole_steps t quorum (sequences letters lengths) ≤ budget
      → let n = length (frequent_motifs t quorum (sequences letters lengths)) in n ≤ length motifs → n ≤ length supports → n ≤ length weights
      → (leg_rule letters lengths s budget motifs supports weights).told.answer ≡ gives Ended
  -- recovery's list holds every occurrence that respects the gaps, once, in order, and nothing else
  pub recovered : (t : Template) → SoundTemplate t → (ss : List (List ℕ)) (m : ℕ) (row : List ℕ)
      → Memᴰ row (whole_list t ss m)
      ↔ ((i : ℕ) × (ps : List ℕ) × (i < length ss) × (row ≡ suc i ∷ ps) × Occurs (parts t (size t) m) (get_or ss i []) ps)
  pub recovered_in_order : (t : Template) (ss : List (List ℕ)) (m : ℕ) → InOrder (whole_list t ss m)
  pub recovered_length : (letters lengths : List ℕ) (t : Template) (m : ℕ) → SoundSet letters lengths → SoundTemplate t
      → length (whole_list t (sequences letters lengths) m) < 2 ^ 57
  -- the weighted supports of a search's list are the lengths of its motifs' lists
  pub listed_weights : (t : Template) (quorum : ℕ) (ss : List (List ℕ)) → their_weights t quorum ss ≡ map (λ m. length (whole_list t ss m)) (frequent_motifs t quorum ss)
  -- the weighted support in a row of any leg, ended or not, is below 2^57, and is what a recovery of the row's motif answers as its
  -- list's length, under the search's template, whatever that holds that it does not use
  pub leg_weights : (letters lengths : List ℕ) (s : Search) (budget : ℕ) (motifs supports weights : List ℕ) (t : Template) (i : ℕ) → trimmed t ≡ trimmed s.template
      → let l = leg_rule letters lengths s budget motifs supports weights in i < l.told.rows
      → (get_or l.weights i 0 < 2 ^ 57) × Recovers letters lengths t (get_or l.motifs i 0) (get_or l.weights i 0)
  -- what a recovery writes is its page of that list, and it tells the page's rows and the list's length
  pub recovery : (letters lengths : List ℕ) (t : Template) (m f : ℕ) (out : List ℕ) (c : Recovered)
      → (recover_rule letters lengths t m f out).told ≡ gives c
      → let rows = page t (sequences letters lengths) m f (length out) in
      (c.rows ≡ length rows) × (c.length ≡ length (whole_list t (sequences letters lengths) m)) × ((recover_rule letters lengths t m f out).out ≡ put (joined rows) out)
  -- a FASTA file holds the lines and the records that it was written from; every file is written from lines, and from records if no
  -- text stands before the first; and a line's text and a record's name are the parts of it that their offsets tell
  pub fasta_holds : FastaWritten
  -- a FASTA file read to its end hands out its records in file order, and the sequences that a search is then lent are their letters:
  -- so all this, and demand 3, reads of the records
  pub fasta : (file letters lengths : List ℕ) (xs : List Handing) (k : Held) → ReadToEnd file letters lengths xs k → ReadWhole file letters lengths xs k
  -- a file without a record gives none, and the search over what was read is then refused with 1
  pub fasta_none : (file letters lengths : List ℕ) (xs : List Handing) (k : Held) → ReadToEnd file letters lengths xs k → file_records file ≡ [] → (t : Template) (quorum : ℕ)
      → begin_rule (take k.used k.letters) (take k.count k.lengths) t quorum ≡ refuses 1 0
  -- and it can be read so exactly if no text stands before its first record, there is room, and the records' lines hold letters alone
  pub fasta_reads : (file letters lengths : List ℕ) → Readable file letters lengths ↔ ((xs : List Handing) × (k : Held) × ReadToEnd file letters lengths xs k)
  -- the letters of all records and a row for each are no more than the file's bytes, so a buffer and a table as long as the file have
  -- room for every record that a row can count
  pub fasta_room : (file : List ℕ) → length (each letters_of (file_records file)) + length (file_records file) ≤ length file
  -- the program `lines` prints the records' letters, one sequence a line, for the printing program to search
  pub fasta_lines : FastaProgram
