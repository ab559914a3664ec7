-- THE USER'S THREE DEMANDS are met. The statements stand in specs/Demand1.antt, Demand2.antt and Demand3.antt; here is the law that
-- proves each of their sentences.
use mathlib.Core.Path.{refl, ap}
use Rattle.rules.specs.Calls.{begin_rule, leg_rule, save_rule, restore_rule, recover_rule, join_rule}
use Rattle.rules.specs.Demand1.{Demand1}
use Rattle.rules.specs.Demand2.{Demand2}
use Rattle.rules.specs.Demand3.{Demand3}
use Rattle.rules.specs.Fasta.{reader_rule}
use Rattle.rules.specs.Motif.{spell}
use Rattle.rules.specs.Profile.{profile_of, base_of}
use Rattle.rules.specs.Recovery.{whole_list}
use Rattle.rules.specs.Refusals.{first, search_checks, recover_checks}
use Rattle.rules.specs.Support.{parts, parts_in}
use Rattle.rules.specs.Template.{components, size}
use Rattle.rules.specs.Walk.{walk_in, walk_over}
use Rattle.rules.proofs.Accepts.{restore_accepts}
use Rattle.rules.proofs.Bound.{list_bound}
use Rattle.rules.proofs.Completes.{leg_complete, leg_ends, relay_complete, relay_ends, relay_answers}
use Rattle.rules.proofs.EachKind.{frequent_support}
use Rattle.rules.proofs.Exact.{exact_search, exact_occurs, exact_motifs, exact_steps}
use Rattle.rules.proofs.FastaFits.{records_fit}
use Rattle.rules.proofs.FastaProgram.{fasta_program}
use Rattle.rules.proofs.FastaRefused.{reader_refuses, fasta_refused}
use Rattle.rules.proofs.FastaWritten.{fasta_written}
use Rattle.rules.proofs.First.{first_applies, unless_refuses, written_refuses, leg_refused}
use Rattle.rules.proofs.Mixed.{mixed_search, mixed_occurs, mixed_motifs}
use Rattle.rules.proofs.Sentence.{follows_gap}
use Rattle.rules.proofs.OccurrenceOrder.{rows_in_order}
use Rattle.rules.proofs.Occurs.{parts_worded, parts_some, rows_are}
use Rattle.rules.proofs.Prefix.{size_some}
use Rattle.rules.proofs.FastaReading.{handed_stays, none_stays, read_whole, read_none, reads}
use Rattle.rules.proofs.Refused.{each_refusal}
use Rattle.rules.proofs.Relayed.{leg_between}
use Rattle.rules.proofs.Searches.{walk_lawful, list_rises, list_holds, list_spells}
use Rattle.rules.proofs.Saves.{written_gives, saves, saved_restores, ended_restores, saved_again, restored_cut, saved_cut}
use Rattle.rules.proofs.Stays.{save_stays, recover_stays, join_stays, leg_stays}
use Rattle.rules.proofs.TextRefused.{text_refused}
use Rattle.rules.proofs.Tried.{passes_candidates, passes_once, passes_counted}
use Rattle.rules.proofs.Ways.{weight_count, support_counts, support_sequences}
use Rattle.rules.proofs.WeightIsLength.{their_lengths, leg_weights}

pub demand1 : Demand1
unfolding begin_rule restore_rule leg_rule save_rule recover_rule join_rule reader_rule
demand1 =
    record {
      first_applies = first_applies;
      each = each_refusal;
      text = text_refused;
      fasta = fasta_refused;
      begin = λ letters lengths t quorum n p. unless_refuses _ _ n p;
      restore = λ letters lengths bs n p. unless_refuses _ _ n p;
      leg = λ letters lengths s budget motifs supports weights n p. leg_refused (first (search_checks letters lengths s)) _ _ n p _ (λ n p. refl) refl;
      leg_leaves = λ letters lengths s budget motifs supports weights n p e. rw e;
      leg_stays = leg_stays;
      save = λ letters lengths s out n p. written_refuses _ _ _ out n p;
      save_leaves = λ letters lengths s out n p e. rw e;
      save_stays = save_stays;
      recover = λ letters lengths t m f out n p. written_refuses _ _ _ out n p;
      recover_leaves = λ letters lengths t m f out n p e. rw e;
      recover_stays = recover_stays;
      join = λ xs ys head low high out n p. written_refuses _ _ _ out n p;
      join_leaves = λ xs ys head low high out n p e. rw e;
      join_stays = join_stays;
      reader = reader_refuses;
      reader_leaves = λ file at letters used lengths count n p e. rw e;
      reader_none = none_stays;
      reader_stays = handed_stays;
    }

pub demand2 : Demand2
unfolding parts_in walk_in whole_list recover_rule
demand2 =
    record {
      motifs = λ t o quorum ss. list_holds t quorum ss o;
      in_letter_order = list_rises;
      supports = λ t j m ss. support_sequences (parts t j m) ss;
      weights = λ t j m ss. weight_count (parts t j m) ss;
      occurring = λ t o j m h s. support_counts (parts t j m) s (parts_worded t o j m) (parts_some t o j m h);
      gaps = λ t j m i p q. follows_gap (profile_of t).reading 0 (components t) (spell (base_of t) j m) i p q;
      list = λ t o quorum ss. list_spells t quorum ss o;
      prefix = frequent_support;
      candidates = λ t o quorum ss. passes_candidates t quorum ss o;
      each_once = λ t o quorum ss. passes_once (walk_over t quorum ss) (walk_lawful t quorum ss o);
      count = λ t o quorum ss. passes_counted t quorum ss o;
      exact = exact_search;
      exact_list = λ t e o quorum ss. exact_motifs t e quorum ss o;
      exact_occurrence = exact_occurs;
      exact_count = exact_steps;
      mixed = mixed_search;
      mixed_list = mixed_motifs;
      mixed_occurrence = mixed_occurs;
      one_leg = λ letters lengths t quorum s budget motifs supports weights b. leg_complete letters lengths t quorum s b budget motifs supports weights;
      one_leg_ends = λ letters lengths t quorum s budget motifs supports weights b. leg_ends letters lengths t quorum s b budget motifs supports weights;
      recovered = λ t o ss m row. rows_are (parts t (size t) m) ss (parts_worded t o (size t) m) (parts_some t o (size t) m (size_some t o)) row;
      recovered_in_order = λ t ss m. rows_in_order (parts t (size t) m) ss;
      recovered_length = λ letters lengths t m set o. list_bound t o letters lengths set m;
      listed_weights = their_lengths;
      leg_weights = leg_weights;
      recovery = λ letters lengths t m f out c e. let r = written_gives (first (recover_checks letters lengths t m f)) _ c _ out e in (ap (λ c. c.rows) r.1, ap (λ c. c.length) r.1, r.2);
      fasta_holds = fasta_written;
      fasta = read_whole;
      fasta_none = read_none;
      fasta_reads = reads;
      fasta_room = records_fit;
      fasta_lines = fasta_program;
    }

pub demand3 : Demand3
demand3 =
    record {
      end_to_end = λ letters lengths t quorum s gs b. relay_complete letters lengths t quorum s b gs;
      ends = λ letters lengths t quorum s gs b. relay_ends letters lengths t quorum s b gs;
      answers = λ letters lengths t quorum s gs b. relay_answers letters lengths t quorum s b gs;
      between = leg_between;
      accepts = restore_accepts;
      saves = saves;
      restores = saved_restores;
      ended_restores = ended_restores;
      same_bytes = saved_again;
      cut_short = saved_cut;
      cut_accepted = λ letters lengths bs s n e. restored_cut letters lengths bs s e n;
    }
