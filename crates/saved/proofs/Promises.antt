-- What the promises of `save` and `restore` come to for whoever calls them, from the two promises alone: a search that was
-- saved is restored, a search that was restored is saved as the same bytes, and a save that was cut short is refused. The
-- promises fix each answer and what stands in the buffer, so that these are the laws of the rules, read off the answers.
use Rattle.std.specs.Prelude.{Result, Ok, Err}
use mathlib.Core.Path.{◌≡◌, sym, ap, ◌∙◌}
use mathlib.Core.List.{List}
use Prim.Native.Nat.{ℕ, ◌≤◌, ◌<◌}
use lib.ListN.{length, take}
use Rattle.rules.specs.Calls.{trimmed_search, save_rule, restore_rule}
use Rattle.rules.specs.Lists.{put}
use Rattle.rules.specs.Refusals.{first, set_checks}
use Rattle.rules.specs.Saved.{Bytes}
use Rattle.rules.specs.Told.{fine, told_answer}
use Rattle.rules.specs.declared.Refusal.{Refusal}
use Rattle.rules.specs.declared.Refusal.TheVariants.{SavedSize}
use Rattle.rules.specs.declared.Search.{Search}
use Rattle.rules.proofs.OneAnswer.{Keeps, same_answer}
use Rattle.rules.proofs.Saves as laws

module _ (letters lengths : List ℕ) where
  -- `save` answered n bytes and left `after` in the buffer
  module _ (s : Search) (out after : List ℕ) (n : ℕ) (saves : Keeps (save_rule letters lengths s out) (Ok n) after) where
    -- then `restore` of those n bytes, over the same sequences, answers the search, with nothing in what it does not use
    pub saved_restores : (b : Result Search Refusal) → told_answer b ≡ restore_rule letters lengths (take n after) → b ≡ Ok (trimmed_search s)
    saved_restores b e = same_answer b (Ok (trimmed_search s)) (rw saves.1 at e ∙ laws.saved_restores letters lengths s out n (sym saves.0))

    -- and of fewer of them, over any sequences that pass 1 to 4, is refused
    pub cut_short : (k : ℕ) → k < n → (letters' lengths' : List ℕ) → first (set_checks letters' lengths') ≡ fine
        → (b : Result Search Refusal) → told_answer b ≡ restore_rule letters' lengths' (take k after) → b ≡ Err SavedSize
    cut_short k h letters' lengths' f b e =
        same_answer b (Err SavedSize) (rw saves.1 at e ∙ laws.saved_cut letters lengths s out n k (sym saves.0) h letters' lengths' ∙ rw f)

  -- `restore` answered a search; `save` of it, where there is room, answers their length and writes the bytes
  pub restored_saves : (bs : List ℕ) → Bytes bs → (s : Search) → told_answer (Ok s) ≡ restore_rule letters lengths bs
      → (out after : List ℕ) → length bs ≤ length out → (a : Result ℕ Refusal) → Keeps (save_rule letters lengths s out) a after
      → (a ≡ Ok (length bs)) × (after ≡ put bs out)
  restored_saves bs b s e out after room a k =
      let q = laws.saved_again letters lengths bs s out (sym e) b room in
      (same_answer a (Ok (length bs)) (k.0 ∙ ap (λ w. w.told) q), k.1 ∙ ap (λ w. w.out) q)
