use Rattle.std.proofs.Common.{◌≡◌, ℕ, suc, List, [], ◌∷◌, ◌⊎◌, inl, inr, Some, refl, sym, subst, ap, ◌∙◌, length, arith}
use Rattle.std.specs.Global.{Vec}
use Rattle.std.specs.List.{slice_get}
use Rattle.sx_grammar.specs.Grammar.{part, Grammar, Token, is_variable, of_sort, HasLevels}
use Rattle.sx_grammar.specs.declared.head.Head.{Head}
use Rattle.sx_grammar.specs.Reading.{Marked, Reading, Readings, variable, done, ◌▸◌, Reads}
use Rattle.sx_grammar.specs.Reading.{ReadsAll, ReadsWhole, all_read, by_part, reading_depth}
use Rattle.sx_grammar.specs.Reading.{readings_depth}
use Rattle.sx_grammar.specs.Items.{started}
use Rattle.sx_grammar.specs.Tally.{Tally, IsTally, ReadsAt}
use Rattle.sx_grammar.proofs.Tallies.{tally_same}
use Rattle.sx_grammar.proofs.Deciding.{by_kind, part_read, nothing_read}
use Rattle.sx_grammar.proofs.Completeness.{found}
use Rattle.sx_forest.specs.declared.entry.Entry.{Entry}
use Rattle.sx_forest.specs.Rows.{entries_at, IsWholeWays}
use Rattle.sx_forest.specs.Useful.{IsUseful, useful_whole}
use Rattle.sx_forest.specs.Table.{IsFull}
use Rattle.sx_forest.proofs.Counting.{KidOf, part_counted}
use Rattle.sx_forest.proofs.Rows.{last_at, kid_span}
use Rattle.sx_forest.proofs.Spans.{single_tally}

module _ (g : Grammar) (tokens : List Token) (start : ℕ) (levels : HasLevels g) (lists : List (Vec Entry)) (full : IsFull g tokens start lists) where
  -- each reading of all tokens is by an entry
  pub covered : (middle : ℕ) (kid : Reading) → middle ≡ length tokens → Reads g tokens start 0 0 middle kid →
      (i : ℕ) × (e : Entry) × (slice_get (entries_at lists 0) i ≡ Some e) × KidOf g tokens e.maker start 0 0 middle kid × (e.to ≡ middle)
  covered middle kid end reads = by_case (by_kind g tokens reads (omega arith))
    where
      by_case : (Marked tokens 0 (is_variable (of_sort start)) × (middle ≡ suc 0) × (kid ≡ variable 0)) ⊎ ((h : Head) × ReadsAt g tokens start 0 0 middle h kid) →
          (i : ℕ) × (e : Entry) × (slice_get (entries_at lists 0) i ≡ Some e) × KidOf g tokens e.maker start 0 0 middle kid × (e.to ≡ middle)
      by_case (inl v) =
          let entry = full.table.variables 0 start v.0 in
          (entry.0, entry.1, entry.2, subst (λ m. KidOf g tokens m start 0 0 middle kid) (sym entry.3) (refl, v), entry.4 ∙ sym v.1)
      by_case (inr h) =
          let span = found g tokens start levels reads h.0 0 middle (omega arith) (λ other m. started m) (kid_span g tokens start start 0 0 middle h.0 kid h.1) in
          let entry = full.has h.0 0 middle span (subst (λ t. IsUseful g tokens h.0 t) (sym end) useful_whole) in
          (entry.0, entry.1, entry.2, subst (λ m. KidOf g tokens m start 0 0 middle kid) (sym entry.3) h.1, entry.4)

  -- the tally of the readings of all tokens
  pub whole_tally : (t : Tally) → IsWholeWays g start (length tokens) lists t → IsTally (ReadsWhole g tokens start) reading_depth t
  whole_tally t w =
      let n = length tokens in
      let Q = ReadsAll g tokens (part start 0 ∷ []) 0 n in
      let all : IsTally Q readings_depth t =
      part_counted g tokens start start 0 0 n [] w.row (entries_at lists 0) (full.table.sound 0) (full.table.once 0)
      (λ i e at fits. last_at g tokens start n e.to w.row w.last) t w.sum (λ middle kid ks reads more. covered middle kid (sym (nothing_read g tokens more).0) reads) in
      tally_same (λ r. Q (r ▸ done)) (ReadsWhole g tokens start) reading_depth t (λ r q. alone r q) (λ r reads. by_part reads all_read)
      (single_tally Q (λ ks q. one_kid ks q) t all)
    where
      one_kid : (ks : Readings) → ReadsAll g tokens (part start 0 ∷ []) 0 (length tokens) ks → (r : Reading) × (ks ≡ r ▸ done)
      one_kid ks q = let v = part_read g tokens q in let none = nothing_read g tokens v.1.3 in (v.1.0, v.1.4 ∙ ap (λ l. v.1.0 ▸ l) none.1)

      alone : (r : Reading) → ReadsAll g tokens (part start 0 ∷ []) 0 (length tokens) (r ▸ done) → ReadsWhole g tokens start r
      alone r q =
          let v = part_read g tokens q in let none = nothing_read g tokens v.1.3 in
          let same : r ≡ v.1.0 = let e = v.1.4 in cc in
          let reads : Reads g tokens start 0 0 (length tokens) v.1.0 = subst (λ m. Reads g tokens start 0 0 m v.1.0) (sym none.0) v.1.2 in
          rw same reads
