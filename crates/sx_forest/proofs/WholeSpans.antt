-- All tokens have a reading exactly where they are one metavariable, or a span that the items complete is of them all.
use Rattle.std.proofs.Common.{◌≡◌, ℕ, List, ◌⊎◌, inl, inr, refl, sym, subst, length, Contains, arith}
use Rattle.sx_grammar.specs.Grammar.{Grammar, Token, production_of, is_variable, of_sort, HasLevels}
use Rattle.sx_grammar.specs.Items.{Span, started}
use Rattle.sx_grammar.specs.Reading.{Marked, Reading, variable, Reads, ReadsWhole, by_variable}
use Rattle.sx_grammar.specs.Tally.{IsVariableAt, ReadsAt}
use Rattle.sx_grammar.specs.declared.head.Head.{Head}
use Rattle.sx_grammar.proofs.Deciding.{by_kind}
use Rattle.sx_grammar.proofs.Soundness.{Read, by_head, items_read, whole_of}
use Rattle.sx_grammar.proofs.Completeness.{found}
use Rattle.sx_earley.specs.declared.span.Span as plain
use Rattle.sx_earley.specs.declared.span.SpanOf.TheVariants.{Node}
use Rattle.sx_earley.specs.Chart.{IsOfSort}
use Rattle.sx_earley.specs.Completed.{IsChart, head_of, of_head}
use Rattle.sx_forest.specs.Verdict.{IsWholeSpan}
use Rattle.sx_forest.proofs.Counting.{makes_is, of_sort_is}
use Rattle.sx_forest.proofs.Rows.{kid_span}
use Rattle.sx_forest.proofs.Tabling.{head_back}

-- what stands at no place of a list
abbrev pub no_span : plain.Span
no_span = record { of = Node 0; from = 0; to = 0 }

module _ (g : Grammar) (tokens : List Token) (start : ℕ) (spans : List plain.Span) (chart : IsChart g tokens start spans) where
  -- a span of all tokens has a reading
  pub span_read : (s : plain.Span) → Contains spans s → IsWholeSpan g start (length tokens) s → (r : Reading) × ReadsWhole g tokens start r
  span_read s there whole =
      let head = head_of s.of in let span = (chart s).0 there in
      let makes = makes_is g head start 0 whole.2 in let p = makes.production in
      let all = whole_of g tokens head span.0 p span.1 makes.is in
      let inside : Read g tokens p.symbols s.from s.to = subst (λ xs. Read g tokens xs s.from s.to) all (items_read g tokens start span.2 p makes.is) in
      let r = by_head g tokens head p 0 s.from s.to makes.is makes.reaches inside in
      let same : Reads g tokens start 0 s.from s.to r.0 = subst (λ x. Reads g tokens x 0 s.from s.to r.0) makes.same_sort r.2 in
      let first : Reads g tokens start 0 0 s.to r.0 = subst (λ x. Reads g tokens start 0 x s.to r.0) whole.0 same in
      (r.0, subst (λ x. Reads g tokens start 0 0 x r.0) whole.1 first)

  -- one metavariable has a reading
  pub variable_read : length tokens ≡ 1 → Marked tokens 0 (is_variable (of_sort start)) → (r : Reading) × ReadsWhole g tokens start r
  variable_read one marked = (variable 0, subst (λ n. Reads g tokens start 0 0 n (variable 0)) (sym one) (by_variable marked))

  -- a reading of all tokens is one of these
  pub read_so : HasLevels g → (r : Reading) → ReadsWhole g tokens start r →
      ((length tokens ≡ 1) × Marked tokens 0 (is_variable (of_sort start))) ⊎ ((s : plain.Span) × Contains spans s × IsWholeSpan g start (length tokens) s)
  read_so levels r reads = by_case (by_kind g tokens reads (omega arith))
    where
      by_case : IsVariableAt tokens start 0 (length tokens) r ⊎ ((head : Head) × ReadsAt g tokens start 0 0 (length tokens) head r) →
          ((length tokens ≡ 1) × Marked tokens 0 (is_variable (of_sort start))) ⊎ ((s : plain.Span) × Contains spans s × IsWholeSpan g start (length tokens) s)
      by_case (inl v) = inl (v.1, v.0)
      by_case (inr h) =
          let n = length tokens in let back = sym (head_back h.0) in
          let span = found g tokens start levels reads h.0 0 n (omega arith) (λ other m. started m) (kid_span g tokens start start 0 0 n h.0 r h.1) in
          let s : plain.Span = record { of = of_head h.0; from = 0; to = n } in
          inr (
            s,
            (chart s).1 (subst (λ x. Span g tokens start x 0 n) back span),
            (refl, refl, subst (λ x. IsOfSort (production_of g x) start 0) back (of_sort_is g h.0 start 0 h.1.0)),
          )
