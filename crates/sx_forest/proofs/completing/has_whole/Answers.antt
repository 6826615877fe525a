use Rattle.std.proofs.Common.{◌≡◌, ◌+◌, ◌<◌, ◌≤◌, ℕ, ◌⊎◌, inl, inr, Some, get_or, subst, sym, ◌∙◌, arith, true≢false, refl}
use Rattle.std.specs.List.{slice_get}
use Rattle.std.proofs.lemmas.Bool.{cases_lt}
use Rattle.std.proofs.lemmas.Option.{slice_get_within, slice_get-get_or, same_Some}
use Rattle.sx_grammar.proofs.Finding.{at_contains, contains_place}
use Rattle.sx_earley.specs.Shown.{plain}
use Rattle.sx_earley.specs.declared.span.Span.{Span}
use Rattle.sx_forest.specs.Verdict.{IsWholeSpan}
use Rattle.sx_forest.proofs.WholeSpans.{no_span}
use Rattle.sx_forest.proofs.completing.has_whole.Goals as goal

pub returns-then-is_whole : goal.returns-then-is_whole
returns-then-is_whole c =
    let spans = c.args.spans.now in let n = c.loop-i.i in let span = get_or spans n no_span in
    let at : slice_get spans n ≡ Some span = slice_get-get_or spans n no_span c.loop-i-test.true in
    (λ _. (span, at_contains spans n span at, c.is_whole.ensures.0 c.if-is_whole.true), λ _. refl)

pub loop-i-preserved : goal.loop-i-preserved
loop-i-preserved c = λ k s low at whole. by_place k s at whole (cases_lt k c.loop-i.i) low
  where
    by_place : (k : ℕ) (s : Span) → slice_get c.args.spans.now k ≡ Some s → IsWholeSpan (plain c.args.grammar.now) c.args.start c.args.count s →
        (k < c.loop-i.i) ⊎ (c.loop-i.i ≤ k) → k < c.loop-i.i + 1 → ⊥
    by_place k s at whole (inl before) low = c.loop-i.invariant k s before at whole
    by_place k s at whole (inr after) low =
        let spans = c.args.spans.now in let n = c.loop-i.i in let span = get_or spans n no_span in
        let here : slice_get spans n ≡ Some span = slice_get-get_or spans n no_span c.loop-i-test.true in
        let same : k ≡ n = omega arith in
        let is : s ≡ span = same_Some s span (sym (subst (λ m. slice_get spans m ≡ Some s) same at) ∙ here) in
        true≢false (sym (c.is_whole.ensures.1 (subst (IsWholeSpan (plain c.args.grammar.now) c.args.start c.args.count) is whole)) ∙ c.if-is_whole.false)

pub returns : goal.returns
returns c = (
  λ yes. absurd cc,
  λ some.
      let spans = c.args.spans.now in
      let place = contains_place spans some.0 some.1 in
      let within = slice_get_within spans place.0 some.0 place.1 in
      absurd (c.loop-i.invariant place.0 some.0 (omega arith) place.1 some.2),
)
