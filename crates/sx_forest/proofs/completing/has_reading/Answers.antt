use Rattle.std.proofs.Common.{◌≡◌, ◌∙◌, ⊎_elim, sym, subst, length, true≢false}
use Rattle.std.proofs.lemmas.List.{length-map}
use Rattle.sx_earley.specs.Shown.{plain, literal_texts, token_of, tokens_of}
use Rattle.sx_forest.specs.Verdict.{IsWholeSpan}
use Rattle.sx_forest.proofs.WholeSpans.{span_read, variable_read, read_so}
use Rattle.sx_forest.proofs.completing.has_reading.Goals as goal

pub returns-then-is_variable : goal.returns-then-is_variable
returns-then-is_variable c =
    let d = c.args.grammar.now in let shown = c.args.shown.now in
    let long : length (tokens_of d shown) ≡ length shown = length-map shown (token_of (literal_texts d)) in
    let one = (c.is_variable.ensures d).0 c.if-is_variable.true in
    (λ _. variable_read (plain d) (tokens_of d shown) c.args.start c.args.spans.now c.requires (long ∙ one.0) one.1, λ _. c.if-is_variable.true)

pub returns-else-is_variable : goal.returns-else-is_variable
returns-else-is_variable c =
    let d = c.args.grammar.now in let shown = c.args.shown.now in let g = plain d in let ts = tokens_of d shown in
    let spans = c.args.spans.now in let start = c.args.start in
    let long : length ts ≡ length shown = length-map shown (token_of (literal_texts d)) in (
      λ yes.
          let w = c.has_whole.ensures.0 yes in
          span_read g ts start spans c.requires w.0 w.1 (subst (λ n. IsWholeSpan g start n w.0) (sym long) w.2),
      λ some.
          ⊎_elim
          (λ one. absurd (true≢false (sym ((c.is_variable.ensures d).1 (sym long ∙ one.0, one.1)) ∙ c.if-is_variable.false)))
          (λ w. c.has_whole.ensures.1 (w.0, w.1, subst (λ n. IsWholeSpan g start n w.0) long w.2))
          (read_so g ts start spans c.requires c.facts.ensures.levels some.0 some.1),
    )
