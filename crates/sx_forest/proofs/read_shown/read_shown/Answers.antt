use Rattle.std.proofs.Common.{◌∙◌, ℕ, List, length, subst, sym, true≢false}
use Rattle.std.specs.Prelude.{IfOk, IfErr}
use Rattle.sx_grammar.specs.Tables.{GrammarData}
use Rattle.sx_grammar.specs.Order.{IsRanking, rank_at}
use Rattle.sx_grammar.specs.Reading.{ReadsWhole}
use Rattle.sx_grammar.specs.ReadOne.{MoreHold, IsGreatestEnd}
use Rattle.sx_earley.specs.Shown.{plain, literal_texts, tokens_of, ShownBelow}
use Rattle.sx_earley.specs.Completed.{IsChart}
use Rattle.sx_forest.specs.Verdict.{IsFound, IsReadRefusal}
use Rattle.sx_forest.proofs.read_shown.read_shown.Goals as goal

pub has_reading-requires : goal.has_reading-requires
has_reading-requires c =
    subst (λ (d : GrammarData). IsChart (plain d) (tokens_of d c.args.shown.now) c.args.start c.spans.result.now) (sym c.grammar-grammar.ensures)
    (subst (IsChart (plain c.args.by.now) (tokens_of c.args.by.now c.args.shown.now) c.args.start) (sym c.spans.ensures) c.in_ok-chart.ensures.spans)

pub read_spans-requires-clause-below : goal.read_spans-requires-clause-below
read_spans-requires-clause-below c = subst (λ (d : GrammarData). ShownBelow (length (literal_texts d)) c.args.shown.now) (sym c.grammar-grammar.ensures) c.requires.below

pub read_spans-requires-clause-ranking : goal.read_spans-requires-clause-ranking
read_spans-requires-clause-ranking c = subst (λ (d : GrammarData). IsRanking (plain d) (rank_at c.args.ranks.now)) (sym c.grammar-grammar.ensures) c.requires.ranking

pub read_spans-requires-clause-chart : goal.read_spans-requires-clause-chart
read_spans-requires-clause-chart c =
    subst (λ (d : GrammarData). IsChart (plain d) (tokens_of d c.args.shown.now) c.args.start c.spans-then-has_reading.result.now) (sym c.grammar-grammar.ensures)
    (subst (IsChart (plain c.args.by.now) (tokens_of c.args.by.now c.args.shown.now) c.args.start) (sym c.spans-then-has_reading.ensures) c.in_ok-chart.ensures.spans)

pub read_spans-requires-clause-few : goal.read_spans-requires-clause-few
read_spans-requires-clause-few c =
    subst (λ (d : GrammarData). MoreHold (plain d) (tokens_of d c.args.shown.now) c.args.start 2000000 → ⊥) (sym c.grammar-grammar.ensures) c.in_ok-chart.ensures.few

pub returns-then-has_reading-clause-found : goal.returns-then-has_reading-clause-found
returns-then-has_reading-clause-found c =
    subst (λ (d : GrammarData). IfOk c.read_spans.result (IsFound (plain d) (tokens_of d c.args.shown.now) c.args.start)) c.grammar-grammar.ensures c.read_spans.ensures.found

pub returns-then-has_reading-clause-refused : goal.returns-then-has_reading-clause-refused
returns-then-has_reading-clause-refused c =
    subst (λ (d : GrammarData). IfErr c.read_spans.result (λ e. (labels texts : List (List ℕ)) → IsReadRefusal labels texts (plain d) (tokens_of d c.args.shown.now) c.args.start e)) c.grammar-grammar.ensures
    c.read_spans.ensures.refused

pub returns-clause-refused : goal.returns-clause-refused
returns-clause-refused c = λ labels texts. (
  c.in_ok-chart.ensures.few,
  λ r reads. true≢false (sym (c.has_reading.ensures.1 (r, subst (λ (d : GrammarData). ReadsWhole (plain d) (tokens_of d c.args.shown.now) c.args.start r) (sym c.grammar-grammar.ensures) reads)) ∙ c.if-has_reading.false),
  subst (IsGreatestEnd (plain c.args.by.now) (tokens_of c.args.by.now c.args.shown.now) c.args.start) (sym c.reach.ensures) c.in_ok-chart.ensures.reach,
)
