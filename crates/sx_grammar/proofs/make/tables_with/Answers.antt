use Rattle.std.proofs.Common.{subst, sym, ◌∙◌, ◌≡◌, length}
use Rattle.sx_grammar.specs.Parts.{parts}
use Rattle.sx_grammar.specs.Tables.{HaveLiteralsBelow, AreNumberedPairs}
use Rattle.sx_grammar.proofs.make.tables_with.Goals as goal

pub returns-in-Ok-clause-tables : goal.returns-in-Ok-clause-tables
returns-in-Ok-clause-tables c =
    let p = parts c.args.from.now in
    let same : c.args.literal_names ≡ c.args.literals.items = c.requires.literals ∙ sym c.requires.texts in
    λ base le. record {
      is_grammar = c.in-Ok.ensures.good;
      limits = c.requires.limits;
      based = le;
      has_texts = c.requires.texts;
      has_productions = c.in-Ok.ensures.same;
      below = subst (λ l. HaveLiteralsBelow (length l) c.in-Ok.field-0.productions.items) same c.in-Ok.ensures.below;
      has_brackets = subst (λ l. AreNumberedPairs l p.sorts c.in-Ok.field-0.brackets.items) same c.in-Ok.ensures.pairs;
      has_sorts = c.requires.sorts;
      has_known = same;
      ranked = c.in-Ok.ensures.ranking;
    }
