use Rattle.std.proofs.Common.{◌∙◌, ap, length, map, sym, subst}
use Rattle.sx_grammar.specs.Parts.{line, parts}
use Rattle.sx_grammar.specs.Distinct.{distinct}
use Rattle.sx_grammar.specs.Tables.{AreNumberedPairs, HaveLiteralsBelow}
use Rattle.sx_grammar.proofs.Widening.{literals_grown}
use Rattle.sx_grammar.proofs.growing.all_behind.Goals as goal

pub numbered_behind-requires-clause-literals : goal.numbered_behind-requires-clause-literals
numbered_behind-requires-clause-literals c = c.in_ok-literals.ensures.names ∙ ap distinct (sym (literals_grown c.args.base.now.parts (map line c.args.more.now) (parts c.args.from.now) c.requires.behind))

pub returns-in-Ok-clause-tables : goal.returns-in-Ok-clause-tables
returns-in-Ok-clause-tables c =
    let p = parts c.args.from.now in
    let all = c.in-Ok.ensures in
    let grown = ap distinct (sym (literals_grown c.args.base.now.parts (map line c.args.more.now) p c.requires.behind)) in
    let same = c.in_ok-literals.ensures.names ∙ sym c.in_ok-literals.ensures.texts in
    λ base le. record {
      is_grammar = all.good;
      limits = c.requires.limits;
      based = le;
      has_texts = c.in_ok-literals.ensures.texts ∙ grown;
      has_productions = all.same;
      below = subst (λ l. HaveLiteralsBelow (length l) c.in-Ok.numbered.productions.items) same all.below;
      has_brackets = subst (λ l. AreNumberedPairs l p.sorts c.in-Ok.numbered.brackets.items) same all.pairs;
      has_sorts = c.requires.sorts;
      has_known = same;
      ranked = all.ranking;
    }
