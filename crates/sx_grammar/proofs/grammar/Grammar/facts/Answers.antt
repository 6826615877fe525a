use Rattle.std.proofs.Common.{arith, length, subst, ◌<◌, ◌^◌}
use Rattle.sx_grammar.specs.Grammar.{HasLevels}
use Rattle.sx_grammar.specs.Cyclic.{IsNotCyclic}
use Rattle.sx_grammar.specs.Print.{BracketsWhereAsked}
use Rattle.sx_grammar.specs.Parts.{parts, literals, numbered}
use Rattle.sx_grammar.specs.Made.{IsGrammar}
use Rattle.sx_grammar.specs.Tables.{literals_of}
use Rattle.sx_grammar.proofs.Finding.{distinct_are}
use Rattle.sx_grammar.proofs.TableLaws.{distinct_short}
use Rattle.sx_grammar.proofs.GrammarLaws.{levels_asked, grammar_brackets}
use Rattle.sx_grammar.proofs.grammar.Grammar.facts.Goals as goal

pub returns-clause-grammar : goal.returns-clause-grammar
returns-clause-grammar c = subst (λ d. IsGrammar d.parts) c.self.view_is c.self.invariant.is_grammar

pub returns-clause-literals : goal.returns-clause-literals
returns-clause-literals c = distinct_are (literals c.args.self.now.parts)

pub returns-clause-few : goal.returns-clause-few
returns-clause-few c =
    subst (λ d. length (literals_of d.parts) < 2 ^ 32) c.self.view_is
    (omega (arith, distinct_short (literals (parts c.self.inside.parts)), c.self.invariant.limits.literals))

pub returns-clause-levels : goal.returns-clause-levels
returns-clause-levels c = subst (λ d. HasLevels (numbered d.parts)) c.self.view_is (levels_asked (parts c.self.inside.parts) c.self.invariant.limits.levels)

pub returns-clause-brackets : goal.returns-clause-brackets
returns-clause-brackets c = subst (λ d. BracketsWhereAsked (numbered d.parts)) c.self.view_is (grammar_brackets (parts c.self.inside.parts) c.self.invariant.is_grammar)

pub returns-clause-not_cyclic : goal.returns-clause-not_cyclic
returns-clause-not_cyclic c = subst (λ d. IsNotCyclic (numbered d.parts)) c.self.view_is c.self.invariant.is_grammar.1
