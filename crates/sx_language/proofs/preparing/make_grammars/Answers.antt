use Rattle.sx_grammar.specs.Parts.{parts}
use Rattle.sx_language.proofs.Stating.{base_refused, rule_refused, rule_made}
use Rattle.sx_language.proofs.preparing.make_grammars.Goals as goal

pub returns-in-Err-clause-refused : goal.returns-in-Err-clause-refused
returns-in-Err-clause-refused c = base_refused (parts c.args.from) c.args.forms.now c.in-Err.error c.grammar_error.result c.in-Err.ensures c.grammar_error.ensures

pub returns-in-Ok-rule_grammar-clause-rule : goal.returns-in-Ok-rule_grammar-clause-rule
returns-in-Ok-rule_grammar-clause-rule c = rule_made (parts c.args.from) c.in-Ok.base c.args.forms.now c.in-Ok-rule_grammar.rule c.in-Ok.ensures.0 c.in-Ok-rule_grammar.ensures

pub returns-in-Err-rule_grammar-clause-refused : goal.returns-in-Err-rule_grammar-clause-refused
returns-in-Err-rule_grammar-clause-refused c =
    rule_refused (parts c.args.from) c.in-Ok.base c.args.forms.now c.in-Err-rule_grammar.error c.grammar_error-in-Err-rule_grammar.result c.in-Ok.ensures.0 c.in-Ok.ensures.1 c.in-Err-rule_grammar.ensures
    c.grammar_error-in-Err-rule_grammar.ensures
