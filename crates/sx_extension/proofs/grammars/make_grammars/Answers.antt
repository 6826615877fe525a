use Rattle.std.proofs.Common.{length, map, ap, ◌∙◌, sym}
use Rattle.std.proofs.lemmas.List.{length-map}
use Rattle.sx_grammar.specs.Parts.{line}
use Rattle.sx_rules.specs.Views.{form}
use Rattle.sx_extension.specs.Grounds.{ground}
use Rattle.sx_extension.proofs.Grammaring.{own_refused, can_extend, grammars_are, rules_refused}
use Rattle.sx_extension.proofs.grammars.make_grammars.Goals as goal

pub returns-in-Err-clause-refused : goal.returns-in-Err-clause-refused
returns-in-Err-clause-refused c = own_refused (ground c.args.before.now) (map line c.args.own.items) c.in-Err.error c.grammar_error.result c.in-Err.ensures c.grammar_error.ensures

pub extended_rule_grammar-requires : goal.extended_rule_grammar-requires
extended_rule_grammar-requires c =
    can_extend (ground c.args.before.now) (map line c.args.own.items) c.requires.before c.requires.room c.in-Ok.grammar c.in-Ok.ensures (length c.forms-forms.result.now)
    (sym (length-map c.forms-forms.result.now form) ∙ ap length c.forms-forms.ensures)

pub returns-in-Ok-extended_rule_grammar-clause-made : goal.returns-in-Ok-extended_rule_grammar-clause-made
returns-in-Ok-extended_rule_grammar-clause-made c =
    grammars_are (ground c.args.before.now) (map line c.args.own.items) c.requires.before c.requires.room c.in-Ok.grammar c.in-Ok.ensures (length c.forms-forms.result.now)
    (sym (length-map c.forms-forms.result.now form) ∙ ap length c.forms-forms.ensures) c.in-Ok-extended_rule_grammar.rule_grammar c.in-Ok-extended_rule_grammar.ensures

pub returns-in-Err-extended_rule_grammar-clause-refused : goal.returns-in-Err-extended_rule_grammar-clause-refused
returns-in-Err-extended_rule_grammar-clause-refused c =
    rules_refused (ground c.args.before.now) (map line c.args.own.items) c.requires.before c.requires.room c.in-Ok.grammar c.in-Ok.ensures (length c.forms-forms.result.now)
    (sym (length-map c.forms-forms.result.now form) ∙ ap length c.forms-forms.ensures) c.in-Err-extended_rule_grammar.error c.grammar_error-in-Err-extended_rule_grammar.result c.in-Err-extended_rule_grammar.ensures
    c.grammar_error-in-Err-extended_rule_grammar.ensures
