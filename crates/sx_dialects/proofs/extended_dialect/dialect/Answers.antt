use Rattle.std.proofs.Common.{sym, ap, ◌∙◌, subst}
use Rattle.sx_rules.specs.Sets.{forms_in, rules_in}
use Rattle.sx_rewrite.specs.declared.accepted.Accepted.{Accepted}
use Rattle.sx_rewrite.specs.AcceptedView.{accepted}
use Rattle.sx_notation.specs.Language.{language_data}
use Rattle.sx_typing.specs.Dialects.{IsDialect}
use Rattle.sx_dialects.proofs.LanguagesBegun.{grown_so_far}
use Rattle.sx_dialects.proofs.extended_dialect.dialect.Goals as goal

pub returns-clause-data : goal.returns-clause-data
returns-clause-data c = λ i. record {
  language = language_data c.args.language.now;
  parts = (c.grammar-grammar.ensures i).parts;
  rule_parts = (c.rule_grammar-rule_grammar.ensures i).parts;
  rules = rules_in (c.accepted-accepted.ensures i).rules;
  set = accepted (c.accepted-accepted.ensures i);
}

pub returns-clause-is : goal.returns-clause-is
returns-clause-is c =
    let text = c.requires.text in
    let grown = grown_so_far text.0 c.args.language.now c.args.extended.now text.1
    c.requires.language c.requires.extended in
    record {
      is = subst IsDialect (sym (returns-clause-data c)) grown.is;
      forms = c.facts.ensures.forms ∙ ap (λ (a : Accepted). forms_in a.base)
          c.accepted-accepted.ensures ∙ grown.over.forms;
    }
