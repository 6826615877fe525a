use Rattle.std.proofs.Common.{◌∙◌, map, sym, subst}
use Rattle.std.specs.Prelude.{option_map}
use Rattle.sx_term.specs.Term.{tree}
use Rattle.sx_earley.specs.Tokens.{Stems}
use Rattle.sx_rules.specs.Views as view
use Rattle.sx_outline.specs.Stages.{rule_data}
use Rattle.sx_language.specs.RuleTexts.{NamesHaveStems}
use Rattle.sx_language.specs.Readers.{reader}
use Rattle.sx_language.proofs.StemNames.{stated_stems}
use Rattle.sx_language.proofs.rule_reading.read_rule.Goals as goal

pub sorts_of-requires-clause-known : goal.sorts_of-requires-clause-known
sorts_of-requires-clause-known c =
    let x = c.in-Ok.stated in
    let all = stated_stems (reader c.args.by.now) (rule_data c.args.lines.now) c.read_stated.new.vars (map view.premise x.premises.items) (view.judgement x.conclusion) (option_map tree x.body) c.in-Ok.ensures.read in
    subst (λ (stems : Stems). NamesHaveStems stems c.read_stated.new.vars) (sym (c.stems.ensures ∙ c.requires.tables.1)) all
