use Rattle.std.proofs.Common.{map}
use Rattle.sx_notation.specs.Language.{language_data}
use Rattle.sx_unit.specs.Written.{unit_of}
use Rattle.sx_steps.proofs.StepsOn.{goes_from, stops_at}
use Rattle.sx_uses.specs.ExtensionFile.{extension_of}
use Rattle.sx_accepting.specs.ExtendedLanguages.{base_of, extended_data, unextended}
use Rattle.sx_accepting.specs.Extending.{ExtendsLanguage}
use Rattle.sx_compiling.specs.CanMake.{given_of}
use Rattle.sx_compiling.specs.Given.{seen_in}
use Rattle.sx_compiling.specs.MakeUnit.{MakesSeeing}
use Rattle.sx_compiling.proofs.unit_making.make_with.Goals as goal

pub extend_language-requires-clause-text : goal.extend_language-requires-clause-text
extend_language-requires-clause-text g c =
    (c.args.given.now.source.now.header.language, c.requires.can.text)

pub make_extended-unit-requires-clause-extends : goal.make_extended-unit-requires-clause-extends
make_extended-unit-requires-clause-extends g c =
    let made = c.in-Ok.ensures.step in
    record {
      budgets = c.args.budgets;
      files = map extension_of c.args.files.now;
      tries = made.0;
      extends = made.1;
    }

pub returns-in-Ok-clause-step : goal.returns-in-Ok-clause-step
returns-in-Ok-clause-step g c =
    let given = given_of c.args.given.now in
    let l = c.args.given.now.language.now.language in
    let b = c.args.budgets in
    let xs = map extension_of c.args.files.now in
    goes_from unit_of (ExtendsLanguage (base_of l) b xs (unextended (language_data l)))
    (λ x. MakesSeeing b given (seen_in given xs x)) (extended_data l c.in-Ok.extended)
    c.make_extended-unit.result c.args.steps.now c.extend_language.new.steps
    c.make_extended-unit.new.steps c.in-Ok.ensures.step c.make_extended-unit.ensures.step

pub returns-in-Err-clause-step : goal.returns-in-Err-clause-step
returns-in-Err-clause-step g c =
    let given = given_of c.args.given.now in
    let l = c.args.given.now.language.now.language in
    let b = c.args.budgets in
    let xs = map extension_of c.args.files.now in
    stops_at (extended_data l) unit_of (ExtendsLanguage (base_of l) b xs (unextended (language_data l)))
    (λ x. MakesSeeing b given (seen_in given xs x)) c.in-Err.e c.args.steps.now
    c.extend_language.new.steps c.in-Err.ensures.step
