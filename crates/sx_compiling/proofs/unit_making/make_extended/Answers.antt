use Rattle.std.proofs.Common.{◌∙◌, List, map, ap, subst}
use Rattle.std.specs.Prelude.{IfOk}
use Rattle.sx_interface.specs.declared.interfaces.ImportMark.{ImportMark}
use Rattle.sx_interface.specs.InterfaceView.{marks_view}
use Rattle.sx_notation.specs.declared.language.Language.{Language}
use Rattle.sx_notation.specs.Language.{language_data}
use Rattle.sx_typing.specs.Dialects.{DialectData, dialect_of}
use Rattle.sx_unit.specs.Written.{unit_of}
use Rattle.sx_environment.specs.SeenFrom.{SeenFrom}
use Rattle.sx_steps.specs.Stop.{Does}
use Rattle.sx_steps.specs.Steps.{NoTries}
use Rattle.sx_steps.proofs.StepsOn.{lacks_first}
use Rattle.sx_uses.specs.ExtensionFile.{extension_of}
use Rattle.sx_accepting.specs.ExtendedLanguages.{extended_data}
use Rattle.sx_dialects.specs.Dialects.{dialect_in}
use Rattle.sx_importing.specs.MakeEnvironment.{SeesImports}
use Rattle.sx_compiling.specs.CanMake.{HasDerivationList, given_of}
use Rattle.sx_compiling.specs.Given.{interfaces_in, seen_in, use_mark}
use Rattle.sx_compiling.specs.MakeUnit.{MakesIn, MakesSeeing}
use Rattle.sx_compiling.proofs.SeenGiven.{seen_same}
use Rattle.sx_compiling.proofs.unit_making.make_extended.Goals as goal

pub dialect-requires-clause-text : goal.dialect-requires-clause-text
dialect-requires-clause-text g c =
    (c.args.given.now.source.now.header.language, c.requires.can.text)

pub make_seen-unit-requires-clause-language : goal.make_seen-unit-requires-clause-language
make_seen-unit-requires-clause-language g c =
    ap (λ (d : DialectData). d.language) c.dialect.ensures.data

pub returns-clause-step : goal.returns-clause-step
returns-clause-step g c =
    let given = c.args.given.now in
    let l = given.language.now in
    let content = language_data l.language in
    let xs = map extension_of c.args.files.now in
    subst (λ (s : SeenFrom). Does unit_of (MakesSeeing c.args.budgets (given_of given) s)
    c.make_seen-unit.result c.args.steps.now c.make_seen-unit.new.steps)
    (seen_same (dialect_of c.dialect.result)
    (dialect_in content (extended_data l.language c.args.extended.now))
    c.dialect.result.language.now.name given.source.now.header.language l.digest.bytes
    (marks_view c.deref.result.now) (map use_mark xs) c.dialect.ensures.data
    (ap (λ (known : Language). known.name) c.dialect.ensures.language
    ∙ c.requires.can.text.states.named)
    (ap (λ (marks : List ImportMark). marks_view marks) c.deref.ensures.value ∙ c.in-Ok.ensures))
    c.make_seen-unit.ensures.step

pub returns-in-Err-clause-step : goal.returns-in-Err-clause-step
returns-in-Err-clause-step g c =
    let given = given_of c.args.given.now in
    let s = seen_in given (map extension_of c.args.files.now)
    (extended_data c.args.given.now.language.now.language c.args.extended.now) in
    lacks_first unit_of NoTries (SeesImports given.file s (interfaces_in given))
    (MakesIn c.args.budgets given s) c.args.steps.now

pub returns-clause-list : goal.returns-clause-list
returns-clause-list g c =
    subst (λ (l : Language). IfOk c.make_seen-unit.result (HasDerivationList l)) c.dialect.ensures.language
    c.make_seen-unit.ensures.list
