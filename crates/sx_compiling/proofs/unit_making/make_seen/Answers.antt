use Rattle.std.proofs.Common.{List, refl, sym, subst, arith}
use Rattle.std.specs.Prelude.{Ok, Err}
use Rattle.sx_term.specs.Term.{tree}
use Rattle.sx_grammar.specs.Grammar.{Text}
use Rattle.sx_grammar.specs.Tables.{literals_of}
use Rattle.sx_interface.specs.Interfaces.{InterfaceParts}
use Rattle.sx_interface.specs.StatedHeader.{ArePlainNames}
use Rattle.sx_notation.specs.Language.{LanguageData}
use Rattle.sx_interface.specs.FreeNames.{AreFree}
use Rattle.sx_unit.specs.Written.{unit_of}
use Rattle.sx_environment.specs.SeenFrom.{interfaces_of, seen_from}
use Rattle.sx_steps.specs.Steps.{Untried}
use Rattle.sx_steps.specs.Stop.{Gives}
use Rattle.sx_steps.proofs.StepsOn.{goes_from, stops_at, untried}
use Rattle.sx_importing.specs.MakeEnvironment.{SeesImports}
use Rattle.sx_compiling.specs.CanMake.{given_of}
use Rattle.sx_compiling.specs.Given.{interfaces_in}
use Rattle.sx_compiling.specs.MakeUnit.{MakesIn}
use Rattle.sx_compiling.proofs.ImportsGiven.{parts_same, named_free}
use Rattle.sx_compiling.proofs.unit_making.make_seen.Goals as goal

pub make_environment-requires : goal.make_environment-requires
make_environment-requires g c =
    let given = c.args.given.now in
    let its = interfaces_of given.imports.now in
    let d = (seen_from c.args.seen.now).dialect.language in
    let can = c.requires.can in
    let free = subst (λ (l : LanguageData). AreFree (literals_of l.parts)
    given.source.now.header.imports.items) (sym c.requires.language) c.requires.free in
    record {
      dialect = c.requires.dialect;
      short = can.within;
      named = named_free (literals_of d.parts) its
          (subst ArePlainNames (sym can.named) can.headed.1.states.imports)
          (subst (λ (names : List Text). AreFree (literals_of d.parts) names) (sym can.named)
          free);
    }

pub returns-in-Ok-clause-step : goal.returns-in-Ok-clause-step
returns-in-Ok-clause-step g c =
    let given = given_of c.args.given.now in
    let s = seen_from c.args.seen.now in
    goes_from unit_of (Untried (SeesImports given.file s (interfaces_in given)))
    (MakesIn c.args.budgets given s) (tree c.in-Ok.environment) c.make_in-unit.result
    c.args.steps.now c.args.steps.now c.make_in-unit.new.steps (
      0,
      (
        subst (λ (its : List InterfaceParts). SeesImports given.file s its
            (Ok (tree c.in-Ok.environment))) (parts_same c.args.given.now.imports.now)
            c.in-Ok.ensures.step,
        refl,
      ),
      omega arith,
    )
    c.make_in-unit.ensures.step

pub returns-in-Err-clause-step : goal.returns-in-Err-clause-step
returns-in-Err-clause-step g c =
    let given = given_of c.args.given.now in
    let s = seen_from c.args.seen.now in
    stops_at tree unit_of (Untried (SeesImports given.file s (interfaces_in given)))
    (MakesIn c.args.budgets given s) c.in-Err.e c.args.steps.now c.args.steps.now
    (untried tree (SeesImports given.file s (interfaces_in given)) (Err c.in-Err.e)
    c.args.steps.now
    (subst (λ (its : List InterfaceParts). Gives tree (SeesImports given.file s its)
    (Err c.in-Err.e)) (parts_same c.args.given.now.imports.now) c.in-Err.ensures.step))
