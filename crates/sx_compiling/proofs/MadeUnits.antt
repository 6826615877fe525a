-- The units that the steps make.
use Rattle.std.proofs.Common.{ℕ}
use Rattle.std.specs.Prelude.{Ok}
use Rattle.sx_grammar.specs.Tables.{literals_of}
use Rattle.sx_extcheck.specs.declared.budgets.Budgets.{Budgets}
use Rattle.sx_typing.specs.Dialects.{IsDialect}
use Rattle.sx_outside.specs.Files.{Files}
use Rattle.sx_steps.specs.Steps.{Untried}
use Rattle.sx_steps.proofs.StepsOn.{went_on}
use Rattle.sx_uses.specs.ReadUses.{ReadsUses}
use Rattle.sx_accepting.specs.ExtendedLanguages.{ExtendedData, unextended}
use Rattle.sx_accepting.specs.Extending.{ExtendsLanguage}
use Rattle.sx_accepting.specs.ReadLanguage.{base_in}
use Rattle.sx_accepting.proofs.OneExtended.{extended_is_accepted}
use Rattle.sx_dialects.specs.Dialects.{dialect_in}
use Rattle.sx_dialects.proofs.LanguagesBegun.{extended_is_dialect}
use Rattle.sx_headers.specs.FreeImports.{HasFreeImports}
use Rattle.sx_importing.specs.MakeEnvironment.{SeesImports}
use Rattle.sx_compiling.specs.Given.{GivenModule, interfaces_in, seen_in}
use Rattle.sx_compiling.specs.Headline.{UnitsKeepPromise}
use Rattle.sx_compiling.specs.MakeUnit.{MakesIn, MakesSeeing, MakesExtended, MakesReached}
use Rattle.sx_compiling.specs.Reached.{HasNamedLanguage, ReachesExtensions, ExtendsReached, HasDialect}

-- what is reached and accepted gives a dialect
abbrev pub dialect_by : (budgets : Budgets) (files : Files) (g : GivenModule) → HasNamedLanguage g →
    (r : ReachesExtensions files g) (x : ExtendedData) (tries : ℕ) →
    ExtendsReached budgets files g r (Ok x) tries → HasDialect budgets files g
dialect_by budgets files g l r x tries extends = record {
  from = r;
  extended = x;
  tries = tries;
  extends = extends;
  accepted = extended_is_accepted g.read.header.language l.bytes g.language l.states budgets
      r.extensions x tries extends;
}

-- the dialect of a module is one
pub dialect_is : (budgets : Budgets) (files : Files) (g : GivenModule) → HasNamedLanguage g →
    (d : HasDialect budgets files g) → IsDialect (dialect_in g.language.language d.extended)
dialect_is budgets files g l d =
    extended_is_dialect g.read.header.language l.bytes g.language l.states budgets d.from.extensions
    d.extended d.tries d.extends

pub units_keep_promise : UnitsKeepPromise
units_keep_promise budgets files g unit tries l made =
    let free = went_on
    (Untried (HasFreeImports g.file (literals_of g.language.language.parts) g.read))
    (λ done. MakesReached budgets files g) unit tries made in
    let reached = went_on
    (Untried (ReadsUses g.file g.read.header.language g.read.header.uses files))
    (MakesExtended budgets g) unit free.after free.goes in
    let xs = reached.given in
    let extended = went_on
    (ExtendsLanguage (base_in g.language) budgets xs (unextended g.language.language))
    (λ x. MakesSeeing budgets g (seen_in g xs x)) unit reached.after reached.goes in
    let s = seen_in g xs extended.given in
    let seen = went_on (Untried (SeesImports g.file s (interfaces_in g))) (MakesIn budgets g s) unit
    extended.after extended.goes in
    let from : ReachesExtensions files g = record {
      free = free.begins.0;
      extensions = xs;
      reached = reached.begins.0;
    } in
    record {
      ground = record {
        over = dialect_by budgets files g l from extended.given extended.before extended.begins;
        environment = seen.given;
        sees = seen.begins.0.0;
        depth = seen.begins.0.1;
      };
      compiled = seen.goes.0.is;
    }
