-- The steps that make a unit stop with a type error only where the module has no type, or where a
-- rule of an extension is not sound.
use Rattle.std.proofs.Common.{◌≡◌, ℕ, List, [], inl, inr, ◌⊎◌, refl}
use Rattle.std.specs.Prelude.{Ok, Some}
use Rattle.sx_token.specs.declared.token_error.TokenError.{TokenError}
use Rattle.sx_token.specs.declared.token_error.TokenError.TheVariants as token_error
use Rattle.sx_grammar.specs.Tables.{literals_of}
use Rattle.sx_grammar.specs.Told.{shapes_of}
use Rattle.sx_outside.specs.Files.{Files}
use Rattle.sx_rules.specs.Modes.{AllModed}
use Rattle.sx_rules.specs.Views.{modes_of}
use Rattle.sx_rules.proofs.Refusals.{good_moded}
use Rattle.sx_extcheck.specs.declared.budgets.Budgets.{Budgets}
use Rattle.sx_interface.specs.Interfaces.{InterfaceParts}
use Rattle.sx_notation.specs.declared.unread.Unread.{Unread}
use Rattle.sx_notation.specs.declared.unread.Unread.TheVariants as unread
use Rattle.sx_typing.specs.Dialects.{DialectData, IsDialect}
use Rattle.sx_typing.specs.Goals.{dialect_rules}
use Rattle.sx_typing.specs.Refused.{IsUntyped}
use Rattle.sx_typing.specs.declared.module_error.ModuleError.{ModuleError}
use Rattle.sx_typing.specs.declared.module_error.ModuleError.TheVariants as module_error
use Rattle.sx_unit.specs.Modules.{ModuleData}
use Rattle.sx_unit.specs.Refused.{IsBadModule}
use Rattle.sx_unit.proofs.Units.{final as module_errors_are_final}
use Rattle.sx_environment.specs.declared.import_error.ImportError.{ImportError}
use Rattle.sx_environment.specs.declared.import_error.ImportError.TheVariants as import_error
use Rattle.sx_environment.specs.SeenFrom.{SeenFrom}
use Rattle.sx_steps.specs.declared.stop.Stop.{Stop}
use Rattle.sx_steps.specs.Steps.{NoTries, Untried}
use Rattle.sx_steps.proofs.TypeErrors.{OnTypeError, on_stop, no_type_error, Final, FinalTrying}
use Rattle.sx_steps.proofs.TypeErrors.{trying_final, and_then_final}
use Rattle.sx_uses.specs.ReadUses.{ReadsUses}
use Rattle.sx_uses.proofs.TypeErrors.{uses_final}
use Rattle.sx_accepting.specs.ExtendedLanguages.{unextended}
use Rattle.sx_accepting.specs.Extending.{ExtendsLanguage}
use Rattle.sx_accepting.specs.ReadLanguage.{base_in}
use Rattle.sx_accepting.proofs.UnsoundRules.{unsound_is_final}
use Rattle.sx_headers.specs.FreeImports.{HasFreeImports}
use Rattle.sx_headers.specs.HeaderRows.{header_row_line, import_row}
use Rattle.sx_headers.specs.HeaderStops.{bad_header}
use Rattle.sx_headers.specs.ReadModule.{Module}
use Rattle.sx_headers.specs.TextStops.{uncut_text, unread_text}
use Rattle.sx_importing.specs.ImportStops.{import_file, import_stop}
use Rattle.sx_importing.specs.MakeEnvironment.{SeesImports}
use Rattle.sx_compiling.specs.ModuleStops.{untyped, module_stop}
use Rattle.sx_compiling.specs.CompileModule.{Compiles, CompilingTries}
use Rattle.sx_compiling.specs.Given.{GivenModule, interfaces_in, seen_in}
use Rattle.sx_compiling.specs.MakeUnit.{MakesIn, MakesSeeing, MakesExtended, MakesReached}
use Rattle.sx_compiling.specs.Reached.{HasNamedLanguage, ReachesExtensions, HasDialect, HasGround}
use Rattle.sx_compiling.specs.Reached.{seen_over, module_over}
use Rattle.sx_compiling.specs.Laws.{HasNoType, HasUnsoundRule, TypeErrorsOfUnitsAreFinal}
use Rattle.sx_compiling.proofs.MadeUnits.{dialect_by, dialect_is}

-- the rules of a dialect can be followed
is_moded : (d : DialectData) → IsDialect d → AllModed (modes_of d.language.forms) (dialect_rules d)
is_moded d is = good_moded (shapes_of d.parts) d.language.forms [] d.rules is.rule_set.1

module _ (Q : Stop → Type 0) where
  -- ---- stops

  text_uncut : (file : List ℕ) (line column : ℕ) (e : TokenError) →
      OnTypeError Q (uncut_text file line column e)
  text_uncut file line column token_error.Memory = tt
  text_uncut file line column (token_error.NotUtf8 place) = λ h. absurd h
  text_uncut file line column (token_error.BadToken place) = λ h. absurd h
  text_uncut file line column token_error.TooManyTokens = λ h. absurd h
  text_uncut file line column (token_error.OpenString place) = λ h. absurd h

  text_unread : (file : List ℕ) (line column : ℕ) (e : Unread) →
      OnTypeError Q (Some (unread_text file line column e))
  text_unread file line column unread.TooHard = λ h. absurd h
  text_unread file line column (unread.NoReading place) = λ h. absurd h
  text_unread file line column (unread.TooDeep depth) = λ h. absurd h
  text_unread file line column (unread.Ambiguous one other) = λ h. absurd h

  module _ (file : List ℕ) (m : ModuleData) (b : Budgets) (is : IsDialect m.source.dialect)
      (so : (stop : Stop) → stop.file ≡ file → IsUntyped m.source → Q stop) where
    no_module : (e : ModuleError) → IsBadModule m b e → OnTypeError Q (module_stop file e)
    no_module module_error.Memory h = tt
    no_module (module_error.Token line column e) h = text_uncut file line column e
    no_module (module_error.Read line column e) h = text_unread file line column e
    no_module (module_error.TypeError line column text) h = λ error.
        so (untyped file line column text) refl
        (module_errors_are_final m b line column text (is_moded m.source.dialect is) h)
    no_module (module_error.BudgetSpent n) h = λ error. absurd error
    no_module module_error.DepthSpent h = λ error. absurd error
    no_module (module_error.TooDeep n) h = λ error. absurd error
    no_module (module_error.TooBig n) h = λ error. absurd error
    no_module (module_error.RewriteSpent n) h = λ error. absurd error
    no_module module_error.RewriteDeep h = λ error. absurd error
    no_module (module_error.Print part defect) h = λ error. absurd error
    no_module (module_error.Captured word) h = λ error. absurd error

    compiles_final : Final Q (Compiles file b m)
    compiles_final stop h =
        on_stop Q (module_stop file h.error) stop (no_module h.error h.refused) h.is

  -- ---- steps

  free_final : (file : List ℕ) (literals : List (List ℕ)) (m : Module) →
      Final Q (HasFreeImports file literals m)
  free_final file literals m stop h =
      no_type_error Q (bad_header file (header_row_line m (import_row m.header h.0))) stop (λ h. h) h.2

  module _ (file : List ℕ) (its : List InterfaceParts) where
    no_import : (e : ImportError) → OnTypeError Q (import_stop file its e)
    no_import import_error.Memory = tt
    no_import (import_error.LanguageDiffers import language) = λ h. absurd h
    no_import (import_error.Differs import kept found) = λ h. absurd h
    no_import (import_error.Token import line column e) =
        text_uncut (import_file its import) line column e
    no_import (import_error.Read import line column u) =
        text_unread (import_file its import) line column u
    no_import (import_error.StatedDiffers import kept found) = λ h. absurd h
    no_import (import_error.TooDeep depth) = λ h. absurd h

    sees_final : (s : SeenFrom) → Final Q (SeesImports file s its)
    sees_final s stop h = on_stop Q (import_stop file its h.0) stop (no_import h.0) h.2

-- ---- all of them

module _ (budgets : Budgets) (files : Files) (g : GivenModule) (l : HasNamedLanguage g) where
  abbrev Q : Stop → Type 0
  Q stop = HasNoType budgets files g stop ⊎ HasUnsoundRule budgets files g stop

  unit_final : (d : HasGround budgets files g) →
      FinalTrying Q (MakesIn budgets g (seen_over d.over) d.environment)
  unit_final d =
      trying_final Q (CompilingTries budgets (module_over d))
      (Compiles g.file budgets (module_over d))
      (compiles_final Q g.file (module_over d) budgets (dialect_is budgets files g l d.over)
      (λ stop file none. inl (record { ground = d; untyped = none; file = file })))

  seeing_final : (d : HasDialect budgets files g) → FinalTrying Q (MakesSeeing budgets g
      (seen_over d))
  seeing_final d =
      and_then_final Q (Untried (SeesImports g.file (seen_over d) (interfaces_in g)))
      (MakesIn budgets g (seen_over d))
      (trying_final Q NoTries (SeesImports g.file (seen_over d) (interfaces_in g))
      (sees_final Q g.file (interfaces_in g) (seen_over d)))
      (λ t before sees. unit_final (record {
        over = d;
        environment = t;
        sees = sees.0.0;
        depth = sees.0.1;
      }))

  all_final : (r : ReachesExtensions files g) → FinalTrying Q (MakesExtended budgets g r.extensions)
  all_final r =
      and_then_final Q
      (ExtendsLanguage (base_in g.language) budgets r.extensions (unextended g.language.language))
      (λ x. MakesSeeing budgets g (seen_in g r.extensions x))
      (λ stop tries h error. inr (record {
        from = r;
        unsound = unsound_is_final g.read.header.language l.bytes g.language l.states budgets
            r.extensions stop tries h error;
      }))
      (λ x before h. seeing_final (dialect_by budgets files g l r x before h))

  reached_final : HasFreeImports g.file (literals_of g.language.language.parts) g.read (Ok tt) →
      FinalTrying Q (MakesReached budgets files g)
  reached_final free =
      and_then_final Q
      (Untried (ReadsUses g.file g.read.header.language g.read.header.uses files))
      (MakesExtended budgets g)
      (trying_final Q NoTries (ReadsUses g.file g.read.header.language g.read.header.uses files)
      (uses_final Q g.file g.read.header.language files g.read.header.uses))
      (λ xs before reached. all_final (record {
        free = free;
        extensions = xs;
        reached = reached.0;
      }))

pub type_errors_are_final : TypeErrorsOfUnitsAreFinal
type_errors_are_final budgets files g stop tries l h error =
    and_then_final (Q budgets files g l)
    (Untried (HasFreeImports g.file (literals_of g.language.language.parts) g.read))
    (λ done. MakesReached budgets files g)
    (trying_final (Q budgets files g l) NoTries
    (HasFreeImports g.file (literals_of g.language.language.parts) g.read)
    (free_final (Q budgets files g l) g.file (literals_of g.language.language.parts) g.read))
    (λ done before free. reached_final budgets files g l free.0) stop tries h error
