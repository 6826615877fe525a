-- `verify` of a module that was built, over the files that the build leaves.
use Rattle.std.proofs.Common.{◌≡◌, ℕ, ◌≤◌, true, false, List, refl}
use Rattle.std.specs.Prelude.{Ok}
use Rattle.sx_lines.specs.Lines.{lines_from}
use Rattle.sx_lines.specs.Reading.{kept}
use Rattle.sx_lines.specs.Words.{is_name}
use Rattle.sx_interface.specs.Stated.{InterfacesAreWithin}
use Rattle.sx_interface.specs.StatedHeader.{StatesHeader}
use Rattle.sx_audit.specs.Meaning.{Meaning}
use Rattle.sx_extcheck.specs.declared.budgets.Budgets.{Budgets}
use Rattle.sx_outside.specs.Files.{Files}
use Rattle.sx_steps.specs.Held.{Held}
use Rattle.sx_term.specs.Limits.{most_bytes}
use Rattle.sx_steps.specs.Unit.{interface_file}
use Rattle.sx_steps.specs.Work.{Plan}
use Rattle.sx_steps.proofs.StepsOn.{went, Went}
use Rattle.sx_accepting.specs.LanguageFiles.{language_file}
use Rattle.sx_accepting.specs.ReadLanguage.{StatesLanguage}
use Rattle.sx_headers.specs.ReadModule.{Module}
use Rattle.sx_compiling.specs.Given.{GivenModule}
use Rattle.sx_build.specs.BuildModules.{given_in}
use Rattle.sx_verify.specs.Laws.{VerifiesAlikeButShown, VerifiesAgree}
use Rattle.sx_verify.specs.VerifyModule.{VerifiesModule}
use Rattle.sx_rebuilding.specs.VerifyAgain.{VerifiesWell, VerifyingFollowsBuilding}
use Rattle.sx_rebuilding.proofs.EndedBuilds.{EndedBuild, build_ended}
use Rattle.sx_rebuilding.proofs.ImportsAgain.{imports_kept}
use Rattle.sx_rebuilding.proofs.LimitedUnits.{made_unit}
use Rattle.sx_build.proofs.NamedModules.{header_stated, modules_named}
use Rattle.sx_rebuilding.proofs.OwnFiles.{holds, read_old, states_new, imported}
use Rattle.sx_compiling.proofs.SameSteps.{sure_value}
use Rattle.sx_rebuilding.proofs.UnitVerified.{unit_verified}

-- where the steps can end with a plan, they do
ends_well : (name : List ℕ) (files : Files) (plan : Plan) → VerifiesModule name files (Ok plan) →
    VerifiesAgree → VerifiesWell name files
ends_well name files plan ends agree result tries h sure = (
  plan,
  sure_value (VerifiesAlikeButShown name files) result plan sure
      (agree name files result (Ok plan) tries 0 h (ends, refl) sure tt).0,
)

-- ---- one module

module _ (name : List ℕ) (budgets : Budgets) (auditors : List Meaning) (old new : Files)
    (m : Module) (b : EndedBuild name budgets auditors old new m)
    (is_a_name : is_name false name ≡ true) (few_nodes : budgets.nodes ≤ 1000000) where
  abbrev g : GivenModule
  g = given_in b.language m b.turn.one.imports

  stated : StatesHeader m.header.name (kept (lines_from 1 m.bytes)) m.header
  stated = header_stated old m.header.name m (read_old name budgets auditors old new m b)

  language : Went (Held most_bytes (language_file m.header.language) new)
      (StatesLanguage m.header.language) b.language
  language =
      went (Held most_bytes (language_file m.header.language) new)
      (StatesLanguage m.header.language) b.language
      (states_new name budgets auditors old new m b)

  well : InterfacesAreWithin → VerifiesAgree → VerifiesWell m.header.name new
  well within agree =
      let one = b.turn.one in
      let made = made_unit budgets old g one.unit one.tries
      (record { bytes = language.given; states = language.goes }) one.makes in
      ends_well m.header.name new _
      (unit_verified m.header.name budgets old new g one.unit
      (modules_named name old b.modules is_a_name b.reads m b.among) stated few_nodes language
      (imports_kept (interface_file m.header.name) new m.header.imports one.imports
      (imported name budgets auditors old new m b))
      (holds name budgets auditors old new m b) made within) agree

-- ---- the command

pub verifying_follows_building : InterfacesAreWithin → VerifiesAgree → VerifyingFollowsBuilding
verifying_follows_building within agree name budgets auditors old new plan n is_a_name few_nodes
    builds files_are modules reads m among =
    well name budgets auditors old new m
    (build_ended name budgets auditors old new plan n builds files_are modules reads m among)
    is_a_name few_nodes within agree
