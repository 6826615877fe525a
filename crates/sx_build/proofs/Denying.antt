-- An auditor that denies rules is shown the list of each module of a build.
use Rattle.std.proofs.Common.{ℕ, List, [], ◌∷◌}
use Rattle.std.specs.Prelude.{Contains}
use Rattle.sx_extcheck.specs.declared.budgets.Budgets.{Budgets}
use Rattle.sx_outside.specs.Files.{Files}
use Rattle.sx_accepting.specs.ReadLanguage.{Stated}
use Rattle.sx_headers.specs.ReadModule.{Module}
use Rattle.sx_headers.specs.ModuleFiles.{module_file}
use Rattle.sx_audit.specs.Meaning.{Meaning}
use Rattle.sx_auditing.specs.Laws.{denying, DeniedAreUnlisted, DenyingStays}
use Rattle.sx_build.specs.MadeModules.{Made}
use Rattle.sx_build.specs.BuiltModules.{AreModulesBuilt}
use Rattle.sx_build.specs.Denied.{AreWithout, DeniedAreUnbuilt}

module _ (unlisted : DeniedAreUnlisted) (stays : DenyingStays) (word : List ℕ)
    (names : List (List ℕ)) (budgets : Budgets) (old new : Files) (l : Stated) where
  each_without : (from to : List Meaning) (ms : List Module) (made : List Made)
      (built : AreModulesBuilt budgets old new l from to ms made) →
      Contains from (denying word names) →
      AreWithout names budgets old new l from to ms made built
  each_without from to [] [] built there = tt
  each_without from to (m ∷ ms) (x ∷ made) built there =
      let file = module_file m.header.name in
      let i = built.1 in (
        unlisted file l.language.rules from i.unit.list built.0 i.shown word names there,
        each_without built.0 to ms made built.2
            (stays file l.language.rules from i.unit.list built.0 i.shown word names there),
      )
  each_without from to (m ∷ ms) [] built there = absurd built
  each_without from to [] (x ∷ made) built there = absurd built

pub denied_unwritten : DeniedAreUnlisted → DenyingStays → DeniedAreUnbuilt
denied_unwritten unlisted stays name budgets auditors old new lines b word names there =
    each_without unlisted stays word names budgets old new b.language auditors b.left b.modules
    b.made b.built there
