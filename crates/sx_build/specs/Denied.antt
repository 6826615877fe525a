-- No list that a build writes has a rule that one of its auditors denies.
use Rattle.std.specs.Prelude.{ℕ, List, [], ◌∷◌, Contains}
use Rattle.std.specs.List.{AllByRecursion}
use Rattle.sx_extcheck.specs.declared.budgets.Budgets.{Budgets}
use Rattle.sx_outside.specs.Files.{Files}
use Rattle.sx_accepting.specs.ReadLanguage.{Stated}
use Rattle.sx_headers.specs.ReadModule.{Module}
use Rattle.sx_audit.specs.Meaning.{Meaning}
use Rattle.sx_auditing.specs.Laws.{denying, IsByOther}
use Rattle.sx_build.specs.MadeModules.{Made}
use Rattle.sx_build.specs.BuiltModules.{AreModulesBuilt, BuiltModules}

-- no entry of the lists of these modules is by a rule with one of these names
abbrev pub AreWithout : (names : List (List ℕ)) (budgets : Budgets) (old new : Files)
    (l : Stated) (from to : List Meaning) (ms : List Module) (made : List Made) →
    AreModulesBuilt budgets old new l from to ms made → Type 0
AreWithout names budgets old new l from to [] [] built = Unit {0}
AreWithout names budgets old new l from to (m ∷ ms) (x ∷ made) built =
    AllByRecursion (IsByOther l.language.rules names) built.1.unit.list
    × AreWithout names budgets old new l built.0 to ms made built.2
AreWithout names budgets old new l from to (m ∷ ms) [] built = ⊥
AreWithout names budgets old new l from to [] (x ∷ made) built = ⊥

-- where an auditor with the step of the kind `deny` is among those of a build that keeps its
-- promise, no list of its modules has one of the rules that it denies
abbrev pub DeniedAreUnbuilt : Type 0
DeniedAreUnbuilt =
    (name : List ℕ) (budgets : Budgets) (auditors : List Meaning) (old new : Files)
    (lines : List ℕ) (b : BuiltModules name budgets auditors old new lines) →
    (word : List ℕ) (names : List (List ℕ)) → Contains auditors (denying word names) →
    AreWithout names budgets old new b.language auditors b.left b.modules b.made b.built
