-- The list that `compile` writes has no rule that one of its auditors denies.
use Rattle.std.specs.Prelude.{ℕ, List, Contains}
use Rattle.std.specs.List.{AllByRecursion}
use Rattle.sx_extcheck.specs.declared.budgets.Budgets.{Budgets}
use Rattle.sx_outside.specs.Files.{Files}
use Rattle.sx_audit.specs.Meaning.{Meaning}
use Rattle.sx_auditing.specs.Laws.{denying, IsByOther}
use Rattle.sx_compile.specs.CompiledModule.{CompiledModule}

-- no entry of the list is by a rule with one of these names
abbrev pub IsWithout : {name : List ℕ} {budgets : Budgets} {auditors : List Meaning}
    {old new : Files} {lines : List ℕ} → List (List ℕ) →
    CompiledModule name budgets auditors old new lines → Type 0
IsWithout names c = AllByRecursion (IsByOther c.found.language.language.rules names) c.unit.list

-- so it is where an auditor with the step of the kind `deny` denies these
abbrev pub DeniedAreUncompiled : Type 0
DeniedAreUncompiled =
    (name : List ℕ) (budgets : Budgets) (auditors : List Meaning) (old new : Files)
    (lines : List ℕ) (c : CompiledModule name budgets auditors old new lines) →
    (word : List ℕ) (names : List (List ℕ)) → Contains auditors (denying word names) →
    IsWithout names c
