-- Modules that were made in order.
use Rattle.std.proofs.Common.{◌≡◌, ℕ, List, [], ◌∷◌, ◌++◌, map, refl, sym, ap, ◌∙◌, subst}
use Rattle.std.proofs.Common.{append_assoc}
use Rattle.std.specs.Prelude.{Ok}
use Rattle.std.proofs.lemmas.List.{append-nil}
use Rattle.sx_audit.specs.Meaning.{Meaning}
use Rattle.sx_extcheck.specs.declared.budgets.Budgets.{Budgets}
use Rattle.sx_unit.specs.Written.{UnitData}
use Rattle.sx_outside.specs.Files.{Files}
use Rattle.sx_steps.specs.Steps.{Untried}
use Rattle.sx_steps.proofs.Ones.{ok_same}
use Rattle.sx_steps.proofs.StepsOn.{went, went_on}
use Rattle.sx_accepting.specs.ReadLanguage.{Stated}
use Rattle.sx_auditing.specs.Shows.{Shows}
use Rattle.sx_headers.specs.ReadModule.{Module}
use Rattle.sx_importing.specs.ReadImports.{ImportData, ReadsImports}
use Rattle.sx_compiling.specs.Headline.{HasUnit}
use Rattle.sx_compiling.specs.MakeUnit.{MakesUnit}
use Rattle.sx_compiling.proofs.MadeUnits.{units_keep_promise}
use Rattle.sx_closure.specs.Closures.{HaveLanguage}
use Rattle.sx_headers.specs.ModuleFiles.{module_file}
use Rattle.sx_closure.specs.ReadModules.{module_name}
use Rattle.sx_build.specs.BuildModules.{BuildProgress, with_unit, given_in, ShowsUnit, MakesWith, MakesNext}
use Rattle.sx_build.specs.BuildModules.{MakesAfter}
use Rattle.sx_build.specs.MadeModules.{Made, made_of, with_made}
use Rattle.sx_build.proofs.Languages.{HasBytes, given_language}

-- The module's unit is made with the interfaces of its imports as they are once the files of these
-- modules were written.
pub record IsMade (budgets : Budgets) (old : Files) (l : Stated) (before : List Made)
    (from to : List Meaning) (m : Module) (made : Made) : Type 0 where
  pub imports : List ImportData
  pub reads : ReadsImports (with_made before old) m.header.imports (Ok imports)
  pub unit : UnitData
  pub compiled : HasUnit budgets old (given_in l m imports) unit
  pub is : made ≡ made_of m.header.name unit
  pub shown : Shows (module_file m.header.name) l.language.rules from unit.list (Ok to)

-- so it is of each module in order, after those before it
abbrev pub AreMade : Budgets → Files → Stated → List Made → (from to : List Meaning) →
    List Module → List Made → Type 0
AreMade budgets old l before from to [] [] = to ≡ from
AreMade budgets old l before from to (m ∷ ms) (x ∷ made) =
    (next : List Meaning) × IsMade budgets old l before from next m x ×
    AreMade budgets old l (before ++ x ∷ []) next to ms made
AreMade budgets old l before from to (m ∷ ms) [] = ⊥
AreMade budgets old l before from to [] (x ∷ made) = ⊥

module _ (budgets : Budgets) (old : Files) (language : List ℕ) (l : Stated)
    (bytes : HasBytes language l) where
  -- one module more is made
  record OneMore (before : BuildProgress) (m : Module) (next : BuildProgress) : Type 0 where
    own : Made
    built : IsMade budgets old l before.made before.auditors next.auditors m own
    is : next.made ≡ before.made ++ own ∷ []

  one_more : (before : BuildProgress) (m : Module) (next : BuildProgress) (tries : ℕ) →
      m.header.language ≡ language → MakesNext budgets old l before m (Ok next) tries →
      OneMore before m next
  one_more before m next tries same makes =
      let read = went_on (Untried (ReadsImports (with_made before.made old) m.header.imports))
      (MakesWith budgets old l before m) next tries makes in
      let imports = read.given in
      let g = given_in l m imports in
      let made = went_on (MakesUnit budgets old g) (λ unit. Untried (ShowsUnit l before m unit))
      next read.after read.goes in
      let unit = made.given in
      let shown = went
      (Shows (module_file m.header.name) l.language.rules before.auditors unit.list)
      (λ auditors result. result ≡ Ok (with_unit before m unit auditors)) next made.goes.0 in
      let is : next ≡ with_unit before m unit shown.given =
      ok_same next (with_unit before m unit shown.given) shown.goes in
      record {
        own = made_of m.header.name unit;
        built = record {
          imports = imports;
          reads = read.begins.0;
          unit = unit;
          compiled = units_keep_promise budgets old g unit made.before
              (given_language language l bytes m same imports) made.begins;
          is = refl;
          shown = subst
              (λ (p : BuildProgress). Shows (module_file m.header.name) l.language.rules
              before.auditors unit.list (Ok p.auditors)) (sym is) shown.begins;
        };
        is = ap (λ (p : BuildProgress). p.made) is;
      }

  -- more modules are made in order
  pub record AllMore (before : BuildProgress) (ms : List Module) (end : BuildProgress) : Type 0 where
    pub made : List Made
    pub built : AreMade budgets old l before.made before.auditors end.auditors ms made
    pub is : end.made ≡ before.made ++ made

  pub all_more : (before : BuildProgress) (ms : List Module) (end : BuildProgress) (tries : ℕ) →
      HaveLanguage language ms → MakesAfter budgets old l before ms (Ok end) tries →
      AllMore before ms end
  all_more before [] end tries same makes =
      let is : end ≡ before = ok_same end before makes.0 in
      record {
        made = [];
        built = ap (λ (p : BuildProgress). p.auditors) is;
        is = ap (λ (p : BuildProgress). p.made) is ∙ sym (append-nil before.made);
      }
  all_more before (m ∷ ms) end tries same makes =
      let first = went_on (MakesNext budgets old l before m)
      (λ next. MakesAfter budgets old l next ms) end tries makes in
      let next = first.given in
      let one = one_more before m next first.before same.0 first.begins in
      let rest = all_more next ms end first.after same.1 first.goes in
      record {
        made = one.own ∷ rest.made;
        built = (
          next.auditors,
          one.built,
          subst (λ (b : List Made).
              AreMade budgets old l b next.auditors end.auditors ms rest.made) one.is rest.built,
        );
        is = rest.is ∙ ap (λ (b : List Made). b ++ rest.made) one.is
            ∙ append_assoc before.made (one.own ∷ []) rest.made;
      }

  -- they have the names of the modules
  pub made_named : (before : List Made) (from to : List Meaning) (ms : List Module)
      (made : List Made) → AreMade budgets old l before from to ms made →
      map (λ x. x.name) made ≡ map module_name ms
  made_named before from to [] [] built = refl
  made_named before from to (m ∷ ms) (x ∷ made) (next, one, rest) =
      let same = ap (λ (y : Made). y.name) one.is in
      let more = made_named (before ++ x ∷ []) next to ms made rest in
      λ i. same i ∷ more i
  made_named before from to (m ∷ ms) [] built = absurd built
  made_named before from to [] (x ∷ made) built = absurd built
