-- What a build leaves in the files of one of its modules, and in those that it was made from.
use Rattle.std.proofs.Common.{◌≡◌, ◌≢◌, ℕ, List, [], ◌∷◌, ◌++◌, map, sym, ap, ◌∙◌, subst}
use Rattle.std.proofs.Common.{append_assoc}
use Rattle.std.specs.Prelude.{Ok, Contains}
use Rattle.std.specs.List.{AllByRecursion}
use Rattle.sx_audit.specs.Meaning.{Meaning}
use Rattle.sx_extcheck.specs.declared.budgets.Budgets.{Budgets}
use Rattle.sx_outside.specs.Files.{Files}
use Rattle.sx_steps.specs.Unit.{base_file, list_file, interface_file}
use Rattle.sx_steps.proofs.Units.{written}
use Rattle.sx_accepting.specs.LanguageFiles.{language_file}
use Rattle.sx_accepting.specs.ReadLanguage.{ReadsLanguage}
use Rattle.sx_headers.specs.ReadModule.{Module}
use Rattle.sx_importing.specs.ReadImports.{ReadsImports}
use Rattle.sx_closure.specs.Closures.{HaveLanguage, IsClosure}
use Rattle.sx_closure.specs.ReadImport.{ReadsNamed}
use Rattle.sx_closure.specs.ReadModules.{module_name}
use Rattle.sx_closure.proofs.Closing.{are_closure}
use Rattle.sx_build.specs.BuildModules.{language_in}
use Rattle.sx_build.specs.BuiltModules.{HoldsTexts, IsNoFileOf}
use Rattle.sx_build.specs.MadeModules.{Made, made_of, with_made}
use Rattle.sx_rebuilding.proofs.EndedBuilds.{EndedBuild}
use Rattle.sx_rebuilding.proofs.FewImports.{names_more, name_last, no_more}
use Rattle.sx_build.proofs.MadeFiles.{others_base, others_list, others_interface, IsApart, apart_by}
use Rattle.sx_build.proofs.MadeFiles.{none_of, none_apart, with_one, stays_one, stays, made_more}
use Rattle.sx_rebuilding.proofs.OtherFiles.{no_language}
use Rattle.sx_compiling.proofs.Members.{all_at}
use Rattle.sx_rebuilding.proofs.SameFiles.{language_as, imports_as}
use Rattle.sx_rebuilding.proofs.Turns.{Turn, one_then}

-- modules that all have a language begin with one that has it
first_language : (language : List ℕ) (ms : List Module) (m : Module) → HaveLanguage language ms →
    Contains ms m → m.header.language ≡ language_in ms
first_language language [] m have among =
    absurd (all_at (λ (x : Module). ⊥) [] m tt among)
first_language language (x ∷ ms) m have among =
    all_at (λ (y : Module). y.header.language ≡ language) (x ∷ ms) m have among ∙ sym have.0

module _ (old new : Files) (earlier later : List Made) (own : Made)
    (is : new ≡ with_made (earlier ++ own ∷ later) old) where
  -- a file that is none of those of the modules is as before
  as_before : (file : List ℕ) → ((m : Made) → IsNoFileOf file m) → old file ≡ new file
  as_before file each =
      sym (ap (λ (fs : Files). fs file) is
      ∙ stays (earlier ++ own ∷ later) old file (none_of file (earlier ++ own ∷ later) each))

  -- what was made up to the module, and then its own files
  abbrev once_own : Files
  once_own = with_one own (with_made earlier old)

  in_parts : new ≡ with_made later once_own
  in_parts = is ∙ made_more earlier (own ∷ later) old

  -- the files of later modules aside, all is as it was when the module was made
  as_made : (file : List ℕ) → AllByRecursion (IsNoFileOf file) later → new file ≡ once_own file
  as_made file none = ap (λ (fs : Files). fs file) in_parts ∙ stays later once_own file none

  -- so is the interface of a module that was made before
  same_interface : (name : List ℕ) → name ≢ own.name → IsApart name later →
      with_made earlier old (interface_file name) ≡ new (interface_file name)
  same_interface name differ apart =
      sym (as_made (interface_file name)
      (none_apart (interface_file name) name later (others_interface name) apart)
      ∙ stays_one own (with_made earlier old) (interface_file name)
      (others_interface name own differ))

  -- the texts of the module stand in its files
  holds_own : IsApart own.name later → HoldsTexts new own
  holds_own apart =
      let stands = written own.name own.base own.list own.interface (with_made earlier old) in
      record {
        base = as_made (base_file own.name)
            (none_apart (base_file own.name) own.name later (others_base own.name) apart)
            ∙ stands.0;
        list = as_made (list_file own.name)
            (none_apart (list_file own.name) own.name later (others_list own.name) apart)
            ∙ stands.1;
        interface = as_made (interface_file own.name)
            (none_apart (interface_file own.name) own.name later (others_interface own.name) apart)
            ∙ stands.2;
      }

-- ---- one module of a build

module _ (name : List ℕ) (budgets : Budgets) (auditors : List Meaning) (old new : Files)
    (m : Module) (b : EndedBuild name budgets auditors old new m) where
  abbrev t : Turn budgets old b.language auditors b.modules b.end m
  t = b.turn

  abbrev own : Made
  own = made_of m.header.name t.one.unit

  parts : new ≡ with_made (t.start.made ++ own ∷ t.rest.made) old
  parts =
      b.is ∙ ap (λ (made : List Made). with_made made old)
      (one_then budgets old b.language t.start t.next b.end m t.behind t.one t.rest)

  closure : IsClosure name b.modules
  closure = (are_closure name old b.modules b.reads).0

  -- the later modules have other names than the first ones
  later_apart : (n : List ℕ) → Contains (map module_name (t.before ++ m ∷ [])) n →
      IsApart n t.rest.made
  later_apart n has =
      apart_by t.rest.made n
      (λ late. no_more name b.modules closure (t.before ++ m ∷ []) t.behind
      (t.stands ∙ sym (append_assoc t.before (m ∷ []) t.behind)) n has
      (subst (λ (names : List (List ℕ)). Contains names n) t.rest.named late))

  pub holds : HoldsTexts new own
  holds =
      holds_own old new t.start.made t.rest.made own parts
      (later_apart m.header.name (name_last t.before m))

  -- a file that is none of those of modules is as before
  pub unchanged : (file : List ℕ) → ((x : Made) → IsNoFileOf file x) → old file ≡ new file
  unchanged = as_before old new t.start.made t.rest.made own parts

  -- the module was read from its file
  pub read_old : ReadsNamed old m.header.name (Ok m)
  read_old =
      all_at (λ (x : Module). ReadsNamed old (module_name x) (Ok x)) b.modules m
      (are_closure name old b.modules b.reads).1 b.among

  -- the language is read from its file
  pub states_new : ReadsLanguage m.header.language new (Ok b.language)
  states_new =
      language_as old new m.header.language
      (unchanged (language_file m.header.language) (no_language m.header.language))
      (Ok b.language)
      (subst (λ (w : List ℕ). ReadsLanguage w old (Ok b.language))
      (sym (first_language closure.root.header.language b.modules m closure.language b.among))
      b.states)

  -- and the interfaces of the imports from theirs
  pub imported : ReadsImports new m.header.imports (Ok t.one.imports)
  imported =
      imports_as (with_made t.start.made old) new m.header.imports
      (λ n has. let first = (closure.order t.before t.behind m t.stands).after_them n has in
      same_interface old new t.start.made t.rest.made own parts n
      (λ same. (closure.order t.before t.behind m t.stands).once
      (subst (λ (x : List ℕ). Contains (map module_name t.before) x) same first))
      (later_apart n (names_more t.before m n first))) (Ok t.one.imports) t.one.reads
