-- Modules that are read along `import` lines are a closure.
use Rattle.std.proofs.Common.{◌≡◌, ℕ, List, [], ◌∷◌, ◌++◌, map, refl, sym, ap, subst}
use Rattle.std.specs.Prelude.{Result, Ok, Err, IfOk}
use Rattle.std.specs.Global.{Vec}
use Rattle.std.proofs.lemmas.Slice.Eq.{bytes_eq-Decides}
use Rattle.sx_outside.specs.Files.{Files}
use Rattle.sx_imports.specs.Walk.{Name}
use Rattle.sx_steps.specs.declared.stop.Stop.{Stop}
use Rattle.sx_steps.specs.declared.step_error.StepError.{StepError}
use Rattle.sx_steps.proofs.StepsOn.{went}
use Rattle.sx_walking.specs.Reached.{Reaches}
use Rattle.sx_walking.specs.Kinds.{IsFileSound, AreFilesReached}
use Rattle.sx_walking.specs.Laws.{AreVisited}
use Rattle.sx_walking.proofs.Coming.{VisitsNamed, reached_first}
use Rattle.sx_walking.proofs.FewFiles.{reached_few}
use Rattle.sx_walking.proofs.Lasting.{reached_last}
use Rattle.sx_headers.specs.declared.module_file.ModuleFile.{ModuleFile}
use Rattle.sx_headers.specs.ReadModule.{Module}
use Rattle.sx_closure.specs.Closures.{HaveLanguage, IsClosure}
use Rattle.sx_closure.specs.Laws.{AreModulesRead, ModulesAreClosure}
use Rattle.sx_headers.specs.ModuleFiles.{module_file}
use Rattle.sx_closure.specs.ModuleKind.{modules_with}
use Rattle.sx_closure.specs.ReadImport.{ReadsNamed, ReadsImportedModule}
use Rattle.sx_closure.specs.ReadModules.{module_name, imports_of, ReachesModules, modules_of}
use Rattle.sx_closure.proofs.Walks.{import_read, import_named, import_language}

-- ---- the last module

-- a module with the name comes last
record HasLast (name : Name) (ms : List Module) : Type 0 where
  before : List Module
  root : Module
  last : ms ≡ before ++ root ∷ []
  named : module_name root ≡ name

head_same : (a b : Name) (xs ys : List Name) → a ∷ xs ≡ b ∷ ys → a ≡ b
head_same a b xs ys e = cc

rest_same : (a b : Name) (xs ys : List Name) → a ∷ xs ≡ b ∷ ys → xs ≡ ys
rest_same a b xs ys e = cc

no_names : (names : List Name) (name : Name) → [] ≡ names ++ name ∷ [] → ⊥
no_names [] name e = absurd cc
no_names (n ∷ names) name e = absurd cc

no_more : (name : Name) (names : List Name) → name ∷ names ≡ [] → ⊥
no_more name names e = absurd cc

last_named : (ms : List Module) (names : List Name) (name : Name) →
    map module_name ms ≡ names ++ name ∷ [] → HasLast name ms
last_named [] names name e = absurd (no_names names name e)
last_named (m ∷ []) [] name e =
    record { before = []; root = m; last = refl; named = head_same (module_name m) name [] [] e }
last_named (m ∷ n ∷ ms) [] name e = absurd (no_more (module_name n) (map module_name ms)
    (rest_same (module_name m) name (map module_name (n ∷ ms)) [] e))
last_named (m ∷ ms) (n ∷ names) name e =
    let more = last_named ms names name
    (rest_same (module_name m) n (map module_name ms) (names ++ name ∷ []) e) in
    record {
      before = m ∷ more.before;
      root = more.root;
      last = ap (λ (l : List Module). m ∷ l) more.last;
      named = more.named;
    }

of_last : (language : List ℕ) (before : List Module) (root : Module) →
    HaveLanguage language (before ++ root ∷ []) → root.header.language ≡ language
of_last language [] root h = h.0
of_last language (m ∷ before) root h = of_last language before root h.1

-- all have the language of the last
of_root : (language : List ℕ) (name : Name) (ms : List Module) (l : HasLast name ms) →
    HaveLanguage language ms → HaveLanguage l.root.header.language ms
of_root language name ms l h =
    let same = of_last language l.before l.root
    (subst (λ (list : List Module). HaveLanguage language list) l.last h) in
    subst (λ (w : List ℕ). HaveLanguage w ms) (sym same) h

-- ---- the closure

module _ (Comes : Name → Result Module Stop → Type 0) (named : VisitsNamed module_name Comes)
    (language : List ℕ)
    (has : (name : Name) (m : Module) → Comes name (Ok m) → m.header.language ≡ language)
    (name : Name) (file : List ℕ) where
  have_language : (ms : List Module) → AreVisited module_name Comes ms → HaveLanguage language ms
  have_language [] h = tt
  have_language (m ∷ ms) h = (has (module_name m) m h.0, have_language ms h.1)

  closure_by : (ms : List Module) → Reaches imports_of Comes file (name ∷ []) (Ok ms) →
      IsClosure name ms
  closure_by ms reads =
      let first = reached_first module_name imports_of Comes named file (name ∷ []) ms reads in
      let end = reached_last module_name imports_of Comes named file name ms reads in
      let last = last_named ms end.0 name end.1 in
      record {
        order = first.0;
        before = last.before;
        root = last.root;
        last = last.last;
        named = last.named;
        language = of_root language name ms last (have_language ms first.1);
        few = reached_few imports_of Comes file (name ∷ []) ms reads;
      }

-- what the walk reaches is a closure
sound_closure : (language : List ℕ) (name : Name) (file : List ℕ) (ms : List Module) →
    AreFilesReached (modules_with language) file (name ∷ []) ms → IsClosure name ms
sound_closure language name file ms reads =
    closure_by (IsFileSound (modules_with language)) (λ n m h. h.0) language
    (λ n m h. (bytes_eq-Decides m.header.language language).0 h.1) name file ms reads

sought_closure : (language : List ℕ) (name : Name) (file : List ℕ) (roots : List Name)
    (ms : List Module) → roots ≡ name ∷ [] → AreFilesReached (modules_with language) file roots ms →
    IsClosure name ms
sought_closure language name file roots ms of_roots reads =
    sound_closure language name file ms
    (subst (λ (l : List Name). AreFilesReached (modules_with language) file l ms) of_roots reads)

pub sought_good : (language : List ℕ) (name : Name) (file : List ℕ) (roots : List Name)
    (r : Result (Vec ModuleFile) StepError) → roots ≡ name ∷ [] →
    IfOk r (λ ms. AreFilesReached (modules_with language) file roots (modules_of ms)) →
    IfOk r (λ ms. IsClosure name (modules_of ms))
sought_good language name file roots (Ok ms) of_roots reads =
    sought_closure language name file roots (modules_of ms) of_roots reads
sought_good language name file roots (Err e) of_roots reads = tt

-- ---- by the files

module _ (language : List ℕ) (files : Files) where
  visits_named : VisitsNamed module_name (ReadsImportedModule language files)
  visits_named n m h = import_named language files n m h

  all_read : (ms : List Module) → AreVisited module_name (ReadsImportedModule language files) ms →
      AreModulesRead files ms
  all_read [] h = tt
  all_read (m ∷ ms) h = (import_read language files (module_name m) m h.0, all_read ms h.1)

  reached_closure : (name : Name) (ms : List Module) → ReachesModules language name files (Ok ms) →
      IsClosure name ms × AreModulesRead files ms
  reached_closure name ms reads = (
    closure_by (ReadsImportedModule language files) visits_named language
        (λ n m h. import_language language files n m h) name (module_file name) ms reads,
    all_read ms (reached_first module_name imports_of (ReadsImportedModule language files) visits_named
        (module_file name) (name ∷ []) ms reads).1,
  )

pub are_closure : ModulesAreClosure
are_closure name files ms reads =
    let w = went (ReadsNamed files name) (λ m. ReachesModules m.header.language name files) ms
    reads in
    reached_closure w.given.header.language files name ms w.goes
