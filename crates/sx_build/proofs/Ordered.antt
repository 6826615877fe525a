-- Modules in an order in which each comes after all that it imports.
use Rattle.std.proofs.Common.{◌≡◌, ℕ, zero, suc, ◌+◌, ◌<◌, ◌≤◌, List, [], ◌∷◌, ◌++◌, map, take, drop, length}
use Rattle.std.proofs.Common.{get_or, refl, sym, ap, ◌∙◌, subst, arith}
use Rattle.std.specs.List.{AllByRecursion}
use Rattle.std.specs.Prelude.{Contains}
use Rattle.std.proofs.lemmas.List.{take-append-drop, get_or-map, map_more}
use Rattle.std.proofs.lemmas.List.{length-append}
use Rattle.sx_headers.specs.declared.module_file.ModuleFile.{ModuleFile}
use Rattle.sx_headers.specs.ReadModule.{Module, module_of}
use Rattle.sx_importing.proofs.EachLoops.{left_next}
use Rattle.sx_walking.specs.Opened.{AreOnce}
use Rattle.sx_walking.specs.Laws.{AllComeAfter, ComesAfter}
use Rattle.sx_closure.specs.Closures.{IsClosure, HaveLanguage}
use Rattle.sx_closure.specs.ReadModules.{module_name, imports_of}
use Rattle.sx_build.specs.BuildModules.{language_in}
use Rattle.sx_compiling.proofs.Members.{contains_more, all_by}

-- ---- members

-- what stands in a list with one more at its end is that, or stood there
in_snoc : (xs : List (List ℕ)) (y z : List ℕ) → (Contains xs z → ⊥) → (y ≡ z → ⊥) →
    Contains (xs ++ y ∷ []) z → ⊥
in_snoc [] y z lacks other (zero, below, same) = other same
in_snoc [] y z lacks other (suc k, below, same) = absurd (omega (arith, below))
in_snoc (x ∷ xs) y z lacks other (zero, below, same) = lacks (0, omega arith, same)
in_snoc (x ∷ xs) y z lacks other (suc k, below, same) =
    in_snoc xs y z (λ c. lacks (contains_more x xs z c)) other (k, omega (arith, below), same)

-- one more name that does not stand there
pub once_snoc : (xs : List (List ℕ)) (y : List ℕ) → AreOnce xs → (Contains xs y → ⊥) →
    AreOnce (xs ++ y ∷ [])
once_snoc [] y once lacks = ((λ c. omega (arith, c.1)), tt)
once_snoc (x ∷ xs) y once lacks = (
  in_snoc xs y x once.0 (λ same. lacks (0, omega arith, sym same)),
  once_snoc xs y once.1 (λ c. lacks (contains_more x xs y c)),
)

-- ---- one of the modules

-- the module with this number
pub source_at : (sources : List ModuleFile) (i : ℕ) (source : ModuleFile) → i < length sources →
    source ≡ get_or sources i source →
    module_of source ≡ get_or (map module_of sources) i (module_of source)
source_at sources i source below is =
    ap module_of is ∙ sym (get_or-map module_of sources i source (module_of source) below)

-- the names of the modules before the next one
pub names_next : (ms : List Module) (i : ℕ) (m : Module) → i < length ms → m ≡ get_or ms i m →
    map module_name (take (i + 1) ms) ≡ map module_name (take i ms) ++ module_name m ∷ []
names_next ms i m below is =
    map_more module_name ms i m below
    ∙ ap (λ (n : List ℕ). map module_name (take i ms) ++ n ∷ []) (ap module_name (sym is))

module _ (sources : List ModuleFile) (order : AllComeAfter module_name imports_of (map module_of sources))
    (i : ℕ) (source : ModuleFile) (below : i < length (map module_of sources))
    (is : module_of source ≡ get_or (map module_of sources) i (module_of source)) where
  abbrev ms : List Module
  ms = map module_of sources

  -- it comes after those before it
  comes : ComesAfter module_name imports_of (take i ms) (module_of source)
  comes =
      order (take i ms) (drop (i + 1) ms) (module_of source)
      (sym (take-append-drop i ms)
      ∙ ap (λ (l : List Module). take i ms ++ l) (left_next ms i (module_of source) below is))

  pub imports_among : (names : List (List ℕ)) → names ≡ map module_name (take i ms) →
      AllByRecursion (Contains names) (imports_of (module_of source))
  imports_among names same =
      subst (λ (ns : List (List ℕ)). AllByRecursion (Contains ns) (imports_of (module_of source)))
      (sym same)
      (all_by (Contains (map module_name (take i ms))) (imports_of (module_of source))
      comes.after_them)

  pub name_is_new : (names : List (List ℕ)) → names ≡ map module_name (take i ms) →
      Contains names (module_name (module_of source)) → ⊥
  name_is_new names same among =
      comes.once (subst (λ (ns : List (List ℕ)). Contains ns (module_name (module_of source))) same
      among)

-- ---- the first of the modules

-- all modules of a closure have the language of the first
pub have_first : (name : List ℕ) (all : List Module) → IsClosure name all →
    HaveLanguage (language_in all) all
have_first name [] closure = tt
have_first name (m ∷ all) closure =
    subst (λ (n : List ℕ). HaveLanguage n (m ∷ all)) (sym closure.language.0) closure.language

-- it is there
first_there : (name : List ℕ) (all : List Module) → IsClosure name all → 1 ≤ length all
first_there name all closure =
    let many = ap (λ (xs : List Module). length xs) closure.last in
    let sum = length-append closure.before (closure.root ∷ []) in
    omega (arith, many, sum)

-- and its language is theirs
pub first_language : (name : List ℕ) (sources : List ModuleFile) (source : ModuleFile) →
    IsClosure name (map module_of sources) →
    (get_or sources 0 source).header.language ≡ language_in (map module_of sources)
first_language name [] source closure =
    let there = first_there name [] closure in absurd (omega (arith, there))
first_language name (x ∷ sources) source closure = refl
