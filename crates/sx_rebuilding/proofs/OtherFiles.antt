-- Files that no module has that was made, and files that are written again.
use Rattle.std.proofs.Common.{◌≡◌, ℕ, List, sym, ap, ◌∙◌, refl}
use Rattle.std.proofs.Common.{codes, arith}
use Rattle.std.specs.Prelude.{Bool, true, false, Option, Some, if◌then◌else◌}
use Rattle.std.specs.Str.{bytes_eq}
use Rattle.std.proofs.lemmas.Slice.Eq.{bytes_eq-Decides}
use Rattle.sx_outside.specs.Files.{Files, put}
use Rattle.sx_steps.specs.Unit.{base_file, list_file, interface_file}
use Rattle.sx_accepting.specs.LanguageFiles.{language_file}
use Rattle.sx_headers.specs.ModuleFiles.{module_file}
use Rattle.sx_uses.specs.ExtensionFile.{extension_file}
use Rattle.sx_build.specs.BuiltModules.{IsNoFileOf}
use Rattle.sx_build.specs.MadeModules.{Made}
use Rattle.sx_build.proofs.MadeFiles.{ends_differ, with_one}

-- ---- files of other kinds

pub no_module : (name : List ℕ) (m : Made) → IsNoFileOf (module_file name) m
no_module name m = record {
  base = ends_differ 0 name m.name (codes ".mod") (codes ".base")
      (λ same. absurd (omega (arith, same)));
  list = ends_differ 0 name m.name (codes ".mod") (codes ".der")
      (λ same. absurd (omega (arith, same)));
  interface = ends_differ 0 name m.name (codes ".mod") (codes ".int")
      (λ same. absurd (omega (arith, same)));
}

pub no_language : (name : List ℕ) (m : Made) → IsNoFileOf (language_file name) m
no_language name m = record {
  base = ends_differ 0 name m.name (codes ".lang") (codes ".base")
      (λ same. absurd (omega (arith, same)));
  list = ends_differ 0 name m.name (codes ".lang") (codes ".der")
      (λ same. absurd (omega (arith, same)));
  interface = ends_differ 0 name m.name (codes ".lang") (codes ".int")
      (λ same. absurd (omega (arith, same)));
}

pub no_extension : (name : List ℕ) (m : Made) → IsNoFileOf (extension_file name) m
no_extension name m = record {
  base = ends_differ 0 name m.name (codes ".ext") (codes ".base")
      (λ same. absurd (omega (arith, same)));
  list = ends_differ 0 name m.name (codes ".ext") (codes ".der")
      (λ same. absurd (omega (arith, same)));
  interface = ends_differ 1 name m.name (codes ".ext") (codes ".int")
      (λ same. absurd (omega (arith, same)));
}

-- ---- files that are written again

by_test : (b : Bool) (x y : Option (List ℕ)) → (b ≡ true → x ≡ y) → (if b then x else y) ≡ y
by_test true x y same = same refl
by_test false x y same = refl

put_again : (files : Files) (name bytes other : List ℕ) → files name ≡ Some bytes →
    put files name bytes other ≡ files other
unfolding put
put_again files name bytes other is =
    by_test (bytes_eq name other) (Some bytes) (files other)
    (λ t. sym is ∙ ap files ((bytes_eq-Decides name other).0 t))

same_put : (files : Files) (name bytes : List ℕ) → files name ≡ Some bytes →
    put files name bytes ≡ files
same_put files name bytes is = λ i other. put_again files name bytes other is i

-- where the three files of a module hold its texts, writing these leaves all files as they are
pub same_one : (m : Made) (files : Files) → files (base_file m.name) ≡ Some m.base →
    files (list_file m.name) ≡ Some m.list → files (interface_file m.name) ≡ Some m.interface →
    with_one m files ≡ files
same_one m files base list interface =
    ap (λ (fs : Files). put (put fs (list_file m.name) m.list) (interface_file m.name) m.interface)
    (same_put files (base_file m.name) m.base base)
    ∙ ap (λ (fs : Files). put fs (interface_file m.name) m.interface)
    (same_put files (list_file m.name) m.list list)
    ∙ same_put files (interface_file m.name) m.interface interface
