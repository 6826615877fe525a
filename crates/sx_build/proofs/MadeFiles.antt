-- What stands under the files of modules that were made.
use Rattle.std.proofs.Common.{◌≡◌, ◌≢◌, ℕ, zero, suc, List, [], ◌∷◌, ◌++◌, map, sym, ap, ◌∙◌, refl}
use Rattle.std.proofs.Common.{subst, codes, get_or, arith}
use Rattle.std.specs.Prelude.{Some, Contains, reverse}
use Rattle.std.specs.List.{AllByRecursion}
use Rattle.std.proofs.lemmas.List.{append_cancel_right, reverse-append}
use Rattle.std.proofs.lemmas.List.Elements.{Contains-append_right}
use Rattle.sx_outside.specs.Files.{Files, put}
use Rattle.sx_steps.specs.Unit.{base_file, list_file, interface_file}
use Rattle.sx_steps.proofs.Units.{written}
use Rattle.sx_walking.specs.Opened.{AreOnce}
use Rattle.sx_build.specs.BuiltModules.{IsNoFileOf}
use Rattle.sx_build.specs.MadeModules.{Made, with_made}

-- ---- names of files

-- texts that end in these bytes differ, where one of the last bytes does
pub ends_differ : (k : ℕ) (a b s t : List ℕ) → get_or (reverse s ++ reverse a) k 0 ≢
    get_or (reverse t ++ reverse b) k 0 → a ++ s ≢ b ++ t
ends_differ k a b s t other same =
    other (ap (λ (l : List ℕ). get_or l k 0)
    (sym (reverse-append a s) ∙ ap reverse same ∙ reverse-append b t))

int_base : (a b : List ℕ) → interface_file a ≢ base_file b
int_base a b =
    ends_differ 0 a b (codes ".int") (codes ".base") (λ same. absurd (omega (arith, same)))

int_der : (a b : List ℕ) → interface_file a ≢ list_file b
int_der a b =
    ends_differ 0 a b (codes ".int") (codes ".der") (λ same. absurd (omega (arith, same)))

base_der : (a b : List ℕ) → base_file a ≢ list_file b
base_der a b =
    ends_differ 0 a b (codes ".base") (codes ".der") (λ same. absurd (omega (arith, same)))

-- files of modules with other names
pub others_base : (name : List ℕ) (m : Made) → name ≢ m.name → IsNoFileOf (base_file name) m
others_base name m differ = record {
  base = λ same. differ (append_cancel_right name m.name (codes ".base") same);
  list = base_der name m.name;
  interface = λ same. int_base m.name name (sym same);
}

pub others_list : (name : List ℕ) (m : Made) → name ≢ m.name → IsNoFileOf (list_file name) m
others_list name m differ = record {
  base = λ same. base_der m.name name (sym same);
  list = λ same. differ (append_cancel_right name m.name (codes ".der") same);
  interface = λ same. int_der m.name name (sym same);
}

pub others_interface : (name : List ℕ) (m : Made) → name ≢ m.name →
    IsNoFileOf (interface_file name) m
others_interface name m differ = record {
  base = int_base name m.name;
  list = int_der name m.name;
  interface = λ same. differ (append_cancel_right name m.name (codes ".int") same);
}

-- ---- names of modules

-- the name is that of none of these
abbrev pub IsApart : List ℕ → List Made → Type 0
IsApart name mades = AllByRecursion (λ m. name ≢ m.name) mades

pub apart_by : (mades : List Made) (name : List ℕ) →
    (Contains (map (λ m. m.name) mades) name → ⊥) → IsApart name mades
apart_by [] name lacks = tt
apart_by (m ∷ mades) name lacks = (
  λ same. lacks (0, omega arith, sym same),
  apart_by mades name
      (λ among. lacks
      (Contains-append_right (m.name ∷ []) (map (λ (x : Made). x.name) mades) name among)),
)

-- so a file of this name is none of theirs
pub none_of : (file : List ℕ) (mades : List Made) → ((m : Made) → IsNoFileOf file m) →
    AllByRecursion (IsNoFileOf file) mades
none_of file [] each = tt
none_of file (m ∷ mades) each = (each m, none_of file mades each)

pub none_apart : (file name : List ℕ) (mades : List Made) →
    ((m : Made) → name ≢ m.name → IsNoFileOf file m) → IsApart name mades →
    AllByRecursion (IsNoFileOf file) mades
none_apart file name [] each apart = tt
none_apart file name (m ∷ mades) each apart =
    (each m apart.0, none_apart file name mades each apart.1)

-- ---- what stands there

-- the three writes of one module
abbrev pub with_one : Made → Files → Files
with_one m files =
    put (put (put files (base_file m.name) m.base) (list_file m.name) m.list)
    (interface_file m.name) m.interface

pub stays_one : (m : Made) (files : Files) (file : List ℕ) → IsNoFileOf file m →
    with_one m files file ≡ files file
stays_one m files file none =
    (written m.name m.base m.list m.interface files).3 file none.base none.list none.interface

-- a file that is none of those of these modules stays
pub stays : (mades : List Made) (files : Files) (file : List ℕ) →
    AllByRecursion (IsNoFileOf file) mades → with_made mades files file ≡ files file
stays [] files file none = refl
stays (m ∷ mades) files file none =
    stays mades (with_one m files) file none.1 ∙ stays_one m files file none.0

-- those of the first modules are written first
pub made_more : (front back : List Made) (files : Files) →
    with_made (front ++ back) files ≡ with_made back (with_made front files)
made_more [] back files = refl
made_more (m ∷ front) back files = made_more front back (with_one m files)

-- ---- files of these

-- the file of one of these modules, which only it has
module _ (file_of : List ℕ → List ℕ) (bytes_of : Made → List ℕ)
    (stands : (m : Made) (files : Files) → with_one m files (file_of m.name) ≡ Some (bytes_of m))
    (others : (name : List ℕ) (m : Made) → name ≢ m.name → IsNoFileOf (file_of name) m) where
  pub stands_in : (mades : List Made) (files : Files) (m : Made) →
      AreOnce (map (λ x. x.name) mades) → Contains mades m →
      with_made mades files (file_of m.name) ≡ Some (bytes_of m)
  stands_in [] files m once (k, below, same) = absurd (omega (arith, below))
  stands_in (x ∷ mades) files m once (zero, below, same) =
      subst (λ (y : Made). with_made mades (with_one x files) (file_of y.name)
      ≡ Some (bytes_of y)) same
      (stays mades (with_one x files) (file_of x.name)
      (none_apart (file_of x.name) x.name mades (others x.name) (apart_by mades x.name once.0))
      ∙ stands x files)
  stands_in (x ∷ mades) files m once (suc k, below, same) =
      stands_in mades (with_one x files) m once.1 (k, omega (arith, below), same)

-- the texts of one of these modules stand in its files
module _ (mades : List Made) (files : Files) (m : Made) (once : AreOnce (map (λ x. x.name) mades))
    (among : Contains mades m) where
  pub base_stands : with_made mades files (base_file m.name) ≡ Some m.base
  base_stands =
      stands_in base_file (λ x. x.base)
      (λ x fs. (written x.name x.base x.list x.interface fs).0) others_base mades files m once among

  pub list_stands : with_made mades files (list_file m.name) ≡ Some m.list
  list_stands =
      stands_in list_file (λ x. x.list)
      (λ x fs. (written x.name x.base x.list x.interface fs).1) others_list mades files m once among

  pub interface_stands : with_made mades files (interface_file m.name) ≡ Some m.interface
  interface_stands =
      stands_in interface_file (λ x. x.interface)
      (λ x fs. (written x.name x.base x.list x.interface fs).2) others_interface mades files m once
      among
