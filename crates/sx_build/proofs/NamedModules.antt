-- The modules of a closure have names, where the one whose closure it is has one.
use Rattle.std.proofs.Common.{◌≡◌, ℕ, zero, suc, true, false, List, [], ◌∷◌, refl, sym}
use Rattle.std.proofs.Common.{subst, arith}
use Rattle.std.specs.Prelude.{Option, Some, None, option_map, Ok, Err, Contains}
use Rattle.sx_lines.specs.Lines.{lines_from}
use Rattle.sx_lines.specs.Reading.{kept}
use Rattle.sx_lines.specs.Words.{is_name}
use Rattle.sx_interface.specs.StatedHeader.{StatesHeader}
use Rattle.sx_outside.specs.Files.{Files}
use Rattle.sx_imports.specs.Walk.{Name, End, Walks}
use Rattle.sx_imports.specs.Laws.{Reached, is_root, by_line}
use Rattle.sx_imports.proofs.Wholes.{order_is_whole}
use Rattle.sx_steps.specs.Held.{Held}
use Rattle.sx_term.specs.Limits.{most_bytes}
use Rattle.sx_steps.proofs.Ones.{some_same, none_some}
use Rattle.sx_steps.proofs.StepsOn.{went}
use Rattle.sx_walking.specs.Reached.{Found, uses_in, AreVisitsFound, IsWalkTold}
use Rattle.sx_walking.proofs.Coming.{names_are}
use Rattle.sx_headers.specs.ModuleFiles.{module_file}
use Rattle.sx_headers.specs.ReadModule.{Module, StatesModule}
use Rattle.sx_closure.specs.ReadImport.{ReadsNamed, ReadsImportedModule}
use Rattle.sx_closure.specs.ReadModules.{module_name, imports_of, ReachesModules, ReadsModules}
use Rattle.sx_closure.proofs.Walks.{import_read, import_named}
use Rattle.sx_compiling.proofs.Members.{contains_map, all_at}

-- what was read under a name states its header
pub header_stated : (files : Files) (name : List ℕ) (m : Module) → ReadsNamed files name (Ok m) →
    StatesHeader name (kept (lines_from 1 m.bytes)) m.header
header_stated files name m reads =
    let read = went (Held most_bytes (module_file name) files)
    (StatesModule (module_file name) name) m reads in
    subst (λ (b : List ℕ). StatesHeader name (kept (lines_from 1 b)) m.header)
    (sym read.goes.same) read.goes.states

-- what was found that uses these
record IsUser (found : Option Module) (lines : List Name) : Type 0 where
  own : Module
  is : found ≡ Some own
  lines_are : imports_of own ≡ lines

user_of : (found : Option Module) (lines : List Name) →
    option_map imports_of found ≡ Some lines → IsUser found lines
user_of (Some m) lines e =
    record { own = m; is = refl; lines_are = some_same (imports_of m) lines e }
user_of None lines e = absurd (none_some lines e)

module _ (language : List ℕ) (files : Files) (root : Name)
    (is_a_name : is_name false root ≡ true) where
  -- so have those that are reached
  reached_named : (found : Found Module) → AreVisitsFound (ReadsImportedModule language files) found →
      {name : Name} → Reached (uses_in imports_of found) (root ∷ []) name →
      is_name false name ≡ true
  reached_named found visited {name = name} (is_root (zero, below, same)) =
      subst (λ (n : Name). is_name false n ≡ true) same is_a_name
  reached_named found visited (is_root (suc k, below, same)) = absurd (omega (arith, below))
  reached_named found visited (by_line {name = name} {other = other} before line) =
      let user = user_of (found name) line.lines line.is in
      let m = user.own in
      let read = import_read language files name m (visited name m user.is) in
      all_at (λ n. is_name false n ≡ true) (imports_of m) other
      (header_stated files name m read).imports
      (subst (λ (l : List Name). Contains l other) (sym user.lines_are) line.among)

  module _ (ms : List Module) (m : Module) (among : Contains ms m) where
    told_named : (file : List ℕ) (found : Found Module) →
        AreVisitsFound (ReadsImportedModule language files) found → (end : End) →
        Walks (uses_in imports_of found) 256 (root ∷ []) end →
        IsWalkTold (ReadsImportedModule language files) file found end (Ok ms) →
        is_name false (module_name m) ≡ true
    told_named file found visited (Ok order) walks told =
        let same = names_are module_name imports_of (ReadsImportedModule language files)
        (λ n x h. import_named language files n x h) found visited order ms told in
        reached_named found visited
        (((order_is_whole (uses_in imports_of found) 256 (root ∷ []) order walks).1 (module_name m)).0
        (subst (λ (l : List Name). Contains l (module_name m)) same (contains_map module_name ms m among)))
    told_named file found visited (Err why) walks told = absurd told

pub modules_named : (name : List ℕ) (files : Files) (ms : List Module) →
    is_name false name ≡ true → ReadsModules name files (Ok ms) → (m : Module) → Contains ms m →
    is_name false (module_name m) ≡ true
modules_named name files ms is_a_name reads m among =
    let w = went (ReadsNamed files name) (λ m. ReachesModules m.header.language name files) ms
    reads in
    let r = w.goes in
    told_named w.given.header.language files name is_a_name ms m among (module_file name) r.found
    r.visited r.end r.walks r.told
