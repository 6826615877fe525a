-- The names of a closure stand once.
use Rattle.std.proofs.Common.{◌≡◌, ℕ, zero, suc, List, [], ◌∷◌, ◌++◌, map, sym, ap, refl, ◌∙◌}
use Rattle.std.proofs.Common.{append_assoc, arith}
use Rattle.std.specs.Prelude.{Contains}
use Rattle.sx_walking.specs.Opened.{AreOnce}
use Rattle.sx_walking.specs.Laws.{AllComeAfter}
use Rattle.sx_headers.specs.ReadModule.{Module}
use Rattle.sx_closure.specs.ReadModules.{module_name, imports_of}
use Rattle.sx_compiling.proofs.Members.{contains_more}

-- no module has the name of one before it
abbrev AreApart : List Module → Type 0
AreApart ms = (before behind : List Module) (x : Module) → ms ≡ before ++ x ∷ behind →
    ¬ (Contains (map module_name before) (module_name x))

-- one of these has the name
record Stands (name : List ℕ) (ms : List Module) : Type 0 where
  before : List Module
  own : Module
  behind : List Module
  is : ms ≡ before ++ own ∷ behind
  named : module_name own ≡ name

named_so : (ms : List Module) (name : List ℕ) → Contains (map module_name ms) name → Stands name ms
named_so [] name (k, below, same) = absurd (omega (arith, below))
named_so (m ∷ ms) name (zero, below, same) =
    record { before = []; own = m; behind = ms; is = refl; named = same }
named_so (m ∷ ms) name (suc k, below, same) =
    let s = named_so ms name (k, omega (arith, below), same) in
    record {
      before = m ∷ s.before;
      own = s.own;
      behind = s.behind;
      is = ap (λ (l : List Module). m ∷ l) s.is;
      named = s.named;
    }

once_by : (ms : List Module) → AreApart ms → AreOnce (map module_name ms)
once_by [] apart = tt
once_by (m ∷ ms) apart = (
  λ among.
      let s = named_so ms (module_name m) among in
      apart (m ∷ s.before) s.behind s.own (ap (λ (l : List Module). m ∷ l) s.is)
      (0, omega arith, sym s.named),
  once_by ms (λ before behind x is among.
      apart (m ∷ before) behind x (ap (λ (l : List Module). m ∷ l) is)
      (contains_more (module_name m) (map module_name before) (module_name x) among)),
)

pub names_once : (ms : List Module) → AllComeAfter module_name imports_of ms →
    AreOnce (map module_name ms)
names_once ms order =
    once_by ms (λ before behind x is. (order before behind x is).once)

-- so do those of its first modules
pub front_once : (ms front behind : List Module) → ms ≡ front ++ behind →
    AllComeAfter module_name imports_of ms → AreOnce (map module_name front)
front_once ms front behind is order =
    once_by front (λ before more x here.
    (order before (more ++ behind) x
    (is ∙ ap (λ (l : List Module). l ++ behind) here
    ∙ append_assoc before (x ∷ more) behind)).once)
