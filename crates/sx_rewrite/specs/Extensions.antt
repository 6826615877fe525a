-- Accepted sets grow by extensions, and each extension is sound after those before it.
use Rattle.std.specs.Prelude.{◌≡◌, ℕ, ◌<◌, List, [], ◌∷◌, ◌++◌, length, Option, Some, None, map}
use Rattle.sx_term.specs.Tree.{Tree}
use Rattle.sx_term.specs.Sorts.{Shape, HaveSorts}
use Rattle.sx_term.specs.Untyped.{PlainHaveNoTyped}
use Rattle.sx_rules.specs.Rules.{Rule}
use Rattle.sx_rules.specs.Modes.{Modes, outputs, AllModed}
use Rattle.sx_rules.specs.Sorts.{RuleIsSorted, RulesAreSorted}
use Rattle.sx_rules.specs.Discipline.{subjects_of, IsDisciplined}
use Rattle.sx_plain.specs.Plain.{Table}
use Rattle.sx_plain.specs.Tables.{IsCovered, Begins, Desugars}
use Rattle.sx_rewrite.specs.Accepted.{ExtRule, Checked, Accepted, AllDisciplined, Signature}
use Rattle.sx_rewrite.specs.Accepted.{IsAccepted}
use Rattle.sx_rewrite.specs.Sound.{AreSoundBy}

-- an extension with what is stored of its rules, and the plain table of the extensions up to it
pub record StoredExtension : Type 0 where
  pub rules : List ExtRule
  pub stored : List Checked
  pub table : Table

-- the set without extensions
abbrev pub without_extensions : List Rule → Accepted
without_extensions base = record { base = base; more = []; table = λ label. None }

-- the set with a table that has more entries
abbrev pub with_table : Accepted → Table → Accepted
with_table a table = record { base = a.base; more = a.more; table = table }

-- the set with the extension after it
abbrev pub extended_by : Accepted → StoredExtension → Accepted
extended_by a e = record { base = a.base; more = a.more ++ e.stored; table = e.table }

-- the set grows by the extensions in order, and the rules of each are sound after those before it
abbrev pub GrowsSoundly : Modes → ℕ → Accepted → List StoredExtension → Accepted → Type 0
GrowsSoundly subjects n start [] a = start ≡ a
GrowsSoundly subjects n start (e ∷ es) a =
    AreSoundBy subjects n (with_table start e.table) e.rules e.stored
    × GrowsSoundly subjects n (extended_by start e) es a

-- where the conclusion has a subject stands a body of its sort,
-- whose typed constructors are those before the extension: their labels are below n
abbrev pub BodyFits : Signature → List Shape → ℕ → Table → Rule → Option Tree → Type 0
BodyFits sig shapes n table rule None = subjects_of sig.subjects rule.conclusion ≡ []
BodyFits sig shapes n table rule (Some body) =
    HaveSorts shapes rule.sorts (body ∷ [])
    (outputs (sig.subjects rule.conclusion.form) (sig.forms rule.conclusion.form))
    × IsCovered n table body

-- so it is of each rule
abbrev pub BodiesFit : Signature → List Shape → ℕ → Table → List ExtRule → Type 0
BodiesFit sig shapes n table [] = Unit {0}
BodiesFit sig shapes n table (e ∷ es) =
    BodyFits sig shapes n table e.rule e.body × BodiesFit sig shapes n table es

-- The shapes and the table go on from those before: the new shapes come after those before, and
-- the table keeps their entries and has one for each plain constructor that is not base.
pub record ShapesGoOn (base shapes all : List Shape) (before table : Table) : Type 0 where
  pub begins : Begins shapes all
  pub no_typed : PlainHaveNoTyped all
  pub keeps : (label : ℕ) → label < length shapes → before label ≡ table label
  pub desugars : Desugars base all table

-- The extension fits the rules that have the shapes: its shapes and its table go on from theirs,
-- and its rules are well sorted, moded and disciplined, with bodies of syntax before it.
pub record FitsRules (sig : Signature) (base shapes all : List Shape) (before table : Table)
    (rules : List ExtRule) : Type 0 where
  pub goes_on : ShapesGoOn base shapes all before table
  pub sorted : RulesAreSorted all sig.forms (map (λ e. e.rule) rules)
  pub moded : AllModed sig.modes (map (λ e. e.rule) rules)
  pub disciplined : AllDisciplined sig.subjects (map (λ e. e.rule) rules)
  pub bodies : BodiesFit sig all (length shapes) table rules

-- The rule is of an extension after the set: the shapes and the table of the
-- extension go on from those of the set, and the rule is well sorted and
-- disciplined, with a body of syntax before the extension.
pub record ComesAfter (sig : Signature) (base shapes all : List Shape)
    (a : Accepted) (table : Table) (ext : ExtRule) : Type 0 where
  pub accepted : IsAccepted sig base shapes a
  pub goes_on : ShapesGoOn base shapes all a.table table
  pub sorted : RuleIsSorted all sig.forms ext.rule
  pub disciplined : IsDisciplined sig.subjects ext.rule
  pub body : BodyFits sig all (length shapes) table ext.rule ext.body

-- some extensions in order made the set from its base rules,
-- and the rules of each are sound after those before it
abbrev pub HasGrownSoundly : Modes → ℕ → Accepted → Type 0
HasGrownSoundly subjects n a =
    ∥ ((es : List StoredExtension) × GrowsSoundly subjects n (without_extensions a.base) es a) ∥₁
