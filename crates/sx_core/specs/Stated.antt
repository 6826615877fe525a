-- What a core file states.
use Rattle.std.specs.Prelude.{◌≡◌, ℕ, ◌+◌, ◌≤◌, Bool, true, false, IsTrue, List, [], ◌∷◌, map}
use Rattle.std.specs.Prelude.{length, Some, slice_get, codes}
use Rattle.sx_term.specs.declared.lex_kind.LexKind.TheVariants.{Id, Num, Str}
use Rattle.sx_term.specs.declared.sort.Sort.{Sort}
use Rattle.sx_term.specs.declared.sort.Sort.TheVariants.{Lex, Plain, Typed}
use Rattle.sx_term.specs.Tree.{Tree, depth_of}
use Rattle.sx_term.specs.Core.{HasCore}
use Rattle.sx_term.specs.Sorts.{Shape, HaveSorts}
use Rattle.sx_term.specs.Untyped.{IsUntypedSort, AreUntypedSorts}
use Rattle.sx_lines.specs.Words.{is_name}
use Rattle.sx_term.specs.declared.role.Role.{Role}
use Rattle.sx_term.specs.declared.role.Role.TheVariants.{In, Sub, Out}
use Rattle.sx_rules.specs.declared.rule.Place.{Place}
use Rattle.sx_rules.specs.Rules.{Judgement, Premise, holds, apart}
use Rattle.sx_rules.specs.Modes.{Goal, inputs}
use Rattle.sx_rules.specs.Views.{FormData, NamedRule, is_sub, modes_of, sorts_of, places_at}
use Rattle.sx_rules.specs.Good.{IsRuleSet}
use Rattle.sx_core.specs.Problem.{Problem}
use Rattle.sx_core.specs.File.{SortRow, ConRow, PlaceRow, FormRow, Declaration, sort_line, con_line}
use Rattle.sx_core.specs.File.{form_line, JudgementRow, PremiseRow, if_line, not_line, RuleRows}
use Rattle.sx_core.specs.File.{CoreFile}
use Rattle.sx_term.specs.Limits.{most_depth}
use Rattle.sx_lines.specs.Distinct.{AreTextsDistinct}

-- the sort lines among the declarations
abbrev pub sort_rows : List Declaration → List SortRow
sort_rows [] = []
sort_rows (sort_line row ∷ ds) = row ∷ sort_rows ds
sort_rows (con_line row ∷ ds) = sort_rows ds
sort_rows (form_line row ∷ ds) = sort_rows ds

-- the constructor lines among the declarations
abbrev pub con_rows : List Declaration → List ConRow
con_rows [] = []
con_rows (sort_line row ∷ ds) = con_rows ds
con_rows (con_line row ∷ ds) = row ∷ con_rows ds
con_rows (form_line row ∷ ds) = con_rows ds

-- the form lines among the declarations
abbrev pub form_rows : List Declaration → List FormRow
form_rows [] = []
form_rows (sort_line row ∷ ds) = form_rows ds
form_rows (con_line row ∷ ds) = form_rows ds
form_rows (form_line row ∷ ds) = row ∷ form_rows ds

-- a letter, then letters, digits, `_` or `-`, at most 64 bytes
abbrev pub IsCoreName : List ℕ → Type 0
IsCoreName name = IsTrue (is_name true name)

-- each is a name
abbrev pub AreStatedNames : List (List ℕ) → Type 0
AreStatedNames [] = Unit {0}
AreStatedNames (name ∷ names) = IsCoreName name × AreStatedNames names

-- the sort that a name stands for: a lexical one, or that of the sort line with its number
abbrev pub NamesSort : List SortRow → List ℕ → Sort → Type 0
NamesSort rows name (Lex Id) = name ≡ codes "id"
NamesSort rows name (Lex Num) = name ≡ codes "num"
NamesSort rows name (Lex Str) = name ≡ codes "str"
NamesSort rows name (Plain n) = slice_get rows n ≡ Some (record { name = name; typed = false })
NamesSort rows name (Typed n) = slice_get rows n ≡ Some (record { name = name; typed = true })

-- each name stands for the sort at its place
abbrev pub NameSorts : List SortRow → List (List ℕ) → List Sort → Type 0
NameSorts rows [] [] = Unit {0}
NameSorts rows (name ∷ names) (sort ∷ sorts) = NamesSort rows name sort × NameSorts rows names sorts
NameSorts rows _ _ = ⊥

-- a constructor may have these parts: its sort is not lexical, and a plain one has no typed part
abbrev pub MayHave : Sort → List Sort → Type 0
MayHave (Lex kind) kids = ⊥
MayHave (Plain n) kids = AreUntypedSorts kids
MayHave (Typed n) kids = Unit {0}

-- the lines state these constructors
abbrev pub AreCons : List SortRow → List ConRow → List (List ℕ) → List Shape → Type 0
AreCons rows [] [] [] = Unit {0}
AreCons rows (con ∷ cons) (name ∷ names) (shape ∷ shapes) =
    (con.name ≡ name) × NamesSort rows con.sort shape.sort × NameSorts rows con.kids shape.kids ×
    MayHave shape.sort shape.kids
    × AreCons rows cons names shapes
AreCons rows _ _ _ = ⊥

-- a place of this role may have the sort: a subject a typed one, another place one that is not
-- typed
abbrev pub MayHaveSort : Role → Sort → Type 0
MayHaveSort In sort = IsUntypedSort sort
MayHaveSort Sub sort = (n : ℕ) × (sort ≡ Typed n)
MayHaveSort Out sort = IsUntypedSort sort

-- the lines state these places
abbrev pub AreStatedPlaces : List SortRow → List PlaceRow → List Place → Type 0
AreStatedPlaces rows [] [] = Unit {0}
AreStatedPlaces rows (row ∷ more) (place ∷ places) =
    (row.role ≡ place.role) × NamesSort rows row.sort place.sort ×
    MayHaveSort place.role place.sort × AreStatedPlaces rows more places
AreStatedPlaces rows _ _ = ⊥

-- how many of the places are subjects
abbrev pub subject_count_when : Bool → ℕ
subject_count_when true = 1
subject_count_when false = 0

abbrev pub subject_count : List Place → ℕ
subject_count [] = 0
subject_count (place ∷ places) = subject_count_when (is_sub place.role) + subject_count places

-- the lines state these forms, each with at most one subject
abbrev pub AreForms : List SortRow → List FormRow → List FormData → Type 0
AreForms rows [] [] = Unit {0}
AreForms rows (row ∷ more) (form ∷ forms) =
    (row.name ≡ form.name) × AreStatedPlaces rows row.places form.places ×
    (subject_count form.places ≤ 1) × AreForms rows more forms
AreForms rows _ _ = ⊥

-- each term has a core text and a depth of at most 1,000
abbrev pub AreReadable : List Tree → Type 0
AreReadable [] = Unit {0}
AreReadable (t ∷ ts) = HasCore t × (depth_of t ≤ most_depth) × AreReadable ts

-- the name is that of the form with this number
abbrev pub NamesForm : List FormData → List ℕ → ℕ → Type 0
NamesForm forms name n = (form : FormData) × (slice_get forms n ≡ Some form) × (form.name ≡ name)

-- the line states this judgement, with as many terms as the form has places
pub record IsJudgement (forms : List FormData) (row : JudgementRow) (j : Judgement) : Type 0 where
  pub form : NamesForm forms row.form j.form
  pub places : j.places ≡ row.terms
  pub readable : AreReadable row.terms
  pub many : length j.places ≡ length (places_at forms j.form)

-- the lines state these premises
abbrev pub AreCorePremises : List FormData → List PremiseRow → List Premise → Type 0
AreCorePremises forms [] [] = Unit {0}
AreCorePremises forms (if_line row ∷ rows) (holds j ∷ ps) =
    IsJudgement forms row j × AreCorePremises forms rows ps
AreCorePremises forms (not_line left right ∷ rows) (apart t u ∷ ps) =
    (left ≡ t) × (right ≡ u) × AreReadable (left ∷ right ∷ []) × AreCorePremises forms rows ps
AreCorePremises forms _ _ = ⊥

-- the lines state this rule
pub record IsCoreRule (rows : List SortRow) (forms : List FormData) (lines : RuleRows)
    (r : NamedRule) : Type 0 where
  pub name : lines.name ≡ r.name
  pub is_name : IsCoreName r.name
  pub sorts : NameSorts rows lines.sorts r.rule.sorts
  pub premises : AreCorePremises forms lines.premises r.rule.premises
  pub conclusion : IsJudgement forms lines.conclusion r.rule.conclusion

-- the lines state these rules
abbrev pub AreCoreRules : List SortRow → List FormData → List RuleRows → List NamedRule → Type 0
AreCoreRules rows forms [] [] = Unit {0}
AreCoreRules rows forms (lines ∷ more) (r ∷ rs) =
    IsCoreRule rows forms lines r × AreCoreRules rows forms more rs
AreCoreRules rows forms _ _ = ⊥

-- the line states this goal: its form has a subject, and its terms have no variables and the sorts
-- of the inputs
pub record IsGoal (shapes : List Shape) (forms : List FormData) (row : JudgementRow)
    (goal : Goal) : Type 0 where
  pub form : NamesForm forms row.form goal.form
  pub terms : goal.terms ≡ row.terms
  pub readable : AreReadable row.terms
  pub subject : subject_count (places_at forms goal.form) ≡ 1
  pub sorted : HaveSorts shapes [] goal.terms
      (inputs (modes_of forms goal.form) (sorts_of forms goal.form))

-- the file says this, where its rules may be no rule set
pub record SaysCore (file : CoreFile) (p : Problem) : Type 0 where
  pub sorts : p.sorts ≡ map (λ row. row.name) (sort_rows file.declarations)
  pub sort_names : AreStatedNames p.sorts
  pub sorts_distinct : AreTextsDistinct (codes "id" ∷ codes "num" ∷ codes "str" ∷ p.sorts)
  pub cons : AreCons (sort_rows file.declarations) (con_rows file.declarations) p.cons p.shapes
  pub con_names : AreStatedNames p.cons
  pub cons_distinct : AreTextsDistinct p.cons
  pub forms : AreForms (sort_rows file.declarations) (form_rows file.declarations) p.forms
  pub form_names : AreStatedNames (map (λ form. form.name) p.forms)
  pub forms_distinct : AreTextsDistinct (map (λ form. form.name) p.forms)
  pub rules : AreCoreRules (sort_rows file.declarations) p.forms file.rules p.rules
  pub goal : IsGoal p.shapes p.forms file.goal p.goal

-- the file states this problem
pub record StatesProblem (file : CoreFile) (p : Problem) : Type 0 where
  pub says : SaysCore file p
  pub rule_set : IsRuleSet p.shapes p.forms p.rules
