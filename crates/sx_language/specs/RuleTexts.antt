-- What the lines of rules state, and their first bad line.
use Rattle.std.specs.Prelude.{◌≡◌, true, ◌⊎◌, List, [], ◌∷◌, Option, Some, None}
use Rattle.std.specs.Prelude.{map, is_some}
use Rattle.std.specs.List.{AllByRecursion}
use Rattle.sx_term.specs.declared.sort.Sort.{Sort}
use Rattle.sx_term.specs.Tree.{Tree}
use Rattle.sx_grammar.specs.Grammar.{Text}
use Rattle.sx_grammar.specs.Stems.{without_digits}
use Rattle.sx_earley.specs.Tokens.{Stems, stem_sort}
use Rattle.sx_rules.specs.Rules.{Judgement, Premise, holds, apart}
use Rattle.sx_rules.specs.Views.{NamedRule}
use Rattle.sx_lines.specs.declared.kind.Kind.TheVariants.{Shape}
use Rattle.sx_outline.specs.Stages.{Numbered, RuleData}
use Rattle.sx_notation.specs.declared.notation_error.NotationError.{NotationError}
use Rattle.sx_notation.specs.declared.notation_error.NotationError.TheVariants.{Memory, Notation}
use Rattle.sx_notation.specs.ReadText.{IsReadLine, IsTextRefused}
use Rattle.sx_language.specs.RuleLine.{Reader, subject_sort, IsLine, IsBadRuleLine}

-- the lines state the premises in order, and each adds the names that it is the first to have
abbrev pub ArePremises : Reader → List Numbered → (old new : List Text) → List Premise → Type 0
ArePremises r [] old new [] = new ≡ old
ArePremises r (l ∷ ls) old new (q ∷ qs) =
    (middle : List Text) × IsLine r l.text old middle q × ArePremises r ls middle new qs
ArePremises r [] old new (q ∷ qs) = ⊥
ArePremises r (l ∷ ls) old new [] = ⊥

-- The body is the term of the only reading of its line at the subject's sort, and adds the names
-- that it is the first to have. There is none where there is no line, or no subject.
abbrev pub IsRuleBody : Reader → Option Numbered → (subject : Option Sort) → (old new : List Text) →
    Option Tree → Type 0
IsRuleBody r None subject old new body = (new ≡ old) × (body ≡ None)
IsRuleBody r (Some l) None old new body = (new ≡ old) × (body ≡ None)
IsRuleBody r (Some l) (Some sort) old new None = ⊥
IsRuleBody r (Some l) (Some sort) old new (Some t) = IsReadLine r.parts r.stems sort l.text old new
    t

-- each variable has the sort of its stem, which is its name without the digits at its end
abbrev pub HaveStemSorts : Stems → (names : List Text) → List Sort → Type 0
HaveStemSorts stems names sorts =
    map (λ name. stem_sort stems (without_digits name)) names ≡ map Some sorts

-- the stem of each name has a sort
abbrev pub NamesHaveStems : Stems → (names : List Text) → Type 0
NamesHaveStems stems names =
    AllByRecursion (λ name. is_some (stem_sort stems (without_digits name)) ≡ true) names

-- the lines state the premises, the conclusion and the body, one after the other, with these names
pub record AreStated (r : Reader) (lines : RuleData) (names : List Text) (qs : List Premise)
    (j : Judgement) (body : Option Tree) : Type 0 where
  pub middle : List Text
  pub last : List Text
  pub premises : ArePremises r lines.premises [] middle qs
  pub conclusion : IsLine r lines.conclusion.text middle last (holds j)
  pub bodied : IsRuleBody r lines.body (subject_sort r.forms j.form) last names body

-- the lines state the rule and its body, whose variables have these names
pub record IsRule (r : Reader) (lines : RuleData) (names : List Text) (q : NamedRule)
    (body : Option Tree) : Type 0 where
  pub name : q.name ≡ lines.name
  pub stated : AreStated r lines names q.rule.premises q.rule.conclusion body
  pub sorts : HaveStemSorts r.stems names q.rule.sorts

-- so it is of each rule
abbrev pub AreRules : Reader → List RuleData → (names : List (List Text)) → List NamedRule →
    (bodies : List (Option Tree)) → Type 0
AreRules r [] [] [] [] = Unit {0}
AreRules r (l ∷ ls) (n ∷ ns) (q ∷ qs) (b ∷ bs) = IsRule r l n q b × AreRules r ls ns qs bs
AreRules r _ _ _ _ = ⊥

-- so it is of each rule, and none has a body
abbrev pub AreBareRules : Reader → List RuleData → (names : List (List Text)) → List NamedRule →
    Type 0
AreBareRules r ls names qs = AreRules r ls names qs (map (λ l. None) ls)

-- why the first bad line of these is refused
abbrev pub IsBadPremise : Reader → List Numbered → (old : List Text) → NotationError → Type 0
IsBadPremise r [] old e = ⊥
IsBadPremise r (l ∷ ls) old e =
    IsBadRuleLine r l e
    ⊎ ((middle : List Text) × (q : Premise) × IsLine r l.text old middle q ×
    IsBadPremise r ls middle e)

-- the conclusion is not read, or says that two lexemes are to be apart
abbrev pub IsBadConclusion : Reader → Numbered → (old : List Text) → NotationError → Type 0
IsBadConclusion r l old e =
    IsBadRuleLine r l e
    ⊎ ((new : List Text) × (t : Tree) × (u : Tree) × IsLine r l.text old new (apart t u) ×
    (e ≡ Notation l.number Shape))

-- the line of the body is not read at the subject's sort
abbrev pub IsBadBody : Reader → Option Numbered → (subject : Option Sort) → NotationError → Type 0
IsBadBody r None subject e = ⊥
IsBadBody r (Some l) None e = ⊥
IsBadBody r (Some l) (Some sort) e = IsTextRefused r.parts r.stems sort l.text l.number e

-- the conclusion is bad, or it is read and the body is bad
abbrev pub IsBadEnd : Reader → RuleData → (old : List Text) → NotationError → Type 0
IsBadEnd r lines old e =
    IsBadConclusion r lines.conclusion old e
    ⊎ ((last : List Text) × (j : Judgement) × IsLine r lines.conclusion.text old last (holds j) ×
    IsBadBody r lines.body (subject_sort r.forms j.form) e)

-- a premise is bad, or they are read and what comes after them is bad
abbrev pub IsBadRule : Reader → RuleData → NotationError → Type 0
IsBadRule r lines e =
    IsBadPremise r lines.premises [] e
    ⊎ ((middle : List Text) × (qs : List Premise) × ArePremises r lines.premises [] middle qs ×
    IsBadEnd r lines middle e)

-- the first bad rule is refused so
abbrev pub IsFirstBadRule : Reader → List RuleData → NotationError → Type 0
IsFirstBadRule r [] e = ⊥
IsFirstBadRule r (l ∷ ls) e =
    IsBadRule r l e
    ⊎ ((names : List Text) × (q : NamedRule) × (body : Option Tree) × IsRule r l names q body ×
    IsFirstBadRule r ls e)

-- this is why, or memory is lacking
abbrev pub OrMemory : (NotationError → Type 0) → NotationError → Type 0
OrMemory P Memory = Unit {0}
OrMemory P e = P e
