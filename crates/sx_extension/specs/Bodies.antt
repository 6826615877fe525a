-- The bodies of the rules of an extension.
use Rattle.std.specs.Prelude.{◌≡◌, ℕ, zero, suc, List, [], ◌∷◌, Option, Some, None}
use Rattle.sx_term.specs.declared.sort.Sort.{Sort}
use Rattle.sx_term.specs.Tree.{Tree}
use Rattle.sx_term.specs.Sorts.{Shape}
use Rattle.sx_rules.specs.Views.{FormData, NamedRule}
use Rattle.sx_outline.specs.Stages.{Numbered, RuleData}
use Rattle.sx_language.specs.RuleLine.{subject_sort}
use Rattle.sx_extension.specs.declared.body_defect.BodyDefect.{BodyDefect}
use Rattle.sx_extension.specs.declared.body_defect.BodyDefect.TheVariants.{NoBody, BodySort}
use Rattle.sx_extension.specs.declared.body_defect.BodyDefect.TheVariants.{BodyExtended}
use Rattle.sx_extension.specs.OwnSyntax.{HasOwn}

-- a body was read exactly where there is a subject and a line
abbrev pub IsReadBody : (subject : Option Sort) → Option Numbered → Option Tree → Type 0
IsReadBody (Some sort) (Some line) None = ⊥
IsReadBody (Some sort) (Some line) (Some t) = Unit {0}
IsReadBody subject line body = body ≡ None

-- Where the conclusion has a subject there is a body, in which no typed syntax stands that the
-- extension itself adds; and else no line states one.
abbrev pub IsBodied : List Shape → (first : ℕ) → (subject : Option Sort) → Option Numbered →
    Option Tree → Type 0
IsBodied shapes first None None body = body ≡ None
IsBodied shapes first None (Some line) body = ⊥
IsBodied shapes first (Some sort) None body = ⊥
IsBodied shapes first (Some sort) (Some line) None = ⊥
IsBodied shapes first (Some sort) (Some line) (Some t) = HasOwn shapes first t → ⊥

-- this is wrong with the body
abbrev pub BodyHasDefect : List Shape → (first : ℕ) → (subject : Option Sort) → Option Numbered →
    Option Tree → BodyDefect → Type 0
BodyHasDefect shapes first (Some sort) line body NoBody = line ≡ None
BodyHasDefect shapes first None (Some line) body BodySort = Unit {0}
BodyHasDefect shapes first (Some sort) (Some line) (Some t) BodyExtended = HasOwn shapes first t
BodyHasDefect shapes first _ _ _ _ = ⊥

-- the sort of the subject of the rule's conclusion, if it has one
abbrev pub subject_of : List FormData → NamedRule → Option Sort
subject_of forms q = subject_sort forms q.rule.conclusion.form

-- so it is of each rule
abbrev pub AreReadBodies : List FormData → List RuleData → List NamedRule → List (Option Tree) →
    Type 0
AreReadBodies forms [] [] [] = Unit {0}
AreReadBodies forms (l ∷ ls) (q ∷ qs) (b ∷ bs) =
    IsReadBody (subject_of forms q) l.body b × AreReadBodies forms ls qs bs
AreReadBodies forms _ _ _ = ⊥

-- each rule has its body as it should
abbrev pub AreBodied : List FormData → List Shape → (first : ℕ) → List RuleData → List NamedRule →
    List (Option Tree) → Type 0
AreBodied forms shapes first (l ∷ ls) (q ∷ qs) (b ∷ bs) =
    IsBodied shapes first (subject_of forms q) l.body b × AreBodied forms shapes first ls qs bs
AreBodied forms shapes first _ _ _ = Unit {0}

-- the rules before the one with this number have their bodies as they should, and this is wrong
-- with that one's
abbrev pub IsFirstDefect : List FormData → List Shape → (first : ℕ) → List RuleData →
    List NamedRule → List (Option Tree) → ℕ → BodyDefect → Type 0
IsFirstDefect forms shapes first (l ∷ ls) (q ∷ qs) (b ∷ bs) zero d =
    BodyHasDefect shapes first (subject_of forms q) l.body b d
IsFirstDefect forms shapes first (l ∷ ls) (q ∷ qs) (b ∷ bs) (suc n) d =
    IsBodied shapes first (subject_of forms q) l.body b ×
    IsFirstDefect forms shapes first ls qs bs n d
IsFirstDefect forms shapes first _ _ _ n d = ⊥
