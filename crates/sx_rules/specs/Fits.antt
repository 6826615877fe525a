-- A rule is well sorted.
use Rattle.std.specs.Prelude.{◌≡◌, List, [], ◌∷◌, Some, slice_get, map}
use Rattle.sx_term.specs.declared.lex_kind.LexKind.{LexKind}
use Rattle.sx_term.specs.Tree.{Tree}
use Rattle.sx_term.specs.declared.sort.Sort.{Sort}
use Rattle.sx_term.specs.declared.sort.Sort.TheVariants.{Lex}
use Rattle.sx_rules.specs.Rules.{Judgement, Premise, holds, apart, Rule}
use Rattle.sx_term.specs.Sorts.{Shape, HasSort, HaveSorts}
use Rattle.sx_rules.specs.Views.{FormData}

-- the judgement has a form of the list, and for each of its places a term of the place's sort
abbrev pub JudgementFits : List Shape → List FormData → List Sort → Judgement → Type 0
JudgementFits shapes forms vars j =
    (form : FormData) × (slice_get forms j.form ≡ Some form) ×
    HaveSorts shapes vars j.places (map (λ p. p.sort) form.places)

-- the terms are of one lexical sort
abbrev pub AreOfOneKind : List Shape → List Sort → Tree → Tree → Type 0
AreOfOneKind shapes vars t u = (kind : LexKind) × HasSort shapes vars t (Lex kind) ×
    HasSort shapes vars u (Lex kind)

-- the premise is a judgement that fits, or two terms of one lexical sort
abbrev pub PremiseFits : List Shape → List FormData → List Sort → Premise → Type 0
PremiseFits shapes forms vars (holds j) = JudgementFits shapes forms vars j
PremiseFits shapes forms vars (apart t u) = AreOfOneKind shapes vars t u

-- each of the premises fits
abbrev pub PremisesFit : List Shape → List FormData → List Sort → List Premise → Type 0
PremisesFit shapes forms vars [] = Unit {0}
PremisesFit shapes forms vars (p ∷ ps) = PremiseFits shapes forms vars p ×
    PremisesFit shapes forms vars ps

-- the rule is well sorted
abbrev pub RuleFits : List Shape → List FormData → Rule → Type 0
RuleFits shapes forms rule = JudgementFits shapes forms rule.sorts rule.conclusion ×
    PremisesFit shapes forms rule.sorts rule.premises
