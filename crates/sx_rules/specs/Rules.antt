-- Rules as plain data, and what it is for two terms to be apart.
use Rattle.std.specs.Prelude.{◌≡◌, ◌≢◌, ℕ, List, [], ◌∷◌, ◌⊎◌, map}
use Rattle.sx_term.specs.declared.sort.Sort.{Sort}
use Rattle.sx_term.specs.Tree.{Tree, lexeme}
use Rattle.sx_rules.specs.Instances.{instance}

-- a form's number and a term for each of its places
pub record Judgement : Type 0 where
  pub form : ℕ
  pub places : List Tree

-- a judgement, or two terms that are to be apart
pub data Premise : Type 0 where
  holds : Judgement → Premise
  apart : Tree → Tree → Premise

-- a rule: the sorts of its variables 0, 1, 2 and so on, its premises and its conclusion
pub record Rule : Type 0 where
  pub sorts : List Sort
  pub premises : List Premise
  pub conclusion : Judgement

-- the judgements that are given, and the pairs that are given to be apart
pub record Hypotheses : Type 0 where
  pub judgements : List Judgement
  pub pairs : List (Tree × Tree)

-- there are none
abbrev pub no_hypotheses : Hypotheses
no_hypotheses = record { judgements = []; pairs = [] }

-- the instance of a judgement
abbrev pub judgement_instance : (ℕ → Tree) → Judgement → Judgement
judgement_instance s j = record { form = j.form; places = map (instance s) j.places }

-- the judgements among the premises
abbrev pub judgements_of : List Premise → List Judgement
judgements_of [] = []
judgements_of (holds j ∷ ps) = j ∷ judgements_of ps
judgements_of (apart s t ∷ ps) = judgements_of ps

-- both terms are lexemes, and they differ
abbrev pub AreDifferentLexemes : Tree → Tree → Type 0
AreDifferentLexemes (lexeme k x) (lexeme m y) = lexeme k x ≢ lexeme m y
AreDifferentLexemes _ _ = ⊥

-- the two terms are one of the pairs, in this order
abbrev pub IsPair : List (Tree × Tree) → Tree → Tree → Type 0
IsPair [] s t = ⊥
IsPair (p ∷ ps) s t = ((p.0 ≡ s) × (p.1 ≡ t)) ⊎ IsPair ps s t

-- a pair of the hypotheses, either way round, or two different lexemes
abbrev pub AreApart : Hypotheses → Tree → Tree → Type 0
AreApart given s t = IsPair given.pairs s t ⊎ IsPair given.pairs t s ⊎ AreDifferentLexemes s t

-- the instance of each premise that asks for two terms to be apart holds
abbrev pub AllApart : Hypotheses → (ℕ → Tree) → List Premise → Type 0
AllApart given s [] = Unit {0}
AllApart given s (holds j ∷ ps) = AllApart given s ps
AllApart given s (apart t u ∷ ps) = AreApart given (instance s t) (instance s u) ×
    AllApart given s ps
