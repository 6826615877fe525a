-- Earley's items as the least set that is closed under prediction, scanning and completion.
use Rattle.std.specs.Prelude.{suc, ◌≡◌, ℕ, ◌≤◌, ◌⊎◌, List, Some, length}
use Rattle.std.specs.List.{slice_get}
use Rattle.sx_grammar.specs.Grammar.{Symbol, literal, lexical, part, Production, Grammar}
use Rattle.sx_grammar.specs.Grammar.{production_of, of_kind, of_sort, is_lexeme, is_variable, Token}
use Rattle.sx_grammar.specs.declared.head.Head.{Head}
use Rattle.sx_grammar.specs.Reading.{Marked, IsLiteral}

-- the symbol reads the token at this place by itself
abbrev pub ReadsToken : List Token → Symbol → ℕ → Type 0
ReadsToken tokens (literal text) place = IsLiteral tokens place text
ReadsToken tokens (lexical kind) place = Marked tokens place (is_lexeme kind) ⊎
    Marked tokens place (is_variable (of_kind kind))
ReadsToken tokens (part sort least) place = Marked tokens place (is_variable (of_sort sort))

-- the head makes the sort at least the level
pub record Makes (g : Grammar) (head : Head) (sort least : ℕ) : Type 0 where
  pub production : Production
  pub is : production_of g head ≡ Some production
  pub same_sort : production.sort ≡ sort
  pub reaches : least ≤ production.level

-- the symbol after the dot of the head's production
abbrev pub NextIs : Grammar → Head → ℕ → Symbol → Type 0
NextIs g head dot symbol = (p : Production) × (production_of g head ≡ Some p) ×
    (slice_get p.symbols dot ≡ Some symbol)

-- the dot stands at the end of the head's production
abbrev pub AtEnd : Grammar → Head → ℕ → Type 0
AtEnd g head dot = (p : Production) × (production_of g head ≡ Some p) × (length p.symbols ≡ dot)

-- Earley's items: the least set that is closed under prediction, scanning and completion
pub data Item (g : Grammar) (tokens : List Token) (start : ℕ) : Head → (dot origin end : ℕ) →
    Type 0 where
  started : {head : Head} → Makes g head start 0 → Item g tokens start head 0 0 0
  predicted : {head other : Head} {dot origin end sort least : ℕ} →
      Item g tokens start head dot origin end → NextIs g head dot (part sort least) →
      Makes g other sort least → Item g tokens start other 0 end end
  scanned : {head : Head} {dot origin end : ℕ} {symbol : Symbol} →
      Item g tokens start head dot origin end → NextIs g head dot symbol →
      ReadsToken tokens symbol end → Item g tokens start head (suc dot) origin (suc end)
  completed : {head other : Head} {dot full origin middle end sort least : ℕ} →
      Item g tokens start head dot origin middle → NextIs g head dot (part sort least) →
      Item g tokens start other full middle end → Makes g other sort least → AtEnd g other full →
      Item g tokens start head (suc dot) origin end

-- a span that the items complete
abbrev pub Span : Grammar → List Token → ℕ → Head → ℕ → ℕ → Type 0
Span g tokens start head from to = (dot : ℕ) × AtEnd g head dot ×
    Item g tokens start head dot from to
