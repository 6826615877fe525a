-- The search for sorts that derive themselves.
use Rattle.std.specs.Prelude.{◌≡◌, ℕ, zero, suc, ◌<◌, ◌≤◌, ◌↔◌, Bool, false, not, Option, None}
use Rattle.std.specs.Prelude.{Some, List, [], ◌∷◌, length, slice_get, slice_index_or, count_by}
use Rattle.std.specs.Prelude.{Contains, IsTrue}
use Rattle.std.specs.Global.{Vec}
use Rattle.sx_grammar.specs.declared.numbered.NumberedSymbol.{NumberedSymbol}
use Rattle.sx_grammar.specs.declared.numbered.NumberedSymbol.TheVariants.{Lit, Lex, Part}
use Rattle.sx_grammar.specs.declared.numbered.NumberedProduction.{NumberedProduction}
use Rattle.sx_grammar.specs.declared.rule.Rule.{Rule}
use Rattle.sx_grammar.specs.Ranks.{rank_in}
use Rattle.sx_grammar.specs.Grammar.{Symbol, literal, lexical, part, Production, Grammar}
use Rattle.sx_grammar.specs.Cyclic.{Vanishes, StepsTo}

-- the sort derives the empty list
abbrev pub IsEmptySort : Grammar → ℕ → Type 0
IsEmptySort g sort = (label : ℕ) × (p : Production) × (slice_get g.productions label ≡ Some p) ×
    (p.sort ≡ sort) × Vanishes g p.symbols

-- each sort that is marked derives the empty list
abbrev pub AreEmptySorts : Grammar → List Bool → Type 0
AreEmptySorts g marks = (sort : ℕ) → IsTrue (slice_index_or marks sort false) → IsEmptySort g sort

-- each symbol is a part of a marked sort
abbrev pub AllMarked : List Bool → List Symbol → Type 0
AllMarked marks [] = Unit {0}
AllMarked marks (literal text ∷ rest) = ⊥
AllMarked marks (lexical kind ∷ rest) = ⊥
AllMarked marks (part sort least ∷ rest) = IsTrue (slice_index_or marks sort false) ×
    AllMarked marks rest

-- a production all of whose symbols are parts of marked sorts has a marked sort
abbrev pub IsClosed : Grammar → List Bool → Type 0
IsClosed g marks = (label : ℕ) (p : Production) → slice_get g.productions label ≡ Some p →
    AllMarked marks p.symbols → IsTrue (slice_index_or marks p.sort false)

-- whether the symbol is a part of a marked sort
abbrev pub is_marked : List Bool → NumberedSymbol → Bool
is_marked marks (Lit number) = false
is_marked marks (Lex kind) = false
is_marked marks (Part sort least) = slice_index_or marks sort false

-- how many symbols are not parts of marked sorts
abbrev pub unmarked : List Bool → List NumberedSymbol → ℕ
unmarked marks symbols = count_by (λ s. not (is_marked marks s)) symbols

-- the sorts of the productions are below the bound
abbrev pub HaveSortsBelow : ℕ → List NumberedProduction → Type 0
HaveSortsBelow bound ps = (label : ℕ) (p : NumberedProduction) → slice_get ps label ≡ Some p →
    p.sort < bound

-- the list at a place, or no list past the end
abbrev pub list_at : List (Vec ℕ) → ℕ → List ℕ
list_at [] place = []
list_at (v ∷ vs) zero = v.items
list_at (v ∷ vs) (suc place) = list_at vs place

-- the symbol is a part of the sort, and all other symbols are parts of marked sorts, where so many
-- symbols are not
abbrev pub IsPartOpen : List Bool → ℕ → NumberedSymbol → ℕ → Type 0
IsPartOpen marks count s sort = (least : ℕ) × (s ≡ Part sort least) ×
    (count ≡ unmarked marks (Part sort least ∷ []))

-- a symbol is a part of the sort, and all others are parts of marked sorts
abbrev pub IsTarget : List Bool → List NumberedSymbol → ℕ → Type 0
IsTarget marks symbols sort = (k : ℕ) × (s : NumberedSymbol) × (slice_get symbols k ≡ Some s) ×
    IsPartOpen marks (unmarked marks symbols) s sort

-- a production of the sort leads to the other sort, where these sorts are marked
abbrev pub HasStep : List Bool → List NumberedProduction → (sort other : ℕ) → Type 0
HasStep marks ps sort other = (label : ℕ) × (p : NumberedProduction) ×
    (slice_get ps label ≡ Some p) × (p.sort ≡ sort) × IsTarget marks p.symbols.items other

-- the lists have the steps of the grammar
abbrev pub AreStepsOf : Grammar → List (Vec ℕ) → Type 0
AreStepsOf g lists = (sort other : ℕ) → Contains (list_at lists sort) other ↔ StepsTo g sort other

-- the sorts of the parts are below the bound
abbrev pub HavePartsBelow : ℕ → List NumberedProduction → Type 0
HavePartsBelow bound ps = (label : ℕ) (p : NumberedProduction) (k sort least : ℕ) →
    slice_get ps label ≡ Some p → slice_get p.symbols.items k ≡ Some (Part sort least) →
    sort < bound

-- the symbols are parts of these sorts
abbrev pub ArePartsOf : List NumberedSymbol → List ℕ → Type 0
ArePartsOf [] [] = Unit {0}
ArePartsOf (Part sort least ∷ symbols) (other ∷ sorts) = (sort ≡ other) × ArePartsOf symbols sorts
ArePartsOf _ _ = ⊥

-- the rule says that the sort of the production derives the empty list where those of its parts do
abbrev pub IsRuleOf : NumberedProduction → Rule → Type 0
IsRuleOf p r = (r.head ≡ p.sort) × ArePartsOf p.symbols.items r.needs.items

-- the rules of the first n productions, of those that are of parts alone
pub record AreRulesOf (ps : List NumberedProduction) (n : ℕ) (rules : List Rule) : Type 0 where
  pub only : (i : ℕ) (r : Rule) → slice_get rules i ≡ Some r →
      (label : ℕ) × (p : NumberedProduction) × (slice_get ps label ≡ Some p) × IsRuleOf p r
  pub all : (label : ℕ) (p : NumberedProduction) (sorts : List ℕ) → label < n →
      slice_get ps label ≡ Some p → ArePartsOf p.symbols.items sorts →
      (i : ℕ) × (r : Rule) × (slice_get rules i ≡ Some r) × IsRuleOf p r

-- a rule for each of the first n sorts: it needs those to which the sort steps
pub record AreStepRules (lists : List (Vec ℕ)) (n : ℕ) (rules : List Rule) : Type 0 where
  pub size : length rules ≡ n
  pub each : (i : ℕ) (r : Rule) → slice_get rules i ≡ Some r →
      (r.head ≡ i) × (r.needs.items ≡ list_at lists i)

-- the sorts of the steps are below the bound
abbrev pub AreStepsBelow : ℕ → List (Vec ℕ) → Type 0
AreStepsBelow bound lists = (sort other : ℕ) → Contains (list_at lists sort) other → other < bound

-- one of the numbers has no rank
abbrev pub LacksRank : List (Option ℕ) → Type 0
LacksRank ranks = (x : ℕ) × (x < length ranks) × (rank_in ranks x ≡ None)

-- each of the sorts has this number or a greater one
abbrev pub AreFrom : List ℕ → ℕ → List ℕ → Type 0
AreFrom numbers least sorts = (sort : ℕ) → Contains sorts sort →
    least ≤ slice_index_or numbers sort 0

-- each of the sorts has a greater number than this
abbrev pub AreAbove : List ℕ → ℕ → List ℕ → Type 0
AreAbove numbers bound sorts = (sort : ℕ) → Contains sorts sort →
    bound < slice_index_or numbers sort 0

-- along no step the numbers fall
abbrev pub NeverFalls : List ℕ → List (Vec ℕ) → Type 0
NeverFalls numbers lists = (sort : ℕ) → AreFrom numbers (slice_index_or numbers sort 0)
    (list_at lists sort)

-- along each step from the sort they rise
abbrev pub Rises : List ℕ → List (Vec ℕ) → ℕ → Type 0
Rises numbers lists sort = AreAbove numbers (slice_index_or numbers sort 0) (list_at lists sort)
