-- How many readings there are, and how deep the deepest is.
use Rattle.std.specs.Prelude.{◌≡◌, ◌≢◌, suc, ℕ, ◌+◌, ◌≤◌, ◌⊎◌, max, List, [], ◌∷◌}
use Rattle.sx_term.specs.declared.lex_kind.LexKind.{LexKind}
use Rattle.sx_grammar.specs.Grammar.{Symbol, Grammar, of_kind, of_sort, is_lexeme, is_variable}
use Rattle.sx_grammar.specs.Grammar.{Token}
use Rattle.sx_grammar.specs.declared.head.Head.{Head}
use Rattle.sx_grammar.specs.Reading.{Marked, Reading, Readings, leaf, variable, ◌▸◌, Reads}
use Rattle.sx_grammar.specs.Reading.{ReadsAll, ReadsBy}
use Rattle.sx_grammar.specs.Items.{Makes}

-- how many there are, none, one or more, and the greatest depth
pub data Tally : Type 0 where
  no_way : Tally
  one_way : (depth : ℕ) → Tally
  more_ways : (depth : ℕ) → Tally

-- this or that, where nothing is both
abbrev pub plus : Tally → Tally → Tally
plus no_way u = u
plus (one_way d) no_way = one_way d
plus (one_way d) (one_way e) = more_ways (max d e)
plus (one_way d) (more_ways e) = more_ways (max d e)
plus (more_ways d) no_way = more_ways d
plus (more_ways d) (one_way e) = more_ways (max d e)
plus (more_ways d) (more_ways e) = more_ways (max d e)

-- this and then that
abbrev pub times : Tally → Tally → Tally
times no_way u = no_way
times (one_way d) no_way = no_way
times (one_way d) (one_way e) = one_way (max d e)
times (one_way d) (more_ways e) = more_ways (max d e)
times (more_ways d) no_way = no_way
times (more_ways d) (one_way e) = more_ways (max d e)
times (more_ways d) (more_ways e) = more_ways (max d e)

-- inside a node or a bracket pair
abbrev pub deeper : Tally → Tally
deeper no_way = no_way
deeper (one_way d) = one_way (d + 1)
deeper (more_ways d) = more_ways (d + 1)

-- the greatest depth of the things that P holds of
pub record IsGreatest {A : Type 0} (P : A → Type 0) (depth : A → ℕ) (d : ℕ) : Type 0 where
  pub deepest : A
  pub holds : P deepest
  pub is : depth deepest ≡ d
  pub bound : (a : A) → P a → depth a ≤ d

-- the tally of the things that P holds of
abbrev pub IsTally : {A : Type 0} → (A → Type 0) → (A → ℕ) → Tally → Type 0
IsTally {A} P depth no_way = (a : A) → P a → ⊥
IsTally {A} P depth (one_way d) = (a : A) × P a × (depth a ≡ d) × ((b : A) → P b → b ≡ a)
IsTally {A} P depth (more_ways d) = (a : A) × (b : A) × P a × P b × (a ≢ b) × IsGreatest P depth d

-- the tallies of several kinds together
abbrev pub tally_of_all : {X : Type 0} → (X → Tally) → List X → Tally
tally_of_all f [] = no_way
tally_of_all f (x ∷ xs) = plus (f x) (tally_of_all f xs)

-- the thing is joined from one that P holds of and one that Q holds of
abbrev pub Joined : {A B C : Type 0} → (A → Type 0) → (B → Type 0) → (A → B → C) → C → Type 0
Joined {A} {B} {C} P Q join c = (a : A) × (b : B) × P a × Q b × (c ≡ join a b)

-- P holds of the thing for one of the list
abbrev pub ForSome : {X A : Type 0} → (X → A → Type 0) → List X → A → Type 0
ForSome P [] a = ⊥
ForSome P (x ∷ xs) a = P x a ⊎ ForSome P xs a

-- P of each index of the list has its tally
abbrev pub AllTallied : {X A : Type 0} → (X → A → Type 0) → (A → ℕ) → (X → Tally) → List X → Type 0
AllTallied P depth f [] = Unit {0}
AllTallied P depth f (x ∷ xs) = IsTally (P x) depth (f x) × AllTallied P depth f xs

-- the thing is in the list
abbrev pub Among : {X : Type 0} → X → List X → Type 0
Among x [] = ⊥
Among x (y ∷ ys) = (x ≡ y) ⊎ Among x ys

-- each thing stands once in the list
abbrev pub EachOnce : {X : Type 0} → List X → Type 0
EachOnce [] = Unit {0}
EachOnce (x ∷ xs) = (Among x xs → ⊥) × EachOnce xs

-- the ways to read a lexical symbol
abbrev pub IsLeafAt : List Token → LexKind → ℕ → Reading → Type 0
IsLeafAt tokens kind from r = (Marked tokens from (is_lexeme kind) × (r ≡ leaf from)) ⊎
    (Marked tokens from (is_variable (of_kind kind)) × (r ≡ variable from))

-- the first part is read up to this place, and the other symbols from there on
abbrev pub ReadsVia : Grammar → List Token → (sort least : ℕ) → List Symbol → (from to middle : ℕ) →
    Readings → Type 0
ReadsVia g tokens sort least rest from to middle =
    Joined (Reads g tokens sort least from middle) (ReadsAll g tokens rest middle to) ◌▸◌

-- the reading is of this head, which makes the sort at least the level
abbrev pub ReadsAt : Grammar → List Token → (sort least from to : ℕ) → Head → Reading → Type 0
ReadsAt g tokens sort least from to head r =
    Makes g head sort least × ReadsBy g tokens head sort from to r

-- the reading is one metavariable of the sort
abbrev pub IsVariableAt : List Token → (sort from to : ℕ) → Reading → Type 0
IsVariableAt tokens sort from to r = Marked tokens from (is_variable (of_sort sort)) ×
    (to ≡ suc from) × (r ≡ variable from)
