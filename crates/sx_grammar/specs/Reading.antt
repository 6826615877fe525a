-- Readings: parse trees over tokens, and when one reads tokens as a sort.
use Rattle.std.specs.Prelude.{suc, ◌≡◌, ℕ, ◌+◌, ◌≤◌, List, [], ◌∷◌, Some, length, max}
use Rattle.std.specs.List.{slice_get}
use Rattle.sx_term.specs.declared.lex_kind.LexKind.{LexKind}
use Rattle.sx_grammar.specs.Grammar.{Text, Symbol, literal, lexical, part, Production, Brackets}
use Rattle.sx_grammar.specs.Grammar.{Grammar, pair_of, of_kind, of_sort, Mark, is_literal}
use Rattle.sx_grammar.specs.Grammar.{is_lexeme, is_variable, Token}
use Rattle.sx_grammar.specs.declared.head.Head.{Head}
use Rattle.sx_grammar.specs.declared.head.Head.TheVariants.{Labelled, Bracketed}

infixr 40 ◌▸◌
-- a parse tree over tokens; from and to count tokens, and the kids are those of the symbols that
-- are no literals
mutual
  pub data Reading : Type 0 where
    branch : (label : ℕ) → Readings → (from to : ℕ) → Reading
    bracket : Reading → (from to : ℕ) → Reading
    leaf : (token : ℕ) → Reading
    variable : (token : ℕ) → Reading

  pub data Readings : Type 0 where
    done : Readings
    ◌▸◌ : Reading → Readings → Readings

-- the token at this place has this mark
abbrev pub Marked : List Token → ℕ → Mark → Type 0
Marked tokens place mark = (text : Text) × (slice_get tokens place
    ≡ Some (record { mark = mark; text = text }))

-- the token at this place is this literal
abbrev pub IsLiteral : List Token → ℕ → Text → Type 0
IsLiteral tokens place text = slice_get tokens place
    ≡ Some (record { mark = is_literal; text = text })

mutual
  -- the reading reads the tokens between two places as the sort at least the level
  pub data Reads (g : Grammar) (tokens : List Token) : (sort least from to : ℕ) → Reading →
      Type 0 where
    by_production : {least from to label : ℕ} {p : Production} {kids : Readings} →
        slice_get g.productions label ≡ Some p → least ≤ p.level →
        ReadsAll g tokens p.symbols from to kids →
        Reads g tokens p.sort least from to (branch label kids from to)
    by_brackets : {sort least from to : ℕ} {pair : Brackets} {inner : Reading} →
        pair_of g sort ≡ Some pair → IsLiteral tokens from pair.opening →
        Reads g tokens sort 0 (suc from) to inner → IsLiteral tokens to pair.closing →
        Reads g tokens sort least from (suc to) (bracket inner from (suc to))
    by_variable : {sort least from : ℕ} →
        Marked tokens from (is_variable (of_sort sort)) →
        Reads g tokens sort least from (suc from) (variable from)

  -- the readings read the tokens between two places as the symbols, one after another
  pub data ReadsAll (g : Grammar) (tokens : List Token) : List Symbol → (from to : ℕ) → Readings →
      Type 0 where
    all_read : {from : ℕ} → ReadsAll g tokens [] from from done
    by_literal : {text : Text} {rest : List Symbol} {from to : ℕ} {kids : Readings} →
        IsLiteral tokens from text → ReadsAll g tokens rest (suc from) to kids →
        ReadsAll g tokens (literal text ∷ rest) from to kids
    by_lexeme : {kind : LexKind} {rest : List Symbol} {from to : ℕ} {kids : Readings} →
        Marked tokens from (is_lexeme kind) → ReadsAll g tokens rest (suc from) to kids →
        ReadsAll g tokens (lexical kind ∷ rest) from to (leaf from ▸ kids)
    by_lexical_variable : {kind : LexKind} {rest : List Symbol} {from to : ℕ} {kids : Readings} →
        Marked tokens from (is_variable (of_kind kind)) →
        ReadsAll g tokens rest (suc from) to kids →
        ReadsAll g tokens (lexical kind ∷ rest) from to (variable from ▸ kids)
    by_part : {sort least : ℕ} {rest : List Symbol} {from middle to : ℕ} {kid : Reading}
        {kids : Readings} →
        Reads g tokens sort least from middle kid → ReadsAll g tokens rest middle to kids →
        ReadsAll g tokens (part sort least ∷ rest) from to (kid ▸ kids)

-- the reading is a node or a bracket pair of the head, between these places
abbrev pub IsOf : Head → (from to : ℕ) → Reading → Type 0
IsOf (Labelled label) from to r = (kids : Readings) × (r ≡ branch label kids from to)
IsOf (Bracketed sort) from to r = (inner : Reading) × (r ≡ bracket inner from to)

-- the reading is of the head, between these places, and reads the sort
abbrev pub ReadsBy : Grammar → List Token → Head → (sort from to : ℕ) → Reading → Type 0
ReadsBy g tokens head sort from to r = IsOf head from to r × Reads g tokens sort 0 from to r

-- the reading reads all tokens as the sort
abbrev pub ReadsWhole : Grammar → List Token → ℕ → Reading → Type 0
ReadsWhole g tokens sort r = Reads g tokens sort 0 0 (length tokens) r

-- the only reading of all tokens as the sort
abbrev pub Only : Grammar → List Token → ℕ → Reading → Type 0
Only g tokens sort r = ReadsWhole g tokens sort r ×
    ((other : Reading) → ReadsWhole g tokens sort other → other ≡ r)

-- one more for each node and each bracket pair
abbrev mutual
  pub reading_depth : Reading → ℕ
  reading_depth (branch label kids from to) = readings_depth kids + 1
  reading_depth (bracket inner from to) = reading_depth inner + 1
  reading_depth (leaf token) = 1
  reading_depth (variable token) = 1

  pub readings_depth : Readings → ℕ
  readings_depth done = 0
  readings_depth (kid ▸ kids) = max (reading_depth kid) (readings_depth kids)

mutual
  -- a node or a bracket pair of this head stands between these places in the reading, which reads
  -- the sort
  pub data HasSpan (g : Grammar) : (sort : ℕ) → Reading → Head → (from to : ℕ) → Type 0 where
    at_node : {sort label from to : ℕ} {kids : Readings} →
        HasSpan g sort (branch label kids from to) (Labelled label) from to
    at_bracket : {sort from to : ℕ} {inner : Reading} →
        HasSpan g sort (bracket inner from to) (Bracketed sort) from to
    in_node : {sort label from to : ℕ} {kids : Readings} {p : Production} {head : Head}
        {left right : ℕ} →
        slice_get g.productions label ≡ Some p → AnyHasSpan g p.symbols kids head left right →
        HasSpan g sort (branch label kids from to) head left right
    in_bracket : {sort from to : ℕ} {inner : Reading} {head : Head} {left right : ℕ} →
        HasSpan g sort inner head left right →
        HasSpan g sort (bracket inner from to) head left right

  -- it stands so in one of the readings, which read the symbols
  pub data AnyHasSpan (g : Grammar) : List Symbol → Readings → Head → (from to : ℕ) → Type 0 where
    in_first : {sort least : ℕ} {rest : List Symbol} {kid : Reading} {kids : Readings} {head : Head}
        {left right : ℕ} →
        HasSpan g sort kid head left right →
        AnyHasSpan g (part sort least ∷ rest) (kid ▸ kids) head left right
    past_part : {sort least : ℕ} {rest : List Symbol} {kid : Reading} {kids : Readings}
        {head : Head} {left right : ℕ} →
        AnyHasSpan g rest kids head left right →
        AnyHasSpan g (part sort least ∷ rest) (kid ▸ kids) head left right
    past_lexeme : {kind : LexKind} {rest : List Symbol} {kid : Reading} {kids : Readings}
        {head : Head} {left right : ℕ} →
        AnyHasSpan g rest kids head left right →
        AnyHasSpan g (lexical kind ∷ rest) (kid ▸ kids) head left right
    past_literal : {text : Text} {rest : List Symbol} {kids : Readings} {head : Head}
        {left right : ℕ} →
        AnyHasSpan g rest kids head left right →
        AnyHasSpan g (literal text ∷ rest) kids head left right
