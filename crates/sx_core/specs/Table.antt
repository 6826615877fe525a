-- The lines of core files as a table: the word that begins a line, and the parts that follow it.
use Rattle.std.specs.Prelude.{◌≡◌, ℕ, List, [], ◌∷◌, ◌++◌, ◌⊎◌, map, codes}
use Rattle.std.specs.List.{flat_map}
use Rattle.sx_term.specs.Tree.{Tree}
use Rattle.sx_term.specs.Core.{core}
use Rattle.sx_core.specs.File.{SortRow, ConRow, FormRow, Declaration, sort_line, con_line}
use Rattle.sx_core.specs.File.{form_line, JudgementRow, PremiseRow, if_line, not_line, RuleRows}
use Rattle.sx_core.specs.File.{CoreFile, words_text, core_kind_text, core_place_text}
use Rattle.sx_core.specs.File.{judgement_text}
use Rattle.sx_core.specs.Words.{BlankFirst}
use Rattle.sx_core.specs.declared.keyword.Keyword.{Keyword}
use Rattle.sx_core.specs.declared.keyword.Keyword.TheVariants.{Head, Sort, Con, Form, Rule, If, Not}
use Rattle.sx_core.specs.declared.keyword.Keyword.TheVariants.{Then, End, Goal}

-- the words
abbrev pub core_keyword_text : Keyword → List ℕ
core_keyword_text Head = codes "sxcore"
core_keyword_text Sort = codes "sort"
core_keyword_text Con = codes "con"
core_keyword_text Form = codes "form"
core_keyword_text Rule = codes "rule"
core_keyword_text If = codes "if"
core_keyword_text Not = codes "not"
core_keyword_text Then = codes "then"
core_keyword_text End = codes "end"
core_keyword_text Goal = codes "goal"

-- a rule's name, and the names of its variables' sorts
pub record RuleRow : Type 0 where
  pub name : List ℕ
  pub sorts : List (List ℕ)

-- two terms that are to be apart
pub record ApartRow : Type 0 where
  pub left : Tree
  pub right : Tree

-- what follows each word
abbrev pub RowParts : Keyword → Type 0
RowParts Head = Unit {0}
RowParts Sort = SortRow
RowParts Con = ConRow
RowParts Form = FormRow
RowParts Rule = RuleRow
RowParts If = JudgementRow
RowParts Not = ApartRow
RowParts Then = JudgementRow
RowParts End = Unit {0}
RowParts Goal = JudgementRow

-- the parts as they are spelled, each after one blank
abbrev pub parts_text : (k : Keyword) → RowParts k → List ℕ
parts_text Head parts = codes " 1"
parts_text Sort row = words_text (row.name ∷ core_kind_text row.typed ∷ [])
parts_text Con row = words_text (row.name ∷ row.sort ∷ row.kids)
parts_text Form row = words_text (row.name ∷ map core_place_text row.places)
parts_text Rule row = words_text (row.name ∷ row.sorts)
parts_text If row = judgement_text row
parts_text Not row = words_text (core row.left ∷ core row.right ∷ [])
parts_text Then row = judgement_text row
parts_text End parts = []
parts_text Goal row = judgement_text row

-- a line's word and its parts
pub record Row : Type 0 where
  pub keyword : Keyword
  pub parts : RowParts keyword

-- the line of a row
abbrev pub row_text : Row → List ℕ
row_text row = core_keyword_text row.keyword ++ parts_text row.keyword row.parts

-- a row with this word
abbrev pub row_with : (k : Keyword) → RowParts k → Row
row_with k parts = record { keyword = k; parts = parts }

-- the row of a declaration
abbrev pub declaration_row : Declaration → Row
declaration_row (sort_line r) = row_with Sort r
declaration_row (con_line r) = row_with Con r
declaration_row (form_line r) = row_with Form r

-- the row of a premise
abbrev pub premise_row : PremiseRow → Row
premise_row (if_line r) = row_with If r
premise_row (not_line left right) = row_with Not (record { left = left; right = right })

-- the rows of a rule
abbrev pub rule_rows : RuleRows → List Row
rule_rows rule =
    row_with Rule (record { name = rule.name; sorts = rule.sorts }) ∷ map premise_row rule.premises
    ++ row_with Then rule.conclusion ∷ row_with End tt ∷ []

-- the rows of a core file
abbrev pub rows_of : CoreFile → List Row
rows_of file =
    row_with Head tt ∷ map declaration_row file.declarations
    ++ flat_map rule_rows file.rules
    ++ row_with Goal file.goal ∷ []

-- the line begins with this word, and a blank or nothing comes after it
pub record IsKeyword (text : List ℕ) (k : Keyword) (rest : List ℕ) : Type 0 where
  pub parts : text ≡ core_keyword_text k ++ rest
  pub stops : BlankFirst rest

-- the line begins with none of the words
abbrev pub NoKeyword : List ℕ → Type 0
NoKeyword text = (k : Keyword) (rest : List ℕ) → IsKeyword text k rest → ⊥

-- a row with this word stands among the rows
abbrev pub Has : Keyword → List Row → Type 0
Has k [] = ⊥
Has k (r ∷ rows) = (r.keyword ≡ k) ⊎ Has k rows
