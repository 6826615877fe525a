-- The core text of a term.
use Rattle.std.specs.Prelude.{◌≡◌, ℕ, ◌+◌, ◌^◌, ◌<◌, ◌≤◌, List, [], ◌∷◌, ◌++◌, length, decimal}
use Rattle.std.specs.Prelude.{codes, refl}
use Rattle.std.specs.Fmt.{digits}
use Rattle.std.specs.Str.{IsUtf8}
use Rattle.sx_term.specs.declared.lex_kind.LexKind.{LexKind}
use Rattle.sx_term.specs.declared.lex_kind.LexKind.TheVariants.{Id, Num, Str}
use Rattle.sx_term.specs.Tree.{Tree, Trees, node, lexeme, hole, none, ◌▹◌}
use Rattle.sx_term.specs.Limits.{most_variables}

-- `i`, `n` or `s`
abbrev pub kind_byte : LexKind → ℕ
kind_byte Id = 105
kind_byte Num = 110
kind_byte Str = 115

abbrev mutual
  -- `(LABEL KID ..)`, a kind with the number of bytes, `:` and the bytes, or `?VARIABLE`
  pub core : Tree → List ℕ
  core (node label kids) = 40 ∷ (decimal label ++ (cores kids ++ 41 ∷ []))
  core (lexeme kind text) = kind_byte kind ∷ (decimal (length text) ++ (58 ∷ text))
  core (hole variable) = 63 ∷ decimal variable

  -- the core texts, each with a blank before it
  pub cores : Trees → List ℕ
  cores none = []
  cores (t ▹ ts) = 32 ∷ (core t ++ cores ts)

-- a node with a lexeme and a variable
example_core : core (node 0 (lexeme Id (codes "x") ▹ hole 3 ▹ none)) ≡ codes "(0 i1:x ?3)"
unfolding digits
example_core = refl

abbrev mutual
  -- variables are below 64, and each lexeme has 1 to 65,535 bytes
  pub IsWritable : Tree → Type 0
  IsWritable (node label kids) = AreWritable kids
  IsWritable (lexeme kind text) = (1 ≤ length text) × (length text ≤ 65535)
  IsWritable (hole variable) = variable < most_variables

  -- the same of each term
  pub AreWritable : Trees → Type 0
  AreWritable none = Unit {0}
  AreWritable (t ▹ ts) = IsWritable t × AreWritable ts

abbrev mutual
  -- the term has a core text: besides, labels are below 2 ^ 32, and each lexeme is UTF-8
  pub HasCore : Tree → Type 0
  HasCore (node label kids) = (label < 2 ^ 32) × HaveCore kids
  HasCore (lexeme kind text) = (1 ≤ length text) × (length text ≤ 65535) × IsUtf8 text
  HasCore (hole variable) = variable < most_variables

  -- the same of each term
  pub HaveCore : Trees → Type 0
  HaveCore none = Unit {0}
  HaveCore (t ▹ ts) = HasCore t × HaveCore ts

-- the bytes do not begin with a digit
abbrev pub NoDigit : List ℕ → Type 0
NoDigit bytes = (d : ℕ) (rest : List ℕ) → d < 10 → bytes ≡ (48 + d) ∷ rest → ⊥
