-- Printed tokens of terms without variables are lexemes of the term and literals of the grammar.
use Rattle.std.proofs.Common.{◌≡◌, ℕ, List, [], ◌∷◌, ◌++◌, Bool, true, false, cond, Some, sym, refl, subst, Contains}
use Rattle.std.specs.Prelude.{None, Option, nat_lt}
use Rattle.std.specs.List.{AllByRecursion}
use Rattle.std.proofs.lemmas.Option.{none-some}
use Rattle.sx_term.specs.declared.mark.Mark.TheVariants as TheMark
use Rattle.sx_term.specs.Tree.{Tree, Trees}
use Rattle.sx_term.specs.Spaced.{IsTokenText}
use Rattle.sx_grammar.specs.Grammar.{Text, Symbol, literal, lexical, part, Brackets, pair_of, Stem, of_kind, of_sort, Mark, is_literal, is_lexeme, is_variable, Token}
use Rattle.sx_grammar.specs.Print.{literal_token, print_symbols, in_brackets, print_node, print, print_each, Fits, node_fits, lexeme_fits, hole_fits, AllFit, none_fit, past_literal_fit, lexical_fit, part_fit}
use Rattle.sx_grammar.specs.Parts.{Parts, numbered}
use Rattle.sx_grammar.specs.Made.{IsGrammar}
use Rattle.sx_grammar.specs.Tables.{literals_of}
use Rattle.sx_grammar.proofs.Finding.{is_head, past_head}
use Rattle.sx_print.specs.Cut.{HasLexemes, HaveLexemes}
use Rattle.sx_print.proofs.Literals.{IsGoodLiteral, production_literal, bracket_literal}

-- a literal of the grammar, or a token of a kind
abbrev pub IsGood : Parts → Mark → Text → Type 0
IsGood p is_literal text = IsGoodLiteral p text
IsGood p (is_lexeme kind) text = IsTokenText (literals_of p) false (TheMark.Lex kind) text
IsGood p (is_variable stem) text = ⊥

abbrev pub AreGood : Parts → List Token → Type 0
AreGood p tokens = AllByRecursion (λ token. IsGood p token.mark token.text) tokens

good_append : (p : Parts) (xs ys : List Token) → AreGood p xs → AreGood p ys → AreGood p (xs ++ ys)
good_append p [] ys h k = k
good_append p (x ∷ xs) ys h k = (h.0, good_append p xs ys h.1 k)

good_brackets : (p : Parts) → IsGrammar p → (sort : ℕ) (pair : Option Brackets) (inner : List Token) → pair_of (numbered p) sort ≡ pair → AreGood p inner → AreGood p (in_brackets pair inner)
good_brackets p is sort None inner e good = good
good_brackets p is sort (Some pair) inner e good =
    let ends = bracket_literal p is sort pair e in
    (ends.0, good_append p inner (literal_token pair.closing ∷ []) good (ends.1, tt))

good_node : (p : Parts) → IsGrammar p → (sort : ℕ) (b : Bool) (inner : List Token) → AreGood p inner → AreGood p (cond b (in_brackets (pair_of (numbered p) sort) inner) inner)
good_node p is sort true inner good = good_brackets p is sort (pair_of (numbered p) sort) inner refl good
good_node p is sort false inner good = good

module _ (p : Parts) (names : List Text) (is : IsGrammar p) where
  mutual
    pub tokens_good : {place : Stem} {t : Tree} → Fits (numbered p) [] place t → HasLexemes (literals_of p) t → (here : Stem) (least : ℕ) → AreGood p (print (numbered p) names t here least)
    tokens_good (node_fits {label = label} {p = r} {kids = kids} e all) has here least =
        let inner = row_good all has (λ text h. production_literal p is label r e text h) in
        subst (λ o. AreGood p (print_node (numbered p) o (print_each (numbered p) names kids) least)) (sym e)
        (good_node p is r.sort (nat_lt r.level least) (print_symbols r.symbols (print_each (numbered p) names kids)) inner)
    tokens_good lexeme_fits has here least = (has, tt)
    tokens_good (hole_fits h) has here least = absurd (none-some _ h)

    pub row_good : {symbols : List Symbol} {kids : Trees} → AllFit (numbered p) [] symbols kids → HaveLexemes (literals_of p) kids
        → ((text : Text) → Contains symbols (literal text) → IsGoodLiteral p text) → AreGood p (print_symbols symbols (print_each (numbered p) names kids))
    row_good none_fit has good = tt
    row_good (past_literal_fit {text = text} {rest = rest} fits) has good =
        (good text (is_head (literal text) rest), row_good fits has (λ x h. good x (past_head (literal text) rest (literal x) h)))
    row_good (lexical_fit {kind = kind} {rest = rest} {t = t} {kids = kids} one fits) has good =
        good_append p (print (numbered p) names t (of_kind kind) 0) (print_symbols rest (print_each (numbered p) names kids))
        (tokens_good one has.0 (of_kind kind) 0) (row_good fits has.1 (λ x h. good x (past_head (lexical kind) rest (literal x) h)))
    row_good (part_fit {sort = sort} {least = least} {rest = rest} {t = t} {kids = kids} one fits) has good =
        good_append p (print (numbered p) names t (of_sort sort) least) (print_symbols rest (print_each (numbered p) names kids))
        (tokens_good one has.0 (of_sort sort) least) (row_good fits has.1 (λ x h. good x (past_head (part sort least) rest (literal x) h)))
