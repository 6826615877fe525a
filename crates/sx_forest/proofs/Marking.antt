-- Which metavariable is shown at a place.
use Rattle.std.proofs.Common.{◌≡◌, ◌↔◌, ℕ, List, [], Option, Some, None, option_map, refl, ap, ◌∙◌, sym}
use Rattle.std.specs.List.{slice_get}
use Rattle.std.proofs.lemmas.Option.{slice_get-map, same_Some, none-some}
use Rattle.sx_grammar.specs.Grammar.{Text, Token, is_literal, is_lexeme, is_variable, of_kind}
use Rattle.sx_grammar.specs.Grammar.{of_sort}
use Rattle.sx_grammar.specs.Reading.{Marked}
use Rattle.sx_grammar.specs.Tables.{GrammarData}
use Rattle.sx_earley.specs.Shown.{literal_texts, token_of, tokens_of}
use Rattle.sx_earley.specs.declared.shown.Shown.{Shown}
use Rattle.sx_earley.specs.declared.shown.Shown.TheVariants.{Lit, Lex, Kind, Sort, Other}

same_sort : (n sort : ℕ) → is_variable (of_sort n) ≡ is_variable (of_sort sort) → n ≡ sort
same_sort n sort e = cc

-- where one of a sort is shown, its sort is the one that is marked there
pub sort_there : (d : GrammarData) (shown : List Shown) (place n : ℕ) → slice_get shown place ≡ Some (Sort n) →
    (sort : ℕ) → (Some n ≡ Some sort) ↔ Marked (tokens_of d shown) place (is_variable (of_sort sort))
sort_there d shown place n at sort =
    let there = slice_get-map (token_of (literal_texts d)) shown place ∙ ap (option_map (token_of (literal_texts d))) at in (
      λ same. ([], there ∙ ap (λ (k : ℕ). Some (token_of (literal_texts d) (Sort k))) (same_Some n sort same)),
      λ marked. ap Some (same_sort n sort (ap (λ (t : Token). t.mark)
          (same_Some (token_of (literal_texts d) (Sort n)) (record { mark = is_variable (of_sort sort); text = marked.0 }) (sym there ∙ marked.1)))),
    )

marks : (literals : List Text) (s : Shown) (sort : ℕ) (text : Text) →
    Some (token_of literals s) ≡ Some (record { mark = is_variable (of_sort sort); text = text }) → (token_of literals s).mark ≡ is_variable (of_sort sort)
marks literals s sort text e = ap (λ (t : Token). t.mark) (same_Some (token_of literals s) (record { mark = is_variable (of_sort sort); text = text }) e)

not_marked : (literals : List Text) (o : Option Shown) → ((n : ℕ) → o ≡ Some (Sort n) → ⊥) → (sort : ℕ) (text : Text) →
    option_map (token_of literals) o ≡ Some (record { mark = is_variable (of_sort sort); text = text }) → ⊥
not_marked literals None none sort text e = none-some _ e
not_marked literals (Some (Lit n)) none sort text e = let q : is_literal ≡ is_variable (of_sort sort) = marks literals (Lit n) sort text e in absurd cc
not_marked literals (Some (Lex kind)) none sort text e = let q : is_lexeme kind ≡ is_variable (of_sort sort) = marks literals (Lex kind) sort text e in absurd cc
not_marked literals (Some (Kind kind)) none sort text e = let q : is_variable (of_kind kind) ≡ is_variable (of_sort sort) = marks literals (Kind kind) sort text e in absurd cc
not_marked literals (Some (Sort n)) none sort text e = none n refl
not_marked literals (Some Other) none sort text e = let q : is_literal ≡ is_variable (of_sort sort) = marks literals Other sort text e in absurd cc

-- where no metavariable of a sort is shown, none is marked
pub no_sort_there : (d : GrammarData) (shown : List Shown) (place : ℕ) → ((n : ℕ) → slice_get shown place ≡ Some (Sort n) → ⊥) →
    (sort : ℕ) → (None ≡ Some sort) ↔ Marked (tokens_of d shown) place (is_variable (of_sort sort))
no_sort_there d shown place none sort = (
  λ same. absurd (none-some sort same),
  λ marked. absurd (not_marked (literal_texts d) (slice_get shown place) none sort marked.0 (sym (slice_get-map (token_of (literal_texts d)) shown place) ∙ marked.1)),
)
