-- What terms that fit the grammar are.
use Rattle.std.proofs.Common.{◌≡◌, ℕ, ◌≤◌, List, [], length, Some, sym, refl, ap, ◌∙◌, subst, inl, inr, arith}
use Rattle.std.proofs.lemmas.Option.{none-some, slice_get_within}
use Rattle.sx_term.specs.Tree.{Tree, Trees, listed}
use Rattle.sx_grammar.specs.Grammar.{Text, Symbol, Grammar}
use Rattle.sx_grammar.specs.Grammar.{Stem, of_sort}
use Rattle.sx_grammar.specs.Print.{print, Fits, node_fits, lexeme_fits, hole_fits, AllFit, none_fit}
use Rattle.sx_grammar.specs.Print.{past_literal_fit, lexical_fit, part_fit, HasBrackets}
use Rattle.sx_grammar.specs.Print.{BracketsWhereAsked}
use Rattle.sx_grammar.proofs.Printing.{prints_read}
use Rattle.sx_print.specs.Printed.{IsAskedFor, IsPrintableTerm, parts_in, HasProductions, HaveProductions}
use Rattle.sx_print.specs.Cut.{HasReading}

module _ (g : Grammar) where
  counted : {stems : List Stem} {symbols : List Symbol} {kids : Trees} → AllFit g stems symbols kids → parts_in symbols ≡ length (listed kids)
  counted none_fit = refl
  counted (past_literal_fit fits) = counted fits
  counted (lexical_fit one fits) = let h = counted fits in omega (arith, h)
  counted (part_fit one fits) = let h = counted fits in omega (arith, h)

  module _ (stems : List Stem) (variables : ℕ) (named : length stems ≤ variables) where
    mutual
      -- a term that fits is built by the grammar
      pub built : {place : Stem} {t : Tree} → Fits g stems place t → HasProductions g variables t
      built (node_fits {p = p} e all) = (p, e, counted all, all_built all)
      built lexeme_fits = tt
      built (hole_fits {stem = stem} {v = v} h) = omega (arith, named, slice_get_within stems v stem h)

      all_built : {symbols : List Symbol} {kids : Trees} → AllFit g stems symbols kids → HaveProductions g variables kids
      all_built none_fit = tt
      all_built (past_literal_fit fits) = all_built fits
      all_built (lexical_fit one fits) = (built one, all_built fits)
      all_built (part_fit one fits) = (built one, all_built fits)

  -- a term without variables fits at one place
  one_place : {stems : List Stem} {place other : Stem} {t : Tree} → Fits g stems place t → Fits g [] other t → place ≡ other
  one_place (node_fits {p = p} e all) (node_fits {p = q} d every) =
      let found : Some p ≡ Some q = sym e ∙ d in
      let same : p ≡ q = cc in
      ap (λ r. of_sort r.sort) same
  one_place lexeme_fits lexeme_fits = refl
  one_place (hole_fits h) (hole_fits k) = absurd (none-some _ k)

  asked_brackets : BracketsWhereAsked g → (sort least : ℕ) → IsAskedFor g (of_sort sort) least → HasBrackets g sort least
  asked_brackets asked sort least (inl e) = λ label p at same lt. absurd (omega (arith, lt, e))
  asked_brackets asked sort least (inr (label, p, place, at, here)) = asked label p place sort least at here

  -- what is printed of a term without variables has a reading whose term it is
  pub printed_read : (names : List Text) (variables sort least : ℕ) (t : Tree) → BracketsWhereAsked g → IsPrintableTerm g variables least t → Fits g [] (of_sort sort) t → HasReading g names (print g names t (of_sort sort) least) sort least t
  printed_read names variables sort least t asked can fits =
      prints_read g names sort least t asked (asked_brackets asked sort least (subst (λ s. IsAskedFor g s least) (one_place can.fits fits) can.asked)) fits
