-- What is printed of a term without variables.
use Rattle.std.proofs.Common.{◌≡◌, ℕ, zero, suc, ◌<◌, List, [], ◌∷◌, ◌++◌, get_or, sym, ◌∙◌, subst}
use Rattle.std.proofs.Common.{lit<}
use Rattle.std.specs.Str.{IsUtf8}
use Rattle.std.proofs.lemmas.Str.{IsUtf8-from_ascii, IsUtf8-append}
use Rattle.sx_term.specs.declared.sort.Sort.{Sort}
use Rattle.sx_term.specs.declared.sort.Sort.TheVariants as sorts
use Rattle.sx_term.specs.Sorts.{HasSort}
use Rattle.sx_term.specs.Tree.{Tree}
use Rattle.sx_grammar.specs.Grammar.{Text, Stem, of_sort}
use Rattle.sx_grammar.specs.Parts.{Parts, numbered}
use Rattle.sx_grammar.specs.Told.{shapes_of}
use Rattle.sx_grammar.specs.Print.{print, Fits}
use Rattle.sx_earley.specs.Completed.{IsSort, sort_number}
use Rattle.sx_print.specs.Printed.{text_of}
use Rattle.sx_print.proofs.Sorting.{sorted_terms}
use Rattle.sx_unit.specs.Texts.{print_text}

pub shown_is : (p : Parts) (t : Tree) (names : List Text) (start new : List ℕ) → names ≡ [] →
    start ≡ [] → ((place : Stem) → new ≡ start ++ text_of (print (numbered p) names t place 0))
    → ((place : Stem) → IsUtf8 (text_of (print (numbered p) names t place 0))) →
    (new ≡ print_text p t) × IsUtf8 new
shown_is p t names start new none empty text utf8 =
    let e : new ≡ print_text p t = text (of_sort 0)
    ∙ (λ i. empty i ++ text_of (print (numbered p) (none i) t (of_sort 0) 0)) in (
      e,
      subst IsUtf8 (sym e) (subst (λ x. IsUtf8 (text_of (print (numbered p) x t (of_sort 0) 0)))
          none (utf8 (of_sort 0))),
    )

feed_low : (i : ℕ) → get_or (10 ∷ []) i 0 < 128
feed_low zero = lit< tt
feed_low (suc i) = lit< tt

-- with a line feed behind it a text is UTF-8 too
pub line_utf8 : (text : Text) → IsUtf8 text → IsUtf8 (text ++ 10 ∷ [])
line_utf8 text utf8 = IsUtf8-append text (10 ∷ []) utf8 (IsUtf8-from_ascii (10 ∷ []) feed_low)

-- a term that is well sorted without variables fits at its sort
pub sorted_fit : (p : Parts) (t : Tree) (sort : Sort) → IsSort p sort →
    HasSort (shapes_of p) [] t sort → Fits (numbered p) [] (of_sort (sort_number sort)) t
sorted_fit p t (sorts.Lex kind) is has = absurd is
sorted_fit p t (sorts.Plain n) is has = sorted_terms p [] t (sorts.Plain n) has
sorted_fit p t (sorts.Typed n) is has = sorted_terms p [] t (sorts.Typed n) has
