-- Terms that are well sorted by the shapes of a grammar fit it.
use Rattle.std.proofs.Common.{◌≡◌, ℕ, List, [], ◌∷◌, map, Bool, true, false, cond, sym, refl, ap, ◌∙◌, subst, inl, arith}
use Rattle.std.specs.Prelude.{slice_get, option_map, flat_map}
use Rattle.std.proofs.lemmas.Option.{slice_get-map}
use Rattle.std.proofs.lemmas.List.{length-map}
use Rattle.sx_term.specs.declared.sort.Sort.{Sort}
use Rattle.sx_term.specs.declared.sort.Sort.TheVariants.{Plain, Typed}
use Rattle.sx_term.specs.Tree.{Tree, Trees, node, lexeme, hole, none, ◌▹◌}
use Rattle.sx_term.specs.Sorts.{HasSort, KidsHaveSorts}
use Rattle.sx_grammar.specs.declared.sort_line.SortLine.{SortLine}
use Rattle.sx_grammar.specs.Grammar.{Symbol, literal, lexical, part, Grammar, Stem, of_kind}
use Rattle.sx_grammar.specs.Grammar.{of_sort}
use Rattle.sx_grammar.specs.Parts.{Parts, numbered}
use Rattle.sx_grammar.specs.Told.{is_typed, sort_with, kid_sorts, shape_of, shapes_of}
use Rattle.sx_grammar.specs.Print.{Fits, node_fits, lexeme_fits, hole_fits, AllFit, none_fit}
use Rattle.sx_grammar.specs.Print.{past_literal_fit, lexical_fit, part_fit}
use Rattle.sx_grammar.proofs.Finding.{mapped_at}
use Rattle.sx_print.specs.Printed.{IsAskedFor}
use Rattle.sx_print.specs.Sorted.{place_of_sort, SortedTermsFit, SortedTermsArePrintable}

place_with : (sorts : List SortLine) (number : ℕ) → place_of_sort (sort_with sorts number) ≡ of_sort number
place_with sorts number = by_test (is_typed (slice_get sorts number))
  where
    by_test : (b : Bool) → place_of_sort (cond b (Typed number) (Plain number)) ≡ of_sort number
    by_test true = refl
    by_test false = refl

module _ (p : Parts) (vars : List Sort) where
  -- each term fits where its sort stands
  abbrev pub EachFits : Trees → List Sort → Type 0
  EachFits none [] = Unit {0}
  EachFits (t ▹ ts) (sort ∷ sorts) = Fits (numbered p) (map place_of_sort vars) (place_of_sort sort) t × EachFits ts sorts
  EachFits none (sort ∷ sorts) = ⊥
  EachFits (t ▹ ts) [] = ⊥

  row_fits : (symbols : List Symbol) (ts : Trees) → EachFits ts (flat_map (kid_sorts p.sorts) symbols) → AllFit (numbered p) (map place_of_sort vars) symbols ts
  row_fits [] none each = none_fit
  row_fits [] (t ▹ ts) each = absurd each
  row_fits (literal text ∷ rest) ts each = past_literal_fit (row_fits rest ts each)
  row_fits (lexical kind ∷ rest) none each = absurd each
  row_fits (lexical kind ∷ rest) (t ▹ ts) each = lexical_fit each.0 (row_fits rest ts each.1)
  row_fits (part sort least ∷ rest) none each = absurd each
  row_fits (part sort least ∷ rest) (t ▹ ts) each =
      part_fit (subst (λ s. Fits (numbered p) (map place_of_sort vars) s t) (place_with p.sorts sort) each.0) (row_fits rest ts each.1)

  node_sorted : (label : ℕ) (kids : Trees) (sort : Sort) → HasSort (shapes_of p) vars (node label kids) sort → ((sorts : List Sort) → KidsHaveSorts (shapes_of p) vars kids sorts → EachFits kids sorts)
      → Fits (numbered p) (map place_of_sort vars) (place_of_sort sort) (node label kids)
  node_sorted label kids sort (shape, at, same, have) each =
      let r = mapped_at (shape_of p.sorts) (numbered p).productions label shape at in
      let place : of_sort r.0.sort ≡ place_of_sort sort = sym (place_with p.sorts r.0.sort) ∙ ap (λ s. place_of_sort s.sort) r.2 ∙ ap place_of_sort same in
      subst (λ s. Fits (numbered p) (map place_of_sort vars) s (node label kids)) place
      (node_fits r.1 (row_fits r.0.symbols kids (each (flat_map (kid_sorts p.sorts) r.0.symbols) (subst (λ s. KidsHaveSorts (shapes_of p) vars kids s.kids) (sym r.2) have))))

  mutual
    pub sorted_fits : (t : Tree) (sort : Sort) → HasSort (shapes_of p) vars t sort → Fits (numbered p) (map place_of_sort vars) (place_of_sort sort) t
    sorted_fits (node label kids) sort has = node_sorted label kids sort has (λ sorts have. all_sorted_fit kids sorts have)
    sorted_fits (lexeme kind text) sort has = subst (λ s. Fits (numbered p) (map place_of_sort vars) (place_of_sort s) (lexeme kind text)) (sym has) lexeme_fits
    sorted_fits (hole v) sort has = hole_fits (slice_get-map place_of_sort vars v ∙ ap (option_map place_of_sort) has)

    all_sorted_fit : (ts : Trees) (sorts : List Sort) → KidsHaveSorts (shapes_of p) vars ts sorts → EachFits ts sorts
    all_sorted_fit none [] have = tt
    all_sorted_fit none (sort ∷ sorts) have = absurd have
    all_sorted_fit (t ▹ ts) [] have = absurd have
    all_sorted_fit (t ▹ ts) (sort ∷ sorts) have = (sorted_fits t sort have.0, all_sorted_fit ts sorts have.1)

pub sorted_terms : SortedTermsFit
sorted_terms p vars t sort has = sorted_fits p vars t sort has

asked_at_zero : (g : Grammar) (place : Stem) → IsAskedFor g place 0
asked_at_zero g (of_kind kind) = tt
asked_at_zero g (of_sort sort) = inl refl

pub printable_terms : SortedTermsArePrintable
printable_terms p vars variables t sort has named = record {
  stems = map place_of_sort vars;
  place = place_of_sort sort;
  fits = sorted_fits p vars t sort has;
  named = omega (arith, named, length-map vars place_of_sort);
  asked = asked_at_zero (numbered p) (place_of_sort sort);
}
