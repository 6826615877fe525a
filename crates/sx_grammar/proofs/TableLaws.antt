-- What is found in the tables of a grammar.
use Rattle.std.proofs.Common.{◌≡◌, ℕ, zero, suc, ◌≤◌, ◌<◌, ◌^◌, List, [], ◌∷◌, length, map, drop, get_or, Bool, true, false, not, IsTrue, ◌↔◌, Some, sym, refl, ap, ◌∙◌, subst, arith, Fits, w32}
use Rattle.std.specs.Prelude.{flat_map, slice_get, option_map, None, Option, filter}
use Rattle.std.specs.Str.{bytes_eq}
use Rattle.std.proofs.lemmas.Option.{slice_get-map, slice_get_read, slice_get_within}
use Rattle.std.proofs.lemmas.List.{length-map}
use Rattle.std.proofs.lemmas.Bool.{false≢true}
use Rattle.sx_term.specs.declared.term.Term.{Term}
use Rattle.sx_term.specs.Tree.{Tree, node}
use Rattle.sx_term.specs.Term.{tree}
use Rattle.sx_term.proofs.Kids.{trees, trees-drop, trees-drop_all}
use Rattle.sx_term.specs.declared.sort.Sort.TheVariants as TheSort
use Rattle.sx_term.specs.Sorts.{Shape}
use Rattle.sx_grammar.specs.declared.numbered.NumberedSymbol.{NumberedSymbol}
use Rattle.sx_grammar.specs.declared.numbered.NumberedSymbol.TheVariants.{Lit, Lex, Part}
use Rattle.sx_grammar.specs.declared.numbered.NumberedProduction.{NumberedProduction}
use Rattle.sx_grammar.specs.declared.sort_line.SortLine.{SortLine}
use Rattle.sx_grammar.specs.Grammar.{Text, brackets_of}
use Rattle.sx_grammar.specs.Parts.{Parts, numbered, numbered_line, numbered_sort, names}
use Rattle.sx_grammar.specs.Numbered.{symbol, production}
use Rattle.sx_grammar.specs.Distinct.{distinct}
use Rattle.sx_grammar.specs.Tables.{literals_of, AreNumbered, IsNumberedPair, AreNumberedPairs}
use Rattle.sx_grammar.specs.Told.{HasLabelsBelow, HaveLabelsBelow, sort_with, kid_sorts, numbered_kids, numbered_shape, shape_of, shapes_of}

pub numbered_length : (p : Parts) (ps : List NumberedProduction) → AreNumbered p ps → length ps ≡ length p.productions
numbered_length p ps same = sym (length-map ps (production (literals_of p))) ∙ ap length same ∙ length-map p.productions (numbered_line (names p))

-- the production with this label
pub production_at : (p : Parts) (ps : List NumberedProduction) (label : ℕ) (q : NumberedProduction) → AreNumbered p ps → label < length p.productions → q ≡ get_or ps label q
    → slice_get (numbered p).productions label ≡ Some (production (literals_of p) q)
production_at p ps label q same lt is =
    ap (λ rs. slice_get rs label) (sym same) ∙ slice_get-map (production (literals_of p)) ps label
    ∙ ap (option_map (production (literals_of p))) (slice_get_read ps (length ps) label q refl (omega (arith, lt, numbered_length p ps same)) is)

-- the brackets of a sort are in the table, and past its end there are none
pub pair_at : (texts : List Text) (ss : List SortLine) (bs : List (Option (ℕ × ℕ))) (i : ℕ) (b : Option (ℕ × ℕ)) → AreNumberedPairs texts ss bs → i < length bs → b ≡ get_or bs i b
    → IsNumberedPair texts (brackets_of (slice_get (map numbered_sort ss) i)) b
pair_at texts ss [] i b are lt is = absurd (omega (arith, lt))
pair_at texts [] (c ∷ bs) i b are lt is = absurd are
pair_at texts (s ∷ ss) (c ∷ bs) zero b are lt is = subst (IsNumberedPair texts (numbered_sort s).brackets) (sym is) are.0
pair_at texts (s ∷ ss) (c ∷ bs) (suc i) b are lt is = pair_at texts ss bs i b are.1 (omega (arith, lt)) is

pub pair_past : (texts : List Text) (ss : List SortLine) (bs : List (Option (ℕ × ℕ))) (i : ℕ) → AreNumberedPairs texts ss bs → length bs ≤ i
    → IsNumberedPair texts (brackets_of (slice_get (map numbered_sort ss) i)) None
pair_past texts [] bs i are past = tt
pair_past texts (s ∷ ss) [] i are past = absurd are
pair_past texts (s ∷ ss) (c ∷ bs) zero are past = absurd (omega (arith, past))
pair_past texts (s ∷ ss) (c ∷ bs) (suc i) are past = pair_past texts ss bs i are.1 (omega (arith, past))

filter_short : (p : Text → Bool) (xs : List Text) → length (filter p xs) ≤ length xs
filter_short p [] = omega arith
filter_short p (x ∷ xs) = at_first (p x) refl (filter_short p xs)
  where
    at_first : (b : Bool) → p x ≡ b → length (filter p xs) ≤ length xs → length (filter p (x ∷ xs)) ≤ suc (length xs)
    at_first true e h = rw e (omega (arith, h))
    at_first false e h = rw e (omega (arith, h))

-- there are no more distinct texts than texts
pub distinct_short : (xs : List Text) → length (distinct xs) ≤ length xs
distinct_short [] = omega arith
distinct_short (x ∷ xs) =
    let h = distinct_short xs in
    let k = filter_short (λ y. not (bytes_eq x y)) (distinct xs) in
    omega (arith, h, k)

pub number_fits : (all : List Text) (texts : List Text) (n : ℕ) (t : Text) → texts ≡ distinct all → length all < 2 ^ 32 → slice_get texts n ≡ Some t → Fits w32 n
number_fits all texts n t same few at = omega (arith, slice_get_within texts n t at, ap length same, distinct_short all, few)

-- a kid has a label that is not below the bound
pub kid_above : (bound : ℕ) (t : Tree) (label : ℕ) (ts : List Term) (i : ℕ) (k : Term) (r : Bool) → t ≡ node label (trees ts) → i < length ts → k ≡ get_or ts i k
    → (HaveLabelsBelow bound (trees (drop i ts)) ↔ HaveLabelsBelow bound (trees ts)) → r ≡ false → (IsTrue r ↔ HasLabelsBelow bound (tree k)) → IsTrue false ↔ HasLabelsBelow bound t
kid_above bound t label ts i k r is lt at same none test = (
  λ f. absurd (false≢true f),
  λ has.
      let all : HasLabelsBelow bound (node label (trees ts)) = subst (HasLabelsBelow bound) is has in
      let rest = subst (HaveLabelsBelow bound) (trees-drop ts i k lt at) (same.1 all.1) in
      let yes : r ≡ true = test.1 rest.0 in
      absurd (false≢true (sym none ∙ yes)),
)

-- all labels are below the bound
pub all_below : (bound : ℕ) (t : Tree) (label : ℕ) (ts : List Term) (i : ℕ) → t ≡ node label (trees ts) → label < bound → length ts ≤ i
    → (HaveLabelsBelow bound (trees (drop i ts)) ↔ HaveLabelsBelow bound (trees ts)) → IsTrue true ↔ HasLabelsBelow bound t
all_below bound t label ts i is below past same =
    (λ _. subst (HasLabelsBelow bound) (sym is) (below, same.0 (subst (HaveLabelsBelow bound) (sym (trees-drop_all ts i past)) tt)), λ _. refl)

-- the constructor that a numbered production is does not depend on its literals
kids_same : (sorts : List SortLine) (texts : List Text) (xs : List NumberedSymbol) → flat_map (kid_sorts sorts) (map (symbol texts) xs) ≡ flat_map (numbered_kids sorts) xs
kids_same sorts texts [] = refl
kids_same sorts texts (Lit n ∷ xs) = kids_same sorts texts xs
kids_same sorts texts (Lex k ∷ xs) = ap (λ l. TheSort.Lex k ∷ l) (kids_same sorts texts xs)
kids_same sorts texts (Part s l ∷ xs) = ap (λ l. sort_with sorts s ∷ l) (kids_same sorts texts xs)

shapes_same : (sorts : List SortLine) (texts : List Text) (ps : List NumberedProduction) → map (numbered_shape sorts) ps ≡ map (shape_of sorts) (map (production texts) ps)
shapes_same sorts texts [] = refl
shapes_same sorts texts (p ∷ ps) = λ i. record { sort = sort_with sorts p.sort; kids = sym (kids_same sorts texts p.symbols.items) i } ∷ shapes_same sorts texts ps i

pub shapes_are : (p : Parts) (ps : List NumberedProduction) (shapes : List Shape) → AreNumbered p ps → shapes ≡ map (numbered_shape p.sorts) ps → shapes ≡ shapes_of p
shapes_are p ps shapes same are = are ∙ shapes_same p.sorts (literals_of p) ps ∙ ap (map (shape_of p.sorts)) same
