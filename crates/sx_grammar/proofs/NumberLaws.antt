-- Numbered symbols, productions and brackets, one after another.
use Rattle.std.proofs.Common.{◌≡◌, ℕ, zero, ◌+◌, ◌<◌, List, [], ◌∷◌, ◌++◌, length, map, take, get_or, Some, sym, ap, ◌∙◌, subst, Contains, ⊎_elim}
use Rattle.std.specs.Prelude.{slice_get, Option}
use Rattle.std.proofs.lemmas.List.{map-append}
use Rattle.sx_grammar.specs.declared.numbered.NumberedSymbol.{NumberedSymbol}
use Rattle.sx_grammar.specs.declared.numbered.NumberedSymbol.TheVariants.{Lit}
use Rattle.sx_grammar.specs.declared.numbered.NumberedProduction.{NumberedProduction}
use Rattle.sx_grammar.specs.declared.sort_line.SortLine.{SortLine}
use Rattle.sx_grammar.specs.Grammar.{Text}
use Rattle.sx_grammar.specs.Parts.{numbered_pair}
use Rattle.sx_grammar.specs.Tables.{HaveLiteralsBelow, IsNumberedPair, AreNumberedPairs}
use Rattle.sx_grammar.specs.Known.{LiteralsAreBelow}
use Rattle.sx_grammar.proofs.FirstLaws.{take_seam, slice_get_push}

pub item_in : {X : Type 0} (xs : List X) (i : ℕ) (x : X) → i < length xs → x ≡ get_or xs i x → Contains xs x
item_in xs i x lt is = (i, lt, sym is)

module _ {X Y Z : Type 0} where
  pub mapped_push : (f : X → Z) (g : Y → Z) (out : List X) (xs : List Y) (n : ℕ) (x : X) (y : Y) → map f out ≡ map g (take n xs) → slice_get xs n ≡ Some y → f x ≡ g y
      → map f (out ++ x ∷ []) ≡ map g (take (n + 1) xs)
  mapped_push f g out xs n x y same at here =
      map-append f out (x ∷ []) ∙ (λ i. same i ++ here i ∷ []) ∙ sym (map-append g (take n xs) (y ∷ [])) ∙ ap (map g) (sym (take_seam xs n y at))

module _ {X Y Z W : Type 0} where
  pub mapped_push_twice : (f : X → Z) (g : W → Z) (h : Y → W) (out : List X) (xs : List Y) (n : ℕ) (x : X) (y : Y) → map f out ≡ map g (map h (take n xs)) → slice_get xs n ≡ Some y → f x ≡ g (h y)
      → map f (out ++ x ∷ []) ≡ map g (map h (take (n + 1) xs))
  mapped_push_twice f g h out xs n x y same at here =
      map-append f out (x ∷ []) ∙ (λ i. same i ++ here i ∷ []) ∙ sym (map-append g (map h (take n xs)) (h y ∷ []))
      ∙ ap (map g) (sym (map-append h (take n xs) (y ∷ [])) ∙ ap (map h) (sym (take_seam xs n y at)))

pub below_push : (bound : ℕ) (xs : List NumberedSymbol) (x : NumberedSymbol) → LiteralsAreBelow bound xs → LiteralsAreBelow bound (x ∷ []) → LiteralsAreBelow bound (xs ++ x ∷ [])
below_push bound xs x below one k n at = ⊎_elim (λ old. below k n old) (λ last. one zero n (ap Some last.1)) (slice_get_push xs x k (Lit n) at)

pub lines_push : (bound : ℕ) (ps : List NumberedProduction) (q : NumberedProduction) → HaveLiteralsBelow bound ps → LiteralsAreBelow bound q.symbols.items → HaveLiteralsBelow bound (ps ++ q ∷ [])
lines_push bound ps q below one label p k n at here = ⊎_elim
    (λ old. below label p k n old here)
    (λ last. one k n (subst (λ r. slice_get r.symbols.items k ≡ Some (Lit n)) (sym last.1) here))
    (slice_get_push ps q label p at)

pub pairs_push : (literals : List Text) (ss : List SortLine) (bs : List (Option (ℕ × ℕ))) (s : SortLine) (b : Option (ℕ × ℕ)) → AreNumberedPairs literals ss bs → IsNumberedPair literals (numbered_pair s.brackets) b
    → AreNumberedPairs literals (ss ++ s ∷ []) (bs ++ b ∷ [])
pairs_push literals [] [] s b are one = (one, tt)
pairs_push literals [] (c ∷ bs) s b are one = absurd are
pairs_push literals (r ∷ ss) [] s b are one = absurd are
pairs_push literals (r ∷ ss) (c ∷ bs) s b are one = (are.0, pairs_push literals ss bs s b are.1 one)

pub pairs_more : (literals : List Text) (ss : List SortLine) (n : ℕ) (bs : List (Option (ℕ × ℕ))) (s : SortLine) (b : Option (ℕ × ℕ)) → AreNumberedPairs literals (take n ss) bs → slice_get ss n ≡ Some s
    → IsNumberedPair literals (numbered_pair s.brackets) b → AreNumberedPairs literals (take (n + 1) ss) (bs ++ b ∷ [])
pairs_more literals ss n bs s b are at one = subst (λ l. AreNumberedPairs literals l (bs ++ b ∷ [])) (sym (take_seam ss n s at)) (pairs_push literals (take n ss) bs s b are one)
