-- Loops that go through a list and add to another.
use Rattle.std.proofs.Common.{◌≡◌, ℕ, ◌+◌, ◌<◌, ◌≤◌, List, [], ◌∷◌, ◌++◌, length, map, take, drop, get_or, refl, sym, ap, ◌∙◌}
use Rattle.std.proofs.lemmas.List.{append_assoc, append-nil, map-append, take_more, drop_more, drop_all}
use Rattle.sx_grammar.specs.declared.symbol.Symbol.{Symbol}
use Rattle.sx_grammar.specs.declared.symbol.Symbol.TheVariants.{Lit, Lex, Part}
use Rattle.sx_grammar.specs.Grammar.{Text}
use Rattle.sx_grammar.specs.Parts.{symbol_literals, symbol_sorts}

module _ {X Y : Type 0} where
  -- what is added for one element and for those after it is what is added for all of them
  pub added_more : (F : List X → List Y) (out new whole here : List Y) (xs : List X) (i : ℕ) (x : X) → out ++ F (drop i xs) ≡ whole → new ≡ out ++ here
      → here ++ F (drop (i + 1) xs) ≡ F (x ∷ drop (i + 1) xs) → i < length xs → x ≡ get_or xs i x → new ++ F (drop (i + 1) xs) ≡ whole
  added_more F out new whole here xs i x so added one lt at =
      ap (λ l. l ++ F (drop (i + 1) xs)) added ∙ append_assoc out here (F (drop (i + 1) xs)) ∙ ap (λ l. out ++ l) one
      ∙ ap (λ l. out ++ F l) (ap (λ z. z ∷ drop (i + 1) xs) at ∙ sym (drop_more xs i x lt)) ∙ so

  -- all is added
  pub added_all : (F : List X → List Y) (out whole : List Y) (xs : List X) (i : ℕ) → out ++ F (drop i xs) ≡ whole → F [] ≡ [] → length xs ≤ i → out ≡ whole
  added_all F out whole xs i so nil past = sym (append-nil out) ∙ ap (λ l. out ++ l) (sym nil) ∙ ap (λ l. out ++ F l) (sym (drop_all i xs past)) ∙ so

module _ {X Z : Type 0} where
  -- a copy of the next element stands behind the copies
  pub copied_more : (f : X → Z) (out xs : List X) (n : ℕ) (x y : X) → map f out ≡ map f (take n xs) → n < length xs → y ≡ get_or xs n y → f x ≡ f y
      → map f (out ++ x ∷ []) ≡ map f (take (n + 1) xs)
  copied_more f out xs n x y same within at here =
      map-append f out (x ∷ []) ∙ (λ i. same i ++ here i ∷ []) ∙ sym (map-append f (take n xs) (y ∷ []))
      ∙ ap (map f) (ap (λ z. take n xs ++ z ∷ []) at ∙ sym (take_more xs n y within))

-- no literal, and no part
pub no_literals : (s : Symbol) → ((text : Text) → s ≡ Lit text → ⊥) → [] ≡ symbol_literals s
no_literals (Lit text) other = absurd (other text refl)
no_literals (Lex kind) other = refl
no_literals (Part sort least) other = refl

pub no_sorts : (s : Symbol) → ((sort : Text) (least : ℕ) → s ≡ Part sort least → ⊥) → [] ≡ symbol_sorts s
no_sorts (Lit text) other = refl
no_sorts (Lex kind) other = refl
no_sorts (Part sort least) other = absurd (other sort least refl)
