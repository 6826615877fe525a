-- Parts are no grammar for one reason, and those of a grammar for none.
use Rattle.std.proofs.Common.{◌≡◌, ℕ, zero, suc, ◌<◌, ◌⊎◌, inl, inr, List, [], ◌∷◌, ◌++◌, length, Some, None, Contains, refl, ap, ◌∙◌, sym, subst, arith}
use Rattle.std.specs.Prelude.{slice_get}
use Rattle.std.proofs.lemmas.Option.{slice_get_within}
use Rattle.sx_term.specs.Cutting.{AreDistinct}
use Rattle.sx_grammar.specs.declared.sort_line.SortLine.{SortLine}
use Rattle.sx_grammar.specs.declared.grammar_error.GrammarError.{GrammarError}
use Rattle.sx_grammar.specs.declared.grammar_error.GrammarError.TheVariants.{Memory, BadLiteral}
use Rattle.sx_grammar.specs.declared.grammar_error.GrammarError.TheVariants.{SameSort, UnknownSort}
use Rattle.sx_grammar.specs.declared.grammar_error.GrammarError.TheVariants.{SameLabel}
use Rattle.sx_grammar.specs.declared.grammar_error.GrammarError.TheVariants.{PlainHasTyped}
use Rattle.sx_grammar.specs.declared.grammar_error.GrammarError.TheVariants.{NoBrackets, Cyclic}
use Rattle.sx_grammar.specs.Grammar.{Text}
use Rattle.sx_grammar.specs.Parts.{Line, Parts, names, labels, literals, sorts_named}
use Rattle.sx_grammar.specs.Made.{IsFirstWith, HasNone, IsFirstAgain, IsBadLiteral, IsUnknownSort}
use Rattle.sx_grammar.specs.Made.{MixesSorts, LacksBrackets, HasLiterals, IsFirstCyclic, IsGrammar}
use Rattle.sx_grammar.proofs.Finding.{contains_place, is_head, past_head}
use Rattle.sx_language.specs.States.{IsNoGrammar}
use Rattle.sx_language.proofs.Stepwise.{AreAlike, Step, step_alike, step_none}

-- ---- lists

module _ {X : Type 0} where
  heads : (x y : X) (xs ys : List X) → x ∷ xs ≡ y ∷ ys → x ≡ y
  heads x y xs ys e = cc

  tails : (x y : X) (xs ys : List X) → x ∷ xs ≡ y ∷ ys → xs ≡ ys
  tails x y xs ys e = cc

  inside : (b : List X) (x : X) (d : List X) → Contains (b ++ x ∷ d) x
  inside [] x d = is_head x d
  inside (z ∷ b) x d = past_head z (b ++ x ∷ d) x (inside b x d)

  -- two places of a list are the same, or one stands before the other
  abbrev Places : (b c : List X) (x y : X) → Type 0
  Places b c x y = (x ≡ y) ⊎ ((rest : List X) × (c ≡ b ++ x ∷ rest)) ⊎ ((rest : List X) × (b ≡ c ++ y ∷ rest))

  next_place : (z w : X) (b c : List X) (x y : X) → z ≡ w → Places b c x y → Places (z ∷ b) (w ∷ c) x y
  next_place z w b c x y same (inl e) = inl e
  next_place z w b c x y same (inr (inl e)) = inr (inl (e.0, λ i. sym same i ∷ e.1 i))
  next_place z w b c x y same (inr (inr e)) = inr (inr (e.0, λ i. same i ∷ e.1 i))

  places : (b c : List X) (x y : X) (d e : List X) → b ++ x ∷ d ≡ c ++ y ∷ e → Places b c x y
  places [] [] x y d e same = inl (heads x y d e same)
  places [] (w ∷ c) x y d e same = inr (inl (c, ap (λ (z : X). z ∷ c) (sym (heads x w d (c ++ y ∷ e) same))))
  places (z ∷ b) [] x y d e same = inr (inr (b, ap (λ (w : X). w ∷ b) (heads z y (b ++ x ∷ d) e same)))
  places (z ∷ b) (w ∷ c) x y d e same =
      next_place z w b c x y (heads z w (b ++ x ∷ d) (c ++ y ∷ e) same) (places b c x y d e (tails z w (b ++ x ∷ d) (c ++ y ∷ e) same))

  -- ---- the first with a property

  module _ (P : X → Type 0) (xs : List X) where
    one_first : (x y : X) → IsFirstWith P xs x → IsFirstWith P xs y → x ≡ y
    one_first x y h k = by (places h.0 k.0 x y h.1 k.1 (sym h.2 ∙ k.2))
      where
        by : Places h.0 k.0 x y → x ≡ y
        by (inl e) = e
        by (inr (inl e)) = absurd (k.4 x (subst (λ (l : List X). Contains l x) (sym e.1) (inside h.0 x e.0)) h.3)
        by (inr (inr e)) = absurd (h.4 y (subst (λ (l : List X). Contains l y) (sym e.1) (inside k.0 y e.0)) k.3)

    first_none : (x : X) → IsFirstWith P xs x → HasNone P xs → ⊥
    first_none x h none = none x (subst (λ (l : List X). Contains l x) (sym h.2) (inside h.0 x h.1)) h.3

-- ---- the first that stands there before

front_at : (b r : List Text) (i : ℕ) (x : Text) → slice_get b i ≡ Some x → slice_get (b ++ r) i ≡ Some x
front_at [] r i x e = let clash : None ≡ Some x = e in cc
front_at (z ∷ b) r zero x e = e
front_at (z ∷ b) r (suc i) x e = front_at b r i x e

middle_at : (b : List Text) (x : Text) (r : List Text) → slice_get (b ++ x ∷ r) (length b) ≡ Some x
middle_at [] x r = refl
middle_at (z ∷ b) x r = middle_at b x r

not_distinct : (b : List Text) (x : Text) (r : List Text) → Contains b x → AreDistinct (b ++ x ∷ r) → ⊥
not_distinct b x r has are =
    let at = contains_place b x has in
    let low = slice_get_within b at.0 x at.1 in
    let same : at.0 ≡ length b = are at.0 (length b) x (front_at b (x ∷ r) at.0 x at.1) (middle_at b x r) in
    omega (arith, low, same)

one_again : (xs : List Text) (x y : Text) → IsFirstAgain xs x → IsFirstAgain xs y → x ≡ y
one_again xs x y h k = by (places h.0 k.0 x y h.1 k.1 (sym h.2 ∙ k.2))
  where
    by : Places h.0 k.0 x y → x ≡ y
    by (inl e) = e
    by (inr (inl e)) = absurd (not_distinct h.0 x e.0 h.3 (subst AreDistinct e.1 k.4))
    by (inr (inr e)) = absurd (not_distinct k.0 y e.0 k.3 (subst AreDistinct e.1 h.4))

again_none : (xs : List Text) (x : Text) → IsFirstAgain xs x → AreDistinct xs → ⊥
again_none xs x h are = not_distinct h.0 x h.1 h.3 (subst AreDistinct h.2 are)

-- ---- the first sort that derives itself

compared : (m n : ℕ) → (m < n) ⊎ (m ≡ n) ⊎ (n < m)
compared zero zero = inr (inl refl)
compared zero (suc n) = inl (omega arith)
compared (suc m) zero = inr (inr (omega arith))
compared (suc m) (suc n) = by (compared m n)
  where
    by : (m < n) ⊎ (m ≡ n) ⊎ (n < m) → (suc m < suc n) ⊎ (suc m ≡ suc n) ⊎ (suc n < suc m)
    by (inl h) = inl (omega (arith, h))
    by (inr (inl h)) = inr (inl (ap suc h))
    by (inr (inr h)) = inr (inr (omega (arith, h)))

same_some : (x y : Text) → Some x ≡ Some y → x ≡ y
same_some x y e = cc

one_cyclic : (p : Parts) (x y : Text) → IsFirstCyclic p x → IsFirstCyclic p y → x ≡ y
one_cyclic p x y h k = by (compared h.0 k.0)
  where
    by : (h.0 < k.0) ⊎ (h.0 ≡ k.0) ⊎ (k.0 < h.0) → x ≡ y
    by (inl low) = absurd (k.3 h.0 low h.2)
    by (inr (inl e)) = same_some x y (sym h.1 ∙ ap (λ (n : ℕ). slice_get (names p) n) e ∙ k.1)
    by (inr (inr low)) = absurd (h.3 k.0 low k.2)

-- ---- refusals

abbrev IsOne : (GrammarError → Type 0) → Type 0
IsOne P = AreAlike (λ (e d : GrammarError). e ≡ d) P

-- the refusal with a text of which this holds
abbrev Named : (Text → GrammarError) → (Text → Type 0) → GrammarError → Type 0
Named make P e = (x : Text) × (e ≡ make x) × P x

named_one : (make : Text → GrammarError) (P : Text → Type 0) → ((x y : Text) → P x → P y → x ≡ y) → IsOne (Named make P)
named_one make P one e d h k = h.1 ∙ ap make (one h.0 k.0 h.2 k.2) ∙ sym k.1

module _ (p : Parts) where
  abbrev Mixes : Text → Type 0
  Mixes label = (r : Line) × IsFirstWith (MixesSorts p) p.productions r × (r.label ≡ label)

  abbrev Lacks : Text → Type 0
  Lacks sort = (s : SortLine) × IsFirstWith (LacksBrackets p) p.sorts s × (s.name ≡ sort)

  mixes_one : (x y : Text) → Mixes x → Mixes y → x ≡ y
  mixes_one x y h k = sym h.2 ∙ ap (λ (r : Line). r.label) (one_first (MixesSorts p) p.productions h.0 k.0 h.1 k.1) ∙ k.2

  lacks_one : (x y : Text) → Lacks x → Lacks y → x ≡ y
  lacks_one x y h k = sym h.2 ∙ ap (λ (s : SortLine). s.name) (one_first (LacksBrackets p) p.sorts h.0 k.0 h.1 k.1) ∙ k.2

  -- the refusals in order
  abbrev ByCycles : GrammarError → Type 0
  ByCycles = Named Cyclic (IsFirstCyclic p)

  abbrev ByBrackets : GrammarError → Type 0
  ByBrackets = Step (Named NoBrackets Lacks) (HasNone (LacksBrackets p) p.sorts) ByCycles

  abbrev ByMixing : GrammarError → Type 0
  ByMixing = Step (Named PlainHasTyped Mixes) (HasNone (MixesSorts p) p.productions) ByBrackets

  abbrev ByLabels : GrammarError → Type 0
  ByLabels = Step (Named SameLabel (IsFirstAgain (labels p))) (AreDistinct (labels p)) ByMixing

  abbrev ByUnknown : GrammarError → Type 0
  ByUnknown = Step (Named UnknownSort (IsFirstWith (IsUnknownSort (names p)) (sorts_named p))) (HasNone (IsUnknownSort (names p)) (sorts_named p)) ByLabels

  abbrev ByNames : GrammarError → Type 0
  ByNames = Step (Named SameSort (IsFirstAgain (names p))) (AreDistinct (names p)) ByUnknown

  abbrev IsDue : GrammarError → Type 0
  IsDue = Step (Named BadLiteral (IsFirstWith IsBadLiteral (literals p))) (HasLiterals p) ByNames

  due : (e : GrammarError) → IsNoGrammar p e → IsDue e
  due Memory h = absurd h
  due (BadLiteral x) h = inl (x, refl, h)
  due (SameSort x) h = inr (h.0, inl (x, refl, h.1))
  due (UnknownSort x) h = inr (h.0.0, inr (h.0.1, inl (x, refl, h.1)))
  due (SameLabel x) h = inr (h.0.0.0, inr (h.0.0.1, inr (h.0.1, inl (x, refl, h.1))))
  due (PlainHasTyped x) h = inr (h.0.0.0.0, inr (h.0.0.0.1, inr (h.0.0.1, inr (h.0.1, inl (x, refl, h.1)))))
  due (NoBrackets x) h = inr (h.0.0.0.0.0, inr (h.0.0.0.0.1, inr (h.0.0.0.1, inr (h.0.0.1, inr (h.0.1, inl (x, refl, h.1))))))
  due (Cyclic x) h = inr (h.0.0.0.0.0.0, inr (h.0.0.0.0.0.1, inr (h.0.0.0.0.1, inr (h.0.0.0.1, inr (h.0.0.1, inr (h.0.1, (x, refl, h.1)))))))

  no_cycle : IsGrammar p → (e : GrammarError) → ByCycles e → ⊥
  no_cycle is e h = is.1 h.2.0 h.2.2

  not_brackets : (e : GrammarError) → Named NoBrackets Lacks e → HasNone (LacksBrackets p) p.sorts → ⊥
  not_brackets e h none = first_none (LacksBrackets p) p.sorts h.2.0 h.2.1 none

  not_mixing : (e : GrammarError) → Named PlainHasTyped Mixes e → HasNone (MixesSorts p) p.productions → ⊥
  not_mixing e h none = first_none (MixesSorts p) p.productions h.2.0 h.2.1 none

  not_labels : (e : GrammarError) → Named SameLabel (IsFirstAgain (labels p)) e → AreDistinct (labels p) → ⊥
  not_labels e h are = again_none (labels p) h.0 h.2 are

  not_unknown : (e : GrammarError) → Named UnknownSort (IsFirstWith (IsUnknownSort (names p)) (sorts_named p)) e → HasNone (IsUnknownSort (names p)) (sorts_named p) → ⊥
  not_unknown e h none = first_none (IsUnknownSort (names p)) (sorts_named p) h.0 h.2 none

  not_names : (e : GrammarError) → Named SameSort (IsFirstAgain (names p)) e → AreDistinct (names p) → ⊥
  not_names e h are = again_none (names p) h.0 h.2 are

  not_literals : (e : GrammarError) → Named BadLiteral (IsFirstWith IsBadLiteral (literals p)) e → HasLiterals p → ⊥
  not_literals e h none = first_none IsBadLiteral (literals p) h.0 h.2 none

  abbrev same : GrammarError → GrammarError → Type 0
  same e d = e ≡ d

  brackets_one : IsOne ByBrackets
  brackets_one =
      step_alike (Named NoBrackets Lacks) (HasNone (LacksBrackets p) p.sorts) ByCycles not_brackets same (named_one NoBrackets Lacks lacks_one) (named_one Cyclic (IsFirstCyclic p) (one_cyclic p))

  mixing_one : IsOne ByMixing
  mixing_one = step_alike (Named PlainHasTyped Mixes) (HasNone (MixesSorts p) p.productions) ByBrackets not_mixing same (named_one PlainHasTyped Mixes mixes_one) brackets_one

  labels_one : IsOne ByLabels
  labels_one =
      step_alike (Named SameLabel (IsFirstAgain (labels p))) (AreDistinct (labels p)) ByMixing not_labels same (named_one SameLabel (IsFirstAgain (labels p)) (one_again (labels p))) mixing_one

  unknown_one : IsOne ByUnknown
  unknown_one =
      step_alike (Named UnknownSort (IsFirstWith (IsUnknownSort (names p)) (sorts_named p))) (HasNone (IsUnknownSort (names p)) (sorts_named p)) ByLabels not_unknown same
      (named_one UnknownSort (IsFirstWith (IsUnknownSort (names p)) (sorts_named p)) (one_first (IsUnknownSort (names p)) (sorts_named p))) labels_one

  names_one : IsOne ByNames
  names_one = step_alike (Named SameSort (IsFirstAgain (names p))) (AreDistinct (names p)) ByUnknown not_names same (named_one SameSort (IsFirstAgain (names p)) (one_again (names p))) unknown_one

  due_one : IsOne IsDue
  due_one =
      step_alike (Named BadLiteral (IsFirstWith IsBadLiteral (literals p))) (HasLiterals p) ByNames not_literals same
      (named_one BadLiteral (IsFirstWith IsBadLiteral (literals p)) (one_first IsBadLiteral (literals p))) names_one

  pub no_grammar_one : (e d : GrammarError) → IsNoGrammar p e → IsNoGrammar p d → e ≡ d
  no_grammar_one e d h k = due_one e d (due e h) (due d k)

  -- parts of a grammar are not refused
  due_none : IsGrammar p → (e : GrammarError) → IsDue e → ⊥
  due_none is =
      let b = is.0 in
      step_none (Named BadLiteral (IsFirstWith IsBadLiteral (literals p))) (HasLiterals p) ByNames not_literals b.0.0.0.0.0
      (step_none (Named SameSort (IsFirstAgain (names p))) (AreDistinct (names p)) ByUnknown not_names b.0.0.0.0.1
      (step_none (Named UnknownSort (IsFirstWith (IsUnknownSort (names p)) (sorts_named p))) (HasNone (IsUnknownSort (names p)) (sorts_named p)) ByLabels not_unknown b.0.0.0.1
      (step_none (Named SameLabel (IsFirstAgain (labels p))) (AreDistinct (labels p)) ByMixing not_labels b.0.0.1
      (step_none (Named PlainHasTyped Mixes) (HasNone (MixesSorts p) p.productions) ByBrackets not_mixing b.0.1
      (step_none (Named NoBrackets Lacks) (HasNone (LacksBrackets p) p.sorts) ByCycles not_brackets b.1 (no_cycle is))))))

  pub grammar_or_not : IsGrammar p → (e : GrammarError) → IsNoGrammar p e → ⊥
  grammar_or_not is e h = due_none is e (due e h)
