-- The lines of stems: each stem with the name of its sort.
use Rattle.std.proofs.Common.{◌≡◌, ℕ, zero, suc, ◌+◌, ◌<◌, Bool, true, false, cond, inl, inr, List, [], ◌∷◌, ◌++◌, length, take, get_or, Some, slice_get, refl, ap, ◌∙◌, sym, subst, add-one, arith}
use Rattle.std.proofs.lemmas.List.{length-map}
use Rattle.std.proofs.lemmas.Option.{slice_get_within}
use Rattle.sx_term.specs.declared.lex_kind.LexKind.{LexKind}
use Rattle.sx_term.specs.declared.sort.Sort.{Sort}
use Rattle.sx_term.specs.declared.sort.Sort.TheVariants as TheSort
use Rattle.sx_grammar.specs.Grammar.{Text}
use Rattle.sx_grammar.specs.Parts.{Parts, names, number_of}
use Rattle.sx_grammar.specs.Told.{is_typed}
use Rattle.sx_grammar.proofs.Finding.{named_at}
use Rattle.sx_earley.specs.Completed.{sort_number}
use Rattle.sx_earley.specs.Tokens.{Stems}
use Rattle.sx_directives.specs.declared.rows.VarLine.{VarLine}
use Rattle.sx_language.specs.States.{IsSortNamed, AreStems}
use Rattle.sx_language.proofs.Stating.{are_append, take_next}

-- ---- the name of a sort

with_number : (n : ℕ) (b : Bool) → sort_number (cond b (TheSort.Typed n) (TheSort.Plain n)) ≡ n
with_number n true = refl
with_number n false = refl

same_some : (x y : Text) → Some x ≡ Some y → x ≡ y
same_some x y e = cc

module _ (p : Parts) (name : Text) (s : Sort) (not_lexical : (kind : LexKind) → s ≡ TheSort.Lex kind → ⊥) (named : IsSortNamed p name s) where
  name_at : slice_get (names p) (sort_number s) ≡ Some name
  name_at = by named
    where
      by : IsSortNamed p name s → slice_get (names p) (sort_number s) ≡ Some name
      by (inl h) = absurd (not_lexical h.0 h.2)
      by (inr h) =
          let n = number_of (names p) name in
          ap (slice_get (names p)) (ap sort_number h.2 ∙ with_number n (is_typed (slice_get p.sorts n))) ∙ named_at (names p) name (λ missing. missing h.1)

  pub number_low : sort_number s < length p.sorts
  number_low = omega (arith, slice_get_within (names p) (sort_number s) name name_at, length-map p.sorts (λ x. x.name))

  pub line_named : (t : Text) → slice_get (names p) (sort_number s) ≡ Some t → IsSortNamed p t s
  line_named t at = subst (λ (x : Text). IsSortNamed p x s) (same_some name t (sym name_at ∙ at)) named

-- ---- the lines

-- the sort of each stem has a name
pub stem_named : (p : Parts) (vs : List VarLine) (ss : Stems) (i : ℕ) (s : Text × Sort) → i < length ss → s ≡ get_or ss i s → AreStems p vs ss → (name : Text) × IsSortNamed p name s.1
stem_named p [] [] i s low is are = absurd (omega (arith, low))
stem_named p [] (x ∷ xs) i s low is are = absurd are
stem_named p (v ∷ vs) [] i s low is are = absurd are
stem_named p (v ∷ vs) (x ∷ xs) zero s low is are = (v.sort, subst (λ (y : Text × Sort). IsSortNamed p v.sort y.1) (sym is) are.1)
stem_named p (v ∷ vs) (x ∷ xs) (suc i) s low is are = stem_named p vs xs i s (omega (arith, low)) is are.2

-- one more line
pub lines_more : (p : Parts) (ls new : List VarLine) (ss : Stems) (i : ℕ) (s : Text × Sort) (l : VarLine) → i < length ss → s ≡ get_or ss i s → AreStems p ls (take i ss) → l.stem ≡ s.0 → IsSortNamed p l.sort s.1 →
    new ≡ ls ++ l ∷ [] → AreStems p new (take (i + 1) ss)
lines_more p ls new ss i s l low is are stem sort grown =
    subst (λ (x : List VarLine). AreStems p x (take (i + 1) ss)) (sym grown)
    (subst (AreStems p (ls ++ l ∷ [])) (sym (ap (λ (n : ℕ). take n ss) (add-one i) ∙ take_next ss i s low is)) (are_append p ls (take i ss) l s are (sym stem) sort))
