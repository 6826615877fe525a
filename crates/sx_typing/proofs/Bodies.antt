-- Texts without metavariables.
use Rattle.std.proofs.Common.{◌≡◌, ℕ, zero, suc, ◌≤◌, List, [], ◌∷◌, ◌++◌, slice_get, length}
use Rattle.std.proofs.Common.{refl, ap, ◌∙◌, sym, subst}
use Rattle.std.specs.List.{AllByRecursion}
use Rattle.std.proofs.lemmas.List.{append-nil}
use Rattle.sx_term.specs.declared.mark.Mark.TheVariants.{Meta}
use Rattle.sx_term.specs.declared.sort.Sort.{Sort}
use Rattle.sx_term.specs.Tree.{Tree}
use Rattle.sx_token.specs.declared.token.Token.{Token}
use Rattle.sx_token.specs.Tokens.{pieces}
use Rattle.sx_grammar.specs.Grammar.{Text}
use Rattle.sx_grammar.specs.Parts.{Parts, numbered}
use Rattle.sx_grammar.specs.Reading.{Reading, Readings, branch, bracket, leaf, variable}
use Rattle.sx_grammar.specs.Reading.{done as no_readings, ◌▸◌}
use Rattle.sx_grammar.specs.ReadOne.{IsAnswer, only}
use Rattle.sx_grammar.specs.Print.{term_of}
use Rattle.sx_earley.specs.Tokens.{plain_tokens}
use Rattle.sx_earley.specs.Unknown.{HaveStems}
use Rattle.sx_earley.specs.Completed.{sort_number}
use Rattle.sx_earley.proofs.NoMetas.{no_metas, cut_has_stems}
use Rattle.sx_forest.specs.Names.{IsMetavariable, IsMarked, AreMarked, reading_names, names_of_kids, AddsEach}
use Rattle.sx_forest.proofs.Fits.{readings_marked}
use Rattle.sx_notation.proofs.TextReading.{as_many_tokens}
use Rattle.sx_typing.specs.Body.{IsCut, ReadsAs}

abbrev pub IsPlain : Token → Type 0
IsPlain t = t.mark ≡ Meta → ⊥

plain_all : (ts : List Token) → AllByRecursion (λ p. p.mark ≡ Meta → ⊥) (pieces ts) →
    AllByRecursion IsPlain ts
plain_all [] h = tt
plain_all (t ∷ ts) h = (h.0, plain_all ts h.1)

no_variable : (ts : List Token) (n : ℕ) → AllByRecursion IsPlain ts →
    IsMetavariable (slice_get ts n) → ⊥
no_variable [] n all h = h
no_variable (t ∷ ts) zero all h = all.0 h
no_variable (t ∷ ts) (suc n) all h = no_variable ts n all.1 h

module _ (ts : List Token) (all : AllByRecursion IsPlain ts) where
  mutual
    no_names : (r : Reading) → IsMarked ts r → reading_names ts r ≡ []
    no_names (branch label kids from to) h = no_names_of kids h
    no_names (bracket inner from to) h = no_names inner h
    no_names (leaf token) h = refl
    no_names (variable token) h = absurd (no_variable ts token all h)

    no_names_of : (ks : Readings) → AreMarked ts ks → names_of_kids ts ks ≡ []
    no_names_of no_readings h = refl
    no_names_of (kid ▸ kids) h = ap (λ l. l ++ names_of_kids ts kids) (no_names kid h.0) ∙ no_names_of
        kids h.1

nothing_added : (names new : List Text) → names ≡ [] → AddsEach [] names new → new ≡ []
nothing_added names new e h = subst (λ l. AddsEach [] l new → new ≡ []) (sym e) (λ same. same) h

module _ (p : Parts) (text : Text) (ts : List Token) (cut : IsCut p text ts) where
  pub plain : AllByRecursion IsPlain ts
  plain = plain_all ts (no_metas cut.2)

  pub few_tokens : length ts ≤ 10000
  few_tokens = as_many_tokens ts 10000 cut.1

  pub have_stems : HaveStems [] ts
  have_stems = cut_has_stems [] ts cut.2

  module _ (sort : Sort) (r : Reading)
      (answer : IsAnswer (numbered p) (plain_tokens [] ts) (sort_number sort) (only r)) where
    pub is_marked : IsMarked ts r
    is_marked = readings_marked (numbered p) [] ts (sort_number sort) 0 0
        (length (plain_tokens [] ts)) r answer.1.0

    pub has_no_names : reading_names ts r ≡ []
    has_no_names = no_names ts plain r is_marked

    pub reads_as : (new : List Text) (t : Tree) → AddsEach [] (reading_names ts r) new →
        t ≡ term_of (plain_tokens [] ts) (new ++ []) r → ReadsAs p sort text ts r t
    reads_as new t names is = record {
      cut = cut;
      answer = answer;
      term = is ∙ ap (λ l. term_of (plain_tokens [] ts) l r)
          (append-nil new ∙ nothing_added (reading_names ts r) new has_no_names names);
    }
