use Rattle.std.proofs.Common.{◌≡◌, arith, ℕ, zero, suc, ◌<◌, Bool, true, false, List, [], ◌∷◌, ◌⊎◌, inl, inr, length, Option, Some, None, refl, sym, ap, ◌∙◌}
use Rattle.std.specs.Prelude.{slice_get}
use Rattle.sx_term.specs.Tree.{Tree, Trees, node, lexeme, hole, none, ◌▹◌}
use Rattle.sx_term.specs.declared.lex_kind.LexKind.{LexKind}
use Rattle.sx_term.specs.declared.sort.Sort.{Sort}
use Rattle.sx_term.specs.declared.sort.Sort.TheVariants.{Lex, Plain, Typed}
use Rattle.sx_rules.specs.Instances.{Stands, StandsInKids, StandsAmong}
use Rattle.sx_rules.specs.Rules.{Judgement, Premise, holds, apart, Rule, judgements_of}
use Rattle.sx_rules.specs.Modes.{Modes, inputs, outputs, inputs_of, outputs_of, AreModed, IsModed}
use Rattle.sx_term.specs.Sorts.{Shape, HasSort, KidsHaveSorts, HaveSorts}
use Rattle.sx_rules.specs.Sorts.{IsUntypedSort, FormSorts, JudgementIsSorted, PremisesAreSorted, RuleIsSorted}
use Rattle.sx_rules.specs.Typed.{others_of, IsUntypedVariable, TypedInSubjects}
use Rattle.sx_rules.specs.Discipline.{subjects_of, IsSubjectIn, IsDisciplined, AreUntypedSorts, PlainHaveNoTyped, FormsFit}
use Rattle.sx_rules.specs.DerivationLaws.{DisciplineSuffices}
use Rattle.sx_rules.proofs.Sorted.{inputs-sorted, outputs-sorted}

pub untyped_clash : (sorts : List Sort) (v k : ℕ) → IsUntypedVariable sorts v → slice_get sorts v ≡ Some (Typed k) → ⊥
untyped_clash sorts v k u e =
    let same_some : Some u.0 ≡ Some (Typed k) = sym u.1 ∙ e in u.2 k cc

get_within : (sorts : List Sort) (v : ℕ) → v < length sorts → slice_get sorts v ≡ None → ⊥
get_within [] v l e = absurd (omega arith)
get_within (x ∷ xs) zero l e = cc
get_within (x ∷ xs) (suc v) l e = get_within xs v (omega arith) e

-- the variables of a term of an untyped sort are untyped
module _ (shapes : List Shape) (vars : List Sort) (no_typed : PlainHaveNoTyped shapes) where
  mutual
    untyped_variables : (t : Tree) (sort : Sort) → HasSort shapes vars t sort → IsUntypedSort sort → (v : ℕ) → Stands v t → IsUntypedVariable vars v
    untyped_variables (node l ts) sort h u v k =
        untyped_in_kids ts h.0.kids h.3 (no_typed l h.0 h.1 (λ n e. u n (sym h.2 ∙ e))) v k
    untyped_variables (lexeme x y) sort h u v k = absurd k
    untyped_variables (hole w) sort h u v k = (sort, ap (slice_get vars) k ∙ h, u)

    untyped_in_kids : (ts : Trees) (sorts : List Sort) → KidsHaveSorts shapes vars ts sorts → AreUntypedSorts sorts → (v : ℕ) → StandsInKids v ts → IsUntypedVariable vars v
    untyped_in_kids none sorts h u v k = absurd k
    untyped_in_kids (t ▹ ts) [] h u v k = absurd h
    untyped_in_kids (t ▹ ts) (x ∷ xs) h u v (inl k) = untyped_variables t x h.0 u.0 v k
    untyped_in_kids (t ▹ ts) (x ∷ xs) h u v (inr k) = untyped_in_kids ts xs h.1 u.1 v k

  untyped_among : (ts : List Tree) (sorts : List Sort) → HaveSorts shapes vars ts sorts → AreUntypedSorts sorts → (v : ℕ) → StandsAmong v ts → IsUntypedVariable vars v
  untyped_among [] sorts h u v k = absurd k
  untyped_among (t ∷ ts) [] h u v k = absurd h
  untyped_among (t ∷ ts) (x ∷ xs) h u v (inl k) = untyped_variables t x h.0 u.0 v k
  untyped_among (t ∷ ts) (x ∷ xs) h u v (inr k) = untyped_among ts xs h.1 u.1 v k

-- places are inputs or outputs
among_inputs : (bs : List Bool) (ts : List Tree) (v : ℕ) → StandsAmong v (inputs bs ts) → StandsAmong v ts
among_inputs [] ts v h = h
among_inputs (b ∷ bs) [] v h = h
among_inputs (true ∷ bs) (t ∷ ts) v h = inr (among_inputs bs ts v h)
among_inputs (false ∷ bs) (t ∷ ts) v (inl h) = inl h
among_inputs (false ∷ bs) (t ∷ ts) v (inr h) = inr (among_inputs bs ts v h)

among_either : (bs : List Bool) (ts : List Tree) (v : ℕ) → StandsAmong v ts → StandsAmong v (inputs bs ts) ⊎ StandsAmong v (outputs bs ts)
among_either [] ts v h = inl h
among_either (b ∷ bs) [] v h = absurd h
among_either (true ∷ bs) (t ∷ ts) v (inl h) = inr (inl h)
among_either (true ∷ bs) (t ∷ ts) v (inr h) = go (among_either bs ts v h)
  where
    go : StandsAmong v (inputs bs ts) ⊎ StandsAmong v (outputs bs ts) → StandsAmong v (inputs bs ts) ⊎ (Stands v t ⊎ StandsAmong v (outputs bs ts))
    go (inl k) = inl k
    go (inr k) = inr (inr k)
among_either (false ∷ bs) (t ∷ ts) v (inl h) = inl (inl h)
among_either (false ∷ bs) (t ∷ ts) v (inr h) = go (among_either bs ts v h)
  where
    go : StandsAmong v (inputs bs ts) ⊎ StandsAmong v (outputs bs ts) → (Stands v t ⊎ StandsAmong v (inputs bs ts)) ⊎ StandsAmong v (outputs bs ts)
    go (inl k) = inl (inr k)
    go (inr k) = inr k

lexical_untyped : (kind : LexKind) → IsUntypedSort (Lex kind)
lexical_untyped kind k e = cc

module _ (modes subjects : Modes) (shapes : List Shape) (forms : FormSorts) (no_typed : PlainHaveNoTyped shapes) (fit : FormsFit modes subjects forms) where
  others_untyped : (vars : List Sort) (j : Judgement) → JudgementIsSorted shapes forms vars j → (v : ℕ) → StandsAmong v (others_of subjects j) → IsUntypedVariable vars v
  others_untyped vars j h =
      untyped_among shapes vars no_typed (inputs (subjects j.form) j.places) (inputs (subjects j.form) (forms j.form))
      (inputs-sorted shapes vars (subjects j.form) j.places (forms j.form) h) (fit.others j.form)

  outputs_untyped : (vars : List Sort) (j : Judgement) → JudgementIsSorted shapes forms vars j → (v : ℕ) → StandsAmong v (outputs_of modes j) → IsUntypedVariable vars v
  outputs_untyped vars j h =
      untyped_among shapes vars no_typed (outputs (modes j.form) j.places) (outputs (modes j.form) (forms j.form))
      (outputs-sorted shapes vars (modes j.form) j.places (forms j.form) h) (fit.outputs_plain j.form)

  premises_typed : (vars : List Sort) (ps : List Premise) → PremisesAreSorted shapes forms vars ps → TypedInSubjects subjects vars ps
  premises_typed vars [] h = tt
  premises_typed vars (holds j ∷ ps) h = (others_untyped vars j h.0, premises_typed vars ps h.1)
  premises_typed vars (apart t u ∷ ps) h = (
    (λ v. elim [
      | inl k ↦ untyped_variables shapes vars no_typed t (Lex h.0.0) h.0.1 (lexical_untyped h.0.0) v k
      | inr k ↦ untyped_variables shapes vars no_typed u (Lex h.0.0) h.0.2 (lexical_untyped h.0.0) v k
    ]),
    premises_typed vars ps h.1,
  )

  -- a variable of a typed sort is bound by the conclusion's inputs
  bound_at_start : (rule : Rule) (ps : List Premise) (Bound : ℕ → Type 0) (v k : ℕ) → slice_get rule.sorts v ≡ Some (Typed k) → v < length rule.sorts →
      (Bound v → StandsAmong v (inputs_of modes rule.conclusion)) → AreModed modes Bound ps rule → PremisesAreSorted shapes forms rule.sorts ps →
      StandsAmong v (inputs_of modes rule.conclusion)
  bound_at_start rule [] Bound v k e l b m h = b ((m.1 v).1 l)
  bound_at_start rule (apart t u ∷ ps) Bound v k e l b m h = bound_at_start rule ps Bound v k e l b m.1 h.1
  bound_at_start rule (holds j ∷ ps) Bound v k e l b m h =
      bound_at_start rule ps (λ w. Bound w ⊎ StandsAmong w (outputs_of modes j)) v k e l
      (elim [ inl x ↦ b x | inr x ↦ absurd (untyped_clash rule.sorts v k (outputs_untyped rule.sorts j h.0 v x) e) ]) m.1 h.1

  typed_subject : (rule : Rule) → RuleIsSorted shapes forms rule → IsModed modes rule → IsDisciplined subjects rule → (v k : ℕ) → slice_get rule.sorts v ≡ Some (Typed k) → v < length rule.sorts →
      IsSubjectIn subjects v (judgements_of rule.premises)
  typed_subject rule h m d v k e l =
      let at_inputs = bound_at_start rule rule.premises (λ w. StandsAmong w (inputs_of modes rule.conclusion)) v k e l (λ x. x) m h.1 in
      let at_places = among_inputs (modes rule.conclusion.form) rule.conclusion.places v at_inputs in
      go (among_either (subjects rule.conclusion.form) rule.conclusion.places v at_places)
    where
      go : StandsAmong v (others_of subjects rule.conclusion) ⊎ StandsAmong v (subjects_of subjects rule.conclusion) → IsSubjectIn subjects v (judgements_of rule.premises)
      go (inl x) = absurd (untyped_clash rule.sorts v k (others_untyped rule.sorts rule.conclusion h.0 v x) e)
      go (inr x) = d.every v k e x

  typed_or_not : (rule : Rule) (v : ℕ) → v < length rule.sorts → (o : Option Sort) → slice_get rule.sorts v ≡ o → ((k : ℕ) → slice_get rule.sorts v ≡ Some (Typed k) → IsSubjectIn subjects v (judgements_of rule.premises)) →
      IsUntypedVariable rule.sorts v ⊎ IsSubjectIn subjects v (judgements_of rule.premises)
  typed_or_not rule v l None e h = absurd (get_within rule.sorts v l e)
  typed_or_not rule v l (Some (Lex kind)) e h = inl (Lex kind, e, lexical_untyped kind)
  typed_or_not rule v l (Some (Plain n)) e h = inl (Plain n, e, λ k f. cc)
  typed_or_not rule v l (Some (Typed k)) e h = inr (h k e)

pub discipline_suffices : DisciplineSuffices
discipline_suffices modes subjects shapes forms no_typed fit rule h m d = (
  (others_untyped modes subjects shapes forms no_typed fit rule.sorts rule.conclusion h.0, premises_typed modes subjects shapes forms no_typed fit rule.sorts rule.premises h.1),
  (λ v l. typed_or_not modes subjects shapes forms no_typed fit rule v l (slice_get rule.sorts v) refl (λ k e. typed_subject modes subjects shapes forms no_typed fit rule h m d v k e l)),
)
