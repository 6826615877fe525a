-- Imports have one environment or one refusal, but for the readings that a refusal may show of a
-- text with more than two.
use Rattle.std.proofs.Common.{◌≡◌, ◌≢◌, ℕ, suc, ◌+◌, ◌≤◌, List, [], ◌∷◌, ◌++◌, ◌⊎◌, inl, inr}
use Rattle.std.proofs.Common.{length, refl, sym, ap, ◌∙◌, subst, arith}
use Rattle.std.specs.Prelude.{Some, slice_get}
use Rattle.sx_term.specs.Tree.{Tree, depth_of}
use Rattle.sx_interface.specs.Interfaces.{InterfaceParts}
use Rattle.sx_environment.specs.declared.import_error.ImportError.{ImportError}
use Rattle.sx_environment.specs.declared.import_error.ImportError.TheVariants.{Memory}
use Rattle.sx_environment.specs.declared.import_error.ImportError.TheVariants.{LanguageDiffers}
use Rattle.sx_environment.specs.declared.import_error.ImportError.TheVariants.{Differs, Token, Read}
use Rattle.sx_environment.specs.declared.import_error.ImportError.TheVariants.{StatedDiffers}
use Rattle.sx_environment.specs.declared.import_error.ImportError.TheVariants.{TooDeep}
use Rattle.sx_environment.specs.Alike.{AreImportsAlike, OneEnvironment}
use Rattle.sx_environment.specs.Environments.{empty_environment, with_import, AddsImports}
use Rattle.sx_environment.specs.ImportErrors.{IsBadImport, IsImportRefused, HasNoEnvironment}
use Rattle.sx_environment.specs.Seen.{IsGoodImport}
use Rattle.sx_environment.specs.SeenFrom.{SeenFrom}
use Rattle.sx_environment.proofs.OneSeen.{good_one, Steps, steps_of, steps_alike, steps_none}

module _ (s : SeenFrom) where
  pub adds_one : (before : Tree) (its : List InterfaceParts) (t u : Tree) → AddsImports s before its t →
      AddsImports s before its u → t ≡ u
  adds_one before [] t u h k = h ∙ sym k
  adds_one before (it ∷ its) t u h k =
      adds_one (with_import s before it.name k.0) its t u
      (subst (λ (x : Tree). AddsImports s (with_import s before it.name x) its t)
      (good_one s it h.0 k.0 h.1 k.1) h.2) k.2

  -- an environment with imports is as deep as without them, or deeper
  adds_deepen : (before : Tree) (its : List InterfaceParts) (after : Tree) →
      AddsImports s before its after → depth_of before ≤ depth_of after
  adds_deepen before [] after h = let e = ap depth_of h in omega (arith, e)
  adds_deepen before (it ∷ its) after h =
      let rest = adds_deepen (with_import s before it.name h.0) its after h.2 in
      omega (arith, rest)

  module _ (whole : List InterfaceParts) where
    -- the refusal of the first of the imports that is refused, behind this environment
    abbrev RefusedFrom : (before : Tree) → (number : ℕ) → List InterfaceParts → ImportError → Type 0
    RefusedFrom before number [] e = ⊥
    RefusedFrom before number (it ∷ its) e = Steps s number before it e
        ⊎ ((seen : Tree) × IsGoodImport s it seen ×
        (depth_of (with_import s before it.name seen) ≤ 1000) ×
        RefusedFrom (with_import s before it.name seen) (number + 1) its e)

    -- the imports stand in the whole list from this number on
    abbrev StandFrom : ℕ → List InterfaceParts → Type 0
    StandFrom number its = (k : ℕ) → slice_get whole (number + k) ≡ slice_get its k

    is_at_head : (number : ℕ) (it : InterfaceParts) (its : List InterfaceParts) →
        StandFrom number (it ∷ its) → slice_get whole number ≡ Some it
    is_at_head number it its stand =
        let same : number ≡ number + 0 = omega arith in
        ap (slice_get whole) same ∙ stand 0

    next_stand : (number : ℕ) (it : InterfaceParts) (its : List InterfaceParts) →
        StandFrom number (it ∷ its) → StandFrom (number + 1) its
    next_stand number it its stand k =
        let same : number + 1 + k ≡ number + suc k = omega arith in
        ap (slice_get whole) same ∙ stand (suc k)

    refused_alike : (before : Tree) (number : ℕ) (its : List InterfaceParts) (e d : ImportError) →
        StandFrom number its → RefusedFrom before number its e → RefusedFrom before number its d →
        AreImportsAlike s whole e d
    refused_alike before number [] e d stand h k = absurd h
    refused_alike before number (it ∷ its) e d stand (inl h) (inl k) =
        steps_alike s number before it whole (is_at_head number it its stand) e d h k
    refused_alike before number (it ∷ its) e d stand (inl h) (inr k) =
        absurd (steps_none s number before it k.0 k.1 k.2 e h)
    refused_alike before number (it ∷ its) e d stand (inr h) (inl k) =
        absurd (steps_none s number before it h.0 h.1 h.2 d k)
    refused_alike before number (it ∷ its) e d stand (inr h) (inr k) =
        refused_alike (with_import s before it.name k.0) (number + 1) its e d
        (next_stand number it its stand)
        (subst (λ (t : Tree). RefusedFrom (with_import s before it.name t) (number + 1) its e)
        (good_one s it h.0 k.0 h.1 k.1) h.3) k.3

    -- imports that have an environment that is not too deep are not refused
    refused_none : (before : Tree) (number : ℕ) (its : List InterfaceParts) (after : Tree)
        (e : ImportError) → StandFrom number its → AddsImports s before its after →
        depth_of after ≤ 1000 → RefusedFrom before number its e → ⊥
    refused_none before number [] after e stand adds shallow h = h
    refused_none before number (it ∷ its) after e stand adds shallow (inl h) =
        let deepens = adds_deepen (with_import s before it.name adds.0) its after adds.2 in
        steps_none s number before it adds.0 adds.1
        (omega (arith, deepens, shallow)) e h
    refused_none before number (it ∷ its) after e stand adds shallow (inr h) =
        refused_none (with_import s before it.name adds.0) (number + 1) its after e
        (next_stand number it its stand) adds.2 shallow
        (subst (λ (t : Tree). RefusedFrom (with_import s before it.name t) (number + 1) its e)
        (good_one s it h.0 adds.0 h.1 adds.1) h.3)

    -- an import that is refused behind good ones
    refused_from : (before : Tree) (number : ℕ) (front : List InterfaceParts) (it : InterfaceParts)
        (rest : List InterfaceParts) (after : Tree) (e : ImportError) →
        StandFrom number (front ++ it ∷ rest) → AddsImports s before front after →
        depth_of after ≤ 1000 → IsBadImport s (number + length front) after it e → e ≢ Memory →
        RefusedFrom before number (front ++ it ∷ rest) e
    refused_from before number [] it rest after e stand adds shallow bad not =
        let same : number + 0 ≡ number = omega arith in
        inl (steps_of s number before it e
        (subst (λ n. IsBadImport s n before it e) same
        (subst (λ (t : Tree). IsBadImport s (number + 0) t it e) adds bad)) not)
    refused_from before number (x ∷ xs) it rest after e stand adds shallow bad not =
        let same : number + suc (length xs) ≡ number + 1 + length xs = omega arith in
        let deepens = adds_deepen (with_import s before x.name adds.0) xs after adds.2 in
        inr (
          adds.0,
          adds.1,
          omega (arith, deepens, shallow),
          refused_from (with_import s before x.name adds.0) (number + 1) xs it rest after e
              (next_stand number x (xs ++ it ∷ rest) stand) adds.2 shallow
              (subst (λ n. IsBadImport s n after it e) same bad) not,
        )

  stand_all : (its : List InterfaceParts) → StandFrom its 0 its
  stand_all its k = let same : 0 + k ≡ k = omega arith in ap (slice_get its) same

  from_record : (its : List InterfaceParts) (e : ImportError) → IsImportRefused s its e → e ≢ Memory →
      RefusedFrom its (empty_environment s) 0 its e
  from_record its e h not =
      let list = h.front ++ h.it ∷ h.rest in
      let same : length h.front ≡ 0 + length h.front = omega arith in
      let from = refused_from list (empty_environment s) 0 h.front h.it h.rest h.before e
      (stand_all list) h.environment h.shallow
      (subst (λ n. IsBadImport s n h.before h.it e) same h.bad) not in
      subst (λ (l : List InterfaceParts). RefusedFrom l (empty_environment s) 0 l e) (sym h.is) from

  refused_of : (its : List InterfaceParts) (e : ImportError) → HasNoEnvironment s its e → e ≢ Memory →
      IsImportRefused s its e
  refused_of its Memory h not = absurd (not refl)
  refused_of its (LanguageDiffers import language) h not = h
  refused_of its (Differs import kept found) h not = h
  refused_of its (Token import line column x) h not = h
  refused_of its (Read import line column u) h not = h
  refused_of its (StatedDiffers import kept found) h not = h
  refused_of its (TooDeep depth) h not = h

  all_alike : (its : List InterfaceParts) (e d : ImportError) → HasNoEnvironment s its e → HasNoEnvironment s its d →
      e ≢ Memory → d ≢ Memory → AreImportsAlike s its e d
  all_alike its e d h k not other =
      refused_alike its (empty_environment s) 0 its e d (stand_all its)
      (from_record its e (refused_of its e h not) not)
      (from_record its d (refused_of its d k other) other)

  none_refused : (its : List InterfaceParts) (t : Tree) (e : ImportError) →
      AddsImports s (empty_environment s) its t → depth_of t ≤ 1000 → HasNoEnvironment s its e → e ≢ Memory → ⊥
  none_refused its t e made shallow h not =
      refused_none its (empty_environment s) 0 its t e (stand_all its) made shallow
      (from_record its e (refused_of its e h not) not)

  either_of : (its : List InterfaceParts) (t : Tree) (e : ImportError) →
      AddsImports s (empty_environment s) its t → depth_of t ≤ 1000 → HasNoEnvironment s its e → e ≡ Memory
  either_of its t Memory made shallow h = refl
  either_of its t (LanguageDiffers import language) made shallow h =
      absurd (none_refused its t (LanguageDiffers import language) made shallow h (λ e. cc))
  either_of its t (Differs import kept found) made shallow h =
      absurd (none_refused its t (Differs import kept found) made shallow h (λ e. cc))
  either_of its t (Token import line column x) made shallow h =
      absurd (none_refused its t (Token import line column x) made shallow h (λ e. cc))
  either_of its t (Read import line column u) made shallow h =
      absurd (none_refused its t (Read import line column u) made shallow h (λ e. cc))
  either_of its t (StatedDiffers import kept found) made shallow h =
      absurd (none_refused its t (StatedDiffers import kept found) made shallow h (λ e. cc))
  either_of its t (TooDeep depth) made shallow h =
      absurd (none_refused its t (TooDeep depth) made shallow h (λ e. cc))

pub one_environment : OneEnvironment
one_environment = record {
  found = λ s its t u. adds_one s (empty_environment s) its t u;
  either = λ s its t e. either_of s its t e;
  refused = λ s its e d. all_alike s its e d;
}
