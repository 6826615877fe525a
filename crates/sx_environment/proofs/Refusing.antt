-- Environments that imports are added to, one after the other, and the first that is refused.
use Rattle.std.proofs.Common.{◌≡◌, ℕ, ◌≤◌, List, [], ◌∷◌, ◌++◌, length, ap, subst}
use Rattle.sx_term.specs.Tree.{Tree, depth_of}
use Rattle.sx_interface.specs.Interfaces.{InterfaceParts}
use Rattle.sx_environment.specs.declared.import_error.ImportError.{ImportError}
use Rattle.sx_environment.specs.declared.import_error.ImportError.TheVariants.{Memory}
use Rattle.sx_environment.specs.declared.import_error.ImportError.TheVariants.{LanguageDiffers}
use Rattle.sx_environment.specs.declared.import_error.ImportError.TheVariants.{Differs, Token, Read}
use Rattle.sx_environment.specs.declared.import_error.ImportError.TheVariants.{StatedDiffers}
use Rattle.sx_environment.specs.declared.import_error.ImportError.TheVariants.{TooDeep}
use Rattle.sx_environment.specs.Environments.{with_import, AddsImports, IsEnvironment}
use Rattle.sx_environment.specs.ImportErrors.{IsBadImport, IsImportRefused, HasNoEnvironment}
use Rattle.sx_environment.specs.Seen.{IsGoodImport}
use Rattle.sx_environment.specs.SeenFrom.{SeenFrom}

module _ (s : SeenFrom) where
  -- one more import is added
  pub adds_more : (before : Tree) (its : List InterfaceParts) (middle : Tree) (it : InterfaceParts)
      (seen : Tree) → AddsImports s before its middle → IsGoodImport s it seen →
      AddsImports s before (its ++ it ∷ []) (with_import s middle it.name seen)
  adds_more before [] middle it seen adds good =
      (seen, good, ap (λ (t : Tree). with_import s t it.name seen) adds)
  adds_more before (x ∷ xs) middle it seen adds good = (
    adds.0,
    adds.1,
    adds_more (with_import s before x.name adds.0) xs middle it seen adds.2 good,
  )

  none_of : (its : List InterfaceParts) (e : ImportError) → IsImportRefused s its e → HasNoEnvironment s its e
  none_of its Memory h = tt
  none_of its (LanguageDiffers import language) h = h
  none_of its (Differs import kept found) h = h
  none_of its (Token import line column x) h = h
  none_of its (Read import line column u) h = h
  none_of its (StatedDiffers import kept found) h = h
  none_of its (TooDeep depth) h = h

  -- an import is refused behind good ones
  pub refused_behind : (its front : List InterfaceParts) (it : InterfaceParts)
      (rest : List InterfaceParts) (number : ℕ) (before : Tree) (e : ImportError) →
      its ≡ front ++ it ∷ rest → number ≡ length front → IsEnvironment s front before →
      depth_of before ≤ 1000 → IsBadImport s number before it e → HasNoEnvironment s its e
  refused_behind its front it rest number before e is many environment shallow bad =
      none_of its e (record {
        front = front;
        it = it;
        rest = rest;
        is = is;
        before = before;
        environment = environment;
        shallow = shallow;
        bad = subst (λ n. IsBadImport s n before it e) many bad;
      })
