-- Terms that are seen.
use Rattle.std.proofs.Common.{◌≡◌, ℕ, ◌<◌, ◌⊎◌, inl, inr, refl, sym, subst}
use Rattle.std.specs.Prelude.{Result, Ok, Err, IfOk, IfErr}
use Rattle.sx_term.specs.declared.term.Term.{Term}
use Rattle.sx_term.specs.Term.{tree}
use Rattle.sx_term.specs.Tree.{Tree, depth_of}
use Rattle.sx_interface.specs.Interfaces.{InterfaceParts}
use Rattle.sx_environment.specs.declared.building.Grown.{Grown}
use Rattle.sx_environment.specs.declared.import_error.ImportError.{ImportError}
use Rattle.sx_environment.specs.declared.import_error.ImportError.TheVariants.{Memory, TooDeep}
use Rattle.sx_environment.specs.declared.row.Row.TheVariants.{Signature, Stated}
use Rattle.sx_environment.specs.Environments.{with_import}
use Rattle.sx_environment.specs.ImportErrors.{IsBadImport}
use Rattle.sx_environment.specs.Seen.{IsImportRowRead, HasLanguage, SeesStated, IsPlainOf}
use Rattle.sx_environment.specs.Seen.{IsGoodImport}
use Rattle.sx_environment.specs.SeenFrom.{SeenFrom}

-- a stated signature that is seen
pub sees_stated : (s : SeenFrom) (it : InterfaceParts) (signature : Tree)
    (r : Result Term ImportError) → HasLanguage s it → IsImportRowRead s it Signature signature →
    SeesStated s it → IfOk r (λ t. IsImportRowRead s it Stated (tree t)) →
    IfOk r (λ t. IsPlainOf s (tree t) signature) → IfOk r (λ t. IsGoodImport s it (tree t))
sees_stated s it signature (Ok t) language read sees stated plain = record {
  language = language;
  signature = signature;
  read = read;
  sees = inl (sees, stated, plain);
}
sees_stated s it signature (Err e) language read sees stated plain = tt

-- an environment with an import is one that the import is added to
pub added_import : (s : SeenFrom) (before : Tree) (it : InterfaceParts) (seen : Tree)
    (r : Result Grown ImportError) → IsGoodImport s it seen →
    IfOk r (λ (g : Grown). tree g.term ≡ with_import s before it.name seen) →
    IfOk r (λ (g : Grown). (t : Tree) × IsGoodImport s it t ×
    (tree g.term ≡ with_import s before it.name t))
added_import s before it seen (Ok g) good made = (seen, good, made)
added_import s before it seen (Err e) good made = tt

-- the refusal of an environment that is too deep
pub too_deep : (s : SeenFrom) (number : ℕ) (before : Tree) (it : InterfaceParts) (seen : Tree)
    (e : ImportError) → IsGoodImport s it seen →
    (e ≡ Memory) ⊎ ((e ≡ TooDeep (depth_of (with_import s before it.name seen))) ×
    (1000 < depth_of (with_import s before it.name seen))) → IsBadImport s number before it e
too_deep s number before it seen e good (inl is) =
    subst (IsBadImport s number before it) (sym is) tt
too_deep s number before it seen e good (inr h) =
    subst (IsBadImport s number before it) (sym h.0)
    (record { seen = seen; good = good; is = refl; deep = h.1 })

pub too_deep_if : (s : SeenFrom) (number : ℕ) (before : Tree) (it : InterfaceParts) (seen : Tree)
    (r : Result Grown ImportError) → IsGoodImport s it seen →
    IfErr r (λ e. (e ≡ Memory) ⊎ ((e ≡ TooDeep (depth_of (with_import s before it.name seen))) ×
    (1000 < depth_of (with_import s before it.name seen)))) →
    IfErr r (IsBadImport s number before it)
too_deep_if s number before it seen (Ok g) good h = tt
too_deep_if s number before it seen (Err e) good h = too_deep s number before it seen e good h
