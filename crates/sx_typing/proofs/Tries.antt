-- The tries of typing.
use Rattle.std.proofs.Common.{◌≡◌, ℕ, ◌+◌, ◌≤◌, refl, sym, subst, arith}
use Rattle.std.specs.Prelude.{Result, Ok, Err}
use Rattle.sx_derive.specs.declared.derive_error.DeriveError.{DeriveError}
use Rattle.sx_derive.specs.declared.derive_error.DeriveError.TheVariants as derive_error
use Rattle.sx_derive.specs.declared.listed.Listed.{Listed}
use Rattle.sx_derive.specs.Deriving.{AreCounted}
use Rattle.sx_typing.specs.declared.typed.Typed.{Typed}
use Rattle.sx_typing.specs.declared.module_error.ModuleError.{ModuleError}
use Rattle.sx_typing.specs.declared.module_error.ModuleError.TheVariants as module_error
use Rattle.sx_typing.specs.Goals.{AreTriesCounted}

exact : (made first last : ℕ) (r : ModuleError) → last ≡ first + made →
    AreTriesCounted {X = Typed} made first last (Err r)
exact made first last module_error.Memory h = (omega (arith, h), omega (arith, h))
exact made first last (module_error.Token line column e) h = h
exact made first last (module_error.Read line column e) h = h
exact made first last (module_error.TypeError line column e) h = h
exact made first last (module_error.BudgetSpent n) h = h
exact made first last module_error.DepthSpent h = h
exact made first last (module_error.TooDeep n) h = h
exact made first last (module_error.TooBig n) h = h
exact made first last (module_error.RewriteSpent n) h = h
exact made first last module_error.RewriteDeep h = h
exact made first last (module_error.Print part defect) h = h
exact made first last (module_error.Captured word) h = h

-- the tries of a search that finds nothing are those of the refusal
pub tried : (made first last : ℕ) (e : DeriveError) (r : ModuleError) →
    AreCounted {X = Listed} made first last (Err e) →
    (e ≡ derive_error.Memory → r ≡ module_error.Memory) →
    AreTriesCounted {X = Typed} made first last (Err r)
tried made first last derive_error.Memory r h k =
    subst (λ (x : ModuleError). AreTriesCounted {X = Typed} made first last (Err x)) (sym (k refl)) h
tried made first last (derive_error.Underivable b) r h k = exact made first last r h
tried made first last (derive_error.BudgetSpent n) r h k = exact made first last r h
tried made first last (derive_error.DepthSpent n) r h k = exact made first last r h
tried made first last (derive_error.TooDeep n) r h k = exact made first last r h
tried made first last (derive_error.TooBig n) r h k = exact made first last r h

-- they are no more than those that may be made
pub counted_most : (made first last tries : ℕ) (r : Result Listed DeriveError) → made ≤ tries →
    AreCounted made first last r → last ≤ first + tries
counted_most made first last tries (Ok l) few h = omega (arith, few, h)
counted_most made first last tries (Err derive_error.Memory) few h = omega (arith, few, h.1)
counted_most made first last tries (Err (derive_error.Underivable b)) few h = omega (arith, few, h)
counted_most made first last tries (Err (derive_error.BudgetSpent n)) few h = omega (arith, few, h)
counted_most made first last tries (Err (derive_error.DepthSpent n)) few h = omega (arith, few, h)
counted_most made first last tries (Err (derive_error.TooDeep n)) few h = omega (arith, few, h)
counted_most made first last tries (Err (derive_error.TooBig n)) few h = omega (arith, few, h)
