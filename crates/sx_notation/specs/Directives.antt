-- Lines that extend a language.
use Rattle.std.specs.Prelude.{◌≡◌, ℕ, List}
use Rattle.sx_lines.specs.declared.kind.Kind.TheVariants.{Shape}
use Rattle.sx_directives.specs.declared.directive.Directive.{Directive}
use Rattle.sx_directives.specs.Rows.{IsDirective}
use Rattle.sx_notation.specs.declared.notation_error.NotationError.{NotationError}
use Rattle.sx_notation.specs.declared.notation_error.NotationError.TheVariants.{Memory, Notation}

-- the line with this number is no `prod` and no `var` line, out of memory aside
abbrev pub IsNoDirective : (line : List ℕ) → (number : ℕ) → NotationError → Type 0
IsNoDirective line number Memory = Unit {0}
IsNoDirective line number (Notation at kind) = (at ≡ number) × (kind ≡ Shape) ×
    ((d : Directive) → IsDirective line d → ⊥)
IsNoDirective line number _ = ⊥
