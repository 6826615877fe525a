-- The sorts of the places of forms.
use Rattle.std.specs.Prelude.{◌≡◌, ℕ, List}
use Rattle.std.specs.List.{AllByRecursion}
use Rattle.sx_term.specs.declared.sort.Sort.{Sort}
use Rattle.sx_term.specs.declared.sort.Sort.TheVariants.{Typed}
use Rattle.sx_term.specs.Untyped.{IsUntypedSort}
use Rattle.sx_term.specs.declared.role.Role.{Role}
use Rattle.sx_term.specs.declared.role.Role.TheVariants.{In, Sub, Out}
use Rattle.sx_rules.specs.Views.{FormData}

-- a subject's sort is typed, and that of another place is not
abbrev pub IsSortFor : Role → Sort → Type 0
IsSortFor In sort = IsUntypedSort sort
IsSortFor Sub sort = (k : ℕ) × (sort ≡ Typed k)
IsSortFor Out sort = IsUntypedSort sort

-- so it is of the places of the forms
abbrev pub HaveSortsFor : List FormData → Type 0
HaveSortsFor forms =
    AllByRecursion (λ f. AllByRecursion (λ p. IsSortFor p.role p.sort) f.places) forms
