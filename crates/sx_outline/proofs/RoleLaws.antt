-- The places of a form by what they are for.
use Rattle.std.proofs.Common.{◌≡◌, ℕ, ◌+◌, ◌<◌, List, [], ◌∷◌, ◌++◌, length, get_or, drop, sym, ap, ◌∙◌}
use Rattle.std.proofs.lemmas.List.{drop_more}
use Rattle.sx_term.specs.declared.role.Role.{Role}
use Rattle.sx_directives.specs.declared.spelled.SpelledSort.{SpelledSort}
use Rattle.sx_directives.specs.declared.spelled.FormSymbol.{FormSymbol}
use Rattle.sx_outline.specs.Fitting.{sort_at, sorts_at}

-- the first place with this role
pub first_here : (symbols : List FormSymbol) (role : Role) (i : ℕ) (x : FormSymbol) (s : SpelledSort) → i < length symbols → x ≡ get_or symbols i x → sorts_at role (drop i symbols) ≡ sorts_at role symbols → sort_at role x ≡ s ∷ []
    → sorts_at role symbols ≡ s ∷ sorts_at role (drop (i + 1) symbols)
first_here symbols role i x s lt is so_far here =
    let split : drop i symbols ≡ x ∷ drop (i + 1) symbols = drop_more symbols i x lt ∙ ap (λ y. y ∷ drop (i + 1) symbols) (sym is) in
    sym so_far ∙ ap (sorts_at role) split ∙ ap (λ y. y ++ sorts_at role (drop (i + 1) symbols)) here
