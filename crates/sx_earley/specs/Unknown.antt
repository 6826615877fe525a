-- Metavariables whose stems are known or unknown.
use Rattle.std.specs.Prelude.{◌≡◌, ℕ, true, List, Option, Some, None, slice_get, is_some, take}
use Rattle.std.specs.List.{AllByRecursion}
use Rattle.sx_term.specs.declared.mark.Mark.TheVariants.{Meta}
use Rattle.sx_token.specs.declared.token.Token.{Token}
use Rattle.sx_earley.specs.Tokens.{Stems, stem_sort, meta_stem}

-- the token is a metavariable, and its stem has no sort
abbrev pub IsUnknownStem : Stems → Token → Type 0
IsUnknownStem stems t = (t.mark ≡ Meta) × (stem_sort stems (meta_stem t.text) ≡ None)

-- if the token is a metavariable, its stem has a sort
abbrev pub HasKnownStem : Stems → Token → Type 0
HasKnownStem stems t = t.mark ≡ Meta → is_some (stem_sort stems (meta_stem t.text)) ≡ true

-- so it is of each token
abbrev pub HaveStems : Stems → List Token → Type 0
HaveStems stems ts = AllByRecursion (HasKnownStem stems) ts

-- the token at the place is the first that is unknown, or none is
abbrev pub IsFirstUnknown : Stems → List Token → Option ℕ → Type 0
IsFirstUnknown stems ts None = HaveStems stems ts
IsFirstUnknown stems ts (Some n) = HaveStems stems (take n ts) ×
    ((t : Token) × (slice_get ts n ≡ Some t) × IsUnknownStem stems t)
