-- What the places of forms are for.
use Rattle.std.specs.Prelude.{Bool, true, false}
use Rattle.sx_term.specs.declared.role.Role.{Role}
use Rattle.sx_term.specs.declared.role.Role.TheVariants.{In, Sub, Out}

-- whether the role is that of an output
abbrev pub is_out : Role → Bool
is_out In = false
is_out Sub = false
is_out Out = true

-- whether it is that of a subject
abbrev pub is_sub : Role → Bool
is_sub In = false
is_sub Sub = true
is_sub Out = false
