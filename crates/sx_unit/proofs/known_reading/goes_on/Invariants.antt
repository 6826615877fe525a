use Rattle.std.proofs.Common.{◌≡◌, ◌++◌, ◌∷◌, [], drop}
use Rattle.sx_unit.specs.Known.{behind_blanks}
use Rattle.sx_unit.proofs.known_reading.goes_on.Given as goal

abbrev pub invariant-loop-token : goal.invariant-loop-token
invariant-loop-token l = l.rest ≡ behind_blanks (drop l.token-index l.tokens) ++ 10 ∷ [] →
    l.text ≡ behind_blanks l.tokens ++ 10 ∷ []
