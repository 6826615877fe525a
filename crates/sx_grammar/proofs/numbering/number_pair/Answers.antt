use Rattle.std.proofs.Common.{subst, sym, Contains, ◌∷◌, []}
use Rattle.sx_grammar.specs.Parts.{bracket_literals}
use Rattle.sx_grammar.proofs.Finding.{is_head, past_head}
use Rattle.sx_grammar.proofs.numbering.number_pair.Goals as goal

pub number_literal-requires-clause-known : goal.number_literal-requires-clause-known
number_literal-requires-clause-known c =
    c.requires.known c.in-Some.opening (subst (λ b. Contains (bracket_literals b) c.in-Some.opening) (sym c.in-Some.is) (is_head c.in-Some.opening (c.in-Some.closing ∷ [])))

pub number_literal-requires-in-Some-clause-known : goal.number_literal-requires-in-Some-clause-known
number_literal-requires-in-Some-clause-known c =
    c.requires.known c.in-Some.closing (subst (λ b. Contains (bracket_literals b) c.in-Some.closing) (sym c.in-Some.is) (past_head c.in-Some.opening (c.in-Some.closing ∷ []) c.in-Some.closing (is_head c.in-Some.closing [])))
