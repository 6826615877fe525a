use Rattle.std.proofs.Common.{◌∙◌, sym, subst}
use Rattle.sx_derive.proofs.Premised.{IsShallowPremise, shallow_premise_at, premise_get}
use Rattle.sx_derive.proofs.bound_inputs.bound_premise.Goals as goal

pub has_bound_inputs-requires-clause-shallow : goal.has_bound_inputs-requires-clause-shallow
has_bound_inputs-requires-clause-shallow c =
    subst IsShallowPremise c.in-Some-Holds.field-0-is (shallow_premise_at _ c.requires.shallow c.in_ok-noted.field-0 _ c.in-Some-Holds.ensures.lookup.3.0 c.in-Some-Holds.ensures.lookup.1)

pub returns-then-has_bound_inputs : goal.returns-then-has_bound_inputs
returns-then-has_bound_inputs c = (
  c.in_ok-noted.field-0,
  c.in_ok-noted.was,
  premise_get _ c.in_ok-noted.field-0 _ _ c.in-Some-Holds.ensures.lookup.3.0 c.in-Some-Holds.ensures.lookup.1 c.in-Some-Holds.field-0-is,
  sym c.has_bound_inputs.ensures ∙ c.if-has_bound_inputs.true,
)
