use Rattle.std.proofs.Common.{List, ℕ, sym, subst}
use Rattle.sx_term.specs.Vars.{IsAdded}
use Rattle.sx_notation.proofs.AmongNames.{is_there, not_there}
use Rattle.sx_notation.proofs.named_tokens.is_among.Goals as goal

pub returns-in-Some-clause-among : goal.returns-in-Some-clause-among
returns-in-Some-clause-among c =
    let added = subst (λ (old : List (List ℕ)). IsAdded old c.add.new.self c.args.name c.in_ok-number.number) c.requires.same c.in_ok-number.ensures.ok in
    λ yes. is_there c.args.names.now c.add.new.self c.args.name c.in_ok-number.number added c.in-Some.field-0.now (sym c.in-Some.ensures.value)

pub returns-in-None-clause-not : goal.returns-in-None-clause-not
returns-in-None-clause-not c =
    let added = subst (λ (old : List (List ℕ)). IsAdded old c.add.new.self c.args.name c.in_ok-number.number) c.requires.same c.in_ok-number.ensures.ok in
    λ no. not_there c.args.names.now c.add.new.self c.args.name c.in_ok-number.number added (sym c.in-None.ensures.value)
