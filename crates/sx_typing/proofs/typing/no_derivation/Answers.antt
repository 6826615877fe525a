use Rattle.std.proofs.Common.{◌≡◌, ℕ, subst}
use Rattle.std.specs.Prelude.{Err}
use Rattle.sx_term.specs.Term.{tree}
use Rattle.sx_forest.specs.Readings.{plain_reading}
use Rattle.sx_derive.specs.declared.derive_error.DeriveError.{DeriveError}
use Rattle.sx_typing.specs.Goals.{IsFoundBy}
use Rattle.sx_typing.specs.Refused.{HasReadBody}
use Rattle.sx_typing.specs.BodySource.{source_of}
use Rattle.sx_typing.proofs.typing.no_derivation.Goals as goal
use Rattle.sx_typing.proofs.typing.no_derivation.Goals.{Start}

-- the body that is read
abbrev read_body : (c : Start) → HasReadBody (source_of c.args.source.now)
read_body c = record {
  tokens = c.args.body.now.tokens.items;
  reading = plain_reading c.args.body.now.reading;
  subject = tree c.args.body.now.term;
  read = c.requires.body;
}

-- what is found is the error that the given one is
found_as : (c : Start) (e : DeriveError) → c.args.error ≡ e → (tries : ℕ) →
    IsFoundBy (source_of c.args.source.now) tries (tree c.args.body.now.term) (Err c.args.error) →
    IsFoundBy (source_of c.args.source.now) tries (tree c.args.body.now.term) (Err e)
found_as c e is tries =
    subst (λ (x : DeriveError). IsFoundBy (source_of c.args.source.now) tries
    (tree c.args.body.now.term) (Err x)) is

pub returns-in-BudgetSpent-clause-bad : goal.returns-in-BudgetSpent-clause-bad
returns-in-BudgetSpent-clause-bad c = λ tries h.
    let w = (goal.at.returns-in-BudgetSpent-clause-bad c).Start in
    let f = found_as w _ c.in-BudgetSpent.is tries h in
    (read_body w, f.0, f.1)

pub returns-in-DepthSpent-clause-bad : goal.returns-in-DepthSpent-clause-bad
returns-in-DepthSpent-clause-bad c = λ tries h.
    let w = (goal.at.returns-in-DepthSpent-clause-bad c).Start in
    let f = found_as w _ c.in-DepthSpent.is tries h in
    (read_body w, f.0)

pub returns-in-TooDeep-clause-bad : goal.returns-in-TooDeep-clause-bad
returns-in-TooDeep-clause-bad c = λ tries h.
    let w = (goal.at.returns-in-TooDeep-clause-bad c).Start in
    let f = found_as w _ c.in-TooDeep.is tries h in
    (read_body w, f.0, f.1, f.2)

pub returns-clause-bad : goal.returns-clause-bad
returns-clause-bad c = λ tries h.
    let w = (goal.at.returns-clause-bad c).Start in
    let f = found_as w _ c.in-TooBig.is tries h in
    (read_body w, f.0, f.1, f.2)
