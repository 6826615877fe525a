use Rattle.std.proofs.Common.{ℕ, List, [], None, length, ◌-◌, ap, subst}
use Rattle.std.specs.Prelude.{Err}
use Rattle.sx_term.specs.Term.{tree}
use Rattle.sx_term.specs.Tree.{Tree}
use Rattle.sx_grammar.specs.Tables.{literals_of}
use Rattle.sx_grammar.specs.Told.{shapes_of}
use Rattle.sx_forest.specs.Readings.{plain_reading}
use Rattle.sx_derive.specs.declared.derive_error.DeriveError.TheVariants.{Underivable}
use Rattle.sx_derive.specs.Blames.{blame_of}
use Rattle.sx_typing.specs.Goals.{goal_with as goal_for, IsFoundBy}
use Rattle.sx_typing.specs.Outcomes.{IsBlameIn}
use Rattle.sx_typing.specs.Refused.{HasReadBody, IsBadSource}
use Rattle.sx_typing.specs.BodySource.{source_of}
use Rattle.sx_typing.specs.TypeErrors.{TellsTypeError}
use Rattle.sx_typing.proofs.Finding.{exhausted_goals_fit}
use Rattle.sx_typing.proofs.TypedBodies.{ok_if, size_is, source_goal}
use Rattle.sx_typing.proofs.TypeErrors.{is_type_error}
use Rattle.sx_typing.proofs.typing.stuck.Goals as goal

pub type_error-requires-clause-blame : goal.type_error-requires-clause-blame
type_error-requires-clause-blame c =
    let s = source_of c.args.source.now in
    let d = s.dialect in
    let is = c.requires.can.dialect.is in
    let subject = tree c.args.body.now.term in
    let good = source_goal s is subject c.requires.can.environment c.requires.good in
    let fits =
    exhausted_goals_fit (literals_of d.language.parts) (shapes_of d.parts) d.language.forms d.rules
    is.rule_set [] subject (goal_for s subject) good None c.requires.blame.0
    (blame_of c.args.blame.now) c.requires.blame.1.0 c.requires.blame.1.1 in
    subst (λ (t : Tree). IsBlameIn (shapes_of d.parts) d.language.forms [] t
    (blame_of c.args.blame.now))
    c.requires.body.term fits.0

pub type_error-requires-clause-shallow : goal.type_error-requires-clause-shallow
type_error-requires-clause-shallow c =
    let s = source_of c.args.source.now in
    let d = s.dialect in
    let is = c.requires.can.dialect.is in
    let subject = tree c.args.body.now.term in
    let good = source_goal s is subject c.requires.can.environment c.requires.good in
    let fits =
    exhausted_goals_fit (literals_of d.language.parts) (shapes_of d.parts) d.language.forms d.rules
    is.rule_set [] subject (goal_for s subject) good None c.requires.blame.0
    (blame_of c.args.blame.now) c.requires.blame.1.0 c.requires.blame.1.1 in
    fits.1

pub returns : goal.returns
returns c =
    let s = source_of c.args.source.now in
    let subject = tree c.args.body.now.term in
    let r = plain_reading c.args.body.now.reading in
    let ts = c.args.body.now.tokens.items in
    let blame = blame_of c.args.blame.now in
    let b : HasReadBody s = record {
      tokens = ts;
      reading = r;
      subject = subject;
      read =
          c.requires.body;
    } in
    let before = length s.bytes - length c.body_of.result.now in
    ok_if c.type_error.result (TellsTypeError s.dialect s.bytes before (length s.bytes - before) ts r
    blame)
    (λ e. (tries : ℕ) → IsFoundBy s tries subject (Err (Underivable c.args.blame.now)) →
    IsBadSource s tries e)
    c.type_error.ensures
    (λ e told tries found. is_type_error s tries before (length s.bytes - before) b blame e
    (ap (λ (bytes : List ℕ). length s.bytes - length bytes) c.body_of.ensures)
    (size_is s.bytes c.body_of.result.now c.args.source.now.header.now.body c.body_of.ensures)
    found.0 found.1 told)
