-- What a walk finds is the first derivation, and a type error comes only where there is none.
use Rattle.sx_typing.specs.Refused.{HasTyping}
use Rattle.sx_typing.proofs.Walks.{typings_are_first, source_type_errors_are_final}
use Rattle.sx_unit.specs.Refused.{ModuleTypeErrorsAreFinal}
use Rattle.sx_unit.specs.Unit.{UnitsAreMade}

pub units_are_made : UnitsAreMade
units_are_made m b u moded made = record {
  tokens = typing.body.tokens;
  reading = typing.body.reading;
  subject = typing.body.subject;
  read = typing.body.read;
  answer = typing.answer;
  first = typings_are_first m.source b.tries typing.body.subject typing.output typing.answer moded
      typing.typed;
  output = typing.output;
  gives = typing.typed.gives;
  proof = made.lowering.lowered.proof;
  judgement = made.lowering.lowered.judgement;
  lowers = made.lowering.rewriting.0;
  terms = made.lowering.terms;
  are = made.lowering.are;
  written = made.written;
  source_tokens = made.source_tokens;
}
  where
    typing : HasTyping m.source b.tries
    typing = made.lowering.typing

pub final : ModuleTypeErrorsAreFinal
final m b line column text moded bad = source_type_errors_are_final m.source b.tries line column text moded
    bad
