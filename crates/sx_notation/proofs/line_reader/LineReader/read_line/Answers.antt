use Rattle.std.proofs.Common.{[], sym, subst}
use Rattle.sx_term.specs.Term.{tree}
use Rattle.sx_grammar.specs.Parts.{numbered}
use Rattle.sx_grammar.specs.ReadOne.{IsAnswer, only}
use Rattle.sx_earley.specs.Completed.{sort_number}
use Rattle.sx_earley.specs.Tokens.{plain_tokens}
use Rattle.sx_forest.specs.Readings.{plain_reading}
use Rattle.sx_notation.specs.ReadText.{IsKnownCut, IsTextRefused}
use Rattle.sx_notation.proofs.TextReading.{err_if, uncut_refused, known_at, answer_at, is_marked, has_room, grown, is_read}
use Rattle.sx_notation.proofs.line_reader.LineReader.read_line.Goals as goal
use Rattle.sx_notation.proofs.line_reader.LineReader.read_line.Goals.{After-deref-2}

-- the line is cut into the tokens that are stripped
cut_at : (c : After-deref-2)
    → IsKnownCut c.args.self.now.parts c.args.self.now.stems c.args.line.now c.deref-2.result.now
cut_at c =
    known_at c.args.self.now.parts c.args.self.now.stems c.args.line.now c.in_ok-tokens.tokens.items c.deref-2.result.now
    c.deref-2.ensures.value c.in_ok-tokens.ensures.known

-- the reading is the only one of the tokens that are stripped
only_reading : (c : After-deref-2)
    → IsAnswer (numbered c.args.self.now.parts) (plain_tokens c.args.self.now.stems c.deref-2.result.now) (sort_number c.args.sort) (only (plain_reading c.in_ok-reading.reading))
only_reading c =
    answer_at c.args.self.now.parts c.args.self.now.stems c.args.sort (plain_reading c.in_ok-reading.reading) c.in_ok-tokens.tokens.items c.deref.result.now c.deref-2.result.now
    c.deref.ensures.value c.deref-2.ensures.value c.in_ok-reading.ensures.only

pub returns-in_err-tokens-clause-refused : goal.returns-in_err-tokens-clause-refused
returns-in_err-tokens-clause-refused c =
    let P = IsTextRefused c.args.self.now.parts c.args.self.now.stems c.args.sort c.args.line.now c.args.number in
    err_if c.from_residual.result _ P c.from_residual.ensures.1 (λ e is. subst P (sym is)
    (uncut_refused c.args.self.now.parts c.args.self.now.stems c.args.sort c.args.line.now c.args.number _ c.in_err-tokens.ensures.refused))

pub strip-requires-clause-marked : goal.strip-requires-clause-marked
strip-requires-clause-marked c =
    let p = c.args.self.now.parts in
    let stems = c.args.self.now.stems in
    let line = c.args.line.now in
    let ts = c.deref-2.result.now in
    let r = plain_reading c.in_ok-reading.reading in
    let w = (goal.at.strip-requires-clause-marked c).After-deref-2 in
    let known = cut_at w in
    let answer = only_reading w in
    is_marked p stems line ts known c.args.sort r answer

pub strip-requires-clause-room : goal.strip-requires-clause-room
strip-requires-clause-room c =
    let p = c.args.self.now.parts in
    let stems = c.args.self.now.stems in
    let line = c.args.line.now in
    let ts = c.deref-2.result.now in
    let r = plain_reading c.in_ok-reading.reading in
    let w = (goal.at.strip-requires-clause-room c).After-deref-2 in
    let known = cut_at w in
    let answer = only_reading w in
    has_room p stems line ts known c.args.sort r answer c.args.vars.now c.requires.room

pub returns-clause-read : goal.returns-clause-read
returns-clause-read c =
    let p = c.args.self.now.parts in
    let stems = c.args.self.now.stems in
    let line = c.args.line.now in
    let ts = c.deref-2.result.now in
    let r = plain_reading c.in_ok-reading.reading in
    let w = (goal.at.returns-clause-read c).After-deref-2 in
    let known = cut_at w in
    let answer = only_reading w in
    is_read p stems line ts known c.args.sort r answer
    c.args.vars.now c.strip.new.vars c.in_ok-term.ensures.names (tree c.in_ok-term.term) (c.in_ok-term.ensures.term stems [])

pub returns-clause-grows : goal.returns-clause-grows
returns-clause-grows c =
    let p = c.args.self.now.parts in
    let stems = c.args.self.now.stems in
    let line = c.args.line.now in
    let ts = c.deref-2.result.now in
    let r = plain_reading c.in_ok-reading.reading in
    let w = (goal.at.returns-clause-grows c).After-deref-2 in
    let known = cut_at w in
    let answer = only_reading w in
    grown p stems line ts known c.args.sort r answer c.args.vars.now c.strip.new.vars c.in_ok-term.ensures.names
