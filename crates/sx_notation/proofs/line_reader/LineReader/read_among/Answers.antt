use Rattle.std.proofs.Common.{◌+◌, ◌<◌, ◌^◌, ℕ, List, [], length, sym, subst}
use Rattle.sx_term.specs.Term.{tree}
use Rattle.sx_grammar.specs.Parts.{numbered}
use Rattle.sx_grammar.specs.ReadOne.{IsAnswer, only}
use Rattle.sx_earley.specs.Completed.{sort_number}
use Rattle.sx_earley.specs.Tokens.{plain_tokens}
use Rattle.sx_forest.specs.Names.{reading_names}
use Rattle.sx_forest.specs.Readings.{plain_reading}
use Rattle.sx_notation.specs.ReadAmong.{IsNamedCut, IsRefusedAmong}
use Rattle.sx_notation.proofs.TextReading.{err_if, answer_at, is_marked, has_room}
use Rattle.sx_notation.proofs.AmongNames.{is_read_among, unread_among}
use Rattle.sx_notation.proofs.line_reader.LineReader.read_among.Goals as goal
use Rattle.sx_notation.proofs.line_reader.LineReader.read_among.Goals.{After-deref-2}

-- the line is cut into the tokens that are stripped
cut_at : (c : After-deref-2)
    → IsNamedCut c.args.self.now.parts c.args.self.now.stems c.args.names.now c.args.line.now c.deref-2.result.now
cut_at c =
    subst (IsNamedCut c.args.self.now.parts c.args.self.now.stems c.args.names.now c.args.line.now)
    (sym c.deref-2.ensures.value) c.in_ok-tokens.ensures.named

-- the reading is the only one of the tokens that are stripped
only_reading : (c : After-deref-2)
    → IsAnswer (numbered c.args.self.now.parts) (plain_tokens c.args.self.now.stems c.deref-2.result.now) (sort_number c.args.sort) (only (plain_reading c.in_ok-reading.reading))
only_reading c =
    answer_at c.args.self.now.parts c.args.self.now.stems c.args.sort (plain_reading c.in_ok-reading.reading) c.in_ok-tokens.tokens.items c.deref.result.now c.deref-2.result.now
    c.deref.ensures.value c.deref-2.ensures.value c.in_ok-reading.ensures.only

pub returns-in_err-tokens-clause-refused : goal.returns-in_err-tokens-clause-refused
returns-in_err-tokens-clause-refused c =
    let P = IsRefusedAmong c.args.self.now.parts c.args.self.now.stems c.args.sort c.args.line.now c.args.names.now c.args.number in
    err_if c.from_residual-in_err-tokens.result _ P c.from_residual-in_err-tokens.ensures.1 (λ e is. subst P (sym is) (c.in_err-tokens.ensures.refused c.args.sort))

pub returns-in_err-reading-clause-refused : goal.returns-in_err-reading-clause-refused
returns-in_err-reading-clause-refused c =
    let p = c.args.self.now.parts in
    let stems = c.args.self.now.stems in
    let line = c.args.line.now in
    let ts = c.deref.result.now in
    let P = IsRefusedAmong p stems c.args.sort line c.args.names.now c.args.number in
    let cut = subst (IsNamedCut p stems c.args.names.now line) (sym c.deref.ensures.value) c.in_ok-tokens.ensures.named in
    err_if c.from_residual-in_err-reading.result _ P c.from_residual-in_err-reading.ensures.1 (λ e is. subst P (sym is)
    (unread_among p stems c.args.sort line c.args.names.now c.args.number ts cut _ c.in_err-reading.ensures.refused))

pub strip-requires-clause-marked : goal.strip-requires-clause-marked
strip-requires-clause-marked c =
    let p = c.args.self.now.parts in
    let stems = c.args.self.now.stems in
    let line = c.args.line.now in
    let ts = c.deref-2.result.now in
    let r = plain_reading c.in_ok-reading.reading in
    let w = (goal.at.strip-requires-clause-marked c).After-deref-2 in
    let cut = cut_at w in
    let answer = only_reading w in
    is_marked p stems line ts cut.0 c.args.sort r answer

pub strip-requires-clause-room : goal.strip-requires-clause-room
strip-requires-clause-room c =
    let p = c.args.self.now.parts in
    let stems = c.args.self.now.stems in
    let line = c.args.line.now in
    let ts = c.deref-2.result.now in
    let r = plain_reading c.in_ok-reading.reading in
    let w = (goal.at.strip-requires-clause-room c).After-deref-2 in
    let cut = cut_at w in
    let answer = only_reading w in
    subst (λ (names : List (List ℕ)). length names + length (reading_names ts r) < 2 ^ 32) (sym c.in_ok-tokens.ensures.same) (has_room p stems line ts cut.0 c.args.sort r answer c.args.names.now c.requires.room)

pub returns-clause-read : goal.returns-clause-read
returns-clause-read c =
    let p = c.args.self.now.parts in
    let stems = c.args.self.now.stems in
    let line = c.args.line.now in
    let ts = c.deref-2.result.now in
    let r = plain_reading c.in_ok-reading.reading in
    let w = (goal.at.returns-clause-read c).After-deref-2 in
    let cut = cut_at w in
    let answer = only_reading w in
    is_read_among p stems line c.args.names.now ts cut c.args.sort r answer
    c.named_tokens.new.copy c.strip.new.vars c.in_ok-tokens.ensures.same c.in_ok-term.ensures.names (tree c.in_ok-term.term) (c.in_ok-term.ensures.term stems [])
