use Rattle.std.proofs.Common.{◌≡◌, List, [], ◌++◌, length, sym, subst, ap, arith}
use Rattle.sx_term.specs.Term.{tree}
use Rattle.sx_token.specs.declared.token.Token.{Token}
use Rattle.sx_grammar.specs.Grammar.{Text}
use Rattle.sx_grammar.specs.Parts.{numbered}
use Rattle.sx_grammar.specs.ReadOne.{IsAnswer, only}
use Rattle.sx_grammar.specs.Print.{term_of}
use Rattle.sx_earley.specs.Tokens.{plain_tokens}
use Rattle.sx_earley.specs.Completed.{sort_number}
use Rattle.sx_forest.specs.Names.{IsMarked, reading_names, AddsEach}
use Rattle.sx_forest.specs.Readings.{plain_reading}
use Rattle.sx_notation.proofs.TextReading.{err_if}
use Rattle.sx_typing.specs.Unread.{IsUnreadText}
use Rattle.sx_typing.proofs.Bodies.{is_marked, has_no_names, reads_as}
use Rattle.sx_typing.proofs.text_reading.read_body_text.Goals as goal
use Rattle.sx_typing.proofs.text_reading.read_body_text.Goals.{In-Ok}

-- the reading is the only one of the tokens
only_reading : (c : In-Ok) → IsAnswer (numbered c.args.grammar.now.parts)
    (plain_tokens [] c.in_ok-tokens.tokens.items) (sort_number c.args.sort)
    (only (plain_reading c.in-Ok.reading))
only_reading c =
    subst (λ (l : List Token). IsAnswer (numbered c.args.grammar.now.parts) (plain_tokens [] l)
    (sort_number c.args.sort) (only (plain_reading c.in-Ok.reading)))
    c.deref.ensures.value c.in-Ok.ensures.only

pub returns-in_err-tokens-clause-refused : goal.returns-in_err-tokens-clause-refused
returns-in_err-tokens-clause-refused c =
    let P = IsUnreadText c.args.grammar.now.parts c.args.sort c.args.text.now in
    err_if c.from_residual.result _ P c.from_residual.ensures.1
    (λ e is. subst P (sym is) (c.in_err-tokens.ensures.refused c.args.sort))

pub strip-requires-clause-marked : goal.strip-requires-clause-marked
strip-requires-clause-marked c =
    let p = c.args.grammar.now.parts in
    let r = plain_reading c.in-Ok.reading in
    let ts = c.in_ok-tokens.tokens.items in
    let answer = only_reading (goal.at.strip-requires-clause-marked c).In-Ok in
    subst (λ (l : List Token). IsMarked l r) (sym c.deref-2.ensures.value)
    (is_marked p c.args.text.now ts c.in_ok-tokens.ensures.cut c.args.sort r answer)

pub strip-requires-clause-room : goal.strip-requires-clause-room
strip-requires-clause-room c =
    let p = c.args.grammar.now.parts in
    let r = plain_reading c.in-Ok.reading in
    let ts = c.in_ok-tokens.tokens.items in
    let answer = only_reading (goal.at.strip-requires-clause-room c).In-Ok in
    let none : length (reading_names ts r) ≡ 0 =
    ap length (has_no_names p c.args.text.now ts c.in_ok-tokens.ensures.cut c.args.sort r
    answer) in
    let here : length (reading_names c.deref-2.result.now r) ≡ 0 =
    subst (λ (l : List Token). length (reading_names l r) ≡ 0) (sym c.deref-2.ensures.value) none in
    let new : length c.new-names.result ≡ 0 = ap length c.new-names.ensures in
    omega (arith, here, new)

pub returns-in-Ok-strip-clause-read : goal.returns-in-Ok-strip-clause-read
returns-in-Ok-strip-clause-read c =
    let p = c.args.grammar.now.parts in
    let r = plain_reading c.in-Ok.reading in
    let ts = c.in_ok-tokens.tokens.items in
    let answer = only_reading (goal.at.returns-in-Ok-strip-clause-read c).In-Ok in
    let names = subst (λ (l : List Token). AddsEach c.new-names.result (reading_names l r)
    c.strip.new.vars) c.deref-2.ensures.value c.in-Ok-strip.ensures.names in
    let fresh = subst (λ (l : List Text). AddsEach l (reading_names ts r) c.strip.new.vars)
    c.new-names.ensures names in
    reads_as p c.args.text.now ts c.in_ok-tokens.ensures.cut c.args.sort r answer c.strip.new.vars
    (tree c.in-Ok-strip.term) fresh
    (subst (λ (l : List Token). tree c.in-Ok-strip.term ≡ term_of (plain_tokens [] l)
    (c.strip.new.vars ++ []) r) c.deref-2.ensures.value (c.in-Ok-strip.ensures.term [] []))
