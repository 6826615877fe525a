use Rattle.std.proofs.Common.{refl, sym, ap, ◌∙◌, ◌≡◌, length, ◌<◌, arith, true}
use Rattle.std.proofs.lemmas.Bool.{false≢true}
use Rattle.std.proofs.lemmas.List.{length-map}
use Rattle.std.proofs.lemmas.Option.{slice_get_read}
use Rattle.sx_grammar.specs.Parts.{parts, line}
use Rattle.sx_grammar.specs.Levels.{mixes}
use Rattle.sx_grammar.specs.Made.{MixesSorts}
use Rattle.sx_grammar.proofs.FirstLaws.{none_more, none_all, first_here}
use Rattle.sx_grammar.proofs.TableLaws.{numbered_length}
use Rattle.sx_grammar.proofs.MixedLaws.{mixes_is, line_at}
use Rattle.sx_grammar.proofs.mixing.keeps_sorts.Goals as goal

pub returns-then-mixes-clause-refused : goal.returns-then-mixes-clause-refused
returns-then-mixes-clause-refused c =
    let p = parts c.args.from.now in
    let r = c.index-named.result.now in
    let q = c.index-productions-i.result in
    let lt : c.loop-i.i < length c.args.from.now.productions.items = omega (arith, c.loop-i-test.true, c.len-i-end.ensures) in
    let here = line_at c.args.from.now.productions.items c.loop-i.i r lt c.index-named.ensures in
    let within : c.loop-i.i < length c.args.productions.now = omega (arith, lt, numbered_length p c.args.productions.now c.requires.numbered, length-map c.args.from.now.productions.items line) in
    let at = slice_get_read c.args.productions.now (length c.args.productions.now) c.loop-i.i q refl within c.index-productions-i.is in
    let is = mixes_is p c.args.productions.now c.loop-i.i q (line r) c.requires.labels.0 c.requires.numbered at here in
    let test : mixes p.sorts q ≡ true = ap (λ ss. mixes ss q) (sym c.deref.ensures.value) ∙ sym c.mixes.ensures ∙ c.if-mixes.true in
    (c.requires.labels, (line r, first_here (MixesSorts p) p.productions c.loop-i.i (line r) here c.loop-i.invariant (is.0 test), sym c.in_ok-copy.ensures))

pub loop-i-preserved : goal.loop-i-preserved
loop-i-preserved c =
    let p = parts c.args.from.now in
    let r = c.index-named.result.now in
    let q = c.index-productions-i.result in
    let lt : c.loop-i.i < length c.args.from.now.productions.items = omega (arith, c.loop-i-test.true, c.len-i-end.ensures) in
    let here = line_at c.args.from.now.productions.items c.loop-i.i r lt c.index-named.ensures in
    let within : c.loop-i.i < length c.args.productions.now = omega (arith, lt, numbered_length p c.args.productions.now c.requires.numbered, length-map c.args.from.now.productions.items line) in
    let at = slice_get_read c.args.productions.now (length c.args.productions.now) c.loop-i.i q refl within c.index-productions-i.is in
    let is = mixes_is p c.args.productions.now c.loop-i.i q (line r) c.requires.labels.0 c.requires.numbered at here in
    none_more (MixesSorts p) p.productions c.loop-i.i (line r) here c.loop-i.invariant
    (λ mixed. false≢true (sym c.if-mixes.false ∙ c.mixes.ensures ∙ ap (λ ss. mixes ss q) c.deref.ensures.value ∙ is.1 mixed))

pub returns-clause-good : goal.returns-clause-good
returns-clause-good c =
    let p = parts c.args.from.now in
    (c.requires.labels, none_all (MixesSorts p) p.productions c.loop-i.i (omega (arith, c.loop-i-test.false, c.len-i-end.ensures, length-map c.args.from.now.productions.items line)) c.loop-i.invariant)
