use Rattle.std.proofs.Common.{length, sym, subst, ◌+◌}
use Rattle.sx_term.proofs.Cores.{Grows-trans}
use Rattle.sx_grammar.specs.Parts.{numbered}
use Rattle.sx_grammar.specs.Tables.{literals_of}
use Rattle.sx_notation.proofs.Placing.{Progress, puttable_at, within_lexeme, within_part, past_literal, past_lexeme, past_part, to_end}
use Rattle.sx_notation.proofs.walk.put_places.Goals as goal
use Rattle.sx_notation.proofs.walk.put_places.Goals.{in-Lit+in_ok-put_literal-in-Lit, in-Lex+in_ok-put_content-in-Lex, in-Part+in_ok-put_content-in-Part}

pub put_content-requires : goal.put_content-requires
put_content-requires c =
    let within = within_lexeme (literals_of c.args.grammar.now.parts) (numbered c.args.grammar.now.parts) c.args.vars.now c.args.symbols.now c.args.contents.now _ _ _ _ _ _ c.loop-symbol.invariant c.loop-symbol-test.true c.in-Lex.is in
    puttable_at (numbered c.args.grammar.now.parts) (length c.args.vars.now) c.args.contents.now c.loop-symbol.next _ c.requires.puttable within c.index-contents-next.is

pub put_content-requires-in-Part : goal.put_content-requires-in-Part
put_content-requires-in-Part c =
    let within = within_part (literals_of c.args.grammar.now.parts) (numbered c.args.grammar.now.parts) c.args.vars.now c.args.symbols.now c.args.contents.now _ _ _ _ _ _ _ c.loop-symbol.invariant c.loop-symbol-test.true c.in-Part.is in
    puttable_at (numbered c.args.grammar.now.parts) (length c.args.vars.now) c.args.contents.now c.loop-symbol.next _ c.requires.puttable within c.index-contents-next-in-Part.is

pub loop-symbol-preserved : goal.loop-symbol-preserved
loop-symbol-preserved c =
    let texts = literals_of c.args.grammar.now.parts in
    let g = numbered c.args.grammar.now.parts in
    let vars = c.args.vars.now in
    let ss = c.args.symbols.now in
    let cs = c.args.contents.now in
    let i = c.loop-symbol.symbol-index in
    let n = c.loop-symbol.next in
    let start = c.args.into.now.items in
    let now = c.loop-symbol.into.items in
    let lt = c.loop-symbol-test.true in
    let before = c.loop-symbol.invariant in
    elim c.match-symbol.branch [
      | in-Lit+in_ok-put_literal-in-Lit w ↦ subst (λ m. Progress texts g vars ss cs (i + 1) m start c.match-symbol.into.items) (sym w.next-is) (subst (λ v. Progress texts g vars ss cs (i + 1) n start v.items) (sym w.into-is)
          (past_literal texts g vars ss cs i n _ _ start now w.put_literal.new.into.items before lt w.in-Lit.is w.in_ok-put_literal-in-Lit.ensures.ok))
      | in-Lex+in_ok-put_content-in-Lex w ↦ subst (λ m. Progress texts g vars ss cs (i + 1) m start c.match-symbol.into.items) (sym w.next-is) (subst (λ v. Progress texts g vars ss cs (i + 1) (n + 1) start v.items) (sym w.into-is)
          (past_lexeme texts g vars ss cs i n _ _ w.index-contents-next.result start now w.put_content.new.into.items before lt w.in-Lex.is w.index-contents-next.is w.in_ok-put_content-in-Lex.ensures.ok))
      | in-Part+in_ok-put_content-in-Part w ↦ subst (λ m. Progress texts g vars ss cs (i + 1) m start c.match-symbol.into.items) (sym w.next-is) (subst (λ v. Progress texts g vars ss cs (i + 1) (n + 1) start v.items) (sym w.into-is)
          (past_part texts g vars ss cs i n _ _ _ w.index-contents-next-in-Part.result start now w.put_content-in-Part.new.into.items before lt w.in-Part.is w.index-contents-next-in-Part.is w.in_ok-put_content-in-Part.ensures.ok))
    ]

pub returns-clause-ok : goal.returns-clause-ok
returns-clause-ok c =
    to_end (literals_of c.args.grammar.now.parts) (numbered c.args.grammar.now.parts) c.args.vars.now c.args.symbols.now c.args.contents.now c.loop-symbol.symbol-index c.loop-symbol.next _ _ c.loop-symbol-test.false c.loop-symbol.invariant

pub returns-in_err-put_literal-in-Lit-clause-appends : goal.returns-in_err-put_literal-in-Lit-clause-appends
returns-in_err-put_literal-in-Lit-clause-appends c = Grows-trans _ _ _ c.loop-symbol.invariant.appends c.put_literal.ensures.appends

pub returns-in_err-put_content-in-Lex-clause-appends : goal.returns-in_err-put_content-in-Lex-clause-appends
returns-in_err-put_content-in-Lex-clause-appends c = Grows-trans _ _ _ c.loop-symbol.invariant.appends c.put_content.ensures.appends

pub returns-in_err-put_content-in-Part-clause-appends : goal.returns-in_err-put_content-in-Part-clause-appends
returns-in_err-put_content-in-Part-clause-appends c = Grows-trans _ _ _ c.loop-symbol.invariant.appends c.put_content-in-Part.ensures.appends

pub returns-clause-appends : goal.returns-clause-appends
returns-clause-appends c = c.loop-symbol.invariant.appends
