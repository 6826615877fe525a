use Rattle.std.proofs.Common.{◌≡◌, ℕ, Some, rules, arith, length, sym, subst, ◌+◌}
use Rattle.std.specs.Prelude.{slice_get}
use Rattle.std.proofs.lemmas.Result.{on_ok_weaker}
use Rattle.sx_term.specs.declared.term.Term.TheViews.{the_lemmas}
use Rattle.sx_term.proofs.Cores.{Grows-trans}
use Rattle.sx_term.proofs.Kids.{tree-at_node, greatest_depth-kids, greatest_depth-at}
use Rattle.sx_grammar.specs.Numbered.{production}
use Rattle.sx_grammar.specs.Parts.{numbered}
use Rattle.sx_grammar.specs.Tables.{literals_of}
use Rattle.sx_print.proofs.Walking.{production_here, label_within, kids_are_built, row_below, pair_within, lexeme_adds, variable_adds, node_plain, node_bracketed, kid_is_built, Progress, no_progress, kid_of_lexeme, kid_of_part, past_literal, past_lexeme, past_part, leads_to_end}
use Rattle.sx_print.proofs.walk.+put.Goals as goal
use Rattle.sx_print.proofs.walk.+put.Goals.{put_symbols-in-Lit+in_ok-put_literal-in-Lit, put_symbols-in-Lex+in_ok-put_term-in-Lex, put_symbols-in-Part+in_ok-put_term-in-Part, put_term-After-index-productions-label}

-- the production at the label of the node
here : (t : ℕ) (c : put_term-After-index-productions-label t) → slice_get (numbered c.args.grammar.now.parts).productions c.in-Node.label ≡ Some (production (literals_of c.args.grammar.now.parts) c.index-productions-label.result)
here t c = production_here c.args.grammar.now.parts c.productions.result.now c.in-Node.label (length c.args.vars.now) c.index-productions-label.result _ _ c.productions.ensures.same (tree-at_node _ _ _ c.in-Node.is) c.requires.built c.index-productions-label.is

pub put_term-put_symbols-requires : goal.put_term-put_symbols-requires
put_term-put_symbols-requires t c =
    let is = tree-at_node _ _ _ c.in-Node.is in
    let deep = greatest_depth-kids _ _ _ _ c.in-Node.is c.deref-in-None.ensures.value in
    let lt = label_within c.args.grammar.now.parts c.productions.result.now c.in-Node.label (length c.args.vars.now) _ _ c.productions.ensures.same is c.requires.built in
    let low = row_below _ c.productions.result.now c.in-Node.label c.index-productions-label.result _ c.productions.ensures.below lt c.index-productions-label.is c.deref.ensures.value in
    let both = kids_are_built c.args.grammar.now.parts c.in-Node.label (length c.args.vars.now) c.index-productions-label.result _ _ _ _ c.in-Node.is (here t (goal.at.put_term-put_symbols-requires t c).After-index-productions-label) c.deref.ensures.value c.deref-in-None.ensures.value c.requires.built in
    (search (rules, the_lemmas), ((let d = c.requires.depth in omega (arith, deep, d)), (low, (both.0, both.1))))

pub put_term-put_literal-requires : goal.put_term-put_literal-requires
put_term-put_literal-requires t c = (pair_within (literals_of c.args.grammar.now.parts) _ _ _ c.in-Some.ensures).0

pub put_term-put_symbols-requires-in-Some : goal.put_term-put_symbols-requires-in-Some
put_term-put_symbols-requires-in-Some t c =
    let is = tree-at_node _ _ _ c.in-Node.is in
    let deep = greatest_depth-kids _ _ _ _ c.in-Node.is c.deref-in-Some-2.ensures.value in
    let lt = label_within c.args.grammar.now.parts c.productions.result.now c.in-Node.label (length c.args.vars.now) _ _ c.productions.ensures.same is c.requires.built in
    let low = row_below _ c.productions.result.now c.in-Node.label c.index-productions-label.result _ c.productions.ensures.below lt c.index-productions-label.is c.deref-in-Some.ensures.value in
    let both = kids_are_built c.args.grammar.now.parts c.in-Node.label (length c.args.vars.now) c.index-productions-label.result _ _ _ _ c.in-Node.is (here t (goal.at.put_term-put_symbols-requires-in-Some t c).After-index-productions-label) c.deref-in-Some.ensures.value c.deref-in-Some-2.ensures.value c.requires.built in
    (search (rules, the_lemmas), ((let d = c.requires.depth in omega (arith, deep, d)), (low, (both.0, both.1))))

pub put_term-put_literal-requires-in-Some : goal.put_term-put_literal-requires-in-Some
put_term-put_literal-requires-in-Some t c = (pair_within (literals_of c.args.grammar.now.parts) _ _ _ c.in-Some.ensures).1

pub put_term-returns-in-None-clause-ok : goal.put_term-returns-in-None-clause-ok
put_term-returns-in-None-clause-ok t c =
    on_ok_weaker c.put_symbols.result
    (λ adds. node_plain c.args.grammar.now.parts c.args.vars.now c.args.term.now c.in-Node.label c.in-Node.kids c.index-productions-label.result c.args.least _ _ _ _ c.in-Node.is (here t (goal.at.put_term-returns-in-None-clause-ok t c).After-index-productions-label) c.deref.ensures.value c.deref-in-None.ensures.value c.in-None.ensures adds)
    c.put_symbols.ensures.ok

pub put_term-returns-in_ok-put_symbols-in-Some-clause-ok : goal.put_term-returns-in_ok-put_symbols-in-Some-clause-ok
put_term-returns-in_ok-put_symbols-in-Some-clause-ok t c =
    on_ok_weaker c.put_literal-in-Some.result
    (λ last. node_bracketed c.args.grammar.now.parts c.args.vars.now c.args.term.now c.in-Node.label c.in-Node.kids c.index-productions-label.result c.args.least _ _ c.in-Some.opening c.in-Some.closing _ _ _ _ c.in-Node.is (here t (goal.at.put_term-returns-in_ok-put_symbols-in-Some-clause-ok t c).After-index-productions-label) c.deref-in-Some.ensures.value c.deref-in-Some-2.ensures.value c.in-Some.ensures
    c.in_ok-put_literal-in-Some.ensures.ok c.in_ok-put_symbols-in-Some.ensures.ok last)
    c.put_literal-in-Some.ensures.ok

pub put_term-returns-in-Lex-clause-ok : goal.put_term-returns-in-Lex-clause-ok
put_term-returns-in-Lex-clause-ok t c =
    on_ok_weaker c.put_token.result (λ adds. lexeme_adds (numbered c.args.grammar.now.parts) c.args.vars.now c.args.term.now c.in-Lex.kind c.in-Lex.text c.args.least _ _ c.in-Lex.is adds) c.put_token.ensures.ok

pub put_term-returns-in-Var-clause-ok : goal.put_term-returns-in-Var-clause-ok
put_term-returns-in-Var-clause-ok t c =
    on_ok_weaker c.put_variable.result (λ adds. variable_adds (numbered c.args.grammar.now.parts) c.args.vars.now c.args.term.now c.in-Var.variable c.args.least _ _ c.in-Var.is adds) c.put_variable.ensures.ok

pub put_symbols-loop-symbol-init : goal.put_symbols-loop-symbol-init
put_symbols-loop-symbol-init t c = no_progress c.args.grammar.now.parts c.args.vars.now c.args.symbols.now c.args.kids.now c.args.into.now.items c.requires.many

pub put_symbols-put_term-requires : goal.put_symbols-put_term-requires
put_symbols-put_term-requires t c =
    let within = kid_of_lexeme c.args.grammar.now.parts c.args.vars.now c.args.symbols.now c.args.kids.now _ _ _ _ _ _ c.loop-symbol.invariant c.loop-symbol-test.true c.in-Lex.is in
    let deep = greatest_depth-at c.args.kids.now _ _ within c.index-kids-next.is in
    let built = kid_is_built (numbered c.args.grammar.now.parts) (length c.args.vars.now) c.args.kids.now _ _ c.requires.built within c.index-kids-next.is in
    (search (rules, the_lemmas), ((let d = c.requires.depth in omega (arith, deep, d)), built))

pub put_symbols-put_term-requires-in-Part : goal.put_symbols-put_term-requires-in-Part
put_symbols-put_term-requires-in-Part t c =
    let within = kid_of_part c.args.grammar.now.parts c.args.vars.now c.args.symbols.now c.args.kids.now _ _ _ _ _ _ _ c.loop-symbol.invariant c.loop-symbol-test.true c.in-Part.is in
    let deep = greatest_depth-at c.args.kids.now _ _ within c.index-kids-next-in-Part.is in
    let built = kid_is_built (numbered c.args.grammar.now.parts) (length c.args.vars.now) c.args.kids.now _ _ c.requires.built within c.index-kids-next-in-Part.is in
    (search (rules, the_lemmas), ((let d = c.requires.depth in omega (arith, deep, d)), built))

pub put_symbols-loop-symbol-preserved : goal.put_symbols-loop-symbol-preserved
put_symbols-loop-symbol-preserved t c =
    let p = c.args.grammar.now.parts in
    let vars = c.args.vars.now in
    let ss = c.args.symbols.now in
    let ts = c.args.kids.now in
    let i = c.loop-symbol.symbol-index in
    let n = c.loop-symbol.next in
    let start = c.args.into.now.items in
    let now = c.loop-symbol.into.items in
    let lt = c.loop-symbol-test.true in
    let before = c.loop-symbol.invariant in
    elim c.match-symbol.branch [
      | put_symbols-in-Lit+in_ok-put_literal-in-Lit w ↦ subst (λ m. Progress p vars ss ts (i + 1) m start c.match-symbol.into.items) (sym w.next-is) (subst (λ v. Progress p vars ss ts (i + 1) n start v.items) (sym w.into-is)
          (past_literal p vars ss ts i n _ _ start now w.put_literal.new.into.items before lt w.in-Lit.is w.in_ok-put_literal-in-Lit.ensures.ok))
      | put_symbols-in-Lex+in_ok-put_term-in-Lex w ↦ subst (λ m. Progress p vars ss ts (i + 1) m start c.match-symbol.into.items) (sym w.next-is) (subst (λ v. Progress p vars ss ts (i + 1) (n + 1) start v.items) (sym w.into-is)
          (past_lexeme p vars ss ts i n _ _ w.index-kids-next.result start now w.put_term.new.into.items before lt w.in-Lex.is w.index-kids-next.is w.in_ok-put_term-in-Lex.ensures.ok))
      | put_symbols-in-Part+in_ok-put_term-in-Part w ↦ subst (λ m. Progress p vars ss ts (i + 1) m start c.match-symbol.into.items) (sym w.next-is) (subst (λ v. Progress p vars ss ts (i + 1) (n + 1) start v.items) (sym w.into-is)
          (past_part p vars ss ts i n _ _ _ w.index-kids-next-in-Part.result start now w.put_term-in-Part.new.into.items before lt w.in-Part.is w.index-kids-next-in-Part.is w.in_ok-put_term-in-Part.ensures.ok))
    ]

pub put_symbols-returns-clause-ok : goal.put_symbols-returns-clause-ok
put_symbols-returns-clause-ok t c =
    leads_to_end c.args.grammar.now.parts c.args.vars.now c.args.symbols.now c.args.kids.now c.loop-symbol.symbol-index c.loop-symbol.next _ _ c.loop-symbol-test.false c.loop-symbol.invariant.leads

pub put_term-returns-in-None-clause-appends : goal.put_term-returns-in-None-clause-appends
put_term-returns-in-None-clause-appends t c = c.put_symbols.ensures.appends

pub put_term-returns-in_err-put_literal-in-Some-clause-appends : goal.put_term-returns-in_err-put_literal-in-Some-clause-appends
put_term-returns-in_err-put_literal-in-Some-clause-appends t c = c.put_literal.ensures.appends

pub put_term-returns-in_err-put_symbols-in-Some-clause-appends : goal.put_term-returns-in_err-put_symbols-in-Some-clause-appends
put_term-returns-in_err-put_symbols-in-Some-clause-appends t c = Grows-trans _ _ _ c.put_literal.ensures.appends c.put_symbols-in-Some.ensures.appends

pub put_term-returns-in_ok-put_symbols-in-Some-clause-appends : goal.put_term-returns-in_ok-put_symbols-in-Some-clause-appends
put_term-returns-in_ok-put_symbols-in-Some-clause-appends t c = Grows-trans _ _ _ (Grows-trans _ _ _ c.put_literal.ensures.appends c.put_symbols-in-Some.ensures.appends) c.put_literal-in-Some.ensures.appends

pub put_term-returns-in-Lex-clause-appends : goal.put_term-returns-in-Lex-clause-appends
put_term-returns-in-Lex-clause-appends t c = c.put_token.ensures.appends

pub put_term-returns-in-Var-clause-appends : goal.put_term-returns-in-Var-clause-appends
put_term-returns-in-Var-clause-appends t c = c.put_variable.ensures.appends

pub put_symbols-returns-in_err-put_literal-in-Lit-clause-appends : goal.put_symbols-returns-in_err-put_literal-in-Lit-clause-appends
put_symbols-returns-in_err-put_literal-in-Lit-clause-appends t c = Grows-trans _ _ _ c.loop-symbol.invariant.appends c.put_literal.ensures.appends

pub put_symbols-returns-in_err-put_term-in-Lex-clause-appends : goal.put_symbols-returns-in_err-put_term-in-Lex-clause-appends
put_symbols-returns-in_err-put_term-in-Lex-clause-appends t c = Grows-trans _ _ _ c.loop-symbol.invariant.appends c.put_term.ensures.appends

pub put_symbols-returns-in_err-put_term-in-Part-clause-appends : goal.put_symbols-returns-in_err-put_term-in-Part-clause-appends
put_symbols-returns-in_err-put_term-in-Part-clause-appends t c = Grows-trans _ _ _ c.loop-symbol.invariant.appends c.put_term-in-Part.ensures.appends

pub put_symbols-returns-clause-appends : goal.put_symbols-returns-clause-appends
put_symbols-returns-clause-appends t c = c.loop-symbol.invariant.appends
