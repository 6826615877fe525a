use Rattle.std.proofs.Common.{rules, sym, subst, ◌+◌}
use Rattle.sx_term.specs.declared.term.Term.TheViews.{the_lemmas}
use Rattle.sx_term.proofs.Kids.{tree-at_node, greatest_depth-kids, greatest_depth-at}
use Rattle.sx_grammar.specs.Parts.{numbered}
use Rattle.sx_print.proofs.Walking.{production_here, kids_are_built, kid_is_built}
use Rattle.sx_unit.proofs.Counted.{node_counts, Counted, kid_of_lexeme, kid_of_part, past_literal}
use Rattle.sx_unit.proofs.Counted.{past_lexeme, past_part}
use Rattle.sx_unit.proofs.counting.+count.Goals as goal
use Rattle.sx_unit.proofs.counting.+count.Goals.{count_symbols-in-Lit, count_symbols-in-Lex}
use Rattle.sx_unit.proofs.counting.+count.Goals.{count_symbols-in-Part}

pub count_at-count_symbols-requires : goal.count_at-count_symbols-requires
count_at-count_symbols-requires t c =
    let is = tree-at_node _ _ _ c.in-Node.is in
    let here = production_here c.args.grammar.now.parts c.productions.result.now c.in-Node.label 0
    c.index-productions-label.result _ _ c.productions.ensures.same is c.requires.built
    c.index-productions-label.is in
    let deep = greatest_depth-kids _ _ _ _ c.in-Node.is c.deref-in-Node.ensures.value in
    let both = kids_are_built c.args.grammar.now.parts c.in-Node.label 0
    c.index-productions-label.result _ _ _ _ c.in-Node.is here c.deref.ensures.value
    c.deref-in-Node.ensures.value c.requires.built in
    let many = both.0 in
    let built = both.1 in
    search (rules, the_lemmas)

pub count_at-returns-in-Node : goal.count_at-returns-in-Node
count_at-returns-in-Node t c =
    let is = tree-at_node _ _ _ c.in-Node.is in
    let here = production_here c.args.grammar.now.parts c.productions.result.now c.in-Node.label 0
    c.index-productions-label.result _ _ c.productions.ensures.same is c.requires.built
    c.index-productions-label.is in
    node_counts c.args.grammar.now.parts c.args.term.now c.in-Node.label c.in-Node.kids
    c.index-productions-label.result c.args.least _ _ _ _ _ c.in-Node.is here
    c.deref.ensures.value c.deref-in-Node.ensures.value
    c.count_brackets-brackets.ensures c.count_symbols.ensures c.saturating_add.ensures

pub count_symbols-count_at-requires : goal.count_symbols-count_at-requires
count_symbols-count_at-requires t c =
    let within = kid_of_lexeme c.args.grammar.now.parts c.args.symbols.now c.args.kids.now _ _ _ _ _
    c.loop-symbol.invariant c.loop-symbol-test.true c.in-Lex.is in
    let deep = greatest_depth-at c.args.kids.now _ _ within c.index-kids-next.is in
    let built = kid_is_built (numbered c.args.grammar.now.parts) 0 c.args.kids.now _ _
    c.requires.built within c.index-kids-next.is in
    search (rules, the_lemmas)

pub count_symbols-count_at-requires-in-Part : goal.count_symbols-count_at-requires-in-Part
count_symbols-count_at-requires-in-Part t c =
    let within = kid_of_part c.args.grammar.now.parts c.args.symbols.now c.args.kids.now _ _ _ _ _ _
    c.loop-symbol.invariant c.loop-symbol-test.true c.in-Part.is in
    let deep = greatest_depth-at c.args.kids.now _ _ within c.index-kids-next-in-Part.is in
    let built = kid_is_built (numbered c.args.grammar.now.parts) 0 c.args.kids.now _ _
    c.requires.built within c.index-kids-next-in-Part.is in
    search (rules, the_lemmas)

pub count_symbols-loop-symbol-preserved : goal.count_symbols-loop-symbol-preserved
count_symbols-loop-symbol-preserved t c =
    let p = c.args.grammar.now.parts in
    let ss = c.args.symbols.now in
    let ts = c.args.kids.now in
    let i = c.loop-symbol.symbol-index in
    let n = c.loop-symbol.next in
    let total = c.loop-symbol.total in
    let lt = c.loop-symbol-test.true in
    let before = c.loop-symbol.invariant in
    elim c.match-symbol.branch [
      | count_symbols-in-Lit w ↦ subst (λ m. Counted p ss ts (i + 1) m c.match-symbol.total)
          (sym w.next-is) (subst (λ v. Counted p ss ts (i + 1) n v) (sym w.total-is)
          (past_literal p ss ts i n _ _ total _ before lt w.in-Lit.is
          w.saturating_add-total.ensures))
      | count_symbols-in-Lex w ↦ subst (λ m. Counted p ss ts (i + 1) m c.match-symbol.total)
          (sym w.next-is) (subst (λ v. Counted p ss ts (i + 1) (n + 1) v) (sym w.total-is)
          (past_lexeme p ss ts i n _ _ w.index-kids-next.result total _ _ before lt w.in-Lex.is
          w.index-kids-next.is w.count_at.ensures w.saturating_add-total-in-Lex.ensures))
      | count_symbols-in-Part w ↦ subst (λ m. Counted p ss ts (i + 1) m c.match-symbol.total)
          (sym w.next-is) (subst (λ v. Counted p ss ts (i + 1) (n + 1) v) (sym w.total-is)
          (past_part p ss ts i n _ _ _ w.index-kids-next-in-Part.result total _ _ before lt
          w.in-Part.is w.index-kids-next-in-Part.is w.count_at-in-Part.ensures
          w.saturating_add-total-in-Part.ensures))
    ]
