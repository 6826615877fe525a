use Rattle.std.proofs.Common.{rules, arith, ap, sym, refl, subst, map, length, ◌+◌, ◌<◌, ◌^◌, ◌++◌}
use Rattle.sx_term.specs.Term.{tree}
use Rattle.sx_earley.specs.Tokens.{plain_tokens}
use Rattle.sx_forest.specs.declared.reading.Reading.TheViews.{the_lemmas}
use Rattle.sx_forest.specs.Names.{AddsEach, AddsFront}
use Rattle.sx_forest.proofs.Kids.{reading_depth-kid}
use Rattle.sx_forest.proofs.Naming.{each_more, each_one, front_none, on_err, if_ok}
use Rattle.sx_forest.proofs.Terms.{node_made, terms_step, variable_made, lexeme_made, marked_lexeme, marked_variable, kids_marked, marked_step, names_at_node, names_done, names_at_variable, kid_room, next_room, each_step, front_step, front_within}
use Rattle.sx_forest.proofs.stripping.+strip_into.Goals as goal

pub loop-kid-init : goal.loop-kid-init
loop-kid-init t c = record {
  made = λ stems later. ap (map tree) c.in_ok-terms-in-Node.ensures.items;
  marked = kids_marked _ _ _ _ _ _ _ c.in-Node.is c.deref-kid-items.ensures.value c.requires.marked;
  room = subst (λ names. length c.args.vars.now + length names < 2 ^ 32) (names_at_node c.args.tokens.now _ _ _ _ _ _ c.in-Node.is c.deref-kid-items.ensures.value) c.requires.room;
  each = λ new h. h;
  front = λ new h. h;
}

pub strip_into-requires : goal.strip_into-requires
strip_into-requires t c =
    let d = reading_depth-kid _ _ _ _ _ _ _ _ c.in-Node.is c.deref-kid-items.ensures.value c.loop-kid-test.true c.kid-item.is in
    let m = (marked_step _ _ _ _ c.loop-kid-test.true c.kid-item.is c.loop-kid.invariant.marked).0 in
    let r = kid_room c.args.tokens.now c.deref-kid-items.result.now c.loop-kid.kid-index c.kid-item.result (length c.loop-kid.vars) (2 ^ 32) c.loop-kid-test.true c.kid-item.is c.loop-kid.invariant.room in
    (search (rules, the_lemmas), ((let h = c.requires.depth in omega (arith, d, h)), (m, r)))

pub returns-in_err-strip_into-in-Node-clause-err : goal.returns-in_err-strip_into-in-Node-clause-err
returns-in_err-strip_into-in-Node-clause-err t c =
    on_err _ (subst (λ names. AddsFront c.args.vars.now names c.strip_into.new.vars) (sym (names_at_node c.args.tokens.now _ _ _ _ _ _ c.in-Node.is c.deref-kid-items.ensures.value))
    (c.loop-kid.invariant.front c.strip_into.new.vars (front_within c.args.tokens.now _ _ _ _ _ c.loop-kid-test.true c.kid-item.is c.in_err-strip_into-in-Node.ensures.err)))

pub returns-in_err-push-in-Node-clause-err : goal.returns-in_err-push-in-Node-clause-err
returns-in_err-push-in-Node-clause-err t c =
    on_err _ (subst (λ names. AddsFront c.args.vars.now names c.strip_into.new.vars) (sym (names_at_node c.args.tokens.now _ _ _ _ _ _ c.in-Node.is c.deref-kid-items.ensures.value))
    (c.loop-kid.invariant.front c.strip_into.new.vars (front_step c.args.tokens.now _ _ _ _ c.strip_into.new.vars _ c.loop-kid-test.true c.kid-item.is c.in_ok-strip_into-in-Node.ensures.names (front_none _ _ _ refl))))

pub loop-kid-preserved : goal.loop-kid-preserved
loop-kid-preserved t c =
    let grown = each_more _ _ _ c.in_ok-strip_into-in-Node.ensures.names in
    record {
      made = λ stems later. terms_step (plain_tokens stems c.args.tokens.now) c.loop-kid.vars grown.0 c.strip_into.new.vars later _ _ _ _ _ _ c.loop-kid-test.true c.kid-item.is grown.1
          (c.loop-kid.invariant.made stems (grown.0 ++ later)) c.in_ok-push-in-Node.ensures.items (c.in_ok-strip_into-in-Node.ensures.term stems later);
      marked = (marked_step _ _ _ _ c.loop-kid-test.true c.kid-item.is c.loop-kid.invariant.marked).1;
      room = next_room c.args.tokens.now _ _ _ c.loop-kid.vars c.strip_into.new.vars (2 ^ 32) c.loop-kid-test.true c.kid-item.is c.in_ok-strip_into-in-Node.ensures.names c.loop-kid.invariant.room;
      each = λ new h. c.loop-kid.invariant.each new (each_step c.args.tokens.now _ _ _ _ c.strip_into.new.vars new c.loop-kid-test.true c.kid-item.is c.in_ok-strip_into-in-Node.ensures.names h);
      front = λ new h. c.loop-kid.invariant.front new (front_step c.args.tokens.now _ _ _ _ c.strip_into.new.vars new c.loop-kid-test.true c.kid-item.is c.in_ok-strip_into-in-Node.ensures.names h);
    }

pub bounds-tokens-token : goal.bounds-tokens-token
bounds-tokens-token t c = (marked_lexeme c.args.tokens.now _ _ c.in-Lex.is c.requires.marked).0

pub lexeme-requires : goal.lexeme-requires
lexeme-requires t c = (marked_lexeme c.args.tokens.now _ _ c.in-Lex.is c.requires.marked).1 _ c.index-tokens-token.is

pub bounds-tokens-token-in-Var : goal.bounds-tokens-token-in-Var
bounds-tokens-token-in-Var t c = marked_variable c.args.tokens.now _ _ c.in-Var.is c.requires.marked

pub returns-after-loop-kid-clause-term : goal.returns-after-loop-kid-clause-term
returns-after-loop-kid-clause-term t c stems later =
    node_made (plain_tokens stems c.args.tokens.now) (c.loop-kid.vars ++ later) _ _ _ _ _ _ c.loop-kid.terms _ c.in-Node.is c.deref-kid-items.ensures.value (c.loop-kid.invariant.made stems later) c.loop-kid-test.false

pub returns-after-loop-kid-clause-names : goal.returns-after-loop-kid-clause-names
returns-after-loop-kid-clause-names t c =
    subst (λ names. AddsEach c.args.vars.now names c.loop-kid.vars) (sym (names_at_node c.args.tokens.now _ _ _ _ _ _ c.in-Node.is c.deref-kid-items.ensures.value))
    (c.loop-kid.invariant.each c.loop-kid.vars (subst (λ names. AddsEach c.loop-kid.vars names c.loop-kid.vars) (sym (names_done c.args.tokens.now _ _ c.loop-kid-test.false)) refl))

pub returns-in-Lex-clause-term : goal.returns-in-Lex-clause-term
returns-in-Lex-clause-term t c =
    let there = marked_lexeme c.args.tokens.now _ _ c.in-Lex.is c.requires.marked in
    let kind = there.1 _ c.index-tokens-token.is in
    if_ok c.lexeme.result (λ made h stems later. lexeme_made stems c.args.tokens.now _ _ _ _ (c.args.vars.now ++ later) kind.0 c.in-Lex.is there.0 c.index-tokens-token.is kind.1 (h kind.0 kind.1)) c.lexeme.ensures

pub returns-in-Var-clause-term : goal.returns-in-Var-clause-term
returns-in-Var-clause-term t c =
    let there = marked_variable c.args.tokens.now _ _ c.in-Var.is c.requires.marked in
    if_ok c.variable.result (λ made h stems later. variable_made stems c.args.tokens.now _ _ _ _ c.variable.new.vars later h.0 c.in-Var.is there c.index-tokens-token-in-Var.is h.3 h.2.numbered h.1) c.variable.ensures.ok

pub returns-in-Var-clause-names : goal.returns-in-Var-clause-names
returns-in-Var-clause-names t c =
    let there = marked_variable c.args.tokens.now _ _ c.in-Var.is c.requires.marked in
    let names = names_at_variable c.args.tokens.now _ _ _ c.in-Var.is there c.index-tokens-token-in-Var.is in
    if_ok c.variable.result (λ made h. subst (λ names. AddsEach c.args.vars.now names c.variable.new.vars) (sym names) (each_one _ _ _ h.0 h.2)) c.variable.ensures.ok
