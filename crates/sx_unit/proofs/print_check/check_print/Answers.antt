use Rattle.std.proofs.Common.{◌<◌, ◌≤◌, length, ap, ◌∙◌, sym, subst}
use Rattle.sx_term.specs.Limits.{most_tokens}
use Rattle.sx_term.specs.Term.{tree}
use Rattle.sx_token.specs.Tokens.{pieces}
use Rattle.sx_notation.proofs.TextReading.{err_if}
use Rattle.sx_typing.specs.Body.{IsCut}
use Rattle.sx_unit.specs.PrintRefused.{IsPrintRefusal}
use Rattle.sx_unit.specs.Texts.{printed}
use Rattle.sx_unit.proofs.Reread.{exact_count, few_enough, many_uncut, print_outcome, print_reads}
use Rattle.sx_unit.proofs.Reread.{reads_only, cut_stems}
use Rattle.sx_unit.proofs.Refusing.{refused}
use Rattle.sx_unit.proofs.print_check.check_print.Goals as goal
use Rattle.sx_unit.proofs.print_check.check_print.Goals.{Else-count-gt-MOST_TOKENS}

-- the term is printed with few enough tokens
few_tokens : (c : Else-count-gt-MOST_TOKENS) →
    length (printed c.args.grammar.now.parts (tree c.args.term.now)) ≤ most_tokens
few_tokens c =
    few_enough c.args.grammar.now.parts (tree c.args.term.now) c.args.shown.now c.requires.text.0
    c.args.size _ c.requires.text.2 c.requires.within c.if-size-gt-MOST_BYTES.false
    c.count_tokens-count.ensures c.if-count-gt-MOST_TOKENS.false

pub returns-then-count-gt-MOST_TOKENS-clause-err : goal.returns-then-count-gt-MOST_TOKENS-clause-err
returns-then-count-gt-MOST_TOKENS-clause-err c =
    let p = c.args.grammar.now.parts in
    let t = tree c.args.term.now in
    let exact = exact_count p t c.args.shown.now c.requires.text.0 c.args.size _ c.requires.text.2
    c.requires.within c.if-size-gt-MOST_BYTES.false c.count_tokens-count.ensures in
    let many = subst (λ n. 10000 < n) exact c.if-count-gt-MOST_TOKENS.true in (
      c.if-size-gt-MOST_BYTES.false,
      c.if-count-gt-MOST_TOKENS.true,
      exact,
      many_uncut p c.args.sort t c.args.shown.now c.requires.text.0 c.facts.ensures.grammar
          c.facts.ensures.brackets c.requires.fits c.requires.lexemes c.requires.text.1
          c.requires.text.2 c.requires.utf8 many,
    )

pub cut_print-requires-clause-cut : goal.cut_print-requires-clause-cut
cut_print-requires-clause-cut c =
    let p = c.args.grammar.now.parts in
    let t = tree c.args.term.now in
    let few = few_tokens (goal.at.cut_print-requires-clause-cut c).Else-count-gt-MOST_TOKENS in
    print_outcome p c.args.sort t c.args.shown.now c.requires.text.0 c.facts.ensures.grammar
    c.facts.ensures.brackets c.requires.fits c.requires.lexemes c.requires.text.1
    c.requires.text.2 c.requires.utf8 few

pub read_print-requires-clause-stems : goal.read_print-requires-clause-stems
read_print-requires-clause-stems c =
    cut_stems c.args.grammar.now.parts c.args.shown.now c.deref.result.now
    (subst (IsCut c.args.grammar.now.parts c.args.shown.now) (sym c.deref.ensures.value)
    c.in_ok-tokens.ensures.cut)

pub read_print-requires-clause-read : goal.read_print-requires-clause-read
read_print-requires-clause-read c =
    let p = c.args.grammar.now.parts in
    let t = tree c.args.term.now in
    let few = few_tokens (goal.at.read_print-requires-clause-read c).Else-count-gt-MOST_TOKENS in
    print_reads p c.args.sort t c.args.shown.now c.requires.text.0 c.facts.ensures.grammar
    c.facts.ensures.brackets c.requires.fits c.requires.lexemes c.requires.text.1
    c.requires.text.2 c.requires.utf8 few c.deref.result.now
    (λ ps is. ap pieces c.deref.ensures.value ∙ c.in_ok-tokens.ensures.only ps is)

pub returns-in_err-read_print-clause-err : goal.returns-in_err-read_print-clause-err
returns-in_err-read_print-clause-err c =
    let p = c.args.grammar.now.parts in
    let P = IsPrintRefusal p c.args.sort c.args.size c.args.shown.now (tree c.args.term.now) in
    err_if c.from_residual-in_err-read_print.result _ P c.from_residual-in_err-read_print.ensures.1
    (λ e is. subst P (sym is)
    (refused p c.args.sort c.args.size c.args.shown.now (tree c.args.term.now) c.deref.result.now _
    c.if-size-gt-MOST_BYTES.false (subst (IsCut p c.args.shown.now) (sym c.deref.ensures.value)
    c.in_ok-tokens.ensures.cut)
    c.in_err-read_print.ensures.refused))

pub returns-clause-good : goal.returns-clause-good
returns-clause-good c =
    let p = c.args.grammar.now.parts in
    let t = tree c.args.term.now in
    let few = few_tokens (goal.at.returns-clause-good c).Else-count-gt-MOST_TOKENS in
    record {
      short = c.if-size-gt-MOST_BYTES.false;
      read = reads_only p c.args.sort t c.args.shown.now c.requires.text.0 c.facts.ensures.grammar
          c.facts.ensures.brackets c.requires.fits c.requires.lexemes c.requires.text.1
          c.requires.text.2 c.requires.utf8 few c.deref.result.now
          (λ ps is. ap pieces c.deref.ensures.value ∙ c.in_ok-tokens.ensures.only ps is)
          (subst (IsCut p c.args.shown.now) (sym c.deref.ensures.value) c.in_ok-tokens.ensures.cut)
          c.in_ok-read_print.ensures.only;
    }

pub returns-clause-tokens : goal.returns-clause-tokens
returns-clause-tokens c =
    exact_count c.args.grammar.now.parts (tree c.args.term.now) c.args.shown.now c.requires.text.0
    c.args.size _ c.requires.text.2 c.requires.within c.if-size-gt-MOST_BYTES.false
    c.count_tokens-count.ensures
