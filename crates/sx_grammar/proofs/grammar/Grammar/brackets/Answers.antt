use Rattle.std.proofs.Common.{subst, arith}
use Rattle.sx_grammar.specs.Grammar.{pair_of}
use Rattle.sx_grammar.specs.Parts.{parts, numbered}
use Rattle.sx_grammar.specs.Tables.{literals_of, IsNumberedPair}
use Rattle.sx_grammar.proofs.TableLaws.{pair_at, pair_past}
use Rattle.sx_grammar.proofs.grammar.Grammar.brackets.Goals as goal

pub returns-then-i-len : goal.returns-then-i-len
returns-then-i-len c =
    subst (λ d. IsNumberedPair (literals_of d.parts) (pair_of (numbered d.parts) c.args.sort) c.index.result.now) c.self.view_is
    (subst (λ texts. IsNumberedPair texts (pair_of (numbered (parts c.self.inside.parts)) c.args.sort) c.index.result.now) c.self.invariant.has_texts
    (pair_at c.self.inside.literals.items c.self.inside.parts.sorts.items c.self.inside.brackets.items c.args.sort c.index.result.now c.self.invariant.has_brackets (omega (arith, c.len.ensures, c.if-i-len.true)) c.index.ensures))

pub returns : goal.returns
returns c =
    subst (λ d. IsNumberedPair (literals_of d.parts) (pair_of (numbered d.parts) c.args.sort) _) c.self.view_is
    (subst (λ texts. IsNumberedPair texts (pair_of (numbered (parts c.self.inside.parts)) c.args.sort) _) c.self.invariant.has_texts
    (pair_past c.self.inside.literals.items c.self.inside.parts.sorts.items c.self.inside.brackets.items c.args.sort c.self.invariant.has_brackets (omega (arith, c.len.ensures, c.if-i-len.false))))
