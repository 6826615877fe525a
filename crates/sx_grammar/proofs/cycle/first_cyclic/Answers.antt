use Rattle.std.proofs.Common.{◌≡◌, ◌∙◌, sym, subst, arith, inl, inr}
use Rattle.std.proofs.lemmas.Bool.{cases_lt, false≢true}
use Rattle.sx_grammar.specs.Cyclic.{IsCyclic}
use Rattle.sx_grammar.proofs.Ranking.{leads_within}
use Rattle.sx_grammar.proofs.cycle.first_cyclic.Goals as goal

pub loop-sort-preserved : goal.loop-sort-preserved
loop-sort-preserved c = λ g are other lt cyclic. elim (cases_lt other c.loop-sort.sort) [
  | inl below ↦ c.loop-sort.invariant g are other below cyclic
  | inr above ↦ (
      let last : other ≡ c.loop-sort.sort = omega (arith, lt, above) in
      false≢true (sym c.if-branch.false ∙ (c.in_ok-is_cyclic.ensures g are).1 (subst (IsCyclic g) last cyclic)))
]

pub returns-then-branch : goal.returns-then-branch
returns-then-branch c = λ g are. (c.loop-sort-test.true, (c.in_ok-is_cyclic.ensures g are).0 c.if-branch.true, c.loop-sort.invariant g are)

pub returns : goal.returns
returns c = λ g are sort cyclic.
    let low = leads_within g c.args.steps.now are cyclic in
    c.loop-sort.invariant g are sort (omega (arith, low, c.loop-sort-test.false)) cyclic
