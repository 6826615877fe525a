use Rattle.std.proofs.Common.{ℕ, ◌+◌, ◌∙◌, sym, subst, get_or, refl, arith}
use Rattle.std.proofs.lemmas.List.{get_or_default}
use Rattle.sx_arena.specs.Arena.{trees}
use Rattle.sx_rules.specs.SubjectTerms.{output_mask}
use Rattle.sx_arena.proofs.Arenas.{below_zero}
use Rattle.sx_arena.proofs.Placed.{is_same, is_other, get_at}
use Rattle.sx_arena.proofs.Keyed.{Keyed, keyed_first, keyed_skip, keyed_few, keyed_lexeme, keyed_hole, keyed_node, keyed_end}
use Rattle.sx_arena.proofs.places.may_fit.Goals as goal
use Rattle.sx_arena.proofs.places.may_fit.Goals.{in-Lex, in-Var}

pub loop-i-init : goal.loop-i-init
loop-i-init c = keyed_first _ _ _ _ _

pub loop-i-preserved-then-is_output-outputs : goal.loop-i-preserved-then-is_output-outputs
loop-i-preserved-then-is_output-outputs c =
    let p = get_at _ _ c.loop-i-test.true in
    keyed_skip _ _ _ _ _ _ _ p.0 c.loop-i.invariant c.loop-i-test.true p.1 (λ q. is_other _ _ c.if-is_output-outputs.true (c.is_output.ensures ∙ q))

pub returns-then-taken-terms : goal.returns-then-taken-terms
returns-then-taken-terms c =
    let p = get_at _ _ c.loop-i-test.true in (
      (λ z. cc),
      (λ h. absurd (keyed_few _ _ _ _ _ _ _ p.0 c.loop-i.invariant c.loop-i-test.true p.1 (sym c.is_output.ensures ∙ is_same _ _ c.if-is_output-outputs.false) c.if-taken-terms.true h)),
    )

pub has_label-requires-clause-within : goal.has_label-requires-clause-within
has_label-requires-clause-within c = below_zero _ _ c.requires.terms c.loop-i.taken c.if-taken-terms.false

pub returns-in-Node : goal.returns-in-Node
returns-in-Node c =
    keyed_node _ _ _ _ _ _ _ _ c.loop-i.invariant c.loop-i-test.true c.index-places-i.is (sym c.is_output.ensures ∙ is_same _ _ c.if-is_output-outputs.false) _ c.if-taken-terms.false
    (get_or_default c.args.terms.now c.loop-i.taken 0 (get_or c.args.terms.now c.loop-i.taken 0) c.if-taken-terms.false)
    _ _ _ c.in-Node.is c.has_label.ensures

pub loop-i-preserved : goal.loop-i-preserved
loop-i-preserved c = elim c.match-places-i.branch [
  | in-Lex w ↦ subst (λ (k : ℕ). Keyed (trees c.args.arena.now) (output_mask c.args.side.now.roles.now) c.args.side.now.outputs c.args.side.now.places.now c.args.terms.now (c.loop-i.i + 1) k) (sym w.taken-is)
      (keyed_lexeme _ _ _ _ _ _ _ _ c.loop-i.invariant c.loop-i-test.true c.index-places-i.is (sym c.is_output.ensures ∙ is_same _ _ c.if-is_output-outputs.false) _ c.if-taken-terms.false
      (get_or_default c.args.terms.now c.loop-i.taken 0 (get_or c.args.terms.now c.loop-i.taken 0) c.if-taken-terms.false)
      _ _ w.in-Lex.is)
  | in-Var w ↦ subst (λ (k : ℕ). Keyed (trees c.args.arena.now) (output_mask c.args.side.now.roles.now) c.args.side.now.outputs c.args.side.now.places.now c.args.terms.now (c.loop-i.i + 1) k) (sym w.taken-is)
      (keyed_hole _ _ _ _ _ _ _ _ c.loop-i.invariant c.loop-i-test.true c.index-places-i.is (sym c.is_output.ensures ∙ is_same _ _ c.if-is_output-outputs.false) _ c.if-taken-terms.false
      (get_or_default c.args.terms.now c.loop-i.taken 0 (get_or c.args.terms.now c.loop-i.taken 0) c.if-taken-terms.false)
      _ w.in-Var.is)
]

pub returns : goal.returns
returns c =
    let m = c.loop-i-test.false in
    ((λ z. keyed_end _ _ _ _ _ _ _ c.loop-i.invariant (omega arith)), (λ h. refl))
