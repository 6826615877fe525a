use Rattle.std.proofs.Common.{ap, arith, refl, ◌∙◌, ◌++◌, ◌∷◌, []}
use Rattle.sx_rules.specs.Derivations.{height_of, most_height}
use Rattle.sx_rules.specs.ProofView.{proof, boxed}
use Rattle.sx_rules.specs.declared.proof.Proof.{By}
use Rattle.sx_rules.proofs.ProofRows.{proof-at_by}
use Rattle.tests_logic.proofs.lists.node.Goals as goal

pub returns : goal.returns
returns c =
    let a = c.in_ok-new.field-0 in
    let b = c.in_ok-new-2.field-0 in
    let kids = c.push-2.new.self in
    let binds = c.new-3.result in
    let row = c.in_ok-push-2.ensures.items ∙ ap (λ x. x ++ b ∷ []) (c.in_ok-push.ensures.items ∙ ap (λ x. x ++ a ∷ []) c.new-kids.ensures.items) in
    let d = ap height_of (proof-at_by (By 3 binds kids) 3 binds kids refl) in
    let e = ap (λ x. most_height (boxed x)) row in
    let f = ap (λ x. height_of (proof x)) c.in_ok-new.ensures.ok in
    let g = ap (λ x. height_of (proof x)) c.in_ok-new-2.ensures.ok in
    omega arith
