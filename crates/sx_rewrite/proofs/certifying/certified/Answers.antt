use Rattle.std.proofs.Common.{List, [], ℕ, ◌≡◌, ◌++◌, length, ap, sym, subst, ◌∙◌}
use Rattle.sx_term.specs.Instances.{bound_by}
use Rattle.sx_term.specs.Tree.{Tree}
use Rattle.sx_rules.specs.Derivations.{proof_instance, graft}
use Rattle.sx_rules.specs.ProofView.{proof, boxed}
use Rattle.sx_rules.specs.Sets.{bare_rules_in}
use Rattle.sx_rewrite.specs.Givens.{givens_of, numbered_proof, NumbersBelow}
use Rattle.sx_rewrite.specs.Rewriting.{first_over}
use Rattle.sx_rewrite.specs.Measured.{certificate_terms}
use Rattle.sx_rewrite.specs.Puts.{Tells, Answers}
use Rattle.sx_rewrite.specs.Put.{ArePut}
use Rattle.sx_rewrite.proofs.Instanced.{err_is}
use Rattle.sx_rewrite.proofs.Placed.{body-grafted, body-numbered, body-many, body-low}
use Rattle.sx_rewrite.proofs.certifying.certified.Goals as goal
use Rattle.sx_rewrite.proofs.certifying.certified.Goals.{In_ok-body}

-- the places that were noted are those of the certificate
givens_are : (c : In_ok-body) → c.certificate_instance.new.givens.items ≡ [] ++ givens_of (proof c.args.certificate.now)
givens_are c = c.in_ok-body.ensures.givens ∙ ap (λ (xs : List ℕ). xs ++ givens_of (proof c.args.certificate.now)) c.new-givens.ensures.items

-- the body is the instance of the certificate, with its places numbered
body_is : (c : In_ok-body) (more : List Tree) → ArePut more c.args.puts.now → proof c.in_ok-body.body.value ≡ numbered_proof 0 (proof_instance (bound_by more) (proof c.args.certificate.now))
body_is c more q = (c.in_ok-body.ensures.body more q).1 ∙ ap (λ (xs : List ℕ). numbered_proof (length xs) (proof_instance (bound_by more) (proof c.args.certificate.now))) c.new-givens.ensures.items

pub returns-in_err-body : goal.returns-in_err-body
returns-in_err-body c = λ more q.
    let p = proof c.args.certificate.now in
    let over = first_over (certificate_terms (bare_rules_in c.args.base.now) (bound_by more) p) in
    err_is (Answers over (λ x. proof x.value ≡ graft (boxed c.args.kids.items) (proof_instance (bound_by more) p))) c.from_residual.result _ c.from_residual.ensures.1
    (λ e same. subst (Tells over) (sym same) (c.in_err-body.ensures.body more q))

pub placed_kids-requires-clause-below : goal.placed_kids-requires-clause-below
placed_kids-requires-clause-below c =
    let g = givens_are (goal.at.placed_kids-requires-clause-below c).In_ok-body in
    subst (λ (xs : List ℕ). NumbersBelow (length c.args.kids.items) xs) (sym g) c.requires.givens

pub graft-requires-clause-numbered : goal.graft-requires-clause-numbered
graft-requires-clause-numbered c =
    let p = proof c.args.certificate.now in
    let put = c.requires.put in
    let g = givens_are (goal.at.graft-requires-clause-numbered c).In_ok-body in
    let is = body_is (goal.at.graft-requires-clause-numbered c).In_ok-body put.0 put.1 in
    body-numbered p (bound_by put.0) c.args.kids.items c.in_ok-placed.placed.items _ _ g is c.in_ok-placed.ensures

pub graft-requires-clause-many : goal.graft-requires-clause-many
graft-requires-clause-many c =
    let p = proof c.args.certificate.now in
    let put = c.requires.put in
    let g = givens_are (goal.at.graft-requires-clause-many c).In_ok-body in
    let is = body_is (goal.at.graft-requires-clause-many c).In_ok-body put.0 put.1 in
    body-many p (bound_by put.0) c.args.kids.items c.in_ok-placed.placed.items _ _ g is c.in_ok-placed.ensures

pub graft-requires-clause-shallow : goal.graft-requires-clause-shallow
graft-requires-clause-shallow c =
    let p = proof c.args.certificate.now in
    let put = c.requires.put in
    let g = givens_are (goal.at.graft-requires-clause-shallow c).In_ok-body in
    let is = body_is (goal.at.graft-requires-clause-shallow c).In_ok-body put.0 put.1 in
    body-low p (bound_by put.0) c.args.kids.items c.in_ok-placed.placed.items _ _ g is c.in_ok-placed.ensures c.requires.whole

pub returns : goal.returns
returns c = λ more q.
    let p = proof c.args.certificate.now in
    let g = givens_are (goal.at.returns c).In_ok-body in
    let made = c.in_ok-body.ensures.body more q in
    let is = body_is (goal.at.returns c).In_ok-body more q in
    (made.0, c.graft.ensures ∙ body-grafted p (bound_by more) c.args.kids.items c.in_ok-placed.placed.items _ _ g is c.in_ok-placed.ensures)
