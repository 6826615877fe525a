use Rattle.std.proofs.Common.{◌≡◌, Bool, true, false, not, map, refl, subst}
use Rattle.sx_term.specs.Term.{tree}
use Rattle.sx_rules.specs.Modes.{inputs}
use Rattle.sx_arena.specs.Arena.{tree_at}
use Rattle.sx_arena.specs.Places.{NeverFit}
use Rattle.sx_rules.specs.SubjectTerms.{output_mask}
use Rattle.sx_arena.proofs.Keyed.{never_fits}
use Rattle.sx_derive.specs.Store.{store_trees}
use Rattle.sx_derive.proofs.passing.is_other_rule.Goals as goal

not_true : (b : Bool) → not b ≡ true → b ≡ false
not_true false h = refl
not_true true h = cc

not_both : (b : Bool) → b ≡ false → b ≡ true → ⊥
not_both false f t = cc
not_both true f t = cc

pub returns : goal.returns
returns c = λ e same_form.
    subst (λ ps. NeverFit (inputs (output_mask c.args.places.now) (map tree ps)) (map (tree_at (store_trees c.args.store.now)) c.args.task.now.terms.items)) c.deref.ensures.value
    (subst (λ is. NeverFit (inputs (output_mask c.args.places.now) (map tree c.deref.result.now)) (map (tree_at (store_trees c.args.store.now)) is)) c.deref-2.ensures.value
    (never_fits (inputs (output_mask c.args.places.now) (map tree c.deref.result.now)) (map (tree_at (store_trees c.args.store.now)) c.deref-2.result.now) (λ fits. not_both _ (not_true _ e) (c.may_fit.ensures.1 fits))))
