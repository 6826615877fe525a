use Rattle.std.proofs.Common.{map, refl, sym, ap, ◌∙◌, Some, subst, List, ℕ}
use Rattle.sx_derive.specs.Walk.{limit_passed}
use Rattle.sx_arena.specs.Arena.{trees, tree_at}
use Rattle.sx_arena.specs.Places.{IsLimit}
use Rattle.sx_derive.proofs.Steps.{asked_passed, asked_spent, asked_goes}
use Rattle.sx_derive.proofs.step.asked.Goals as goal

pub returns-in-Some : goal.returns-in-Some
returns-in-Some c =
    asked_passed _ _ _ _ _ c.args.waiting c.in_ok-terms.terms.items c.requires.store
    c.in_ok-terms.ensures.held c.in_ok-terms.ensures.binds c.in_ok-terms.ensures.kids c.in_ok-terms.ensures.frames c.in_ok-terms.ensures.until _
    (subst (λ (is : List ℕ). IsLimit (limit_passed (map (tree_at (trees c.made_inputs.new.store.arena)) is)) (Some c.in-Some.limit)) c.deref.ensures.value c.in-Some.ensures)

pub returns-then-waiting-eq0 : goal.returns-then-waiting-eq0
returns-then-waiting-eq0 c =
    asked_spent _ _ _ _ _ c.args.waiting c.in_ok-terms.terms.items c.requires.store
    c.in_ok-terms.ensures.held c.in_ok-terms.ensures.binds c.in_ok-terms.ensures.kids c.in_ok-terms.ensures.frames c.in_ok-terms.ensures.until
    (ap (λ is. limit_passed (map (tree_at (trees c.made_inputs.new.store.arena)) is)) (sym c.deref.ensures.value) ∙ c.in-None.ensures) c.if-waiting-eq0.true

pub returns-in_ok-frames-in-None : goal.returns-in_ok-frames-in-None
returns-in_ok-frames-in-None c =
    asked_goes _ _ c.args.store.now c.made_inputs.new.store _ _ c.args.waiting c.in_ok-terms.terms _ c.requires.store
    c.in_ok-terms.ensures.held c.in_ok-terms.ensures.binds c.in_ok-terms.ensures.kids c.in_ok-terms.ensures.frames c.in_ok-terms.ensures.until
    (ap (λ is. limit_passed (map (tree_at (trees c.made_inputs.new.store.arena)) is)) (sym c.deref.ensures.value) ∙ c.in-None.ensures) c.if-waiting-eq0.false c.requires.waits c.requires.env c.requires.kids c.requires.before c.requires.until
    refl refl refl c.in_ok-frames-in-None.ensures.items refl c.in_ok-frames-in-None.ensures.chain
