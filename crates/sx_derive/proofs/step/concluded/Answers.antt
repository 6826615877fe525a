use Rattle.std.proofs.Common.{map, sym, ap, ◌∙◌, Some, subst, List, ℕ}
use Rattle.sx_derive.specs.Walk.{limit_passed}
use Rattle.sx_arena.specs.Arena.{trees, tree_at}
use Rattle.sx_arena.specs.Places.{IsLimit}
use Rattle.sx_derive.proofs.Steps.{concluded_passed, concluded_done}
use Rattle.sx_derive.proofs.step.concluded.Goals as goal

pub returns-in-Some : goal.returns-in-Some
returns-in-Some c =
    concluded_passed _ _ _ _ _ _ _ c.args.rule.now c.in_ok-outputs.outputs.items _ c.requires.store
    c.in_ok-outputs.ensures.held c.in_ok-outputs.ensures.binds c.in_ok-outputs.ensures.kids c.in_ok-outputs.ensures.frames c.in_ok-outputs.ensures.until
    (subst (λ (is : List ℕ). IsLimit (limit_passed (map (tree_at (trees c.made_outputs.new.store.arena)) is)) (Some c.in-Some.limit)) c.deref.ensures.value c.in-Some.ensures)

pub returns-in-None : goal.returns-in-None
returns-in-None c =
    concluded_done _ _ _ _ _ _ _ _ c.args.rule.now _ c.requires.store
    c.in_ok-outputs.ensures.held c.in_ok-outputs.ensures.binds c.in_ok-outputs.ensures.kids c.in_ok-outputs.ensures.frames c.in_ok-outputs.ensures.until
    (ap (λ is. limit_passed (map (tree_at (trees c.made_outputs.new.store.arena)) is)) (sym c.deref.ensures.value) ∙ c.in-None.ensures) c.len.ensures c.requires.env c.requires.kids
