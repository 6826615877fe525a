use Rattle.std.proofs.Common.{ℕ, List, map, refl, ap, ◌∙◌, sym, subst}
use Rattle.sx_term.specs.Term.{tree}
use Rattle.sx_term.specs.Tree.{Tree}
use Rattle.sx_rules.specs.Deep.{AreShallow}
use Rattle.sx_arena.specs.Arena.{trees, tree_at, AreBelow}
use Rattle.sx_arena.proofs.Kept.{all_kept, first_kept, made_kept}
use Rattle.sx_arena.proofs.Patterns.{ok_weaker}
use Rattle.sx_arena.proofs.arena_cut.keep.Goals as goal

pub returns-then-are_below : goal.returns-then-are_below
returns-then-are_below c =
    let b = subst (λ (ks : List ℕ). AreBelow c.args.first ks) c.deref.ensures.value (c.are_below.ensures.0 c.if-are_below.true) in
    first_kept c.args.first c.args.arena.now c.cut.new.self c.args.numbers.items c.cut.ensures.trees (c.cut.ensures.arena c.requires.arena) b c.requires.numbers

pub returns-then-not-is_worth : goal.returns-then-not-is_worth
returns-then-not-is_worth c = all_kept c.args.first c.args.arena.now c.args.numbers.items c.requires.arena c.requires.numbers

pub enter_places-requires-clause-shallow : goal.enter_places-requires-clause-shallow
enter_places-requires-clause-shallow c =
    let ts = trees c.args.arena.now in
    let s = c.if-not-is_worth.ensures refl in
    let e = ap (map tree) c.deref-4.ensures.value ∙ c.in_ok-terms.ensures ∙ ap (map (tree_at ts)) c.deref-3.ensures.value ∙ ap (map (tree_at ts)) (sym c.deref-2.ensures.value) in
    subst (λ (us : List Tree). AreShallow us) (sym e) s

pub returns : goal.returns
returns c =
    let ts = trees c.args.arena.now in
    let e = ap (map tree) c.deref-4.ensures.value ∙ c.in_ok-terms.ensures ∙ ap (map (tree_at ts)) c.deref-3.ensures.value in
    ok_weaker _ _ (λ r h. made_kept c.args.first c.args.arena.now c.cut-2.new.self c.enter_places.new.arena c.args.numbers.items r.items (map tree c.deref-4.result.now) c.cut-2.ensures.trees e h) c.enter_places.result c.enter_places.ensures
