use Rattle.std.proofs.Common.{map, refl, ap, subst}
use Rattle.sx_term.specs.Term.{tree}
use Rattle.sx_rules.specs.Views.{hypotheses, pair}
use Rattle.sx_arena.specs.Entered.{AreFactsIn, ArePairsIn}
use Rattle.sx_arena.specs.Views.{rules_of, set_modes, judgement_of}
use Rattle.sx_arena.proofs.Placed.{held_as}
use Rattle.sx_derive.proofs.Searching.{problem_is}
use Rattle.sx_derive.proofs.entered.enter_parts.Goals as goal

pub enter_facts-requires-clause-arena : goal.enter_facts-requires-clause-arena
enter_facts-requires-clause-arena c = c.requires.store.arena

pub returns : goal.returns
returns c =
    problem_is (set_modes c.args.rules.now) (rules_of c.args.rules.now) (hypotheses c.args.given.now) _ _ c.args.store.now c.enter_facts.new.arena c.enter_pairs.new.arena c.enter_places.new.arena _
    c.requires.store
    (subst (λ js. AreFactsIn (set_modes c.args.rules.now) c.args.store.now.arena c.enter_facts.new.arena (map judgement_of js) c.in_ok-facts.facts.items) c.deref.ensures.value c.in_ok-facts.ensures)
    (subst (λ ps. ArePairsIn c.enter_facts.new.arena c.enter_pairs.new.arena (map pair ps) c.in_ok-pairs.pairs.items) c.deref-2.ensures.value c.in_ok-pairs.ensures)
    (held_as _ _ _ _ _ (ap (map tree) c.deref-3.ensures.value) c.in_ok-terms.ensures)
    c.in_ok-wanted.ensures refl refl refl refl
