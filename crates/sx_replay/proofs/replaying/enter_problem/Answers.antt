use Rattle.std.proofs.Common.{map, refl, ap, subst}
use Rattle.sx_term.specs.Term.{tree}
use Rattle.sx_rules.specs.Views.{hypotheses, pair}
use Rattle.sx_arena.specs.Entered.{AreFactsIn, ArePairsIn}
use Rattle.sx_arena.specs.Views.{rules_of, set_modes, judgement_of}
use Rattle.sx_arena.proofs.Placed.{held_as}
use Rattle.sx_replay.proofs.Started.{problem_is}
use Rattle.sx_replay.proofs.replaying.enter_problem.Goals as goal

pub enter_facts-requires-clause-arena : goal.enter_facts-requires-clause-arena
enter_facts-requires-clause-arena c = (c.new-reader.ensures.reader (rules_of c.args.rules.now)).arena

pub returns : goal.returns
returns c =
    problem_is (set_modes c.args.rules.now) (rules_of c.args.rules.now) (hypotheses c.args.given.now) _ c.new-reader.result c.enter_facts.new.arena c.enter_pairs.new.arena _
    (c.new-reader.ensures.reader (rules_of c.args.rules.now)) c.new-reader.ensures.none c.new-reader.ensures.noted
    (subst (λ js. AreFactsIn (set_modes c.args.rules.now) c.new-reader.result.arena c.enter_facts.new.arena (map judgement_of js) c.in-Ok.facts.items) c.deref.ensures.value c.in-Ok.ensures)
    (subst (λ ps. ArePairsIn c.enter_facts.new.arena c.enter_pairs.new.arena (map pair ps) c.in-Ok-enter_pairs.pairs.items) c.deref-2.ensures.value c.in-Ok-enter_pairs.ensures)
    (held_as _ _ _ _ _ (ap (map tree) c.deref-3.ensures.value) c.in-Ok-enter_places.ensures) refl refl refl c.len.ensures
