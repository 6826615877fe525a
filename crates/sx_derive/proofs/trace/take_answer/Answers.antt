use Rattle.std.proofs.Common.{map, sym, ◌∙◌}
use Rattle.sx_term.specs.Term.{tree}
use Rattle.sx_arena.specs.Arena.{tree_at}
use Rattle.sx_arena.specs.Binds.{env_at}
use Rattle.sx_arena.specs.Matching.{match_all}
use Rattle.sx_arena.specs.Places.{selected}
use Rattle.sx_arena.specs.Views.{rules_of, set_modes, judgement_of}
use Rattle.sx_derive.specs.Store.{store_trees, store_envs}
use Rattle.sx_derive.proofs.AnswerTaken.{bound_grows, joined_grows, joined_taken}
use Rattle.sx_derive.proofs.trace.take_answer.Goals as goal

pub returns-in-None-clause-grows : goal.returns-in-None-clause-grows
returns-in-None-clause-grows c =
    bound_grows (set_modes c.args.given.now.rules.now) (rules_of c.args.given.now.rules.now) c.args.store.now c.args.from (judgement_of c.args.judgement.now) c.args.head c.args.outputs.now c.requires.store c.requires.kids c.requires.head c.fit_places.new.binds c.in_ok-fit.ensures.grows

pub returns-in_ok-kids-in-Some-clause-grows : goal.returns-in_ok-kids-in-Some-clause-grows
returns-in_ok-kids-in-Some-clause-grows c =
    joined_grows (set_modes c.args.given.now.rules.now) (rules_of c.args.given.now.rules.now) c.args.store.now c.args.from (judgement_of c.args.judgement.now) c.args.head c.args.outputs.now c.requires.store c.requires.kids c.requires.head c.fit_places.new.binds c.in_ok-fit.ensures.grows
    c.push_kid.new.kids c.in_ok-kids-in-Some.kids c.in_ok-kids-in-Some.ensures.items c.in_ok-kids-in-Some.ensures.chain

pub returns-in_ok-kids-in-Some-clause-taken : goal.returns-in_ok-kids-in-Some-clause-taken
returns-in_ok-kids-in-Some-clause-taken c =
    let k = rw c.in-Some.is at c.in_ok-fit.ensures.fit in
    joined_taken (set_modes c.args.given.now.rules.now) (rules_of c.args.given.now.rules.now) c.args.store.now c.args.from (judgement_of c.args.judgement.now) c.args.head c.args.outputs.now c.requires.store c.requires.kids c.requires.head c.fit_places.new.binds c.in_ok-fit.ensures.grows
    c.push_kid.new.kids c.in_ok-kids-in-Some.kids c.in_ok-kids-in-Some.ensures.items c.in_ok-kids-in-Some.ensures.chain c.in-Some.env k.0
    ((λ i. match_all (selected (sym c.new-side.ensures.outputs i) (sym c.new-side.ensures.roles i) (map tree (sym c.new-side.ensures.places i))) (map (tree_at (store_trees c.args.store.now)) c.args.outputs.now) (env_at (store_envs c.args.store.now) c.args.from.env)) ∙ k.1)
