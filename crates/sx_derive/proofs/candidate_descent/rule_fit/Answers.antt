use Rattle.std.proofs.Common.{refl}
use Rattle.sx_arena.specs.Views.{rules_of, set_modes}
use Rattle.sx_derive.proofs.Led.{fit_grows}
use Rattle.sx_derive.proofs.candidate_descent.rule_fit.Goals as goal

pub returns-clause-grows : goal.returns-clause-grows
returns-clause-grows c =
    let s = c.args.store.now in
    fit_grows (set_modes c.args.rules.now) (rules_of c.args.rules.now) s (record { arena = s.arena; binds = c.fit_places.new.binds; kids = s.kids; frames = s.frames; until = s.until }) c.requires.store refl refl refl refl c.fit_places.result c.fit_places.ensures.grows
