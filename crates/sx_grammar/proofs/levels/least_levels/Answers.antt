use Rattle.std.proofs.Common.{◌∙◌, ◌++◌, ap, drop, length, subst, sym, take}
use Rattle.sx_grammar.specs.Cycles.{HaveSortsBelow}
use Rattle.sx_grammar.specs.Levels.{least_after}
use Rattle.sx_grammar.proofs.LevelLaws.{least_is, least_size, written_all}
use Rattle.sx_grammar.proofs.levels.least_levels.Goals as goal

pub returns-clause-least : goal.returns-clause-least
returns-clause-least c =
    let ps = c.args.productions.now in
    let v = c.in_ok-levels.levels.items in
    let n = c.in_ok-levels.levels.len in
    let new = c.lower_all.new.levels in
    let made = c.lower_all.ensures ∙ ap (λ l. least_after l ps) c.deref_mut.ensures.value in
    let size = ap length made ∙ least_size v ps ∙ sym c.in_ok-levels.levels.ok.0 in
    least_is ps v (take n (new ++ drop (length new) v)) (subst (λ b. HaveSortsBelow b ps) (sym c.in_ok-levels.ensures.size) c.requires) c.in_ok-levels.ensures.all (written_all v new n size ∙ made)

pub returns-clause-size : goal.returns-clause-size
returns-clause-size c =
    let ps = c.args.productions.now in
    let v = c.in_ok-levels.levels.items in
    let n = c.in_ok-levels.levels.len in
    let new = c.lower_all.new.levels in
    let made = ap length (c.lower_all.ensures ∙ ap (λ l. least_after l ps) c.deref_mut.ensures.value) ∙ least_size v ps in
    ap length (written_all v new n (made ∙ sym c.in_ok-levels.levels.ok.0)) ∙ made ∙ c.in_ok-levels.ensures.size

pub lower_all-requires : goal.lower_all-requires
lower_all-requires c = subst (λ b. HaveSortsBelow b c.args.productions.now) (sym (ap length c.deref_mut.ensures.value ∙ c.in_ok-levels.ensures.size)) c.requires
