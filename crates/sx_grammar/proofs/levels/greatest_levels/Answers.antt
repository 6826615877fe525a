use Rattle.std.proofs.Common.{◌∙◌, ◌++◌, ap, drop, length, subst, sym, take}
use Rattle.sx_grammar.specs.Cycles.{HavePartsBelow}
use Rattle.sx_grammar.specs.Levels.{greatest_after}
use Rattle.sx_grammar.proofs.LevelLaws.{greatest_is, greatest_size, written_all}
use Rattle.sx_grammar.proofs.levels.greatest_levels.Goals as goal

pub returns-clause-greatest : goal.returns-clause-greatest
returns-clause-greatest c =
    let ps = c.args.productions.now in
    let v = c.in_ok-levels.levels.items in
    let n = c.in_ok-levels.levels.len in
    let new = c.raise_all.new.levels in
    let made = c.raise_all.ensures ∙ ap (λ l. greatest_after l ps) c.deref_mut.ensures.value in
    let size = ap length made ∙ greatest_size v ps ∙ sym c.in_ok-levels.levels.ok.0 in
    greatest_is ps v (take n (new ++ drop (length new) v)) (subst (λ b. HavePartsBelow b ps) (sym c.in_ok-levels.ensures.size) c.requires) c.in_ok-levels.ensures.all (written_all v new n size ∙ made)

pub returns-clause-size : goal.returns-clause-size
returns-clause-size c =
    let ps = c.args.productions.now in
    let v = c.in_ok-levels.levels.items in
    let n = c.in_ok-levels.levels.len in
    let new = c.raise_all.new.levels in
    let made = ap length (c.raise_all.ensures ∙ ap (λ l. greatest_after l ps) c.deref_mut.ensures.value) ∙ greatest_size v ps in
    ap length (written_all v new n (made ∙ sym c.in_ok-levels.levels.ok.0)) ∙ made ∙ c.in_ok-levels.ensures.size

pub raise_all-requires : goal.raise_all-requires
raise_all-requires c = subst (λ b. HavePartsBelow b c.args.productions.now) (sym (ap length c.deref_mut.ensures.value ∙ c.in_ok-levels.ensures.size)) c.requires
