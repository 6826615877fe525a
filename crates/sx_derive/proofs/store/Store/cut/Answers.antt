use Rattle.std.proofs.Common.{◌∙◌, ap, sym, subst}
use Rattle.sx_arena.specs.declared.arena.Arena.{Arena}
use Rattle.sx_arena.specs.Arena.{trees, IsArena}
use Rattle.sx_derive.proofs.store.Store.cut.Goals as goal

pub returns : goal.returns
returns c =
    let e = c.cut_chains.ensures.arena in
    record {
      terms = ap (λ (a : Arena). trees a) e ∙ c.cut.ensures.trees;
      arena = λ h. subst (λ (a : Arena). IsArena a) (sym e) (c.cut.ensures.arena h);
      binds = c.cut_chains.ensures.binds;
      kids = c.cut_chains.ensures.kids;
      frames = c.cut_chains.ensures.frames;
      until = c.cut_chains.ensures.until;
    }
