-- A store that is cut back is the one that it grew from.
use Rattle.std.proofs.Common.{◌≡◌, List, [], sym, ap, ◌∙◌, subst}
use Rattle.sx_term.specs.Tree.{Tree}
use Rattle.sx_rules.specs.Rules.{Judgement, Rule}
use Rattle.sx_rules.specs.Modes.{Modes}
use Rattle.sx_arena.specs.Binds.{bind_step, BindFits}
use Rattle.sx_arena.specs.Grown.{Extends, grown_from, CellsFit}
use Rattle.sx_arena.specs.declared.arena.Arena.{Arena}
use Rattle.sx_arena.specs.declared.binds.Bind.{Bind}
use Rattle.sx_arena.specs.declared.pairs.Pair.{Pair}
use Rattle.sx_arena.specs.Arena.{trees, IsArena}
use Rattle.sx_arena.proofs.Growing.{extends-is, take_extended}
use Rattle.sx_arena.proofs.BindChains.{envs_stay}
use Rattle.sx_derive.specs.Store.{IsStore, StoreGrows, IsMark, IsChainsCut, IsStoreCut, store_trees}
use Rattle.sx_derive.specs.Store.{store_envs}
use Rattle.sx_derive.specs.Tasks.{IsNextCandidate}
use Rattle.sx_derive.specs.declared.step.Step.{Step}
use Rattle.sx_derive.specs.declared.step.Step.TheVariants.{Nothing}
use Rattle.sx_derive.specs.declared.store.Mark.{Mark}
use Rattle.sx_derive.specs.declared.store.Store.{Store}
use Rattle.sx_derive.specs.declared.tasks.Task.{Task as TaskOf}
use Rattle.sx_derive.proofs.Stored.{more_envs}

module _ (modes : Modes) (rules : List Rule) (old mid new : Store) (m : Mark) (h : IsStore modes rules old) (k : IsMark old m) (g : StoreGrows modes rules old mid) where
  -- with the same chains, and the same terms or more
  same_chains : IsArena new.arena → Extends (store_trees old) (store_trees new) → new.binds.cells.items ≡ old.binds.cells.items → new.kids.items ≡ old.kids.items → new.frames.items ≡ old.frames.items → new.until ≡ old.until → StoreGrows modes rules old new
  same_chains a x b c f u =
      let ts = store_trees new in
      let st = envs_stay (store_trees old) ts x old.binds h.binds in
      let e : store_envs new ≡ store_envs old = ap (λ (cs : List Bind). grown_from (bind_step ts) [] cs) b ∙ st.0 in
      more_envs modes rules old new h a (subst (λ (cs : List Bind). CellsFit (bind_step ts) (BindFits ts) [] cs) (sym b) st.1) x
      (extends-is (store_envs old) (store_envs new) e) (extends-is old.binds.cells.items new.binds.cells.items b) c f u

  -- the chains are cut back, and the terms stay
  pub chains_cut_grows : IsChainsCut m mid new → StoreGrows modes rules old new
  chains_cut_grows c =
      same_chains (subst (λ (y : Arena). IsArena y) (sym c.arena) g.store.arena)
      (subst (λ (us : List Tree). Extends (store_trees old) us) (sym (ap trees c.arena)) g.trees)
      (c.binds ∙ take_extended old.binds.cells.items mid.binds.cells.items m.binds k.binds g.bind_cells)
      (c.kids ∙ take_extended old.kids.items mid.kids.items m.kids k.kids g.kid_cells)
      (c.frames ∙ take_extended old.frames.items mid.frames.items m.frames k.frames g.frame_cells)
      (c.until ∙ g.until)

  -- terms and chains are cut back
  pub cut_grows : IsStoreCut m mid new → StoreGrows modes rules old new
  cut_grows c =
      same_chains (c.arena g.store.arena)
      (extends-is (store_trees old) (store_trees new) (c.terms ∙ take_extended (store_trees old) (store_trees mid) m.terms k.terms g.trees))
      (c.binds ∙ take_extended old.binds.cells.items mid.binds.cells.items m.binds k.binds g.bind_cells)
      (c.kids ∙ take_extended old.kids.items mid.kids.items m.kids k.kids g.kid_cells)
      (c.frames ∙ take_extended old.frames.items mid.frames.items m.frames k.frames g.frame_cells)
      (c.until ∙ g.until)

-- a try that gives nothing needs nothing that it made
pub next_cut : (modes : Modes) (rules : List Rule) (pairs : List Pair) (js : List Judgement) (old mid new : Store) (t : TaskOf) (step : Step) → step ≡ Nothing →
    StoreGrows modes rules old new → IsNextCandidate modes rules pairs js old mid t step → IsNextCandidate modes rules pairs js old new t step
next_cut modes rules pairs js old mid new t step e g n =
    subst (λ (s : Step). IsNextCandidate modes rules pairs js old new t s) (sym e)
    (let x = subst (λ (s : Step). IsNextCandidate modes rules pairs js old mid t s) e n in record { grows = g; result = x.result; is = x.is; events = x.events })
