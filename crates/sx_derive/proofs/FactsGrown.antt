-- Facts and pairs in stores that grow.
use Rattle.std.proofs.Common.{List, length}
use Rattle.sx_rules.specs.Rules.{Judgement}
use Rattle.sx_arena.specs.Pairs.{ArePairs}
use Rattle.sx_arena.specs.Views.{set_modes}
use Rattle.sx_arena.proofs.Facts.{facts_stay}
use Rattle.sx_arena.proofs.Growing.{extends-length}
use Rattle.sx_arena.proofs.Parted.{pairs_more_terms}
use Rattle.sx_derive.specs.Givens.{HasFacts, GrowsIn}
use Rattle.sx_derive.specs.Store.{store_trees}
use Rattle.sx_derive.specs.declared.given.Given.{Given}
use Rattle.sx_derive.specs.declared.store.Store.{Store}

-- facts and pairs in a store that has grown
pub facts_grown : (g : Given) (s t : Store) (js : List Judgement) → GrowsIn g s t → HasFacts g s js → HasFacts g t js
facts_grown g s t js x a = facts_stay (set_modes g.rules.now) (store_trees s) (store_trees t) x.trees js g.facts.now a

pub pairs_grown : (g : Given) (s t : Store) → GrowsIn g s t → ArePairs (length (store_trees s)) g.pairs.now → ArePairs (length (store_trees t)) g.pairs.now
pairs_grown g s t x a = pairs_more_terms (length (store_trees s)) (length (store_trees t)) (extends-length (store_trees s) (store_trees t) x.trees) g.pairs.now a
