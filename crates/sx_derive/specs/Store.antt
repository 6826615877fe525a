-- The store of a search as plain data, and how it grows.
use Rattle.std.specs.Prelude.{◌≡◌, ℕ, ◌≤◌, List, length, take}
use Rattle.sx_term.specs.Tree.{Tree}
use Rattle.sx_arena.specs.Matching.{Assignment}
use Rattle.sx_rules.specs.Rules.{Rule}
use Rattle.sx_rules.specs.Modes.{Modes}
use Rattle.sx_rules.specs.Derivations.{Proofs}
use Rattle.sx_derive.specs.Machine.{Frame}
use Rattle.sx_derive.specs.declared.store.Mark.{Mark}
use Rattle.sx_derive.specs.declared.store.Store.{Store}
use Rattle.sx_arena.specs.Grown.{Extends}
use Rattle.sx_arena.specs.Arena.{trees, IsArena}
use Rattle.sx_arena.specs.Binds.{envs, IsBinds}
use Rattle.sx_arena.specs.Places.{AreHeld}
use Rattle.sx_derive.specs.Chains.{kid_chains, AreKids, frames_of, AreFrames}

-- the terms of a store by their numbers
abbrev pub store_trees : Store → List Tree
store_trees s = trees s.arena

-- its bindings
abbrev pub store_envs : Store → List Assignment
store_envs s = envs (trees s.arena) s.binds

-- its chains of proofs
abbrev pub store_kids : Store → List Proofs
store_kids s = kid_chains (store_envs s) s.kids.items

-- its chains of frames
abbrev pub store_frames : Modes → List Rule → Store → List (List Frame)
store_frames modes rules s =
    frames_of modes rules s.until (store_envs s) (store_kids s) s.frames.items

-- each cell refers to earlier ones, and the frame at which answers are handed out is there
pub record IsStore (modes : Modes) (rules : List Rule) (s : Store) : Type 0 where
  pub arena : IsArena s.arena
  pub binds : IsBinds (trees s.arena) s.binds
  pub kids : AreKids (store_envs s) s.kids.items
  pub frames : AreFrames modes rules s.until (store_envs s) (store_kids s) s.frames.items
  pub until : s.until ≤ length s.frames.items

-- the store goes on from the other: what was named before stands for the same, bindings, proofs and
-- frames stay where they are, and answers are handed out at the same frame
pub record StoreGrows (modes : Modes) (rules : List Rule) (old new : Store) : Type 0 where
  pub store : IsStore modes rules new
  pub trees : Extends (store_trees old) (store_trees new)
  pub envs : Extends (store_envs old) (store_envs new)
  pub kids : Extends (store_kids old) (store_kids new)
  pub frames : Extends (store_frames modes rules old) (store_frames modes rules new)
  pub bind_cells : Extends old.binds.cells.items new.binds.cells.items
  pub kid_cells : Extends old.kids.items new.kids.items
  pub frame_cells : Extends old.frames.items new.frames.items
  pub until : new.until ≡ old.until

-- the store has the terms at the numbers, and only terms are new in it
pub record AreMadeInStore (old new : Store) (numbers : List ℕ) (ts : List Tree) : Type 0 where
  pub held : AreHeld old.arena new.arena numbers ts
  pub binds : new.binds ≡ old.binds
  pub kids : new.kids.items ≡ old.kids.items
  pub frames : new.frames.items ≡ old.frames.items
  pub until : new.until ≡ old.until

-- the store ends at the mark
pub record IsMark (s : Store) (m : Mark) : Type 0 where
  pub terms : m.terms ≡ length (store_trees s)
  pub binds : m.binds ≡ length s.binds.cells.items
  pub kids : m.kids ≡ length s.kids.items
  pub frames : m.frames ≡ length s.frames.items

-- the chains are cut at the mark, and the terms stay
pub record IsChainsCut (m : Mark) (old new : Store) : Type 0 where
  pub arena : new.arena ≡ old.arena
  pub binds : new.binds.cells.items ≡ take m.binds old.binds.cells.items
  pub kids : new.kids.items ≡ take m.kids old.kids.items
  pub frames : new.frames.items ≡ take m.frames old.frames.items
  pub until : new.until ≡ old.until

-- the terms and the chains are cut at the mark
pub record IsStoreCut (m : Mark) (old new : Store) : Type 0 where
  pub terms : store_trees new ≡ take m.terms (store_trees old)
  pub arena : IsArena old.arena → IsArena new.arena
  pub binds : new.binds.cells.items ≡ take m.binds old.binds.cells.items
  pub kids : new.kids.items ≡ take m.kids old.kids.items
  pub frames : new.frames.items ≡ take m.frames old.frames.items
  pub until : new.until ≡ old.until
