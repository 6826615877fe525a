-- A walk from one root leaves the root last.
use Rattle.std.proofs.Common.{◌≡◌, ℕ, List, [], ◌∷◌, ◌++◌, map, refl, sym, ◌∙◌, subst}
use Rattle.std.specs.Prelude.{Result, Ok, Err, Contains}
use Rattle.sx_imports.specs.Walk.{Name, Imports, End, leaving, Meets, comes_round, was_left}
use Rattle.sx_imports.specs.Walk.{is_missing, is_past, is_entered, WalkGoes, all_met, stops, goes_on}
use Rattle.sx_imports.specs.Walk.{Walks}
use Rattle.sx_imports.proofs.Lists.{not_in_none}
use Rattle.sx_steps.specs.declared.stop.Stop.{Stop}
use Rattle.sx_walking.specs.Reached.{Found, uses_in, AreVisitsFound, IsWalkTold, Reaches}
use Rattle.sx_walking.specs.Kinds.{WalkKind, Visits}
use Rattle.sx_walking.specs.Laws.{RootIsLast}
use Rattle.sx_walking.proofs.Coming.{VisitsNamed, names_are, visits_named}

-- the name is left last
abbrev LeavesLast : Name → End → Type 0
LeavesLast name (Ok left) = (before : List Name) × (left ≡ before ++ name ∷ [])
LeavesLast name (Err stop) = Unit {0}

left_last : (name : Name) (end : End) → LeavesLast name (leaving name end)
left_last name (Ok left) = (left, refl)
left_last name (Err stop) = tt

module _ (imports : Imports) (most : ℕ) where
  meets_last : {path left : List Name} {name : Name} {end : End} →
      Meets imports most path left name end → left ≡ [] → LeavesLast name end
  meets_last (comes_round h) e = tt
  meets_last {name = name} (was_left h k) e =
      absurd (not_in_none name (subst (λ (l : List Name). Contains l name) e k))
  meets_last (is_missing h k i) e = tt
  meets_last (is_past h k i f) e = tt
  meets_last {name = name} (is_entered {end = end} h k i room d) e = left_last name end

  goes_none : {path left names : List Name} {end : End} → WalkGoes imports most path left names end →
      names ≡ [] → end ≡ Ok left
  goes_none all_met e = refl
  goes_none (stops d) e = absurd cc
  goes_none (goes_on d r) e = absurd cc

  goes_last : {path left names : List Name} {end : End} (root : Name) →
      WalkGoes imports most path left names end → names ≡ root ∷ [] → left ≡ [] →
      LeavesLast root end
  goes_last root all_met e f = absurd cc
  goes_last root (stops d) e f = tt
  goes_last root (goes_on {more = more} {name = name} {names = names} {end = end} d r) e f =
      let first : name ≡ root = cc in
      let rest : names ≡ [] = cc in
      subst (λ (x : End). LeavesLast root x) (sym (goes_none r rest))
      (subst (λ (n : Name). LeavesLast n (Ok more)) first (meets_last d f))

module _ {A : Type 0} (name_of : A → Name) (uses : A → List Name)
    (Comes : Name → Result A Stop → Type 0) (named : VisitsNamed name_of Comes) (file : List ℕ)
    (root : Name) (xs : List A) where
  end_last : (found : Found A) (visited : AreVisitsFound Comes found) (end : End) →
      Walks (uses_in uses found) 256 (root ∷ []) end → IsWalkTold Comes file found end (Ok xs) →
      (before : List Name) × (map name_of xs ≡ before ++ root ∷ [])
  end_last found visited (Ok order) walks told =
      let last = goes_last (uses_in uses found) 256 root walks refl refl in
      (last.0, names_are name_of uses Comes named found visited order xs told ∙ last.1)
  end_last found visited (Err why) walks told = absurd told

  -- the root is reached last
  pub reached_last : Reaches uses Comes file (root ∷ []) (Ok xs) →
      (before : List Name) × (map name_of xs ≡ before ++ root ∷ [])
  reached_last reads = end_last reads.found reads.visited reads.end reads.walks reads.told

pub root_last : {A : Type 0} (k : WalkKind A) → RootIsLast k
root_last k files named file root xs reads =
    reached_last k.name_of k.stands_on (Visits k files) (visits_named k files named) file root xs
    reads
