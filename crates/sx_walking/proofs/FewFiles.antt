-- A walk leaves no more names than it may visit.
use Rattle.std.proofs.Common.{◌≡◌, ℕ, ◌+◌, ◌<◌, ◌≤◌, List, [], ◌∷◌, ◌++◌, map, length, sym, ap, ◌∙◌}
use Rattle.std.proofs.Common.{length-append, arith}
use Rattle.std.proofs.lemmas.List.{length-map}
use Rattle.std.specs.Prelude.{Some, Result, Ok, Err}
use Rattle.sx_imports.specs.Walk.{Name, Imports, End, leaving, Meets, comes_round, was_left}
use Rattle.sx_imports.specs.Walk.{is_missing, is_past, is_entered, WalkGoes, all_met, stops, goes_on}
use Rattle.sx_imports.specs.Walk.{Walks}
use Rattle.sx_steps.specs.declared.stop.Stop.{Stop}
use Rattle.sx_walking.specs.Reached.{Found, uses_in, IsWalkTold, Reaches}
use Rattle.sx_walking.specs.Kinds.{WalkKind, Visits}
use Rattle.sx_walking.specs.Laws.{FewAreReached}

-- the names of the path and those left are at most so many
abbrev AreFew : ℕ → List Name → End → Type 0
AreFew most path (Ok left) = length path + length left ≤ most
AreFew most path (Err stop) = Unit {0}

few_leaving : (most : ℕ) (path : List Name) (name : Name) (end : End) →
    AreFew most (path ++ name ∷ []) end → AreFew most path (leaving name end)
few_leaving most path name (Ok left) h =
    omega (arith, length-append path (name ∷ []), length-append left (name ∷ []))
few_leaving most path name (Err stop) h = tt

few_below : (most : ℕ) (path left : List Name) (name : Name) → length path + length left < most →
    length (path ++ name ∷ []) + length left ≤ most
few_below most path left name h = omega (arith, length-append path (name ∷ []))

module _ (imports : Imports) (most : ℕ) where
  mutual
    few_met : {path left : List Name} {name : Name} {end : End} →
        Meets imports most path left name end → length path + length left ≤ most →
        AreFew most path end
    few_met (comes_round h) few = tt
    few_met (was_left off h) few = few
    few_met (is_missing off new none) few = tt
    few_met (is_past off new is full) few = tt
    few_met {path} {left} {name} (is_entered {end = end} off new is room below) few =
        few_leaving most path name end (few_gone below (few_below most path left name room))

    few_gone : {path left names : List Name} {end : End} →
        WalkGoes imports most path left names end → length path + length left ≤ most →
        AreFew most path end
    few_gone all_met few = few
    few_gone (stops h) few = tt
    few_gone (goes_on h more) few = few_gone more (few_met h few)

few_left : (imports : Imports) (roots order : List Name) → Walks imports 256 roots (Ok order) →
    length order ≤ 256
few_left imports roots order walks =
    let few : 0 + length order ≤ 256 = few_gone imports 256 walks (omega arith) in
    omega arith

module _ {A : Type 0} where
  -- the files of what a walk leaves are no more than it may visit
  pub few_files : (imports : Imports) (roots order : List Name) (held : Found A) (xs : List A) →
      Walks imports 256 roots (Ok order) → map Some xs ≡ map held order → length xs ≤ 256
  few_files imports roots order held xs walks are =
      let few = few_left imports roots order walks in
      let same =
      sym (length-map xs (λ (x : A). Some x)) ∙ ap length are ∙ length-map order held in
      omega (arith, few, same)

module _ {A : Type 0} (uses : A → List Name) (Comes : Name → Result A Stop → Type 0)
    (file : List ℕ) (roots : List Name) (xs : List A) where
  few_told : (found : Found A) (end : End) → Walks (uses_in uses found) 256 roots end →
      IsWalkTold Comes file found end (Ok xs) → length xs ≤ 256
  few_told found (Ok order) walks told =
      few_files (uses_in uses found) roots order found xs walks (sym told)
  few_told found (Err why) walks told = absurd told

  pub reached_few : Reaches uses Comes file roots (Ok xs) → length xs ≤ 256
  reached_few reads = few_told reads.found reads.end reads.walks reads.told

pub few_reached : {A : Type 0} (k : WalkKind A) → FewAreReached k
few_reached k files file roots xs reads =
    reached_few k.stands_on (Visits k files) file roots xs reads
