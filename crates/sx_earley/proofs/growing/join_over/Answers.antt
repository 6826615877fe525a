use Rattle.std.proofs.Common.{◌≡◌, ℕ, inl, List, Option, Some, get_or, Contains, subst, arith}
use Rattle.std.specs.List.{slice_get}
use Rattle.sx_grammar.specs.declared.item.Item.{Item}
use Rattle.sx_earley.specs.Shown.{plain}
use Rattle.sx_earley.specs.Chart.{Joins, moved}
use Rattle.sx_earley.specs.Keys.{IsKeyed}
use Rattle.sx_earley.proofs.Growth.{extends_self, extends_on, still_there, longer}
use Rattle.sx_earley.proofs.Joining.{over_only}
use Rattle.sx_earley.proofs.Passing.{ArePassed, passed_first}
use Rattle.sx_earley.proofs.Walking.{IsDone, walk_at, walk_keyed, walk_next}
use Rattle.sx_earley.proofs.growing.join_over.Goals as goal
use Rattle.sx_earley.proofs.growing.join_over.Goals.{In-Some-here, After-item_within-filling}

pub loop-here-init : goal.loop-here-init
loop-here-init c = record {
  extends = extends_self c.args.found.now;
  only = λ i there. inl there;
  every = passed_first c.args.near.filed.now.keys _ c.in-Some.key c.last-here.result c.last-here.ensures;
}

-- what is told of an item that is passed
abbrev told : (c : In-Some-here) → List Item → Item → Type 0
told c = λ l x. Joins (plain c.args.grammar.now) c.args.before x → Contains l (moved c.args.before x.end)

-- all numbers with the key behind the one here are passed
abbrev past : (c : In-Some-here) → Option ℕ → Type 0
past c = λ o. ArePassed c.args.near.filed.now.keys (IsDone c.args.found.now c.args.near.filed.now (told c c.loop-here.found)) c.in-Some.key o

passed_here : (c : In-Some-here) → past c (Some c.in-Some-here.place)
passed_here c = subst (past c) c.in-Some-here.is c.loop-here.invariant.every

-- the item here stood there before more were found
at_here : (c : After-item_within-filling) (Told : Item → Type 0) → ArePassed c.args.near.filed.now.keys (IsDone c.args.found.now c.args.near.filed.now Told) c.in-Some.key (Some c.in-Some-here.place) →
    slice_get c.args.found.now (get_or c.args.near.filed.now.numbers.items c.in-Some-here.place 0) ≡ Some c.item_within-filling.result
at_here c Told passed = walk_at c.args.found.now c.args.near.filed.now c.args.near.filling c.in-Some.key c.in-Some.is Told c.in-Some-here.place c.item_within-filling.result passed c.loop-here.found c.number.result
    c.loop-here.invariant.extends c.requires.within c.number.ensures c.item_within-filling.ensures

pub loop-here-preserved : goal.loop-here-preserved
loop-here-preserved c =
    let g = plain c.args.grammar.now in let items = c.args.found.now in let mid = c.loop-here.found in
    let filed = c.args.near.filed.now in let near = c.args.near.filling in let key = c.in-Some.key in
    let n = c.in-Some-here.place in let here = c.item_within-filling.result in
    let w = goal.at.loop-here-preserved c in let Told = told w.In-Some-here in let passed = passed_here w.In-Some-here in let at = at_here w.After-item_within-filling (Told mid) passed in
    let new = c.join.new.found in
    record {
      extends = extends_on items mid new c.loop-here.invariant.extends c.join.ensures.extends;
      only = over_only g (IsKeyed items filed c.args.near.filling) c.args.before here items mid new
          (walk_keyed items filed near key c.in-Some.is (Told mid) n here passed at) c.loop-here.invariant.only c.join.ensures.only;
      every = walk_next items filed near key c.in-Some.is (Told mid) n here passed (Told new) c.before-here.result
          (λ x told joins. still_there mid new (moved c.args.before x.end) c.join.ensures.extends (told joins)) at c.in_ok-join.ensures.every c.before-here.ensures;
    }

-- where the hints know, the item is there
pub loop-here-preserved-then-is_known : goal.loop-here-preserved-then-is_known
loop-here-preserved-then-is_known c =
    let g = plain c.args.grammar.now in let items = c.args.found.now in let mid = c.loop-here.found in
    let filed = c.args.near.filed.now in let near = c.args.near.filling in let key = c.in-Some.key in
    let n = c.in-Some-here.place in let here = c.item_within-filling.result in
    let w = goal.at.loop-here-preserved-then-is_known c in let Told = told w.In-Some-here in let passed = passed_here w.In-Some-here in let at = at_here w.After-item_within-filling (Told mid) passed in
    record {
      extends = c.loop-here.invariant.extends;
      only = c.loop-here.invariant.only;
      every = walk_next items filed near key c.in-Some.is (Told mid) n here passed (Told mid) c.before-here.result
          (λ x told. told) at (λ _. c.is_known.ensures c.if-is_known.true) c.before-here.ensures;
    }

pub returns-in_err-join-clause-only : goal.returns-in_err-join-clause-only
returns-in_err-join-clause-only c =
    let g = plain c.args.grammar.now in let items = c.args.found.now in let mid = c.loop-here.found in
    let filed = c.args.near.filed.now in let near = c.args.near.filling in let key = c.in-Some.key in
    let n = c.in-Some-here.place in let here = c.item_within-filling.result in
    let w = goal.at.returns-in_err-join-clause-only c in let Told = told w.In-Some-here in let passed = passed_here w.In-Some-here in let at = at_here w.After-item_within-filling (Told mid) passed in
    let new = c.join.new.found in
    over_only g (IsKeyed items filed c.args.near.filling) c.args.before here items mid new
    (walk_keyed items filed near key c.in-Some.is (Told mid) n here passed at) c.loop-here.invariant.only c.join.ensures.only

pub number-requires : goal.number-requires
number-requires c =
    let low = (passed_here (goal.at.number-requires c).In-Some-here).0 in let same = c.requires.within.same in omega arith

-- the number is that of an item that is found
pub item_within-filling-requires : goal.item_within-filling-requires
item_within-filling-requires c =
    let low = c.requires.within.within c.in-Some-here.place (passed_here (goal.at.item_within-filling-requires c).In-Some-here).0 in let same = c.number.ensures in
    omega (arith, longer c.args.found.now c.loop-here.found c.loop-here.invariant.extends)
