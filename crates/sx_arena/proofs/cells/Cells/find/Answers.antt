use Rattle.std.proofs.Common.{◌<◌, ℕ, List, Option, Some, None, arith, sym, ap, ◌∙◌, subst, length}
use Rattle.sx_slots.specs.Mixed.{folded}
use Rattle.sx_slots.specs.Slots.{IsLastWith}
use Rattle.sx_slots.proofs.Seeking.{IsSought, left_of, goes_back}
use Rattle.sx_arena.specs.contracts.shape.ShapePartialEq.TheImpl.{eq-value as shape_eq}
use Rattle.sx_arena.specs.declared.arena.Cell.{Cell}
use Rattle.sx_arena.specs.Found.{IsFind}
use Rattle.sx_arena.proofs.Finding.{hash_alike, not_both, Wants, cell_first, cell_next, cell_there, cell_found, cell_none}
use Rattle.sx_arena.proofs.cells.Cells.find.Goals as goal
use Rattle.sx_arena.proofs.cells.Cells.find.Goals.{In-Some}

-- the cell that is looked at next is the one that is sought, or stands behind it
sought_here : (c : In-Some) → IsSought c.self.inside.slots (Wants c.self.inside.cells.items (shape_eq.it c.args.shape.now)) (folded c.args.hash) (Some c.in-Some.number)
sought_here c = subst (λ (o : Option ℕ). IsSought c.self.inside.slots (Wants c.self.inside.cells.items (shape_eq.it c.args.shape.now)) (folded c.args.hash) o) c.in-Some.is c.loop-here.invariant

pub loop-here-init : goal.loop-here-init
loop-here-init c =
    cell_first _ (shape_eq.it c.args.shape.now) (folded c.args.hash) (λ s t. ap folded (sym (hash_alike _ s t) ∙ sym c.requires.hash)) c.self.inside.slots c.self.invariant c.last-here.result
    (subst (λ (h : ℕ). IsLastWith c.self.inside.slots (length c.self.inside.slots) h c.last-here.result) c.folded.ensures c.last-here.ensures)

pub loop-here-smaller : goal.loop-here-smaller
loop-here-smaller c =
    subst (λ (o : Option ℕ). left_of c.before-here.result < left_of o) (sym c.in-Some.is)
    (goes_back c.self.inside.slots c.in-Some.number _ c.before-here.result c.before-here.ensures)

pub loop-here-preserved : goal.loop-here-preserved
loop-here-preserved c =
    cell_next _ (shape_eq.it c.args.shape.now) (folded c.args.hash) (λ s t. ap folded (sym (hash_alike _ s t) ∙ sym c.requires.hash)) c.self.inside.slots c.self.invariant c.in-Some.number c.index.result.now c.before-here.result
    (sought_here (goal.at.loop-here-preserved c).In-Some)
    c.index.ensures (not_both _ (sym c.eq.ensures ∙ c.if-eq.false)) c.before-here.ensures

pub index-requires : goal.index-requires
index-requires c =
    let s = sought_here (goal.at.index-requires c).In-Some in
    let l = cell_there _ (shape_eq.it c.args.shape.now) (folded c.args.hash) (λ s t. ap folded (sym (hash_alike _ s t) ∙ sym c.requires.hash)) c.self.inside.slots c.self.invariant c.in-Some.number s in
    let k = c.self.inside.cells.ok in
    omega arith

pub before-here-requires : goal.before-here-requires
before-here-requires c = (sought_here (goal.at.before-here-requires c).In-Some).0

pub returns-then-eq : goal.returns-then-eq
returns-then-eq c =
    let s = sought_here (goal.at.returns-then-eq c).In-Some in
    subst (λ (cs : List Cell). IsFind (shape_eq.it c.args.shape.now) cs (Some c.in-Some.number)) c.self.view_is
    (cell_found _ (shape_eq.it c.args.shape.now) (folded c.args.hash) (λ s t. ap folded (sym (hash_alike _ s t) ∙ sym c.requires.hash)) c.self.inside.slots c.self.invariant c.in-Some.number c.index.result.now s c.index.ensures (sym c.eq.ensures ∙ c.if-eq.true))

pub returns : goal.returns
returns c =
    let s : IsSought c.self.inside.slots (Wants c.self.inside.cells.items (shape_eq.it c.args.shape.now)) (folded c.args.hash) None = subst (λ (o : Option ℕ). IsSought c.self.inside.slots (Wants c.self.inside.cells.items (shape_eq.it c.args.shape.now)) (folded c.args.hash) o) c.in_default.is c.loop-here.invariant in
    subst (λ (cs : List Cell). IsFind (shape_eq.it c.args.shape.now) cs None) c.self.view_is (cell_none _ (shape_eq.it c.args.shape.now) (folded c.args.hash) (λ s t. ap folded (sym (hash_alike _ s t) ∙ sym c.requires.hash)) c.self.inside.slots c.self.invariant s)
