use Rattle.std.proofs.Common.{◌≡◌, ◌∙◌, ◌∷◌, [], inl, inr, ⊎_elim, ap, sym, subst, Contains}
use Rattle.std.proofs.lemmas.List.Elements.{Contains-push, Contains-append_left, Contains-push_cases}
use Rattle.sx_grammar.specs.Cycles.{list_at}
use Rattle.sx_grammar.proofs.Filing.{list_at-is, kept_at, only_at, there_in}
use Rattle.sx_grammar.proofs.steps.file.Goals as goal
use Rattle.sx_grammar.proofs.steps.file.Goals.{After-index_mut}

-- the row of the place
here : (c : After-index_mut) → c.index_mut.result.now.items ≡ list_at c.args.lists.now.items c.args.place
here c = ap (λ v. v.items) c.index_mut.ensures.value ∙ sym (list_at-is c.args.lists.now.items c.args.place c.index_mut.result.now c.requires)

pub returns-clause-there : goal.returns-clause-there
returns-clause-there c =
    there_in c.args.lists.now.items c.args.place c.push.new.self c.args.item c.requires
    (subst (λ l. Contains l c.args.item) (sym c.in_ok-push.ensures.items) (Contains-push c.index_mut.result.now.items c.args.item))

pub returns-clause-kept : goal.returns-clause-kept
returns-clause-kept c =
    kept_at c.args.lists.now.items c.args.place c.push.new.self
    (λ x there. subst (λ l. Contains l x) (sym c.in_ok-push.ensures.items) (Contains-append_left c.index_mut.result.now.items (c.args.item ∷ []) x (subst (λ l. Contains l x) (sym (here (goal.at.returns-clause-kept c).After-index_mut)) there)))

pub returns-clause-only : goal.returns-clause-only
returns-clause-only c =
    only_at c.args.lists.now.items c.args.place c.push.new.self c.args.item
    (λ x there. ⊎_elim (λ old. inl (subst (λ l. Contains l x) (here (goal.at.returns-clause-only c).After-index_mut) old)) (λ e. inr (sym e))
    (Contains-push_cases c.index_mut.result.now.items c.args.item x (subst (λ l. Contains l x) c.in_ok-push.ensures.items there)))

pub returns-in_err-push-clause-kept : goal.returns-in_err-push-clause-kept
returns-in_err-push-clause-kept c =
    kept_at c.args.lists.now.items c.args.place c.push.new.self
    (λ x there. subst (λ l. Contains l x) (sym c.in_err-push.ensures.items) (subst (λ l. Contains l x) (sym (here (goal.at.returns-in_err-push-clause-kept c).After-index_mut)) there))
