use Rattle.std.proofs.Common.{◌≡◌, ℕ, List, [], ◌++◌, IfOk, ap, ◌∙◌, subst}
use Rattle.sx_stuck.proofs.goal_telling.shown_goal.Goals as goal

-- what is appended to nothing
alone : (all front text : List ℕ) → all ≡ front ++ text → front ≡ [] → all ≡ text
alone all front text appends none = appends ∙ ap (λ (it : List ℕ). it ++ text) none

pub print_goal-requires-clause-forms : goal.print_goal-requires-clause-forms
print_goal-requires-clause-forms c = c.requires.follow

pub print_goal-requires-clause-fits : goal.print_goal-requires-clause-fits
print_goal-requires-clause-fits c = c.requires.fits

pub returns : goal.returns
returns c =
    let told = alone _ _ _ c.in_ok-print_goal.ensures.text c.new-bytes.ensures.items in
    subst (λ (bytes : List ℕ). IfOk c.of_utf8.result (λ t. t ≡ bytes)) (c.deref.ensures.value ∙ told)
    c.of_utf8.ensures
