use Rattle.std.proofs.Common.{inl, inr, ⊎_elim}
use Rattle.sx_earley.proofs.ask_set.next_least.Goals as goal

pub returns-then-is_beside : goal.returns-then-is_beside
returns-then-is_beside c = λ level.
    let beside = c.is_beside.ensures.0 c.if-is_beside.true in (
      (λ l. ⊎_elim inl (λ m. inr (beside, m)) ((c.lower.ensures level).0 l)),
      (λ h. (c.lower.ensures level).1 (⊎_elim inl (λ m. inr m.1) h)),
    )
