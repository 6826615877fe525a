use Rattle.sx_replay.proofs.follow.checked.Goals as goal

pub returns-in-Some : goal.returns-in-Some
returns-in-Some c = (c.if-level-ge-MOST_LEVELS.false, c.in-Some.is)

pub returns-in-Some-big : goal.returns-in-Some-big
returns-in-Some-big c = (c.if-level-ge-MOST_LEVELS.false, c.in-None.is, c.in-Some-big.is)

pub returns-in-None-big : goal.returns-in-None-big
returns-in-None-big c = (c.if-level-ge-MOST_LEVELS.false, λ i. record { deep = c.in-None.is i; big = c.in-None-big.is i })
