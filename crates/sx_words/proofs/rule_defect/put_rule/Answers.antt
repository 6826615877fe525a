use Rattle.sx_words.proofs.rule_defect.put_rule.Goals as goal

pub returns-in-NotModed : goal.returns-in-NotModed
returns-in-NotModed c = rw c.in-NotModed.is c.put_named-in-NotModed.ensures

pub returns-in_ok-premise-in-Discipline : goal.returns-in_ok-premise-in-Discipline
returns-in_ok-premise-in-Discipline c =
    let part = rw (c.as_bytes.ensures.value, c.as_str.ensures.value, c.in_ok-part-in-Discipline.ensures, c.from.ensures) at c.put.ensures.ok in
    let both = rw (c.as_bytes-in-Discipline.ensures.value, c.as_str-in-Discipline.ensures.value, c.in_ok-premise-in-Discipline.ensures) at part in
    rw c.in-Discipline.is both
