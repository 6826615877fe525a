use Rattle.sx_words.proofs.position.put_place.Goals as goal

pub returns-in-Rule : goal.returns-in-Rule
returns-in-Rule c = rw c.in-Rule.is c.put_named.ensures

pub returns-in-Plain : goal.returns-in-Plain
returns-in-Plain c = rw c.in-Plain.is c.put_named-in-Plain.ensures

pub returns-in-Production : goal.returns-in-Production
returns-in-Production c = rw c.in-Production.is c.put_named-in-Production.ensures
