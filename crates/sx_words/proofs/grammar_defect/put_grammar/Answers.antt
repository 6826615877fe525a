use Rattle.sx_words.proofs.grammar_defect.put_grammar.Goals as goal

pub returns-in-BadLiteral : goal.returns-in-BadLiteral
returns-in-BadLiteral c = rw c.in-BadLiteral.is c.put_named.ensures

pub returns-in-SameSort : goal.returns-in-SameSort
returns-in-SameSort c = rw c.in-SameSort.is c.put_named-in-SameSort.ensures

pub returns-in-UnknownSort : goal.returns-in-UnknownSort
returns-in-UnknownSort c = rw c.in-UnknownSort.is c.put_named-in-UnknownSort.ensures

pub returns-in-SameLabel : goal.returns-in-SameLabel
returns-in-SameLabel c = rw c.in-SameLabel.is c.put_named-in-SameLabel.ensures

pub returns-in-PlainHasTyped : goal.returns-in-PlainHasTyped
returns-in-PlainHasTyped c = rw c.in-PlainHasTyped.is c.put_named-in-PlainHasTyped.ensures

pub returns-in-NoBrackets : goal.returns-in-NoBrackets
returns-in-NoBrackets c = rw c.in-NoBrackets.is c.put_named-in-NoBrackets.ensures

pub returns-in-Cyclic : goal.returns-in-Cyclic
returns-in-Cyclic c = rw c.in-Cyclic.is c.put_named-in-Cyclic.ensures
