use Rattle.sx_words.proofs.budget_defect.put_budget.Goals as goal

pub returns-in-Tries : goal.returns-in-Tries
returns-in-Tries c = rw c.in-Tries.is c.put_number.ensures

pub returns-in-Depth : goal.returns-in-Depth
returns-in-Depth c = rw c.in-Depth.is c.put_words.ensures

pub returns-in-Nodes : goal.returns-in-Nodes
returns-in-Nodes c = rw c.in-Nodes.is c.put_number-in-Nodes.ensures

pub returns-in-RewriteDepth : goal.returns-in-RewriteDepth
returns-in-RewriteDepth c = rw c.in-RewriteDepth.is c.put_words-in-RewriteDepth.ensures
