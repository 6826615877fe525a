use Rattle.std.proofs.lemmas.Result.{on_ok_weaker}
use Rattle.sx_earley.specs.Shown.{tokens_of}
use Rattle.sx_forest.specs.Rows.{entries_at}
use Rattle.sx_forest.proofs.Filling.{first_none, first_some}
use Rattle.sx_forest.proofs.first_entries.add_variable.Goals as goal

pub returns-in-Some-clause-there : goal.returns-in-Some-clause-there
returns-in-Some-clause-there c =
    let place = c.args.place in
    on_ok_weaker c.put.result (λ e d. first_some (tokens_of d c.args.shown.now) place c.in-Some.sort (entries_at c.args.table.now.lists.items place) (entries_at c.put.new.self.lists.items place)
    c.variable_at.result c.requires.none e c.in-Some.is (c.variable_at.ensures d)) c.put.ensures.there

pub returns-in-None-clause-there : goal.returns-in-None-clause-there
returns-in-None-clause-there c = λ d.
    first_none (tokens_of d c.args.shown.now) c.args.place _ c.variable_at.result c.requires.none c.in-None.is (c.variable_at.ensures d)
