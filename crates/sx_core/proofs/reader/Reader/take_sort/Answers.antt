use Rattle.std.proofs.Common.{subst, sym}
use Rattle.sx_core.specs.Machine.{StepRefused, AddsSort}
use Rattle.sx_core.specs.declared.found.Found.{Found}
use Rattle.sx_core.specs.declared.keyword.Keyword.TheVariants as keyword
use Rattle.sx_core.proofs.StageLaws.{no_sort, declared_so}
use Rattle.sx_core.proofs.reader.Reader.take_sort.Goals as goal

pub returns-in_default : goal.returns-in_default
returns-in_default c = λ n. subst (StepRefused c.args.self keyword.Sort) (sym c.out_of_order.ensures) (no_sort c.args.self.stage c.in_default.not-Declaring)

pub returns-in-Declaring : goal.returns-in-Declaring
returns-in-Declaring c = λ n. declared_so c.args.self keyword.Sort _ _ (λ (x : Found). AddsSort c.args.self.found x c.args.row.name) _ c.in-Declaring.is c.add_sort-added.ensures c.declared.ensures
