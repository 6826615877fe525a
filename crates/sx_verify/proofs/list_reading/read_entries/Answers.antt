use Rattle.std.proofs.Common.{ℕ, List, subst}
use Rattle.sx_rules.specs.declared.entry.Entry.{Entry}
use Rattle.sx_rules.specs.Sets.{names_in}
use Rattle.std.specs.Global.{Vec}
use Rattle.sx_steps.specs.Held.{Held, most_list_bytes}
use Rattle.sx_verify.specs.Lists.{StatesEntries}
use Rattle.sx_steps.specs.Stop.{Gives}
use Rattle.sx_steps.proofs.StepsOn.{goes_next, stops_first}
use Rattle.sx_verify.proofs.list_reading.read_entries.Goals as goal

pub returns-in-Ok-clause-step : goal.returns-in-Ok-clause-step
returns-in-Ok-clause-step g c = λ files told.
    goes_next (λ (list : Vec Entry). list.items) (Held most_list_bytes c.args.file.now files)
    (StatesEntries c.args.file.now (names_in c.args.rules.now)) c.in-Ok.bytes.items
    c.state_entries.result (c.in-Ok.ensures.step files told)
    (subst (λ (bytes : List ℕ). Gives (λ (list : Vec Entry). list.items)
    (StatesEntries c.args.file.now (names_in c.args.rules.now) bytes) c.state_entries.result)
    c.deref.ensures.value c.state_entries.ensures.step)

pub returns-in-Err-clause-step : goal.returns-in-Err-clause-step
returns-in-Err-clause-step g c = λ files told.
    stops_first (λ (bytes : Vec ℕ). bytes.items) (λ (list : Vec Entry). list.items)
    (Held most_list_bytes c.args.file.now files)
    (StatesEntries c.args.file.now (names_in c.args.rules.now)) c.in-Err.e
    (c.in-Err.ensures.step files told)
