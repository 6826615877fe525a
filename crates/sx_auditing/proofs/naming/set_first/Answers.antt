use Rattle.sx_words.specs.View.{audit_view}
use Rattle.sx_auditing.proofs.Sets.{first-set, first-missing}
use Rattle.sx_auditing.proofs.naming.set_first.Goals as goal

pub returns-in-Some : goal.returns-in-Some
returns-in-Some g c =
    first-set _ (audit_view c.args.audit.now) _ c.args.slots.now.items c.deref.ensures.value
    c.in-Some.place _ c.set_one.new.slot c.index_mut.ensures.value c.in-Some.ensures
    c.set_one.result c.set_one.ensures

pub returns-in-None : goal.returns-in-None
returns-in-None g c =
    first-missing _ (audit_view c.args.audit.now) _ c.args.slots.now.items c.deref.ensures.value
    c.in-None.ensures
