use Rattle.sx_directives.specs.declared.rows.FormLine.{FormLine}
use Rattle.sx_outline.specs.Declarations.{DeclaredForm, declared_form}
use Rattle.sx_outline.proofs.PlaceLaws.{places_more, places_seen}
use Rattle.sx_outline.proofs.tables.put_forms.Goals as goal

pub loop-i-preserved : goal.loop-i-preserved
loop-i-preserved c = places_more (λ (x : FormLine). x.name) c.args.forms.now c.loop-i.i c.index-forms-i.result c.loop-i.places c.push.new.self c.loop-i-test.true c.index-forms-i.is c.loop-i.invariant c.in_ok-push.ensures

pub returns : goal.returns
returns c = places_seen declared_form (λ (x : DeclaredForm). x.name) c.args.forms.now c.loop-i.i c.loop-i.places c.loop-i-test.false c.loop-i.invariant
