use Rattle.std.proofs.Common.{◌∙◌, subst, map}
use Rattle.sx_term.specs.Shapes.{shapes}
use Rattle.sx_rules.specs.declared.rule_set.RuleSet.{RuleSet}
use Rattle.sx_rules.specs.Modes.{AllModed}
use Rattle.sx_rules.specs.Sets.{shapes_in, forms_in, bare_rules_in}
use Rattle.sx_rules.specs.Views.{rule, modes_of}
use Rattle.sx_plain.specs.Views.{table_of}
use Rattle.sx_rewrite.specs.AcceptedView.{accepted, signature}
use Rattle.sx_rewrite.specs.Extensions.{with_table}
use Rattle.sx_rewrite.specs.ExtensionView.{extension_with}
use Rattle.sx_rewrite.specs.Stored.{checked_of}
use Rattle.sx_rewrite.proofs.Checks.{stored_extensions_are_sound}
use Rattle.sx_rewrite.proofs.Growing.{longer}
use Rattle.sx_rewrite.proofs.PlainSets.{plain_rules_are_accepted}
use Rattle.sx_extcheck.specs.CheckView.{check_with}
use Rattle.sx_extcheck.proofs.Fitting.{can-all, checked-images, all-stored, rejects-unsound, all-then-memory}
use Rattle.sx_extcheck.proofs.accepting.accept.Goals as goal

pub check_rules-requires : goal.check_rules-requires
check_rules-requires g c =
    can-all c.args.so_far c.args.ext.plain (shapes c.args.all.now) c.facts.ensures.accepted c.requires.fits.goes_on (c.requires.labels ∙ c.facts.ensures.labels) c.args.ext.rules.items
    c.requires.fits.sorted c.requires.fits.disciplined c.requires.fits.bodies c.requires.shallow c.requires.bodies c.requires.few

pub add-requires-clause-images : goal.add-requires-clause-images
add-requires-clause-images g c =
    let w = c.in-Ok.ensures in
    checked-images c.args.so_far c.args.ext.plain c.args.budgets c.args.ext.rules.items (checked_of (map (λ e. rule e.rule) c.args.ext.rules.items) c.in-Ok.flats.items) w.0
    (can-all c.args.so_far c.args.ext.plain (shapes c.args.all.now) c.facts.ensures.accepted c.requires.fits.goes_on (c.requires.labels ∙ c.facts.ensures.labels) c.args.ext.rules.items
    c.requires.fits.sorted c.requires.fits.disciplined c.requires.fits.bodies c.requires.shallow c.requires.bodies c.requires.few)
    w.2

pub add-requires-clause-sound : goal.add-requires-clause-sound
add-requires-clause-sound g c =
    let w = c.in-Ok.ensures in
    stored_extensions_are_sound (signature c.args.so_far) (shapes_in c.args.so_far.base) (shapes_in c.args.so_far.rules) (shapes c.args.all.now) (accepted c.args.so_far) c.facts.ensures.accepted
    (extension_with c.args.ext c.in-Ok.flats.items) c.requires.fits
    (all-stored c.args.so_far c.args.ext.plain c.args.budgets (subst (λ (r : RuleSet). AllModed (modes_of (forms_in r)) (bare_rules_in r)) c.base_rules.ensures c.facts-2.ensures.moded)
    ((plain_rules_are_accepted (signature c.args.so_far) (shapes_in c.args.so_far.base) (shapes c.args.all.now) (with_table (accepted c.args.so_far) (table_of c.args.ext.plain))
    (longer (signature c.args.so_far) (shapes_in c.args.so_far.base) (shapes_in c.args.so_far.rules) (shapes c.args.all.now) (accepted c.args.so_far) (table_of c.args.ext.plain) c.facts.ensures.accepted c.requires.fits.goes_on)).moded)
    c.args.ext.rules.items (checked_of (map (λ e. rule e.rule) c.args.ext.rules.items) c.in-Ok.flats.items) w.0 w.2)

pub returns-in-Err-add-clause-answer : goal.returns-in-Err-add-clause-answer
returns-in-Err-add-clause-answer g c =
    let w = c.in-Ok.ensures in
    (w.0, w.1, (all-then-memory (check_with c.args.so_far c.args.ext.plain c.args.budgets) c.args.ext.rules.items (checked_of (map (λ e. rule e.rule) c.args.ext.rules.items) c.in-Ok.flats.items) w.0 w.2, c.in-Err-add.ensures))

pub returns-in-Err-clause-unsound : goal.returns-in-Err-clause-unsound
returns-in-Err-clause-unsound g c =
    let w = c.in-Err.ensures in
    rejects-unsound c.args.so_far c.args.ext.plain c.args.budgets (subst (λ (r : RuleSet). AllModed (modes_of (forms_in r)) (bare_rules_in r)) c.base_rules.ensures c.facts-2.ensures.moded)
    ((plain_rules_are_accepted (signature c.args.so_far) (shapes_in c.args.so_far.base) (shapes c.args.all.now) (with_table (accepted c.args.so_far) (table_of c.args.ext.plain))
    (longer (signature c.args.so_far) (shapes_in c.args.so_far.base) (shapes_in c.args.so_far.rules) (shapes c.args.all.now) (accepted c.args.so_far) (table_of c.args.ext.plain) c.facts.ensures.accepted c.requires.fits.goes_on)).moded)
    c.args.ext.rules.items w.0 c.in-Err.error w.2
