use Rattle.std.proofs.Common.{ℕ, sym, subst}
use Rattle.std.specs.Prelude.{Err}
use Rattle.sx_term.specs.Term.{tree}
use Rattle.sx_forest.specs.Readings.{plain_reading}
use Rattle.sx_rules.specs.Views.{subjects_in}
use Rattle.sx_rewrite.specs.RewrittenView.{IsRewriting}
use Rattle.sx_rules.specs.Rules.{no_hypotheses}
use Rattle.sx_typing.specs.declared.module_error.ModuleError.{ModuleError}
use Rattle.sx_unit.specs.Lowered.{IsLowering}
use Rattle.sx_unit.specs.Modules.{module_data}
use Rattle.sx_unit.specs.Refused.{IsBadModule}
use Rattle.sx_unit.proofs.MadeUnits.{typing_is, unlowered_bad}
use Rattle.sx_unit.proofs.compiling.compile_lowered.Goals as goal

pub write_lowered-requires-clause-lowered : goal.write_lowered-requires-clause-lowered
write_lowered-requires-clause-lowered c =
    let t = c.requires.typed in
    (t.0, c.args.nodes, t.1, c.in-Ok.ensures t.0 (tree c.args.body.now.term) t.1)

pub returns-in-Err : goal.returns-in-Err
returns-in-Err c = λ b same t.
    let m = module_data c.args.given.now in
    let d = m.source.dialect in
    let body = c.args.body.now in
    let typing = typing_is m b body.tokens.items (plain_reading body.reading) (tree body.term)
    c.requires.body c.args.typed.now t in
    let refused = subst (λ (n : ℕ). IsRewriting d.set (subjects_in d.language.forms) no_hypotheses
    t.answer.0 n (Err c.in-Err.error)) (sym same)
    (c.in-Err.ensures b.tries (tree body.term) t) in
    subst (λ (e : ModuleError). IsBadModule m b e) (sym c.rewrite_error.ensures)
    (unlowered_bad m b c.in-Err.error (typing, refused))

pub returns-in-Ok : goal.returns-in-Ok
returns-in-Ok c = λ b same t.
    let d = (module_data c.args.given.now).source.dialect in
    c.write_lowered.ensures b t
    (subst (λ (n : ℕ). IsLowering d t.answer.0 n c.in-Ok.lowering) (sym same)
    (c.in-Ok.ensures b.tries (tree c.args.body.now.term) t))
