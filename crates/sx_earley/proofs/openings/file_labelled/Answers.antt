use Rattle.std.proofs.Common.{◌≡◌, ◌∙◌, ℕ, sym, ap, subst, length, arith}
use Rattle.std.proofs.lemmas.List.{length-map}
use Rattle.sx_grammar.specs.Numbered.{production}
use Rattle.sx_earley.specs.Shown.{plain, literal_texts}
use Rattle.sx_earley.specs.Openings.{AreFiled, IsBelow}
use Rattle.sx_earley.proofs.Opened.{filed_none, filed_label}
use Rattle.sx_earley.proofs.openings.file_labelled.Goals as goal

pub loop-label-init : goal.loop-label-init
loop-label-init c = filed_none c.args.grammar.now c.args.table.now c.requires

pub loop-label-preserved : goal.loop-label-preserved
loop-label-preserved c = filed_label c.args.grammar.now c.loop-label.label c.loop-label.table c.file_opening.new.table c.loop-label.invariant c.in_ok-file_opening.ensures

pub returns : goal.returns
returns c =
    let d = c.args.grammar.now in
    let same : length (plain d).productions ≡ length c.productions-productions.result.now = ap length (sym c.productions-productions.ensures.same) ∙ length-map c.productions-productions.result.now (production (literal_texts d)) in
    let end : c.loop-label.label ≡ length (plain d).productions = omega arith in
    subst (λ (n : ℕ). AreFiled d (IsBelow n 0) c.loop-label.table) end c.loop-label.invariant
