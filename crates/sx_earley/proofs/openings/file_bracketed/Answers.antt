use Rattle.std.proofs.Common.{◌≡◌, ◌∙◌, ℕ, sym, ap, subst, length, arith}
use Rattle.std.proofs.lemmas.List.{length-map}
use Rattle.sx_grammar.specs.Parts.{numbered_sort}
use Rattle.sx_earley.specs.Shown.{plain}
use Rattle.sx_earley.specs.Openings.{AreFiled, IsBelow}
use Rattle.sx_earley.proofs.Opened.{filed_sort}
use Rattle.sx_earley.proofs.openings.file_bracketed.Goals as goal

pub loop-sort-init : goal.loop-sort-init
loop-sort-init c = c.requires

pub loop-sort-preserved : goal.loop-sort-preserved
loop-sort-preserved c =
    let d = c.args.grammar.now in
    filed_sort d (length (plain d).productions) c.loop-sort.sort c.loop-sort.table c.file_opening.new.table c.loop-sort.invariant c.in_ok-file_opening.ensures

pub returns : goal.returns
returns c =
    let d = c.args.grammar.now in
    let same : length (plain d).sorts ≡ length c.parts.result.now.sorts.items = length-map d.parts.sorts numbered_sort ∙ ap (λ p. length p.sorts) (sym c.parts.ensures) in
    let end : c.loop-sort.sort ≡ length (plain d).sorts = omega arith in
    subst (λ (n : ℕ). AreFiled d (IsBelow (length (plain d).productions) n) c.loop-sort.table) end c.loop-sort.invariant
