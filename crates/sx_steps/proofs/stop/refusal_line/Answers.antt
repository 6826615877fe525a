use Rattle.std.proofs.Common.{ℕ, List, ◌++◌, ap, ◌∙◌}
use Rattle.sx_words.specs.Lines.{line_text}
use Rattle.sx_words.specs.RefusalText.{refusal_text}
use Rattle.sx_steps.proofs.stop.refusal_line.Goals as goal

pub returns : goal.returns
returns c =
    let text = line_text c.args.file.now (refusal_text c.args.refusal.now) in
    c.in_ok-write_refusal.ensures.ok
    ∙ ap (λ (front : List ℕ). front ++ text) c.new-line.ensures.items
