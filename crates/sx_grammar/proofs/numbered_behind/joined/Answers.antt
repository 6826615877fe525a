use Rattle.std.proofs.Common.{◌∙◌, ◌++◌, ap, map, sym}
use Rattle.std.proofs.lemmas.List.{map-append}
use Rattle.sx_grammar.specs.Numbered.{bare}
use Rattle.sx_grammar.proofs.numbered_behind.joined.Goals as goal

pub returns-in-Ok-move_behind : goal.returns-in-Ok-move_behind
returns-in-Ok-move_behind c =
    let more = c.args.more.items in
    ap (map bare) c.in-Ok-move_behind.ensures ∙ map-append bare c.in-Ok.all.items more ∙ ap (λ l. l ++ map bare more) c.in-Ok.ensures ∙ sym (map-append bare c.args.before.now more)
