use Rattle.std.proofs.Common.{subst, sym, ap, map, ◌∙◌}
use Rattle.sx_grammar.specs.Parts.{line, parts, names, sorts_named, texts}
use Rattle.sx_grammar.specs.Standing.{sorts_in}
use Rattle.sx_grammar.specs.Made.{IsUnknownSort, IsFirstWith, HasNone}
use Rattle.sx_grammar.proofs.checks.known_sorts.Goals as goal

pub returns-in-Some-clause-refused : goal.returns-in-Some-clause-refused
returns-in-Some-clause-refused c =
    let p = parts c.args.from.now in
    let listed = ap texts c.deref-2.ensures.value ∙ c.in_ok-named.ensures ∙ ap (λ l. sorts_in (map line l)) c.deref.ensures.value in (
      c.requires.sorts,
      subst (λ t. IsFirstWith (IsUnknownSort (names p)) (sorts_named p) t) (sym c.in_ok-copy.ensures)
          (subst (λ l. IsFirstWith (IsUnknownSort (names p)) l c.in-Some.name.now) listed
          (subst (λ ns. IsFirstWith (IsUnknownSort ns) (texts c.deref-2.result.now) c.in-Some.name.now) c.requires.names c.in-Some.ensures)),
    )

pub returns-clause-good : goal.returns-clause-good
returns-clause-good c =
    let p = parts c.args.from.now in
    let listed = ap texts c.deref-2.ensures.value ∙ c.in_ok-named.ensures ∙ ap (λ l. sorts_in (map line l)) c.deref.ensures.value in
    (c.requires.sorts, subst (HasNone (IsUnknownSort (names p))) listed (subst (λ ns. HasNone (IsUnknownSort ns) (texts c.deref-2.result.now)) c.requires.names c.in_default.ensures))
