use Rattle.std.proofs.Common.{List, map, unwrap_or, option_map, [], ◌∷◌, ◌+◌, sym, subst, ap, ◌∙◌}
use Rattle.std.proofs.lemmas.List.{map-append}
use Rattle.sx_term.specs.Tree.{Tree}
use Rattle.sx_term.specs.Term.{tree}
use Rattle.sx_rules.specs.Views.{is_out}
use Rattle.sx_notation.specs.Placed.{shown_term}
use Rattle.sx_notation.proofs.Filling.{Filled, past_input, past_output, is_no_output}
use Rattle.sx_notation.proofs.content.contents.Goals as goal
use Rattle.sx_notation.proofs.content.contents.Goals.{in-In+in_ok-push-in-In, in-Out+in_ok-push-in-Out}

pub loop-place-preserved : goal.loop-place-preserved
loop-place-preserved c =
    let ps = c.args.places.now in
    let ins = map tree c.args.inputs.now in
    let os : List Tree = unwrap_or (option_map (λ w. map tree w.now.items) c.args.outputs) [] in
    let k = c.loop-place.place-index in
    let i = c.loop-place.input in
    let j = c.loop-place.output in
    let here = c.loop-place.here.items in
    let before = c.loop-place.invariant in
    let lt = c.loop-place-test.true in
    elim c.match-place.branch [
      | in-In+in_ok-push-in-In w ↦
          let e = ap (map shown_term) (ap (λ v. v.items) w.here-is ∙ w.in_ok-push-in-In.ensures.items) ∙ map-append shown_term here (w.term_in.result ∷ []) in
          subst (λ m. Filled ps ins os (k + 1) m c.match-place.output (map shown_term c.match-place.here.items)) (sym w.input-is)
          (subst (λ m. Filled ps ins os (k + 1) (i + 1) m (map shown_term c.match-place.here.items)) (sym w.output-is)
          (subst (λ x. Filled ps ins os (k + 1) (i + 1) j x) (sym e) (past_input ps ins os k i j _ (map shown_term here) _ before lt (is_no_output _ w.in-In.is) w.term_in.ensures)))
      | in-Out+in_ok-push-in-Out w ↦
          let e = ap (map shown_term) (ap (λ v. v.items) w.here-is ∙ w.in_ok-push-in-Out.ensures.items) ∙ map-append shown_term here (w.term_at.result ∷ []) in
          subst (λ m. Filled ps ins os (k + 1) m c.match-place.output (map shown_term c.match-place.here.items)) (sym w.input-is)
          (subst (λ m. Filled ps ins os (k + 1) i m (map shown_term c.match-place.here.items)) (sym w.output-is)
          (subst (λ x. Filled ps ins os (k + 1) i (j + 1) x) (sym e) (past_output ps ins os k i j _ (map shown_term here) _ before lt (ap is_out w.in-Out.is) w.term_at.ensures)))
    ]
