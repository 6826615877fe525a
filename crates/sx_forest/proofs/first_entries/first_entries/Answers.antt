use Rattle.std.proofs.Common.{◌≡◌, ⊎_elim, ◌∙◌, length, arith}
use Rattle.std.proofs.lemmas.Bool.{cases_lt}
use Rattle.std.proofs.lemmas.List.{length-map}
use Rattle.sx_earley.specs.Shown.{literal_texts, token_of, tokens_of}
use Rattle.sx_forest.proofs.Filling.{first_put, first_past}
use Rattle.sx_forest.proofs.first_entries.first_entries.Goals as goal

pub loop-place-preserved : goal.loop-place-preserved
loop-place-preserved c =
    let so = c.loop-place.invariant in let put = c.add_variable.ensures in
    let old = c.loop-place.table.lists.items in let new = c.add_variable.new.table.lists.items in
    record {
      long = put.same ∙ so.long;
      done = λ d. first_put (tokens_of d c.args.shown.now) c.loop-place.place old new (so.done d) (c.in_ok-add_variable.ensures.there d) put.others;
      left = λ p high. put.others p (λ e. omega arith) ∙ so.left p (omega arith);
    }

pub returns : goal.returns
returns c = λ d.
    let so = c.loop-place.invariant in let ts = tokens_of d c.args.shown.now in
    let long : length ts ≡ length c.args.shown.now = length-map c.args.shown.now (token_of (literal_texts d)) in
    let end = c.loop-place-test.false in
    record {
      long = so.long;
      each = λ p low. ⊎_elim (λ below. so.done d p below)
          (λ above. first_past ts p _ (omega (arith, long, above, end)) (so.left p above)) (cases_lt p c.loop-place.place);
    }

pub add_variable-requires-clause-none : goal.add_variable-requires-clause-none
add_variable-requires-clause-none c = c.loop-place.invariant.left c.loop-place.place (omega arith)
