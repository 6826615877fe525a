use Rattle.std.proofs.Common.{ℕ, ◌-◌, List, ◌∷◌, length, take, drop, sym, subst}
use Rattle.sx_term.specs.Term.{tree}
use Rattle.sx_core.specs.declared.terms_row.RowError.{RowError}
use Rattle.sx_core.specs.TermsText.{OneRead, OneRefused}
use Rattle.sx_core.proofs.TermsLaws.{front_taken, one_ok, one_refused}
use Rattle.sx_core.proofs.terms_row.read_one.Goals as goal

pub returns-in-Ok : goal.returns-in-Ok
returns-in-Ok c =
    let bytes = take (length c.args.rest.now - 1) (drop 1 c.args.rest.now) in
    subst (λ (x : List ℕ). OneRead x (tree c.in-Ok.term) c.split_at.result.1.now) (sym (front_taken c.args.rest.now 32 c.in-len1-up.len_at_least c.if-first-ne32.false))
    (subst (λ (y : List ℕ). OneRead (32 ∷ bytes) (tree c.in-Ok.term) y) (sym c.split_at.ensures.back) (one_ok bytes c.in-Ok.end (tree c.in-Ok.term) c.in-Ok.ensures.0 c.in-Ok.ensures.1))

pub returns-in-Err : goal.returns-in-Err
returns-in-Err c =
    let bytes = take (length c.args.rest.now - 1) (drop 1 c.args.rest.now) in
    subst (λ (x : List ℕ). OneRefused x c.row_error.result) (sym (front_taken c.args.rest.now 32 c.in-len1-up.len_at_least c.if-first-ne32.false))
    (subst (λ (y : RowError). OneRefused (32 ∷ bytes) y) (sym c.row_error.ensures) (one_refused bytes c.in-Err.e c.in-Err.ensures))
