use Rattle.std.proofs.Common.{◌∙◌, sym, inl, inr, ap, refl, ⊎_elim}
use Rattle.sx_grammar.specs.Grammar.{production_of}
use Rattle.sx_earley.specs.declared.opening.Opening.{Opening}
use Rattle.sx_earley.specs.declared.slot.Slot.{Slot}
use Rattle.sx_earley.specs.Shown.{plain}
use Rattle.sx_earley.proofs.Opened.{opening_of, nothing_made}
use Rattle.sx_earley.proofs.openings.file_opening.Goals as goal

pub returns : goal.returns
returns c =
    let opening : Opening = record { head = c.args.head; level = c.in-Some.level; first = c.symbol_of-first.result } in
    inl (record {
      sort = c.in-Some.sort;
      opening = opening;
      is = opening_of c.args.grammar.now opening c.in-Some.sort (sym c.in-Some.is ∙ c.made_by.ensures)
          (record { is = c.symbol_of-first.ensures.is; below = c.symbol_of-first.ensures.below; small = c.symbol_of-first.ensures.small });
      same_head = refl;
      row = c.in_ok-file.ensures.row;
      rows = λ other. ⊎_elim (λ same. inl same) (λ e. inr (ap (λ (s : Slot). s.sort) e)) (c.in_ok-file.ensures.rows (record { place = 0; sort = other }));
    })

pub returns-in_default : goal.returns-in_default
returns-in_default c = inr (nothing_made (production_of (plain c.args.grammar.now) c.args.head) (sym c.in_default.is ∙ c.made_by.ensures), refl)
