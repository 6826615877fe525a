-- What begins for the part after the dot.
use Rattle.std.proofs.Common.{◌≡◌, ◌∙◌, sym, subst, ℕ, Some, None}
use Rattle.std.proofs.lemmas.Option.{none-some, some_pair_parts}
use Rattle.sx_grammar.specs.Grammar.{Grammar}
use Rattle.sx_grammar.specs.declared.item.Item.{Item}
use Rattle.sx_earley.specs.Chart.{Foresees, IsPredicted, next_symbol, as_part}

module _ (g : Grammar) (item : Item) where
  module _ (sort least : ℕ) (waits : Some (sort, least) ≡ as_part (next_symbol g item.head item.dot)) where
    pub to_foreseen : (i : Item) → IsPredicted g sort least item.end i → Foresees g item i
    to_foreseen i p = record { sort = sort; least = least; waits = sym waits; fits = p }

    pub from_foreseen : (i : Item) → Foresees g item i → IsPredicted g sort least item.end i
    from_foreseen i f =
        let e = some_pair_parts f.sort sort f.least least (sym f.waits ∙ sym waits) in
        subst (λ (s : ℕ). IsPredicted g s least item.end i) e.0 (subst (λ (l : ℕ). IsPredicted g f.sort l item.end i) e.1 f.fits)

  -- where the item waits for no part, nothing does
  pub none_foreseen : None ≡ as_part (next_symbol g item.head item.dot) → (i : Item) → Foresees g item i → ⊥
  none_foreseen none i f = none-some (f.sort, f.least) (none ∙ f.waits)
