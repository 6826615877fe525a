-- Levels of at most 99.
use Rattle.std.proofs.Common.{◌≡◌, ℕ, zero, suc, ◌<◌, ◌≤◌, ◌^◌, List, [], ◌∷◌, Some, None, Bool, true, false, ◌||◌, ◌&&◌, not, ap, refl, sym, subst, ◌∙◌, ◌↔◌, length, map, arith, Contains}
use Rattle.std.specs.Prelude.{slice_get, option_map}
use Rattle.std.specs.List.{list_any}
use Rattle.std.proofs.lemmas.Bool.{ltb-false, le-ltb}
use Rattle.std.proofs.lemmas.List.{length-map}
use Rattle.std.proofs.lemmas.Option.{slice_get-get_or, slice_get-map}
use Rattle.sx_grammar.specs.declared.symbol.Symbol.{Symbol}
use Rattle.sx_grammar.specs.declared.symbol.Symbol.TheVariants.{Lit, Lex, Part}
use Rattle.sx_grammar.specs.declared.production.Production.{Production}
use Rattle.sx_grammar.specs.declared.grammar_parts.GrammarParts.{GrammarParts}
use Rattle.sx_grammar.specs.Grammar.{Text}
use Rattle.sx_grammar.specs.Parts.{Line, parts, line, literals}
use Rattle.sx_grammar.specs.Tables.{HasGoodLevels, IsWithinLimits}
use Rattle.sx_grammar.specs.High.{asks_high, is_high}
use Rattle.sx_grammar.proofs.Finding.{at_contains, mapped_at}

or_false : (a b : Bool) → (a || b) ≡ false → (a ≡ false) × (b ≡ false)
or_false true b e = let clash : true ≡ false = e in cc
or_false false b e = (refl, e)

false_or : (a b : Bool) → a ≡ false → b ≡ false → (a || b) ≡ false
false_or true b e f = let clash : true ≡ false = e in cc
false_or false b e f = f

none_at : {X : Type 0} (f : X → Bool) (xs : List X) (k : ℕ) (x : X) → list_any f xs ≡ false → slice_get xs k ≡ Some x → f x ≡ false
none_at f [] k x none at = let clash : None ≡ Some x = at in cc
none_at f (y ∷ ys) zero x none at = let same : y ≡ x = cc in ap f (sym same) ∙ (or_false (f y) (list_any f ys) none).0
none_at f (y ∷ ys) (suc k) x none at = none_at f ys k x (or_false (f y) (list_any f ys) none).1 at

none_from : {X : Type 0} (f : X → Bool) (xs : List X) → ((k : ℕ) (x : X) → slice_get xs k ≡ Some x → f x ≡ false) → list_any f xs ≡ false
none_from f [] each = refl
none_from f (y ∷ ys) each = false_or (f y) (list_any f ys) (each 0 y refl) (none_from f ys (λ k x at. each (suc k) x at))

stands_at : {X : Type 0} (xs : List X) (x : X) → Contains xs x → (k : ℕ) × (slice_get xs k ≡ Some x)
stands_at xs x has = (has.0, slice_get-get_or xs has.0 x has.1 ∙ ap Some has.2)

low_symbol : (s : Symbol) → ((name : Text) (least : ℕ) → s ≡ Part name least → least ≤ 99) → asks_high s ≡ false
low_symbol (Lit text) low = refl
low_symbol (Lex kind) low = refl
low_symbol (Part sort least) low = le-ltb 99 least (low sort least refl)

pub good_from : (ps : List Production) → list_any is_high ps ≡ false → (p : GrammarParts) → p.productions.items ≡ ps → HasGoodLevels (parts p)
good_from ps none p e =
    let low : (r : Line) → Contains (map line p.productions.items) r → (r.level ≤ 99) × ((name : Text) (least : ℕ) → Contains r.symbols (Part name least) → least ≤ 99) =
    λ r has.
    let there = stands_at (map line p.productions.items) r has in
    let from = mapped_at line p.productions.items there.0 r there.1 in
    let q = from.0 in
    let lows = or_false _ _ (none_at is_high ps there.0 q none (ap (λ l. slice_get l there.0) (sym e) ∙ from.1)) in (
      subst (λ r. r.level ≤ 99) from.2 (ltb-false 99 q.level lows.0),
      λ name least part.
          let at = stands_at q.symbols.items (Part name least) (subst (λ r. Contains r.symbols (Part name least)) (sym from.2) part) in
          ltb-false 99 least (none_at asks_high q.symbols.items at.0 (Part name least) lows.1 at.1),
    ) in
    record { levels = λ r has. (low r has).0; asked = λ r name least has part. (low r has).1 name least part }

pub none_high : (p : GrammarParts) → HasGoodLevels (parts p) → list_any is_high p.productions.items ≡ false
none_high p good = none_from is_high p.productions.items
    (λ k q at.
    let has = at_contains (map line p.productions.items) k (line q) (slice_get-map line p.productions.items k ∙ ap (option_map line) at) in
    false_or _ _ (le-ltb 99 q.level (good.levels (line q) has))
    (none_from asks_high q.symbols.items (λ j s there. low_symbol s (λ name least e. good.asked (line q) name least has (at_contains q.symbols.items j (Part name least) (there ∙ ap Some e))))))

-- the numbers of sorts, productions and literals, and the levels, are within the limits exactly where the tests say so
pub within_exactly : (p : GrammarParts) (few high : Bool) → (few ≡ true → (length p.sorts.items < 2 ^ 32) × (length p.productions.items < 2 ^ 32) × (length (literals (parts p)) < 2 ^ 32))
    → ((length p.sorts.items < 2 ^ 32) × (length p.productions.items < 2 ^ 32) × (length (literals (parts p)) < 2 ^ 32) → few ≡ true)
    → (few ≡ true → high ≡ list_any is_high p.productions.items) → (few && not high ≡ true) ↔ IsWithinLimits (parts p)
within_exactly p true true few back same = (
  λ yes. (let clash : false ≡ true = yes in cc),
  λ within. (let clash : true ≡ false = same refl ∙ none_high p within.levels in cc),
)
within_exactly p true false few back same = (
  λ yes. record {
    sorts = (few refl).0;
    productions = (let h = (few refl).1 in omega (arith, h, length-map p.productions.items line));
    literals = (few refl).2;
    levels = good_from p.productions.items (sym (same refl)) p refl;
  },
  λ within. refl,
)
within_exactly p false high few back same = (
  λ yes. (let clash : false ≡ true = yes in cc),
  λ within. back (within.sorts, (let h = within.productions in omega (arith, h, length-map p.productions.items line)), within.literals),
)
