-- Numbered productions and lines, and plain productions with typed parts.
use Rattle.std.proofs.Common.{◌≡◌, ℕ, zero, suc, ◌<◌, List, [], ◌∷◌, length, map, Bool, true, false, not, ◌&&◌, ◌||◌, ◌↔◌, Some, sym, refl, ap, ◌∙◌, subst, get_or}
use Rattle.std.specs.Prelude.{slice_get, option_map, None}
use Rattle.std.specs.List.{list_any}
use Rattle.std.proofs.lemmas.Bool.{false≢true}
use Rattle.std.proofs.lemmas.Option.{slice_get-map, slice_get_read}
use Rattle.sx_grammar.specs.declared.symbol.Symbol.TheVariants.{Part}
use Rattle.sx_grammar.specs.declared.production.Production.{Production as DeclaredProduction}
use Rattle.sx_grammar.specs.declared.numbered.NumberedSymbol.{NumberedSymbol}
use Rattle.sx_grammar.specs.declared.numbered.NumberedSymbol.TheVariants as Numbered
use Rattle.sx_grammar.specs.declared.numbered.NumberedProduction.{NumberedProduction}
use Rattle.sx_grammar.specs.declared.sort_line.SortLine.{SortLine}
use Rattle.sx_grammar.specs.Grammar.{Text, part}
use Rattle.sx_grammar.specs.Parts.{Line, Parts, line, names, number_of, numbered_symbol, numbered_line}
use Rattle.sx_grammar.specs.Numbered.{symbol, production}
use Rattle.sx_grammar.specs.Made.{HasKnownSorts, IsTyped, MixesSorts}
use Rattle.sx_grammar.specs.Tables.{literals_of, AreNumbered}
use Rattle.sx_grammar.specs.Told.{is_typed}
use Rattle.sx_grammar.specs.Levels.{is_typed_part, mixes}
use Rattle.sx_grammar.proofs.Finding.{at_contains, contains_place, mapped_at}
use Rattle.sx_grammar.proofs.Linking.{is_part}
use Rattle.sx_grammar.proofs.GrammarLaws.{part_from, own_place, part_place}

-- a numbered production and its line
pub line_is : (p : Parts) (ps : List NumberedProduction) (i : ℕ) (q : NumberedProduction) (r : Line) → AreNumbered p ps → slice_get ps i ≡ Some q → slice_get p.productions i ≡ Some r
    → production (literals_of p) q ≡ numbered_line (names p) r
line_is p ps i q r same at here =
    let left = slice_get-map (production (literals_of p)) ps i ∙ ap (option_map (production (literals_of p))) at in
    let right = slice_get-map (numbered_line (names p)) p.productions i ∙ ap (option_map (numbered_line (names p))) here in
    let both : Some (production (literals_of p) q) ≡ Some (numbered_line (names p) r) = sym left ∙ ap (λ l. slice_get l i) same ∙ right in
    cc

-- the line of a numbered production
pub line_of : (p : Parts) (ps : List NumberedProduction) (i : ℕ) (q : NumberedProduction) → AreNumbered p ps → slice_get ps i ≡ Some q
    → (r : Line) × (slice_get p.productions i ≡ Some r) × (numbered_line (names p) r ≡ production (literals_of p) q)
line_of p ps i q same at =
    mapped_at (numbered_line (names p)) p.productions i (production (literals_of p) q)
    (ap (λ l. slice_get l i) (sym same) ∙ slice_get-map (production (literals_of p)) ps i ∙ ap (option_map (production (literals_of p))) at)

-- the numbered production of a line
pub production_of_line : (p : Parts) (ps : List NumberedProduction) (i : ℕ) (r : Line) → AreNumbered p ps → slice_get p.productions i ≡ Some r
    → (q : NumberedProduction) × (slice_get ps i ≡ Some q) × (production (literals_of p) q ≡ numbered_line (names p) r)
production_of_line p ps i r same at =
    mapped_at (production (literals_of p)) ps i (numbered_line (names p) r)
    (ap (λ l. slice_get l i) same ∙ slice_get-map (numbered_line (names p)) p.productions i ∙ ap (option_map (numbered_line (names p))) at)

-- a part of a numbered production is a part of its line, by the sort's name
pub part_of_line : (p : Parts) (q : NumberedProduction) (r : Line) (k sort least : ℕ) → production (literals_of p) q ≡ numbered_line (names p) r → slice_get q.symbols.items k ≡ Some (Numbered.Part sort least)
    → (name : Text) × (slice_get r.symbols k ≡ Some (Part name least)) × (number_of (names p) name ≡ sort)
part_of_line p q r k sort least is at =
    let there : slice_get (map (numbered_symbol (names p)) r.symbols) k ≡ Some (part sort least) =
    ap (λ l. slice_get l.symbols k) (sym is) ∙ slice_get-map (symbol (literals_of p)) q.symbols.items k ∙ ap (option_map (symbol (literals_of p))) at in
    let found = mapped_at (numbered_symbol (names p)) r.symbols k (part sort least) there in
    let named = part_from (names p) found.0 sort least found.2 in
    (named.0, found.1 ∙ ap Some named.1, named.2)

-- and the other way round
pub part_of_production : (p : Parts) (q : NumberedProduction) (r : Line) (k least : ℕ) (name : Text) → production (literals_of p) q ≡ numbered_line (names p) r → slice_get r.symbols k ≡ Some (Part name least)
    → slice_get q.symbols.items k ≡ Some (Numbered.Part (number_of (names p) name) least)
part_of_production p q r k least name is at =
    let there : slice_get (map (symbol (literals_of p)) q.symbols.items) k ≡ Some (part (number_of (names p) name) least) =
    ap (λ l. slice_get l.symbols k) is ∙ slice_get-map (numbered_symbol (names p)) r.symbols k ∙ ap (option_map (numbered_symbol (names p))) at in
    let found = mapped_at (symbol (literals_of p)) q.symbols.items k (part (number_of (names p) name) least) there in
    found.1 ∙ ap Some (is_part (literals_of p) found.0 (number_of (names p) name) least found.2)

-- the sort with this name and number is typed or not, by either
pub typed_by_name : (p : Parts) (n : ℕ) (name : Text) (b : Bool) → slice_get (names p) n ≡ Some name → is_typed (slice_get p.sorts n) ≡ b → IsTyped p name b
typed_by_name p n name b at is =
    let s = mapped_at (λ s. s.name) p.sorts n name at in
    (s.0, at_contains p.sorts n s.0 s.1, s.2, sym (ap is_typed s.1) ∙ is)

pub typed_by_number : (p : Parts) (n : ℕ) (name : Text) (b : Bool) → HasKnownSorts p → slice_get (names p) n ≡ Some name → IsTyped p name b → is_typed (slice_get p.sorts n) ≡ b
typed_by_number p n name b known at is =
    let place = contains_place p.sorts is.0 is.1 in
    let there : slice_get (names p) place.0 ≡ Some name = slice_get-map (λ s. s.name) p.sorts place.0 ∙ ap (option_map (λ s. s.name)) place.1 ∙ ap Some is.2 in
    let same : place.0 ≡ n = known.0.1 place.0 n name there at in
    ap (λ m. is_typed (slice_get p.sorts m)) (sym same) ∙ ap is_typed place.1 ∙ is.3

module _ {X : Type 0} where
  pub any_at : (f : X → Bool) (xs : List X) → list_any f xs ≡ true → (k : ℕ) × (x : X) × (slice_get xs k ≡ Some x) × (f x ≡ true)
  any_at f [] e = absurd (false≢true e)
  any_at f (x ∷ xs) e = at_first (f x) refl (any_at f xs)
    where
      at_first : (b : Bool) → f x ≡ b → (list_any f xs ≡ true → (k : ℕ) × (y : X) × (slice_get xs k ≡ Some y) × (f y ≡ true)) → (k : ℕ) × (y : X) × (slice_get (x ∷ xs) k ≡ Some y) × (f y ≡ true)
      at_first true t rest = (zero, x, refl, t)
      at_first false t rest = let more = rest (sym (ap (λ (c : Bool). c || list_any f xs) t) ∙ e) in (suc more.0, more.1, more.2, more.3)

  pub any_of : (f : X → Bool) (xs : List X) (k : ℕ) (x : X) → slice_get xs k ≡ Some x → f x ≡ true → list_any f xs ≡ true
  any_of f [] k x at is = let clash : None ≡ Some x = at in cc
  any_of f (y ∷ xs) zero x at is =
      let same : y ≡ x = cc in
      ap (λ (c : Bool). c || list_any f xs) (ap f same ∙ is)
  any_of f (y ∷ xs) (suc k) x at is = or_right (f y) (list_any f xs) (any_of f xs k x at is)
    where
      or_right : (a b : Bool) → b ≡ true → (a || b) ≡ true
      or_right true b e = refl
      or_right false b e = e

and_both : (a b : Bool) → (not a && b) ≡ true → (a ≡ false) × (b ≡ true)
and_both true b e = absurd (false≢true e)
and_both false b e = (refl, e)

both_and : (a b : Bool) → a ≡ false → b ≡ true → (not a && b) ≡ true
both_and true b e f = absurd (false≢true (sym e))
both_and false b e f = f

typed_part : (sorts : List SortLine) (s : NumberedSymbol) → is_typed_part sorts s ≡ true → (sort : ℕ) × (least : ℕ) × (s ≡ Numbered.Part sort least) × (is_typed (slice_get sorts sort) ≡ true)
typed_part sorts (Numbered.Lit n) e = absurd (false≢true e)
typed_part sorts (Numbered.Lex k) e = absurd (false≢true e)
typed_part sorts (Numbered.Part sort least) e = (sort, least, refl, e)

-- the test tells which productions are plain and have typed parts
pub mixes_is : (p : Parts) (ps : List NumberedProduction) (i : ℕ) (q : NumberedProduction) (r : Line) → HasKnownSorts p → AreNumbered p ps → slice_get ps i ≡ Some q → slice_get p.productions i ≡ Some r
    → (mixes p.sorts q ≡ true) ↔ MixesSorts p r
mixes_is p ps i q r known same at here =
    let is = line_is p ps i q r same at here in
    let has = at_contains p.productions i r here in
    let own : slice_get (names p) q.sort ≡ Some r.sort = ap (slice_get (names p)) (ap (λ l. l.sort) is) ∙ own_place p known.1 r has in (
      λ test.
          let both = and_both (is_typed (slice_get p.sorts q.sort)) (list_any (is_typed_part p.sorts) q.symbols.items) test in
          let found = any_at (is_typed_part p.sorts) q.symbols.items both.1 in
          let typed = typed_part p.sorts found.1 found.3 in
          let named = part_of_line p q r found.0 typed.0 typed.1 is (found.2 ∙ ap Some typed.2) in
          let part_has = at_contains r.symbols found.0 (Part named.0 typed.1) named.1 in
          let place : slice_get (names p) typed.0 ≡ Some named.0 = subst (λ n. slice_get (names p) n ≡ Some named.0) named.2 (part_place p known.1 r named.0 typed.1 has part_has) in
          (typed_by_name p q.sort r.sort false own both.0, (named.0, typed.1, part_has, typed_by_name p typed.0 named.0 true place typed.3)),
      λ mixed.
          let part_has = mixed.1 in
          let k = contains_place r.symbols (Part part_has.0 part_has.1) part_has.2 in
          let there = part_of_production p q r k.0 part_has.1 part_has.0 is k.1 in
          let place = part_place p known.1 r part_has.0 part_has.1 has part_has.2 in
          both_and (is_typed (slice_get p.sorts q.sort)) (list_any (is_typed_part p.sorts) q.symbols.items)
          (typed_by_number p q.sort r.sort false known own mixed.0)
          (any_of (is_typed_part p.sorts) q.symbols.items k.0 (Numbered.Part (number_of (names p) part_has.0) part_has.1) there (typed_by_number p (number_of (names p) part_has.0) part_has.0 true known place part_has.3)),
    )

-- the line of a production that stands at a place
pub line_at : (rs : List DeclaredProduction) (i : ℕ) (r : DeclaredProduction) → i < length rs → r ≡ get_or rs i r → slice_get (map line rs) i ≡ Some (line r)
line_at rs i r lt is = slice_get-map line rs i ∙ ap (option_map line) (slice_get_read rs (length rs) i r refl lt is)
