-- Plain productions of a grammar have no typed part.
use Rattle.std.proofs.Common.{◌≡◌, ℕ, inl, Bool, true, false, cond, List, [], ◌∷◌, map, Some}
use Rattle.std.proofs.Common.{Contains, refl, ap, ◌∙◌, sym, subst}
use Rattle.std.specs.Prelude.{slice_get, flat_map}
use Rattle.sx_term.specs.declared.sort.Sort.TheVariants as TheSort
use Rattle.sx_term.specs.Sorts.{Shape}
use Rattle.sx_term.specs.Untyped.{IsUntypedSort, AreUntypedSorts, PlainHaveNoTyped}
use Rattle.sx_grammar.specs.declared.symbol.Symbol as declared
use Rattle.sx_grammar.specs.declared.symbol.Symbol.TheVariants as names_of
use Rattle.sx_grammar.specs.declared.sort_line.SortLine.{SortLine}
use Rattle.sx_grammar.specs.Grammar.{Text}
use Rattle.sx_grammar.specs.Parts.{Line, Parts, names, number_of, numbered, numbered_symbol}
use Rattle.sx_grammar.specs.Parts.{numbered_line, symbol_sorts, sorts_named}
use Rattle.sx_grammar.specs.Made.{IsTyped, IsGrammar}
use Rattle.sx_grammar.specs.Told.{is_typed, sort_with, kid_sorts, shape_of, shapes_of}
use Rattle.sx_grammar.proofs.Finding.{at_contains, is_head, past_head, in_flat_map, mapped_at}
use Rattle.sx_grammar.proofs.Finding.{named_at}

-- a sort is typed where its line says so
says_typed : (b : Bool) (n k : ℕ) → cond b (TheSort.Typed n) (TheSort.Plain n) ≡ TheSort.Typed k →
    b ≡ true
says_typed true n k e = refl
says_typed false n k e = let q : TheSort.Plain n ≡ TheSort.Typed k = e in cc

module _ (p : Parts) (is : IsGrammar p) where
  -- the line of a sort that is named
  line_named : (name : Text) → Contains (sorts_named p) name → (s : SortLine) ×
      (slice_get p.sorts (number_of (names p) name) ≡ Some s) × (s.name ≡ name)
  line_named name has = mapped_at (λ s. s.name) p.sorts (number_of (names p) name) name
      (named_at (names p) name (λ missing. is.0.0.0.0.1 name has (inl missing)))

  says : (name : Text) (b : Bool) → Contains (sorts_named p) name →
      is_typed (slice_get p.sorts (number_of (names p) name)) ≡ b → IsTyped p name b
  says name b has e = let s = line_named name has in
      (s.0, at_contains p.sorts (number_of (names p) name) s.0 s.1, s.2, sym (ap is_typed s.1) ∙ e)

  says_plain : (name : Text) → Contains (sorts_named p) name →
      IsUntypedSort (sort_with p.sorts (number_of (names p) name)) → IsTyped p name false
  says_plain name has plain = by (is_typed (slice_get p.sorts (number_of (names p) name))) refl
    where
      by : (b : Bool) → is_typed (slice_get p.sorts (number_of (names p) name)) ≡ b →
          IsTyped p name false
      by true e = absurd (plain (number_of (names p) name)
          (ap (λ (b : Bool). cond b (TheSort.Typed (number_of (names p) name))
          (TheSort.Plain (number_of (names p) name))) e))
      by false e = says name false has e

  module _ (l : Line) (has : Contains p.productions l) where
    part_named : (name : Text) (least : ℕ) → Contains l.symbols (names_of.Part name least) →
        Contains (sorts_named p) name
    part_named name least here =
        in_flat_map (λ x. x.sort ∷ flat_map symbol_sorts x.symbols) p.productions l name has
        (past_head l.sort (flat_map symbol_sorts l.symbols) name
        (in_flat_map symbol_sorts l.symbols (names_of.Part name least) name here
        (is_head name [])))

    own_named : Contains (sorts_named p) l.sort
    own_named = in_flat_map (λ x. x.sort ∷ flat_map symbol_sorts x.symbols) p.productions l l.sort
        has (is_head l.sort (flat_map symbol_sorts l.symbols))

    part_untyped : IsTyped p l.sort false → (name : Text) (least : ℕ) →
        Contains l.symbols (names_of.Part name least) →
        IsUntypedSort (sort_with p.sorts (number_of (names p) name))
    part_untyped plain name least here k e =
        let n = number_of (names p) name in
        let typed : is_typed (slice_get p.sorts n) ≡ true =
        says_typed (is_typed (slice_get p.sorts n)) n k e in
        is.0.0.1 l has (
          plain,
          (
            name,
            least,
            here,
            says name true (part_named name least here) typed,
          ),
        )

    parts_untyped : IsTyped p l.sort false → (ss : List declared.Symbol) →
        ((s : declared.Symbol) → Contains ss s → Contains l.symbols s) →
        AreUntypedSorts (flat_map (kid_sorts p.sorts) (map (numbered_symbol (names p)) ss))
    parts_untyped plain [] inside = tt
    parts_untyped plain (names_of.Lit text ∷ ss) inside =
        parts_untyped plain ss (λ s h. inside s (past_head (names_of.Lit text) ss s h))
    parts_untyped plain (names_of.Lex kind ∷ ss) inside = (
      λ k e. let q : TheSort.Lex kind ≡ TheSort.Typed k = e in cc,
      parts_untyped plain ss (λ s h. inside s (past_head (names_of.Lex kind) ss s h)),
    )
    parts_untyped plain (names_of.Part name least ∷ ss) inside = (
      part_untyped plain name least (inside (names_of.Part name least)
          (is_head (names_of.Part name least) ss)),
      parts_untyped plain ss (λ s h. inside s (past_head (names_of.Part name least) ss s h)),
    )

  pub have_no_typed : PlainHaveNoTyped (shapes_of p)
  have_no_typed label shape at plain =
      let r = mapped_at (shape_of p.sorts) (numbered p).productions label shape at in
      let l = mapped_at (numbered_line (names p)) p.productions label r.0 r.1 in
      let has = at_contains p.productions label l.0 l.1 in
      let same : shape_of p.sorts (numbered_line (names p) l.0) ≡ shape =
      ap (shape_of p.sorts) l.2 ∙ r.2 in
      let own = says_plain l.0.sort (own_named l.0 has)
      (subst (λ (y : Shape). IsUntypedSort y.sort) (sym same) plain) in
      subst (λ (y : Shape). AreUntypedSorts y.kids) same (parts_untyped l.0 has own l.0.symbols
      (λ s h. h))
