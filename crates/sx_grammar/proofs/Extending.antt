-- What holds of a grammar's productions and of more productions holds of these behind those.
use Rattle.std.proofs.Common.{◌≡◌, ℕ, zero, suc, ◌≤◌, List, [], ◌∷◌, ◌++◌, length, map, drop, ⊎_elim, Some, sym, refl, ap, ◌∙◌, subst, arith, Contains}
use Rattle.std.specs.Prelude.{flat_map, slice_get, option_map}
use Rattle.std.proofs.lemmas.List.{map-append, append_assoc, append-nil, length-map, length-append, drop-map, drop_at}
use Rattle.std.proofs.lemmas.List.Concat.{flat_map-append}
use Rattle.std.proofs.lemmas.List.Elements.{Contains-append_cases, Contains-push_cases}
use Rattle.std.proofs.lemmas.Option.{slice_get-map}
use Rattle.sx_term.specs.Cutting.{AreDistinct}
use Rattle.sx_grammar.specs.declared.production.Production.{Production}
use Rattle.sx_grammar.specs.Grammar.{Text}
use Rattle.sx_grammar.specs.Parts.{Line, Parts, line, names, labels, literals, sorts_named}
use Rattle.sx_grammar.specs.Parts.{symbol_literals, symbol_sorts, bracket_literals}
use Rattle.sx_grammar.specs.Standing.{labels_in, literals_in, sorts_in}
use Rattle.sx_grammar.specs.Extended.{extended, listed_sort, GrammarGrows}
use Rattle.sx_grammar.specs.Made.{HasNone, HasLabels, IsBadLiteral, IsUnknownSort}
use Rattle.sx_grammar.proofs.Finding.{contains_place, is_head, past_head}
use Rattle.sx_grammar.proofs.FirstLaws.{distinct_push}
use Rattle.sx_grammar.proofs.Widening.{still_known, literals_grown}

pub none_in_both : {X : Type 0} (P : X → Type 0) (xs ys : List X) → HasNone P xs → HasNone P ys → HasNone P (xs ++ ys)
none_in_both P xs ys before behind x has is = ⊎_elim (λ h. before x h is) (λ h. behind x h is) (Contains-append_cases xs ys x has)

rest_distinct : (y : Text) (ys : List Text) → AreDistinct (y ∷ ys) → AreDistinct ys
rest_distinct y ys apart i j text a b = let e : suc i ≡ suc j = apart (suc i) (suc j) text a b in omega (arith, e)

head_new : (y : Text) (ys : List Text) → AreDistinct (y ∷ ys) → ¬ (Contains ys y)
head_new y ys apart has =
    let place = contains_place ys y has in
    let e : zero ≡ suc place.0 = apart zero (suc place.0) y refl place.1 in
    absurd (omega (arith, e))

-- distinct texts, and distinct texts none of which is one of those
pub distinct_both : (xs ys : List Text) → AreDistinct xs → AreDistinct ys → HasNone (Contains ys) xs → AreDistinct (xs ++ ys)
distinct_both xs [] before behind apart = subst AreDistinct (sym (append-nil xs)) before
distinct_both xs (y ∷ ys) before behind apart = subst AreDistinct (append_assoc xs (y ∷ []) ys)
    (distinct_both (xs ++ y ∷ []) ys (distinct_push xs y before (λ has. apart y has (is_head y ys))) (rest_distinct y ys behind)
    (λ x has there. ⊎_elim (λ old. apart x old (past_head y ys x there)) (λ same. head_new y ys behind (subst (Contains ys) (sym same) there)) (Contains-push_cases xs y x has)))

pub label_at : (ps : List Production) (i : ℕ) (p : Production) → slice_get ps i ≡ Some p → slice_get (labels_in (map line ps)) i ≡ Some p.label
label_at ps i p at =
    slice_get-map (λ r. r.label) (map line ps) i
    ∙ ap (option_map (λ r. r.label)) (slice_get-map line ps i ∙ ap (option_map line) at)

pub labels_length : (ps : List Production) → length (labels_in (map line ps)) ≡ length ps
labels_length ps = length-map (map line ps) (λ r. r.label) ∙ length-map ps line

-- the literals go on with those of the new productions
pub literals_more : (p : Parts) (more : List Line) → literals (extended p more) ≡ literals p ++ literals_in more
literals_more p more =
    ap (λ l. flat_map (λ s. bracket_literals s.brackets) p.sorts ++ l) (flat_map-append (λ r. flat_map symbol_literals r.symbols) p.productions more)
    ∙ sym (append_assoc (flat_map (λ s. bracket_literals s.brackets) p.sorts) (literals_in p.productions) (literals_in more))

-- the literals and names of parts with more behind them are good
pub well_named : (p : Parts) (more : List Line) (whole : Parts) → GrammarGrows p more whole → HasLabels p → HasNone IsBadLiteral (literals_in more) → AreDistinct (names whole)
    → HasNone (IsUnknownSort (names whole)) (sorts_in more) → AreDistinct (labels_in p.productions ++ labels_in more) → HasLabels whole
well_named p more whole grows has good apart known distinct =
    let new = listed_sort grows.sort in
    let all = literals_grown p more whole grows ∙ literals_more p more in
    let old = subst (λ w. HasNone (IsUnknownSort (names w)) (sorts_in p.productions)) (sym grows.is) (still_known p new more (sorts_in p.productions) has.0.1) in (
      (
        (subst (HasNone IsBadLiteral) (sym all) (none_in_both IsBadLiteral (literals p) (literals_in more) has.0.0.0 good), apart),
        subst (HasNone (IsUnknownSort (names whole))) (sym (ap sorts_named grows.is ∙ flat_map-append (λ r. r.sort ∷ flat_map symbol_sorts r.symbols) p.productions more))
            (none_in_both (IsUnknownSort (names whole)) (sorts_in p.productions) (sorts_in more) old known),
      ),
      subst AreDistinct (sym (ap labels grows.is ∙ map-append (λ r. r.label) p.productions more)) distinct,
    )

-- the productions behind those of the grammar
pub lines_behind : (own : List Production) (more : List Line) (ps shown rest : List Production) (n : ℕ) → map line ps ≡ map line own ++ more → shown ≡ ps → n ≡ length own → rest ≡ drop n shown → map line rest ≡ more
lines_behind own more ps shown rest n is same count at =
    ap (map line) (at ∙ ap (λ m. drop m shown) count ∙ ap (drop (length own)) same)
    ∙ sym (drop-map line (length own) ps) ∙ ap (drop (length own)) is ∙ drop_at (map line own) more (length own) (length-map own line)

pub room_behind : (own : List Production) (more : List Line) (ps : List Production) → map line ps ≡ map line own ++ more → length own ≤ length ps
room_behind own more ps is = omega (arith, length-map ps line, length-map own line, length-append (map line own) more, ap length is)
