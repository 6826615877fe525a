-- What is numbered of a grammar, and what is numbered of more productions behind it.
use Rattle.std.proofs.Common.{◌≡◌, ℕ, zero, suc, ◌<◌, ◌≤◌, Bool, true, false, IsTrue, ◌↔◌, List, [], ◌∷◌, ◌++◌, length, map, Some, None, ⊎_elim, sym, refl, ap, ◌∙◌, subst, arith}
use Rattle.std.specs.Prelude.{slice_get, slice_index_or, option_map, Option}
use Rattle.std.proofs.lemmas.List.{map-append, length-append, append-nil}
use Rattle.std.proofs.lemmas.Option.{slice_get-map}
use Rattle.std.proofs.lemmas.Bool.{false≢true}
use Rattle.sx_grammar.specs.declared.numbered.NumberedSymbol.{NumberedSymbol}
use Rattle.sx_grammar.specs.declared.numbered.NumberedSymbol.TheVariants.{Lit, Lex, Part}
use Rattle.sx_grammar.specs.declared.numbered.NumberedProduction.{NumberedProduction}
use Rattle.sx_grammar.specs.declared.sort_line.SortLine.{SortLine}
use Rattle.sx_grammar.specs.Grammar as plain
use Rattle.sx_grammar.specs.Grammar.{Text, Brackets}
use Rattle.sx_grammar.specs.Parts.{Line, Parts, names, literals, numbered, numbered_line}
use Rattle.sx_grammar.specs.Parts.{numbered_pair, numbered_sort}
use Rattle.sx_grammar.specs.Numbered.{Bare, bare, symbol, production}
use Rattle.sx_grammar.specs.Distinct.{distinct}
use Rattle.sx_grammar.specs.Standing.{literals_in}
use Rattle.sx_grammar.specs.Extended.{grown, listed_sort, LacksPair, blank, GrammarGrows}
use Rattle.sx_grammar.specs.Made.{HasKnownSorts}
use Rattle.sx_grammar.specs.Tables.{literals_of, AreNumbered, HaveLiteralsBelow, IsNumberedPair}
use Rattle.sx_grammar.specs.Tables.{AreNumberedPairs}
use Rattle.sx_grammar.proofs.Finding.{mapped_at}
use Rattle.sx_grammar.proofs.DistinctLaws.{distinct_goes_on}
use Rattle.sx_grammar.proofs.NumberLaws.{pairs_push}
use Rattle.sx_grammar.proofs.Extending.{literals_more}
use Rattle.sx_grammar.proofs.Widening.{got_kept, got_cases, literals_grown, productions_grown}

-- literals keep their numbers
text_kept : (texts rest : List Text) (n : ℕ) → n < length texts → slice_index_or (texts ++ rest) n [] ≡ slice_index_or texts n []
text_kept [] rest n low = absurd (omega (arith, low))
text_kept (t ∷ texts) rest zero low = refl
text_kept (t ∷ texts) rest (suc n) low = text_kept texts rest n (omega (arith, low))

symbol_kept : (texts rest : List Text) (s : NumberedSymbol) → ((n : ℕ) → s ≡ Lit n → n < length texts) → symbol (texts ++ rest) s ≡ symbol texts s
symbol_kept texts rest (Lit n) low = ap (λ t. plain.literal t) (text_kept texts rest n (low n refl))
symbol_kept texts rest (Lex kind) low = refl
symbol_kept texts rest (Part sort least) low = refl

symbols_kept : (texts rest : List Text) (ss : List NumberedSymbol) → ((k n : ℕ) → slice_get ss k ≡ Some (Lit n) → n < length texts) → map (symbol (texts ++ rest)) ss ≡ map (symbol texts) ss
symbols_kept texts rest [] low = refl
symbols_kept texts rest (s ∷ ss) low = λ i. symbol_kept texts rest s (λ n e. low zero n (ap Some e)) i ∷ symbols_kept texts rest ss (λ k n at. low (suc k) n at) i

productions_kept : (texts rest : List Text) (ps : List NumberedProduction) → HaveLiteralsBelow (length texts) ps → map (production (texts ++ rest)) ps ≡ map (production texts) ps
productions_kept texts rest [] low = refl
productions_kept texts rest (p ∷ ps) low = λ i.
    record { sort = p.sort; level = p.level; symbols = symbols_kept texts rest p.symbols.items (λ k n at. low zero p k n refl at) i }
    ∷ productions_kept texts rest ps (λ label q k n at here. low (suc label) q k n at here) i

-- equal productions are the same with their literals
abbrev of_bare : List Text → Bare → plain.Production
of_bare texts b = record { sort = b.sort; level = b.level; symbols = map (symbol texts) b.symbols }

through_bare : (texts : List Text) (ps : List NumberedProduction) → map (production texts) ps ≡ map (of_bare texts) (map bare ps)
through_bare texts [] = refl
through_bare texts (p ∷ ps) = ap (λ l. production texts p ∷ l) (through_bare texts ps)

same_by_bare : (texts : List Text) (ps qs : List NumberedProduction) → map bare ps ≡ map bare qs → map (production texts) ps ≡ map (production texts) qs
same_by_bare texts ps qs same = through_bare texts ps ∙ ap (map (of_bare texts)) same ∙ sym (through_bare texts qs)

below_by_bare : (bound : ℕ) (ps qs : List NumberedProduction) → map bare ps ≡ map bare qs → HaveLiteralsBelow bound qs → HaveLiteralsBelow bound ps
below_by_bare bound ps qs same low label p k n at here =
    let found = mapped_at bare qs label (bare p) (ap (λ l. slice_get l label) (sym same) ∙ slice_get-map bare ps label ∙ ap (option_map bare) at) in
    low label found.0 k n found.1 (ap (λ b. slice_get b.symbols k) found.2 ∙ here)

-- the literals of the grammar stand first among those of the parts with more behind its parts
pub texts_behind : (p : Parts) (more : List Line) (whole : Parts) → GrammarGrows p more whole → (rest : List Text) × (literals_of whole ≡ literals_of p ++ rest)
texts_behind p more whole grows =
    let on = distinct_goes_on (literals p) (literals_in more) in
    (on.0, ap distinct (literals_grown p more whole grows ∙ literals_more p more) ∙ on.1)

-- the productions of the grammar, and more productions behind these, with numbers
pub numbered_both : (p : Parts) (more : List Line) (whole : Parts) → GrammarGrows p more whole → HasKnownSorts p → (texts ns : List Text) (ps qs all : List NumberedProduction) → AreNumbered p ps → HaveLiteralsBelow (length (literals_of p)) ps
    → texts ≡ literals_of whole → ns ≡ names whole → map (production texts) qs ≡ map (numbered_line ns) more → map bare all ≡ map bare (ps ++ qs) → AreNumbered whole all
numbered_both p more whole grows known texts ns ps qs all own low same named new bares =
    let lits = literals_of whole in
    let parts = grown p (listed_sort grows.sort) more in
    let longer = texts_behind p more whole grows in
    let first : map (production lits) ps ≡ (numbered p).productions = ap (λ l. map (production l) ps) longer.1 ∙ productions_kept (literals_of p) longer.0 ps low ∙ own in
    let second : map (production lits) qs ≡ map (numbered_line (names parts)) more =
    subst (λ l. map (production l) qs ≡ map (numbered_line (names parts)) more) same (subst (λ l. map (production texts) qs ≡ map (numbered_line l) more) (named ∙ ap names grows.is) new) in
    same_by_bare lits all (ps ++ qs) bares ∙ map-append (production lits) ps qs ∙ (λ i. first i ++ second i)
    ∙ sym (productions_grown p (listed_sort grows.sort) more known) ∙ ap (λ w. (numbered w).productions) (sym grows.is)

pub below_both : (p : Parts) (more : List Line) (whole : Parts) → GrammarGrows p more whole → (texts : List Text) (ps qs all : List NumberedProduction) → HaveLiteralsBelow (length (literals_of p)) ps → texts ≡ literals_of whole
    → HaveLiteralsBelow (length texts) qs → map bare all ≡ map bare (ps ++ qs) → HaveLiteralsBelow (length texts) all
below_both p more whole grows texts ps qs all low same new bares =
    let longer = texts_behind p more whole grows in
    let room : length (literals_of p) ≤ length texts = omega (arith, ap length same, ap length longer.1, length-append (literals_of p) longer.0) in
    below_by_bare (length texts) all (ps ++ qs) bares (λ label q k n at here. ⊎_elim
    (λ own. let less = low label q k n own here in omega (arith, less, room))
    (λ last. new last.0 q k n last.1 here)
    (got_cases ps qs label q at))

pair_kept : (texts rest : List Text) (pair : Option Brackets) (b : Option (ℕ × ℕ)) → IsNumberedPair texts pair b → IsNumberedPair (texts ++ rest) pair b
pair_kept texts rest None None is = tt
pair_kept texts rest None (Some numbers) is = absurd is
pair_kept texts rest (Some pair) None is = absurd is
pair_kept texts rest (Some pair) (Some numbers) is = (got_kept texts rest numbers.0 pair.opening is.0, got_kept texts rest numbers.1 pair.closing is.1)

-- brackets keep the numbers of their literals
pub pairs_kept : (texts rest : List Text) (ss : List SortLine) (bs : List (Option (ℕ × ℕ))) → AreNumberedPairs texts ss bs → AreNumberedPairs (texts ++ rest) ss bs
pairs_kept texts rest [] [] are = tt
pairs_kept texts rest [] (b ∷ bs) are = absurd are
pairs_kept texts rest (s ∷ ss) [] are = absurd are
pairs_kept texts rest (s ∷ ss) (b ∷ bs) are = (pair_kept texts rest (numbered_sort s).brackets b are.0, pairs_kept texts rest ss bs are.1)

-- one more sort has no brackets
pairs_listed : (texts : List Text) (ss : List SortLine) (sort : Option SortLine) (bs : List (Option (ℕ × ℕ))) (wider : Bool) → LacksPair sort → (IsTrue wider ↔ (length ss < length (ss ++ listed_sort sort))) → AreNumberedPairs texts ss bs
    → AreNumberedPairs texts (ss ++ listed_sort sort) (bs ++ blank wider)
pairs_listed texts ss None bs true lacks is are = absurd (omega (arith, is.0 refl, ap length (append-nil ss)))
pairs_listed texts ss None bs false lacks is are = subst (λ l. AreNumberedPairs texts l (bs ++ [])) (sym (append-nil ss)) (subst (AreNumberedPairs texts ss) (sym (append-nil bs)) are)
pairs_listed texts ss (Some s) bs true lacks is are = pairs_push texts ss bs s None are (subst (λ b. IsNumberedPair texts (numbered_pair b) None) (sym lacks) tt)
pairs_listed texts ss (Some s) bs false lacks is are = absurd (false≢true (is.1 (omega (arith, length-append ss (s ∷ [])))))

pub pairs_behind : (p : Parts) (more : List Line) (whole : Parts) → GrammarGrows p more whole → (texts known : List Text) (bs all : List (Option (ℕ × ℕ))) (wider : Bool) → texts ≡ literals_of p → known ≡ literals_of whole
    → AreNumberedPairs texts p.sorts bs → (IsTrue wider ↔ (length p.sorts < length whole.sorts)) → all ≡ bs ++ blank wider → AreNumberedPairs known whole.sorts all
pairs_behind p more whole grows texts known bs all wider own same are is made =
    let longer = texts_behind p more whole grows in
    let kept : AreNumberedPairs known p.sorts bs =
    subst (λ l. AreNumberedPairs l p.sorts bs) (sym (same ∙ longer.1)) (pairs_kept (literals_of p) longer.0 p.sorts bs (subst (λ l. AreNumberedPairs l p.sorts bs) own are)) in
    subst (AreNumberedPairs known whole.sorts) (sym made)
    (subst (λ (w : Parts). AreNumberedPairs known w.sorts (bs ++ blank wider)) (sym grows.is)
    (pairs_listed known p.sorts grows.sort bs wider grows.plain (subst (λ (w : Parts). IsTrue wider ↔ (length p.sorts < length w.sorts)) grows.is is) kept))
