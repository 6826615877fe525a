-- What holds of readings of some tokens holds of tokens that the grammar reads alike.
use Rattle.std.proofs.Common.{◌≡◌, ℕ, suc, List, [], ◌∷◌, Some, length, refl, ap, subst, arith}
use Rattle.std.specs.Prelude.{slice_get}
use Rattle.sx_grammar.specs.declared.head.Head.TheVariants.{Labelled, Bracketed}
use Rattle.sx_grammar.specs.Grammar.{Text, Symbol, literal, part, Production, Brackets, Grammar}
use Rattle.sx_grammar.specs.Grammar.{Token, is_lexeme, is_variable, of_kind, of_sort, pair_of}
use Rattle.sx_grammar.specs.Grammar.{bracket_production}
use Rattle.sx_grammar.specs.Reading.{Reading, Readings, Reads, by_production, by_brackets}
use Rattle.sx_grammar.specs.Reading.{by_variable, ReadsAll, all_read, by_literal, by_lexeme}
use Rattle.sx_grammar.specs.Reading.{by_lexical_variable, by_part, ReadsWhole}
use Rattle.sx_grammar.specs.ReadOne.{ReadAnswer, IsAnswer, only, too_hard, no_reading, too_deep}
use Rattle.sx_grammar.specs.ReadOne.{ambiguous}
use Rattle.sx_forest.specs.Readings.{plain_reading}
use Rattle.sx_forest.specs.declared.read_error.ReadError.{ReadError}
use Rattle.sx_forest.specs.declared.read_error.ReadError.TheVariants.{Memory, TooHard, NoReading}
use Rattle.sx_forest.specs.declared.read_error.ReadError.TheVariants.{TooDeep, Ambiguous}
use Rattle.sx_forest.specs.Verdict.{IsReadRefusal}
use Rattle.sx_earley.proofs.Literals.{HasLiteral}
use Rattle.sx_earley.proofs.Sameness.{AllSame, turned, literal_same, marked_same, more_same, reach_same}

as_long : (g : Grammar) (xs ys : List Token) → AllSame g xs ys → length xs ≡ length ys
as_long g [] [] h = refl
as_long g [] (y ∷ ys) h = absurd h
as_long g (x ∷ xs) [] h = absurd h
as_long g (x ∷ xs) (y ∷ ys) h = let e = as_long g xs ys h.1 in omega arith

-- all literals among the symbols are the grammar's
abbrev AreOwn : Grammar → List Symbol → Type 0
AreOwn g symbols = (dot : ℕ) (text : Text) → slice_get symbols dot ≡ Some (literal text) → HasLiteral g text

-- a bracket pair as a production
abbrev pair_line : ℕ → Brackets → Production
pair_line sort pair = record { sort = sort; level = 100; symbols = literal pair.opening ∷ part sort 0 ∷ literal pair.closing ∷ [] }

opening_own : (g : Grammar) (sort : ℕ) (pair : Brackets) → pair_of g sort ≡ Some pair → HasLiteral g pair.opening
opening_own g sort pair e = (Bracketed sort, 0, (pair_line sort pair, ap (bracket_production sort) e, refl))

closing_own : (g : Grammar) (sort : ℕ) (pair : Brackets) → pair_of g sort ≡ Some pair → HasLiteral g pair.closing
closing_own g sort pair e = (Bracketed sort, 2, (pair_line sort pair, ap (bracket_production sort) e, refl))

module _ (g : Grammar) (xs ys : List Token) (same : AllSame g xs ys) where
  mutual
    read_same : {sort least from to : ℕ} {r : Reading} → Reads g xs sort least from to r → Reads g ys sort least from to r
    read_same (by_production {label = label} {p = p} e high all) = by_production e high (all_same (λ dot text at. (Labelled label, dot, (p, e, at))) all)
    read_same (by_brackets {sort = sort} {from = from} {to = to} {pair = pair} e a inner b) =
        by_brackets e (literal_same g xs ys same from pair.opening (opening_own g sort pair e) a) (read_same inner) (literal_same g xs ys same to pair.closing (closing_own g sort pair e) b)
    read_same (by_variable {sort = sort} {from = from} m) = by_variable (marked_same g xs ys same from (is_variable (of_sort sort)) m)

    all_same : {symbols : List Symbol} {from to : ℕ} {kids : Readings} → AreOwn g symbols → ReadsAll g xs symbols from to kids → ReadsAll g ys symbols from to kids
    all_same own all_read = all_read
    all_same own (by_literal {text = text} {from = from} h more) = by_literal (literal_same g xs ys same from text (own 0 text refl) h) (all_same (λ dot. own (suc dot)) more)
    all_same own (by_lexeme {kind = kind} {from = from} m more) = by_lexeme (marked_same g xs ys same from (is_lexeme kind) m) (all_same (λ dot. own (suc dot)) more)
    all_same own (by_lexical_variable {kind = kind} {from = from} m more) = by_lexical_variable (marked_same g xs ys same from (is_variable (of_kind kind)) m) (all_same (λ dot. own (suc dot)) more)
    all_same own (by_part kid more) = by_part (read_same kid) (all_same (λ dot. own (suc dot)) more)

  whole_same : (start : ℕ) (r : Reading) → ReadsWhole g xs start r → ReadsWhole g ys start r
  whole_same start r reads = subst (λ n. Reads g ys start 0 0 n r) (as_long g xs ys same) (read_same reads)

-- the answer for the one is that for the other
pub answer_same : (g : Grammar) (xs ys : List Token) → AllSame g xs ys → (start : ℕ) (a : ReadAnswer) → IsAnswer g xs start a → IsAnswer g ys start a
answer_same g xs ys same start (only r) h = (
  (λ more. h.0 (more_same g ys xs (turned g xs ys same) start 2000000 more)),
  (whole_same g xs ys same start r h.1.0, λ other reads. h.1.1 other (whole_same g ys xs (turned g xs ys same) start other reads)),
  h.2,
)
answer_same g xs ys same start too_hard h = more_same g xs ys same start 2000000 h
answer_same g xs ys same start (no_reading end) h = (
  (λ more. h.0 (more_same g ys xs (turned g xs ys same) start 2000000 more)),
  (λ r reads. h.1 r (whole_same g ys xs (turned g xs ys same) start r reads)),
  reach_same g xs ys same start end h.2,
)
answer_same g xs ys same start (too_deep depth) h = (
  (λ more. h.0 (more_same g ys xs (turned g xs ys same) start 2000000 more)),
  h.1,
  record {
    deepest = h.2.deepest;
    holds = whole_same g xs ys same start h.2.deepest h.2.holds;
    is = h.2.is;
    bound = λ r reads. h.2.bound r (whole_same g ys xs (turned g xs ys same) start r reads);
  },
)
answer_same g xs ys same start (ambiguous one other) h = (
  (λ more. h.0 (more_same g ys xs (turned g xs ys same) start 2000000 more)),
  (λ r reads. h.1 r (whole_same g ys xs (turned g xs ys same) start r reads)),
  whole_same g xs ys same start one h.2,
  whole_same g xs ys same start other h.3,
  h.4,
)

-- so it is of refusals
pub refusal_same : (g : Grammar) (xs ys : List Token) → AllSame g xs ys → (start : ℕ) (labels texts : List (List ℕ)) (e : ReadError) →
    IsReadRefusal labels texts g xs start e → IsReadRefusal labels texts g ys start e
refusal_same g xs ys same start labels texts Memory h = h
refusal_same g xs ys same start labels texts TooHard h = answer_same g xs ys same start too_hard h
refusal_same g xs ys same start labels texts (NoReading end) h = answer_same g xs ys same start (no_reading end) h
refusal_same g xs ys same start labels texts (TooDeep depth) h = answer_same g xs ys same start (too_deep depth) h
refusal_same g xs ys same start labels texts (Ambiguous one other) h =
    (answer_same g xs ys same start (ambiguous (plain_reading one) (plain_reading other)) h.0, h.1)
