-- The sorts that derive the empty list, and marks of sorts.
use Rattle.std.proofs.Common.{◌≡◌, ℕ, zero, suc, ◌+◌, ◌<◌, ◌≤◌, List, [], ◌∷◌, length, map, set, Bool, true, false, not, inl, inr, Some, sym, refl, ap, ◌∙◌, subst, arith, IsTrue, cond}
use Rattle.std.specs.Prelude.{slice_get, slice_index_or, count_by, option_map, None}
use Rattle.std.proofs.lemmas.Bool.{cases_eq, cases_lt, false≢true}
use Rattle.std.proofs.lemmas.List.{length-set, get_or-set_other}
use Rattle.std.proofs.lemmas.List.Sums.{sum_by-cons}
use Rattle.std.proofs.lemmas.Option.{slice_get-map}
use Rattle.sx_grammar.specs.declared.numbered.NumberedSymbol.{NumberedSymbol}
use Rattle.sx_grammar.specs.declared.numbered.NumberedSymbol.TheVariants.{Lit, Lex, Part}
use Rattle.sx_grammar.specs.declared.numbered.NumberedProduction.{NumberedProduction}
use Rattle.sx_grammar.specs.Grammar.{Text, Symbol, literal, lexical, part, Production, Grammar}
use Rattle.sx_grammar.specs.Cyclic.{Vanishes, no_symbols, empty_part}
use Rattle.sx_grammar.specs.Numbered.{symbol, production, AreOf}
use Rattle.sx_grammar.specs.Cycles.{IsEmptySort, AreEmptySorts, AllMarked, IsClosed, is_marked, unmarked}

-- parts of marked sorts derive the empty list
pub marked_vanish : (g : Grammar) (marks : List Bool) → AreEmptySorts g marks → (xs : List Symbol) → AllMarked marks xs → Vanishes g xs
marked_vanish g marks are [] all = no_symbols
marked_vanish g marks are (literal text ∷ xs) all = absurd all
marked_vanish g marks are (lexical kind ∷ xs) all = absurd all
marked_vanish g marks are (part sort least ∷ xs) all =
    let e = are sort all.0 in
    empty_part e.0 e.1 e.2 e.3 e.4 (marked_vanish g marks are xs all.1)

-- what derives the empty list is parts of marked sorts
pub vanish_marked : (g : Grammar) (marks : List Bool) → IsClosed g marks → {xs : List Symbol} → Vanishes g xs → AllMarked marks xs
vanish_marked g marks closed no_symbols = tt
vanish_marked g marks closed (empty_part label p at sort v w) =
    (subst (λ s. IsTrue (slice_index_or marks s false)) sort (closed label p at (vanish_marked g marks closed v)), vanish_marked g marks closed w)

pub unmarked_cons : (marks : List Bool) (x : NumberedSymbol) (xs : List NumberedSymbol) → unmarked marks (x ∷ xs) ≡ cond (not (is_marked marks x)) 1 0 + unmarked marks xs
unmarked_cons marks x xs = sum_by-cons (λ s. cond (not (is_marked marks s)) 1 0) x xs

part_marked : {A : Type 0} (m : Bool) (n : ℕ) → cond (not m) 1 0 + n ≡ 0 → (n ≡ 0 → A) → IsTrue m × A
part_marked true n e rest = (refl, rest (omega (arith, e)))
part_marked false n e rest = absurd (omega (arith, e))

pub all_marked : (marks : List Bool) (texts : List Text) (xs : List NumberedSymbol) → unmarked marks xs ≡ 0 → AllMarked marks (map (symbol texts) xs)
all_marked marks texts [] none = tt
all_marked marks texts (Lit number ∷ xs) none = absurd (let h = unmarked_cons marks (Lit number) xs in omega (arith, h, none))
all_marked marks texts (Lex kind ∷ xs) none = absurd (let h = unmarked_cons marks (Lex kind) xs in omega (arith, h, none))
all_marked marks texts (Part sort least ∷ xs) none = part_marked (slice_index_or marks sort false) (unmarked marks xs) (sym (unmarked_cons marks (Part sort least) xs) ∙ none) (all_marked marks texts xs)

pub none_unmarked : (marks : List Bool) (texts : List Text) (xs : List NumberedSymbol) → AllMarked marks (map (symbol texts) xs) → unmarked marks xs ≡ 0
none_unmarked marks texts [] all = refl
none_unmarked marks texts (Lit number ∷ xs) all = absurd all
none_unmarked marks texts (Lex kind ∷ xs) all = absurd all
none_unmarked marks texts (Part sort least ∷ xs) all = unmarked_cons marks (Part sort least) xs ∙ (λ i. cond (not (all.0 i)) 1 0 + none_unmarked marks texts xs all.1 i)

-- the production with this label, with its numbers
pub numbered_at : (texts : List Text) (ps : List NumberedProduction) (label : ℕ) (p : Production) → slice_get (map (production texts) ps) label ≡ Some p
    → (q : NumberedProduction) × (slice_get ps label ≡ Some q) × (production texts q ≡ p)
numbered_at texts [] label p e = let clash : None ≡ Some p = e in cc
numbered_at texts (q ∷ ps) zero p e = (q, refl, (let f : Some (production texts q) ≡ Some p = e in cc))
numbered_at texts (q ∷ ps) (suc label) p e = numbered_at texts ps label p e

-- a production all of whose symbols are parts of marked sorts has a sort that derives the empty list
pub empty_here : (g : Grammar) (ps : List NumberedProduction) (marks : List Bool) (label : ℕ) (q : NumberedProduction) → AreOf g ps → AreEmptySorts g marks → slice_get ps label ≡ Some q
    → unmarked marks q.symbols.items ≡ 0 → IsEmptySort g q.sort
empty_here g ps marks label q of are at none = (
  label,
  production of.0 q,
  ap (λ t. slice_get t label) of.1 ∙ slice_get-map (production of.0) ps label ∙ ap (option_map (production of.0)) at,
  refl,
  marked_vanish g marks are (map (symbol of.0) q.symbols.items) (all_marked marks of.0 q.symbols.items none),
)

-- one more sort that derives the empty list is marked
pub empty_more : (g : Grammar) (marks : List Bool) (sort : ℕ) → sort < length marks → AreEmptySorts g marks → IsEmptySort g sort → AreEmptySorts g (set marks sort true)
empty_more g marks sort within are is = λ other marked. elim (cases_eq other sort) [
  | inl same ↦ subst (IsEmptySort g) (sym same) is
  | inr apart ↦ are other (sym (get_or-set_other marks sort other true false apart) ∙ marked)
]

pub marked_fewer : (marks : List Bool) (sort : ℕ) → sort < length marks → slice_index_or marks sort false ≡ false → count_by not (set marks sort true) < count_by not marks
marked_fewer [] sort within e = absurd (omega (arith, within))
marked_fewer (true ∷ marks) zero within e = absurd (false≢true (sym e))
marked_fewer (false ∷ marks) zero within e = omega (arith, sum_by-cons (λ m. cond (not m) 1 0) false marks, sum_by-cons (λ m. cond (not m) 1 0) true marks)
marked_fewer (m ∷ marks) (suc sort) within e = let h = marked_fewer marks sort (omega (arith, within)) e in omega (arith, h, sum_by-cons (λ m. cond (not m) 1 0) m marks, sum_by-cons (λ m. cond (not m) 1 0) m (set marks sort true))

-- where no production is left, the marks are closed
pub closed_from : (g : Grammar) (ps : List NumberedProduction) (marks : List Bool) → AreOf g ps
    → ((label : ℕ) (q : NumberedProduction) → slice_get ps label ≡ Some q → unmarked marks q.symbols.items ≡ 0 → IsTrue (slice_index_or marks q.sort false)) → IsClosed g marks
closed_from g ps marks of each = λ label p at all.
    let found = numbered_at of.0 ps label p (ap (λ t. slice_get t label) (sym of.1) ∙ at) in
    let here = each label found.0 found.1 (none_unmarked marks of.0 found.0.symbols.items (subst (AllMarked marks) (ap (λ r. r.symbols) (sym found.2)) all)) in
    subst (λ s. IsTrue (slice_index_or marks s false)) (ap (λ r. r.sort) found.2) here

-- what a round has done after n productions
pub record RoundBefore (ps : List NumberedProduction) (old marks : List Bool) (more : Bool) (n : ℕ) : Type 0 where
  pub same : length marks ≡ length old
  pub empty : (g : Grammar) → AreOf g ps → AreEmptySorts g old → AreEmptySorts g marks
  pub most : count_by not marks ≤ count_by not old
  pub fewer : more ≡ true → count_by not marks < count_by not old
  pub closed : more ≡ false → (label : ℕ) (q : NumberedProduction) → label < n → slice_get ps label ≡ Some q → unmarked marks q.symbols.items ≡ 0 → IsTrue (slice_index_or marks q.sort false)

pub round_marked : (ps : List NumberedProduction) (old marks new : List Bool) (more : Bool) (n : ℕ) (q : NumberedProduction) → RoundBefore ps old marks more n → slice_get ps n ≡ Some q
    → (unmarked marks q.symbols.items ≡ 0) × (slice_index_or marks q.sort false ≡ false) → q.sort < length old → new ≡ set marks q.sort true → RoundBefore ps old new true (n + 1)
round_marked ps old marks new more n q before at due low e =
    let within : q.sort < length marks = omega (arith, low, before.same) in
    let fewer = marked_fewer marks q.sort within due.1 in
    let there : RoundBefore ps old (set marks q.sort true) true (n + 1) = record {
      same = length-set marks q.sort true ∙ before.same;
      empty = λ g of are. empty_more g marks q.sort within (before.empty g of are) (empty_here g ps marks n q of (before.empty g of are) at due.0);
      most = omega (arith, fewer, before.most);
      fewer = λ _. omega (arith, fewer, before.most);
      closed = λ no_more. absurd (false≢true (sym no_more));
    } in
    subst (λ marks. RoundBefore ps old marks true (n + 1)) (sym e) there

pub round_kept : (ps : List NumberedProduction) (old marks : List Bool) (more : Bool) (n : ℕ) (q : NumberedProduction) → RoundBefore ps old marks more n → slice_get ps n ≡ Some q
    → (unmarked marks q.symbols.items ≡ 0 → IsTrue (slice_index_or marks q.sort false)) → RoundBefore ps old marks more (n + 1)
round_kept ps old marks more n q before at not_due = record {
  same = before.same;
  empty = before.empty;
  most = before.most;
  fewer = before.fewer;
  closed = λ no_more label r lt there none. elim (cases_lt label n) [
    | inl below ↦ before.closed no_more label r below there none
    | inr above ↦ (
        let last : label ≡ n = omega arith in
        let alike : Some q ≡ Some r = sym at ∙ ap (slice_get ps) (sym last) ∙ there in
        let same : q ≡ r = cc in
        subst (λ r. IsTrue (slice_index_or marks r.sort false)) same (not_due (subst (λ r. unmarked marks r.symbols.items ≡ 0) (sym same) none)))
  ];
}
