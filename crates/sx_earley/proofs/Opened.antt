-- The openings of a grammar, filed one after another.
use Rattle.std.proofs.Common.{◌≡◌, ◌∙◌, refl, sym, ap, subst, ℕ, ◌<◌, ◌+◌, ◌⊎◌, inl, inr, ⊎_elim, List, [], ◌∷◌, map, Option, Some, None, length, Contains, arith}
use Rattle.std.specs.Prelude.{slice_get}
use Rattle.std.proofs.lemmas.Option.{slice_get_within, none-some, some_pair_parts}
use Rattle.std.proofs.lemmas.Bool.{cases_lt}
use Rattle.std.proofs.lemmas.List.{map_push}
use Rattle.std.proofs.lemmas.List.Elements.{Contains-append_left, Contains-append_right, Contains-push, Contains-push_cases}
use Rattle.sx_grammar.specs.Grammar.{Grammar, Production, SortLine, brackets_of, bracket_production, production_of}
use Rattle.sx_grammar.specs.Tables.{GrammarData}
use Rattle.sx_grammar.specs.Tally.{Among, EachOnce}
use Rattle.sx_grammar.specs.declared.head.Head.{Head}
use Rattle.sx_grammar.specs.declared.head.Head.TheVariants.{Labelled, Bracketed}
use Rattle.sx_earley.specs.declared.opening.Opening.{Opening}
use Rattle.sx_earley.specs.declared.table.Table.{Table}
use Rattle.sx_earley.specs.Shown.{plain}
use Rattle.sx_earley.specs.Chart.{IsOfSort, sort_and_level, beginning}
use Rattle.sx_earley.specs.Dotted.{IsNextSymbol}
use Rattle.sx_earley.specs.Openings.{IsOpening, HasAllOpenings, openings_of, AreFiled, IsBelow, AddsOpening}
use Rattle.sx_earley.specs.Openings.{MayAddOpening}
use Rattle.sx_earley.proofs.Closing.{nothing_in}
use Rattle.sx_earley.proofs.Spanning.{once_push}
use Rattle.sx_earley.proofs.Waiting.{there_is}

label_within : (g : Grammar) (label sort least : ℕ) → IsOfSort (production_of g (Labelled label)) sort least → label < length g.productions
label_within g label sort least is =
    let p = there_is (slice_get g.productions label) sort least is in
    slice_get_within g.productions label p.0 p.1

line_within : (lines : List SortLine) (own sort least : ℕ) (o : Option SortLine) → slice_get lines own ≡ o → IsOfSort (bracket_production own (brackets_of o)) sort least → own < length lines
line_within lines own sort least None at is = absurd is
line_within lines own sort least (Some line) at is = slice_get_within lines own line at

sort_within : (g : Grammar) (own sort least : ℕ) → IsOfSort (production_of g (Bracketed own)) sort least → own < length g.sorts
sort_within g own sort least is = line_within g.sorts own sort least (slice_get g.sorts own) refl is

all_below : (g : Grammar) (head : Head) (sort least : ℕ) → IsOfSort (production_of g head) sort least → IsBelow (length g.productions) (length g.sorts) head
all_below g (Labelled label) sort least is = label_within g label sort least is
all_below g (Bracketed own) sort least is = sort_within g own sort least is

-- the openings of all heads are filed
pub all_open : (d : GrammarData) (t : Table Opening) → AreFiled d (IsBelow (length (plain d).productions) (length (plain d).sorts)) t → HasAllOpenings d t
all_open d t f sort = record {
  only = λ o there. (f.only sort o there).0;
  every = λ head least is. f.every head (all_below (plain d) head sort least is) sort least is;
  once = f.once sort;
}

among_map : {X Y : Type 0} (f : X → Y) (xs : List X) (y : Y) → Among y (map f xs) → (x : X) × Contains xs x × (y ≡ f x)
among_map f [] y h = absurd h
among_map f (x ∷ xs) y (inl e) = (x, Contains-append_left (x ∷ []) xs x (Contains-push [] x), e)
among_map f (x ∷ xs) y (inr h) = let k = among_map f xs y h in (k.0, Contains-append_right (x ∷ []) xs k.0 k.1, k.2)

made_sort : (o : Option Production) (p : Production) (sort least : ℕ) → o ≡ Some p → IsOfSort o sort least → p.sort ≡ sort
made_sort o p sort least e is = let h : IsOfSort (Some p) sort least = subst (λ x. IsOfSort x sort least) e is in h.0

module _ (d : GrammarData) (head : Head) (IsFiled Also : Head → Type 0) (old new : Table Opening) (also_was : (h : Head) → Also h → IsFiled h ⊎ (head ≡ h))
    (was_also : (h : Head) → IsFiled h → Also h) (now : Also head) (apart : IsFiled head → ⊥) (f : AreFiled d IsFiled old) where
  module _ (a : AddsOpening d head old new) where
    old_there : (sort : ℕ) (o : Opening) → Contains (openings_of old sort) o → Contains (openings_of new sort) o
    old_there sort o there = ⊎_elim
        (λ same. subst (λ l. Contains l o) (sym same) there)
        (λ e. subst (λ (s : ℕ). Contains (openings_of old s) o → Contains (openings_of new s) o) (sym e)
        (λ was. subst (λ l. Contains l o) (sym a.row) (Contains-append_left (openings_of old a.sort) (a.opening ∷ []) o was)) there)
        (a.rows sort)

    here : Contains (openings_of new a.sort) a.opening
    here = subst (λ l. Contains l a.opening) (sym a.row) (Contains-push (openings_of old a.sort) a.opening)

    only_in : (sort : ℕ) (o : Opening) → Contains (openings_of old sort) o ⊎ ((sort ≡ a.sort) × (a.opening ≡ o)) → IsOpening d sort o × Also o.head
    only_in sort o (inl there) = let h = f.only sort o there in (h.0, was_also o.head h.1)
    only_in sort o (inr (e, is)) = (
      subst (λ (s : ℕ). IsOpening d s o) (sym e) (subst (IsOpening d a.sort) is a.is),
      subst Also (sym a.same_head ∙ ap (λ x. x.head) is) now,
    )

    new_cases : (sort : ℕ) (o : Opening) → Contains (openings_of new sort) o → Contains (openings_of old sort) o ⊎ ((sort ≡ a.sort) × (a.opening ≡ o))
    new_cases sort o there = ⊎_elim
        (λ same. inl (subst (λ l. Contains l o) same there))
        (λ e. ⊎_elim (λ was. inl (subst (λ (s : ℕ). Contains (openings_of old s) o) (sym e) was)) (λ is. inr (e, is))
        (Contains-push_cases (openings_of old a.sort) a.opening o (subst (λ l. Contains l o) a.row (subst (λ (s : ℕ). Contains (openings_of new s) o) e there))))
        (a.rows sort)

    fresh : Among a.opening.head (map (λ (o : Opening). o.head) (openings_of old a.sort)) → ⊥
    fresh h =
        let k = among_map (λ (o : Opening). o.head) (openings_of old a.sort) a.opening.head h in
        apart (subst IsFiled (sym k.2 ∙ a.same_head) (f.only a.sort k.0 k.1).1)

    once_at : EachOnce (map (λ (o : Opening). o.head) (openings_of new a.sort))
    once_at = subst (λ l. EachOnce (map (λ (o : Opening). o.head) l)) (sym a.row)
        (subst EachOnce (sym (map_push (λ (o : Opening). o.head) (openings_of old a.sort) a.opening))
        (once_push (map (λ (o : Opening). o.head) (openings_of old a.sort)) a.opening.head (f.once a.sort) fresh))

    added_filed : AreFiled d Also new
    added_filed = record {
      only = λ sort o there. only_in sort o (new_cases sort o there);
      every = λ h also sort least is. ⊎_elim
          (λ was. let k = f.every h was sort least is in (k.0, old_there sort k.0 k.1, k.2))
          (λ e.
          let sorts : a.sort ≡ sort = sym a.is.same_sort ∙ made_sort (production_of (plain d) a.opening.head) a.is.production sort least a.is.is
          (subst (λ x. IsOfSort (production_of (plain d) x) sort least) (sym (a.same_head ∙ e)) is) in
          (a.opening, subst (λ (s : ℕ). Contains (openings_of new s) a.opening) sorts here, a.same_head ∙ e))
          (also_was h also);
      once = λ sort. ⊎_elim
          (λ same. subst (λ l. EachOnce (map (λ (o : Opening). o.head) l)) (sym same) (f.once sort))
          (λ e. subst (λ (s : ℕ). EachOnce (map (λ (o : Opening). o.head) (openings_of new s))) (sym e) once_at)
          (a.rows sort);
    }

  filed_on : MayAddOpening d head old new → AreFiled d Also new
  filed_on (inl a) = added_filed a
  filed_on (inr (none, same)) = subst (AreFiled d Also) (sym same) (record {
    only = λ sort o there. let h = f.only sort o there in (h.0, was_also o.head h.1);
    every = λ h also sort least is. ⊎_elim
        (λ was. f.every h was sort least is)
        (λ e. absurd (none sort least (subst (λ x. IsOfSort (production_of (plain d) x) sort least) (sym e) is)))
        (also_was h also);
    once = f.once;
  })

one_label : (n : ℕ) (h : Head) → IsBelow (n + 1) 0 h → IsBelow n 0 h ⊎ (Labelled n ≡ h)
one_label n (Labelled label) low = ⊎_elim (λ less. inl less) (λ more. inr (let e : n ≡ label = omega arith in ap Labelled e)) (cases_lt label n)
one_label n (Bracketed sort) low = inl low

one_sort : (m n : ℕ) (h : Head) → IsBelow m (n + 1) h → IsBelow m n h ⊎ (Bracketed n ≡ h)
one_sort m n (Labelled label) low = inl low
one_sort m n (Bracketed sort) low = ⊎_elim (λ less. inl less) (λ more. inr (let e : n ≡ sort = omega arith in ap Bracketed e)) (cases_lt sort n)

also_label : (n : ℕ) (h : Head) → IsBelow n 0 h → IsBelow (n + 1) 0 h
also_label n (Labelled label) low = omega arith
also_label n (Bracketed sort) low = low

also_sort : (m n : ℕ) (h : Head) → IsBelow m n h → IsBelow m (n + 1) h
also_sort m n (Labelled label) low = low
also_sort m n (Bracketed sort) low = omega arith

module _ (d : GrammarData) where
  pub filed_none : (t : Table Opening) → ((sort : ℕ) → openings_of t sort ≡ []) → AreFiled d (IsBelow 0 0) t
  filed_none t none = record {
    only = λ sort o there. absurd (nothing_in (openings_of t sort) o (none sort) there);
    every = λ h low. absurd (nothing_below h low);
    once = λ sort. subst (λ l. EachOnce (map (λ (o : Opening). o.head) l)) (sym (none sort)) tt;
  }
    where
      nothing_below : (h : Head) → IsBelow 0 0 h → ⊥
      nothing_below (Labelled label) low = omega arith
      nothing_below (Bracketed sort) low = omega arith

  pub filed_label : (n : ℕ) (old new : Table Opening) → AreFiled d (IsBelow n 0) old → MayAddOpening d (Labelled n) old new → AreFiled d (IsBelow (n + 1) 0) new
  filed_label n old new = filed_on d (Labelled n) (IsBelow n 0) (IsBelow (n + 1) 0) old new (one_label n) (also_label n) (omega arith) (λ low. let less : n < n = low in omega arith)

  pub filed_sort : (m n : ℕ) (old new : Table Opening) → AreFiled d (IsBelow m n) old → MayAddOpening d (Bracketed n) old new → AreFiled d (IsBelow m (n + 1)) new
  filed_sort m n old new = filed_on d (Bracketed n) (IsBelow m n) (IsBelow m (n + 1)) old new (one_sort m n) (also_sort m n) (omega arith) (λ low. let less : n < n = low in omega arith)

  made_of : (o : Option Production) (sort level : ℕ) → Some (sort, level) ≡ sort_and_level o → (p : Production) × (o ≡ Some p) × (p.sort ≡ sort) × (p.level ≡ level)
  made_of None sort level e = absurd (none-some (sort, level) (sym e))
  made_of (Some p) sort level e = let q = some_pair_parts p.sort sort p.level level (sym e) in (p, refl, q.0, q.1)

  -- the opening of a head that makes a sort
  pub opening_of : (o : Opening) (sort : ℕ) → Some (sort, o.level) ≡ sort_and_level (production_of (plain d) o.head) → IsNextSymbol d (beginning o.head 0) o.first → IsOpening d sort o
  opening_of o sort e first =
      let p = made_of (production_of (plain d) o.head) sort o.level e in
      record { production = p.0; is = p.1; same_sort = p.2; same_level = p.3; first = first }

pub nothing_made : (o : Option Production) → None ≡ sort_and_level o → (sort least : ℕ) → IsOfSort o sort least → ⊥
nothing_made None e sort least is = absurd is
nothing_made (Some p) e sort least is = none-some (p.sort, p.level) e
