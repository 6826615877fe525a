-- What refusals of plain tables tell has names.
use Rattle.std.proofs.Common.{◌≡◌, ℕ, zero, suc, ◌<◌, List, [], ◌∷◌, Bool, true, false, if◌then◌else◌, length, Option, Some, None, Err, refl, ap, ◌∙◌, subst}
use Rattle.std.specs.Prelude.{slice_get, nat_lt}
use Rattle.std.specs.List.{AllByRecursion}
use Rattle.std.proofs.lemmas.Option.{slice_get_within, none-some}
use Rattle.sx_term.specs.Tree.{Tree, Trees, node, lexeme, hole, none, ◌▹◌}
use Rattle.sx_term.specs.declared.sort.Sort.{Sort}
use Rattle.sx_term.specs.Sorts.{Shape, HasSort, KidsHaveSorts}
use Rattle.std.proofs.lemmas.List.{length-map}
use Rattle.sx_grammar.specs.Parts.{Parts, names, numbered, numbered_line}
use Rattle.sx_grammar.specs.Told.{shape_of, shapes_of}
use Rattle.sx_plain.specs.declared.plain_error.PlainError.{PlainError}
use Rattle.sx_plain.specs.declared.plain_error.PlainError.TheVariants as plain
use Rattle.sx_plain.specs.Adds.{uncovered, label_or, first_uncovered, first_uncovered_of}
use Rattle.sx_plain.specs.Adds.{IsBodyAdded}
use Rattle.sx_plain.specs.Plain.{Body, Table}
use Rattle.sx_outline.specs.Stages.{PlainData}
use Rattle.sx_extension.specs.declared.table_error.TableError.{TableError}
use Rattle.sx_extension.specs.declared.table_error.TableError.TheVariants as table
use Rattle.sx_extension.specs.PlainBodies.{BodyData, IsBodyOf}
use Rattle.sx_extension.specs.PlainTables.{IsFirstRefused, IsTableMade}
use Rattle.sx_extension.specs.Defects.{CanName}
use Rattle.sx_extension.specs.TableRefusals.{CanNameTable, HaveParts}

uncovered_is : (base : ℕ) (o : Option Body) (label n : ℕ) → uncovered base o label ≡ Some n → label ≡ n
uncovered_is base None label n e = by (nat_lt label base) e
  where
    by : (b : Bool) → (if b then None else Some label) ≡ Some n → label ≡ n
    by true k = absurd (none-some n k)
    by false k = cc
uncovered_is base (Some body) label n e = absurd (none-some n e)

-- the labels of a well sorted term are those of shapes
module _ (shapes : List Shape) (vars : List Sort) (base : ℕ) (table : Table) (l : ℕ) where
  mutual
    pub label_below : (t : Tree) (sort : Sort) → HasSort shapes vars t sort → first_uncovered base table t ≡ Some l → l < length shapes
    label_below (node label ts) sort h e = here (uncovered base (table label) label) refl e (labels_below ts h.0.kids h.3)
      where
        here : (o : Option ℕ) → uncovered base (table label) label ≡ o → label_or o (first_uncovered_of base table ts) ≡ Some l → (first_uncovered_of base table ts ≡ Some l → l < length shapes) → l < length shapes
        here None u k rest = rest k
        here (Some n) u k rest =
            let q : n ≡ l = cc in
            let r = uncovered_is base (table label) label n u in
            subst (λ (i : ℕ). i < length shapes) (r ∙ q) (slice_get_within shapes label h.0 h.1)
    label_below (lexeme kind text) sort h e = absurd (none-some l e)
    label_below (hole v) sort h e = absurd (none-some l e)

    labels_below : (ts : Trees) (sorts : List Sort) → KidsHaveSorts shapes vars ts sorts → first_uncovered_of base table ts ≡ Some l → l < length shapes
    labels_below none sorts h e = absurd (none-some l e)
    labels_below (t ▹ ts) [] h e = absurd h
    labels_below (t ▹ ts) (s ∷ ss) h e = by (first_uncovered base table t) refl e (label_below t s h.0) (labels_below ts ss h.1)
      where
        by : (o : Option ℕ) → first_uncovered base table t ≡ o → label_or o (first_uncovered_of base table ts) ≡ Some l → (first_uncovered base table t ≡ Some l → l < length shapes) →
            (first_uncovered_of base table ts ≡ Some l → l < length shapes) → l < length shapes
        by None u k first rest = rest k
        by (Some n) u k first rest = first (u ∙ k)

module _ (all : List Shape) (first base : ℕ) (p : Parts) (many : length all ≡ length p.productions) where
  named_one : (old : Table) (l : PlainData) (b : BodyData) (e : PlainError) → IsBodyOf all first b → b.parts ≡ length l.names → IsBodyAdded base old old b.label b.parts b.term (Err e) → CanName p l e
  named_one old l b plain.Memory is parts h = tt
  named_one old l b (plain.Twice n) is parts h = tt
  named_one old l b (plain.UsesLater n) is parts h = subst (λ (k : ℕ). n < k) many (label_below all is.shape.kids base old n b.term is.shape.sort is.sorted h.1)
  named_one old l b (plain.Drops v) is parts h = subst (λ (k : ℕ). v < k) parts h.2.within
  named_one old l b (plain.TooDeep d) is parts h = tt
  named_one old l b (plain.TooBig n) is parts h = tt

  named_at : (ls : List PlainData) (bs : List BodyData) → AllByRecursion (IsBodyOf all first) bs → HaveParts ls bs → (old : Table) (number : ℕ) (e : PlainError) → IsFirstRefused base old bs number e →
      (l : PlainData) × (slice_get ls number ≡ Some l) × CanName p l e
  named_at ls [] is parts old number e h = absurd h
  named_at [] (b ∷ bs) is parts old number e h = absurd parts
  named_at (l ∷ ls) (b ∷ bs) is parts old zero e h = (l, refl, named_one old l b e is.0 parts.0 h)
  named_at (l ∷ ls) (b ∷ bs) is parts old (suc number) e h = named_at ls bs is.1 parts.1 h.0 number e h.2

  -- the refusal of a plain table can be told by names
  pub can_name : (ls : List PlainData) (bs : List BodyData) → AllByRecursion (IsBodyOf all first) bs → HaveParts ls bs → (old : Table) (e : TableError) → IsTableMade base all first old bs (Err e) →
      CanNameTable p ls e
  can_name ls bs is parts old table.Memory h = tt
  can_name ls bs is parts old (table.Plain number e) h = named_at ls bs is parts old number e h.1
  can_name ls bs is parts old (table.NoPlain number) h =
      let at = h.2.lacks.0 in subst (λ (k : ℕ). number < k) many (slice_get_within all number at.0 at.1)

-- there are as many shapes as productions
pub many_shapes : (p : Parts) (all : List Shape) → all ≡ shapes_of p → length all ≡ length p.productions
many_shapes p all is = ap length is ∙ length-map (numbered p).productions (shape_of p.sorts) ∙ length-map p.productions (numbered_line (names p))
