-- Finding the sorts of a core file.
use Rattle.std.proofs.Common.{◌≡◌, ℕ, ◌+◌, ◌<◌, List, [], ◌∷◌, ◌++◌, length, inl, inr, map, refl, sym, ap, ◌∙◌, subst, arith}
use Rattle.std.specs.Prelude.{codes, Contains, Option, Some, MatchOption, Result, Ok, Err, IfOk}
use Rattle.std.specs.Prelude.{◌^◌}
use Rattle.sx_term.specs.declared.no_memory.NoMemory.{NoMemory}
use Rattle.sx_lines.specs.Lines.{Lines, over, line}
use Rattle.sx_core.specs.File.{SortRow, sort_line}
use Rattle.sx_core.specs.Stated.{IsCoreName, AreStatedNames}
use Rattle.sx_lines.specs.Distinct.{AreTextsDistinct}
use Rattle.sx_core.specs.Rows.{sort_row, IsDeclarationLine, NoRow}
use Rattle.sx_core.specs.declared.rows.SortRow.{SortRow as SortRowOf}
use Rattle.sx_core.specs.Resolving.{sort_names, rows_in, IsSortTable}
use Rattle.sx_core.specs.Table.{parts_text, row_with, row_text, IsKeyword, NoKeyword}
use Rattle.sx_core.specs.Fitting.{AreSorts}
use Rattle.sx_core.specs.Machine.{IsSortLine, FindsSort}
use Rattle.sx_core.specs.declared.keyword.Keyword.{Keyword}
use Rattle.sx_core.specs.declared.keyword.Keyword.TheVariants.{Sort}
use Rattle.sx_core.specs.declared.sort_table.SortTable.{SortTable}
use Rattle.sx_core.specs.declared.terms_row.RowError.TheVariants.{Shape as Bad}
use Rattle.sx_core.proofs.TableLaws.{one_keyword, parts_stop}
use Rattle.sx_core.proofs.PartLaws.{sort_same}
use Rattle.sx_rules.specs.Good.{IsAmong}
use Rattle.sx_rules.proofs.NameLaws.{contains_among}
use Rattle.sx_core.proofs.AmongLaws.{distinct_snoc}
use Rattle.sx_core.proofs.RowLaws.{first_of}
use Rattle.sx_core.proofs.Wording.{map_last}

-- ---- the line of a sort

pub sort_is : (text rest : List ℕ) → IsKeyword text Sort rest → (r : SortRow) → IsDeclarationLine (codes "sort" ++ rest) (sort_line r) → IsSortLine text r
sort_is text rest k r h = (k.parts ∙ h.line, h.spelled)

pub sort_not : (text rest : List ℕ) → IsKeyword text Sort rest → NoRow sort_line (codes "sort") rest Bad → (r : SortRow) → IsSortLine text r → ⊥
sort_not text rest k n r h = n r (record { line = sym k.parts ∙ h.0; spelled = h.1 })

keyword_here : (text : List ℕ) (r : SortRow) → text ≡ row_text (row_with Sort r) → IsKeyword text Sort (parts_text Sort r)
keyword_here text r e = record { parts = e; stops = parts_stop Sort r }

pub other_word : (text : List ℕ) (k : Keyword) (rest : List ℕ) → IsKeyword text k rest → (k ≡ Sort → ⊥) → (r : SortRow) → IsSortLine text r → ⊥
other_word text k rest h n r s = n (one_keyword text k Sort rest (parts_text Sort r) h (keyword_here text r s.0)).0

pub no_word : (text : List ℕ) → NoKeyword text → (r : SortRow) → IsSortLine text r → ⊥
no_word text n r s = n Sort (parts_text Sort r) (keyword_here text r s.0)

-- ---- one line

pub one_sort : (text : List ℕ) (a b : SortRow) → IsSortLine text a → IsSortLine text b → a ≡ b
one_sort text a b h k = sort_same a b h.1 k.1 (one_keyword text Sort Sort (parts_text Sort a) (parts_text Sort b) (keyword_here text a h.0) (keyword_here text b k.0)).1

pub finds_new : (old new : SortTable) (text : List ℕ) (r : SortRow) → old.names ≡ sort_names (rows_in old) → IsSortLine text r → (Contains old.names r.name → ⊥) → rows_in new ≡ rows_in old ++ r ∷ [] → new.names ≡ old.names ++ r.name ∷ [] → FindsSort old new text
finds_new old new text r e h n f g = inl (r, (h.0, h.1, λ k. n (subst (λ (z : List (List ℕ)). Contains z r.name) (sym e) k)), f, g)

pub finds_taken : (old new : SortTable) (text : List ℕ) (r : SortRow) → old.names ≡ sort_names (rows_in old) → IsSortLine text r → Contains old.names r.name → new ≡ old → FindsSort old new text
finds_taken old new text r e h c same =
    inr ((λ x k. k.2 (subst (λ (z : SortRow). Contains (sort_names (rows_in old)) z.name) (one_sort text r x h (k.0, k.1)) (subst (λ (z : List (List ℕ)). Contains z r.name) e c))), same)

pub finds_none : (old new : SortTable) (text : List ℕ) → ((r : SortRow) → IsSortLine text r → ⊥) → new ≡ old → FindsSort old new text
finds_none old new text n same = inr ((λ x k. n x (k.0, k.1)), same)

-- ---- the lexical sorts

not_id : IsAmong (codes "id") (codes "num" ∷ codes "str" ∷ []) → ⊥
not_id (inl e) = let q = ap first_of e in omega arith
not_id (inr (inl e)) = let q = ap first_of e in omega arith
not_id (inr (inr h)) = absurd h

not_num : IsAmong (codes "num") (codes "str" ∷ []) → ⊥
not_num (inl e) = let q = ap first_of e in omega arith
not_num (inr h) = absurd h

num_not : IsAmong (codes "num") (codes "id" ∷ []) → ⊥
num_not (inl e) = let q = ap first_of e in omega arith
num_not (inr h) = absurd h

str_not : IsAmong (codes "str") (codes "id" ∷ codes "num" ∷ []) → ⊥
str_not (inl e) = let q = ap first_of e in omega arith
str_not (inr (inl e)) = let q = ap first_of e in omega arith
str_not (inr (inr h)) = absurd h

pub id_new : Contains [] (codes "id") → ⊥
id_new h = absurd (contains_among [] (codes "id") h)

pub num_new : Contains (codes "id" ∷ []) (codes "num") → ⊥
num_new h = num_not (contains_among (codes "id" ∷ []) (codes "num") h)

pub str_new : Contains (codes "id" ∷ codes "num" ∷ []) (codes "str") → ⊥
str_new h = str_not (contains_among (codes "id" ∷ codes "num" ∷ []) (codes "str") h)

pub lexical_distinct : AreTextsDistinct (sort_names [])
lexical_distinct = (
  (λ h. not_id (contains_among (codes "num" ∷ codes "str" ∷ []) (codes "id") h)),
  (
    (λ h. not_num (contains_among (codes "str" ∷ []) (codes "num") h)),
    (
      (λ h. absurd (contains_among [] (codes "str") h)),
      tt,
    ),
  ),
)

-- ---- the lines so far

-- the table is that of the sorts so far, and with those of the lines that are left it has all
pub record Finding (lines : Lines) (t : SortTable) (next : Lines) : Type 0 where
  pub names : t.names ≡ sort_names (rows_in t)
  pub distinct : AreTextsDistinct (sort_names (rows_in t))
  pub named : AreStatedNames (map (λ row. row.name) (rows_in t))
  pub rest : (all : List SortRow) → AreSorts (rows_in t) next all → AreSorts [] lines all

pub find_begin : (lines : Lines) (t : SortTable) → t.names ≡ sort_names [] → rows_in t ≡ [] → Finding lines t lines
find_begin lines t e f = record {
  names = e ∙ sym (ap sort_names f);
  distinct = subst (λ (z : List SortRow). AreTextsDistinct (sort_names z)) (sym f) lexical_distinct;
  named = subst (λ (z : List SortRow). AreStatedNames (map (λ row. row.name) z)) (sym f) tt;
  rest = λ all h. subst (λ (z : List SortRow). AreSorts z lines all) f h;
}

named_snoc : (rows : List SortRow) (r : SortRow) → AreStatedNames (map (λ row. row.name) rows) → IsCoreName r.name → AreStatedNames (map (λ row. row.name) (rows ++ r ∷ []))
named_snoc [] r h n = (n, tt)
named_snoc (x ∷ rows) r h n = (h.0, named_snoc rows r h.1 n)

names_snoc : (rows : List SortRow) (r : SortRow) → sort_names rows ++ r.name ∷ [] ≡ sort_names (rows ++ r ∷ [])
names_snoc rows r = ap (λ (z : List (List ℕ)). codes "id" ∷ codes "num" ∷ codes "str" ∷ z) (sym (map_last (λ (x : SortRow). x.name) rows r))

pub find_more : (lines : Lines) (s t : SortTable) (next more : Lines) (n : ℕ) (text rest : List ℕ) → Finding lines s next → next ≡ line n text rest more → FindsSort s t text → Finding lines t more
find_more lines s t next more n text rest f e (inl (r, new, rows, names)) =
    record {
      names = names ∙ ap (λ (z : List (List ℕ)). z ++ r.name ∷ []) f.names ∙ names_snoc (rows_in s) r ∙ sym (ap sort_names rows);
      distinct = subst (λ (z : List SortRow). AreTextsDistinct (sort_names z)) (sym rows) (subst AreTextsDistinct (names_snoc (rows_in s) r) (distinct_snoc (sort_names (rows_in s)) r.name f.distinct new.2));
      named = subst (λ (z : List SortRow). AreStatedNames (map (λ row. row.name) z)) (sym rows) (named_snoc (rows_in s) r f.named new.1);
      rest = λ all h. f.rest all (subst (λ (z : Lines). AreSorts (rows_in s) z all) (sym e) (inl (r, new, subst (λ (z : List SortRow). AreSorts z more all) rows h)));
    }
find_more lines s t next more n text rest f e (inr (none, same)) =
    subst (λ (z : SortTable). Finding lines z more) (sym same) (record {
      names = f.names;
      distinct = f.distinct;
      named = f.named;
      rest = λ all h. f.rest all (subst (λ (z : Lines). AreSorts (rows_in s) z all) (sym e) (inr (none, h)));
    })

-- all lines are read, and each sort has a number
pub find_end : (lines : Lines) (s t : SortTable) (next : Lines) (n : ℕ) → Finding lines s next → next ≡ over n → t ≡ s → length (rows_in t) + 3 < 2 ^ 32 → IsSortTable t × AreStatedNames (map (λ row. row.name) (rows_in t)) × AreSorts [] lines (rows_in t)
find_end lines s t next n h e same few =
    let f : Finding lines t next = subst (λ (z : SortTable). Finding lines z next) (sym same) h in
    (record { names = f.names; distinct = f.distinct; few = few }, f.named, f.rest (rows_in t) (subst (λ (z : Lines). AreSorts (rows_in t) z (rows_in t)) (sym e) refl))

pub all_found : (lines : Lines) (s : SortTable) (next : Lines) (n : ℕ) (r : Result SortTable NoMemory) → Finding lines s next → next ≡ over n → IfOk r (λ t. (t ≡ s) × (length (rows_in t) + 3 < 2 ^ 32))
    → IfOk r (λ t. IsSortTable t × AreStatedNames (map (λ row. row.name) (rows_in t)) × AreSorts [] lines (rows_in t))
all_found lines s next n (Ok t) f e h = find_end lines s t next n f e h.0 h.1
all_found lines s next n (Err x) f e h = tt

-- ---- what a call answers

pub found_row : (text : List ℕ) (o : Option SortRowOf) (r : SortRowOf) → o ≡ Some r → MatchOption o ((x : SortRow) → IsSortLine text x → ⊥) (λ x. IsSortLine text (sort_row x)) → IsSortLine text (sort_row r)
found_row text o r e h = subst (λ (z : Option SortRowOf). MatchOption z ((x : SortRow) → IsSortLine text x → ⊥) (λ x. IsSortLine text (sort_row x))) e h

pub rows_pushed : (rows new : List SortRowOf) (r : SortRowOf) → new ≡ rows ++ r ∷ [] → map sort_row new ≡ map sort_row rows ++ sort_row r ∷ []
rows_pushed rows new r e = ap (map sort_row) e ∙ map_last sort_row rows r
