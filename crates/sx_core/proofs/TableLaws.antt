-- Words that begin lines, and rows.
use Rattle.std.proofs.Common.{◌≡◌, ℕ, ◌+◌, ◌*◌, List, ◌++◌, get_or, take, drop, refl, sym, ap, ◌∙◌, subst, arith}
use Rattle.std.specs.Prelude.{◌==◌, if◌then◌else◌}
use Rattle.std.proofs.lemmas.List.{take-append-drop}
use Rattle.sx_lines.specs.Blanks.{NoSpace}
use Rattle.sx_core.specs.Words.{BlankFirst, IsWordEnd}
use Rattle.sx_core.specs.Table.{core_keyword_text, RowParts, parts_text, Row, row_text, row_with, IsKeyword}
use Rattle.sx_core.specs.Table.{NoKeyword}
use Rattle.sx_core.specs.declared.keyword.Keyword.{Keyword}
use Rattle.sx_core.specs.declared.keyword.Keyword.TheVariants.{Head, Sort, Con, Form, Rule, If, Not}
use Rattle.sx_core.specs.declared.keyword.Keyword.TheVariants.{Then, End, Goal}
use Rattle.sx_core.proofs.Wording.{one_word}

pub keyword_space : (k : Keyword) → NoSpace (core_keyword_text k)
keyword_space Head = ((λ e. omega arith), ((λ e. omega arith), ((λ e. omega arith), ((λ e. omega arith), ((λ e. omega arith), ((λ e. omega arith), tt))))))
keyword_space Sort = ((λ e. omega arith), ((λ e. omega arith), ((λ e. omega arith), ((λ e. omega arith), tt))))
keyword_space Con = ((λ e. omega arith), ((λ e. omega arith), ((λ e. omega arith), tt)))
keyword_space Form = ((λ e. omega arith), ((λ e. omega arith), ((λ e. omega arith), ((λ e. omega arith), tt))))
keyword_space Rule = ((λ e. omega arith), ((λ e. omega arith), ((λ e. omega arith), ((λ e. omega arith), tt))))
keyword_space If = ((λ e. omega arith), ((λ e. omega arith), tt))
keyword_space Not = ((λ e. omega arith), ((λ e. omega arith), ((λ e. omega arith), tt)))
keyword_space Then = ((λ e. omega arith), ((λ e. omega arith), ((λ e. omega arith), ((λ e. omega arith), tt))))
keyword_space End = ((λ e. omega arith), ((λ e. omega arith), ((λ e. omega arith), tt)))
keyword_space Goal = ((λ e. omega arith), ((λ e. omega arith), ((λ e. omega arith), ((λ e. omega arith), tt))))

-- ---- a word is told by its first two letters

mark : List ℕ → ℕ
mark text = get_or text 0 0 + 256 * get_or text 1 0

told : ℕ → Keyword
told n =
    if n == 115 + 256 * 120 then Head
    else if n == 115 + 256 * 111 then Sort
    else if n == 99 + 256 * 111 then Con
    else if n == 102 + 256 * 111 then Form
    else if n == 114 + 256 * 117 then Rule
    else if n == 105 + 256 * 102 then If
    else if n == 110 + 256 * 111 then Not
    else if n == 116 + 256 * 104 then Then
    else if n == 101 + 256 * 110 then End
    else Goal

told_is : (k : Keyword) → told (mark (core_keyword_text k)) ≡ k
unfolding told mark
told_is Head = refl
told_is Sort = refl
told_is Con = refl
told_is Form = refl
told_is Rule = refl
told_is If = refl
told_is Not = refl
told_is Then = refl
told_is End = refl
told_is Goal = refl

pub one_keyword_text : (k l : Keyword) → core_keyword_text k ≡ core_keyword_text l → k ≡ l
one_keyword_text k l e = sym (told_is k) ∙ ap (λ x. told (mark x)) e ∙ told_is l

pub one_keyword : (text : List ℕ) (k l : Keyword) (x y : List ℕ) → IsKeyword text k x → IsKeyword text l y → (k ≡ l) × (x ≡ y)
one_keyword text k l x y h j =
    let q = one_word (core_keyword_text k) (core_keyword_text l) x y (keyword_space k) (keyword_space l) h.stops j.stops (sym h.parts ∙ j.parts) in
    (one_keyword_text k l q.0, q.1)

pub no_keyword : (text : List ℕ) (at : ℕ) → IsWordEnd text at → ((k : Keyword) → take at text ≡ core_keyword_text k → ⊥) → NoKeyword text
no_keyword text at w n k rest h =
    n k (one_word (take at text) (core_keyword_text k) (drop at text) rest w.word (keyword_space k) w.stops h.stops (take-append-drop at text ∙ h.parts)).0

pub is_keyword : (text : List ℕ) (at : ℕ) (k : Keyword) → IsWordEnd text at → take at text ≡ core_keyword_text k → IsKeyword text k (drop at text)
is_keyword text at k w e = record { parts = sym (take-append-drop at text) ∙ ap (λ (x : List ℕ). x ++ drop at text) e; stops = w.stops }

pub parts_stop : (k : Keyword) (p : RowParts k) → BlankFirst (parts_text k p)
parts_stop Head p = refl
parts_stop Sort p = refl
parts_stop Con p = refl
parts_stop Form p = refl
parts_stop Rule p = refl
parts_stop If p = refl
parts_stop Not p = refl
parts_stop Then p = refl
parts_stop End p = tt
parts_stop Goal p = refl

-- a row's line begins with its word
pub row_keyword : (r : Row) → IsKeyword (row_text r) r.keyword (parts_text r.keyword r.parts)
row_keyword r = record { parts = refl; stops = parts_stop r.keyword r.parts }

-- what a line that begins with a word is as a row
pub only_row : (text : List ℕ) (k : Keyword) (rest : List ℕ) → IsKeyword text k rest → (P : Row → Type 0) → ((p : RowParts k) → rest ≡ parts_text k p → P (row_with k p)) → (r : Row) → text ≡ row_text r → P r
only_row text k rest h P f r e =
    let q = one_keyword text k r.keyword rest (parts_text r.keyword r.parts) h (record { parts = e; stops = parts_stop r.keyword r.parts }) in
    at r.keyword q.0 r.parts q.1
  where
    at : (l : Keyword) → k ≡ l → (p : RowParts l) → rest ≡ parts_text l p → P (row_with l p)
    at l same = subst (λ (m : Keyword). (p : RowParts m) → rest ≡ parts_text m p → P (row_with m p)) same f
