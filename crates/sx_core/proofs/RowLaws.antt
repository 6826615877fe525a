-- Reading the rows of declarations.
use Rattle.std.proofs.Common.{◌≡◌, ℕ, List, [], ◌∷◌, ◌++◌, get_or, map, refl, sym, ap, ◌∙◌, subst, arith, append-nil}
use Rattle.std.specs.Prelude.{codes}
use Rattle.sx_lines.specs.Blanks.{NoSpace}
use Rattle.sx_term.specs.declared.role.Role.{Role}
use Rattle.sx_term.specs.declared.role.Role.TheVariants.{In, Sub, Out}
use Rattle.sx_core.specs.File.{PlaceRow, sort_line, con_line, form_line, core_role_text, core_place_text}
use Rattle.sx_core.specs.File.{core_kind_text, words_text}
use Rattle.sx_core.specs.Stated.{IsCoreName}
use Rattle.sx_core.specs.Words.{IsWordRead, NoWord, IsNameRead, NameRefused, NamesRefused}
use Rattle.sx_core.specs.Rows.{AreNamed, NoPlaceWord, NoKind, IsPlaceRead, PlaceRefused}
use Rattle.sx_core.specs.Rows.{ArePlacesRead, PlacesRefused, NoRow}
use Rattle.sx_core.specs.declared.terms_row.RowError.{RowError}
use Rattle.sx_core.specs.declared.terms_row.RowError.TheVariants.{Memory, Shape, TooDeep}
use Rattle.sx_core.proofs.TermsLaws.{tail_is, nothing_is}
use Rattle.sx_core.proofs.Wording.{name_space, one_word, words_stop, AreWords, words_snoc}

pub same_after : (front x y : List ℕ) → front ++ x ≡ front ++ y → x ≡ y
same_after [] x y e = e
same_after (b ∷ front) x y e = same_after front x y (tail_is b b (front ++ x) (front ++ y) e)

abbrev pub first_of : List ℕ → ℕ
first_of text = get_or text 0 0

-- ---- places

append_space : (x y : List ℕ) → NoSpace x → NoSpace y → NoSpace (x ++ y)
append_space [] y h k = k
append_space (b ∷ x) y h k = (h.0, append_space x y h.1 k)

role_space : (role : Role) → NoSpace (core_role_text role)
role_space In = ((λ e. omega arith), ((λ e. omega arith), ((λ e. omega arith), tt)))
role_space Sub = ((λ e. omega arith), ((λ e. omega arith), ((λ e. omega arith), ((λ e. omega arith), tt))))
role_space Out = ((λ e. omega arith), ((λ e. omega arith), ((λ e. omega arith), ((λ e. omega arith), tt))))

pub place_space : (row : PlaceRow) → IsCoreName row.sort → NoSpace (core_place_text row)
place_space row h = append_space (core_role_text row.role) row.sort (role_space row.role) (name_space row.sort h)

pub place_refused : (text word rest : List ℕ) (e : RowError) → IsWordRead text word rest → NoPlaceWord word e → PlaceRefused text e
place_refused text word rest Memory w h = tt
place_refused text word rest Shape w h = λ row more p.
    let q = one_word word (core_place_text row) rest more w.spaceless (place_space row p.named) w.stops p.stops (tail_is 32 32 (word ++ rest) (core_place_text row ++ more) (sym w.parts ∙ p.parts)) in
    h row (q.0, p.named)
place_refused text word rest (TooDeep depth) w h = h

pub no_word_place : (text : List ℕ) → NoWord text → PlaceRefused text Shape
no_word_place text h = λ row rest p. h (core_place_text row) rest p.parts

pub place_words : (rows : List PlaceRow) → AreNamed rows → AreWords (map core_place_text rows)
place_words [] h = tt
place_words (row ∷ rows) h = (place_space row h.0, place_words rows h.1)

named_snoc : (rows : List PlaceRow) (row : PlaceRow) → AreNamed rows → IsCoreName row.sort → AreNamed (rows ++ row ∷ [])
named_snoc [] row h k = (k, tt)
named_snoc (r ∷ rows) row h k = (h.0, named_snoc rows row h.1 k)

texts_snoc : (rows : List PlaceRow) (row : PlaceRow) → map core_place_text (rows ++ row ∷ []) ≡ map core_place_text rows ++ core_place_text row ∷ []
texts_snoc [] row = refl
texts_snoc (r ∷ rows) row = ap (λ (x : List (List ℕ)). core_place_text r ∷ x) (texts_snoc rows row)

-- the places so far, and what is left
pub record PlacesSoFar (text : List ℕ) (rows : List PlaceRow) (left : List ℕ) : Type 0 where
  pub parts : text ≡ words_text (map core_place_text rows) ++ left
  pub named : AreNamed rows
  pub only : (all : List PlaceRow) → ArePlacesRead text all → (more : List PlaceRow) × ArePlacesRead left more

pub places_none : (text : List ℕ) (rows : List PlaceRow) → rows ≡ [] → PlacesSoFar text rows text
places_none text rows e = record {
  parts = sym (ap (λ (x : List PlaceRow). words_text (map core_place_text x) ++ text) e);
  named = subst AreNamed (sym e) tt;
  only = λ all h. (all, h);
}

one_place_more : (left : List ℕ) (row : PlaceRow) (rest : List ℕ) → IsPlaceRead left row rest → (more : List PlaceRow) → ArePlacesRead left more → (others : List PlaceRow) × ArePlacesRead rest others
one_place_more left row rest r [] h = absurd (nothing_is 32 (core_place_text row ++ rest) (sym h.parts ∙ r.parts))
one_place_more left row rest r (m ∷ more) h =
    let q = one_word (core_place_text row) (core_place_text m) rest (words_text (map core_place_text more)) (place_space row r.named) (place_space m h.named.0) r.stops (words_stop (map core_place_text more)) (tail_is 32 32 (core_place_text row ++ rest) (core_place_text m ++ words_text (map core_place_text more)) (sym r.parts ∙ h.parts)) in
    (more, record { parts = q.1; named = h.named.1 })

pub places_more : (text : List ℕ) (rows new : List PlaceRow) (left : List ℕ) (row : PlaceRow) (rest : List ℕ) → new ≡ rows ++ row ∷ [] → PlacesSoFar text rows left → IsPlaceRead left row rest → PlacesSoFar text new rest
places_more text rows new left row rest e s r = record {
  parts = s.parts ∙ ap (λ (x : List ℕ). words_text (map core_place_text rows) ++ x) r.parts ∙ sym (words_snoc (map core_place_text rows) (core_place_text row) rest) ∙ sym (ap (λ (x : List (List ℕ)). words_text x ++ rest) (ap (map core_place_text) e ∙ texts_snoc rows row));
  named = subst AreNamed (sym e) (named_snoc rows row s.named r.named);
  only = λ all h. let w = s.only all h in one_place_more left row rest r w.0 w.1;
}

none_left : (left : List ℕ) → (left ≡ [] → ⊥) → PlaceRefused left Shape → (more : List PlaceRow) → ArePlacesRead left more → ⊥
none_left left n r [] h = n h.parts
none_left left n r (m ∷ more) h = r m (words_text (map core_place_text more)) (record { parts = h.parts; named = h.named.0; stops = words_stop (map core_place_text more) })

pub places_refused : (text : List ℕ) (rows : List PlaceRow) (left : List ℕ) (e : RowError) → PlacesSoFar text rows left → (left ≡ [] → ⊥) → PlaceRefused left e → PlacesRefused text e
places_refused text rows left Memory s n r = tt
places_refused text rows left Shape s n r = λ all h. let w = s.only all h in none_left left n r w.0 w.1
places_refused text rows left (TooDeep depth) s n r = r

pub places_read : (text : List ℕ) (rows : List PlaceRow) (left : List ℕ) → PlacesSoFar text rows left → left ≡ [] → ArePlacesRead text rows
places_read text rows left s e = record {
  parts = s.parts ∙ ap (λ (x : List ℕ). words_text (map core_place_text rows) ++ x) e ∙ append-nil (words_text (map core_place_text rows));
  named = s.named;
}

-- ---- rows

-- the first word after a front, where a line is read both ways
second_word : (front text name rest word : List ℕ) (words : List (List ℕ)) → IsNameRead text name rest → front ++ text ≡ front ++ words_text (word ∷ words) → NoSpace word → rest ≡ words_text words
second_word front text name rest word words r e s =
    (one_word name word rest (words_text words) (name_space name r.named) s r.stops (words_stop words) (tail_is 32 32 (name ++ rest) (word ++ words_text words) (sym r.parts ∙ same_after front text (words_text (word ∷ words)) e))).1

pub sort_refused : (text name rest : List ℕ) → IsNameRead text name rest → NoKind rest → NoRow sort_line (codes "sort") text Shape
sort_refused text name rest r n = λ row h.
    n row.typed (second_word (codes "sort") text name rest row.name (core_kind_text row.typed ∷ []) r h.line (name_space row.name h.spelled) ∙ ap (λ (x : List ℕ). 32 ∷ x) (append-nil (core_kind_text row.typed)))

pub sort_unnamed : (text : List ℕ) (e : RowError) → NameRefused text e → NoRow sort_line (codes "sort") text e
sort_unnamed text Memory n = tt
sort_unnamed text Shape n = λ row h. n row.name (words_text (core_kind_text row.typed ∷ [])) h.spelled refl (same_after (codes "sort") text (words_text (row.name ∷ core_kind_text row.typed ∷ [])) h.line)
sort_unnamed text (TooDeep depth) n = n

pub con_unnamed : (text : List ℕ) (e : RowError) → NameRefused text e → NoRow con_line (codes "con") text e
con_unnamed text Memory n = tt
con_unnamed text Shape n = λ row h. n row.name (words_text (row.sort ∷ row.kids)) h.spelled.0 refl (same_after (codes "con") text (words_text (row.name ∷ row.sort ∷ row.kids)) h.line)
con_unnamed text (TooDeep depth) n = n

pub con_unsorted : (text name rest : List ℕ) (e : RowError) → IsNameRead text name rest → NameRefused rest e → NoRow con_line (codes "con") text e
con_unsorted text name rest Memory r n = tt
con_unsorted text name rest Shape r n = λ row h. n row.sort (words_text row.kids) h.spelled.1.0 (words_stop row.kids) (second_word (codes "con") text name rest row.name (row.sort ∷ row.kids) r h.line (name_space row.name h.spelled.0))
con_unsorted text name rest (TooDeep depth) r n = n

pub con_refused : (text name rest sort more : List ℕ) (e : RowError) → IsNameRead text name rest → IsNameRead rest sort more → NamesRefused more e → NoRow con_line (codes "con") text e
con_refused text name rest sort more Memory r s n = tt
con_refused text name rest sort more Shape r s n = λ row h.
    n row.kids h.spelled.1.1 (second_word [] rest sort more row.sort row.kids s (second_word (codes "con") text name rest row.name (row.sort ∷ row.kids) r h.line (name_space row.name h.spelled.0)) (name_space row.sort h.spelled.1.0))
con_refused text name rest sort more (TooDeep depth) r s n = n

pub form_unnamed : (text : List ℕ) (e : RowError) → NameRefused text e → NoRow form_line (codes "form") text e
form_unnamed text Memory n = tt
form_unnamed text Shape n = λ row h. n row.name (words_text (map core_place_text row.places)) h.spelled.0 (words_stop (map core_place_text row.places)) (same_after (codes "form") text (words_text (row.name ∷ map core_place_text row.places)) h.line)
form_unnamed text (TooDeep depth) n = n

pub form_refused : (text name rest : List ℕ) (e : RowError) → IsNameRead text name rest → PlacesRefused rest e → NoRow form_line (codes "form") text e
form_refused text name rest Memory r n = tt
form_refused text name rest Shape r n = λ row h.
    n row.places (record {
      parts = second_word (codes "form") text name rest row.name (map core_place_text row.places) r h.line (name_space row.name h.spelled.0);
      named = h.spelled.1;
    })
form_refused text name rest (TooDeep depth) r n = n
