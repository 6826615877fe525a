-- Bodies behind `to`.
use Rattle.std.proofs.Common.{◌≡◌, ℕ, zero, suc, ◌+◌, ◌≤◌, Bool, true, false, List, [], ◌∷◌, ◌++◌, length, take, drop, Result, Ok, Err, refl, sym, ap, subst, ◌∙◌, arith}
use Rattle.std.specs.Prelude.{MatchResult, codes}
use Rattle.std.specs.List.{repeat}
use Rattle.std.proofs.lemmas.List.{take-append-drop}
use Rattle.sx_lines.specs.Bytes.{is_blank}
use Rattle.sx_directives.specs.Parts.{AllBlank, IsBlankFront, NoBlankFirst}
use Rattle.sx_directives.specs.Spelling.{NoneIs, IsTextOf}
use Rattle.sx_directives.specs.Rows.{BeginsBlank, Follows, IsToBody, IsBodyText, IsToCut, IsRowOf}
use Rattle.sx_directives.specs.Rows.{row_word}
use Rattle.sx_directives.specs.declared.row_error.RowError.{RowError}
use Rattle.sx_directives.specs.declared.row.Row.{Row}
use Rattle.sx_directives.specs.declared.row.Row.TheVariants.{To as ToRow}
use Rattle.sx_directives.specs.declared.keyword.Keyword.{Keyword}
use Rattle.sx_directives.specs.declared.keyword.Keyword.TheVariants.{To}
use Rattle.sx_directives.proofs.SpellingLaws.{none_of}

tail_same : (a b : ℕ) (x y : List ℕ) → a ∷ x ≡ b ∷ y → x ≡ y
tail_same a b x y e = cc

head_same : (a b : ℕ) (x y : List ℕ) → a ∷ x ≡ b ∷ y → a ≡ b
head_same a b x y e = cc

clash : (b : Bool) → b ≡ true → b ≡ false → ⊥
clash true e f = cc
clash false e f = cc

-- two ways to cut the blanks off a text's front are one
one_front : (a b x y : List ℕ) → AllBlank a → AllBlank b → NoBlankFirst x → NoBlankFirst y → a ++ x ≡ b ++ y → (length a ≡ length b) × (x ≡ y)
one_front [] [] x y h k s t e = (refl, e)
one_front [] (c ∷ b) x y h k s t e = absurd (clash (is_blank c) k.0 (subst NoBlankFirst e s))
one_front (c ∷ a) [] x y h k s t e = absurd (clash (is_blank c) h.0 (subst NoBlankFirst (sym e) t))
one_front (c ∷ a) (d ∷ b) x y h k s t e =
    let w = one_front a b x y h.1 k.1 s t (tail_same c d (a ++ x) (b ++ y) e) in
    (ap suc w.0, w.1)

-- behind its blanks the text of a cut goes on with `to`
behind : (text word rest : List ℕ) (at n : ℕ) → IsBlankFront text at → word ≡ drop at text → IsToCut text n rest → word ≡ codes "to" ++ rest
behind text word rest at n f e c =
    (one_front (take at text) c.blanks word (codes "to" ++ rest) f.blanks c.blank (subst NoBlankFirst (sym e) f.starts) refl
    (ap (λ (x : List ℕ). take at text ++ x) e ∙ take-append-drop at text ∙ c.text_is)).1

-- a text is cut in one way
pub one_cut : (text x y : List ℕ) (n m : ℕ) → IsToCut text n x → IsToCut text m y → (n ≡ m) × (x ≡ y)
one_cut text x y n m c d =
    let w = one_front c.blanks d.blanks (codes "to" ++ x) (codes "to" ++ y) c.blank d.blank refl refl (sym c.text_is ∙ d.text_is) in
    (c.at_is ∙ ap (λ (k : ℕ). k + 2) w.0 ∙ sym d.at_is, tail_same 111 111 x y (tail_same 116 116 (111 ∷ x) (111 ∷ y) w.1))

-- a line has one body
pub one_body : (text x y : List ℕ) → IsToBody text x → IsToBody text y → x ≡ y
one_body text x y h k =
    let w = one_cut text h.1 k.1 h.0 k.0 h.2 k.2 in
    h.3 ∙ ap (λ (n : ℕ). repeat n (codes " ") ++ h.1) w.0 ∙ ap (λ (z : List ℕ). repeat k.0 (codes " ") ++ z) w.1 ∙ sym k.3

length_take : (text : List ℕ) (at : ℕ) → at ≤ length text → length (take at text) ≡ at
length_take text zero le = refl
length_take [] (suc at) le = absurd (omega arith)
length_take (b ∷ text) (suc at) le = ap suc (length_take text at (omega arith))

pub cut_here : (text word body : List ℕ) (at : ℕ) → IsBlankFront text at → word ≡ drop at text → word ≡ codes "to" ++ body → BeginsBlank body → IsToCut text (at + 2) body
cut_here text word body at f e g begins = record {
  blanks = take at text;
  text_is = sym (take-append-drop at text) ∙ ap (λ (x : List ℕ). take at text ++ x) (sym e ∙ g);
  blank = f.blanks;
  begins = begins;
  at_is = ap (λ (n : ℕ). n + 2) (sym (length_take text at f.inside));
}

-- where a text is cut it has a body
pub cut_body : (text rest : List ℕ) (at : ℕ) → IsToCut text at rest → (body : List ℕ) × IsToBody text body
cut_body text rest at c = (repeat at (codes " ") ++ rest, (at, rest, c, refl))

pub no_word : (text word : List ℕ) (at : ℕ) → IsBlankFront text at → word ≡ drop at text → ((rest : List ℕ) → word ≡ codes "to" ++ rest → ⊥) → (body : List ℕ) → IsToBody text body → ⊥
no_word text word at f e n body h = n h.1 (behind text word h.1 at h.0 f e h.2)

pub no_blank : (text word rest : List ℕ) (at : ℕ) → IsBlankFront text at → word ≡ drop at text → word ≡ codes "to" ++ rest → (BeginsBlank rest → ⊥) → (body : List ℕ) → IsToBody text body → ⊥
no_blank text word rest at f e g n body h =
    let same : codes "to" ++ h.1 ≡ codes "to" ++ rest = sym (behind text word h.1 at h.0 f e h.2) ∙ g in
    n (subst BeginsBlank (tail_same 111 111 h.1 rest (tail_same 116 116 (111 ∷ h.1) (111 ∷ rest) same)) h.2.begins)

-- what a text says of the body behind spaces
pub body_text : (text all rest : List ℕ) (at : ℕ) (r : Result (List ℕ) RowError) → IsToCut text at rest → all ≡ repeat at (codes " ") ++ rest
    → MatchResult r (IsTextOf all) (NoneIs (IsTextOf all)) → MatchResult r (IsBodyText text) (NoneIs (IsBodyText text))
body_text text all rest at (Ok t) c e h = ((at, rest, c, sym h.0 ∙ e), h.1)
body_text text all rest at (Err x) c e h =
    none_of (IsTextOf all) (IsBodyText text) x (λ y b. (y, (one_body text all y (at, rest, c, e) b.0, b.1))) h

abbrev is_to : Keyword → Type 0
is_to To = Unit {0}
is_to _ = ⊥

body_in : (text : List ℕ) (parts : List (List ℕ)) (r : Row) → To ≡ row_word r → Follows text parts r → (body : List ℕ) × IsBodyText text body
body_in text parts (ToRow body) e h = (body, h)
body_in text parts r e h = absurd (subst is_to e tt)

pub no_to : (k : Keyword) (text : List ℕ) (parts : List (List ℕ)) (e : RowError) → k ≡ To → NoneIs (IsBodyText text) e → NoneIs (IsRowOf k text parts) e
no_to k text parts e is n = none_of (IsBodyText text) (IsRowOf k text parts) e (λ r h. body_in text parts r (sym is ∙ h.word) h.follows) n
