-- The lines that are kept.
use Rattle.std.proofs.Common.{◌≡◌, ℕ, ◌+◌, ◌<◌, ◌≤◌, Bool, true, false, cond, eqb, List, [], ◌∷◌, length, get_or, drop, Option, Some, None, refl, sym, ap, ◌∙◌, arith}
use Rattle.std.specs.Prelude.{codes, is_some}
use Rattle.std.specs.Option.{option_copied}
use Rattle.std.specs.Borrow.{Bor}
use Rattle.std.proofs.lemmas.List.{drop_more, drop_all}
use Rattle.std.proofs.lemmas.Bool.Decides.{nat_tests}
use Rattle.sx_lines.specs.Bytes.{is_blank}
use Rattle.sx_lines.specs.Lines.{Lines, over, line}
use Rattle.sx_lines.specs.Words.{after}
use Rattle.sx_directives.specs.Parts.{parts_of, begun_part, part_with_byte}
use Rattle.sx_outline.specs.Known.{is_dropped, kept_lines}

-- ---- the front of a line

parts_skip : (b : ℕ) (text : List ℕ) → is_blank b ≡ true → parts_of (b ∷ text) ≡ parts_of text
unfolding parts_of
parts_skip b text t = rw t refl

parts_begin : (b : ℕ) (text : List ℕ) → is_blank b ≡ false → parts_of (b ∷ text) ≡ begun_part b text (parts_of text)
unfolding parts_of
parts_begin b text t = rw t refl

no_parts : parts_of [] ≡ []
unfolding parts_of
no_parts = refl

-- a blank at the front is passed over
pub blank_off : (text : List ℕ) (at : ℕ) → at < length text → is_blank (get_or text at 0) ≡ true → parts_of (drop at text) ≡ parts_of text → parts_of (drop (at + 1) text) ≡ parts_of text
blank_off text at lt t so_far = sym (parts_skip (get_or text at 0) (drop (at + 1) text) t) ∙ ap parts_of (sym (drop_more text at 0 lt)) ∙ so_far

-- a line of blanks has no parts
pub all_off : (text : List ℕ) (at : ℕ) → length text ≤ at → parts_of (drop at text) ≡ parts_of text → is_dropped (parts_of text) ≡ true
all_off text at le so_far = ap is_dropped (sym so_far ∙ ap parts_of (drop_all at text le) ∙ no_parts)

-- the first part, behind a byte that is no blank
first_part : (b : ℕ) (text : List ℕ) → is_blank b ≡ false → (tail : List ℕ) × (parts : List (List ℕ)) × (parts_of (b ∷ text) ≡ (b ∷ tail) ∷ parts)
first_part b text t = by text (parts_of text) (parts_begin b text t)
  where
    behind : (parts : List (List ℕ)) → (tail : List ℕ) × (more : List (List ℕ)) × (part_with_byte b parts ≡ (b ∷ tail) ∷ more)
    behind [] = ([], [], refl)
    behind (part ∷ parts) = (part, parts, refl)

    going : (test : Bool) (parts : List (List ℕ)) → (tail : List ℕ) × (more : List (List ℕ)) × (cond test ((b ∷ []) ∷ parts) (part_with_byte b parts) ≡ (b ∷ tail) ∷ more)
    going true parts = ([], parts, refl)
    going false parts = behind parts

    by : (rest : List ℕ) (parts : List (List ℕ)) → parts_of (b ∷ text) ≡ begun_part b rest parts → (tail : List ℕ) × (more : List (List ℕ)) × (parts_of (b ∷ text) ≡ (b ∷ tail) ∷ more)
    by [] parts e = ([], parts, e)
    by (c ∷ rest) parts e = let w = going (is_blank c) parts in (w.0, w.1, e ∙ w.2)

after_two : (p q : Bool) (x y : List ℕ) → is_some (cond p (cond q (Some x) None) None) ≡ is_some (cond p (cond q (Some y) None) None)
after_two true true x y = refl
after_two true false x y = refl
after_two false q x y = refl

after_one : (p q : Bool) (x : List ℕ) → q ≡ false → is_some {T = List ℕ} (cond p None None) ≡ is_some {T = List ℕ} (cond p (cond q (Some x) None) None)
after_one true true x e = absurd cc
after_one true false x e = refl
after_one false q x e = refl

blank_no_slash : (c : ℕ) → is_blank c ≡ true → eqb c 47 ≡ false
blank_no_slash c t = grind (arith, nat_tests)

front_step : (b c : ℕ) (more : List ℕ) (parts : List (List ℕ)) (test : Bool) → is_blank c ≡ test → (test ≡ false → (tail : List ℕ) × (others : List (List ℕ)) × (parts ≡ (c ∷ tail) ∷ others))
    → is_dropped (cond test ((b ∷ []) ∷ parts) (part_with_byte b parts)) ≡ is_some (after (codes "//") (b ∷ c ∷ more))
unfolding after
front_step b c more parts true t h = after_one (eqb b 47) (eqb c 47) more (blank_no_slash c t)
front_step b c more parts false t h =
    let w = h refl in
    ap (λ z. is_dropped (part_with_byte b z)) w.2 ∙ after_two (eqb b 47) (eqb c 47) w.0 more

dropped_begun : (b : ℕ) (text : List ℕ) → is_dropped (begun_part b text (parts_of text)) ≡ is_some (after (codes "//") (b ∷ text))
unfolding after
dropped_begun b [] = refl
dropped_begun b (c ∷ more) = front_step b c more (parts_of (c ∷ more)) (is_blank c) refl (λ t. first_part c more t)

same_some : {X : Type 0} (r : Option (Bor X)) → is_some (option_copied r) ≡ is_some r
same_some None = refl
same_some (Some x) = refl

-- whether the line is dropped shows where its first byte stands that is no blank
pub front_dropped : (text rest : List ℕ) (at : ℕ) → at < length text → is_blank (get_or text at 0) ≡ false → parts_of (drop at text) ≡ parts_of text → rest ≡ drop at text
    → is_dropped (parts_of text) ≡ is_some (after (codes "//") rest)
front_dropped text rest at lt t so_far e =
    let split : drop at text ≡ get_or text at 0 ∷ drop (at + 1) text = drop_more text at 0 lt in
    ap is_dropped (sym so_far ∙ ap parts_of split ∙ parts_begin (get_or text at 0) (drop (at + 1) text) t)
    ∙ dropped_begun (get_or text at 0) (drop (at + 1) text) ∙ ap (λ x. is_some (after (codes "//") x)) (sym split ∙ sym e)

-- ---- lines

pub kept-over : (n : ℕ) (lines all : Lines) → kept_lines all ≡ kept_lines lines → lines ≡ over n → kept_lines all ≡ over n
unfolding kept_lines
kept-over n lines all so_far e = so_far ∙ ap kept_lines e

pub kept-line : (n : ℕ) (text after : List ℕ) (more lines all : Lines) → kept_lines all ≡ kept_lines lines → lines ≡ line n text after more → is_dropped (parts_of text) ≡ false → kept_lines all ≡ line n text after (kept_lines more)
unfolding kept_lines
kept-line n text after more lines all so_far e test = so_far ∙ ap kept_lines e ∙ rw test refl

pub kept-dropped : (n : ℕ) (text after : List ℕ) (more lines all : Lines) → kept_lines all ≡ kept_lines lines → lines ≡ line n text after more → is_dropped (parts_of text) ≡ true → kept_lines all ≡ kept_lines more
unfolding kept_lines
kept-dropped n text after more lines all so_far e test = so_far ∙ ap kept_lines e ∙ rw test refl

pub front_found : (text rest : List ℕ) (at : ℕ) (r : Option (Bor (List ℕ))) (b : Bool) → at < length text → is_blank (get_or text at 0) ≡ false → parts_of (drop at text) ≡ parts_of text → rest ≡ drop at text
    → option_copied r ≡ after (codes "//") rest → b ≡ is_some r → b ≡ is_dropped (parts_of text)
front_found text rest at r b lt t so_far e f g = g ∙ sym (same_some r) ∙ ap is_some f ∙ sym (front_dropped text rest at lt t so_far e)
